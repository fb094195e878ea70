use Rattle.std.proofs.Common.{◌≡◌, ◌+◌, ◌*◌, ◌%◌, ◌==◌, ◌<◌, ◌≤◌, ◌∷◌, ◌++◌, suc, List, ℕ, [], length, cond, subst, sym, arith, rules}
use Rattle.std.proofs.Math.Nat.{mul-le-mul_right}
use Rattle.nb_core.proofs.Theorems.{top_complete}
use Rattle.nb_core.specs.Plans.{size_of}
use Rattle.nb_copy.specs.Copying.{HasCopied}
use Rattle.nb_copy.specs.Handing.{looks_of, slot_steps, walk_steps}
use Rattle.nb_copy.proofs.Copied.{copied-none, copied-own, copied-stays, copied-within}
use Rattle.nb_copy.proofs.Counted.{copied-counting, copied-last, finished-slot, length-if}
use Rattle.nb_copy.proofs.tables.copy_all.Goals as goal
use Rattle.nb_copy.proofs.tables.copy_all.Goals.{After-is_past}

-- one look before each LOOK slots
look-bound : (n : ℕ) → looks_of n + cond (n % 64 == 0) 1 0 ≤ looks_of (n + 1)
look-bound n = grind (arith)

looks-rise : (m n : ℕ) → m ≤ n → looks_of m ≤ looks_of n
looks-rise m n less = omega (arith, less)

pub loop-i-init : goal.loop-i-init
loop-i-init c = (
  (
    [],
    copied-within 0 _ (omega arith) (copied-none c.args.chain.now c.args.g c.args.seat.now
        c.requires.own),
  ),
  λ j after below. absurd (omega (arith, below)),
)

pub is_past-requires : goal.is_past-requires
is_past-requires c = record {
  own = copied-own c.args.chain.now c.args.g c.requires.table c.requires.own c.loop-i.invariant.0.1;
}

-- what was done when it has looked
looked :
    (c : After-is_past)
    → (slots : List ℕ) × HasCopied c.args.chain.now.shape c.args.g c.args.seat.now
    c.is_past.new.seat slots 0 (length slots)
    (c.loop-i.i * (slot_steps c.args.chain.now.shape c.args.g + 2) + looks_of (c.loop-i.i + 1))
looked c =
    let so_far = c.loop-i.invariant.0 in (
      so_far.0,
      copied-within _ _ (omega (arith, look-bound c.loop-i.i))
          (copied-last c.args.chain.now c.args.g c.requires.table c.requires.own so_far.1
          c.is_past.ensures.copied),
    )

pub copy_and_count-requires-clause-own : goal.copy_and_count-requires-clause-own
copy_and_count-requires-clause-own c =
    copied-own c.args.chain.now c.args.g c.requires.table c.requires.own
    (looked (goal.at.copy_and_count-requires-clause-own c).After-is_past).1

pub copy_and_count-requires-clause-growing : goal.copy_and_count-requires-clause-growing
copy_and_count-requires-clause-growing c =
    (copied-stays c.args.chain.now c.args.g c.requires.table c.requires.own
    (looked (goal.at.copy_and_count-requires-clause-growing c).After-is_past).1).installed
    (suc c.args.g)
    c.requires.growing

pub loop-i-preserved : goal.loop-i-preserved
loop-i-preserved c =
    let chain = c.args.chain.now in
    let so_far = looked (goal.at.loop-i-preserved c).After-is_past in
    let before = copied-stays chain c.args.g c.requires.table
    (copied-own chain c.args.g c.requires.table c.requires.own c.loop-i.invariant.0.1)
    c.is_past.ensures.copied in
    let own = copied-own chain c.args.g c.requires.table c.requires.own so_far.1 in
    let within : c.loop-i.i < size_of chain.shape c.args.g = search rules in (
      (
        cond c.copy_and_count.result (c.loop-i.i ∷ []) [] ++ so_far.0,
        copied-within _ (walk_steps chain.shape c.args.g (c.loop-i.i + 1)) (omega arith)
            (copied-counting chain c.args.g c.requires.table c.requires.own so_far.1
            (length-if c.copy_and_count.result c.loop-i.i)
            c.copy_and_count.ensures.copied),
      ),
      finished-slot chain c.args.g c.requires.table 0 c.loop-i.i own within
          (λ j from below. before.finished c.args.g j
          (c.requires.table, omega (arith, below, within)) (c.loop-i.invariant.1 j from below))
          c.copy_and_count.ensures.copied
          c.copy_and_count.ensures.finished,
    )

-- ---- where the top word was found past the table

pub returns-then-is_past-clause-copied : goal.returns-then-is_past-clause-copied
returns-then-is_past-clause-copied c =
    let so_far = looked (goal.at.returns-then-is_past-clause-copied c).After-is_past in
    let p = c.args.chain.now.shape in
    let within : c.loop-i.i < size_of p c.args.g = search rules in
    let slots = mul-le-mul_right (slot_steps p c.args.g + 2)
    (let less : c.loop-i.i ≤ size_of p c.args.g = omega (arith, within) in less) in
    let looks = looks-rise (c.loop-i.i + 1) (size_of p c.args.g) (omega (arith, within)) in
    (so_far.0, copied-within _ _ (omega (arith, slots, looks)) so_far.1)

pub returns-then-is_past-clause-complete : goal.returns-then-is_past-clause-complete
returns-then-is_past-clause-complete c =
    let chain = c.args.chain.now in
    let so_far = looked (goal.at.returns-then-is_past-clause-complete c).After-is_past in
    let own = copied-own chain c.args.g c.requires.table c.requires.own so_far.1 in
    let past = c.is_past.ensures.past (search (rules, c.if-is_past.true)) in
    (top_complete chain.shape own.plan c.is_past.new.seat.seen own.legal c.args.g past).1

-- ---- at the end of the table

pub returns-clause-copied : goal.returns-clause-copied
returns-clause-copied c =
    let end : c.loop-i.i ≡ size_of c.args.chain.now.shape c.args.g = search rules in
    subst
    (λ i. (slots : List ℕ)
    × HasCopied c.args.chain.now.shape c.args.g c.args.seat.now c.loop-i.seat slots 0 (length slots)
    (walk_steps c.args.chain.now.shape c.args.g i))
    end c.loop-i.invariant.0

pub returns-clause-complete : goal.returns-clause-complete
returns-clause-complete c =
    let end : c.loop-i.i ≡ size_of c.args.chain.now.shape c.args.g = search rules in
    λ i below. c.loop-i.invariant.1 i (omega arith) (subst (λ n. i < n) (sym end) below)
