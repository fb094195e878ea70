use Rattle.std.proofs.Common.{◌≡◌, ◌+◌, None, false, true, suc, add-one, refl, subst, sym, arith, rules}
use Rattle.std.proofs.lemmas.Nat.{pow_pos}
use Rattle.nb_core.specs.Plans.{generations_of, size_of}
use Rattle.nb_core.specs.Tables.{IsInstalled}
use Rattle.nb_core.specs.declared.calls.Call.TheVariants as call
use Rattle.nb_table.specs.Chains.{seen_by}
use Rattle.nb_map.specs.Walks.{HasPassed}
use Rattle.nb_map.specs.declared.steps.walk.Place.TheVariants.{Slot, End}
use Rattle.nb_map.proofs.Made.{made-none, made-quiet, made-within}
use Rattle.nb_map.proofs.Searched.{table-within}
use Rattle.nb_map.proofs.Walked.{passed-end, passed-next, passed-still}
use Rattle.nb_table.proofs.Theorems.{steps_add_up}
use Rattle.nb_map.proofs.steps.walk.place_from.Goals as goal

pub returns-then-i-size_of-clause-made : goal.returns-then-i-size_of-clause-made
returns-then-i-size_of-clause-made c = λ k.
    made-within 0 1 (omega arith) (made-none c.args.chain.now (call.Get k)
    c.args.seat.now c.requires.own)

pub returns-then-i-size_of-clause-passed : goal.returns-then-i-size_of-clause-passed
returns-then-i-size_of-clause-passed c = λ first. passed-still c.args.chain.now.shape first
    (Slot c.args.g c.args.i)

pub returns-then-g-generations-clause-made : goal.returns-then-g-generations-clause-made
returns-then-g-generations-clause-made c = λ k.
    made-within 0 1 (omega arith) (made-none c.args.chain.now (call.Get k)
    c.args.seat.now c.requires.own)

pub returns-then-g-generations-clause-passed : goal.returns-then-g-generations-clause-passed
returns-then-g-generations-clause-passed c = λ first.
    let chain = c.args.chain.now in
    let p = chain.shape in
    let seat = c.args.seat.now in
    let end : size_of p c.args.g ≡ c.args.i = search rules in
    let last : c.args.g + 1 ≡ generations_of p = search rules in
    let none : IsInstalled (seen_by p seat) (suc c.args.g) → ⊥ =
    λ next. let within = table-within chain seat c.requires.own (suc c.args.g) next in
    absurd (omega (arith, within, last)) in
    subst (λ i. HasPassed p seat seat first (Slot c.args.g i) End None) end
    (passed-end chain c.requires.own first c.args.g none)

pub returns-then-load_next-clause-made : goal.returns-then-load_next-clause-made
returns-then-load_next-clause-made c = λ k. made-quiet c.args.chain.now.shape (call.Get k)
    c.load_next.ensures.grows

pub returns-then-load_next-clause-passed : goal.returns-then-load_next-clause-passed
returns-then-load_next-clause-passed c = λ first.
    let chain = c.args.chain.now in
    let p = chain.shape in
    let end : size_of p c.args.g ≡ c.args.i = search rules in
    let own = steps_add_up.own c.requires.own (steps_add_up.one c.load_next.ensures.grows) in
    subst (λ i. HasPassed p c.args.seat.now c.load_next.new.seat first (Slot c.args.g i)
    (Slot (c.args.g + 1) 0) None) end
    (passed-next chain own first c.args.g)

pub returns-then-load_next-clause-place : goal.returns-then-load_next-clause-place
returns-then-load_next-clause-place c = λ first from.
    let p = c.args.chain.now.shape in (
      omega (arith, from),
      subst (IsInstalled (seen_by p c.load_next.new.seat)) (sym (add-one c.args.g))
          (c.if-load_next.ensures.installed.0 refl),
      pow_pos _,
    )

pub returns-else-load_next-clause-made : goal.returns-else-load_next-clause-made
returns-else-load_next-clause-made c = λ k. made-quiet c.args.chain.now.shape (call.Get k)
    c.load_next.ensures.grows

pub returns-else-load_next-clause-passed : goal.returns-else-load_next-clause-passed
returns-else-load_next-clause-passed c = λ first.
    let chain = c.args.chain.now in
    let p = chain.shape in
    let end : size_of p c.args.g ≡ c.args.i = search rules in
    let own = steps_add_up.own c.requires.own (steps_add_up.one c.load_next.ensures.grows) in
    let none : IsInstalled (seen_by p c.load_next.new.seat) (suc c.args.g) → ⊥ =
    λ next. let both : false ≡ true = c.if-load_next.ensures.installed.1 next in absurd cc in
    subst (λ i. HasPassed p c.args.seat.now c.load_next.new.seat first (Slot c.args.g i) End None)
    end (passed-end chain own first c.args.g none)
