-- How a key is searched for in a table.
use Rattle.std.proofs.Common.{◌≡◌, ◌≢◌, ◌∙◌, ℕ, suc, zero, ◌+◌, ◌-◌, ◌^◌, ◌==◌, ◌&&◌, ◌≤◌, ◌<◌, ◌⊎◌, Bool, true, false, not, cond, List, [], Option, Some, None, ap, sym, subst, refl, inl, inr, below_more, arith}
use Rattle.std.proofs.lemmas.Bool.{eq-eqb, ne_eqb}
use Rattle.std.proofs.Math.Pow.{pow_mono}
use Rattle.std.proofs.lemmas.List.Elements.{All-get_or}
use Rattle.std.proofs.lemmas.List.{append-nil}
use Rattle.nb_core.specs.Calls.{leaves_alone}
use Rattle.nb_core.specs.History.{key_of_call}
use Rattle.nb_core.specs.Tables.{AtSlot, IsPassed, AreOthers, IsComplete, IsFinished, IsInstalled, IsOnPath, IsOther, IsReady, IsSlot, IsUnprimed, Tables, UpToDead, path_slot}
use Rattle.nb_core.specs.Laws.{Lasts}
use Rattle.nb_core.specs.Plans.{IsPlan, Plan, generations_of, size_of}
use Rattle.nb_core.specs.declared.calls.Call.{Call}
use Rattle.nb_core.specs.declared.calls.Reply.{Reply}
use Rattle.nb_core.specs.declared.states.KeyState.TheVariants.{Claimed, Dead}
use Rattle.nb_core.specs.declared.states.ValueState.{ValueState}
use Rattle.nb_table.specs.Chains.{ChainOf, Extended, IsOwn, SeenBy, seen_by}
use Rattle.nb_table.specs.Conditions.{IsReached}
use Rattle.nb_table.specs.Events.{is_last_slot, read, shown_by_key}
use Rattle.nb_map.specs.Logs.{as_replied}
use Rattle.nb_map.proofs.Made.{made-more, made-read, made-within, read_shown}
use Rattle.nb_map.specs.Calling.{HasMade}
use Rattle.nb_map.specs.inside.Climbing.{IsAbove}
use Rattle.nb_map.specs.inside.Reading.{IsClosedTo, read_of}
use Rattle.nb_core.proofs.Theorems.{complete_passed, linked, paths_are_distinct, top_complete}

-- a table that is there is one of the plan's
pub table-within :
    (chain : ChainOf) (seat : SeenBy) → IsOwn chain seat → (g : ℕ)
    → IsInstalled (seen_by chain.shape seat) g → g < generations_of chain.shape
table-within chain seat own g installed =
    (linked chain.shape own.plan seat.seen own.legal).within g installed

-- a table with a closed slot has a next one
pub dead-next :
    (chain : ChainOf) (seat : SeenBy) → IsOwn chain seat → (g i : ℕ) → IsSlot chain.shape g i
    → (seen_by chain.shape seat).key g i ≡ Dead → IsInstalled (seen_by chain.shape seat) (suc g)
dead-next chain seat own g i slot dead =
    (linked chain.shape own.plan seat.seen own.legal).dead g i slot dead

-- a table with a primed value has a next one
pub primed-next :
    (chain : ChainOf) (seat : SeenBy) → IsOwn chain seat → (g i : ℕ) → IsSlot chain.shape g i
    → (value : ValueState) → (seen_by chain.shape seat).value g i ≡ value → (IsUnprimed value → ⊥)
    → IsInstalled (seen_by chain.shape seat) (suc g)
primed-next chain seat own g i slot value is primed =
    elim ((linked chain.shape own.plan seat.seen own.legal).primed g i slot) [
      | inl unprimed ↦ absurd (primed (subst IsUnprimed is unprimed))
      | inr next ↦ next
    ]

-- a key whose slot is finished is passed
pub finished-passed :
    (p : Plan) (t : Tables) (g i k : ℕ) → i < size_of p g → t.key g i ≡ Claimed k → IsFinished t g i
    → IsPassed p t g k
finished-passed p t g i k slot claimed finished = elim finished [
  | inl dead ↦ absurd (let both : Claimed k ≡ Dead = sym claimed ∙ dead in cc)
  | inr final ↦ AtSlot i slot claimed final
]

-- a search that came to a table may go on there
pub reached-lasts :
    (p : Plan) (t u : Tables) → Lasts p t u → (g k : ℕ) → g < generations_of p → IsReached p t g k
    → IsReached p u g k
reached-lasts p t u lasting g k table reached = record {
  installed = lasting.installed g reached.installed;
  below = λ f below. lasting.passed f k (omega (arith, table, below)) (reached.below f below);
}

-- a search may begin in any table up to the top
pub reached-up-to :
    (chain : ChainOf) (seat : SeenBy) → IsOwn chain seat
    → (k g : ℕ) → g ≤ (seen_by chain.shape seat).top
    → IsReached chain.shape (seen_by chain.shape seat) g k
reached-up-to chain seat own k g low = record {
  installed = there g low;
  below = λ f lower.
      let complete = top_complete chain.shape own.plan seat.seen own.legal f (omega (arith, low, lower))
      in
      complete_passed chain.shape own.plan seat.seen own.legal f k complete.0 complete.1;
}
  where
    there : (g : ℕ) → g ≤ (seen_by chain.shape seat).top → IsInstalled (seen_by chain.shape seat) g
    there zero low = tt
    there (suc g) low =
        let complete = top_complete chain.shape own.plan seat.seen own.legal g (omega (arith, low)) in
        (linked chain.shape own.plan seat.seen own.legal).complete g complete.0 complete.1

-- all tables below the top are complete
pub complete-below :
    (chain : ChainOf) (seat : SeenBy) → IsOwn chain seat → (top : ℕ)
    → (seen_by chain.shape seat).top ≡ top → (g : ℕ) → g < top
    → IsComplete chain.shape (seen_by chain.shape seat) g
complete-below chain seat own top is g below =
    (top_complete chain.shape own.plan seat.seen own.legal g (omega (arith, is, below))).1

-- so the one just below such a table is complete, if there is one
pub ready-up-to :
    (chain : ChainOf) (seat : SeenBy) → IsOwn chain seat → (g : ℕ)
    → g ≤ (seen_by chain.shape seat).top → IsReady chain.shape (seen_by chain.shape seat) g
ready-up-to chain seat own zero low = tt
ready-up-to chain seat own (suc g) low =
    complete-below chain seat own (seen_by chain.shape seat).top refl g (omega (arith, low))

-- it goes on above where the key's path is closed
pub closed-above :
    (p : Plan) (t : Tables) (g k : ℕ) → IsClosedTo p t g k → IsInstalled t (suc g) → IsAbove p t g k
closed-above p t g k closed next = (UpToDead closed.0 closed.1 closed.2 closed.3, next)

-- and go on in the next table
pub reached-above :
    (p : Plan) (t : Tables) (g k : ℕ) → IsReached p t g k → IsAbove p t g k
    → IsReached p t (suc g) k
reached-above p t g k reached above = record {
  installed = above.1;
  below = λ f low. elim (lower-or-same f g low) [
    | inl lower ↦ reached.below f lower
    | inr same ↦ subst (λ i. IsPassed p t i k) (sym same) above.0
  ];
}
  where
    lower-or-same : (a b : ℕ) → a < suc b → (a < b) ⊎ (a ≡ b)
    lower-or-same a b low = grind (arith, low)

-- the read that a walk was which has come so far: one where it went to the end of the last table
abbrev pub read_up_to : Plan → ℕ → Call → ℕ → List (Call × Reply)
read_up_to p g call d = cond (suc g == generations_of p && d == size_of p g) (read_of call None) []

cond-none : (b : Bool) → cond {A = List (Call × Reply)} b [] [] ≡ []
cond-none true = refl
cond-none false = refl

-- none before the end
pub read-before :
    (p : Plan) (g : ℕ) (call : Call) (d : ℕ) → d < size_of p g → read_up_to p g call d ≡ []
read-before p g call d near = one (suc g == generations_of p)
    (ne_eqb d (size_of p g) (λ e. omega (arith, e, near)))
  where
    one : (b : Bool) → (d == size_of p g) ≡ false
        → cond (b && d == size_of p g) (read_of call None) [] ≡ []
    one true not_end = ap (λ x. cond x (read_of call None) []) not_end
    one false not_end = refl

-- nor for a walk that goes on from a slot, which is no read
pub read-start :
    (p : Plan) (g : ℕ) (call : Call) (from : ℕ) → (from < size_of p g)
    ⊎ (leaves_alone call None ≡ false) → read_up_to p g call from ≡ []
read-start p g call from start = elim start [
  | inl near ↦ read-before p g call from near
  | inr acts ↦
      ap (λ b. cond (suc g == generations_of p && from == size_of p g)
      (cond b (as_replied call None) []) []) acts
      ∙ cond-none (suc g == generations_of p && from == size_of p g)
]

-- at the end, what the walk was
pub read-end :
    (p : Plan) (g : ℕ) (call : Call) (d : ℕ) → d ≡ size_of p g
    → read_up_to p g call d ≡ cond (suc g == generations_of p) (read_of call None) []
read-end p g call d end =
    ap (λ b. cond (suc g == generations_of p && b) (read_of call None) [])
    (eq-eqb d (size_of p g) end) ∙ one (suc g == generations_of p)
  where
    one : (b : Bool) → cond (b && true) (read_of call None) [] ≡ cond b (read_of call None) []
    one true = refl
    one false = refl

-- a key's own slot shows nothing
pub shown-own :
    (p : Plan) (g i k key other : ℕ) → k ≡ key → true ≡ (other == key)
    → shown_by_key p g i (Claimed other) k ≡ None
shown-own p g i k key other is same =
    ap (λ n. cond (not (other == n) && is_last_slot p g i k) (Some None) None) is
    ∙ ap (λ b. cond (not b && is_last_slot p g i k) (Some None) None) (sym same)

-- a table is not the last one
pub not-last :
    (p : Plan) (g : ℕ) {tables : ℕ} → tables ≡ generations_of p → (g + 1 ≡ tables → ⊥)
    → (suc g == generations_of p) ≡ false
not-last p g is more = ne_eqb (suc g) (generations_of p) (λ e. more (omega (arith, e, is)))

-- what was made under a condition, which didn't hold
pub made-unless :
    {p : Plan} {call : Call} {before after : SeenBy} (made : List (Call × Reply)) (b : Bool)
    (most most' : ℕ) → b ≡ false → most ≤ most'
    → HasMade p call before after (cond b made []) most → HasMade p call before after [] most'
made-unless {p} {call} {before} {after} made b most most' is below steps =
    made-within most most' below (subst (λ x. HasMade p call before after (cond x made []) most)
    is steps)

-- what a call reads that leaves the number alone
pub read-alone :
    (call : Call) (number : Option ℕ) → leaves_alone call number ≡ true
    → read_of call number ≡ as_replied call number
read-alone call number alone = ap (λ b. cond b (as_replied call number) []) alone

-- ---- one slot more

-- some steps after others that made no call
pub made-then :
    {chain : ChainOf} {call : Call} {before then after : SeenBy} {made : List (Call × Reply)}
    {most most' : ℕ} → IsOwn chain before
    → HasMade chain.shape call before then [] most → HasMade chain.shape call then after made most'
    → HasMade chain.shape call before after made (most + most')
made-then {chain} {call} {before} {after = after} {made} {most} {most'} own a b =
    subst (λ made. HasMade chain.shape call before after made (most + most')) (append-nil made)
    (made-more chain own a b)

module _ (chain : ChainOf) (g : ℕ) (table : g < generations_of chain.shape) where
  abbrev p : Plan
  p = chain.shape

  -- the slot at a distance is the last one of the path just where the distance is the last one
  last-slot : (k d : ℕ) → d < size_of p g
      → is_last_slot p g (path_slot p g k d) k ≡ (suc g == generations_of p && d + 1 == size_of p g)
  last-slot k d near = ap (λ b. suc g == generations_of p && b)
      (elim (end-or-not (d + 1) (size_of p g)) [
        | inl end ↦
            let at : size_of p g - 1 ≡ d = omega (arith, end) in
            eq-eqb (path_slot p g k (size_of p g - 1)) (path_slot p g k d) (ap (path_slot p g k) at)
            ∙ sym (eq-eqb (d + 1) (size_of p g) end)
        | inr more ↦
            ne_eqb (path_slot p g k (size_of p g - 1)) (path_slot p g k d)
            (λ same.
            let at = paths_are_distinct p g k (size_of p g - 1) d (omega (arith, near)) near same in
            more (omega (arith, at, near)))
            ∙ sym (ne_eqb (d + 1) (size_of p g) more)
      ])
    where
      end-or-not : (a b : ℕ) → (a ≡ b) ⊎ (a ≢ b)
      end-or-not a b = grind arith

  -- what a slot of another key shows is what the walk has read once it is behind it
  pub shown-other :
      (call : Call) (d other : ℕ) → d < size_of p g → other ≢ key_of_call call
      → read_shown call (shown_by_key p g (path_slot p g (key_of_call call) d) (Claimed other)
      (key_of_call call)) ≡ read_up_to p g call (d + 1)
  shown-other call d other near differs =
      let k = key_of_call call in
      ap (λ b. read_shown call (cond (not b && is_last_slot p g (path_slot p g k d) k) (Some None)
      None)) (ne_eqb other k differs)
      ∙ ap (λ b. read_shown call (cond b (Some None) None)) (last-slot k d near)
      ∙ one (suc g == generations_of p && d + 1 == size_of p g)
    where
      one : (b : Bool) → read_shown call (cond b (Some None) None) ≡ cond b (read_of call None) []
      one true = refl
      one false = refl

  -- a look at the next slot of the path
  pub walked :
      {call : Call} {start before after : SeenBy} (d from : ℕ) (shown : Option (Option ℕ))
      → d < size_of p g → from ≤ d → IsOwn chain start
      → HasMade p call start before (read_up_to p g call d) (d - from)
      → Extended p before after (read before.number call shown) 1
      → HasMade p call start after (read_shown call shown) (d + 1 - from)
  walked {call} {start} {before} {after} d from shown near ahead own so_far load =
      made-within (d - from + 1) (d + 1 - from) (omega (arith, ahead))
      (made-then own (subst (λ made. HasMade p call start before made (d - from))
      (read-before p g call d near) so_far) (made-read p call shown load))

  -- a look at a slot of another key
  pub walked-on :
      {call : Call} {start before after : SeenBy} (d from i k other : ℕ) → d < size_of p g
      → from ≤ d → IsOwn chain start
      → key_of_call call ≡ k → path_slot p g k d ≡ i → other ≢ k
      → HasMade p call start before (read_up_to p g call d) (d - from)
      → Extended p before after (read before.number call
      (shown_by_key p g i (Claimed other) (key_of_call call))) 1
      → HasMade p call start after (read_up_to p g call (d + 1)) (d + 1 - from)
  walked-on {call} {start} {before} {after} d from i k other near ahead own key at differs so_far
      load =
      let at' : path_slot p g (key_of_call call) d ≡ i = ap (λ k. path_slot p g k d) key ∙ at in
      let shown = shown-other call d other near (λ e. differs (e ∙ key)) in
      subst (λ made. HasMade p call start after made (d + 1 - from)) shown
      (walked d from _ near ahead own so_far
      (subst (λ j. Extended p before after
      (read before.number call (shown_by_key p g j (Claimed other) (key_of_call call)))
      1) (sym at') load))

-- ---- what was seen

-- a table has more than two slots
pub three-slots : (p : Plan) → IsPlan p → (g : ℕ) → g < generations_of p → 2 < size_of p g
three-slots p plan g table =
    let most : 2 ^ 2 ≤ size_of p g = pow_mono
    (All-get_or (λ e. (2 ≤ e) × (e ≤ 28)) p.exponents g 0 table plan.sizes).0 in
    omega (arith, most)

-- so it has more than one
pub two-slots : (p : Plan) → IsPlan p → (g : ℕ) → g < generations_of p → 1 < size_of p g
two-slots p plan g table = omega (arith, three-slots p plan g table)

-- and no more than a table may have
pub slots-few : (p : Plan) → IsPlan p → (g : ℕ) → g < generations_of p → size_of p g ≤ 2 ^ 28
slots-few p plan g table =
    pow_mono (All-get_or (λ e. (2 ≤ e) × (e ≤ 28)) p.exponents g 0 table plan.sizes).1

-- the slot lies on the key's path, behind slots of other keys
pub on-path :
    (p : Plan) (t : Tables) (g k i d key : ℕ) → k ≡ key → d < size_of p g → path_slot p g key d ≡ i
    → AreOthers p t g key d
    → IsOnPath p t g i k
on-path p t g k i d key is near at others = record {
  distance = d;
  in_table = near;
  at = ap (λ n. path_slot p g n d) is ∙ at;
  passed = subst (λ n. AreOthers p t g n d) (sym is) others;
}

-- nothing is asked of the slots before a path's first one
pub others-none : (p : Plan) (t : Tables) (g key : ℕ) → AreOthers p t g key 0
others-none p t g key e before = absurd (omega (arith, before))

-- another key has the next slot of a key's path too
pub others-more :
    (p : Plan) (t u : Tables) → Lasts p t u → (g key d i other : ℕ) → g < generations_of p
    → AreOthers p t g key d → path_slot p g key d ≡ i
    → u.key g i ≡ Claimed other → other ≢ key → AreOthers p u g key (d + 1)
others-more p t u lasting g key d i other table others at is differs =
    below_more (λ e. IsOther (u.key g (path_slot p g key e)) key) d
    (lasting.others g key d table others)
    (record { other = other; is = ap (u.key g) at ∙ is; differs = differs })
