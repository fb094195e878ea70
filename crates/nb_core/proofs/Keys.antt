-- The keys of the map and their numbers are of their ranges, so there are only so many keys.
use Rattle.std.proofs.Common.{◌≡◌, ◌∙◌, ℕ, ◌+◌, ◌<◌, ◌≤◌, suc, ap, sym, subst, refl, Bool, true, false, cond, ◌&&◌, eqb, ltb, List, [], ◌∷◌, length, Option, Some, T, arith}
use Rattle.std.specs.FinMap as map
use Rattle.std.specs.FinMap.{find, is_sorted}
use Rattle.std.specs.FinMap.Entries.{below_all}
use Rattle.std.specs.Ordering.{is_lt, nat_cmp}
use Rattle.std.specs.declared.cmp.Ordering.TheVariants.{Less, Equal, Greater}
use Rattle.std.proofs.lemmas.Bool.{eq-eqb, eqb-true, ltb-true, ne_eqb}
use Rattle.nb_core.specs.Plans.{Plan}
use Rattle.nb_core.specs.States.{IsValueState}
use Rattle.nb_core.specs.History.{IsCallInRange, IsLegal, key_of_call, map_of}
use Rattle.nb_core.specs.Laws.{FewKeys, MapInRange}
use Rattle.nb_core.proofs.Computed.{number_at, number_at_map, number_left, same_key}
use Rattle.nb_core.specs.declared.numbers.TheConstants.{KEY_MAX, VALUE_MAX}
use Rattle.nb_core.specs.declared.calls.Call.{Call}
use Rattle.nb_core.specs.declared.calls.Call.TheVariants as call
use Rattle.nb_core.specs.declared.events.Event.{Event}
use Rattle.nb_core.specs.declared.events.Event.TheVariants.{Won}
use Rattle.nb_core.specs.declared.states.ValueState.{ValueState}
use Rattle.nb_core.specs.declared.states.ValueState.TheVariants.{Tombstone, Live}

-- ---- ranges

-- the key of a call that is in range is
key-range : (c : Call) → IsCallInRange c → key_of_call c ≤ KEY_MAX
key-range (call.Get k) range = range
key-range (call.Write k want change) range = range.0

-- the key and the number may be the map's
abbrev AreInRange : ℕ → ℕ → Type 0
AreInRange k n = (k ≤ KEY_MAX) × (n ≤ VALUE_MAX)

-- what an exchange leaves at its key is in range, where what stood there was
number_left-range :
    (b : ValueState) (before : Option ℕ) (k n : ℕ) → IsValueState b → k ≤ KEY_MAX
    → (before ≡ Some n → AreInRange k n)
    → number_left b before ≡ Some n → AreInRange k n
number_left-range (Live m) before k n range key old is =
    let same : m ≡ n = cc in (key, subst (λ x. x ≤ VALUE_MAX) same range)
number_left-range Tombstone before k n range key old is = absurd cc
number_left-range _ before k n range key old is = old is

-- so is what stands at each key after an exchange
number_at-range_won :
    (key : ℕ) (b : ValueState) (before : Option ℕ) (k n : ℕ) → IsValueState b → key ≤ KEY_MAX
    → (before ≡ Some n → AreInRange k n)
    → cond (eqb k key) (number_left b before) before ≡ Some n → AreInRange k n
number_at-range_won key b before k n range fits old =
    elim (eqb k key) as (λ t. eqb k key ≡ t → cond t (number_left b before) before ≡ Some n
    → AreInRange k n) [
      | true ↦ λ same. number_left-range b before k n range
          (subst (λ x. x ≤ KEY_MAX) (sym (eqb-true k key same)) fits) old
      | false ↦ λ other. old
    ] refl

-- and at any moment
number_at-range :
    (p : Plan) (h : List Event) → IsLegal p h → (k n : ℕ) → number_at h k ≡ Some n → AreInRange k n
number_at-range p [] legal k n is = absurd cc
number_at-range p (Won s g i a b c r ∷ h) legal k n is =
    let before = number_at-range p h legal.0 k n in
    number_at-range_won (key_of_call c) b (number_at h k) k n legal.1.3 (key-range c legal.1.4)
    before is
number_at-range p (e ∷ h) legal k n is = number_at-range p h legal.0 k n is

pub map_in_range : MapInRange
map_in_range p plan h legal k n is = number_at-range p h legal k n (sym (number_at_map h k) ∙ is)

-- ---- how many keys

-- of two tests that both hold, each holds
T-both : (a b : Bool) → T (a && b) → T a × T b
T-both true b holds = (tt, holds)
T-both false b holds = absurd holds

-- a number that compares below another is below it
nat_cmp-lt : (a b : ℕ) → T (is_lt (nat_cmp a b)) → a < b
nat_cmp-lt a b =
    elim (ltb a b) as (λ t. ltb a b ≡ t → T (is_lt (cond t Less (cond (eqb a b) Equal Greater)))
    → a < b) [
      | true ↦ λ less holds. ltb-true a b less
      | false ↦ λ other holds. absurd (not_less (eqb a b) holds)
    ] refl
  where
    not_less : (t : Bool) → T (is_lt (cond t Equal Greater)) → ⊥
    not_less true holds = holds
    not_less false holds = holds

-- what is found at a key in one entry more
find-more :
    (e : ℕ × ℕ) (es : List (ℕ × ℕ)) (q : ℕ)
    → find nat_cmp q (e ∷ es) ≡ cond (eqb q e.0) (Some e.1) (find nat_cmp q es)
find-more e es q = ap (λ t. cond t (Some e.1) (find nat_cmp q es)) (same_key q e.0)

-- each key that is found in entries above a key is above it
found-above :
    (k : ℕ) (es : List (ℕ × ℕ)) → T (below_all nat_cmp k es) → (q v : ℕ)
    → find nat_cmp q es ≡ Some v → k < q
found-above k [] above q v found = absurd cc
found-above k (e ∷ es) above q v found =
    let parts = T-both (is_lt (nat_cmp k e.0)) (below_all nat_cmp k es) above in
    (elim (eqb q e.0) as (λ t. eqb q e.0 ≡ t → cond t (Some e.1) (find nat_cmp q es) ≡ Some v
    → k < q) [
      | true ↦ λ here _. subst (λ x. k < x) (sym (eqb-true q e.0 here)) (nat_cmp-lt k e.0 parts.0)
      | false ↦ λ away rest. found-above k es parts.1 q v rest
    ]) refl (sym (find-more e es q) ∙ found)

-- the keys of the entries are from low on, and below most
abbrev AreBetween : List (ℕ × ℕ) → ℕ → ℕ → Type 0
AreBetween es low most = (q v : ℕ) → find nat_cmp q es ≡ Some v → (low ≤ q) × (q < most)

-- entries whose keys rise from low on, and are below most, are no more than the numbers between
few-between :
    (es : List (ℕ × ℕ)) (low most : ℕ) → low ≤ most → T (is_sorted nat_cmp es)
    → AreBetween es low most → low + length es ≤ most
few-between [] low most fits rise between = omega arith
few-between (e ∷ es) low most fits rise between =
    let parts = T-both (below_all nat_cmp e.0 es) (is_sorted nat_cmp es) rise in
    let branch = λ (q : ℕ) (t : Bool). cond t (Some e.1) (find nat_cmp q es) in
    let first : (low ≤ e.0) × (e.0 < most) =
    between e.0 e.1 (find-more e es e.0 ∙ ap (branch e.0) (eq-eqb e.0 e.0 refl)) in
    let rest : suc e.0 + length es ≤ most =
    few-between es (suc e.0) most (omega arith) parts.1 (λ q v found.
    let above = found-above e.0 es parts.0 q v found in
    let other = ne_eqb q e.0 (λ same. absurd (omega arith)) in
    (omega arith, (between q v (find-more e es q ∙ ap (branch q) other ∙ found)).1)) in
    omega arith

pub few_keys : FewKeys
few_keys p plan h legal =
    let m = map_of h in
    let between : AreBetween (map.entries m) 0 (KEY_MAX + 1) = λ q v found.
    let range = map_in_range p plan h legal q v (map.get-entries m q ∙ found) in
    (omega arith, omega (arith, range.0)) in
    omega (
      arith,
      few-between (map.entries m) 0 (KEY_MAX + 1) (omega arith) (map.entries_sorted m)
          between,
    )
