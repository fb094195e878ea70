-- Room in the next table for all keys of one that isn't complete, and what a complete table says of
-- a key.
use Rattle.std.proofs.Common.{◌≡◌, ◌≢◌, ◌∙◌, ℕ, ◌+◌, ◌-◌, ◌*◌, ◌/◌, ◌%◌, ◌<◌, ◌≤◌, ◌⊎◌, zero, suc, ap, sym, refl, subst, inl, inr, true, eqb, map, length, get_or, mod-lt, mod-eq_of_lt, arith}
use Rattle.std.proofs.Math.Nat.{add-mod-mod, add-mul-mod_self_left, div-add-mod}
use Rattle.std.proofs.lemmas.Bool.{cases_eq, cases_lt, eqb-true, ne_eqb}
use Rattle.std.proofs.lemmas.List.FromFn.{get_or-map-range_with_len, length-map-range_with_len}
use Rattle.std.proofs.lemmas.Map.Keys.{IsDistinct-from_apart}
use Rattle.std.proofs.lemmas.Map.Steps.{length-le_from_distinct_below}
use Rattle.std.proofs.lemmas.Map.Views.{Contains-from_any}
use Rattle.std.specs.List.{list_any, range_with_len}
use Rattle.nb_core.specs.Plans.{Plan, IsPlan, generations_of, size_of}
use Rattle.nb_core.specs.Tables.{AreOthers, HasSlot, IsComplete, IsFinishedValue, IsOther, Tables, path_slot, IsPassed, AtSlot, UpToDead, Whole}
use Rattle.nb_core.specs.Laws.{HasRoom}
use Rattle.nb_core.proofs.Computed.{below_suc}
use Rattle.nb_core.proofs.Sound.{IsSound, dead-unclaimed, finished-not_empty, finished-value, no_slot-past, no_slot-whole, one_key, one_slot, path_slot-is_slot}
use Rattle.nb_core.proofs.Tables.{sizes_never_fall}
use Rattle.nb_core.specs.declared.states.KeyState.{KeyState}
use Rattle.nb_core.specs.declared.states.KeyState.TheVariants.{Empty, Dead, Claimed}

-- ---- along a key's path

-- How far other keys have a key's path: for so many slots, or up to the first slot that isn't
-- another key's.
data Walk (p : Plan) (t : Tables) (g k n : ℕ) : Type 0 where
  Crowded : AreOthers p t g k n → Walk p t g k n
  ToEmpty : (d : ℕ) → d < n → AreOthers p t g k d → t.key g (path_slot p g k d) ≡ Empty
      → Walk p t g k n
  ToDead : (d : ℕ) → d < n → AreOthers p t g k d → t.key g (path_slot p g k d) ≡ Dead
      → Walk p t g k n
  ToOwn : (d : ℕ) → d < n → AreOthers p t g k d → t.key g (path_slot p g k d) ≡ Claimed k
      → Walk p t g k n

-- one slot more, where other keys have all before it
path-walk_suc :
    (p : Plan) (t : Tables) (g k n : ℕ) (s : KeyState) → AreOthers p t g k n
    → t.key g (path_slot p g k n) ≡ s → Walk p t g k (suc n)
path-walk_suc p t g k n Empty passed is = ToEmpty n (omega arith) passed is
path-walk_suc p t g k n Dead passed is = ToDead n (omega arith) passed is
path-walk_suc p t g k n (Claimed j) passed is =
    elim (cases_eq j k) [
      | inl same ↦ ToOwn n (omega arith) passed (is ∙ ap Claimed same)
      | inr differs ↦
          let other : IsOther (t.key g (path_slot p g k n)) k =
          record { other = j; is = is; differs = differs } in
          Crowded (below_suc (λ e. IsOther (t.key g (path_slot p g k e)) k) n other passed)
    ]

-- each path can be walked
path-walk : (p : Plan) (t : Tables) (g k n : ℕ) → Walk p t g k n
path-walk p t g k zero = Crowded (λ e h. absurd (omega arith))
path-walk p t g k (suc n) =
    elim (path-walk p t g k n) [
      | Crowded passed ↦ path-walk_suc p t g k n (t.key g (path_slot p g k n)) passed refl
      | ToEmpty d below passed is ↦ ToEmpty d (omega arith) passed is
      | ToDead d below passed is ↦ ToDead d (omega arith) passed is
      | ToOwn d below passed is ↦ ToOwn d (omega arith) passed is
    ]

-- round a circle of s places, each place is at some distance from any number's
reached-round : (k i s : ℕ) → i < s → (k + (i + s - k % s) % s) % s ≡ i
reached-round k i s below =
    let positive : 0 < s = omega arith in
    let rest : k % s < s = mod-lt k positive in
    let whole : k + (i + s - k % s) ≡ i + s * (k / s + 1) = omega (arith, div-add-mod k s) in
    add-mod-mod k (i + s - k % s) s ∙ ap (λ n. n % s) whole ∙ add-mul-mod_self_left i s (k / s + 1)
    ∙ mod-eq_of_lt below

-- where other keys have a key's whole path, they have each slot of the table
pub others-whole :
    (p : Plan) (t : Tables) (g k : ℕ) → AreOthers p t g k (size_of p g) → (i : ℕ) → i < size_of p g
    → IsOther (t.key g i) k
others-whole p t g k passed i below =
    let s = size_of p g in
    let away = i + s - k % s in
    subst (λ j. IsOther (t.key g j) k) (reached-round k i s below)
    (passed (away % s) (mod-lt away (omega arith)))

-- ---- how many different numbers there are

-- different numbers below m are m at most
pigeonhole :
    (n m : ℕ) (f : ℕ → ℕ) → ((i : ℕ) → i < n → f i < m) → ((i j : ℕ) → i < j → j < n → f i ≢ f j)
    → n ≤ m
pigeonhole n m f within apart =
    let xs = map f (range_with_len 0 n) in
    let count : length xs ≡ n = length-map-range_with_len f 0 n in
    let at : (i d : ℕ) → i < n → get_or xs i d ≡ f i =
    λ i d h. get_or-map-range_with_len f 0 n i i d h (omega arith) in
    let distinct = IsDistinct-from_apart eqb xs (λ i j d less below.
    ne_eqb _ _ (λ same. apart i j less (omega arith) (sym (at i d (omega arith)) ∙ same
    ∙ at j d (omega arith)))) in
    let low : (q : ℕ) → list_any (eqb q) xs ≡ true → q < m = λ q found.
    let place = Contains-from_any eqb-true q xs found in
    omega (arith, within place.0 (omega arith), at place.0 q (omega arith)) in
    omega (arith, length-le_from_distinct_below xs m distinct low)

-- one number more, after the first n
abbrev with_last : (n : ℕ) → ((i : ℕ) → i < n → ℕ) → ℕ → (i : ℕ) → (i < n) ⊎ (n ≤ i) → ℕ
with_last n f x i (inl below) = f i below
with_last n f x i (inr above) = x

-- n different numbers below m that leave out another one below m are fewer than m
module _ (n m : ℕ) (f : (i : ℕ) → i < n → ℕ) (x : ℕ) (within : (i : ℕ) (h : i < n) → f i h < m)
    (x_within : x < m) where
  -- with the other one as the last they are below m,
  last-within : (i : ℕ) (c : (i < n) ⊎ (n ≤ i)) → with_last n f x i c < m
  last-within i (inl below) = within i below
  last-within i (inr above) = x_within

  module _ (left_out : (i : ℕ) (h : i < n) → f i h ≢ x) (one : (i j : ℕ) (h : i < n) (l : j < n)
      → f i h ≡ f j l → i ≡ j) where
    -- and still different,
    last-apart :
        (i j : ℕ) (c : (i < n) ⊎ (n ≤ i)) (d : (j < n) ⊎ (n ≤ j)) → i < j → j < suc n
        → with_last n f x i c ≢ with_last n f x j d
    last-apart i j (inl h) (inl l) less _ e = let same = one i j h l e in omega arith
    last-apart i j (inl h) (inr l) less _ e = left_out i h e
    last-apart i j (inr h) (inl l) less _ e = omega arith
    last-apart i j (inr h) (inr l) less below e = omega arith

    -- so that they are fewer than m without it
    fewer : n < m
    fewer =
        pigeonhole (suc n) m (λ i. with_last n f x i (cases_lt i n))
        (λ i h. last-within i (cases_lt i n))
        (λ i j less h. last-apart i j (cases_lt i n) (cases_lt j n) less h)

-- ---- the next table has room

-- where each number below n has a property, unless something is so, each has, or it is so
each_or :
    (P : ℕ → Type 0) (Q : Type 0) (n : ℕ) → ((i : ℕ) → i < n → P i ⊎ Q) → ((i : ℕ) → i < n → P i)
    ⊎ Q
each_or P Q zero each = inl (λ i h. absurd (omega arith))
each_or P Q (suc n) each =
    elim (each n (omega arith)) [
      | inr so ↦ inr so
      | inl last ↦ elim (each_or P Q n (λ i h. each i (omega arith)))
          [ inr so ↦ inr so | inl below ↦ inl (below_suc P n last below) ]
    ]

-- a slot of the next table has another key than k, which has a slot in this table too
record IsFromBelow (p : Plan) (t : Tables) (g k i : ℕ) : Type 0 where
  key : ℕ
  slot : ℕ
  in_table : slot < size_of p g
  is : t.key g slot ≡ Claimed key
  is_above : t.key (suc g) i ≡ Claimed key
  differs : key ≢ k

module _ (p : Plan) (t : Tables) (plan : IsPlan p) (s : IsSound p t) where
  -- Beside a key's slot, a table hasn't enough slots for the keys of the next one, where that one
  -- is full of other keys.
  too_many : (g k : ℕ) → suc g < generations_of p → HasSlot p t g k
      → ((i : ℕ) → i < size_of p (suc g) → IsFromBelow p t g k i) → ⊥
  too_many g k within has from =
      let less : size_of p (suc g) < size_of p g =
      fewer (size_of p (suc g)) (size_of p g) (λ i h. (from i h).slot) has.slot
      (λ i h. (from i h).in_table) has.in_table
      (λ i h same. (from i h).differs (one_key t g g _ _ _ _ refl same (from i h).is has.is))
      (λ i j h l same.
      let key : (from i h).key ≡ (from j l).key =
      one_key t g g _ _ _ _ refl same (from i h).is (from j l).is in
      let j_is = (from j l).is_above ∙ ap Claimed (sym key) in
      one_slot p t s (suc g) i j (from i h).key (within, h) (within, l) (from i h).is_above j_is) in
      let rising : size_of p g ≤ size_of p (suc g) = sizes_never_fall p plan g within in
      omega arith

  -- Where a key has a slot in a table, and other keys have all of the next one, those didn't all
  -- come from this one: it is complete.
  pub crowded-complete_below :
      (g k : ℕ) → suc g < generations_of p → HasSlot p t g k
      → AreOthers p t (suc g) k (size_of p (suc g)) → IsComplete p t g
  crowded-complete_below g k within has passed =
      elim (each_or (IsFromBelow p t g k) (IsComplete p t g) (size_of p (suc g)) from_below) [
        | inl from ↦ absurd (too_many g k within has from)
        | inr complete ↦ complete
      ]
    where
      from_below : (i : ℕ) → i < size_of p (suc g) → IsFromBelow p t g k i ⊎ IsComplete p t g
      from_below i h =
          let o = others-whole p t (suc g) k passed i h in
          elim (s.below g o.other within (record { slot = i; in_table = h; is = o.is })) [
            | inl below ↦ inl (record {
              key = o.other;
              slot = below.slot;
              in_table = below.in_table;
              is = below.is;
              is_above = o.is;
              differs = o.differs;
            })
            | inr complete ↦ inr complete
          ]

  -- while a table isn't complete, the next one has no closed slot
  incomplete-alive :
      (g : ℕ) → suc g < generations_of p → (IsComplete p t g → ⊥) → (i : ℕ) → i < size_of p (suc g)
      → t.key (suc g) i ≢ Dead
  incomplete-alive g within not_complete i below dead =
      not_complete (s.ready g (s.dead (suc g) i (within, below) dead)).1

  -- while a table isn't complete, the next one has room for what is still to be copied
  pub incomplete-room : (g : ℕ) → suc g < generations_of p → (IsComplete p t g → ⊥) → HasRoom p t g
  incomplete-room g within not_complete = record {
    claimed = λ k above. elim (s.below g k within above)
        [ inl here ↦ here | inr complete ↦ absurd (not_complete complete) ];
    alive = incomplete-alive g within not_complete;
    free = λ k here none_above.
        let slot_at = λ (d : ℕ). path_slot-is_slot p plan (suc g) k d within in
        elim (path-walk p t (suc g) k (size_of p (suc g))) [
          | Crowded passed ↦ absurd (not_complete (crowded-complete_below g k within here passed))
          | ToEmpty d below passed empty ↦ record {
            distance = d;
            in_table = below;
            passed =
                passed;
            empty = empty;
          }
          | ToDead d below passed dead ↦ absurd
              (incomplete-alive g within not_complete (path_slot p (suc g) k d) (slot_at d).1 dead)
          | ToOwn d below passed own ↦
              absurd (none_above (record {
                slot = path_slot p (suc g) k d;
                in_table =
                    (slot_at d).1;
                is = own;
              }))
        ];
  }

-- ---- passed keys

module _ (p : Plan) (t : Tables) (plan : IsPlan p) (s : IsSound p t) (g k : ℕ)
    (within : g < generations_of p) where
  -- each key is passed in a complete table
  pub complete-passed : IsComplete p t g → IsPassed p t g k
  complete-passed complete =
      elim (path-walk p t g k (size_of p g)) [
        | Crowded passed ↦ Whole passed
        | ToEmpty d below passed empty ↦
            let i = path_slot p g k d in
            let slot = path_slot-is_slot p plan g k d within in
            absurd (finished-not_empty p t s g i slot (complete i slot.1) empty)
        | ToDead d below passed dead ↦ UpToDead d below passed dead
        | ToOwn d below passed own ↦
            let i = path_slot p g k d in
            let slot = path_slot-is_slot p plan g k d within in
            AtSlot i slot.1 own (finished-value t g i k (complete i slot.1) own)
      ]

  -- a passed key has no slot in the table, or a final value there
  pub passed-settled : IsPassed p t g k → (i : ℕ) → i < size_of p g → t.key g i ≡ Claimed k
      → IsFinishedValue (t.value g i)
  passed-settled (AtSlot j below at final) i i_below is =
      subst (λ n. IsFinishedValue (t.value g n))
      (one_slot p t s g j i k (within, below) (within, i_below) at is) final
  passed-settled (UpToDead d below passed dead) i i_below is =
      absurd (no_slot-past p t s g k d within passed (dead-unclaimed dead) i i_below is)
  passed-settled (Whole passed) i i_below is =
      absurd (no_slot-whole p t s g k within passed i i_below is)
