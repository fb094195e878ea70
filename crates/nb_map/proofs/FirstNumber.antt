-- A key's slot in a map of one table: its value is null just as long as the map never had a number at
-- the key.
use Rattle.std.proofs.Common.{◌≡◌, ◌≢◌, ◌∙◌, ℕ, suc, zero, ◌<◌, List, [], ◌∷◌, ◌++◌, ◌⊎◌, Option, Some, None, replicate, slice_index, ap, sym, subst, subst₂, refl, inl, inr, arith}
use Rattle.std.specs.FinMap.{get}
use Rattle.std.specs.List.{cons_option}
use Rattle.nb_core.specs.History.{IsLegal, number_in_value}
use Rattle.nb_core.specs.Laws.{AtValue, IsFirstPlace, IsValueChange, IsWonChange}
use Rattle.nb_core.specs.Meaning.{place_of}
use Rattle.nb_core.specs.Log.{Entry, IsBeginning, entry_of, log_of, map_of_log}
use Rattle.nb_core.specs.Plans.{IsPlan, Plan, generations_of, value_place, word_count}
use Rattle.nb_core.specs.States.{primed, value_in_word}
use Rattle.nb_core.specs.Tables.{IsSlot, IsUnprimed, tables_at}
use Rattle.nb_core.specs.declared.events.Event.{Event}
use Rattle.nb_core.specs.declared.events.Event.TheVariants.{Claim, Kill, Won, CopyIn, Prime, Finish, Install, Take, Count, Promote, Read}
use Rattle.nb_core.specs.declared.states.KeyState.{KeyState}
use Rattle.nb_core.specs.declared.states.KeyState.TheVariants.{Claimed, Dead, Empty}
use Rattle.nb_core.specs.declared.states.ValueState.{ValueState}
use Rattle.nb_core.specs.declared.states.ValueState.TheVariants.{Null, Tombstone, Live, PrimedNull, PrimedTombstone, Primed, Finished}
use Rattle.nb_core.proofs.Theorems.{beginnings_are_legal, decided, held_has_place, lawful_changes, lawful_words, linked, log_is_replayed, one_slot, place_is, seen_lasts, stays}
use Rattle.nb_map.specs.FirstPut.{HasHad}

-- ---- moments of a log

-- a beginning of a history's log is the log of a beginning of the history
record HasMoment (history : List Event) (earlier : List Entry) : Type 0 where
  later : List Event
  moment : List Event
  is : history ≡ later ++ moment
  log : log_of moment ≡ earlier

-- the log with what an event brings
log-with :
    (o : Option Entry) (e : Event) (h : List Event) → entry_of e ≡ o
    → log_of (e ∷ h) ≡ cons_option o (log_of h)
log-with o e h brings = ap (λ o. cons_option o (log_of h)) brings

moment-behind :
    (e : Event) (h : List Event) (x : Entry) (later earlier : List Entry)
    → ((newer : List Entry) → log_of h ≡ newer ++ earlier → HasMoment h earlier)
    → log_of (e ∷ h) ≡ x ∷ (later ++ earlier) → HasMoment (e ∷ h) earlier
moment-behind e h x later earlier rest is = one (entry_of e) refl
  where
    behind : HasMoment h earlier → HasMoment (e ∷ h) earlier
    behind has = record {
      later = e ∷ has.later;
      moment = has.moment;
      is = ap (λ h. e ∷ h) has.is;
      log = has.log;
    }

    one : (o : Option Entry) → entry_of e ≡ o → HasMoment (e ∷ h) earlier
    one None brings = behind (rest (x ∷ later) (sym (log-with None e h brings) ∙ is))
    one (Some entry) brings = behind (rest later
        (let same : entry ∷ log_of h ≡ x ∷ (later ++ earlier) =
        sym (log-with (Some entry) e h brings) ∙ is in cc))

moment-of :
    (h : List Event) (later earlier : List Entry) → log_of h ≡ later ++ earlier
    → HasMoment h earlier
moment-of [] [] earlier is = record { later = []; moment = []; is = refl; log = is }
moment-of [] (x ∷ later) earlier is = absurd cc
moment-of (e ∷ h) [] earlier is = record { later = []; moment = e ∷ h; is = refl; log = is }
moment-of (e ∷ h) (x ∷ later) earlier is =
    moment-behind e h x later earlier (λ newer. moment-of h newer earlier) is

-- what it had at some moment, it had at some moment of a longer log
had-later :
    (e : Event) (h : List Event) (k : ℕ) → HasHad (log_of h) k → HasHad (log_of (e ∷ h)) k
had-later e h k had = one (entry_of e)
  where
    one : (o : Option Entry) → HasHad (cons_option o (log_of h)) k
    one None = had
    one (Some entry) = record {
      earlier = had.earlier;
      begun = record {
        later = entry ∷ had.begun.later;
        is = ap (λ log. entry ∷ log) had.begun.is;
      };
      number = had.number;
      had = had.had;
    }

-- ---- words and values

none-of-zeros : (n i : ℕ) → slice_index (replicate n 0) i ≡ 0
none-of-zeros zero i = refl
none-of-zeros (suc n) zero = refl
none-of-zeros (suc n) (suc i) = none-of-zeros n i

null-or-not : (v : ValueState) → (v ≡ Null) ⊎ (v ≢ Null)
null-or-not Null = inl refl
null-or-not Tombstone = inr (λ e. cc)
null-or-not (Live n) = inr (λ e. cc)
null-or-not PrimedNull = inr (λ e. cc)
null-or-not PrimedTombstone = inr (λ e. cc)
null-or-not (Primed n) = inr (λ e. cc)
null-or-not (Finished n) = inr (λ e. cc)

-- no event puts a tombstone in place of null
no-tombstone : (e : Event) (i : ℕ) → IsValueChange e 0 i Null Tombstone → ⊥
no-tombstone (Won s g j a b c r) i change =
    subst₂ IsWonChange (sym change.2) (sym change.3) change.4
no-tombstone (CopyIn s g j k n) i change =
    let both : Tombstone ≡ Live n = change.3 in cc
no-tombstone (Prime s g j) i change = let both : Tombstone ≡ PrimedNull = change.3 in cc
no-tombstone (Finish s g j) i change = let both : Null ≡ Primed change.2.0 = change.2.1 in cc
no-tombstone (Claim s g j k) i change = change
no-tombstone (Kill s g j) i change = change
no-tombstone (Install s g k) i change = change
no-tombstone (Take s g) i change = change
no-tombstone (Count s g c) i change = change
no-tombstone (Promote s g) i change = change
no-tombstone (Read s c r) i change = change

-- ---- one table

module _ (p : Plan) (plan : IsPlan p) (single : generations_of p ≡ 1) where
  -- a value is never primed
  pub is-unprimed : (h : List Event) → IsLegal p h → (i : ℕ) → IsSlot p 0 i
      → IsUnprimed ((tables_at p h).value 0 i)
  is-unprimed h legal i slot = elim ((linked p plan h legal).primed 0 i slot) [
    | inl unprimed ↦ unprimed
    | inr next ↦ absurd (let less = (linked p plan h legal).within 1 next in omega (arith, less, single))
  ]

  -- what the map has at a key stands in its slot
  number-there :
      (h : List Event) → IsLegal p h → (i k : ℕ) → IsSlot p 0 i
      → (tables_at p h).key 0 i ≡ Claimed k
      → get (map_of_log (log_of h)) k ≡ number_in_value ((tables_at p h).value 0 i)
  number-there h legal i k slot claimed =
      ap (λ m. get m k) (log_is_replayed p plan h legal).map
      ∙ decided p plan h legal 0 k slot.0 tt (λ f less. absurd (omega (arith, less)))
      (number_in_value ((tables_at p h).value 0 i))
      (AtValue i slot.1 claimed (is-unprimed h legal i slot) refl)

  -- ---- where the value is null, the map never had one

  pub null-never :
      (h : List Event) → IsLegal p h → (i k : ℕ) → IsSlot p 0 i
      → (tables_at p h).key 0 i ≡ Claimed k → (tables_at p h).value 0 i ≡ Null
      → HasHad (log_of h) k → ⊥
  null-never h legal i k slot claimed null had =
      at-moment (moment-of h had.begun.later had.earlier had.begun.is)
    where
      at-moment : HasMoment h had.earlier → ⊥
      at-moment has = held has.later has.moment (subst (IsLegal p) has.is legal)
          (ap (λ log. get (map_of_log log) k) has.log ∙ had.had)
          (subst (λ h. (tables_at p h).key 0 i ≡ Claimed k) has.is claimed)
          (subst (λ h. (tables_at p h).value 0 i ≡ Null) has.is null)
        where
          held :
              (later m : List Event) → IsLegal p (later ++ m)
              → get (map_of_log (log_of m)) k ≡ Some had.number
              → (tables_at p (later ++ m)).key 0 i ≡ Claimed k
              → (tables_at p (later ++ m)).value 0 i ≡ Null → ⊥
          held later m legal' number claimed' null' =
              (seen_lasts p plan later m legal').not_null 0 j slot-j some
              (ap ((tables_at p (later ++ m)).value 0) same ∙ null')
            where
              legal-m : IsLegal p m
              legal-m = beginnings_are_legal p later m legal'

              place : (place : ℕ × ℕ) × (place_of p m 0 k ≡ Some place)
              place = held_has_place p plan m legal-m 0 k had.number (omega (arith, single))
                  (λ f less. absurd (omega (arith, less)))
                  (sym (ap (λ x. get x k) (log_is_replayed p plan m legal-m).map) ∙ number)

              j : ℕ
              j = place.0.1

              first : IsFirstPlace p (tables_at p m) 0 k place.0.0 j
              first = (place_is p plan m legal-m 0 k place.0.0 j).0 place.1

              table : place.0.0 ≡ 0
              table = let within = first.slot.0 in omega (arith, within, single)

              slot-j : IsSlot p 0 j
              slot-j = subst (λ f. IsSlot p f j) table first.slot

              claimed-j : (tables_at p m).key 0 j ≡ Claimed k
              claimed-j = subst (λ f. (tables_at p m).key f j ≡ Claimed k) table first.is

              same : j ≡ i
              same = one_slot p plan (later ++ m) legal' 0 j i k slot-j slot
                  ((stays p plan later m legal' 0 j slot-j).key
                  (λ empty. let both : Claimed k ≡ Empty = sym claimed-j ∙ empty in cc) ∙ claimed-j)
                  claimed'

              some : (tables_at p m).value 0 j ≢ Null
              some null =
                  let both : None ≡ Some had.number =
                  sym (number-there m legal-m j k slot-j claimed-j ∙ ap number_in_value null)
                  ∙ number in cc

  -- ---- where it isn't, the map had one

  -- a tombstone took a number's place, or was there before the event
  had-before :
      (e : Event) (h : List Event) → IsLegal p (e ∷ h) → (i k : ℕ) → IsSlot p 0 i
      → (tables_at p (e ∷ h)).key 0 i ≡ Claimed k → (tables_at p (e ∷ h)).value 0 i ≡ Tombstone
      → ((tables_at p h).key 0 i ≡ Claimed k → (tables_at p h).value 0 i ≢ Null
      → HasHad (log_of h) k)
      → HasHad (log_of (e ∷ h)) k
  had-before e h legal i k slot claimed gone rest = elim (null-or-not ((tables_at p h).value 0 i)) [
    | inl null ↦ elim ((lawful_changes p plan e h legal).values 0 i slot) [
      | inl same ↦ absurd (let both : Null ≡ Tombstone = sym null ∙ sym same ∙ gone in cc)
      | inr change ↦ absurd (no-tombstone e i (subst₂ (IsValueChange e 0 i) null gone change))
    ]
    | inr was ↦ had-later e h k (rest
        (sym ((stays p plan (e ∷ []) h legal 0 i slot).key
        (λ empty. was ((lawful_words p plan h legal.0).empty_is_null 0 i slot empty))) ∙ claimed)
        was)
  ]

  had-by :
      (e : Event) (h : List Event) → IsLegal p (e ∷ h) → (i k : ℕ) → IsSlot p 0 i
      → (tables_at p (e ∷ h)).key 0 i ≡ Claimed k
      → ((tables_at p h).key 0 i ≡ Claimed k → (tables_at p h).value 0 i ≢ Null
      → HasHad (log_of h) k)
      → (v : ValueState) → (tables_at p (e ∷ h)).value 0 i ≡ v → v ≢ Null
      → HasHad (log_of (e ∷ h)) k
  had-by e h legal i k slot claimed rest Null is some = absurd (some refl)
  had-by e h legal i k slot claimed rest Tombstone is some =
      had-before e h legal i k slot claimed is rest
  had-by e h legal i k slot claimed rest (Live n) is some = record {
    earlier = log_of (e ∷ h);
    begun = record { later = []; is = refl };
    number = n;
    had = number-there (e ∷ h) legal i k slot claimed ∙ ap number_in_value is;
  }
  had-by e h legal i k slot claimed rest PrimedNull is some =
      absurd (subst IsUnprimed is (is-unprimed (e ∷ h) legal i slot))
  had-by e h legal i k slot claimed rest PrimedTombstone is some =
      absurd (subst IsUnprimed is (is-unprimed (e ∷ h) legal i slot))
  had-by e h legal i k slot claimed rest (Primed n) is some =
      absurd (subst IsUnprimed is (is-unprimed (e ∷ h) legal i slot))
  had-by e h legal i k slot claimed rest (Finished n) is some =
      absurd (subst IsUnprimed is (is-unprimed (e ∷ h) legal i slot))

  pub content-had :
      (h : List Event) → IsLegal p h → (i k : ℕ) → IsSlot p 0 i
      → (tables_at p h).key 0 i ≡ Claimed k → (tables_at p h).value 0 i ≢ Null
      → HasHad (log_of h) k
  content-had [] legal i k slot claimed some =
      absurd (some (ap value_in_word (none-of-zeros (word_count p) (value_place p 0 i))))
  content-had (e ∷ h) legal i k slot claimed some =
      had-by e h legal i k slot claimed
      (λ claimed some. content-had h legal.0 i k slot claimed some)
      ((tables_at p (e ∷ h)).value 0 i) refl some
