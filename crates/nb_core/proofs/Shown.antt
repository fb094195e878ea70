-- What the tables show of a key is what the map has.
use Rattle.std.proofs.Common.{◌≡◌, ◌≢◌, ◌∙◌, ℕ, ◌+◌, ◌-◌, ◌<◌, ◌≤◌, ◌⊎◌, zero, suc, ap, sym, refl, subst, inl, inr, Bool, true, false, Option, Some, None, arith}
use Rattle.std.proofs.lemmas.Bool.{cases_lt, cases_order, cond_both, eq-eqb}
use Rattle.nb_core.specs.Plans.{Plan, IsPlan, generations_of, size_of}
use Rattle.nb_core.specs.Tables.{AreOthers, HasSlot, IsComplete, IsFinishedValue, IsInstalled, IsSettledBelow, IsSlot, IsUnprimed, Tables, path_slot, tables_at, HasContent, IsPassed}
use Rattle.nb_core.specs.History.{MayWin, number_in_value, key_of_call}
use Rattle.nb_core.specs.Meaning.{is_blank, is_installed, shown_by, shown_from, value_in}
use Rattle.nb_core.specs.Laws.{AtEmpty, AtValue, CrowdedAbsent, Decided, InLast, NoNext, Shows, TablesStand, WinNumber}
use Rattle.nb_core.proofs.Keeping.{sound}
use Rattle.nb_core.proofs.Lasting.{win-key}
use Rattle.nb_core.proofs.Newest.{HasNoneFrom, HasNoneFrom-slot, HasNoneFrom-unprimed, HasNoneIn, IsNewest, IsNewestAt, from_suc, newest}
use Rattle.nb_core.proofs.Computed.{below_suc, no_true, number_at_map}
use Rattle.nb_core.proofs.Room.{crowded-complete_below, passed-settled}
use Rattle.nb_core.proofs.Slots.{Away, Here, has_slot_or_none, look, value_in-some}
use Rattle.nb_core.proofs.Sound.{HasNoSlot, IsSound, complete-below, empty-unclaimed, finished-not_empty, finished-value, installed-below, next-within, no_slot-past, no_slot-whole, path_slot-is_slot, primed-growing}
use Rattle.nb_core.proofs.Tables.{four-le-size_of}
use Rattle.nb_core.specs.declared.calls.Call.{Call}
use Rattle.nb_core.specs.declared.states.KeyState.TheVariants.{Claimed}
use Rattle.nb_core.specs.declared.states.ValueState.{ValueState}
use Rattle.nb_core.specs.declared.states.ValueState.TheVariants.{Null, Tombstone, Live, PrimedNull, Primed, Finished}

-- ---- values

-- the key got a number here, or not
content_or_none : (v : ValueState) → HasContent v ⊎ (HasContent v → ⊥)
content_or_none Null = inr (λ none. none)
content_or_none PrimedNull = inr (λ none. none)
content_or_none _ = inl tt

-- a value in which the key never got a number has none
number_in_value-without : (v : ValueState) → (HasContent v → ⊥) → number_in_value v ≡ None
number_in_value-without (Live n) without = absurd (without tt)
number_in_value-without (Primed n) without = absurd (without tt)
number_in_value-without (Finished n) without = absurd (without tt)
number_in_value-without _ without = refl

-- a final value without a finished number has none
number_in_value-final :
    (v : ValueState) → IsFinishedValue v → ((n : ℕ) → v ≢ Finished n) → number_in_value v ≡ None
number_in_value-final (Live n) final unmoved = no_true final
number_in_value-final (Primed n) final unmoved = no_true final
number_in_value-final (Finished n) final unmoved = absurd (unmoved n refl)
number_in_value-final _ final unmoved = refl

-- a value without a number, below nothing, shows none
shown_by-without :
    (v : ValueState) (blank : Bool) → (HasContent v → ⊥) → shown_by (Some v) blank None ≡ None
shown_by-without (Live n) blank without = absurd (without tt)
shown_by-without (Primed n) blank without = absurd (without tt)
shown_by-without _ blank without = refl

-- a primed value shows what is above, if a number that is still to copy isn't the newest
shown_by-primed :
    (v : ValueState) (blank : Bool) (above : Option ℕ) → (IsUnprimed v → ⊥)
    → ((n : ℕ) → v ≡ Primed n → blank ≡ false)
    → shown_by (Some v) blank above ≡ above
shown_by-primed Null blank above primed copied = absurd (primed tt)
shown_by-primed Tombstone blank above primed copied = absurd (primed tt)
shown_by-primed (Live n) blank above primed copied = absurd (primed tt)
shown_by-primed (Primed n) blank above primed copied = rw (copied n refl) refl
shown_by-primed _ blank above primed copied = refl

-- the newest value shows its number
shown_by-newest :
    (v : ValueState) (blank : Bool) → ((n : ℕ) → v ≡ Primed n → blank ≡ true)
    → ((n : ℕ) → v ≢ Finished n)
    → shown_by (Some v) blank None ≡ number_in_value v
shown_by-newest (Primed n) blank uncopied unmoved = rw (uncopied n refl) refl
shown_by-newest (Finished n) blank uncopied unmoved = absurd (unmoved n refl)
shown_by-newest _ blank uncopied unmoved = refl

-- null is blank
is_blank-without : (v : ValueState) → (HasContent v → ⊥) → v ≢ PrimedNull → is_blank (Some v) ≡ true
is_blank-without Null without unprimed = refl
is_blank-without PrimedNull without unprimed = absurd (unprimed refl)
is_blank-without _ without unprimed = absurd (without tt)

-- what ever had a number isn't blank
is_blank-content : (v : ValueState) → HasContent v → is_blank (Some v) ≡ false
is_blank-content Null content = absurd content
is_blank-content _ content = refl

-- ---- where the key's values are

-- where the newest value of a key is, that isn't null
data NewestPlace (p : Plan) (t : Tables) (k : ℕ) : Type 0 where
  Never : HasNoneFrom p t k 0 → NewestPlace p t k
  There : (g i : ℕ) → IsNewestAt p t k g i → NewestPlace p t k

-- the key's values below the table are final
abbrev AreFinalBelow : Plan → Tables → ℕ → ℕ → Type 0
AreFinalBelow p t g k = (f : ℕ) → f < g → (i : ℕ) → IsSlot p f i → t.key f i ≡ Claimed k
    → IsFinishedValue (t.value f i)

-- what is installed passes the test
is_installed-holds : (t : Tables) (g : ℕ) → IsInstalled t g → is_installed t g ≡ true
is_installed-holds t zero installed = refl
is_installed-holds t (suc g) installed = eq-eqb (t.next g) 1 installed

module _ (p : Plan) (t : Tables) (plan : IsPlan p) (s : IsSound p t) (k : ℕ) where
  -- where the key has no slot in a table and no number above, it has none from this table on
  HasNoneFrom-no_slot : (g : ℕ) → HasNoSlot p t g k → HasNoneFrom p t k (suc g)
      → HasNoneFrom p t k g
  HasNoneFrom-no_slot g away = from_suc (HasNoneIn p t k) g (λ i slot is content. away i slot.1 is)

  -- past the last table it has none
  HasNoneFrom-past : (g : ℕ) → generations_of p ≤ g → HasNoneFrom p t k g
  HasNoneFrom-past g past f from i slot is content = let within = slot.0 in absurd (omega arith)

  -- the newest value is below this table, or there is none
  newest_place-below : (g : ℕ) → g ≤ generations_of p → HasNoneFrom p t k g → NewestPlace p t k
  newest_place-below zero within none = Never none
  newest_place-below (suc g) within none =
      elim (has_slot_or_none p t g k) [
        | inr away ↦ newest_place-below g (omega arith) (HasNoneFrom-no_slot g away none)
        | inl has ↦
            let slot : IsSlot p g has.slot = (omega arith, has.in_table) in
            elim (content_or_none (t.value g has.slot)) [
              | inl content ↦ There g has.slot
                  (record { slot = slot; is = has.is; content = content; none_above = none })
              | inr without ↦ newest_place-below g (omega arith)
                  (HasNoneFrom-slot p t s k g has.slot slot has.is without none)
            ]
      ]

  -- the newest value is somewhere, or there is none
  newest_place : NewestPlace p t k
  newest_place = newest_place-below (generations_of p) (omega arith)
      (HasNoneFrom-past (generations_of p) (omega arith))

  -- the newest value is no finished number, which would stand in the next table too
  newest-not_moved : (g i n : ℕ) → IsNewestAt p t k g i → t.value g i ≢ Finished n
  newest-not_moved g i n here e =
      let got = s.moved g i k n here.slot here.is e in
      here.none_above (suc g) (omega arith) got.slot got.is_slot got.is got.content

  -- below an installed table in which the key is settled its values are final
  settled-final : (g : ℕ) → IsInstalled t g → IsSettledBelow p t g k → AreFinalBelow p t g k
  settled-final zero installed settled = λ f below. absurd (omega arith)
  settled-final (suc g) installed settled =
      below_suc (λ f. (i : ℕ) → IsSlot p f i → t.key f i ≡ Claimed k
      → IsFinishedValue (t.value f i)) g
      (λ i slot is. settled i slot.1 is)
      (λ f less i slot is. finished-value t f i k
      (complete-below p t s (suc g) f (omega arith) installed i slot.1) is)

  -- a key passed in all tables below has final values there
  passed-final : (g : ℕ) → ((f : ℕ) → f < g → IsPassed p t f k) → AreFinalBelow p t g k
  passed-final g passed f below i slot is =
      passed-settled p t plan s f k slot.0 (passed f below) i slot.1 is

  -- a key has a slot in each table below one where it has a slot, or the table is complete
  slot-below : (f i g : ℕ) → IsSlot p f i → t.key f i ≡ Claimed k → g < f → HasSlot p t g k
      ⊎ IsComplete p t g
  slot-below f i g slot is below =
      elim (cases_order f (suc g)) [
        | inl same ↦ s.below g k (subst (λ f. f < generations_of p) same slot.0)
            (subst (λ f. HasSlot p t f k) same (record { slot = i; in_table = slot.1; is = is }))
        | inr (inl less) ↦ absurd (omega arith)
        | inr (inr more) ↦ inr (complete-below p t s f g more (s.claimed f i k slot is).installed)
      ]

  -- where other keys have a table, it is installed,
  crowded-installed : (g : ℕ) → g < generations_of p → AreOthers p t g k (size_of p g)
      → IsInstalled t g
  crowded-installed g within others =
      let some : 0 < size_of p g = omega (arith, four-le-size_of p g plan within) in
      let other = others 0 some in
      (s.claimed g (path_slot p g k 0) other.other (path_slot-is_slot p plan g k 0 within)
      other.is).installed

  -- and the key is settled
  crowded-settled : (g : ℕ) → g < generations_of p → AreOthers p t g k (size_of p g)
      → IsSettledBelow p t g k
  crowded-settled zero within others = tt
  crowded-settled (suc g) within others = λ i below is.
      let complete = crowded-complete_below p t plan s g k within
      (record { slot = i; in_table = below; is = is }) others in
      finished-value t g i k (complete i below) is

  -- ---- what the tables show

  -- tables in which the key never got a number show none
  shown_from-none : (g tables : ℕ) → g + tables ≡ generations_of p → HasNoneFrom p t k g
      → shown_from p t k g tables ≡ None
  shown_from-none g zero whole none = refl
  shown_from-none g (suc tables) whole none =
      let rest = shown_from-none (suc g) tables (omega arith) (λ f from. none f (omega arith)) in
      cond_both (is_installed t g) _ None (λ shown. shown ≡ None) (λ _. elim (look p t g k) [
        | Away away e ↦ rw (e, rest) refl
        | Here i within is e ↦ rw (e, rest)
            (shown_by-without (t.value g i) _ (none g (omega arith) i (omega arith, within) is))
      ]) (λ _. refl)

  -- a table with a number that is still to copy isn't complete
  uncopied-not_complete : (g i n : ℕ) → IsSlot p g i → t.key g i ≡ Claimed k
      → t.value g i ≡ Primed n → IsComplete p t g → ⊥
  uncopied-not_complete g i n slot is primed complete =
      no_true (subst IsFinishedValue primed (finished-value t g i k (complete i slot.1) is))

  -- of the newest value:
  module _ (g i : ℕ) (here : IsNewestAt p t k g i) where
    -- where it is a number still to copy, the key has no slot in the next table, or a null value
    is_blank-above : (n : ℕ) → t.value g i ≡ Primed n → is_blank (value_in p t (suc g) k) ≡ true
    is_blank-above n primed =
        elim (look p t (suc g) k) [
          | Away away e ↦ rw e refl
          | Here j within j_is e ↦
              let next = primed-growing p t s g i here.slot
              (λ unprimed. subst IsUnprimed primed unprimed) in
              let j_slot : IsSlot p (suc g) j = (next-within p t s g next, within) in
              rw e (is_blank-without (t.value (suc g) j)
              (here.none_above (suc g) (omega arith) j j_slot j_is) (λ final.
              let above = primed-growing p t s (suc g) j j_slot
              (λ unprimed. subst IsUnprimed final unprimed) in
              uncopied-not_complete g i n here.slot here.is primed (s.ready g above).1))
        ]

    -- below it a number that was primed has been copied
    is_blank-copied :
        (f j n : ℕ) → f < g → IsSlot p f j → t.key f j ≡ Claimed k → t.value f j ≡ Primed n
        → is_blank (value_in p t (suc f) k) ≡ false
    is_blank-copied f j n below j_slot j_is primed =
        elim (cases_order (suc f) g) [
          | inl same ↦ rw (same, value_in-some p t s g i k here.slot here.is)
              (is_blank-content (t.value g i) here.content)
          | inr (inl less) ↦
              let complete = complete-below p t s g f less
              (s.claimed g i k here.slot here.is).installed in
              absurd (uncopied-not_complete f j n j_slot j_is primed complete)
          | inr (inr more) ↦ absurd (omega arith)
        ]

    -- its table shows its number,
    shown_from-newest : (tables : ℕ) → g + suc tables ≡ generations_of p
        → shown_from p t k g (suc tables) ≡ number_in_value (t.value g i)
    shown_from-newest tables whole =
        let installed = is_installed-holds t g (s.claimed g i k here.slot here.is).installed in
        rw (
          installed,
          value_in-some p t s g i k here.slot here.is,
          shown_from-none (suc g) tables (omega arith) here.none_above,
        )
        (shown_by-newest (t.value g i) _ is_blank-above (λ n. newest-not_moved g i n here))

    -- and so do all tables below it
    shown_from-below : (f tables : ℕ) → f + tables ≡ generations_of p → f ≤ g
        → shown_from p t k f tables ≡ number_in_value (t.value g i)
    shown_from-below f zero whole below = let within = here.slot.0 in absurd (omega arith)
    shown_from-below f (suc tables) whole below =
        elim (cases_order f g) [
          | inl same ↦
              subst (λ f. shown_from p t k f (suc tables) ≡ number_in_value (t.value g i))
              (sym same)
              (shown_from-newest tables (omega arith))
          | inr (inl less) ↦
              let rest = shown_from-below (suc f) tables (omega arith) (omega arith) in
              let installed = installed-below p t s g f (omega arith)
              (s.claimed g i k here.slot here.is).installed in
              rw (is_installed-holds t f installed) (elim (look p t f k) [
                | Away away e ↦ rw e rest
                | Here j within j_is e ↦
                    let within_tables = here.slot.0 in
                    let j_slot : IsSlot p f j = (omega arith, within) in
                    rw e (shown_by-primed (t.value f j) _ _
                    (λ unprimed. HasNoneFrom-unprimed p t s k f j j_slot j_is unprimed g less i
                    here.slot here.is here.content)
                    (λ n primed. is_blank-copied f j n less j_slot j_is primed)
                    ∙ rest)
              ])
          | inr (inr more) ↦ absurd (omega arith)
        ]

  -- ---- the key's number

  module _ (number : Option ℕ) (is_newest : IsNewest p t k number) where
    -- all tables show the newest number
    shown_from-number : shown_from p t k 0 (generations_of p) ≡ number
    shown_from-number =
        elim newest_place [
          | Never none ↦ shown_from-none 0 (generations_of p) (omega arith) none
              ∙ sym (is_newest.never none)
          | There g i here ↦ shown_from-below g i here 0 (generations_of p) (omega arith)
              (omega arith) ∙ sym (is_newest.at g i here)
        ]

    -- where the key's values below a table are final, and the key never got a number there or
    -- above, it has none
    pub number-none : (g : ℕ) → AreFinalBelow p t g k → HasNoneFrom p t k g → number ≡ None
    number-none g final none =
        elim newest_place [
          | Never never ↦ is_newest.never never
          | There f i here ↦
              elim (cases_lt f g) [
                | inl less ↦
                    is_newest.at f i here
                    ∙ number_in_value-final (t.value f i) (final f less i here.slot here.is)
                    (λ n. newest-not_moved f i n here)
                | inr more ↦ absurd (none f more i here.slot here.is here.content)
              ]
        ]

    -- where the key's values below a table are final, it has the number of its unprimed value there
    number-unprimed :
        (g i : ℕ) → AreFinalBelow p t g k → IsSlot p g i → t.key g i ≡ Claimed k
        → IsUnprimed (t.value g i)
        → number ≡ number_in_value (t.value g i)
    number-unprimed g i final slot is unprimed =
        let above = HasNoneFrom-unprimed p t s k g i slot is unprimed in
        elim (content_or_none (t.value g i)) [
          | inl content ↦ is_newest.at g i
              (record { slot = slot; is = is; content = content; none_above = above })
          | inr without ↦
              number-none g final (HasNoneFrom-slot p t s k g i slot is without above)
              ∙ sym (number_in_value-without (t.value g i) without)
        ]

    -- what a table shows of a key whose values below are final is the newest number
    number-shown : (g : ℕ) (shown : Option ℕ) → g < generations_of p → AreFinalBelow p t g k
        → Shows p t g k shown → number ≡ shown
    number-shown g shown within final (AtEmpty d in_table others empty e) =
        let away = no_slot-past p t s g k d within others (empty-unclaimed empty) in
        let here = path_slot-is_slot p plan g k d within in
        number-none g final (HasNoneFrom-no_slot g away
        (λ f above i slot is content. elim (slot-below f i g slot is above) [
          | inl has ↦ away has.slot has.in_table has.is
          | inr complete ↦ finished-not_empty p t s g (path_slot p g k d) here
              (complete (path_slot p g k d) here.1) empty
        ])) ∙ sym e
    number-shown g shown within final (AtValue i below is unprimed e) =
        number-unprimed g i final (within, below) is unprimed ∙ sym e
    number-shown g shown within final (NoNext others no_next e) =
        number-none g final (HasNoneFrom-no_slot g (no_slot-whole p t s g k within others)
        (λ f above i slot is content.
        let next : t.next g ≡ 1 = installed-below p t s f (suc g) (omega arith)
        (s.claimed f i k slot is).installed in
        absurd (omega arith))) ∙ sym e
    number-shown g shown within final (InLast others last e) =
        number-none g final (HasNoneFrom-no_slot g (no_slot-whole p t s g k within others)
        (HasNoneFrom-past (suc g) (omega arith)))
        ∙ sym e

    -- a key that the last table has no slot for has no number
    number-crowded : (g : ℕ) → suc g ≡ generations_of p → AreOthers p t g k (size_of p g)
        → number ≡ None
    number-crowded g last others =
        let within : g < generations_of p = omega arith in
        number-none g (settled-final g (crowded-installed g within others)
        (crowded-settled g within others))
        (HasNoneFrom-no_slot g (no_slot-whole p t s g k within others)
        (HasNoneFrom-past (suc g) (omega arith)))

-- what a call may replace is the newest number of its key
number-won :
    (p : Plan) (t : Tables) → IsPlan p → IsSound p t
    → (g i : ℕ) (a b : ValueState) (c : Call) (number : Option ℕ) → IsSlot p g i
    → MayWin p t g i a b c → IsNewest p t (key_of_call c) number → number ≡ number_in_value a
number-won p t plan s g i a b c number slot may is_newest =
    let k = may.key in
    let of_call : key_of_call c ≡ k = win-key may in
    number-unprimed p t plan s k number (subst (λ k. IsNewest p t k number) of_call is_newest) g i
    (settled-final p t plan s k g (s.claimed g i k slot may.claimed).installed may.settled)
    slot may.claimed
    (subst IsUnprimed (sym may.stands) may.unprimed)
    ∙ ap number_in_value may.stands

-- ---- the laws

pub win_number : WinNumber
win_number p plan h legal g i a b c slot may =
    number_at_map h (key_of_call c)
    ∙ number-won p (tables_at p h) plan (sound p h plan legal) g i a b c _ slot may
    (newest p h plan legal (key_of_call c))

pub stands : TablesStand
stands p plan h legal k within =
    shown_from-number p (tables_at p h) plan (sound p h plan legal) k _ (newest p h plan legal k)
    ∙ sym (number_at_map h k)

pub decided : Decided
decided p plan h legal g k within installed passed shown shows =
    let s = sound p h plan legal in
    number_at_map h k
    ∙ number-shown p (tables_at p h) plan s k _ (newest p h plan legal k) g shown within
    (passed-final p (tables_at p h) plan s k g passed) shows

pub crowded_absent : CrowdedAbsent
crowded_absent p plan h legal k crowded =
    let last = generations_of p - 1 in
    number_at_map h k
    ∙ number-crowded p (tables_at p h) plan (sound p h plan legal) k _ (newest p h plan legal k)
    last (omega (arith, plan.tables.0))
    (λ d less. crowded (path_slot p last k d)
    (path_slot-is_slot p plan last k d (omega (arith, plan.tables.0))).1)
