-- Just one event turns each finished slot finished, and what the seats count is what their own
-- events turned.
use Rattle.std.proofs.Common.{◌≡◌, ◌∙◌, ℕ, zero, suc, ◌+◌, ◌%◌, ◌^◌, ◌<◌, ◌≤◌, ◌⊎◌, inl, inr, sym, ap, refl, subst, Bool, true, false, cond, eqb, ◌&&◌, ◌||◌, List, [], ◌∷◌, length, slice_index, Option, Some, None, arith}
use Rattle.std.proofs.Math.Bool.{and-false, and-true, or-true}
use Rattle.std.proofs.Math.Nat.{mod-eq_of_lt}
use Rattle.std.proofs.Math.Pow.{pow-lt}
use Rattle.std.proofs.lemmas.Bool.{eqb-false, eqb-true, false_from_ne_true, ne_eqb}
use Rattle.std.proofs.lemmas.List.{length-append}
use Rattle.std.specs.Option.{IfSome, option_map_or}
use Rattle.nb_core.specs.Plans.{Plan, IsPlan, Header, generations_of, size_of}
use Rattle.nb_core.specs.Tables.{IsFinished, IsFinishedValue, IsSlot, IsUnprimed, Tables, is_finished_value, tables_at, finished_among, is_dead}
use Rattle.nb_core.specs.History.{IsInRange, IsLegal, MayClaim, MayFinish, MayFollow, MayKill, MayPrime, counted_by, counts, is_finished_by_priming, seat_of_event, slot_in, slots_turned, turned_by, turned_in, turned_slot, turns_slot}
use Rattle.nb_core.specs.States.{primed}
use Rattle.nb_core.specs.Laws.{CountedOnce, over_seats, times_turned}
use Rattle.nb_core.proofs.Frames.{finished, key_after, key-first, key-frame, value_after, value-first, value-frame}
use Rattle.nb_core.proofs.Keeping.{sound}
use Rattle.nb_core.proofs.Lasting.{put-unprimed, win-puts}
use Rattle.nb_core.proofs.Computed.{below_suc, is_finished-true}
use Rattle.nb_core.proofs.Sound.{IsSound, empty-null, unprimed-not_final}
use Rattle.nb_core.proofs.Words.{at_slot, word-first, word_after, word-frame}
use Rattle.nb_core.specs.declared.events.Event.{Event}
use Rattle.nb_core.specs.declared.events.Event.TheVariants.{Claim, Kill, Won, CopyIn, Prime, Finish, Count, Read}
use Rattle.nb_core.specs.declared.states.KeyState.{KeyState}
use Rattle.nb_core.specs.declared.states.KeyState.TheVariants.{Dead, Claimed}
use Rattle.nb_core.specs.declared.states.ValueState.{ValueState}
use Rattle.nb_core.specs.declared.states.ValueState.TheVariants.{Null, Tombstone, Live}

-- ---- sums over the numbers below n, of seats or of slots

-- 1 where a test holds, and else 0
abbrev bit : Bool → ℕ
bit holds = cond holds 1 0

-- it is 1 at most
bit-le : (holds : Bool) → bit holds ≤ 1
bit-le true = omega arith
bit-le false = omega arith

-- sums of the same numbers are the same
over_seats-same :
    (a b : ℕ → ℕ) (n : ℕ) → ((i : ℕ) → i < n → a i ≡ b i) → over_seats a n ≡ over_seats b n
over_seats-same a b zero same = refl
over_seats-same a b (suc n) same =
    omega (arith, same n (omega arith), over_seats-same a b n (λ i below. same i (omega arith)))

-- a sum of smaller numbers is smaller
over_seats-le : (a b : ℕ → ℕ) (n : ℕ) → ((i : ℕ) → a i ≤ b i) → over_seats a n ≤ over_seats b n
over_seats-le a b zero less = omega arith
over_seats-le a b (suc n) less = omega (arith, less n, over_seats-le a b n less)

-- a sum of zeros is 0
over_seats-zero : (n : ℕ) → over_seats (λ i. 0) n ≡ 0
over_seats-zero zero = refl
over_seats-zero (suc n) = omega (arith, over_seats-zero n)

-- a sum may be made in two parts
over_seats-plus :
    (a b : ℕ → ℕ) (n : ℕ) → over_seats (λ i. a i + b i) n ≡ over_seats a n + over_seats b n
over_seats-plus a b zero = refl
over_seats-plus a b (suc n) = omega (arith, over_seats-plus a b n)

-- what is there at one place alone, and that isn't among the first n, adds nothing
over_seats-none_at :
    (a : ℕ → ℕ) (at n : ℕ) → n ≤ at → over_seats (λ i. cond (eqb at i) (a i) 0) n ≡ 0
over_seats-none_at a at zero outside = refl
over_seats-none_at a at (suc n) outside =
    rw (ne_eqb at n (λ same. absurd (omega arith)))
    (omega (arith, over_seats-none_at a at n (omega arith)))

-- what is there at one place alone is the sum
over_seats-one_at :
    (a : ℕ → ℕ) (at n : ℕ) → at < n → over_seats (λ i. cond (eqb at i) (a i) 0) n ≡ a at
over_seats-one_at a at zero inside = absurd (omega arith)
over_seats-one_at a at (suc n) inside =
    elim (eqb at n) as (λ t. eqb at n ≡ t
    → cond t (a n) 0 + over_seats (λ i. cond (eqb at i) (a i) 0) n ≡ a at) [
      | true ↦ λ e. let same = eqb-true at n e in
          omega (arith, over_seats-none_at a at n (omega arith), ap a same)
      | false ↦ λ e. let differ = eqb-false at n e in
          omega (arith, over_seats-one_at a at n (omega arith))
    ] refl

-- no more tests hold than there are
over_seats-bit : (test : ℕ → Bool) (n : ℕ) → over_seats (λ i. bit (test i)) n ≤ n
over_seats-bit test zero = omega arith
over_seats-bit test (suc n) = omega (arith, bit-le (test n), over_seats-bit test n)

-- it is 1 only where the test holds
bit-one : (holds : Bool) → 1 ≤ bit holds → holds ≡ true
bit-one true one = refl
bit-one false one = absurd (omega arith)

-- where as many tests hold as there are, each holds
over_seats-all :
    (test : ℕ → Bool) (n : ℕ) → n ≤ over_seats (λ i. bit (test i)) n → (i : ℕ) → i < n
    → test i ≡ true
over_seats-all test zero enough i below = absurd (omega arith)
over_seats-all test (suc n) enough i below =
    below_suc (λ i. test i ≡ true) n (bit-one (test n) (omega (arith, over_seats-bit test n)))
    (over_seats-all test n (omega (arith, bit-le (test n)))) i below

-- ---- tests

-- whether a slot with this key and value is finished
abbrev is_finished_slot : KeyState → ValueState → Bool
is_finished_slot x v = is_dead x || is_finished_value v

-- the test fails of a value that isn't primed
is_finished_value-unprimed : (v : ValueState) → IsUnprimed v → is_finished_value v ≡ false
is_finished_value-unprimed v u = false_from_ne_true _ (unprimed-not_final v u)

-- priming finishes what has no number
is_finished_value-primed :
    (v : ValueState) → IsUnprimed v → is_finished_value (primed v) ≡ is_finished_by_priming v
is_finished_value-primed Null u = refl
is_finished_value-primed Tombstone u = refl
is_finished_value-primed (Live n) u = refl
is_finished_value-primed _ u = absurd u

-- the test holds of a finished slot
is_finished_slot-true :
    (x : KeyState) (v : ValueState) → (x ≡ Dead) ⊎ IsFinishedValue v → is_finished_slot x v ≡ true
is_finished_slot-true x v (inl dead) = rw dead refl
is_finished_slot-true x v (inr final) = rw final (or-true (is_dead x))

-- whether a slot, if there is one, is one of this table
abbrev is_in : ℕ → Option (ℕ × ℕ) → Bool
is_in g turned = option_map_or (λ slot. eqb slot.0 g) turned false

-- whether it is this one
abbrev is_this : ℕ → ℕ → Option (ℕ × ℕ) → Bool
is_this g i turned = option_map_or (λ slot. eqb slot.0 g && eqb slot.1 i) turned false

-- 1 where a slot is finished, and else 0
abbrev slot_bit : Tables → ℕ → ℕ → ℕ
slot_bit t g i = bit (is_finished_slot (t.key g i) (t.value g i))

-- ---- one slot in one step

-- claiming a key turns nothing
slot_bit-claim :
    (p : Plan) (t : Tables) (f j g i k : ℕ) → MayClaim p t f j k
    → bit (is_finished_slot (cond (eqb f g && eqb j i) (Claimed k) (t.key g i)) (t.value g i))
    ≡ 0 + slot_bit t g i
slot_bit-claim p t f j g i k may =
    at_slot (λ g i here. bit (is_finished_slot (cond here (Claimed k) (t.key g i)) (t.value g i))
    ≡ 0 + slot_bit t g i) f j g i
    (rw may.empty (omega arith)) (omega arith)

-- closing a slot turns it
slot_bit-kill :
    (p : Plan) (t : Tables) (f j g i : ℕ) → IsSound p t → IsSlot p f j → MayKill t f j
    → bit (is_finished_slot (cond (eqb f g && eqb j i) Dead (t.key g i)) (t.value g i))
    ≡ bit (eqb f g && eqb j i) + slot_bit t g i
slot_bit-kill p t f j g i s slot may =
    at_slot (λ g i here. bit (is_finished_slot (cond here Dead (t.key g i)) (t.value g i))
    ≡ bit here + slot_bit t g i) f j g i
    (rw (may.empty, empty-null p t s f j slot may.empty) refl) (omega arith)

-- putting an unprimed value in the place of another turns nothing
slot_bit-put :
    (t : Tables) (f j g i : ℕ) (b : ValueState) → IsUnprimed (t.value f j) → IsUnprimed b
    → bit (is_finished_slot (t.key g i) (cond (eqb f g && eqb j i) b (t.value g i)))
    ≡ 0 + slot_bit t g i
slot_bit-put t f j g i b was now =
    at_slot (λ g i here. bit (is_finished_slot (t.key g i) (cond here b (t.value g i)))
    ≡ 0 + slot_bit t g i) f j g i
    (rw (is_finished_value-unprimed (t.value f j) was, is_finished_value-unprimed b now)
    (omega arith)) (omega arith)

-- a slot that is there only if a test holds is this one if it would be, and the test holds
is_this-tested :
    (test : Bool) (f j g i : ℕ) → is_this g i (cond test (Some (f, j)) None)
    ≡ ((eqb f g && eqb j i) && test)
is_this-tested true f j g i = sym (and-true (eqb f g && eqb j i))
is_this-tested false f j g i = sym (and-false (eqb f g && eqb j i))

-- priming turns what has no number
slot_bit-prime :
    (p : Plan) (h : List Event) (s f j g i : ℕ) → let t = tables_at p h in MayPrime t f j
    → bit (is_finished_slot (t.key g i) (cond (eqb f g && eqb j i) (primed (t.value g i))
    (t.value g i)))
    ≡ bit (turns_slot p h (Prime s f j) g i) + slot_bit t g i
slot_bit-prime p h s f j g i may =
    let t = tables_at p h in
    let empty = is_finished_by_priming (t.value f j) in
    at_slot (λ g i here. bit (is_finished_slot (t.key g i)
    (cond here (primed (t.value g i)) (t.value g i)))
    ≡ bit (here && empty) + slot_bit t g i) f j g i
    (rw (
      may.claimed,
      is_finished_value-primed (t.value f j) may.unprimed,
      is_finished_value-unprimed (t.value f j) may.unprimed,
    )
    (omega arith)) (omega arith)
    ∙ ap (λ b. bit b + slot_bit t g i) (sym (is_this-tested empty f j g i))

-- finishing turns a primed number
slot_bit-finish :
    (p : Plan) (t : Tables) (f j g i : ℕ) → MayFinish p t f j
    → bit (is_finished_slot (t.key g i) (cond (eqb f g && eqb j i) (finished (t.value g i))
    (t.value g i)))
    ≡ bit (eqb f g && eqb j i) + slot_bit t g i
slot_bit-finish p t f j g i may =
    at_slot (λ g i here.
    bit (is_finished_slot (t.key g i) (cond here (finished (t.value g i)) (t.value g i)))
    ≡ bit here + slot_bit t g i) f j g i
    (rw (may.claimed, may.primed) refl) (omega arith)

-- whether a slot is finished after an event tells whether it was, and whether the event turned it
slot_bit-event :
    (p : Plan) (h : List Event) (e : Event) (g i : ℕ) → IsSound p (tables_at p h) → IsInRange p e
    → MayFollow p h e → let t = tables_at p h in
    bit (is_finished_slot (key_after e g i (t.key g i)) (value_after e g i (t.value g i)))
    ≡ bit (turns_slot p h e g i) + slot_bit t g i
slot_bit-event p h (Claim s f j k) g i t_sound range may =
    slot_bit-claim p (tables_at p h) f j g i k may
slot_bit-event p h (Kill s f j) g i t_sound range may =
    slot_bit-kill p (tables_at p h) f j g i t_sound range.1 may
slot_bit-event p h (Won s f j a b c r) g i t_sound range may =
    slot_bit-put (tables_at p h) f j g i b (subst IsUnprimed (sym may.stands) may.unprimed)
    (put-unprimed (win-puts may))
slot_bit-event p h (CopyIn s f j k n) g i t_sound range may =
    slot_bit-put (tables_at p h) f j g i (Live n) (subst IsUnprimed (sym may.null) tt) tt
slot_bit-event p h (Prime s f j) g i t_sound range may = slot_bit-prime p h s f j g i may
slot_bit-event p h (Finish s f j) g i t_sound range may =
    slot_bit-finish p (tables_at p h) f j g i may
slot_bit-event p h _ g i t_sound range may = omega arith

-- before any event no slot is finished
slot_bit-first :
    (p : Plan) → IsPlan p → (g i : ℕ) → IsSlot p g i → slot_bit (tables_at p []) g i ≡ 0
slot_bit-first p plan g i slot =
    ap bit (λ k. is_finished_slot (key-first p plan g i slot k) (value-first p plan g i slot k))

-- a slot is finished after an event if it was, or the event turned it, but not both
slot_bit-next :
    (p : Plan) (e : Event) (h : List Event) → IsPlan p → IsLegal p (e ∷ h) → (g i : ℕ)
    → IsSlot p g i
    → slot_bit (tables_at p (e ∷ h)) g i ≡ bit (turns_slot p h e g i) + slot_bit (tables_at p h) g i
slot_bit-next p e h plan legal g i slot =
    ap bit (λ k. is_finished_slot (key-frame p e h plan legal.1 g i slot k)
    (value-frame p e h plan legal g i slot k))
    ∙ slot_bit-event p h e g i (sound p h plan legal.0) legal.1 legal.2

-- so just one event turned a finished slot, and none another one
times_turned-is :
    (p : Plan) (h : List Event) → IsPlan p → IsLegal p h → (g i : ℕ) → IsSlot p g i
    → times_turned p h g i ≡ slot_bit (tables_at p h) g i
times_turned-is p [] plan legal g i slot = sym (slot_bit-first p plan g i slot)
times_turned-is p (e ∷ h) plan legal g i slot =
    ap (λ n. bit (turns_slot p h e g i) + n) (times_turned-is p h plan legal.0 g i slot)
    ∙ sym (slot_bit-next p e h plan legal g i slot)

-- ---- one table in one step

-- two tests may be made one after the other
cond-and : (a b : Bool) (c : ℕ) → cond (a && b) c 0 ≡ cond a (cond b c 0) 0
cond-and true b c = refl
cond-and false b c = refl

-- one seat does something, if a test holds
over_seats-of_seat :
    (seat n c : ℕ) (test : Bool) → seat < n → over_seats (λ s. cond (eqb seat s && test) c 0) n
    ≡ cond test c 0
over_seats-of_seat seat n c test below =
    over_seats-same _ _ n (λ s lt. cond-and (eqb seat s) test c)
    ∙ over_seats-one_at (λ s. cond test c 0) seat n below

-- something happens in one slot, if it is of this table
over_seats-of_slot :
    (table : Bool) (slot n : ℕ) → (table ≡ true → slot < n)
    → over_seats (λ i. bit (table && eqb slot i)) n ≡ bit table
over_seats-of_slot true slot n below = over_seats-one_at (λ i. 1) slot n (below refl)
over_seats-of_slot false slot n below = over_seats-zero n

-- a slot of a table that is this table is within it
in_same_table : (p : Plan) (f j g : ℕ) → IsSlot p f j → eqb f g ≡ true → j < size_of p g
in_same_table p f j g slot e = subst (λ x. j < size_of p x) (eqb-true f g e) slot.1

-- an event's seat is one of the plan's
pub seat-in_range : (p : Plan) (e : Event) → IsInRange p e → seat_of_event e < p.seats
seat-in_range p (Read s c r) range = range.0
seat-in_range p _ range = range.0

-- the slot that an event turned is one of the plan's
turned_slot-in_range :
    (p : Plan) (h : List Event) (e : Event) → IsInRange p e
    → IfSome (turned_slot p h e) (λ slot. IsSlot p slot.0 slot.1)
turned_slot-in_range p h (Kill s g i) range = range.1
turned_slot-in_range p h (Finish s g i) range = range.1
turned_slot-in_range p h (Prime s g i) range =
    let IsWithin = λ (slot : ℕ × ℕ). IsSlot p slot.0 slot.1 in
    elim (is_finished_by_priming ((tables_at p h).value g i)) as
    (λ b. IfSome (cond b (Some (g, i)) None) IsWithin) [
      | true ↦ range.1
      | false ↦ tt
    ]
turned_slot-in_range p h _ range = tt

-- one slot of a table is turned, if it is of this table
over_seats-of_turned :
    (p : Plan) (g : ℕ) (turned : Option (ℕ × ℕ)) → IfSome turned (λ slot. IsSlot p slot.0 slot.1)
    → over_seats (λ i. bit (is_this g i turned)) (size_of p g) ≡ bit (is_in g turned)
over_seats-of_turned p g None range = over_seats-zero (size_of p g)
over_seats-of_turned p g (Some slot) range =
    over_seats-of_slot (eqb slot.0 g) slot.1 (size_of p g) (in_same_table p slot.0 slot.1 g range)

-- a seat turns one slot of a table in an event, if the slot is of this table and the event the
-- seat's
length-turned_in :
    (p : Plan) (h : List Event) (e : Event) (s g : ℕ)
    → length (turned_in p h e s g) ≡ bit (eqb (seat_of_event e) s && is_in g (turned_slot p h e))
length-turned_in p h e s g = one (eqb (seat_of_event e) s) (turned_slot p h e)
  where
    if : (b : Bool) (i : ℕ) → length (cond b (i ∷ []) []) ≡ bit b
    if true i = refl
    if false i = refl

    one : (b : Bool) (slot : Option (ℕ × ℕ))
        → length (cond b (slot_in g slot) []) ≡ bit (b && is_in g slot)
    one false slot = refl
    one true None = refl
    one true (Some slot) = if (eqb slot.0 g) slot.1

-- in an event the seats turn as many slots of a table as turn there
turned_in-sum :
    (p : Plan) (h : List Event) (e : Event) (g : ℕ) → IsInRange p e
    → over_seats (λ s. length (turned_in p h e s g)) p.seats
    ≡ over_seats (λ i. bit (turns_slot p h e g i)) (size_of p g)
turned_in-sum p h e g range =
    over_seats-same _ (λ s. bit (eqb (seat_of_event e) s && is_in g (turned_slot p h e))) p.seats
    (λ s below. length-turned_in p h e s g)
    ∙ over_seats-of_seat (seat_of_event e) p.seats 1 (is_in g (turned_slot p h e))
    (seat-in_range p e range)
    ∙ sym (over_seats-of_turned p g (turned_slot p h e) (turned_slot-in_range p h e range))

-- one event more
turned_by-more :
    (p : Plan) (h : List Event) (e : Event) (s g : ℕ)
    → turned_by p (e ∷ h) s g ≡ length (turned_in p h e s g) + turned_by p h s g
turned_by-more p h e s g = length-append (turned_in p h e s g) (slots_turned p h s g)

-- the number of finished slots, as a sum
finished_among-sum : (t : Tables) (g n : ℕ) → finished_among t g n ≡ over_seats (slot_bit t g) n
finished_among-sum t g zero = refl
finished_among-sum t g (suc n) = ap (λ m. slot_bit t g n + m) (finished_among-sum t g n)

-- equal sums, of which both get equally much, stay equal
over_seats-step :
    (a b c d e : ℕ → ℕ) (m n : ℕ) → over_seats a m ≡ over_seats c n
    → over_seats b m ≡ over_seats d n
    → ((i : ℕ) → i < n → e i ≡ c i + d i)
    → over_seats (λ s. a s + b s) m ≡ over_seats e n
over_seats-step a b c d e m n first second each =
    omega (
      arith,
      over_seats-plus a b m,
      over_seats-plus c d n,
      over_seats-same e (λ i. c i + d i) n each,
    )

-- all seats together have turned as many slots of a table as are finished
turned_by-sum :
    (p : Plan) (h : List Event) → IsPlan p → IsLegal p h → (g : ℕ) → g < generations_of p
    → over_seats (λ s. turned_by p h s g) p.seats ≡ over_seats (slot_bit (tables_at p h) g)
    (size_of p g)
turned_by-sum p [] plan legal g within =
    let none = over_seats-same _ (λ i. 0) (size_of p g)
    (λ i lt. slot_bit-first p plan g i (within, lt)) in
    over_seats-zero p.seats ∙ sym (none ∙ over_seats-zero (size_of p g))
turned_by-sum p (e ∷ h) plan legal g within =
    over_seats-same _ (λ s. length (turned_in p h e s g) + turned_by p h s g) p.seats
    (λ s below. turned_by-more p h e s g)
    ∙ over_seats-step (λ s. length (turned_in p h e s g)) (λ s. turned_by p h s g)
    (λ i. bit (turns_slot p h e g i))
    (slot_bit (tables_at p h) g) (slot_bit (tables_at p (e ∷ h)) g) p.seats (size_of p g)
    (turned_in-sum p h e g legal.1) (turned_by-sum p h plan legal.0 g within)
    (λ i lt. slot_bit-next p e h plan legal g i (within, lt))

-- ---- counts

-- no event makes a seat count more slots than it turned
counts-own :
    (p : Plan) (h : List Event) (e : Event) (s g : ℕ) → MayFollow p h e
    → counted_by h s g ≤ turned_by p h s g
    → counts e s g + counted_by h s g ≤ turned_by p (e ∷ h) s g
counts-own p h (Count seat f c) s g may before =
    let own = may.own in
    let less : cond (eqb seat s && eqb f g) c 0 + counted_by h s g ≤ turned_by p h s g =
    at_slot (λ s g here. counted_by h s g ≤ turned_by p h s g
    → cond here c 0 + counted_by h s g ≤ turned_by p h s g)
    seat f s g (λ before. omega arith) (λ before. omega arith) before in
    omega (arith, less, turned_by-more p h (Count seat f c) s g)
counts-own p h e s g may before = omega (arith, before, turned_by-more p h e s g)

-- a seat counts no more slots than it turned
counted_by-own :
    (p : Plan) (h : List Event) → IsLegal p h → (s g : ℕ) → counted_by h s g ≤ turned_by p h s g
counted_by-own p [] legal s g = omega arith
counted_by-own p (e ∷ h) legal s g = counts-own p h e s g legal.2 (counted_by-own p h legal.0 s g)

-- so do all seats together
counted_by-all :
    (p : Plan) (h : List Event) → IsLegal p h → (g : ℕ)
    → over_seats (λ s. counted_by h s g) p.seats ≤ over_seats (λ s. turned_by p h s g) p.seats
counted_by-all p h legal g =
    over_seats-le (λ s. counted_by h s g) (λ s. turned_by p h s g) p.seats
    (λ s. counted_by-own p h legal s g)

-- and no more than the table has
counted_by-fits :
    (p : Plan) (h : List Event) → IsPlan p → IsLegal p h → (g : ℕ) → g < generations_of p
    → over_seats (λ s. counted_by h s g) p.seats ≤ size_of p g
counted_by-fits p h plan legal g within =
    let t = tables_at p h in
    omega (
      arith,
      counted_by-all p h legal g,
      turned_by-sum p h plan legal g within,
      over_seats-bit (λ i. is_finished_slot (t.key g i) (t.value g i)) (size_of p g),
    )

-- a table has fewer slots than a word can count
size-fits : (e n : ℕ) → e ≤ 28 → n ≤ 2 ^ e → n < 2 ^ 64
size-fits e n small fits = let less : 2 ^ e < 2 ^ 64 = pow-lt {i = e} {j = 64} (omega arith) in
    omega arith

-- adding to the done word doesn't wrap
done-add :
    (here : Bool) (word c all limit : ℕ) → all ≡ cond here c 0 + word → all < limit
    → cond here ((word + c) % limit) word ≡ all
done-add true word c all limit sum fits =
    let below : word + c < limit = omega arith in mod-eq_of_lt below ∙ omega arith
done-add false word c all limit sum fits = omega arith

-- an event that counts nothing leaves the sum
done-none : (a : ℕ → ℕ) (n word : ℕ) → word ≡ over_seats a n → word ≡ over_seats (λ s. 0 + a s) n
done-none a n word before = omega (arith, over_seats-plus (λ s. 0) a n, over_seats-zero n)

-- where the done word is what the seats counted, it still is after an event
word_after-counted :
    (p : Plan) (h : List Event) (e : Event) (g word : ℕ) → IsInRange p e
    → word ≡ over_seats (λ s. counted_by h s g) p.seats
    → over_seats (λ s. counts e s g + counted_by h s g) p.seats < 2 ^ 64
    → word_after p e (Header g 2) word ≡ over_seats (λ s. counts e s g + counted_by h s g) p.seats
word_after-counted p h (Count seat f c) g word range before fits =
    let mine = λ (s : ℕ). cond (eqb seat s && eqb f g) c 0 in
    let sum : over_seats (λ s. mine s + counted_by h s g) p.seats ≡ cond (eqb f g) c 0 + word =
    over_seats-plus mine (λ s. counted_by h s g) p.seats
    ∙ (λ k. over_seats-of_seat seat p.seats c (eqb f g) range.0 k + sym before k) in
    done-add (eqb f g) word c _ (2 ^ 64) sum fits
word_after-counted p h _ g word range before fits =
    done-none (λ s. counted_by h s g) p.seats word before

-- the done word is what all seats counted
counted-done :
    (p : Plan) (h : List Event) → IsPlan p → IsLegal p h → (g : ℕ) → g < generations_of p
    → (tables_at p h).counted g ≡ over_seats (λ s. counted_by h s g) p.seats
counted-done p [] plan legal g within = word-first p plan (Header g 2) (within, omega arith)
    ∙ sym (over_seats-zero p.seats)
counted-done p (e ∷ h) plan legal g within =
    word-frame p plan h (Header g 2) (within, omega arith) e legal.1
    ∙ word_after-counted p h e g ((tables_at p h).counted g) legal.1
    (counted-done p h plan legal.0 g within)
    (size-fits (slice_index p.exponents g) _ (plan.sizes g 0 within).1
    (counted_by-fits p (e ∷ h) plan legal g within))

-- where as many slots are finished as there are, each is
finished_among-all :
    (t : Tables) (g n : ℕ) → n ≤ finished_among t g n → (i : ℕ) → i < n → IsFinished t g i
finished_among-all t g n enough i below =
    let bits : n ≤ over_seats (slot_bit t g) n = omega (arith, finished_among-sum t g n) in
    is_finished-true t g i (over_seats-all (λ j. is_finished_slot (t.key g j) (t.value g j))
    n bits i below)

pub counted_once : CountedOnce
counted_once p plan h legal g within =
    let t = tables_at p h in
    let turned = turned_by-sum p h plan legal g within
    ∙ sym (finished_among-sum t g (size_of p g)) in
    let done = counted-done p h plan legal g within in
    let less : t.counted g ≤ finished_among t g (size_of p g) =
    omega (arith, counted_by-all p h legal g) in
    record {
      once = λ i slot is. times_turned-is p h plan legal g i slot
          ∙ ap bit (is_finished_slot-true _ _ is);
      never = λ i slot isnt.
          times_turned-is p h plan legal g i slot
          ∙ ap bit (false_from_ne_true _ (λ e. isnt (is_finished-true t g i e)));
      turned = turned;
      own = λ s. counted_by-own p h legal s g;
      done = done;
      within = less;
      fits = omega (arith, done, counted_by-fits p h plan legal g within);
      whole = λ all. finished_among-all t g (size_of p g) (omega arith);
    }
