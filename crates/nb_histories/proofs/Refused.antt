-- What the examples of wrong events break.
use Rattle.std.proofs.Common.{◌≡◌, ◌∙◌, ℕ, zero, suc, ◌<◌, ⊎_elim, sym, ap, refl, Bool, true, false, not, ◌&&◌, ◌||◌, arith, cond}
use Rattle.std.proofs.lemmas.Bool.{and_parts, both_ways, eq-eqb, not-true, or_cases}
use Rattle.nb_core.specs.Calls.{is_past_max}
use Rattle.nb_core.specs.Log.{changed, holds_of}
use Rattle.nb_core.specs.Plans.{size_of}
use Rattle.nb_core.specs.Tables.{Tables, tables_at}
use Rattle.nb_core.specs.History.{IsLegal}
use Rattle.nb_core.proofs.Computed.{below_suc, no_true, number_at_map}
use Rattle.nb_histories.proofs.Legality.{is_null, passes, same_value}
use Rattle.nb_core.specs.Meaning.{is_claimed_by}
use Rattle.nb_histories.specs.Refusals.{MayNotFollow, MayNotReply, Wrong, overwriting_copy, overwriting_copy_of_a_newer_number, early_finish, early_finish_at_a_null, hasty_writer, double_count, double_count_by_one_seat, early_promotion, late_copier, late_copier_past_a_primed_tombstone, reused_key, stale_sum, stale_sum_replacing_what_stands, silent_overflow}
use Rattle.nb_histories.proofs.Passing.{is_null-true}
use Rattle.nb_histories.proofs.Replies.{passes_legal}
use Rattle.nb_core.specs.declared.calls.Change.TheVariants as change
use Rattle.nb_core.specs.declared.calls.Want.TheVariants.{Any}
use Rattle.nb_core.specs.declared.states.KeyState.{KeyState}
use Rattle.nb_core.specs.declared.states.KeyState.TheVariants.{Empty, Dead, Claimed}
use Rattle.nb_core.specs.declared.states.ValueState.{ValueState}
use Rattle.nb_core.specs.declared.states.ValueState.TheVariants.{Null, Live, Primed}

pub legal_before : (w : Wrong) → passes w.plan w.before ≡ true → IsLegal w.plan w.before
legal_before w = passes_legal w.plan w.before

-- ---- states that differ

live_not_null : (n : ℕ) → Live n ≡ Null → ⊥
live_not_null n e = cc

claimed_not_empty : (k : ℕ) → Claimed k ≡ Empty → ⊥
claimed_not_empty k e = cc

claimed_not_dead : (k : ℕ) → Claimed k ≡ Dead → ⊥
claimed_not_dead k e = cc

same_live : (a b : ℕ) → Live a ≡ Live b → a ≡ b
same_live a b e = cc

-- ---- values of a key

-- the values of the key's slots pass a test
abbrev values_pass : (ValueState → Bool) → Tables → ℕ → ℕ → ℕ → Bool
values_pass f t g k zero = true
values_pass f t g k (suc n) = (not (is_claimed_by k (t.key g n)) || f (t.value g n))
    && values_pass f t g k n

claimed_passes :
    (f : ValueState → Bool) (s : KeyState) (v : ValueState) (k : ℕ)
    → (not (is_claimed_by k s) || f v) ≡ true → s ≡ Claimed k → f v ≡ true
claimed_passes f s v k e h =
    let here : is_claimed_by k s ≡ true = rw h (eq-eqb k k refl) in
    ⊎_elim {C = f v ≡ true} (λ no. absurd (both_ways (is_claimed_by k s) (not-true _ no) here))
    (λ it. it) (or_cases (not (is_claimed_by k s)) (f v) e)

values_pass-true :
    (f : ValueState → Bool) (t : Tables) (g k n : ℕ) → values_pass f t g k n ≡ true → (i : ℕ)
    → i < n → t.key g i ≡ Claimed k → f (t.value g i) ≡ true
values_pass-true f t g k zero e = λ i h. absurd (omega arith)
values_pass-true f t g k (suc n) e =
    let a = and_parts (not (is_claimed_by k (t.key g n)) || f (t.value g n)) (values_pass f t g k n) e in
    below_suc (λ i. t.key g i ≡ Claimed k → f (t.value g i) ≡ true) n
    (claimed_passes f (t.key g n) (t.value g n) k a.0) (values_pass-true f t g k n a.1)

-- ---- the examples

pub overwriting_copy_refused : MayNotFollow overwriting_copy
overwriting_copy_refused m = live_not_null 10 m.null

pub overwriting_copy_of_a_newer_number_refused : MayNotFollow overwriting_copy_of_a_newer_number
overwriting_copy_of_a_newer_number_refused m = live_not_null 11 m.null

-- no slot of the key in the next table has a value
not_copied :
    (w : Wrong) (k : ℕ) → values_pass is_null (tables_at w.plan w.before) 1 k (size_of w.plan 1)
    ≡ true
    → (j slot : ℕ) → Claimed k ≡ Claimed j → slot < size_of w.plan 1
    → (tables_at w.plan w.before).key 1 slot ≡ Claimed j
    → ((tables_at w.plan w.before).value 1 slot ≡ Null → ⊥) → ⊥
not_copied w k none j slot same lt at some =
    some (is_null-true _ (values_pass-true is_null (tables_at w.plan w.before) 1 k
    (size_of w.plan 1) none slot lt (at ∙ sym same)))

pub early_finish_refused : MayNotFollow early_finish
early_finish_refused m = not_copied early_finish 0 refl m.key m.copied.slot m.claimed
    m.copied.in_table m.copied.is m.copied.some

pub early_finish_at_a_null_refused : MayNotFollow early_finish_at_a_null
early_finish_at_a_null_refused m = not_copied early_finish_at_a_null 0 refl m.key m.copied.slot
    m.claimed m.copied.in_table m.copied.is m.copied.some

pub hasty_writer_refused : MayNotFollow hasty_writer
hasty_writer_refused m = no_true (m.settled 0 (omega arith) m.claimed)

pub double_count_refused : MayNotFollow double_count
double_count_refused m = absurd (omega (arith, m.own))

pub double_count_by_one_seat_refused : MayNotFollow double_count_by_one_seat
double_count_by_one_seat_refused m = absurd (omega (arith, m.own))

pub early_promotion_refused : MayNotFollow early_promotion
early_promotion_refused m = ⊎_elim (λ dead. claimed_not_dead 0 dead) (λ final. no_true final)
    (m.complete 0 (omega arith))

-- no slot of the key in the table below the last is primed with the number
not_primed :
    (w : Wrong) (n : ℕ) → values_pass (λ v. not (same_value v (Primed n)))
    (tables_at w.plan w.before) 1 0 (size_of w.plan 1) ≡ true
    → same_value (Primed n) (Primed n) ≡ true
    → (slot : ℕ) → slot < size_of w.plan 1 → (tables_at w.plan w.before).key 1 slot ≡ Claimed 0
    → (tables_at w.plan w.before).value 1 slot ≡ Primed n → ⊥
not_primed w n none same slot lt at primed =
    let other = not-true _ (values_pass-true (λ v. not (same_value v (Primed n)))
    (tables_at w.plan w.before) 1 0 (size_of w.plan 1) none slot lt at) in
    both_ways (same_value (Primed n) (Primed n)) (ap (λ v. same_value v (Primed n)) (sym primed)
    ∙ other) same

pub late_copier_refused : MayNotFollow late_copier
late_copier_refused m = not_primed late_copier 10 refl refl m.primed.0 m.primed.1 m.primed.2
    m.primed.3

pub late_copier_past_a_primed_tombstone_refused : MayNotFollow late_copier_past_a_primed_tombstone
late_copier_past_a_primed_tombstone_refused m =
    not_primed late_copier_past_a_primed_tombstone 10 refl refl m.primed.0 m.primed.1 m.primed.2
    m.primed.3

pub reused_key_refused : MayNotFollow reused_key
reused_key_refused m = claimed_not_empty 0 m.empty

pub stale_sum_refused : MayNotFollow stale_sum
stale_sum_refused m = absurd (omega (arith, same_live 8 5 m.stands))

pub stale_sum_replacing_what_stands_refused : MayNotFollow stale_sum_replacing_what_stands
stale_sum_replacing_what_stands_refused m = absurd (omega (arith, same_live 7 10 m.exchange.2.0))

-- whether the add of 1 overflows where this number stands at its key
pub silent_overflow_refused : MayNotReply silent_overflow
silent_overflow_refused m =
    both_ways true (ap (λ now. cond (holds_of Any now) (is_past_max (changed (change.Add 1) now))
    false) (sym (number_at_map silent_overflow.before 0)) ∙ m.1) refl
