-- What the examples of wrong events break.
use Rattle.std.proofs.Common.{◌≡◌, ℕ, true, false, Some, None, ap, sym, refl}
use Rattle.std.proofs.lemmas.Bool.{both_ways, eqb-false}
use Rattle.nb_core.specs.declared.calls.Reply.{Reply}
use Rattle.nb_moving.specs.Examples.{BreaksSeals, MayNotFollow, Wrong, is_begun, close_over_number, copy_of_another, copy_over_gone, copy_too_far, copy_twice, full_before_begin, hasty_write, link_back, link_from_nowhere, mark_before_copy, miss_in_full, no_second_look, none_at_closed, none_at_frozen, put_over_frozen, put_without_close, read_too_far, seal_before_begin, seal_out_of_order, seal_over_frozen, second_link, stale_reply, write_in_sealed}
use Rattle.nb_moving.specs.Moving.{IsLegal, SealsHold}
use Rattle.nb_moving.specs.declared.events.Link.{Link}
use Rattle.nb_moving.specs.declared.events.State.TheVariants.{Never, Number, Gone}
use Rattle.nb_moving.proofs.Tests.{differ, follows, legal, passes, seals_hold, unknown, unseen}

pub legal_before : (w : Wrong) → passes w.before ≡ true → IsLegal w.before
legal_before w = legal w.before

pub seals_before : (w : Wrong) → passes w.before ≡ true → SealsHold w.before
seals_before w = seals_hold w.before

fails : false ≡ true → ⊥
fails e = both_ways false refl e

set-unset : (link : Link) → Some link ≡ None → ⊥
set-unset link e = cc

other-number : (m n : ℕ) → (m ≡ n → ⊥) → Some m ≡ Some n → ⊥
other-number m n other e = other (cc)

none-number : (n : ℕ) → None ≡ Some n → ⊥
none-number n e = cc

nine-ten : ◌≡◌ {A = ℕ} 9 10 → ⊥
nine-ten e = eqb-false 9 10 refl e

pub copy_over_gone_refused : MayNotFollow copy_over_gone
copy_over_gone_refused m = differ Gone Never refl m.1

pub copy_twice_refused : MayNotFollow copy_twice
copy_twice_refused m = differ (Number 10) Never refl m.1

pub no_second_look_refused : MayNotFollow no_second_look
no_second_look_refused m = unseen no_second_look.before 5 0 2 10 refl m.0

pub copy_of_another_refused : MayNotFollow copy_of_another
copy_of_another_refused m = unseen copy_of_another.before 5 0 1 11 refl m.0

pub copy_too_far_refused : MayNotFollow copy_too_far
copy_too_far_refused m = unseen copy_too_far.before 5 0 2 10 refl m.0

pub mark_before_copy_refused : MayNotFollow mark_before_copy
mark_before_copy_refused m = fails m.2

pub put_over_frozen_refused : MayNotFollow put_over_frozen
put_over_frozen_refused m = fails m.unfrozen

pub hasty_write_refused : MayNotFollow hasty_write
hasty_write_refused m = fails m.home

pub put_without_close_refused : MayNotFollow put_without_close
put_without_close_refused m = fails m.home

pub stale_reply_refused : MayNotFollow stale_reply
stale_reply_refused m = other-number 9 10 nine-ten (ap (λ (r : Reply). r.before) m.replies)

pub none_at_closed_refused : MayNotFollow none_at_closed
none_at_closed_refused m = m.unmarked true refl

pub none_at_frozen_refused : MayNotFollow none_at_frozen
none_at_frozen_refused m = none-number 10 (ap (λ (r : Reply). r.before) m.answers)

pub miss_in_full_refused : MayNotFollow miss_in_full
miss_in_full_refused m = set-unset _ (m.last refl)

pub read_too_far_refused : MayNotFollow read_too_far
read_too_far_refused m = fails m.reached

pub close_over_number_refused : MayNotFollow close_over_number
close_over_number_refused m = differ (Number 10) Gone refl m

pub full_before_begin_refused : MayNotFollow full_before_begin
full_before_begin_refused m = fails m.0

pub seal_before_begin_refused : MayNotFollow seal_before_begin
seal_before_begin_refused m = fails m.begun

pub seal_over_frozen_refused : MayNotFollow seal_over_frozen
seal_over_frozen_refused m = none-number 10 (sym (m.empty 5))

pub seal_out_of_order_refused : MayNotFollow seal_out_of_order
seal_out_of_order_refused m = fails (m.first 5 refl)

pub second_link_refused : MayNotFollow second_link
second_link_refused m = set-unset _ m.once

pub link_back_refused : MayNotFollow link_back
link_back_refused m = both_ways true (m.new 0 0) refl

pub link_from_nowhere_refused : MayNotFollow link_from_nowhere
link_from_nowhere_refused m = unknown is_begun 2 m.there.0 refl m.there.1

pub write_in_sealed_breaks : BreaksSeals write_in_sealed
write_in_sealed_breaks =
    (follows write_in_sealed.before write_in_sealed.event refl, λ s. both_ways true s.1 refl)
