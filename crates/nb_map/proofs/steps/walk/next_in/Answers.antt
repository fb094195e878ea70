use Rattle.std.proofs.Common.{◌≡◌, ◌≢◌, ℕ, ◌+◌, ◌-◌, ◌*◌, Option, None, Some, refl, sym, subst, arith, rules}
use Rattle.nb_core.specs.declared.calls.Call.TheVariants as call
use Rattle.nb_core.proofs.Theorems.{place_is}
use Rattle.nb_map.specs.Logs.{as_replied}
use Rattle.nb_map.specs.Calling.{HasMade}
use Rattle.nb_map.specs.Steps.{get_steps}
use Rattle.nb_map.specs.inside.Walking.{HasGone, IsFirstOf}
use Rattle.nb_map.specs.Steps.{meeting_steps}
use Rattle.nb_map.specs.declared.steps.walk.Place.TheVariants.{Slot}
use Rattle.nb_map.proofs.Bounds.{climb-bound}
use Rattle.nb_map.proofs.Made.{made-own, made-within}
use Rattle.nb_map.proofs.Passing.{gone-found, gone-missed, gone-on, gone-skipped}
use Rattle.nb_map.proofs.Walked.{first-still, gone-none, gone-within}
use Rattle.nb_map.proofs.steps.walk.next_in.Goals as goal
use Rattle.nb_map.proofs.steps.walk.next_in.Goals.{in-Some+in_default-get_at, in_default}

pub loop-i-init : goal.loop-i-init
loop-i-init c =
    gone-within c.args.chain.now 0 ((c.args.from - c.args.from)
    * meeting_steps c.args.chain.now.shape) (omega arith)
    (gone-none c.args.chain.now c.args.seat.now c.requires.own c.args.first
    (Slot c.args.g c.args.from))

pub first_seen-requires-clause-own : goal.first_seen-requires-clause-own
first_seen-requires-clause-own c = made-own c.args.chain.now c.requires.own
    (c.loop-i.invariant.made 0)

pub first_seen-requires-clause-first : goal.first_seen-requires-clause-first
first_seen-requires-clause-first c = first-still c.args.chain.now c.requires.own c.requires.first
    (c.loop-i.invariant.made 0)

pub get_at-requires : goal.get_at-requires
get_at-requires c =
    let chain = c.args.chain.now in
    let own = made-own chain (made-own chain c.requires.own (c.loop-i.invariant.made 0))
    (c.first_seen.ensures.made 0) in
    let first = c.in-Some.ensures.first in
    let place = (place_is chain.shape own.plan c.first_seen.new.seat.seen own.legal c.args.first
    c.in-Some.key c.args.g c.loop-i.i).0 first.0 in
    record {
      at = record {
        own = own;
        slot = record { slot = (c.requires.table, search rules); value = search rules };
        claimed = place.is;
        reached = first.1;
      };
    }

pub returns-in-Some-get_at-clause-gone : goal.returns-in-Some-get_at-clause-gone
returns-in-Some-get_at-clause-gone c =
    let chain = c.args.chain.now in
    let own = made-own chain c.requires.own (c.loop-i.invariant.made 0) in
    gone-on chain c.args.first c.args.g c.loop-i.i c.requires.table c.args.from c.loop-i.auto.i
    c.requires.own c.requires.first c.loop-i.invariant
    (gone-found chain c.args.first c.args.g c.loop-i.i c.requires.table own
    c.first_seen.ensures.made c.in-Some.ensures.first.0
    (made-within _ _ (omega (arith, climb-bound chain.shape own.plan c.args.g c.requires.table))
    c.in-Some-get_at.ensures.made))

-- what isn't some is none
none-of : (found : Option ℕ) → ((k : ℕ) → found ≢ Some k) → found ≡ None
none-of None not = refl
none-of (Some k) not = absurd (not k refl)

pub loop-i-preserved : goal.loop-i-preserved
loop-i-preserved c =
    let chain = c.args.chain.now in
    let p = chain.shape in
    let own = made-own chain c.requires.own (c.loop-i.invariant.made 0) in
    let is_first = first-still chain c.requires.own c.requires.first (c.loop-i.invariant.made 0) in
    elim c.match-first_seen.branch [
      | in-Some+in_default-get_at w ↦
          let none = none-of w.get_at.result w.in_default-get_at.not-Some in
          let read =
          subst (λ number. HasMade p (call.Get w.in-Some.key)
          c.first_seen.new.seat w.get_at.new.seat (as_replied (call.Get w.in-Some.key) number)
          (get_steps p))
          none (made-within _ _ (omega (arith, climb-bound p own.plan c.args.g c.requires.table))
          w.get_at.ensures.made) in
          subst (λ seat. HasGone p c.args.seat.now seat c.args.first (Slot c.args.g c.args.from)
          (Slot c.args.g (c.loop-i.i + 1)) None
          ((c.loop-i.i + 1 - c.args.from) * meeting_steps p))
          (sym w.seat-is)
          (gone-on chain c.args.first c.args.g c.loop-i.i c.requires.table c.args.from
          c.loop-i.auto.i c.requires.own c.requires.first
          c.loop-i.invariant
          (gone-missed chain c.args.first c.args.g c.loop-i.i c.requires.table own is_first
          c.first_seen.ensures.made w.in-Some.ensures.first.0 read))
      | in_default w ↦
          let none = none-of c.first_seen.result w.in_default.not-Some in
          let skipped = subst (IsFirstOf p c.first_seen.new.seat c.args.first c.args.g c.loop-i.i)
          none c.first_seen.ensures.first in
          subst (λ seat. HasGone p c.args.seat.now seat c.args.first (Slot c.args.g c.args.from)
          (Slot c.args.g (c.loop-i.i + 1)) None
          ((c.loop-i.i + 1 - c.args.from) * meeting_steps p))
          (sym w.seat-is)
          (gone-on chain c.args.first c.args.g c.loop-i.i c.requires.table c.args.from
          c.loop-i.auto.i c.requires.own c.requires.first
          c.loop-i.invariant
          (gone-skipped chain c.args.first c.args.g c.loop-i.i c.requires.table
          c.first_seen.ensures.made skipped))
    ]
