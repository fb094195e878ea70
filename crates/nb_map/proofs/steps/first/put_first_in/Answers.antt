use Rattle.std.proofs.Common.{◌≡◌, ◌∙◌, ℕ, ◌+◌, ◌≤◌, ◌<◌, [], ap, refl, subst, sym, arith, rules}
use Rattle.nb_core.specs.Tables.{IsInstalled}
use Rattle.nb_core.specs.declared.calls.Call.{Call}
use Rattle.nb_table.specs.Chains.{seen_by}
use Rattle.nb_map.proofs.FirstHome.{first-sooner}
use Rattle.nb_map.proofs.Made.{made-own, made-within}
use Rattle.nb_map.proofs.OnPath.{at-home, slot-is, slot-of_path}
use Rattle.nb_map.proofs.Rungs.{at-slot, at-stays}
use Rattle.nb_map.proofs.Searched.{made-then, table-within}
use Rattle.nb_map.proofs.Straight.{at-up-to}
use Rattle.nb_map.specs.Calling.{HasMade}
use Rattle.nb_map.specs.NamedCalls.{put_if_absent_of}
use Rattle.nb_map.specs.Steps.{search_steps}
use Rattle.nb_map.specs.inside.Climbing.{IsAt, IsVisitHere, made_by, rung_at}
use Rattle.nb_map.specs.inside.Firsts.{first_made}
use Rattle.nb_map.proofs.steps.first.put_first_in.Goals as goal
use Rattle.nb_map.proofs.steps.first.put_first_in.Goals.{After-takes_home}

pub takes_home-requires-clause-home : goal.takes_home-requires-clause-home
takes_home-requires-clause-home c =
    slot-of_path c.shape.ensures refl c.path.ensures c.slot-home.ensures

-- after the look at the home slot the put may begin in the first table
at-first :
    (c : After-takes_home)
    → IsAt c.args.chain.now (put_if_absent_of c.args.key c.args.number) c.takes_home.new.seat
    (rung_at 0)
at-first c =
    at-up-to c.args.chain.now 0
    (made-own c.args.chain.now c.requires.own (c.takes_home.ensures.made c.args.number))
    (omega arith) (put_if_absent_of c.args.key c.args.number)

-- ---- the home slot is the key's

pub first_at-requires-clause-at : goal.first_at-requires-clause-at
first_at-requires-clause-at c =
    let t = seen_by c.args.chain.now.shape c.takes_home.new.seat in
    let home = c.slot-home.result in
    let place = slot-of_path {g = 0} c.shape.ensures refl c.path.ensures c.slot-home.ensures in
    at-home c.args.chain.now place
    (at-first (goal.at.first_at-requires-clause-at c).After-takes_home)
    (ap (t.key home.g) (slot-is place) ∙ c.takes_home.ensures.claimed c.if-takes_home.true)

pub returns-then-takes_home-clause-made : goal.returns-then-takes_home-clause-made
returns-then-takes_home-clause-made c =
    made-within _ _ (omega arith)
    (made-then c.requires.own (c.takes_home.ensures.made c.args.number) c.first_at.ensures.made)

pub returns-then-takes_home-clause-first : goal.returns-then-takes_home-clause-first
returns-then-takes_home-clause-first c =
    first-sooner c.args.chain.now.shape c.args.key c.args.number c.args.seat.now
    c.takes_home.new.seat c.first_at.new.seat c.first_at.result
    (c.takes_home.ensures.made c.args.number).grown.number c.first_at.ensures.first

-- ---- it isn't

pub find-requires : goal.find-requires
find-requires c = record { at = at-first (goal.at.find-requires c).After-takes_home }

pub first_at-requires-in-Ok-clause-at : goal.first_at-requires-in-Ok-clause-at
first_at-requires-in-Ok-clause-at c =
    at-slot c.args.chain.now c.in-Ok.i c.value_place-value.result c.value_place-value.ensures
    (at-stays c.args.chain.now
    (at-first (goal.at.first_at-requires-in-Ok-clause-at c).After-takes_home)
    c.in-Ok.ensures.made) c.in-Ok.ensures.found

pub returns-in-Ok-clause-made : goal.returns-in-Ok-clause-made
returns-in-Ok-clause-made c =
    let look = c.takes_home.ensures.made c.args.number in
    made-within _ _ (omega arith)
    (made-then c.requires.own look
    (made-then (made-own c.args.chain.now c.requires.own look) c.in-Ok.ensures.made
    c.first_at-in-Ok.ensures.made))

pub returns-in-Ok-clause-first : goal.returns-in-Ok-clause-first
returns-in-Ok-clause-first c =
    first-sooner c.args.chain.now.shape c.args.key c.args.number c.args.seat.now c.find.new.seat
    c.first_at-in-Ok.new.seat c.first_at-in-Ok.result
    (c.in-Ok.ensures.made.grown.number ∙ (c.takes_home.ensures.made c.args.number).grown.number)
    c.first_at-in-Ok.ensures.first

pub returns-in-Err-Refused-clause-made : goal.returns-in-Err-Refused-clause-made
returns-in-Err-Refused-clause-made c =
    made-within _ _ (omega arith)
    (made-then c.requires.own (c.takes_home.ensures.made c.args.number)
    (subst (λ visit. HasMade c.args.chain.now.shape (put_if_absent_of c.args.key c.args.number)
    c.takes_home.new.seat c.find.new.seat
    (made_by (put_if_absent_of c.args.key c.args.number) visit)
    (search_steps c.args.chain.now.shape 0)) c.in-Err-Refused.field-0-is
    c.in-Err-Refused.ensures.made))

-- there is no table above
pub unreachable-requires-in-Err-Above : goal.unreachable-requires-in-Err-Above
unreachable-requires-in-Err-Above c =
    let chain = c.args.chain.now in
    let seat = c.find.new.seat in
    let look = c.takes_home.ensures.made c.args.number in
    let own = made-own chain (made-own chain c.requires.own look) c.in-Err-Above.ensures.made in
    let above = subst (IsVisitHere chain.shape (put_if_absent_of c.args.key c.args.number) seat 0)
    c.in-Err-Above.field-0-is c.in-Err-Above.ensures.found in
    let less = table-within chain seat own 1 above.0.1 in
    omega (arith, less, c.requires.one)
