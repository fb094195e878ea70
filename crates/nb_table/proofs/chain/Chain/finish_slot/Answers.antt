use Rattle.std.proofs.Common.{◌∙◌, Some, ◌<◌, ap, sym, subst, bit_or}
use Rattle.nb_core.specs.Plans.{value_place, word_count}
use Rattle.nb_table.proofs.Events.{finish_events}
use Rattle.nb_table.specs.Steps.{Can, Stepped}
use Rattle.nb_table.proofs.Values.{can-finish, finish-held, finish-lost, finish-won, found-is, value-within}
use Rattle.nb_table.proofs.chain.Chain.finish_slot.Goals as goal
use Rattle.nb_table.proofs.chain.Chain.finish_slot.Goals.{After-ors}

pub ors-requires-clause-within : goal.ors-requires-clause-within
ors-requires-clause-within c =
    let p = c.args.self.now.shape in
    let index = c.value_place-index.ensures
    ∙ ap (λ v. value_place v.shape c.args.g c.args.i) c.self.view_is in
    subst (λ x. x < word_count p) (sym index)
    (value-within p c.requires.own.plan c.args.g c.args.i c.requires.slot)

pub ors-requires-clause-can : goal.ors-requires-clause-can
ors-requires-clause-can c =
    let p = c.args.self.now.shape in
    let seat = c.args.seat.now in
    let index = c.value_place-index.ensures
    ∙ ap (λ v. value_place v.shape c.args.g c.args.i) c.self.view_is in
    subst (λ x. Can p (finish_events seat.number c.args.g c.args.i)
    seat.number seat.seen x (λ found. bit_or found 2))
    (sym index)
    (can-finish p seat.number seat.seen c.args.g
    c.args.i c.requires.slot
    c.requires.copied)

-- what the step tells, at the value's place
step :
    (c : After-ors)
    → Stepped c.args.self.now.shape
    (finish_events c.args.seat.now.number c.args.g c.args.i)
    (value_place c.args.self.now.shape c.args.g c.args.i) c.args.seat.now c.ors.result c.ors.new.seat
step c =
    let p = c.args.self.now.shape in
    let events = finish_events c.args.seat.now.number c.args.g c.args.i in
    let index = c.value_place-index.ensures
    ∙ ap (λ v. value_place v.shape c.args.g c.args.i) c.self.view_is in
    subst (λ x. Stepped p events x c.args.seat.now c.ors.result c.ors.new.seat)
    index c.ors.ensures

pub lawful-requires : goal.lawful-requires
lawful-requires c =
    let ors = (goal.at.lawful-requires c).After-ors in
    found-is c.args.self.now.shape c.requires.own.plan
    (finish_events c.args.seat.now.number c.args.g c.args.i) c.args.seat.now c.ors.result
    c.ors.new.seat c.args.g c.args.i c.requires.slot (step ors)

pub returns : goal.returns
returns c =
    let ors = (goal.at.returns c).After-ors in
    let p = c.args.self.now.shape in
    let says = c.lawful.ensures.decodes ∙ ap Some (sym c.state.ensures) in
    record {
      held = finish-held p c.requires.own.plan c.args.seat.now c.ors.result c.ors.new.seat
          c.args.g c.args.i c.requires.slot (step ors) c.state.result says;
      won = finish-won p c.requires.own.plan c.args.seat.now c.ors.result c.ors.new.seat
          c.args.g c.args.i c.requires.slot (step ors) c.state.result says;
      lost = finish-lost p c.requires.own.plan c.args.seat.now c.ors.result c.ors.new.seat
          c.args.g c.args.i c.requires.slot (step ors) c.state.result says;
    }
