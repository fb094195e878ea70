use Rattle.std.proofs.Common.{◌∙◌, Some, ◌<◌, cond, eqb, ap, sym, subst}
use Rattle.nb_core.specs.Plans.{value_place, word_count}
use Rattle.nb_table.proofs.Events.{copy_events}
use Rattle.nb_table.specs.Steps.{Can, Stepped}
use Rattle.nb_table.proofs.Values.{can-copy, copy-lost, copy-won, found-is, value-within}
use Rattle.nb_table.proofs.chain.Chain.copy_in.Goals as goal

pub exchanges-found-requires-clause-within : goal.exchanges-found-requires-clause-within
exchanges-found-requires-clause-within c =
    let p = c.args.self.now.shape in
    let index = c.value_place-index.ensures
    ∙ ap (λ v. value_place v.shape c.args.g c.args.i) c.self.view_is in
    subst (λ x. x < word_count p) (sym index)
    (value-within p c.requires.own.plan c.args.g c.args.i c.requires.slot)

pub exchanges-found-requires-clause-can : goal.exchanges-found-requires-clause-can
exchanges-found-requires-clause-can c =
    let p = c.args.self.now.shape in
    let seat = c.args.seat.now in
    let index = c.value_place-index.ensures
    ∙ ap (λ v. value_place v.shape c.args.g c.args.i) c.self.view_is in
    subst (λ x. Can p (copy_events seat.number c.args.g c.args.i c.args.key c.args.number)
    seat.number seat.seen x (λ found. cond
    (eqb found 0) c.get-word.result found)) (sym index)
    (can-copy p seat.number
    seat.seen c.args.g c.args.i c.args.key c.args.number
    c.get-word.result c.requires.slot (c.get-word.ensures.back ∙ ap Some c.of.ensures)
    c.requires.claimed
    c.requires.source)

pub lawful-requires : goal.lawful-requires
lawful-requires c =
    let p = c.args.self.now.shape in
    let events = copy_events c.args.seat.now.number c.args.g c.args.i c.args.key c.args.number in
    let index = c.value_place-index.ensures
    ∙ ap (λ v. value_place v.shape c.args.g c.args.i) c.self.view_is in
    let step = subst (λ x. Stepped p events x c.args.seat.now c.exchanges-found.result
    c.exchanges-found.new.seat) index
    c.exchanges-found.ensures in
    found-is p c.requires.own.plan events c.args.seat.now c.exchanges-found.result
    c.exchanges-found.new.seat c.args.g c.args.i c.requires.slot step

pub returns-clause-won : goal.returns-clause-won
returns-clause-won c =
    let p = c.args.self.now.shape in
    let events = copy_events c.args.seat.now.number c.args.g c.args.i c.args.key c.args.number in
    let index = c.value_place-index.ensures
    ∙ ap (λ v. value_place v.shape c.args.g c.args.i) c.self.view_is in
    let step = subst (λ x. Stepped p events x c.args.seat.now c.exchanges-found.result
    c.exchanges-found.new.seat) index
    c.exchanges-found.ensures in
    copy-won p c.requires.own.plan c.args.seat.now c.exchanges-found.result
    c.exchanges-found.new.seat c.args.g c.args.i c.args.key c.args.number c.requires.slot step
    c.state.result (c.lawful.ensures.decodes ∙ ap Some (sym c.state.ensures))
    c.get-word.result (c.get-word.ensures.back ∙ ap Some c.of.ensures)

pub returns-clause-lost : goal.returns-clause-lost
returns-clause-lost c =
    let p = c.args.self.now.shape in
    let events = copy_events c.args.seat.now.number c.args.g c.args.i c.args.key c.args.number in
    let index = c.value_place-index.ensures
    ∙ ap (λ v. value_place v.shape c.args.g c.args.i) c.self.view_is in
    let step = subst (λ x. Stepped p events x c.args.seat.now c.exchanges-found.result
    c.exchanges-found.new.seat) index
    c.exchanges-found.ensures in
    copy-lost p c.requires.own.plan c.args.seat.now c.exchanges-found.result
    c.exchanges-found.new.seat c.args.g c.args.i c.args.key c.args.number c.requires.slot step
    c.state.result (c.lawful.ensures.decodes ∙ ap Some (sym c.state.ensures))
