use Rattle.std.proofs.Common.{◌∙◌, Some, ◌<◌, ap, sym, subst, bit_or}
use Rattle.nb_core.specs.Plans.{value_place, word_count}
use Rattle.nb_table.proofs.Events.{prime_events}
use Rattle.nb_table.specs.Steps.{Can, Stepped}
use Rattle.nb_table.proofs.Values.{can-prime, found-is, prime-lost, prime-won, value-within}
use Rattle.nb_table.proofs.chain.Chain.prime.Goals as goal

pub ors-requires-clause-within : goal.ors-requires-clause-within
ors-requires-clause-within c =
    let p = c.args.self.now.shape in
    let index = c.value_place-index.ensures
    ∙ ap (λ v. value_place v.shape c.args.g c.args.i) c.self.view_is in
    subst (λ x. x < word_count p) (sym index)
    (value-within p c.requires.own.plan c.args.g c.args.i c.requires.slot)

pub ors-requires-clause-can : goal.ors-requires-clause-can
ors-requires-clause-can c =
    let p = c.args.self.now.shape in
    let seat = c.args.seat.now in
    let index = c.value_place-index.ensures
    ∙ ap (λ v. value_place v.shape c.args.g c.args.i) c.self.view_is in
    subst (λ x. Can p (prime_events seat.number c.args.g c.args.i) seat.number seat.seen x
    (λ found. bit_or found 1)) (sym index)
    (can-prime p seat.number seat.seen c.args.g c.args.i
    c.requires.slot c.requires.growing
    c.requires.claimed)

pub lawful-requires : goal.lawful-requires
lawful-requires c =
    let p = c.args.self.now.shape in
    let events = prime_events c.args.seat.now.number c.args.g c.args.i in
    let index = c.value_place-index.ensures
    ∙ ap (λ v. value_place v.shape c.args.g c.args.i) c.self.view_is in
    let step = subst (λ x. Stepped p events x c.args.seat.now c.ors.result c.ors.new.seat)
    index c.ors.ensures in
    found-is p c.requires.own.plan events c.args.seat.now c.ors.result c.ors.new.seat
    c.args.g c.args.i c.requires.slot step

pub returns-clause-won : goal.returns-clause-won
returns-clause-won c =
    let p = c.args.self.now.shape in
    let events = prime_events c.args.seat.now.number c.args.g c.args.i in
    let index = c.value_place-index.ensures
    ∙ ap (λ v. value_place v.shape c.args.g c.args.i) c.self.view_is in
    let step = subst (λ x. Stepped p events x c.args.seat.now c.ors.result c.ors.new.seat)
    index c.ors.ensures in
    prime-won p c.requires.own.plan c.args.seat.now c.ors.result
    c.ors.new.seat c.args.g c.args.i c.requires.slot step
    c.state.result (c.lawful.ensures.decodes ∙ ap Some (sym c.state.ensures))

pub returns-clause-lost : goal.returns-clause-lost
returns-clause-lost c =
    let p = c.args.self.now.shape in
    let events = prime_events c.args.seat.now.number c.args.g c.args.i in
    let index = c.value_place-index.ensures
    ∙ ap (λ v. value_place v.shape c.args.g c.args.i) c.self.view_is in
    let step = subst (λ x. Stepped p events x c.args.seat.now c.ors.result c.ors.new.seat)
    index c.ors.ensures in
    prime-lost p c.requires.own.plan c.args.seat.now c.ors.result
    c.ors.new.seat c.args.g c.args.i c.requires.slot step
    c.state.result (c.lawful.ensures.decodes ∙ ap Some (sym c.state.ensures))
