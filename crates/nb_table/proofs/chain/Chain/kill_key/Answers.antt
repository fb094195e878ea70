use Rattle.std.proofs.Common.{◌∙◌, ◌<◌, ap, cond, eqb, refl, subst, sym}
use Rattle.nb_core.specs.Plans.{Key, key_place, word_count}
use Rattle.nb_core.specs.States.{key_word}
use Rattle.nb_core.specs.declared.events.Event.TheVariants.{Kill}
use Rattle.nb_core.proofs.Theorems.{indices_are_distinct}
use Rattle.nb_table.proofs.Events.{kill_events}
use Rattle.nb_table.specs.Steps.{Can}
use Rattle.nb_table.proofs.Keys.{can-kill, key-lost, key-won}
use Rattle.nb_table.proofs.chain.Chain.kill_key.Goals as goal

pub exchanges-found-requires-clause-can : goal.exchanges-found-requires-clause-can
exchanges-found-requires-clause-can c =
    let p = c.args.self.now.shape in
    let seat = c.args.seat.now in
    let at_index = c.key_place-index.ensures
    ∙ ap (λ v. key_place v.shape c.args.g c.args.i) c.self.view_is in
    let events = kill_events seat.number c.args.g c.args.i in
    subst (λ index. Can p events seat.number seat.seen index (λ found. cond (eqb found 0) 1 found))
    (sym at_index)
    (can-kill p seat.number c.args.g seat.seen c.args.i c.requires.slot c.requires.growing)

pub returns-clause-won : goal.returns-clause-won
returns-clause-won c =
    let p = c.args.self.now.shape in
    let e = Kill c.args.seat.now.number c.args.g c.args.i in
    let at_index = c.key_place-index.ensures
    ∙ ap (λ v. key_place v.shape c.args.g c.args.i) c.self.view_is in
    key-won p e c.args.g c.args.i _ _ _ _ at_index c.exchanges-found.ensures c.state.result 1
    c.requires.own.plan c.requires.slot (λ h. refl) (ap key_word c.state.ensures ∙ c.new.ensures.back)

pub returns-clause-lost : goal.returns-clause-lost
returns-clause-lost c =
    let p = c.args.self.now.shape in
    let e = Kill c.args.seat.now.number c.args.g c.args.i in
    let at_index = c.key_place-index.ensures
    ∙ ap (λ v. key_place v.shape c.args.g c.args.i) c.self.view_is in
    key-lost p e c.args.g c.args.i _ _ _ _ at_index c.exchanges-found.ensures c.state.result
    (c.state.ensures ∙ c.new.ensures.state)

pub exchanges-found-requires-clause-within : goal.exchanges-found-requires-clause-within
exchanges-found-requires-clause-within c =
    let p = c.args.self.now.shape in
    let at_index = c.key_place-index.ensures
    ∙ ap (λ v. key_place v.shape c.args.g c.args.i) c.self.view_is in
    subst (λ index. index < word_count p) (sym at_index)
    ((indices_are_distinct p c.requires.own.plan).below (Key c.args.g c.args.i) c.requires.slot)
