use Rattle.std.proofs.Common.{◌∙◌, ◌<◌, ap, cond, eqb, subst, sym, slice_set}
use Rattle.nb_core.specs.Plans.{Key, key_place, word_count}
use Rattle.nb_core.specs.States.{IsKeyState, key_word}
use Rattle.nb_core.specs.Tables.{words_of}
use Rattle.nb_core.specs.declared.events.Event.TheVariants.{Claim}
use Rattle.nb_table.proofs.Events.{claim_events}
use Rattle.nb_table.specs.Steps.{Can}
use Rattle.nb_table.proofs.Keys.{before-value, can-claim, key-won}
use Rattle.nb_table.proofs.chain.Chain.claim_key_at.Goals as goal
use Rattle.nb_core.proofs.Theorems.{indices_are_distinct}

pub exchanges-found-requires-clause-within : goal.exchanges-found-requires-clause-within
exchanges-found-requires-clause-within c =
    let p = c.args.self.now.shape in
    let at_index = before-value p c.args.at.g c.args.at.i c.requires.slot.value in
    subst (λ index. index < word_count p) (sym at_index)
    ((indices_are_distinct p c.requires.own.plan).below (Key c.args.at.g c.args.at.i) c.requires.slot.slot)

pub exchanges-found-requires-clause-can : goal.exchanges-found-requires-clause-can
exchanges-found-requires-clause-can c =
    let p = c.args.self.now.shape in
    let seat = c.args.seat.now in
    let word = c.get-word.result in
    let at_index = before-value p c.args.at.g c.args.at.i c.requires.slot.value in
    let events = claim_events seat.number c.args.at.g c.args.at.i c.args.key in
    subst (λ index. Can p events seat.number seat.seen index
    (λ found. cond (eqb found 0) word found)) (sym at_index)
    (can-claim p seat.number c.args.at.g seat.seen c.args.at.i c.args.key word c.requires.slot.slot
    c.requires.installed c.requires.way
    (subst IsKeyState c.of.ensures c.get-word.ensures.in_range)
    (c.get-word.ensures.word ∙ ap key_word c.of.ensures))

pub returns-clause-won : goal.returns-clause-won
returns-clause-won c = λ empty.
    let p = c.args.self.now.shape in
    let e = Claim c.args.seat.now.number c.args.at.g c.args.at.i c.args.key in
    let at_index = before-value p c.args.at.g c.args.at.i c.requires.slot.value in
    let word = c.get-word.result in
    let won =
    key-won p e c.args.at.g c.args.at.i _ _ _ _ at_index c.exchanges-found.ensures c.state.result word
    c.requires.own.plan c.requires.slot.slot
    (λ h. ap (slice_set (words_of p h) (key_place p c.args.at.g c.args.at.i))
    (sym (c.get-word.ensures.word ∙ ap key_word c.of.ensures)))
    (ap key_word c.state.ensures ∙ c.new.ensures.back) empty in
    (won.0, won.1 ∙ c.get-word.ensures.back ∙ c.of.ensures)
