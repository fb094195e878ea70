use Rattle.std.proofs.Common.{◌∙◌, ◌≡◌, ◌<◌, Some, cond, eqb, ap, sym, subst, subst₂}
use Rattle.nb_core.specs.Plans.{value_place, word_count}
use Rattle.nb_core.specs.States.{shown_by_value, value_word}
use Rattle.nb_table.proofs.Events.{win_events}
use Rattle.nb_table.specs.Chains.{Extended, seen_by}
use Rattle.nb_table.specs.Events.{read}
use Rattle.nb_table.specs.Steps.{Can, Stepped}
use Rattle.nb_table.proofs.Values.{found-is, value-within}
use Rattle.nb_table.proofs.Winning.{can-win, win-lost, win-won, wins-of}
use Rattle.nb_table.proofs.chain.Chain.win_value_at.Goals as goal
use Rattle.nb_table.proofs.chain.Chain.win_value_at.Goals.{After-exchanges-found}
use Rattle.nb_core.proofs.Theorems.{codings}

pub exchanges-found-requires-clause-within : goal.exchanges-found-requires-clause-within
exchanges-found-requires-clause-within c =
    let p = c.args.self.now.shape in
    let index = c.requires.slot.value in
    subst (λ x. x < word_count p) (sym index)
    (value-within p c.requires.own.plan c.args.at.g c.args.at.i c.requires.slot.slot)

pub exchanges-found-requires-clause-can : goal.exchanges-found-requires-clause-can
exchanges-found-requires-clause-can c =
    let p = c.args.self.now.shape in
    let seat = c.args.seat.now in
    let index = c.requires.slot.value in
    let back = c.get-new.ensures.back ∙ ap Some c.of.ensures in
    let events = wins-of seat.number c.args.at.g c.args.at.i c.get-old.result c.get-new.result c.args.from
    c.args.to c.args.call c.get-old.ensures.back back in
    let words = subst₂ (λ old new. Can p
    (win_events seat.number c.args.at.g c.args.at.i c.args.from c.args.to c.args.call) seat.number
    seat.seen (value_place p c.args.at.g c.args.at.i) (λ found. cond (eqb found old) new found))
    (sym c.get-old.ensures.word) (sym (c.get-new.ensures.word ∙ ap value_word c.of.ensures))
    (can-win p seat.number seat.seen c.args.at.g c.args.at.i c.args.from c.args.to c.args.call
    c.requires.slot.slot (codings.word_of_state c.get-old.result c.args.from c.get-old.ensures.back).1
    (codings.word_of_state c.get-new.result c.args.to back).1 c.known.ensures c.requires.claimed
    c.requires.unprimed c.requires.reached c.requires.exchange) in
    subst₂ (λ x told. Can p told seat.number seat.seen x
    (λ found. cond (eqb found c.get-old.result) c.get-new.result found)) (sym index) (sym events)
    words

step :
    (c : After-exchanges-found)
    → Stepped c.args.self.now.shape
    (win_events c.args.seat.now.number c.args.at.g c.args.at.i c.args.from c.args.to c.args.call)
    (value_place c.args.self.now.shape c.args.at.g c.args.at.i) c.args.seat.now
    c.exchanges-found.result c.exchanges-found.new.seat
step c =
    let p = c.args.self.now.shape in
    let seat = c.args.seat.now in
    let index = c.requires.slot.value in
    let events = wins-of seat.number c.args.at.g c.args.at.i c.get-old.result c.get-new.result c.args.from
    c.args.to c.args.call c.get-old.ensures.back (c.get-new.ensures.back ∙ ap Some c.of.ensures) in
    subst₂ (λ x told. Stepped p told x seat c.exchanges-found.result c.exchanges-found.new.seat)
    index events c.exchanges-found.ensures

pub lawful-requires : goal.lawful-requires
lawful-requires c =
    let found = (goal.at.lawful-requires c).After-exchanges-found in
    let seat = c.args.seat.now in
    found-is c.args.self.now.shape c.requires.own.plan
    (win_events seat.number c.args.at.g c.args.at.i c.args.from c.args.to c.args.call)
    seat c.exchanges-found.result c.exchanges-found.new.seat c.args.at.g c.args.at.i c.requires.slot.slot
    (step found)

pub returns-then-found-old-clause-won : goal.returns-then-found-old-clause-won
returns-then-found-old-clause-won c =
    let found = (goal.at.returns-then-found-old-clause-won c).After-exchanges-found in
    win-won c.args.self.now.shape c.requires.own.plan c.args.seat.now c.exchanges-found.result
    c.exchanges-found.new.seat c.args.at.g c.args.at.i c.args.from c.args.to c.args.call c.requires.slot.slot
    (step found)
    (codings.word_of_state c.get-new.result c.args.to
    (c.get-new.ensures.back ∙ ap Some c.of.ensures)).1
    (c.if-found-old.true ∙ c.get-old.ensures.word)

pub returns-else-found-old-clause-lost : goal.returns-else-found-old-clause-lost
returns-else-found-old-clause-lost c =
    let found = (goal.at.returns-else-found-old-clause-lost c).After-exchanges-found in
    let p = c.args.self.now.shape in
    let seat = c.args.seat.now in
    let new = c.exchanges-found.new.seat in
    let other = λ (same : c.exchanges-found.result ≡ value_word c.args.from).
    c.if-found-old.false (same ∙ sym c.get-old.ensures.word) in
    let lost = subst
    (λ v. Extended p seat new (read seat.number c.args.call (shown_by_value v)) 1
    × ((seen_by p new).value c.args.at.g c.args.at.i ≡ v)) (sym c.lawful.ensures.value)
    (win-lost p c.requires.own.plan seat c.exchanges-found.result new c.args.at.g c.args.at.i
    c.args.from c.args.to c.args.call c.requires.slot.slot (step found) other) in
    (λ same. other (sym c.lawful.ensures.back ∙ ap value_word same), lost.0, lost.1)
