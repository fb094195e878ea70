use Rattle.std.proofs.Common.{◌∙◌, ℕ, ap, slice_index, subst, sym}
use Rattle.nb_core.specs.States.{shown_by_value, value_in_word}
use Rattle.nb_table.specs.Events.{reads}
use Rattle.nb_table.specs.Steps.{Can, Stepped}
use Rattle.nb_table.proofs.Loading.{can-load_value, load-sees}
use Rattle.nb_table.proofs.Values.{found-is}
use Rattle.nb_table.proofs.chain.Chain.load_value_word_at.Goals as goal

pub loads-requires-clause-can : goal.loads-requires-clause-can
loads-requires-clause-can c =
    let p = c.args.self.now.shape in
    let seat = c.args.seat.now in
    let g = c.args.at.g in
    let i = c.args.at.i in
    let events = λ (found : ℕ). reads seat.number c.args.call
    (λ k. shown_by_value (value_in_word found)) in
    let at_index = c.requires.slot.value in
    subst (λ index. Can p events seat.number seat.seen index (λ found. found)) (sym at_index)
    (can-load_value p seat.number seat.seen g c.requires.slot.slot.0
    i c.args.call c.requires.slot.slot c.known_if_some.ensures
    c.requires.reached
    c.requires.claimed)

pub lawful-requires : goal.lawful-requires
lawful-requires c =
    let p = c.args.self.now.shape in
    let seat = c.args.seat.now in
    let events = λ (found : ℕ). reads seat.number c.args.call
    (λ k. shown_by_value (value_in_word found)) in
    let index = c.requires.slot.value in
    let step = subst (λ x. Stepped p events x seat c.loads.result c.loads.new.seat)
    index c.loads.ensures in
    found-is p c.requires.own.plan events seat c.loads.result c.loads.new.seat
    c.args.at.g c.args.at.i c.requires.slot.slot step

pub returns-clause-found : goal.returns-clause-found
returns-clause-found c =
    let p = c.args.self.now.shape in
    let seat = c.args.seat.now in
    let index = c.requires.slot.value in
    let shown = λ (found : ℕ) (k : ℕ). shown_by_value (value_in_word found) in
    let step = c.loads.ensures in
    ap (λ t. t.value c.args.at.g c.args.at.i) (load-sees p seat.number c.args.call shown _ _ seat
    c.loads.new.seat
    step) ∙ ap value_in_word (ap (slice_index _) (sym index) ∙ step.word)
    ∙ sym c.lawful.ensures.value
