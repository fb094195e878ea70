use Rattle.std.proofs.Common.{◌∙◌, ◌<◌, ℕ, ap, slice_index, subst, sym}
use Rattle.nb_core.specs.Plans.{Key, word_count}
use Rattle.nb_core.specs.States.{key_state}
use Rattle.nb_table.specs.Events.{reads, shown_by_key}
use Rattle.nb_table.specs.Steps.{Can}
use Rattle.nb_table.proofs.Keys.{before-value}
use Rattle.nb_table.proofs.Loading.{can-load_key, load-sees}
use Rattle.nb_core.proofs.Theorems.{indices_are_distinct}
use Rattle.nb_table.proofs.chain.Chain.load_key_word_at.Goals as goal

pub loads-requires-clause-within : goal.loads-requires-clause-within
loads-requires-clause-within c =
    let p = c.args.self.now.shape in
    subst (λ index. index < word_count p) (sym (before-value p c.args.at.g c.args.at.i c.requires.slot.value))
    ((indices_are_distinct p c.requires.own.plan).below (Key c.args.at.g c.args.at.i)
    c.requires.slot.slot)

pub loads-requires-clause-can : goal.loads-requires-clause-can
loads-requires-clause-can c =
    let p = c.args.self.now.shape in
    let seat = c.args.seat.now in
    let events = λ (found : ℕ). reads seat.number c.args.call
    (shown_by_key p c.args.at.g c.args.at.i (key_state found)) in
    let at_index = before-value p c.args.at.g c.args.at.i c.requires.slot.value in
    subst (λ index. Can p events seat.number seat.seen index (λ found. found)) (sym at_index)
    (can-load_key p seat.number seat.seen c.args.at.g
    c.requires.slot.slot.0 c.args.at.i c.args.call c.requires.slot.slot c.known_if_some.ensures
    c.requires.reached
    c.requires.on_path)

pub returns-clause-found : goal.returns-clause-found
returns-clause-found c =
    let p = c.args.self.now.shape in
    let seat = c.args.seat.now in
    let at_index = before-value p c.args.at.g c.args.at.i c.requires.slot.value in
    let events = λ (found : ℕ). shown_by_key p c.args.at.g c.args.at.i (key_state found) in
    let step = c.loads.ensures in
    ap (λ t. t.key c.args.at.g c.args.at.i) (load-sees p seat.number c.args.call events _ _ seat
    c.loads.new.seat
    step) ∙ ap key_state (ap (slice_index _) (sym at_index) ∙ step.word)
    ∙ sym c.new.ensures.state
