use Rattle.std.proofs.Common.{arith, ◌∙◌, ◌==◌, ℕ, ap, subst, sym}
use Rattle.nb_core.specs.Plans.{header_place}
use Rattle.nb_table.specs.Events.{reads, shown_by_next}
use Rattle.nb_table.specs.Steps.{Can}
use Rattle.nb_table.proofs.Loading.{can-load_next}
use Rattle.nb_table.proofs.Counts.{header-within}
use Rattle.nb_table.proofs.chain.Chain.load_next.Goals as goal

pub loads-requires-clause-can : goal.loads-requires-clause-can
loads-requires-clause-can c =
    let p = c.args.self.now.shape in
    let seat = c.args.seat.now in
    let g = c.args.g in
    let events = λ (found : ℕ). reads seat.number c.args.call (λ k. shown_by_next (found == 1)) in
    let at_index = c.header_word_place-index.ensures
    ∙ ap (λ v. header_place v.shape g 0) c.self.view_is in
    subst (λ index. Can p events seat.number seat.seen index (λ found. found)) (sym at_index)
    (can-load_next p seat.number seat.seen g c.requires.table
    c.args.call c.requires.own.plan c.known_if_some.ensures
    c.requires.reached
    c.requires.crowded)

pub loads-requires-clause-within : goal.loads-requires-clause-within
loads-requires-clause-within c =
    header-within c.args.self.now.shape c.requires.own.plan c.args.g 0 _ c.requires.table
    (omega arith)
    (c.header_word_place-index.ensures ∙ ap (λ v. header_place v.shape c.args.g 0) c.self.view_is)
