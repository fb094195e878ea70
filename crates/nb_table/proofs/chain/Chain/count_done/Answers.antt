use Rattle.std.proofs.Common.{◌∙◌, ap, arith}
use Rattle.nb_core.specs.Plans.{header_place}
use Rattle.nb_table.proofs.Counts.{can-count, counts-sees, header-within}
use Rattle.nb_table.proofs.chain.Chain.count_done.Goals as goal

pub adds-requires-clause-can : goal.adds-requires-clause-can
adds-requires-clause-can c =
    let shape = ap (λ v. v.shape) c.self.view_is in
    can-count c.args.self.now.shape c.args.seat.now.number c.args.g c.args.slots
    c.args.seat.now.seen
    c.requires.table c.requires.some c.requires.turned c.header_word_place-index.result
    (c.header_word_place-index.ensures ∙ ap (λ p. header_place p c.args.g 2) shape)

pub returns-clause-found : goal.returns-clause-found
returns-clause-found c =
    let shape = ap (λ v. v.shape) c.self.view_is in
    counts-sees c.args.self.now.shape
    c.requires.own.plan c.args.g _ _ c.args.seat.now c.adds.new.seat c.requires.table
    c.args.slots
    (c.header_word_place-index.ensures ∙ ap (λ p. header_place p c.args.g 2) shape) c.adds.ensures

pub adds-requires-clause-within : goal.adds-requires-clause-within
adds-requires-clause-within c =
    let shape = ap (λ v. v.shape) c.self.view_is in
    header-within c.args.self.now.shape c.requires.own.plan c.args.g 2 _
    c.requires.table (omega arith) (c.header_word_place-index.ensures
    ∙ ap (λ p. header_place p c.args.g 2) shape)
