use Rattle.std.proofs.Common.{◌∙◌, ap, arith}
use Rattle.nb_core.specs.Plans.{header_place}
use Rattle.nb_core.specs.Tables.{chunk_of}
use Rattle.nb_table.proofs.Counts.{can-take, header-within, taken}
use Rattle.nb_table.proofs.chain.Chain.take_work.Goals as goal

pub adds-requires-clause-can : goal.adds-requires-clause-can
adds-requires-clause-can c =
    let shape = ap (λ v. v.shape) c.self.view_is in
    can-take c.args.self.now.shape c.args.seat.now.number c.args.g c.args.seat.now.seen
    c.requires.table
    c.requires.growing
    c.header_word_place-index.result c.chunk_of-chunk.result (c.header_word_place-index.ensures
    ∙ ap (λ p. header_place p c.args.g 1) shape)
    (c.chunk_of-chunk.ensures.chunk ∙ ap (λ p. chunk_of p c.args.g) shape)

pub returns-clause-found : goal.returns-clause-found
returns-clause-found c =
    taken c.args.self.now.shape c.args.g _ _ c.args.seat.now c.adds.new.seat
    (c.header_word_place-index.ensures ∙ ap (λ p. header_place p c.args.g 1)
    (ap (λ v. v.shape) c.self.view_is)) c.adds.ensures

pub adds-requires-clause-within : goal.adds-requires-clause-within
adds-requires-clause-within c =
    let shape = ap (λ v. v.shape) c.self.view_is in
    header-within c.args.self.now.shape c.requires.own.plan c.args.g 1 _ c.requires.table
    (omega arith) (c.header_word_place-index.ensures ∙ ap (λ p. header_place p c.args.g 1) shape)
