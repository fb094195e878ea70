use Rattle.std.proofs.Common.{◌≡◌, ◌+◌, ◌/◌, [], suc, arith, rules}
use Rattle.nb_core.specs.Plans.{size_of}
use Rattle.nb_core.specs.Tables.{chunk_of}
use Rattle.nb_copy.proofs.Copied.{copied-none, copied-own, copied-stays, copied-within}
use Rattle.nb_copy.proofs.Helped.{helped-all, helped-more}
use Rattle.nb_copy.proofs.SlotsFinished.{next-in-plan}
use Rattle.nb_copy.proofs.tables.copy_chunks.Goals as goal

pub loop-taken-init : goal.loop-taken-init
loop-taken-init c = (
  [],
  copied-within 0 _ (omega arith) (copied-none c.args.chain.now c.args.g c.args.seat.now
      c.requires.own),
)

pub copy_chunk-requires-clause-own : goal.copy_chunk-requires-clause-own
copy_chunk-requires-clause-own c =
    let next = next-in-plan c.args.chain.now c.args.seat.now c.requires.own c.args.g
    c.requires.growing in
    copied-own c.args.chain.now c.args.g (omega (arith, next))
    c.requires.own c.loop-taken.invariant.1

pub copy_chunk-requires-clause-growing : goal.copy_chunk-requires-clause-growing
copy_chunk-requires-clause-growing c =
    let next = next-in-plan c.args.chain.now c.args.seat.now c.requires.own c.args.g
    c.requires.growing in
    (copied-stays c.args.chain.now c.args.g (omega (arith, next))
    c.requires.own c.loop-taken.invariant.1).installed
    (suc c.args.g) c.requires.growing

pub returns-then-is_none : goal.returns-then-is_none
returns-then-is_none c =
    let chain = c.args.chain.now in
    let next = next-in-plan chain c.args.seat.now c.requires.own c.args.g c.requires.growing in
    let chunks : c.chunks_of-chunks.result
    ≡ size_of chain.shape c.args.g / chunk_of chain.shape c.args.g = search rules in
    record {
      copied = helped-all chain c.args.g (omega (arith, next)) (c.loop-taken._taken + 1)
          c.requires.own
          (omega (arith, chunks, c.loop-taken-test.true))
          (helped-more chain c.args.g (omega (arith, next))
          c.loop-taken._taken c.requires.own c.loop-taken.invariant.1
          c.copy_chunk.ensures.helped);
    }

pub loop-taken-preserved : goal.loop-taken-preserved
loop-taken-preserved c =
    let chain = c.args.chain.now in
    let next = next-in-plan chain c.args.seat.now c.requires.own c.args.g c.requires.growing in
    helped-more chain c.args.g (omega (arith, next))
    c.loop-taken._taken c.requires.own c.loop-taken.invariant.1
    c.copy_chunk.ensures.helped

pub returns : goal.returns
returns c =
    let chain = c.args.chain.now in
    let next = next-in-plan chain c.args.seat.now c.requires.own c.args.g c.requires.growing in
    let chunks : c.chunks_of-chunks.result
    ≡ size_of chain.shape c.args.g / chunk_of chain.shape c.args.g = search rules in
    record {
      copied = helped-all chain c.args.g (omega (arith, next)) c.loop-taken._taken c.requires.own
          (omega (arith, chunks, c.loop-taken.auto._taken-end)) c.loop-taken.invariant;
    }
