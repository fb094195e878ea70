use Rattle.std.proofs.Common.{◌≡◌, ◌+◌, ◌++◌, ◌<◌, length, suc, refl, arith}
use Rattle.nb_core.specs.Plans.{generations_of, size_of}
use Rattle.nb_copy.specs.Handing.{table_steps, walk_steps}
use Rattle.nb_copy.proofs.Copied.{copied-own, copied-stays, copied-within}
use Rattle.nb_copy.proofs.Counted.{copied-counting, copied-last, copied-promote}
use Rattle.nb_copy.proofs.SlotsFinished.{next-in-plan}
use Rattle.nb_copy.proofs.tables.complete.Goals as goal

pub copy_all-requires-clause-table : goal.copy_all-requires-clause-table
copy_all-requires-clause-table c =
    omega (
      arith,
      next-in-plan c.args.chain.now c.args.seat.now c.requires.own c.args.g c.requires.growing,
    )

pub copy_all-requires-clause-growing : goal.copy_all-requires-clause-growing
copy_all-requires-clause-growing c =
    let chain = c.args.chain.now in
    let next = next-in-plan chain c.args.seat.now c.requires.own c.args.g c.requires.growing in
    (copied-stays chain c.args.g (omega (arith, next)) c.requires.own
    c.copy_chunks.ensures.copied.5).installed
    (suc c.args.g) c.requires.growing

pub promote-requires-clause-table : goal.promote-requires-clause-table
promote-requires-clause-table c =
    omega (
      arith,
      next-in-plan c.args.chain.now c.args.seat.now c.requires.own c.args.g c.requires.growing,
    )

pub returns-then-copy_all : goal.returns-then-copy_all
returns-then-copy_all c =
    let chain = c.args.chain.now in
    let p = chain.shape in
    let g = c.args.g in
    let next = next-in-plan chain c.args.seat.now c.requires.own g c.requires.growing in
    let table : g < generations_of p = omega (arith, next) in
    let chunks = c.copy_chunks.ensures.copied in
    let slots = c.copy_all.ensures.copied in
    let same : length slots.0 ≡ length slots.0 = refl in
    let both = copied-counting chain g table c.requires.own chunks.5 same slots.1 in
    let promoted = copied-promote p g _ _ c.promote.result
    (λ low. let step = c.promote.ensures.raised low in (step.0, step.2))
    c.promote.ensures.was_higher in
    let lasting = copied-stays chain g table (copied-own chain g table c.requires.own both)
    promoted.0 in
    record {
      completed = record {
        slots = slots.0 ++ chunks.0;
        chunks = chunks.1 + 0;
        few = omega (arith, chunks.3);
        copied = copied-within (chunks.2 + walk_steps p g (size_of p g) + 1) (table_steps p g)
            (omega (arith, chunks.4))
            (copied-last chain g table c.requires.own both promoted.0);
        complete = lasting.complete g table c.copy_all.ensures.complete;
        raised = promoted.1;
      };
    }

pub returns-else-copy_all : goal.returns-else-copy_all
returns-else-copy_all c =
    let chain = c.args.chain.now in
    let p = chain.shape in
    let g = c.args.g in
    let next = next-in-plan chain c.args.seat.now c.requires.own g c.requires.growing in
    let table : g < generations_of p = omega (arith, next) in
    let chunks = c.copy_chunks.ensures.copied in
    let slots = c.copy_all.ensures.copied in
    let same : length slots.0 ≡ length slots.0 = refl in
    record {
      completed = record {
        slots = slots.0 ++ chunks.0;
        chunks = chunks.1 + 0;
        few = omega (arith, chunks.3);
        copied = copied-within (chunks.2 + walk_steps p g (size_of p g)) (table_steps p g)
            (omega (arith, chunks.4))
            (copied-counting chain g table c.requires.own chunks.5 same slots.1);
        complete = c.copy_all.ensures.complete;
        raised = c.copy_all.ensures.past c.if-copy_all.false;
      };
    }
