use Rattle.std.proofs.Common.{ℕ, ◌*◌, List, length}
use Rattle.nb_copy.specs.Copying.{HasCopied}
use Rattle.nb_copy.specs.Handing.{chunk_steps}
use Rattle.nb_copy.proofs.tables.copy_chunks.Given as goal

abbrev pub invariant-loop-taken : goal.invariant-loop-taken
invariant-loop-taken l =
    (slots : List ℕ)
    × HasCopied l.chain.shape l.g l.fn.seat l.seat slots l._taken (length slots)
    (l._taken * chunk_steps l.chain.shape l.g)
