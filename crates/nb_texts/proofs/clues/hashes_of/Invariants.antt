use Rattle.std.proofs.Common.{◌≡◌, ◌++◌, length, map}
use Rattle.nb_texts.specs.Hashes.{hash_of}
use Rattle.nb_texts.specs.Lines.{lines_in}
use Rattle.nb_texts.proofs.clues.hashes_of.Given as goal

abbrev pub invariant-loop-rest : goal.invariant-loop-rest
invariant-loop-rest l =
    map (hash_of l.hashing) (lines_in l.text)
    ≡ l.hashes.items ++ map (hash_of l.hashing) (lines_in l.rest)

abbrev pub decreases-loop-rest : goal.decreases-loop-rest
decreases-loop-rest l = length l.rest
