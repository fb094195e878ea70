use Rattle.std.proofs.Common.{◌≡◌, drop, map}
use Rattle.nb_texts.specs.Hashes.{hash_of}
use Rattle.nb_texts.specs.Lines.{lines_in}
use Rattle.nb_texts.proofs.ClueLemmas.{AreCluesSoFar}
use Rattle.nb_texts.proofs.clues.clues_by.Given as goal

abbrev pub invariant-loop-hash : goal.invariant-loop-hash
invariant-loop-hash l = record {
  so_far : AreCluesSoFar l.hashing l.texts (lines_in l.text) (lines_in l.rest) l.clues.items;
  left : drop l.hash-index l.hashes ≡ map (hash_of l.hashing) (lines_in l.rest);
}
