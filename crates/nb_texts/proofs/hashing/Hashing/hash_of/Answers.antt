use Rattle.std.proofs.Common.{rules}
use Rattle.nb_texts.specs.Hashes.{hash_of}
use Rattle.nb_texts.proofs.hashing.Hashing.hash_of.Goals as goal

pub returns : goal.returns
unfolding hash_of
returns c = search rules
