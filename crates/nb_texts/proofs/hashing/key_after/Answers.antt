use Rattle.std.proofs.Common.{arith}
use Rattle.std.proofs.lemmas.Bool.Decides.{nat_tests}
use Rattle.nb_texts.specs.Hashes.{key_after}
use Rattle.nb_texts.proofs.hashing.key_after.Goals as goal

pub returns : goal.returns
unfolding key_after
returns c =
    let told = c.new.ensures in
    let is = c.in-Ok.is in
    grind (arith, nat_tests, told, is)
