use Rattle.std.proofs.Common.{◌≡◌, ◌-◌, ◌^◌, arith}
use Rattle.std.specs.Prelude.{min}
use Rattle.nb_texts.specs.Hashes.{hashing_of}
use Rattle.nb_texts.proofs.hashing.Hashing.new.Goals as goal
use Rattle.nb_texts.proofs.hashing.Hashing.new.Goals.{in-Some, in-None}

pub returns : goal.returns
unfolding hashing_of
returns c =
    let mask : c.match-checked_pow.mask ≡ min (2 ^ c.args.bits) (2 ^ 64) - 1
    = elim c.match-checked_pow.branch [ in-Some w ↦ omega arith | in-None w ↦ omega arith ] in
    let hasher = c.keyed_hasher.ensures in
    cc
