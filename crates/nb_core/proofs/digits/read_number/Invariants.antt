use Rattle.nb_core.proofs.Decimals.{HasRead}
use Rattle.nb_core.proofs.digits.read_number.Given as goal

abbrev pub invariant-loop-byte : goal.invariant-loop-byte
invariant-loop-byte l = HasRead l.text l.byte-index l.number
