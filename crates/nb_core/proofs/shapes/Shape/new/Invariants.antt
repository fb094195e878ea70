use Rattle.std.proofs.Common.{◌≡◌, length, take}
use Rattle.nb_core.specs.Plans.{rising}
use Rattle.nb_core.proofs.shapes.Shape.new.Given as goal

abbrev pub invariant-loop-g : goal.invariant-loop-g
invariant-loop-g l = (length l.exponents ≡ 8) × (take l.g l.exponents ≡ rising l.bits l.g)
