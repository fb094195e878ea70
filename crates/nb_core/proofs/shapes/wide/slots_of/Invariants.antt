use Rattle.std.proofs.Common.{◌≡◌, take}
use Rattle.nb_core.specs.Plans.{slots_in}
use Rattle.nb_core.proofs.shapes.wide.slots_of.Given as goal

abbrev pub invariant-loop-exponent : goal.invariant-loop-exponent
invariant-loop-exponent l = l.slots ≡ slots_in (take l.exponent-index l.exponents)
