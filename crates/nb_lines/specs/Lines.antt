-- What is wrong with lines.
use Rattle.nb_core.specs.declared.digits.DigitsFault.{DigitsFault}
use Rattle.nb_core.specs.declared.digits.DigitsFault.TheVariants as digits
use Rattle.nb_lines.specs.declared.faults.Cause.{Cause}
use Rattle.nb_lines.specs.declared.faults.Cause.TheVariants as cause

-- what is wrong with a line that writes no number, or one of too many bits
abbrev pub cause_of : DigitsFault → Cause
cause_of digits.NotANumber = cause.NotANumber
cause_of digits.TooLarge = cause.TooLarge
