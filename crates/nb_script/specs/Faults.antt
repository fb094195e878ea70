-- How the program ends: its exit status, and what it says of a fault.
use Rattle.std.specs.Prelude.{ℕ, ◌++◌, codes, decimal}
use Rattle.nb_script.specs.Script.{Bytes}
use Rattle.nb_script.specs.declared.script.Cause.{Cause}
use Rattle.nb_script.specs.declared.script.Cause.TheVariants as cause
use Rattle.nb_script.specs.declared.faults.RunFault.TheVariants as fault
use Rattle.nb_script.specs.declared.faults.ServeFault.{ServeFault}
use Rattle.nb_script.specs.declared.faults.ServeFault.TheVariants as serve

abbrev pub cause_text : Cause → Bytes
cause_text cause.TooMany = codes "too many lines"
cause_text cause.LongLine = codes "line too long"
cause_text cause.Worker = codes "no such worker"
cause_text cause.Missing = codes "missing word"
cause_text cause.Op = codes "unknown op"
cause_text cause.Extra = codes "extra word"
cause_text cause.Number = codes "not a number"
cause_text cause.KeyRange = codes "key too large"
cause_text cause.ValueRange = codes "value too large"

abbrev pub fault_text : ServeFault → Bytes
fault_text serve.Usage = codes "bad usage"
fault_text (serve.Run fault.Read) = codes "read failed"
fault_text (serve.Run fault.Write) = codes "write failed"
fault_text (serve.Run (fault.Line n c)) = codes "line " ++ decimal n ++ codes ": " ++ cause_text c
fault_text (serve.Run fault.OutOfMemory) = codes "out of memory"

-- what is said of a fault
abbrev pub complaint_of : ServeFault → Bytes
complaint_of f = codes "nbrun: " ++ fault_text f ++ codes "\n"

-- the exit status
abbrev pub status_of : ServeFault → ℕ
status_of (serve.Run fault.Read) = 1
status_of (serve.Run fault.Write) = 1
status_of (serve.Run (fault.Line n c)) = 2
status_of serve.Usage = 3
status_of (serve.Run fault.OutOfMemory) = 4
