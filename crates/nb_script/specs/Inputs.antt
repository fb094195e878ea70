-- What a reading of a script has come to, by the bytes that were read.
use Rattle.std.specs.Prelude.{◌≡◌, ◌≤◌, ℕ, ◌⊎◌, ◌++◌, List, Option, Ok, Err, length}
use Rattle.std.specs.Io.KnownBytes.{Consumes, IsAtEnd}
use Rattle.nb_script.specs.Script.{Bytes, Phase, script_of}
use Rattle.nb_script.specs.declared.script.Cause.{Cause}
use Rattle.nb_script.specs.declared.reader.TheConstants.{PIECE}
use Rattle.nb_script.specs.declared.faults.RunFault.{RunFault}
use Rattle.nb_script.specs.declared.faults.RunFault.TheVariants as fault

-- All this speaks of the bytes of a reader that tells its own. Of one that doesn't, it says no more
-- than that there are such bytes.

-- The input was read whole, and is a script without a fault, with these phases.
pub record HasReadScript (seats : ℕ) (unread unread' : Option Bytes) (phases : List Phase) :
    Type 0 where
  pub read : Bytes
  pub consumed : Consumes unread unread' read
  pub ended : IsAtEnd unread'
  pub said : script_of seats read ≡ Ok phases

-- A fault is settled by these bytes: whatever follows them, it is the script's first one.
abbrev pub IsSettled : ℕ → Bytes → ℕ → Cause → Type 0
IsSettled seats read n cause = (more : Bytes) → script_of seats (read ++ more) ≡ Err (n, cause)

-- No fault is settled by these bytes.
abbrev pub IsOpen : ℕ → Bytes → Type 0
IsOpen seats read = (n : ℕ) (cause : Cause) → ¬ IsSettled seats read n cause

-- These bytes were read, and no fault was settled before the last piece of them.
pub record HasReadOn (seats : ℕ) (unread unread' : Option Bytes) (read : Bytes) : Type 0 where
  pub consumed : Consumes unread unread' read
  pub earlier : Bytes
  pub last : Bytes
  pub are : earlier ++ last ≡ read
  pub small : length last ≤ PIECE
  pub unsettled : IsOpen seats earlier

-- The bytes that were read have this first fault. They are the whole input, or they settle it.
pub record HasReadFault (seats : ℕ) (unread unread' : Option Bytes) (n : ℕ) (cause : Cause) :
    Type 0 where
  pub read : Bytes
  pub reading : HasReadOn seats unread unread' read
  pub said : script_of seats read ≡ Err (n, cause)
  pub lasting : IsAtEnd unread' ⊎ IsSettled seats read n cause

-- The bytes that were read settle no fault.
pub record HasReadOpen (seats : ℕ) (unread unread' : Option Bytes) : Type 0 where
  pub read : Bytes
  pub consumed : Consumes unread unread' read
  pub unsettled : IsOpen seats read

-- When a fault comes of reading a script: a line's fault is the first one in the bytes that were
-- read, and a read fails only after bytes that settle none. For a line's fault, and where memory
-- runs out, no more was read than the piece in which a fault was settled.
abbrev pub IsFaultOf : ℕ → Option Bytes → Option Bytes → RunFault → Type 0
IsFaultOf seats unread unread' fault.Read = HasReadOpen seats unread unread'
IsFaultOf seats unread unread' fault.Write = ⊥
IsFaultOf seats unread unread' (fault.Line n cause) = HasReadFault seats unread unread' n cause
IsFaultOf seats unread unread' fault.OutOfMemory =
    (read : Bytes) × HasReadOn seats unread unread' read
