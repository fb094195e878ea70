-- What a run of a script has done, by the bytes that were read and written.
use Rattle.std.specs.Prelude.{◌≡◌, ◌↔◌, Bool, IfErr, IsErrOf, IsTrue, List, OnOk, Option, Result}
use Rattle.std.specs.Io.KnownBytes.{Appends}
use Rattle.nb_core.specs.Plans.{Plan}
use Rattle.nb_core.specs.declared.events.Event.{Event}
use Rattle.nb_script.specs.Inputs.{HasReadScript, IsFaultOf}
use Rattle.nb_script.specs.Script.{Bytes, Phase}
use Rattle.nb_script.specs.Streams.{AppendsSome}
use Rattle.nb_script.specs.declared.faults.RunFault.{RunFault}
use Rattle.nb_script.specs.declared.faults.RunFault.TheVariants as fault
use Rattle.nb_runner.specs.Told.{IsLoneText, IsToldBy}

-- All this speaks of the bytes of a reader and of a writer that tell theirs. Of one that doesn't,
-- it says no more than that there are such bytes.

-- The input was read whole and is a script without a fault, and a legal history of its commands
-- tells this text. With one worker it is the plain map's text but for commands that were refused
-- for want of room.
pub record TellsOf (p : Plan) (unread unread' : Option Bytes) (text : Bytes) : Type 0 where
  pub phases : List Phase
  pub script : HasReadScript p.seats unread unread' phases
  pub history : List Event
  pub told : IsToldBy p phases history text
  pub lone : p.seats ≡ 1 → IsLoneText p phases text

-- The script was run, and its text was written.
pub record HasRun (p : Plan) (unread unread' written written' : Option Bytes) : Type 0 where
  pub text : Bytes
  pub tells : TellsOf p unread unread' text
  pub output : Appends written written' text

-- The script was run, and then the writer failed: what went out is a beginning of the text.
pub record HasBrokenOff (p : Plan) (unread unread' written written' : Option Bytes) : Type 0 where
  pub text : Bytes
  pub tells : TellsOf p unread unread' text
  pub output : AppendsSome written written' text

-- When a fault comes of a run: in writing, or in reading. Memory may also run out once the script
-- was read.
abbrev pub IsRunFaultOf :
    Plan → (unread unread' written written' : Option Bytes) → RunFault → Type 0
IsRunFaultOf p unread unread' written written' fault.Write =
    HasBrokenOff p unread unread' written written'
IsRunFaultOf p unread unread' written written' fault.Read =
    IsFaultOf p.seats unread unread' fault.Read
IsRunFaultOf p unread unread' written written' (fault.Line n cause) =
    IsFaultOf p.seats unread unread' (fault.Line n cause)
IsRunFaultOf p unread unread' written written' fault.OutOfMemory =
    IsFaultOf p.seats unread unread' fault.OutOfMemory

-- A run's two ends: what there is to read and what is written, where that is known, and whether a
-- read or a write has failed.
pub record Ends : Type 0 where
  pub unread : Option Bytes
  pub written : Option Bytes
  pub reader_failed : Bool
  pub writer_failed : Bool

abbrev pub ends : (unread written : Option Bytes) (reader_failed writer_failed : Bool) → Ends
ends unread written reader_failed writer_failed =
    record {
      unread = unread;
      written = written;
      reader_failed = reader_failed;
      writer_failed = writer_failed;
    }

-- What has come of a run, whose two ends hadn't failed before it.
pub record IsRunResult (p : Plan) (before after : Ends) (result : Result (Unit {0}) RunFault) :
    Type 0 where
  pub ok : OnOk result (HasRun p before.unread after.unread before.written after.written)
  pub due : IfErr result (IsRunFaultOf p before.unread after.unread before.written after.written)
  -- these two say that the reader, or the writer, failed while this ran
  pub read : IsErrOf result fault.Read ↔ IsTrue after.reader_failed
  pub write : IsErrOf result fault.Write ↔ IsTrue after.writer_failed
