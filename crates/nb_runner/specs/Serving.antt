-- What the program has done for the words of its command line.
use Rattle.std.specs.Prelude.{◌≡◌, ◌≢◌, ◌↔◌, ◌⊎◌, ℕ, Bool, false, IsTrue, List, map, Option, Result, Ok, Err, string_bytes}
use Rattle.std.specs.Borrow.{Bor}
use Rattle.std.specs.Io.KnownBytes.{Appends}
use Rattle.std.specs.declared.string.String.{String}
use Rattle.std.specs.declared.vec.Vec.{Vec}
use Rattle.std.specs.declared.alloc.Global.{Global}
use Rattle.nb_core.specs.Plans.{Plan}
use Rattle.nb_script.specs.Faults.{complaint_of, status_of}
use Rattle.nb_script.specs.Options.{AreGiven, IsDue}
use Rattle.nb_runner.specs.Runs.{HasRun, IsRunFaultOf}
use Rattle.nb_script.specs.Script.{Bytes}
use Rattle.nb_script.specs.Streams.{AppendsSome}
use Rattle.nb_script.specs.declared.options.OptionFault.{OptionFault}
use Rattle.nb_script.specs.declared.options.OptionFault.TheVariants as option
use Rattle.nb_script.specs.declared.faults.RunFault.{RunFault}
use Rattle.nb_script.specs.declared.faults.RunFault.TheVariants as run
use Rattle.nb_script.specs.declared.faults.ServeFault.{ServeFault}
use Rattle.nb_script.specs.declared.faults.ServeFault.TheVariants as serve

-- the words of the command line, or why there are none
abbrev pub Words : Type 0
Words = Result (List Bytes) OptionFault

-- the words that a process has, and those that are passed on from it
abbrev pub words_had : Result (Vec (String Global) Global) OptionFault → Words
words_had (Ok words) = Ok (map string_bytes words.items)
words_had (Err f) = Err f

abbrev pub words_passed : Result (Bor (List (String Global))) OptionFault → Words
words_passed (Ok words) = Ok (map string_bytes words.now)
words_passed (Err f) = Err f

-- the words give these options
abbrev pub GiveOptions : Words → Plan → Type 0
GiveOptions (Ok words) plan = AreGiven words plan
GiveOptions (Err f) plan = ⊥

-- when the words give none, by why they don't
abbrev pub GiveNone : Words → OptionFault → Type 0
GiveNone (Ok words) f = IsDue words f
GiveNone (Err e) f = f ≡ e

-- The script was run with the options that the words give.
pub record HasRunAsAsked (words : Words) (unread unread' written written' : Option Bytes) :
    Type 0 where
  pub plan : Plan
  pub given : GiveOptions words plan
  pub run : HasRun plan unread unread' written written'

-- In what follows, Unread says that nothing was read: the reader is as it was.

-- The words ask for help, and its text was written. Nothing was read.
pub record HasShownHelp (words : Words) (Unread : Type 0) (written written' : Option Bytes) :
    Type 0 where
  pub text : String Global
  pub asked : GiveNone words (option.Help text)
  pub untouched : Unread
  pub told : Appends written written' (string_bytes text)

-- The words give options, and this came of the script.
pub record HasFault (words : Words) (unread unread' written written' : Option Bytes)
    (f : RunFault) : Type 0 where
  pub plan : Plan
  pub given : GiveOptions words plan
  pub due : IsRunFaultOf plan unread unread' written written' f

-- The words ask for help, and the writer failed: what went out is a beginning of its text. Nothing
-- was read.
pub record HasBrokenHelp (words : Words) (Unread : Type 0) (written written' : Option Bytes) :
    Type 0 where
  pub text : String Global
  pub asked : GiveNone words (option.Help text)
  pub untouched : Unread
  pub told : AppendsSome written written' (string_bytes text)

-- When a fault comes: of words that give no options, of the script, of writing the help, or of the
-- memory for the options. Where the words give none, nothing is read.
abbrev pub IsServeFaultOf :
    Words → (unread unread' : Option Bytes) (Unread : Type 0) (written written' : Option Bytes)
    → ServeFault → Type 0
IsServeFaultOf words unread unread' Unread written written' serve.Usage =
    GiveNone words option.Usage × Unread
IsServeFaultOf words unread unread' Unread written written' (serve.Run run.Read) =
    HasFault words unread unread' written written' run.Read
IsServeFaultOf words unread unread' Unread written written' (serve.Run run.Write) =
    HasFault words unread unread' written written' run.Write
    ⊎ HasBrokenHelp words Unread written written'
IsServeFaultOf words unread unread' Unread written written' (serve.Run (run.Line n cause)) =
    HasFault words unread unread' written written' (run.Line n cause)
IsServeFaultOf words unread unread' Unread written written' (serve.Run run.OutOfMemory) =
    HasFault words unread unread' written written' run.OutOfMemory
    ⊎ (GiveNone words option.OutOfMemory × Unread)

-- What the program's streams hold, where that is known, and whether they have failed.
pub record Streams : Type 0 where
  pub unread : Option Bytes
  pub written : Option Bytes
  pub said : Option Bytes
  pub reader_failed : Bool
  pub writer_failed : Bool
  pub errors_failed : Bool

abbrev pub streams :
    (unread written said : Option Bytes) (reader_failed writer_failed errors_failed : Bool)
    → Streams
streams unread written said reader_failed writer_failed errors_failed = record {
  unread = unread;
  written = written;
  said = said;
  reader_failed = reader_failed;
  writer_failed = writer_failed;
  errors_failed = errors_failed;
}

-- The program ended by a fault: its status, what came of it, and what was said.
pub record HasFailed (words : Words) (before after : Streams) (Unread : Type 0) (status : ℕ) :
    Type 0 where
  pub fault : ServeFault
  pub status_is : status ≡ status_of fault
  pub due : IsServeFaultOf words before.unread after.unread Unread before.written after.written
      fault
  pub read : (fault ≡ serve.Run run.Read) ↔ IsTrue after.reader_failed
  pub write : (fault ≡ serve.Run run.Write) ↔ IsTrue after.writer_failed
  pub told : after.errors_failed ≡ false → Appends before.said after.said (complaint_of fault)
  -- where the error stream failed, a beginning of that was said, perhaps none of it
  pub begun : AppendsSome before.said after.said (complaint_of fault)

-- ---- a process, on streams of std

-- What comes of a process is what came of the program on its streams. One thing is left open: how far
-- the input was read for a script.

-- The script was run, or help was shown.
abbrev pub HasServed :
    {R : Type 0} → Words → (remaining : R → Option Bytes) (input input' : R)
    (written written' : Option Bytes) → Type 0
HasServed words remaining input input' written written' = (unread' : Option Bytes)
    × (HasRunAsAsked words (remaining input) unread' written written'
    ⊎ HasShownHelp words (input' ≡ input) written written')

-- The process ended by a fault. What its error stream took is a beginning of what is said of the
-- fault, perhaps none of it: whether that stream has failed isn't told either.
pub record HasStopped {R W : Type 0} (words : Words) (remaining : R → Option Bytes)
    (input input' : R) (contents : W → Option Bytes) (output output' : W)
    (said said' : Option Bytes) (status : ℕ) : Type 0 where
  pub fault : ServeFault
  pub status_is : status ≡ status_of fault
  pub unread' : Option Bytes
  pub due : IsServeFaultOf words (remaining input) unread' (input' ≡ input) (contents output)
      (contents output') fault
  pub silent : fault ≢ serve.Run run.Write → output' ≡ output
  pub begun : AppendsSome said said' (complaint_of fault)
