-- A script that was read, run and told.
use Rattle.std.proofs.Common.{◌≡◌, ◌∙◌, [], List, Option, Result, Ok, Err, ap, append-nil, arith, sym}
use Rattle.std.specs.Io.KnownBytes.{Appends}
use Rattle.nb_core.specs.Plans.{Plan}
use Rattle.nb_runner.specs.Outcomes.{IsOutcome, text_of_outcome}
use Rattle.nb_runner.specs.Runs.{HasBrokenOff, HasRun, TellsOf}
use Rattle.nb_script.specs.Inputs.{HasReadScript, IsFaultOf, IsOpen}
use Rattle.nb_script.specs.Script.{Bytes, Fault, Phase, script_of}
use Rattle.nb_script.specs.Streams.{AppendsSome}
use Rattle.nb_script.specs.declared.faults.RunFault.TheVariants as fault
use Rattle.nb_runner.specs.declared.outcome.Outcome.{Outcome}
use Rattle.nb_runner.proofs.ScriptLemmas.{script-workers}

no-fault :
    (phases : List Phase) (e : Fault) (r : Result (List Phase) Fault) → r ≡ Ok phases
    → ¬ (r ≡ Err e)
no-fault phases e r is is' = cc

module _ (p : Plan) (unread unread' written written' : Option Bytes) where
  module _ (phases : List Phase) (o : Outcome)
      (script : HasReadScript p.seats unread unread' phases) (came : IsOutcome p phases o) where
    tells : TellsOf p unread unread' (text_of_outcome phases o)
    tells = record {
      phases = phases;
      script = script;
      history = came.history;
      told = came.told;
      lone = λ single. came.lone single (script-workers p.seats script.read phases script.said);
    }

    pub has-run : Appends written written' (text_of_outcome phases o)
        → HasRun p unread unread' written written'
    has-run appended = record { text = text_of_outcome phases o; tells = tells; output = appended }

    pub has-broken : AppendsSome written written' (text_of_outcome phases o)
        → HasBrokenOff p unread unread' written written'
    has-broken some = record { text = text_of_outcome phases o; tells = tells; output = some }

  -- a script without a fault settles none
  sound : (phases : List Phase) (script : HasReadScript p.seats unread unread' phases)
      → IsOpen p.seats script.read
  sound phases script n cause settled =
      no-fault phases (n, cause) (script_of p.seats script.read) script.said
      (ap (script_of p.seats) (sym (append-nil script.read)) ∙ settled [])

  pub memory-fault : (phases : List Phase) → HasReadScript p.seats unread unread' phases
      → IsFaultOf p.seats unread unread' fault.OutOfMemory
  memory-fault phases script = (
    script.read,
    record {
      consumed = script.consumed;
      earlier = script.read;
      last = [];
      are = append-nil script.read;
      small = omega arith;
      unsettled = sound phases script;
    },
  )
