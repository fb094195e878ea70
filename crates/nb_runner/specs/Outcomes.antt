-- What came of a script, and what its text tells.
use Rattle.std.specs.Prelude.{◌≡◌, ◌<◌, ◌≤◌, ℕ, List, ◌++◌, All, length, map}
use Rattle.std.specs.declared.alloc.Global.{Global}
use Rattle.std.specs.declared.vec.Vec.{Vec}
use Rattle.nb_core.specs.Plans.{Plan}
use Rattle.nb_core.specs.declared.events.Event.{Event}
use Rattle.nb_core.specs.declared.shapes.TheConstants.{MAX_SEATS}
use Rattle.nb_runner.specs.Output.{AreAnswersOf, all_lines}
use Rattle.nb_script.specs.Script.{Bytes, Phase}
use Rattle.nb_runner.specs.Text.{ending_of}
use Rattle.nb_runner.specs.Told.{IsLoneText, IsToldBy}
use Rattle.nb_runner.specs.declared.answers.Answer.{Answer}
use Rattle.nb_runner.specs.declared.outcome.Outcome.{Outcome}

-- the answers that are kept in vectors
abbrev pub lists_in : List (Vec Answer Global) → List (List Answer)
lists_in lists = map (λ list. list.items) lists

-- the text that is written of it: the answers, phase by phase and worker by worker, then the size
-- and the entries
abbrev pub text_of_outcome : List Phase → Outcome → Bytes
text_of_outcome phases o =
    all_lines phases (lists_in o.answers.items) ++ ending_of o.size o.entries.items

-- each command's worker is one of so many
abbrev pub HaveWorkers : ℕ → List Phase → Type 0
HaveWorkers seats phases = All (λ phase. All (λ task. task.0 < seats) phase) phases

-- This came of the phases on a new map of the shape: each worker has as many answers as commands,
-- and there was a legal history of which the text tells. With one seat, whose worker has all
-- commands, the text is the plain map's but for refusals.
pub record IsOutcome (p : Plan) (phases : List Phase) (o : Outcome) : Type 0 where
  pub few : length o.answers.items ≤ MAX_SEATS
  pub answered : AreAnswersOf phases 0 (lists_in o.answers.items)
  pub history : List Event
  pub told : IsToldBy p phases history (text_of_outcome phases o)
  pub lone : p.seats ≡ 1 → HaveWorkers p.seats phases
      → IsLoneText p phases (text_of_outcome phases o)
