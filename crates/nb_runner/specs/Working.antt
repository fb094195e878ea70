-- What workers do to a map, command by command and phase by phase.
use Rattle.std.specs.Prelude.{◌≡◌, ◌==◌, ℕ, suc, not, List, [], ◌∷◌, All, filter, map, length, replicate, vec_capacity, ◌+◌, ◌≤◌, ◌++◌}
use Rattle.std.specs.List.{AllZip, flat_map}
use Rattle.std.specs.declared.vec.Vec.{Vec}
use Rattle.std.specs.declared.alloc.Global.{Global}
use Rattle.nb_core.specs.Log.{IsBeginning}
use Rattle.nb_core.specs.declared.calls.Reply.{Reply}
use Rattle.nb_map.specs.Calling.{HasMadeSome}
use Rattle.nb_map.specs.Logs.{HasLogged, HasReplied}
use Rattle.nb_map.specs.Maps.{IsMine, MapOf, SeatOf}
use Rattle.nb_map.specs.Progress.{Unlimited}
use Rattle.nb_map.specs.Refusals.{HasRefused}
use Rattle.nb_map.specs.declared.faults.PutFault.TheVariants as fault
use Rattle.nb_table.specs.Chains.{Grown}
use Rattle.nb_script.specs.Script.{Phase}
use Rattle.nb_runner.specs.Text.{call_of, shown}
use Rattle.nb_script.specs.declared.script.Command.{Command}
use Rattle.nb_runner.specs.declared.answers.Answer.{Answer}
use Rattle.nb_runner.specs.declared.answers.Answer.TheVariants as answer
use Rattle.nb_runner.specs.declared.workers.Worker.{Worker}

-- the seat made the command's call, and this is what is shown of its reply
abbrev pub HasShownReply : Command → Answer → (before after : SeatOf) → Type 0
HasShownReply c a before after =
    (reply : Reply) × (shown c reply ≡ a) × HasReplied (call_of c) before after reply

-- The command was answered so: its call was made, or justly refused.
abbrev pub IsAnswered : MapOf → Command → Answer → (before after : SeatOf) → Type 0
IsAnswered m c answer.Nothing before after = HasShownReply c answer.Nothing before after
IsAnswered m c (answer.Value n) before after = HasShownReply c (answer.Value n) before after
IsAnswered m c (answer.Matched b) before after = HasShownReply c (answer.Matched b) before after
IsAnswered m c answer.Full before after = HasRefused m (call_of c) before after Unlimited fault.Full
IsAnswered m c answer.Range before after =
    HasRefused m (call_of c) before after Unlimited fault.ValueRange

-- the seat's steps were such as the command's call may make
abbrev pub HasWorkedFor : MapOf → Command → (before after : SeatOf) → Type 0
HasWorkedFor m c before after =
    (most : ℕ) × HasMadeSome m.chain.shape (call_of c) before.chain after.chain most

-- the seat has run the command: it was answered so, by such steps
abbrev pub HasRunCommand : MapOf → Command → Answer → (before after : SeatOf) → Type 0
HasRunCommand m c a before after = IsAnswered m c a before after × HasWorkedFor m c before after

-- one command after another was answered so
abbrev pub AreAnswered : MapOf → List Command → List Answer → (before after : SeatOf) → Type 0
AreAnswered m [] [] before after = after ≡ before
AreAnswered m [] (a ∷ answers) before after = ⊥
AreAnswered m (c ∷ cs) [] before after = ⊥
AreAnswered m (c ∷ cs) (a ∷ answers) before after =
    (next : SeatOf) × HasRunCommand m c a before next × AreAnswered m cs answers next after

-- all commands of a phase
abbrev pub commands_in : Phase → List Command
commands_in phase = map (λ task. task.1) phase

-- a worker's commands of a phase, in their order
abbrev pub commands_of : ℕ → Phase → List Command
commands_of w phase = map (λ task. task.1) (filter (λ task. task.0 == w) phase)

-- those of the other workers
abbrev pub commands_but : ℕ → Phase → List Command
commands_but w phase = map (λ task. task.1) (filter (λ task. not (task.0 == w)) phase)

-- The workers from number w on have run a phase, each with its seat, and their commands were
-- answered so.
abbrev pub PhaseRan :
    MapOf → Phase → (w : ℕ) → List (List Answer) → (before after : List SeatOf) → Type 0
PhaseRan m phase w [] [] [] = Unit {0}
PhaseRan m phase w (mine ∷ others) (s ∷ before) (t ∷ after) =
    AreAnswered m (commands_of w phase) mine s t × PhaseRan m phase (suc w) others before after
PhaseRan m phase w _ _ _ = ⊥

-- The seat has made no call since, and no event, and has seen all that these seats had.
pub record HasMetAll (m : MapOf) (seats : List SeatOf) (before after : SeatOf) : Type 0 where
  pub logged : HasLogged before after []
  pub heard : All (λ seat. IsBeginning seat.chain.seen after.chain.seen) seats
  pub steps : ℕ
  pub grown : Grown m.chain.shape before.chain after.chain [] steps
  pub counter : after.count ≡ before.count

-- every two of the seats have met
abbrev pub HaveMet : MapOf → (before after : List SeatOf) → Type 0
HaveMet m before after = AllZip (HasMetAll m before) before after

-- The phases were run one after another, each with its answers, and all seats met after each.
abbrev pub HaveRun :
    MapOf → List Phase → List (List (List Answer)) → (before after : List SeatOf) → Type 0
HaveRun m [] [] before after = after ≡ before
HaveRun m [] (first ∷ answers) before after = ⊥
HaveRun m (phase ∷ phases) [] before after = ⊥
HaveRun m (phase ∷ phases) (first ∷ answers) before after =
    (apart met : List SeatOf) × PhaseRan m phase 0 first before apart × HaveMet m apart met
    × HaveRun m phases answers met after

-- ---- workers

-- the phases that are kept in vectors
abbrev pub phases_in : List (Vec (ℕ × Command) Global) → List Phase
phases_in phases = map (λ phase. phase.items) phases

-- the workers' seats
abbrev pub worker_seats : List Worker → List SeatOf
worker_seats workers = map (λ worker. worker.seat) workers

-- A worker has run its commands of a phase, and has these answers more.
pub record HasRunPhase (m : MapOf) (phase : Phase) (before after : Worker) : Type 0 where
  pub number : after.number ≡ before.number
  pub answers : List Answer
  pub kept : after.answers.items ≡ before.answers.items ++ answers
  pub room : vec_capacity after.answers ≡ vec_capacity before.answers
  pub answered : AreAnswered m (commands_of before.number phase) answers before.seat after.seat

-- the worker's seat is the map's, and it has room for its answers of a phase
abbrev pub IsReadyFor : MapOf → Phase → Worker → Type 0
IsReadyFor m phase worker = IsMine m worker.seat
    × (length worker.answers.items + length (commands_of worker.number phase)
    ≤ vec_capacity worker.answers)

-- the worker has run its commands of the phase, and its seat is the map's
abbrev pub IsRun : MapOf → Phase → (before after : Worker) → Type 0
IsRun m phase before after = IsMine m after.seat × HasRunPhase m phase before after

-- the worker's seat is the map's and has met these seats, and the rest of the worker is as it was
pub record HasMetAs (m : MapOf) (seats : List SeatOf) (before after : Worker) : Type 0 where
  pub number : after.number ≡ before.number
  pub answers : after.answers ≡ before.answers
  pub own : IsMine m after.seat
  pub met : HasMetAll m seats before.seat after.seat

-- a worker has room for its answers of the phases
abbrev pub HasRoomForAnswers : List Phase → Worker → Type 0
HasRoomForAnswers phases worker =
    length worker.answers.items + length (flat_map (commands_of worker.number) phases)
    ≤ vec_capacity worker.answers

-- the workers' numbers count from w
abbrev pub AreNumbered : (w : ℕ) → List Worker → Type 0
AreNumbered w [] = Unit {0}
AreNumbered w (worker ∷ workers) = (worker.number ≡ w) × AreNumbered (suc w) workers

-- each worker's answers, and behind them those that it has more
abbrev pub joined_answers : List (List Answer) → List (List Answer) → List (List Answer)
joined_answers [] more = []
joined_answers (mine ∷ others) [] = mine ∷ others
joined_answers (mine ∷ others) (first ∷ more) = (mine ++ first) ∷ joined_answers others more

-- the answers of so many workers, each worker's of all phases
abbrev pub all_answers : ℕ → List (List (List Answer)) → List (List Answer)
all_answers n [] = replicate n []
all_answers n (first ∷ later) = joined_answers first (all_answers n later)

-- what the workers' commands were answered so far
abbrev pub answers_of : List Worker → List (List Answer)
answers_of workers = map (λ worker. worker.answers.items) workers

-- The workers have run the phases, and each has its answers of all phases more.
pub record HaveRunAll (m : MapOf) (phases : List Phase) (before after : List Worker) : Type 0 where
  pub answers : List (List (List Answer))
  pub ran : HaveRun m phases answers (worker_seats before) (worker_seats after)
  pub own : All (λ worker. IsMine m worker.seat) after
  pub kept : answers_of after ≡ joined_answers (answers_of before)
      (all_answers (length before) answers)

-- Workers at these seats, new ones, have run the phases: so far came the seats, and these are what
-- their commands were answered.
pub record HaveWorked
    (m : MapOf) (phases : List Phase) (before after : List SeatOf) (answers : List (List Answer)) :
    Type 0 where
  pub workers : List Worker
  pub retired : List Worker
  pub seated : worker_seats workers ≡ before
  pub fresh : All (λ worker. worker.answers.items ≡ []) workers
  pub ran : HaveRunAll m phases workers retired
  pub seats : after ≡ worker_seats retired
  pub answered : answers ≡ answers_of retired
