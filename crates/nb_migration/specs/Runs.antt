-- Runs of the protocol: the logs of all cores, and the history of moving keys that they are.
use Rattle.std.specs.Prelude.{◌≡◌, ℕ, ◌==◌, true, if◌then◌else◌, List, [], ◌∷◌, map}
use Rattle.nb_core.specs.Log.{Entry, IsReplayed}
use Rattle.nb_core.specs.declared.calls.Reply.{Reply}
use Rattle.nb_migration.specs.CoreCalls.{CoreCall, IsMade, entry_by, event_of, called_key}
use Rattle.nb_migration.specs.Shown.{ShowsState}
use Rattle.nb_moving.specs.Laws.{AreOneMap}
use Rattle.nb_moving.specs.Moving.{IsLegal, MayFollow, SealsHold, has_core, row_of, state_in}
use Rattle.nb_moving.specs.declared.events.Event.{Event}
use Rattle.nb_moving.specs.declared.events.Event.TheVariants.{Begin, Seal, Fill}
use Rattle.nb_moving.specs.declared.events.Link.{Link}

-- what a thread does at a core: a call in it, by one of its seats; or what is in no log
pub data Move : Type 0 where
  Calls : (seat : ℕ) → CoreCall → Reply → Move
  Links : Link → Move
  Seals : Move
  FindsFull : (key : ℕ) → Move

-- A run is a list of turns, the newest first.
pub record Turn : Type 0 where
  pub thread : ℕ
  pub core : ℕ
  pub move : Move

-- the log with what a move brings
abbrev pub log_with : Move → List Entry → List Entry
log_with (Calls seat call reply) log = entry_by seat call reply ∷ log
log_with _ log = log

-- the log of a core
abbrev pub core_log : List Turn → ℕ → List Entry
core_log [] c = []
core_log (turn ∷ run) c =
    if turn.core == c then log_with turn.move (core_log run c) else core_log run c

abbrev pub event_by : (thread core : ℕ) → Move → Event
event_by t c (Calls seat call reply) = event_of t c call reply
event_by t c (Links link) = Begin t c link
event_by t c Seals = Seal t c
event_by t c (FindsFull key) = Fill t c key

-- the history of a run
abbrev pub history_of : List Turn → List Event
history_of = map (λ turn. event_by turn.thread turn.core turn.move)

-- the move is made after this history, in this core whose log was this; what is in no log is what may
-- follow
abbrev pub IsMove : List Event → List Entry → (thread core : ℕ) → Move → Type 0
IsMove h log t c (Calls seat call reply) = IsMade h log t c call reply
IsMove h log t c move = MayFollow h (event_by t c move)

-- each turn is made after those before it
abbrev pub AreTurns : List Turn → Type 0
AreTurns [] = Unit {0}
AreTurns (turn ∷ run) = AreTurns run
    × IsMove (history_of run) (core_log run turn.core) turn.thread turn.core turn.move

-- ---- the laws

-- A call whose core's log shows what its key is there is an event that may follow, and the log with
-- its entry shows what the key is there then.
abbrev pub CallsAreEvents : Type 0
CallsAreEvents =
    (h : List Event) (log : List Entry) (thread core seat : ℕ) (call : CoreCall) (reply : Reply)
    → IsMade h log thread core call reply
    → ShowsState log (called_key call) (state_in core (row_of h (called_key call)))
    → MayFollow h (event_of thread core call reply)
    × ShowsState (entry_by seat call reply ∷ log) (called_key call)
    (state_in core (row_of (event_of thread core call reply ∷ h) (called_key call)))

-- Each core's log is replayed, and the history is legal. Of each key each core of its row shows in
-- its log what the key is there.
pub record HaveLogs (run : List Turn) : Type 0 where
  pub replayed : (c : ℕ) → IsReplayed (core_log run c)
  pub legal : IsLegal (history_of run)
  pub shown : (c key : ℕ) → has_core c (row_of (history_of run) key) ≡ true
      → ShowsState (core_log run c) key (state_in c (row_of (history_of run) key))

-- The logs of all cores and the history go together.
abbrev pub CoresHaveLogs : Type 0
CoresHaveLogs = (run : List Turn) → AreTurns run → HaveLogs run

-- So the users' calls that were made in all cores are one map, by the law of moving.
abbrev pub RunsAreOneMap : Type 0
RunsAreOneMap =
    (run : List Turn) → AreTurns run → SealsHold (history_of run) → AreOneMap (history_of run)
