-- What a text tells of a history, for any number of workers.
use Rattle.std.specs.Prelude.{◌≡◌, ◌≤◌, ◌<◌, ◌-◌, ℕ, suc, Bool, true, List, [], ◌∷◌, ◌++◌, All, length, map, slice_get, take, None, Some}
use Rattle.std.specs.FinMap.{empty, get}
use Rattle.std.specs.List.{flat_map}
use Rattle.nb_core.specs.Calls.{overflows}
use Rattle.nb_core.specs.History.{IsLegal, key_of_call}
use Rattle.nb_core.specs.Log.{Entry, IsBeginning, IsReplayed, calls_of, log_of, map_of_log}
use Rattle.nb_core.specs.Meaning.{IsCrowded}
use Rattle.nb_core.specs.Plans.{Plan, generations_of, size_of}
use Rattle.nb_core.specs.Tables.{tables_at}
use Rattle.nb_core.specs.declared.calls.Call.{Call}
use Rattle.nb_core.specs.declared.calls.Reply.{Reply}
use Rattle.nb_core.specs.declared.events.Event.{Event}
use Rattle.nb_map.specs.Crowding.{IsClaimOf, fills, others_filled}
use Rattle.nb_script.specs.Script.{Bytes, Phase}
use Rattle.nb_runner.specs.Text.{answer_line, call_of, ending, map_behind, shown, text_of}
use Rattle.nb_runner.specs.Working.{commands_but, commands_in, commands_of}
use Rattle.nb_script.specs.declared.script.Command.{Command}
use Rattle.nb_runner.specs.declared.answers.Answer.{Answer}
use Rattle.nb_runner.specs.declared.answers.Answer.TheVariants as answer

-- ---- who filled the map

abbrev pub key_of_command : Command → ℕ
key_of_command c = key_of_call (call_of c)

-- These commands may have taken all slots of the last table from the command's key: it puts a
-- number at an absent key, and they on as many other keys.
abbrev pub MayCrowd : Plan → List Command → Command → Type 0
MayCrowd p commands c =
    (fills (call_of c) ≡ true) × (size_of p (generations_of p - 1)
    ≤ others_filled (key_of_command c) (map call_of commands))

-- ---- answers and calls

-- A moment is given by the log until then. From one moment to a later one the worker made these
-- calls and no others.
pub record HasDone (w : ℕ) (calls : List (Call × Reply)) (before after : List Entry) : Type 0 where
  pub begun : IsBeginning before after
  pub made : calls_of w begun.later ≡ calls

-- it made one call, that of the command, and this is what is shown of its reply
abbrev pub IsCallShown : (w : ℕ) → Command → Answer → (before after : List Entry) → Type 0
IsCallShown w c a before after =
    (reply : Reply) × (shown c reply ≡ a) × HasDone w ((call_of c, reply) ∷ []) before after

-- Where a command may be refused for want of room: a fact of the commands that may have run until
-- then, of the command, and of the log until then.
abbrev pub Refusals : Type 1
Refusals = List Command → Command → List Entry → Type 0

-- In what follows, `so_far` are the commands that may have run until then: all of the earlier phases,
-- in the phase those of the other workers, and the worker's own before.

-- From one moment to the other the worker ran this command, which was answered so. A refused
-- command made no call. One was refused for want of room only where it may be; and for its sum only
-- where that was past the greatest number in the map of that moment.
abbrev pub IsCommandTold :
    Refusals → (so_far : List Command) (w : ℕ) → Command → Answer → (before after : List Entry)
    → Type 0
IsCommandTold full so_far w c answer.Nothing before after = IsCallShown w c answer.Nothing before after
IsCommandTold full so_far w c (answer.Value n) before after =
    IsCallShown w c (answer.Value n) before after
IsCommandTold full so_far w c (answer.Matched b) before after =
    IsCallShown w c (answer.Matched b) before after
IsCommandTold full so_far w c answer.Full before after = full so_far c after × HasDone w [] before after
IsCommandTold full so_far w c answer.Range before after =
    (overflows (call_of c) (map_of_log after) ≡ true) × HasDone w [] before after

-- So one command after another, and nothing behind the last one.
abbrev pub AreTold :
    Refusals → (so_far : List Command) (w : ℕ) → List Command → List Answer
    → (before after : List Entry) → Type 0
AreTold full so_far w [] [] before after = HasDone w [] before after
AreTold full so_far w [] (a ∷ answers) before after = ⊥
AreTold full so_far w (c ∷ cs) [] before after = ⊥
AreTold full so_far w (c ∷ cs) (a ∷ answers) before after =
    (next : List Entry) × IsCommandTold full so_far w c a before next
    × AreTold full (so_far ++ c ∷ []) w cs answers next after

-- From one moment to the other the workers from number w on ran their commands of the phase, each
-- in their order.
abbrev pub IsPhaseTold :
    Refusals → (so_far : List Command) → Phase → (w : ℕ) → List (List Answer)
    → (before after : List Entry) → Type 0
IsPhaseTold full so_far phase w [] before after = Unit {0}
IsPhaseTold full so_far phase w (mine ∷ others) before after =
    AreTold full (so_far ++ commands_but w phase) w (commands_of w phase) mine before after
    × IsPhaseTold full so_far phase (suc w) others before after

-- One phase after another was run from the moment on, and the log ends with the last one.
abbrev pub ArePhasesTold :
    Refusals → (so_far : List Command) → List Phase → List (List (List Answer))
    → (before log : List Entry) → Type 0
ArePhasesTold full so_far [] [] before log = log ≡ before
ArePhasesTold full so_far [] (first ∷ answers) before log = ⊥
ArePhasesTold full so_far (phase ∷ phases) [] before log = ⊥
ArePhasesTold full so_far (phase ∷ phases) (first ∷ answers) before log =
    (next : List Entry) × IsPhaseTold full so_far phase 0 first before next
    × ArePhasesTold full (so_far ++ commands_in phase) phases answers next log

-- ---- the text

-- the answers of the workers from number w on
abbrev pub phase_text : (w : ℕ) → List (List Answer) → Bytes
phase_text w [] = []
phase_text w (mine ∷ others) = flat_map (answer_line w) mine ++ phase_text (suc w) others

-- all commands of a script
abbrev pub all_commands : List Phase → List Command
all_commands phases = flat_map commands_in phases

-- In this history each claim was of a key that these commands fill, or that has a slot in the table
-- below.
abbrev pub AreClaimsOf : Plan → List Event → List Command → Type 0
AreClaimsOf p history commands = All (IsClaimOf p (tables_at p history) (map call_of commands))
    history

-- When the log of this history was so, other keys had all slots of the last table. Until then each
-- claim was of a key that the commands that may have run or this one fill, or that had a slot in the
-- table below; and those commands fill as many other keys.
abbrev pub WasCrowded : Plan → List Event → Refusals
WasCrowded p history so_far c at =
    (then : List Event) × IsBeginning then history × (log_of then ≡ at)
    × IsCrowded p then (key_of_command c) × AreClaimsOf p then (so_far ++ c ∷ []) × MayCrowd p so_far c

-- A log in which each worker's calls are those of its commands that weren't refused, with the
-- answers that the text shows, phase after phase; and each refusal was just at its moment. It is
-- replayed, and behind the answers the text has the size and the entries of its map. It is the log
-- of a legal history, which tells when the map was full.
pub record IsToldBy (p : Plan) (phases : List Phase) (history : List Event) (text : Bytes) :
    Type 0 where
  pub legal : IsLegal p history
  pub replayed : IsReplayed (log_of history)
  pub workers : All (λ entry. entry.seat < p.seats) (log_of history)
  pub answers : List (List (List Answer))
  pub each : All (λ phase. length phase ≡ p.seats) answers
  pub told : ArePhasesTold (WasCrowded p history) [] phases answers [] (log_of history)
  pub is : text ≡ flat_map (phase_text 0) answers ++ ending (map_of_log (log_of history))

-- ---- one worker

-- The text is the plain map's but for some commands that were refused for want of room. Before each
-- of these its key was absent; the command may put a number there, and earlier commands may have
-- filled the map. Where all commands are the one worker's, this follows from IsToldBy.
pub record IsLoneText (p : Plan) (phases : List Phase) (text : Bytes) : Type 0 where
  pub full : ℕ → Bool
  pub is : text ≡ text_of full phases
  pub absent :
      (n : ℕ) (c : Command) → full n ≡ true → slice_get (all_commands phases) n ≡ Some c
      → get (map_behind full empty (take n (all_commands phases))) (key_of_command c) ≡ None
  pub just :
      (n : ℕ) (c : Command) → full n ≡ true → slice_get (all_commands phases) n ≡ Some c
      → MayCrowd p (take n (all_commands phases)) c
