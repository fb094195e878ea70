-- What commands do to a map, one after another, and the text that tells of it.
use Rattle.std.specs.Prelude.{ℕ, suc, Bool, true, false, if◌then◌else◌, List, [], ◌∷◌, ◌++◌, codes, decimal, Option, Some, None, Result, Ok, Err}
use Rattle.std.specs.List.{flat_map}
use Rattle.std.specs.FinMap as map
use Rattle.nb_core.specs.Calls.{overflows}
use Rattle.nb_core.specs.Log.{Numbers, map_after, reply_of}
use Rattle.nb_core.specs.declared.calls.Call.{Call}
use Rattle.nb_core.specs.declared.calls.Call.TheVariants as call
use Rattle.nb_core.specs.declared.calls.Want.TheVariants.{Any, Absent, Present, Equal}
use Rattle.nb_core.specs.declared.calls.Change.TheVariants as change
use Rattle.nb_core.specs.declared.calls.Reply.{Reply}
use Rattle.nb_map.specs.declared.faults.Full.{Full}
use Rattle.nb_map.specs.declared.faults.AddFault.{AddFault}
use Rattle.nb_map.specs.declared.faults.AddFault.TheVariants as fault
use Rattle.nb_script.specs.Script.{Bytes, Phase}
use Rattle.nb_script.specs.declared.script.Command.{Command}
use Rattle.nb_script.specs.declared.script.Command.TheVariants as command
use Rattle.nb_runner.specs.declared.answers.Answer.{Answer}
use Rattle.nb_runner.specs.declared.answers.Answer.TheVariants as answer

-- the call of the map that a command makes
abbrev pub call_of : Command → Call
call_of (command.Get k) = call.Get k
call_of (command.Put k n) = call.Write k Any (change.Put n)
call_of (command.PutIfAbsent k n) = call.Write k Absent (change.Put n)
call_of (command.Replace k n) = call.Write k Present (change.Put n)
call_of (command.ReplaceIf k old n) = call.Write k (Equal old) (change.Put n)
call_of (command.Remove k) = call.Write k Any change.Remove
call_of (command.RemoveIf k n) = call.Write k (Equal n) change.Remove
call_of (command.Add k n) = call.Write k Any (change.Add n)

abbrev pub before : Option ℕ → Answer
before None = answer.Nothing
before (Some n) = answer.Value n

-- what a put answers
abbrev pub of_put : Result (Option ℕ) Full → Answer
of_put (Ok value) = before value
of_put (Err fault) = answer.Full

-- what an add answers
abbrev pub of_add : Result (Option ℕ) AddFault → Answer
of_add (Ok value) = before value
of_add (Err fault.Full) = answer.Full
of_add (Err fault.ValueRange) = answer.Range

-- what is shown of the map's reply: whether the two with an expected value acted, and else the
-- earlier value
abbrev pub shown : Command → Reply → Answer
shown (command.Get k) reply = before reply.before
shown (command.Put k n) reply = before reply.before
shown (command.PutIfAbsent k n) reply = before reply.before
shown (command.Replace k n) reply = before reply.before
shown (command.ReplaceIf k old n) reply = answer.Matched reply.matched
shown (command.Remove k) reply = before reply.before
shown (command.RemoveIf k n) reply = answer.Matched reply.matched
shown (command.Add k n) reply = before reply.before

-- what a command answers on a map; an add past the greatest number is refused
abbrev pub answer_of : Command → Numbers → Answer
answer_of c m = if overflows (call_of c) m then answer.Range else shown c (reply_of (call_of c) m)

-- the map that a command leaves
abbrev pub map_after_command : Command → Numbers → Numbers
map_after_command c m = if overflows (call_of c) m then m else map_after (call_of c) m

-- the map that commands leave, one after another, where the one at place n is refused for want of
-- room if full n is true
abbrev pub map_behind : (ℕ → Bool) → Numbers → List Command → Numbers
map_behind full m [] = m
map_behind full m (c ∷ cs) =
    map_behind (λ n. full (suc n)) (if full 0 then m else map_after_command c m) cs

-- ---- the text

abbrev pub answer_text : Answer → Bytes
answer_text answer.Nothing = codes "-"
answer_text (answer.Value n) = decimal n
answer_text (answer.Matched true) = codes "true"
answer_text (answer.Matched false) = codes "false"
answer_text answer.Full = codes "full"
answer_text answer.Range = codes "range"

abbrev pub answer_line : ℕ → Answer → Bytes
answer_line worker a = decimal worker ++ codes " " ++ answer_text a ++ codes "\n"

abbrev pub entry_line : ℕ × ℕ → Bytes
entry_line entry = decimal entry.0 ++ codes " " ++ decimal entry.1 ++ codes "\n"

-- the size and the entries
abbrev pub ending_of : ℕ → List (ℕ × ℕ) → Bytes
ending_of size entries = codes "size " ++ decimal size ++ codes "\n" ++ flat_map entry_line entries

-- those of a map, ascending by key
abbrev pub ending : Numbers → Bytes
ending m = ending_of (map.len m) (map.entries m)

-- The text for commands from a map on, each with its worker's number. The command at place n is
-- refused for want of room where full n is true: it answers so, and leaves the map as it is.
abbrev pub text_from : (ℕ → Bool) → Numbers → Phase → Bytes
text_from full m [] = ending m
text_from full m (task ∷ tasks) =
    if full 0 then answer_line task.0 answer.Full ++ text_from (λ n. full (suc n)) m tasks
    else answer_line task.0 (answer_of task.1 m) ++ text_from (λ n. full (suc n))
    (map_after_command task.1 m) tasks

-- the text of a script for one worker, with these commands refused
abbrev pub text_of : (ℕ → Bool) → List Phase → Bytes
text_of full phases = text_from full map.empty (flat_map (λ phase. phase) phases)
