-- What a script says. It is bytes: lines, of words, with a command or the end of a phase on each
-- line that has words.
use Rattle.std.specs.Prelude.{ℕ, ◌==◌, ◌||◌, ◌&&◌, suc, nat_lt, if◌then◌else◌, Bool, List, [], ◌∷◌, ◌++◌, length, filter, codes, slice_get, Option, Some, None, Result, Ok, Err, option_to_list}
use Rattle.std.specs.List.{slice_split, onto_first}
use Rattle.std.specs.Str.{bytes_eq}
use Rattle.std.specs.Option.{ok_or}
use Rattle.nb_core.specs.Digits.{number_spelled}
use Rattle.nb_core.specs.declared.numbers.TheConstants.{KEY_MAX, VALUE_MAX}
use Rattle.nb_script.specs.declared.script.TheConstants.{LINE_MAX, LINES_MAX}
use Rattle.nb_script.specs.declared.script.Cause.{Cause}
use Rattle.nb_script.specs.declared.script.Cause.TheVariants as cause
use Rattle.nb_script.specs.declared.script.Op.{Op}
use Rattle.nb_script.specs.declared.script.Op.TheVariants as op
use Rattle.nb_script.specs.declared.script.Command.{Command}
use Rattle.nb_script.specs.declared.script.Command.TheVariants as command
use Rattle.nb_script.specs.declared.script.Line.{Line}
use Rattle.nb_script.specs.declared.script.Line.TheVariants as line

abbrev pub Bytes : Type 0
Bytes = List ℕ

-- One step after another, up to the first fault.
infixl 10 ◌>>=◌
abbrev pub ◌>>=◌ : {E A B : Type 0} → Result A E → (A → Result B E) → Result B E
(Ok x) >>= f = f x
(Err e) >>= f = Err e

-- ---- lines and words

abbrev pub is_newline : ℕ → Bool
is_newline b = b == 10

-- a space, a tab or a carriage return
abbrev pub is_space : ℕ → Bool
is_space b = b == 32 || b == 9 || b == 13

abbrev pub without_empty_end : List Bytes → List Bytes
without_empty_end [] = []
without_empty_end (line ∷ []) = if length line == 0 then [] else line ∷ []
without_empty_end (line ∷ next ∷ lines) = line ∷ without_empty_end (next ∷ lines)

-- the lines, without their newlines; what follows the last newline is a line if it has a byte
abbrev pub lines_of : Bytes → List Bytes
lines_of bytes = without_empty_end (slice_split is_newline bytes)

-- the longest runs of bytes that aren't blank
abbrev pub words_in : Bytes → List Bytes
words_in line = filter (λ word. nat_lt 0 (length word)) (slice_split is_space line)

-- ---- numbers

abbrev pub below : ℕ → Cause → Option ℕ → Result ℕ Cause
below limit too_great None = Err cause.Number
below limit too_great (Some n) = if nat_lt n limit then Ok n else Err too_great

abbrev pub worker_of : ℕ → Bytes → Result ℕ Cause
worker_of seats word = below seats cause.Worker (number_spelled word)

abbrev pub key_of : Bytes → Result ℕ Cause
key_of word = below (suc KEY_MAX) cause.KeyRange (number_spelled word)

abbrev pub value_of : Bytes → Result ℕ Cause
value_of word = below (suc VALUE_MAX) cause.ValueRange (number_spelled word)

-- ---- commands

abbrev pub op_of : Bytes → Option Op
op_of word =
    if bytes_eq word (codes "get") then Some op.Get
    else if bytes_eq word (codes "put") then Some op.Put
    else if bytes_eq word (codes "putifabsent") then Some op.PutIfAbsent
    else if bytes_eq word (codes "replace") then Some op.Replace
    else if bytes_eq word (codes "replaceif") then Some op.ReplaceIf
    else if bytes_eq word (codes "remove") then Some op.Remove
    else if bytes_eq word (codes "removeif") then Some op.RemoveIf
    else if bytes_eq word (codes "add") then Some op.Add
    else None

-- how many arguments an op has, the key among them
abbrev pub arity : Op → ℕ
arity op.Get = 1
arity op.Put = 2
arity op.PutIfAbsent = 2
arity op.Replace = 2
arity op.ReplaceIf = 3
arity op.Remove = 1
arity op.RemoveIf = 2
arity op.Add = 2

-- the argument at a place, as a key or as a value
abbrev pub key_at : List Bytes → ℕ → Result ℕ Cause
key_at words i = ok_or (slice_get words i) cause.Missing >>= key_of

abbrev pub value_at : List Bytes → ℕ → Result ℕ Cause
value_at words i = ok_or (slice_get words i) cause.Missing >>= value_of

-- the command of an op on a key, with the arguments behind it
unfoldable pub command_on : Op → ℕ → List Bytes → Result Command Cause
command_on op.Get k words = Ok (command.Get k)
command_on op.Put k words = value_at words 1 >>= λ n. Ok (command.Put k n)
command_on op.PutIfAbsent k words = value_at words 1 >>= λ n. Ok (command.PutIfAbsent k n)
command_on op.Replace k words = value_at words 1 >>= λ n. Ok (command.Replace k n)
command_on op.ReplaceIf k words =
    value_at words 1 >>= λ old. value_at words 2 >>= λ n. Ok (command.ReplaceIf k old n)
command_on op.Remove k words = Ok (command.Remove k)
command_on op.RemoveIf k words = value_at words 1 >>= λ n. Ok (command.RemoveIf k n)
command_on op.Add k words = value_at words 1 >>= λ n. Ok (command.Add k n)

-- the command of an op with these arguments
unfoldable pub command_of : Op → List Bytes → Result Command Cause
command_of o words =
    if nat_lt (length words) (arity o) then Err cause.Missing
    else if nat_lt (arity o) (length words) then Err cause.Extra
    else key_at words 0 >>= λ k. command_on o k words

-- a line with a command: a worker's number, an op and its arguments
unfoldable pub task_of : ℕ → Bytes → List Bytes → Result (ℕ × Command) Cause
task_of seats first [] = worker_of seats first >>= λ w. Err cause.Missing
task_of seats first (name ∷ words) =
    worker_of seats first >>= λ w. ok_or (op_of name) cause.Op >>= λ o. command_of o words >>= λ c.
    Ok (w, c)

-- ---- lines, the script, and its first fault

-- what a line of these words says, if it has words
unfoldable pub said_by : ℕ → List Bytes → Result (Option Line) Cause
said_by seats [] = Ok None
said_by seats (word ∷ words) =
    if bytes_eq word (codes "--") && length words == 0 then Ok (Some line.PhaseEnd)
    else task_of seats word words >>= λ task. Ok (Some (line.Command task.0 task.1))

abbrev pub line_of : ℕ → Bytes → Result (Option Line) Cause
line_of seats bytes =
    if nat_lt LINE_MAX (length bytes) then Err cause.LongLine else said_by seats (words_in bytes)

-- the first fault of a script: the number of its line, counted from 1, and its cause
abbrev pub Fault : Type 0
Fault = ℕ × Cause

abbrev pub at_line : {A : Type 0} → ℕ → Result A Cause → Result A Fault
at_line n (Ok x) = Ok x
at_line n (Err c) = Err (n, c)

abbrev pub numbered_line : ℕ → ℕ → Bytes → Result (Option Line) Fault
numbered_line seats n bytes =
    at_line n (if nat_lt LINES_MAX n then Err cause.TooMany else line_of seats bytes)

-- the lines from number n on that have words
abbrev pub lines_from : ℕ → ℕ → List Bytes → Result (List Line) Fault
lines_from seats n [] = Ok []
lines_from seats n (bytes ∷ rest) =
    numbered_line seats n bytes >>= λ first. lines_from seats (suc n) rest >>= λ lines. Ok
    (option_to_list first ++ lines)

-- A phase is what stands between the lines that end one: commands, each with its worker's number.
abbrev pub Phase : Type 0
Phase = List (ℕ × Command)

abbrev pub phases_of : List Line → List Phase
phases_of [] = [] ∷ []
phases_of (line.PhaseEnd ∷ lines) = [] ∷ phases_of lines
phases_of (line.Command w c ∷ lines) = onto_first (w, c) (phases_of lines)

-- what a script says to so many workers: its phases, or its first fault
abbrev pub script_of : ℕ → Bytes → Result (List Phase) Fault
script_of seats bytes = lines_from seats 1 (lines_of bytes) >>= λ lines. Ok (phases_of lines)
