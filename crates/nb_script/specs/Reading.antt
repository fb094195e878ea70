-- What the lines of a script so far say, and what the whole script says if more bytes follow.
use Rattle.std.specs.Prelude.{◌≡◌, ℕ, ◌+◌, ◌-◌, ◌*◌, List, [], ◌∷◌, ◌++◌, length, map, Result, Ok, Err}
use Rattle.nb_script.specs.Script.{Bytes, Fault, Phase, ◌>>=◌, lines_from, lines_of, phases_of}
use Rattle.nb_script.specs.declared.script.TheConstants.{LINE_MAX, LINES_MAX}
use Rattle.nb_script.specs.declared.script.Line.{Line}
use Rattle.nb_script.specs.declared.faults.RunFault.{RunFault}
use Rattle.nb_script.specs.declared.faults.RunFault.TheVariants as fault
use Rattle.nb_script.specs.declared.reader.Lines.{Lines}

-- The phases that are over, then the current one, and what follows: the first of those goes on with
-- the current one.
abbrev pub joined_phases : List Phase → Phase → List Phase → List Phase
joined_phases over current [] = over ++ current ∷ []
joined_phases over current (first ∷ later) = over ++ (current ++ first) ∷ later

-- the phases so far, if these lines follow
abbrev pub with_lines : Lines → List Line → List Phase
with_lines l lines =
    joined_phases (map (λ phase. phase.items) l.over.items) l.current.items (phases_of lines)

-- the whole script, if these lines follow
abbrev pub with_texts : Lines → List Bytes → Result (List Phase) Fault
with_texts l rest = lines_from l.seats l.number rest >>= λ lines. Ok (with_lines l lines)

-- the whole script, if these bytes follow
abbrev pub with_bytes : Lines → Bytes → Result (List Phase) Fault
with_bytes l more = with_texts l (lines_of (l.partial.items ++ more))

-- how many bytes the lines can still take
abbrev pub room : Lines → ℕ
room l = (LINE_MAX + 1) * (LINES_MAX + 1 - l.number) + (LINE_MAX - length l.partial.items)

-- the fault is the script's first one, whatever follows, or memory ran out
abbrev pub IsFirstFault : {A : Type 0} → (A → Result (List Phase) Fault) → RunFault → Type 0
IsFirstFault script fault.Read = ⊥
IsFirstFault script fault.Write = ⊥
IsFirstFault {A} script (fault.Line n cause) = (more : A) → script more ≡ Err (n, cause)
IsFirstFault script fault.OutOfMemory = Unit {0}
