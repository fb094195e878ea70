-- The lines of a script, one after another.
use Rattle.std.proofs.Common.{◌≡◌, ◌∙◌, ℕ, ◌<◌, ◌≤◌, sym, ap, refl, true, false, cond, List, [], ◌∷◌, ◌++◌, length, map, Result, Ok, Err, is_ok, OnOk, Vec, Global, lt-ltb, le-ltb, eqb, length-append, append_assoc, append-nil, arith}
use Rattle.std.specs.List.{list_any, onto_first, slice_split}
use Rattle.std.proofs.lemmas.Bool.Decides.{nat_tests}
use Rattle.std.proofs.lemmas.List.{map-append}
use Rattle.std.proofs.lemmas.List.Folds.{list_any-append}
use Rattle.nb_script.specs.Script.{Bytes, Fault, Phase, ◌>>=◌, is_newline, lines_from, lines_of, phases_of, without_empty_end}
use Rattle.nb_script.specs.Reading.{IsFirstFault, joined_phases}
use Rattle.nb_script.specs.declared.faults.RunFault.{RunFault}
use Rattle.nb_script.specs.declared.faults.RunFault.TheVariants as fault
use Rattle.nb_script.specs.declared.script.TheConstants.{LINE_MAX, LINES_MAX}
use Rattle.nb_script.specs.declared.script.Cause.TheVariants as cause
use Rattle.nb_script.specs.declared.script.Command.{Command}
use Rattle.nb_script.specs.declared.script.Line.{Line}
use Rattle.nb_script.specs.declared.script.Line.TheVariants as line

pub bind_same :
    {E A B : Type 0} (r : Result A E) (f g : A → Result B E) → ((x : A) → f x ≡ g x)
    → (r >>= f) ≡ (r >>= g)
bind_same (Ok x) f g h = h x
bind_same (Err e) f g h = refl

-- ---- lines

-- a text has a first line part, and later ones
pub record HasPart (parts : List Bytes) : Type 0 where
  pub first : Bytes
  pub later : List Bytes
  pub is : parts ≡ first ∷ later

onto_part : (b : ℕ) (parts : List Bytes) → HasPart (onto_first b parts)
onto_part b [] = record { first = b ∷ []; later = []; is = refl }
onto_part b (p ∷ ps) = record { first = b ∷ p; later = ps; is = refl }

split_some : (bytes : Bytes) → HasPart (slice_split is_newline bytes)
split_some [] = record { first = []; later = []; is = refl }
split_some (b ∷ bytes) =
    elim (is_newline b) as
    (λ t. HasPart (cond t ([] ∷ slice_split is_newline bytes)
    (onto_first b (slice_split is_newline bytes)))) [
      | true ↦ record { first = []; later = slice_split is_newline bytes; is = refl }
      | false ↦ onto_part b (slice_split is_newline bytes)
    ]

no_newline :
    (b : ℕ) (bytes : Bytes) → list_any is_newline (b ∷ bytes) ≡ false → (is_newline b ≡ false)
    × (list_any is_newline bytes ≡ false)
no_newline b bytes e = (grind arith, grind arith)

-- bytes with no newline go onto the first part of what follows
split_append :
    (bytes more : Bytes) (first : Bytes) (later : List Bytes) → list_any is_newline bytes ≡ false
    → slice_split is_newline more ≡ first ∷ later
    → slice_split is_newline (bytes ++ more) ≡ (bytes ++ first) ∷ later
split_append [] more first later e h = h
split_append (b ∷ bytes) more first later e h =
    let n = no_newline b bytes e in
    rw n.0 (ap (onto_first b) (split_append bytes more first later n.1 h))

ends_some :
    (parts : List Bytes) (line : Bytes) → HasPart parts
    → without_empty_end (line ∷ parts) ≡ line ∷ without_empty_end parts
ends_some parts line p = rw p.is refl

-- a newline ends the line that has begun
pub lines_of-newline :
    (line more : Bytes) → list_any is_newline line ≡ false
    → lines_of (line ++ 10 ∷ more) ≡ line ∷ lines_of more
lines_of-newline line more e =
    ap without_empty_end (split_append line (10 ∷ more) [] (slice_split is_newline more) e refl
    ∙ ap (λ l. l ∷ slice_split is_newline more) (append-nil line))
    ∙ ends_some (slice_split is_newline more) line (split_some more)

keeps_first :
    (line : Bytes) (later : List Bytes) → 0 < length line → (rest : List Bytes)
    × (without_empty_end (line ∷ later) ≡ line ∷ rest)
keeps_first line [] some = let e : eqb (length line) 0 ≡ false = grind (arith, nat_tests) in
    ([], rw e refl)
keeps_first line (next ∷ later) some = (without_empty_end (next ∷ later), refl)

-- where no newline has come, the line goes on
pub lines_of-line : (line more : Bytes) → list_any is_newline line ≡ false → 0 < length line
    → (end : Bytes) × (rest : List Bytes) × (lines_of (line ++ more) ≡ (line ++ end) ∷ rest)
lines_of-line line more e some =
    let p = split_some more in
    let long : 0 < length (line ++ p.first) = omega (arith, length-append line p.first) in
    let k = keeps_first (line ++ p.first) p.later long in
    (p.first, k.0, ap without_empty_end (split_append line more p.first p.later e p.is) ∙ k.1)

lines_some : (bytes : Bytes) → 0 < length bytes → HasPart (lines_of bytes)
lines_some [] some = absurd (omega arith)
lines_some (b ∷ bytes) some =
    let p = split_some bytes in
    elim (is_newline b) as
    (λ t. HasPart
    (without_empty_end (cond t ([] ∷ slice_split is_newline bytes)
    (onto_first b (slice_split is_newline bytes))))) [
      | true ↦ record {
        first = [];
        later = without_empty_end (slice_split is_newline bytes);
        is =
            ends_some (slice_split is_newline bytes) [] p;
      }
      | false ↦
          let k = keeps_first (b ∷ p.first) p.later (omega arith) in
          record { first = b ∷ p.first; later = k.0; is = rw p.is k.1 }
    ]

-- a script with too many lines is refused at the first byte past them
pub too_many :
    {A : Type 0} (seats n : ℕ) (line : Bytes) (byte : ℕ) (more : Bytes)
    (f : List Line → Result A Fault) → LINES_MAX < n
    → (lines_from seats n (lines_of (line ++ byte ∷ more)) >>= f) ≡ Err (n, cause.TooMany)
too_many seats n line byte more f past =
    let some : 0 < length (line ++ byte ∷ more) = omega (arith, length-append line (byte ∷ more)) in
    let p = lines_some (line ++ byte ∷ more) some in
    rw (p.is, lt-ltb LINES_MAX n past) refl

-- a line that is too long is refused at the first byte past it
pub long_line :
    {A : Type 0} (seats n : ℕ) (line : Bytes) (byte : ℕ) (more : Bytes)
    (f : List Line → Result A Fault) → n ≤ LINES_MAX → LINE_MAX ≤ length line
    → list_any is_newline line ≡ false → is_newline byte ≡ false
    → (lines_from seats n (lines_of (line ++ byte ∷ more)) >>= f) ≡ Err (n, cause.LongLine)
long_line seats n line byte more f few long whole inside =
    let begun : list_any is_newline (line ++ byte ∷ []) ≡ false =
    rw (list_any-append, whole, inside) refl in
    let p = lines_of-line (line ++ byte ∷ []) more begun
    (omega (arith, length-append line (byte ∷ []))) in
    let past : LINE_MAX < length ((line ++ byte ∷ []) ++ p.0) =
    omega (arith, length-append line (byte ∷ []), length-append (line ++ byte ∷ []) p.0) in
    rw (
      ← append_assoc line (byte ∷ []) more,
      p.2,
      le-ltb LINES_MAX n few,
      lt-ltb LINE_MAX (length ((line ++ byte ∷ []) ++ p.0)) past,
    ) refl

-- ---- phases

-- a script has a phase
pub record HasFirst (phases : List Phase) : Type 0 where
  pub first : Phase
  pub later : List Phase
  pub is : phases ≡ first ∷ later

onto_some : (task : ℕ × Command) (phases : List Phase) → HasFirst (onto_first task phases)
onto_some task [] = record { first = task ∷ []; later = []; is = refl }
onto_some task (p ∷ ps) = record { first = task ∷ p; later = ps; is = refl }

pub phases_some : (lines : List Line) → HasFirst (phases_of lines)
phases_some [] = record { first = []; later = []; is = refl }
phases_some (line.PhaseEnd ∷ lines) = record { first = []; later = phases_of lines; is = refl }
phases_some (line.Command w c ∷ lines) = onto_some (w, c) (phases_of lines)

pub joined_nothing : (lines : List Line) → joined_phases [] [] (phases_of lines) ≡ phases_of lines
joined_nothing lines = let p = phases_some lines in rw p.is refl

pub joined_end :
    (over : List Phase) (current : Phase) (lines : List Line)
    → joined_phases (over ++ current ∷ []) [] (phases_of lines)
    ≡ joined_phases over current ([] ∷ phases_of lines)
joined_end over current lines =
    let p = phases_some lines in
    rw p.is (append_assoc over (current ∷ []) (p.first ∷ p.later)
    ∙ ap (λ q. over ++ q ∷ p.first ∷ p.later) (sym (append-nil current)))

abbrev commands : Vec (ℕ × Command) Global → Phase
commands phase = phase.items

-- the same where the current phase was pushed to those that are over
pub joined_ended :
    (over : List (Vec (ℕ × Command) Global)) (phase : Vec (ℕ × Command) Global) (current : Phase)
    (lines : List Line) → phase.items ≡ current
    → joined_phases (map commands (over ++ phase ∷ [])) [] (phases_of lines)
    ≡ joined_phases (map commands over) current ([] ∷ phases_of lines)
joined_ended over phase current lines e =
    ap (λ ps. joined_phases ps [] (phases_of lines)) (map-append commands over (phase ∷ [])
    ∙ ap (λ p. map commands over ++ p ∷ []) e)
    ∙ joined_end (map commands over) current lines

-- what follows from a push that succeeded, where its error was mapped
pub after_push :
    {X T D E R : Type 0} (r : Result T D) (s : Result T E) (old new : List X) (x : X)
    → is_ok s ≡ is_ok r → new ≡ cond (is_ok r) (old ++ x ∷ []) old → (new ≡ old ++ x ∷ [] → R)
    → OnOk s R
after_push (Ok y) (Ok z) old new x same e f = f e
after_push (Ok y) (Err z) old new x same e f = tt
after_push (Err d) (Ok y) old new x same e f = cc
after_push (Err d) (Err y) old new x same e f = tt

pub on_ok_both :
    {T E P Q R : Type 0} (r : Result T E) → OnOk r P → OnOk r Q → (P → Q → R) → OnOk r R
on_ok_both (Ok x) p q f = f p q
on_ok_both (Err e) p q f = tt

-- A fault is first whatever follows: then it is so after each text that follows.
pub first_along :
    {A B : Type 0} (f : A → Result (List Phase) Fault) (g : B → Result (List Phase) Fault)
    (h : B → A) → ((b : B) → g b ≡ f (h b)) → (fault : RunFault) → IsFirstFault f fault
    → IsFirstFault g fault
first_along f g h e fault.Read first = first
first_along f g h e fault.Write first = first
first_along f g h e (fault.Line n cause) first = λ b. e b ∙ first (h b)
first_along f g h e fault.OutOfMemory first = tt

-- the end of the text ends the line that has begun
pub lines_of-end :
    (line : Bytes) → list_any is_newline line ≡ false → 0 < length line
    → lines_of (line ++ []) ≡ line ∷ []
lines_of-end line whole some =
    let e : eqb (length line) 0 ≡ false = grind (arith, nat_tests) in
    ap without_empty_end (split_append line [] [] [] whole refl
    ∙ ap (λ l. l ∷ []) (append-nil line)) ∙ rw e refl
