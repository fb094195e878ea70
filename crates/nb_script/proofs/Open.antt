-- While a line goes on that isn't too long, no fault is settled: the line may end here, and then
-- its cause isn't its length, or it may become too long.
use Rattle.std.specs.Prelude.{option_to_list}
use Rattle.std.proofs.lemmas.List.{length-replicate}
use Rattle.std.proofs.Common.{zero, Bool, ◌≡◌, ◌≢◌, ◌∙◌, ℕ, ◌≤◌, ◌<◌, ◌==◌, ◌&&◌, suc, nat_lt, true, false, cond, List, [], ◌∷◌, ◌++◌, length, replicate, Option, Some, None, Result, Ok, Err, IfErr, ap, sym, refl, codes, slice_get, append_assoc, length-append, le-ltb, arith}
use Rattle.std.specs.List.{list_any}
use Rattle.std.specs.Option.{ok_or}
use Rattle.std.specs.Str.{bytes_eq}
use Rattle.std.proofs.lemmas.List.Folds.{list_any-append}
use Rattle.nb_core.specs.Digits.{number_spelled}
use Rattle.nb_script.specs.Script.{Bytes, Fault, Phase, ◌>>=◌, arity, at_line, below, command_of, command_on, is_newline, key_at, key_of, lines_from, lines_of, numbered_line, op_of, said_by, task_of, value_at, value_of, words_in, worker_of}
use Rattle.nb_script.specs.declared.script.TheConstants.{LINE_MAX, LINES_MAX}
use Rattle.nb_script.specs.declared.script.Cause.{Cause}
use Rattle.nb_script.specs.declared.script.Cause.TheVariants as cause
use Rattle.nb_script.specs.declared.script.Command.{Command}
use Rattle.nb_script.specs.declared.script.Line.{Line}
use Rattle.nb_script.specs.declared.script.Op.{Op}
use Rattle.nb_script.specs.declared.script.Op.TheVariants as op
use Rattle.nb_script.proofs.Reading.{lines_of-end, long_line}

-- ---- what words say is never too long

abbrev IsShort : {A : Type 0} → Result A Cause → Type 0
IsShort r = IfErr r (λ c. c ≢ cause.LongLine)

short-bind :
    {A B : Type 0} (r : Result A Cause) (f : A → Result B Cause) → IsShort r
    → ((x : A) → IsShort (f x)) → IsShort (r >>= f)
short-bind (Ok x) f h k = k x
short-bind (Err c) f h k = h

short-if :
    {A : Type 0} (b : Bool) (x y : Result A Cause) → IsShort x → IsShort y → IsShort (cond b x y)
short-if true x y h k = h
short-if false x y h k = k

short-or : {A : Type 0} (o : Option A) (c : Cause) → c ≢ cause.LongLine → IsShort (ok_or o c)
short-or None c other = other
short-or (Some x) c other = tt

short-below :
    (limit : ℕ) (c : Cause) (o : Option ℕ) → c ≢ cause.LongLine → IsShort (below limit c o)
short-below limit c None other = λ e. cc
short-below limit c (Some n) other = short-if (nat_lt n limit) (Ok n) (Err c) tt other

short-key : (words : List Bytes) (i : ℕ) → IsShort (key_at words i)
short-key words i =
    short-bind (ok_or (slice_get words i) cause.Missing) key_of
    (short-or (slice_get words i) cause.Missing (λ e. cc))
    (λ word. short-below _ cause.KeyRange (number_spelled word) (λ e. cc))

short-value : (words : List Bytes) (i : ℕ) → IsShort (value_at words i)
short-value words i =
    short-bind (ok_or (slice_get words i) cause.Missing) value_of
    (short-or (slice_get words i) cause.Missing (λ e. cc))
    (λ word. short-below _ cause.ValueRange (number_spelled word) (λ e. cc))

short-one : (words : List Bytes) (f : ℕ → Command) → IsShort (value_at words 1 >>= λ n. Ok (f n))
short-one words f = short-bind (value_at words 1) (λ n. Ok (f n)) (short-value words 1) (λ n. tt)

short-on : (o : Op) (k : ℕ) (words : List Bytes) → IsShort (command_on o k words)
unfolding command_on
short-on op.Get k words = tt
short-on op.Put k words = short-one words (λ n. Command.Put k n)
short-on op.PutIfAbsent k words = short-one words (λ n. Command.PutIfAbsent k n)
short-on op.Replace k words = short-one words (λ n. Command.Replace k n)
short-on op.ReplaceIf k words =
    short-bind (value_at words 1) (λ old. value_at words 2 >>= λ n. Ok (Command.ReplaceIf k old n))
    (short-value words 1)
    (λ old. short-bind (value_at words 2) (λ n. Ok (Command.ReplaceIf k old n))
    (short-value words 2) (λ n. tt))
short-on op.Remove k words = tt
short-on op.RemoveIf k words = short-one words (λ n. Command.RemoveIf k n)
short-on op.Add k words = short-one words (λ n. Command.Add k n)

short-command : (o : Op) (words : List Bytes) → IsShort (command_of o words)
unfolding command_of
short-command o words =
    short-if (nat_lt (length words) (arity o)) _ _ (λ e. cc)
    (short-if (nat_lt (arity o) (length words)) _ _ (λ e. cc)
    (short-bind (key_at words 0) (λ k. command_on o k words) (short-key words 0)
    (λ k. short-on o k words)))

short-task : (seats : ℕ) (first : Bytes) (words : List Bytes) → IsShort (task_of seats first words)
unfolding task_of
short-task seats first [] = short-bind (worker_of seats first) (λ w. Err cause.Missing)
    (short-below seats cause.Worker (number_spelled first) (λ e. cc)) (λ w e. cc)
short-task seats first (name ∷ words) =
    short-bind (worker_of seats first) _ (short-below seats cause.Worker (number_spelled first)
    (λ e. cc))
    (λ w. short-bind (ok_or (op_of name) cause.Op) _ (short-or (op_of name) cause.Op (λ e. cc))
    (λ o. short-bind (command_of o words) (λ c. Ok (w, c)) (short-command o words) (λ c. tt)))

short-said : (seats : ℕ) (words : List Bytes) → IsShort (said_by seats words)
unfolding said_by
short-said seats [] = tt
short-said seats (word ∷ words) =
    short-if (bytes_eq word (codes "--") && length words == 0) _ _ tt
    (short-bind (task_of seats word words) _ (short-task seats word words) (λ task. tt))

-- ---- a line that has begun

zeros : (n : ℕ) → list_any is_newline (replicate n 48) ≡ false
zeros zero = refl
zeros (suc n) = zeros n

no-fault : (phases : List Phase) (e : Fault) → ¬ (Ok phases ≡ Err e)
no-fault phases e is = cc

same-fault : (d e : Fault) (r : Result (List Phase) Fault) → r ≡ Err d → r ≡ Err e → d ≡ e
same-fault d e r is is' = cc

module _ (seats n : ℕ) (f : List Line → List Phase) where
  abbrev Script : List Bytes → Result (List Phase) Fault
  Script texts = lines_from seats n texts >>= λ lines. Ok (f lines)

  -- the line ends here: if it has a fault, that is in its words
  ended : (said : Result (Option Line) Cause) → IsShort said → (k : ℕ) (why : Cause)
      → ((at_line n said >>= λ first. Ok [] >>= λ lines. Ok (option_to_list first ++ lines))
      >>= λ lines. Ok (f lines)) ≡ Err (k, why)
      → why ≢ cause.LongLine
  ended (Ok x) short k why is = absurd (no-fault (f (option_to_list x ++ [])) (k, why) is)
  ended (Err c) short k why is = λ e. short
      (ap (λ (x : Fault). x.1) (same-fault (n, c) (k, why) (Err (n, c)) refl is) ∙ e)

  pub open-line :
      (line : Bytes) → length line ≤ LINE_MAX → list_any is_newline line ≡ false
      → (0 < length line → n ≤ LINES_MAX)
      → (k : ℕ) (why : Cause) → ¬ ((more : Bytes) → Script (lines_of (line ++ more)) ≡ Err (k, why))
  open-line [] short whole few k why settled = no-fault (f []) (k, why) (settled [])
  open-line (b ∷ bs) short whole few k why settled =
      let line : Bytes = b ∷ bs in
      let some : 0 < length line = omega arith in
      let said : numbered_line seats n line ≡ at_line n (said_by seats (words_in line)) =
      rw (le-ltb LINES_MAX n (few some), le-ltb LINE_MAX (length line) short) refl in
      let here : Script (line ∷ []) ≡ Err (k, why) = ap Script (sym (lines_of-end line whole some))
      ∙ settled [] in
      let other =
      ended (said_by seats (words_in line)) (short-said seats (words_in line)) k why
      (ap (λ (r : Result (Option Line) Fault).
      (r >>= λ first. Ok [] >>= λ lines. Ok (option_to_list first ++ lines)) >>= λ lines. Ok
      (f lines)) (sym said) ∙ here) in
      let more : Bytes = replicate LINE_MAX 48 in
      let past : LINE_MAX ≤ length (line ++ more) =
      omega (arith, length-append line more, length-replicate {A = ℕ} LINE_MAX 48) in
      let long : Script (lines_of ((line ++ more) ++ 48 ∷ [])) ≡ Err (n, cause.LongLine) =
      long_line seats n (line ++ more) 48 [] (λ lines. Ok (f lines)) (few some) past
      (rw (list_any-append, whole, zeros LINE_MAX) refl) refl in
      let same : (k, why) ≡ (n, cause.LongLine) =
      same-fault (k, why) (n, cause.LongLine) (Script (lines_of ((line ++ more) ++ 48 ∷ [])))
      (ap (λ bytes. Script (lines_of bytes)) (append_assoc line more (48 ∷ []))
      ∙ settled (more ++ 48 ∷ [])) long in
      other (ap (λ (x : Fault). x.1) same)
