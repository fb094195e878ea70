-- Bytes that went out in part, as the beginning of more bytes.
use Rattle.std.proofs.Common.{◌∙◌, ◌++◌, ◌≡◌, ap, sym, subst, append_assoc, Option, Result, Ok, Err, IfErr}
use Rattle.std.specs.Io.KnownBytes.{Appends}
use Rattle.std.proofs.KnownBytes.{Appends-trans}
use Rattle.nb_script.specs.Script.{Bytes}
use Rattle.nb_script.specs.Streams.{AppendsSome}
use Rattle.nb_script.specs.declared.streams.Failed.{Failed}

-- a beginning of the first bytes went out
pub begun_first :
    (a b : Option Bytes) (first second : Bytes) → AppendsSome a b first
    → AppendsSome a b (first ++ second)
begun_first a b first second some = record {
  out = some.out;
  missing = some.missing ++ second;
  are = sym (append_assoc some.out some.missing second) ∙ ap (λ bytes. bytes ++ second) some.are;
  appended = some.appended;
}

-- the first bytes went out, and then a beginning of the second ones
pub begun_second :
    (a b c : Option Bytes) (first second : Bytes) → Appends a b first → AppendsSome b c second
    → AppendsSome a c (first ++ second)
begun_second a b c first second whole some = record {
  out = first ++ some.out;
  missing = some.missing;
  are = append_assoc first some.out some.missing ∙ ap (λ bytes. first ++ bytes) some.are;
  appended = Appends-trans a b c first some.out whole some.appended;
}

-- what went out in part, after an error
pub whole_begun :
    {A : Type 0} (a b : Option Bytes) (bytes whole : Bytes) (result : Result A Failed)
    → whole ≡ bytes → AppendsSome a b bytes → IfErr result (λ _. AppendsSome a b whole)
whole_begun a b bytes whole (Ok x) same some = tt
whole_begun a b bytes whole (Err e) same some = subst (λ bs. AppendsSome a b bs) (sym same) some
