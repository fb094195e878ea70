-- Of some of all lines no more are distinct than of all.
use Rattle.std.proofs.Common.{◌≡◌, ◌∙◌, ◌+◌, ◌≤◌, ◌||◌, ℕ, Bool, true, false, if◌then◌else◌, List, [], ◌∷◌, ◌++◌, ap, arith, inl, inr, length, length-append, refl, subst, sym}
use Rattle.std.proofs.Math.Bool.{or-false, or-true}
use Rattle.std.proofs.lemmas.Bool.{cases_Bool}
use Rattle.std.proofs.lemmas.List.Folds.{list_any-append}
use Rattle.std.proofs.lemmas.Slice.Eq.{bytes_eq-Decides}
use Rattle.core.specs.Str.{bytes_eq}
use Rattle.nb_texts.proofs.LinesLemmas.{with-longer}
use Rattle.nb_texts.specs.Forgetting.{ArePartOf}
use Rattle.nb_texts.specs.Lines.{is_among, with_new_lines}

-- ---- one more line is known

among-push :
    (line one : List ℕ) (known : List (List ℕ))
    → is_among line (known ++ one ∷ []) ≡ (is_among line known || (bytes_eq line one || false))
among-push line one known = list_any-append (bytes_eq line) known (one ∷ [])

or-swap : (a b c : Bool) → ((a || b) || c) ≡ ((a || c) || b)
or-swap true b c = refl
or-swap false true c = sym (or-true c)
or-swap false false c = sym (or-false c)

among-swap :
    (line one other : List ℕ) (known : List (List ℕ))
    → is_among line ((known ++ one ∷ []) ++ other ∷ []) ≡ is_among line ((known ++ other ∷ []) ++ one ∷ [])
among-swap line one other known =
    let a = bytes_eq line one || false in
    let b = bytes_eq line other || false in
    among-push line other (known ++ one ∷ []) ∙ ap (λ is. is || b) (among-push line one known)
    ∙ or-swap (is_among line known) a b
    ∙ sym (among-push line one (known ++ other ∷ []) ∙ ap (λ is. is || a) (among-push line other known))

-- where the same lines are known, the same ones are new
same-new :
    (a b lines : List (List ℕ)) → ((line : List ℕ) → is_among line a ≡ is_among line b)
    → length (with_new_lines a lines) + length b ≡ length (with_new_lines b lines) + length a
same-new a b [] same = omega arith
same-new a b (line ∷ lines) same = elim (cases_Bool (is_among line b)) [
  | inl old ↦
      let old' : is_among line a ≡ true = same line ∙ old in
      rw (old', old) (same-new a b lines same)
  | inr new ↦
      let new' : is_among line a ≡ false = same line ∙ new in
      let rest = same-new (a ++ line ∷ []) (b ++ line ∷ []) lines (λ other.
      among-push other line a ∙ ap (λ is. is || (bytes_eq other line || false)) (same other)
      ∙ sym (among-push other line b)) in
      rw (new', new) (omega (arith, rest, length-append a (line ∷ []), length-append b (line ∷ [])))
]

-- with one more there are no fewer in all
one-more :
    (one : List ℕ) (known lines : List (List ℕ))
    → length (with_new_lines known lines) ≤ length (with_new_lines (known ++ one ∷ []) lines)
one-more one known [] = omega (arith, length-append known (one ∷ []))
one-more one known (line ∷ lines) = elim (cases_Bool (is_among line known)) [
  | inl old ↦
      let old' : is_among line (known ++ one ∷ []) ≡ true
      = among-push line one known ∙ ap (λ is. is || (bytes_eq line one || false)) old in
      rw (old, old') (one-more one known lines)
  | inr new ↦
      let here : is_among line (known ++ one ∷ []) ≡ (bytes_eq line one || false)
      = among-push line one known ∙ ap (λ is. is || (bytes_eq line one || false)) new in
      elim (cases_Bool (bytes_eq line one)) [
        | inl same ↦
            let is : line ≡ one = (bytes_eq-Decides line one).0 same in
            let old' : is_among line (known ++ one ∷ []) ≡ true
            = here ∙ ap (λ is. is || false) same in
            let both = ap (λ one. length (with_new_lines (known ++ one ∷ []) lines)) is in
            rw (new, old') (omega (arith, both))
        | inr other ↦
            let new' : is_among line (known ++ one ∷ []) ≡ false
            = here ∙ ap (λ is. is || false) other in
            let rest = one-more one (known ++ line ∷ []) lines in
            let swap = same-new ((known ++ line ∷ []) ++ one ∷ []) ((known ++ one ∷ []) ++ line ∷ []) lines
            (λ text. among-swap text line one known) in
            rw (new, new') (omega (
              arith,
              rest,
              swap,
              length-append (known ++ line ∷ []) (one ∷ []),
              length-append (known ++ one ∷ []) (line ∷ []),
              length-append known (line ∷ []),
              length-append known (one ∷ []),
            ))
      ]
]

-- ---- some of all

pub part-few :
    (some all known : List (List ℕ)) → ArePartOf some all
    → length (with_new_lines known some) ≤ length (with_new_lines known all)
part-few [] all known part = with-longer known all
part-few (line ∷ some) [] known part = absurd part
part-few (line ∷ some) (first ∷ all) known part = elim part [
  | inl here ↦
      subst
      (λ first. length (with_new_lines known (line ∷ some)) ≤ length (with_new_lines known (first ∷ all)))
      here.0 (part-few some all (if is_among line known then known else known ++ line ∷ []) here.1)
  | inr there ↦
      let rest = part-few (line ∷ some) all known there in
      elim (cases_Bool (is_among first known)) [
        | inl old ↦ rw old rest
        | inr new ↦ rw new (omega (arith, rest, one-more first known all))
      ]
]
