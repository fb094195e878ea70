-- The exponents of a plan, read part by part.
use Rattle.std.proofs.Common.{◌≡◌, ◌∙◌, ◌<◌, ◌≤◌, ◌+◌, ◌^◌, ◌==◌, ℕ, zero, suc, Bool, true, false, arith, ap, sym, refl, List, [], ◌∷◌, ◌++◌, length, map, take, Option, Some, None, Result, Ok, Err, IfSome, IfNone, get_or}
use Rattle.std.specs.Prelude.{slice_set, option_and_then}
use Rattle.std.specs.List.{list_all, slice_split}
use Rattle.std.specs.Borrow.{Bor}
use Rattle.std.specs.Result.{result_ok}
use Rattle.std.proofs.lemmas.List.{map_push, take_more_set}
use Rattle.std.proofs.lemmas.List.Folds.{list_all_at}
use Rattle.clap.specs.Words.{Text}
use Rattle.nb_core.specs.Plans.{Plan, checked_plan, is_within}
use Rattle.nb_script.specs.Options.{exponents_of, numbers_of, plan_of_text}
use Rattle.nb_core.specs.Digits.{number_spelled}

-- the numbers of the first text and of the others
numbers_of_parts : (t : Text) (ts : List Text) (es : List ℕ) → numbers_of (t ∷ ts) ≡ Some es
    → (n : ℕ) × (ns : List ℕ) × (number_spelled t ≡ Some n) × (numbers_of ts ≡ Some ns)
    × (es ≡ n ∷ ns)
numbers_of_parts t ts es is = go (number_spelled t) (numbers_of ts) refl refl
  where
    go : (o : Option ℕ) (p : Option (List ℕ)) → number_spelled t ≡ o → numbers_of ts ≡ p
        → (n : ℕ) × (ns : List ℕ) × (number_spelled t ≡ Some n) × (numbers_of ts ≡ Some ns)
        × (es ≡ n ∷ ns)
    go None p e f =
        let bad : None ≡ Some es = rw e at is in
        cc
    go (Some n) None e f =
        let bad : None ≡ Some es = rw (e, f) at is in
        cc
    go (Some n) (Some ns) e f =
        let whole : Some (n ∷ ns) ≡ Some es = rw (e, f) at is in
        (n, ns, e, f, cc)

both_read :
    (t : Text) (ts : List Text) (n : ℕ) (ns : List ℕ) → number_spelled t ≡ Some n
    → numbers_of ts ≡ Some ns → numbers_of (t ∷ ts) ≡ Some (n ∷ ns)
both_read t ts n ns one all = rw (one, all) refl

numbers_of-push :
    (ts : List Text) (t : Text) (ns : List ℕ) (n : ℕ) → numbers_of ts ≡ Some ns
    → number_spelled t ≡ Some n → numbers_of (ts ++ t ∷ []) ≡ Some (ns ++ n ∷ [])
numbers_of-push [] t ns n all one =
    let none : Some [] ≡ Some ns = all in
    let same : [] ≡ ns = cc in
    rw (one, ← same) refl
numbers_of-push (x ∷ ts) t ns n all one =
    let parts = numbers_of_parts x ts ns all in
    both_read x (ts ++ t ∷ []) parts.0 (parts.1 ++ n ∷ []) parts.2
    (numbers_of-push ts t parts.1 n parts.3 one)
    ∙ ap (λ (es : List ℕ). Some (es ++ n ∷ [])) (sym parts.4)

-- one more part is read
pub part_read :
    (parts : List (Bor Text)) (part : Bor Text) (xs : List ℕ) (count n : ℕ) → count < length xs
    → numbers_of (map (λ p. p.now) parts) ≡ Some (take count xs) → number_spelled part.now ≡ Some n
    → numbers_of (map (λ p. p.now) (parts ++ part ∷ []))
    ≡ Some (take (count + 1) (slice_set xs count n))
part_read parts part xs count n room all one =
    ap numbers_of (map_push (λ p. p.now) parts part)
    ∙ numbers_of-push (map (λ p. p.now) parts) part.now (take count xs) n all one
    ∙ ap Some (sym (take_more_set xs count n room))

length-numbers_of : (ts : List Text) (es : List ℕ) → numbers_of ts ≡ Some es → length es ≡ length ts
length-numbers_of [] es is =
    let none : Some [] ≡ Some es = is in
    let same : [] ≡ es = cc in
    rw (← same) refl
length-numbers_of (t ∷ ts) es is =
    let parts = numbers_of_parts t ts es is in
    rw (parts.4, length-numbers_of ts parts.1 parts.3) refl

number_at :
    (ts : List Text) (es : List ℕ) (k : ℕ) (d : Text) → numbers_of ts ≡ Some es → k < length ts
    → number_spelled (get_or ts k d) ≡ Some (get_or es k 0)
number_at [] es k d is lt = absurd (omega arith)
number_at (t ∷ ts) es zero d is lt =
    let parts = numbers_of_parts t ts es is in
    rw (parts.4, parts.2) refl
number_at (t ∷ ts) es (suc k) d is lt =
    let parts = numbers_of_parts t ts es is in
    rw parts.4 (number_at ts parts.1 k d parts.3 (omega arith))

pub plan_of_exponents :
    (text : Text) (es : List ℕ) (seats stripes : ℕ) → exponents_of text ≡ Some es
    → plan_of_text text seats stripes ≡ result_ok (checked_plan es seats stripes)
plan_of_exponents text es seats stripes is =
    ap (option_and_then (λ xs. result_ok (checked_plan xs seats stripes))) is

above : (low high n : ℕ) → high < n → is_within low high n ≡ false
above low high n h = grind arith

-- more than 16 parts make no plan
pub too_many :
    (text : Text) (seats stripes : ℕ) → 16 < length (slice_split (λ b. b == 44) text)
    → plan_of_text text seats stripes ≡ None
too_many text seats stripes many = go (exponents_of text) refl
  where
    go : (o : Option (List ℕ)) → exponents_of text ≡ o → plan_of_text text seats stripes ≡ None
    go None e = rw e refl
    go (Some es) e =
        let count = length-numbers_of (slice_split (λ b. b == 44) text) es e in
        rw (e, above 1 16 (length es) (omega arith)) refl

-- and a part that is no small number makes none
pub too_large :
    (text : Text) (seats stripes k : ℕ) (part : Text) (r : Option Plan)
    → k < length (slice_split (λ b. b == 44) text)
    → part ≡ get_or (slice_split (λ b. b == 44) text) k part
    → ((n : ℕ) → number_spelled part ≡ Some n → 2 ^ 32 ≤ n)
    → IfNone r (plan_of_text text seats stripes ≡ None)
too_large text seats stripes k part (Some plan) inside is large = tt
too_large text seats stripes k part None inside is large = go (exponents_of text) refl
  where
    refused : (es : List ℕ) (b : Bool) → is_within 1 16 (length es) ≡ b
        → list_all (is_within 2 19) es ≡ false → result_ok (checked_plan es seats stripes) ≡ None
    refused es true e f = rw (e, f) refl
    refused es false e f = rw e refl

    go : (o : Option (List ℕ)) → exponents_of text ≡ o → plan_of_text text seats stripes ≡ None
    go None e = rw e refl
    go (Some es) e =
        let past = large (get_or es k 0) (ap number_spelled is
        ∙ number_at (slice_split (λ b. b == 44) text) es k part e inside) in
        let count = length-numbers_of (slice_split (λ b. b == 44) text) es e in
        plan_of_exponents text es seats stripes e
        ∙ refused es (is_within 1 16 (length es)) refl
        (list_all_at (is_within 2 19) es k 0 (omega arith)
        (above 2 19 (get_or es k 0) (omega arith)))

-- what is known of a result, of its `ok()`
pub by_ok :
    {T E : Type 0} (r e : Result T E) (o p : Option T) → p ≡ result_ok e → o ≡ result_ok r → r ≡ e
    → IfSome o (λ v. p ≡ Some v) × IfNone o (p ≡ None)
by_ok (Ok v) e o p is same h = (rw (same, is, ← h) refl, rw same tt)
by_ok (Err x) e o p is same h = (rw same tt, rw (same, is, ← h) refl)
