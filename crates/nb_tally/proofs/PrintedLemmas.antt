-- What is printed, piece by piece.
use Rattle.std.proofs.Common.{◌≡◌, ◌∙◌, ◌-◌, ◌++◌, ℕ, List, Ok, Err, OnOk, Option, Result, ap, ap₂, arith, codes, decimal, drop, length, min, refl, replicate, subst, sym, zero, suc, take}
use Rattle.std.specs.Io.KnownBytes.{Appends}
use Rattle.std.proofs.KnownBytes.{Appends-trans}
use Rattle.nb_tally.specs.Printed.{number_column}

-- what is left of seven spaces before so many digits
pub spaces-before :
    (digits : ℕ)
    → take (7 - min digits 7) (drop (min digits 7) (codes "       ")) ≡ replicate (7 - digits) 32
spaces-before zero = refl
spaces-before (suc zero) = refl
spaces-before (suc (suc zero)) = refl
spaces-before (suc (suc (suc zero))) = refl
spaces-before (suc (suc (suc (suc zero)))) = refl
spaces-before (suc (suc (suc (suc (suc zero))))) = refl
spaces-before (suc (suc (suc (suc (suc (suc zero)))))) = refl
spaces-before (suc (suc (suc (suc (suc (suc (suc n))))))) =
    let all : min (suc (suc (suc (suc (suc (suc (suc n))))))) 7 ≡ 7 = omega arith in
    let none : 7 - suc (suc (suc (suc (suc (suc (suc n)))))) ≡ 0 = omega arith in
    ap (λ many. take (7 - many) (drop many (codes "       "))) all
    ∙ ap (λ many. replicate many 32) (sym none)

-- a number's column, of its three pieces
pub column-printed :
    {E : Type 0} (result : Result (Unit {0}) E) (a b c d : Option (List ℕ)) (number before : ℕ)
    (digits : List ℕ) → digits ≡ decimal number → before ≡ min (length digits) 7
    → Appends a b (take (7 - before) (drop before (codes "       "))) → Appends b c digits
    → OnOk result (Appends c d (codes " ")) → OnOk result (Appends a d (number_column number))
column-printed (Err fault) a b c d number before digits are cut one two three = tt
column-printed (Ok done) a b c d number before digits are cut one two three =
    let spaces : take (7 - before) (drop before (codes "       ")) ≡ replicate (7 - length (decimal number)) 32
    = ap (λ many. take (7 - many) (drop many (codes "       "))) (cut ∙ ap (λ text. min (length text) 7) are)
    ∙ spaces-before (length (decimal number)) in
    subst (Appends a d) (ap₂ (λ spaces digits. (spaces ++ digits) ++ codes " ") spaces are)
    (Appends-trans a c d _ (codes " ") (Appends-trans a b c _ digits one two) three)
