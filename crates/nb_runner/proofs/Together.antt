-- Workers that ran one beside another.
use Rattle.std.proofs.Common.{◌++◌, ◌∷◌, [], List, All}
use Rattle.std.proofs.lemmas.List.Elements.{All-cons, All-head, All-nil, All-tail}
use Rattle.std.specs.List.{AllZip}

-- one more on either side
pub all-zip-push :
    {A B : Type 0} (R : A → B → Type 0) (xs : List A) (ys : List B) (x : A) (y : B) → AllZip R xs ys
    → R x y
    → AllZip R (xs ++ x ∷ []) (ys ++ y ∷ [])
all-zip-push R [] [] x y all one = (one, tt)
all-zip-push R [] (z ∷ ys) x y all one = absurd all
all-zip-push R (z ∷ xs) [] x y all one = absurd all
all-zip-push R (z ∷ xs) (w ∷ ys) x y all one = (all.0, all-zip-push R xs ys x y all.1 one)

-- one after another
pub all-zip-then :
    {A B C : Type 0} (R : A → B → Type 0) (S : B → C → Type 0) (T : A → C → Type 0)
    → ((x : A) (y : B) (z : C) → R x y → S y z → T x z) → (xs : List A) (ys : List B) (zs : List C)
    → AllZip R xs ys → AllZip S ys zs
    → AllZip T xs zs
all-zip-then R S T one [] [] [] a b = tt
all-zip-then R S T one [] [] (z ∷ zs) a b = absurd b
all-zip-then R S T one [] (y ∷ ys) zs a b = absurd a
all-zip-then R S T one (x ∷ xs) [] zs a b = absurd a
all-zip-then R S T one (x ∷ xs) (y ∷ ys) [] a b = absurd b
all-zip-then R S T one (x ∷ xs) (y ∷ ys) (z ∷ zs) a b =
    (one x y z a.0 b.0, all-zip-then R S T one xs ys zs a.1 b.1)

-- what is so of each on the right
pub all-zip-right :
    {A B : Type 0} (R : A → B → Type 0) (P : B → Type 0) → ((x : A) (y : B) → R x y → P y)
    → (xs : List A) (ys : List B) → AllZip R xs ys
    → All P ys
all-zip-right R P one [] [] all = All-nil P
all-zip-right R P one [] (y ∷ ys) all = absurd all
all-zip-right R P one (x ∷ xs) [] all = absurd all
all-zip-right R P one (x ∷ xs) (y ∷ ys) all =
    All-cons P y ys (one x y all.0) (all-zip-right R P one xs ys all.1)

-- what follows for each on the right
pub all-zip-all :
    {A B : Type 0} (R : A → B → Type 0) (P : A → Type 0) (Q : B → Type 0)
    → ((x : A) (y : B) → P x → R x y → Q y) → (xs : List A)
    (ys : List B) → AllZip R xs ys → All P xs → All Q ys
all-zip-all R P Q one [] [] all each = All-nil Q
all-zip-all R P Q one [] (y ∷ ys) all each = absurd all
all-zip-all R P Q one (x ∷ xs) [] all each = absurd all
all-zip-all R P Q one (x ∷ xs) (y ∷ ys) all each =
    All-cons Q y ys (one x y (All-head P x xs each) all.0)
    (all-zip-all R P Q one xs ys all.1 (All-tail P x xs each))
