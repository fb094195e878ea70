-- Rows of places as rows of cells: what a change of one place does.
use Rattle.std.proofs.Common.{◌≡◌, ◌∙◌, ℕ, zero, suc, Bool, true, false, ◌&&◌, ◌||◌, ◌==◌, cond, List, [], ◌∷◌, ◌++◌, Option, None, ap, sym, subst, refl}
use Rattle.std.proofs.lemmas.Bool.{and_parts, both_ways, cond-false, cond-true, eqb-false, ne_eqb, or_parts}
use Rattle.nb_moving.specs.Moving.{KeyPlace, is_reached, change_at, has_core, is_closed, is_open, is_passed, is_sealed, new_place, number_at_home, number_in_state, state_in}
use Rattle.nb_moving.specs.declared.events.State.{State}
use Rattle.nb_moving.specs.declared.events.State.TheVariants.{Never, Number, Gone, Frozen, Closed, Full}
use Rattle.nb_moving.proofs.Cells.{Cell, never, number, gone, frozen, shut, passed, IsRow, Moves, stays, freezes, shuts, passes, begins, later, Writes, write, after_shut, after_passed}

-- what a key is in a core, sealed or not
abbrev pub cell_of : Bool → State → Cell
cell_of false Never = never
cell_of false (Number n) = number n
cell_of false Gone = gone
cell_of false (Frozen n) = frozen n
cell_of false (Closed false) = shut
cell_of false (Closed true) = passed
cell_of false Full = shut
cell_of true Never = shut
cell_of true (Number n) = passed
cell_of true Gone = passed
cell_of true (Frozen n) = passed
cell_of true (Closed false) = shut
cell_of true (Closed true) = passed
cell_of true Full = shut

abbrev pub cells : List KeyPlace → List Cell
cells [] = []
cells (p ∷ row) = cell_of p.sealed p.state ∷ cells row

abbrev pub cores : List KeyPlace → List ℕ
cores [] = []
cores (p ∷ row) = p.core ∷ cores row

-- the place with another state, and the sealed place
abbrev pub put : State → KeyPlace → KeyPlace
put s p = record p { state = s }

abbrev pub seal : KeyPlace → KeyPlace
seal p = record p { sealed = true }

-- ---- the cores of a row

abbrev pub mem : ℕ → List ℕ → Bool
mem c [] = false
mem c (x ∷ cs) = x == c || mem c cs

abbrev pub IsDistinct : List ℕ → Type 0
IsDistinct [] = Unit {0}
IsDistinct (c ∷ cs) = (mem c cs ≡ false) × IsDistinct cs

-- the core at a place of the row
abbrev pub IsAt : List ℕ → ℕ → ℕ → Type 0
IsAt [] d j = ⊥
IsAt (c ∷ cs) zero j = c ≡ j
IsAt (c ∷ cs) (suc d) j = IsAt cs d j

-- the core at a place, and the one that is so many places behind the next
abbrev pub AreAt : List ℕ → ℕ → ℕ → ℕ → ℕ → Type 0
AreAt [] p d i j = ⊥
AreAt (c ∷ cs) zero d i j = (c ≡ i) × IsAt cs d j
AreAt (c ∷ cs) (suc p) d i j = AreAt cs p d i j

pub has_core-mem : (c : ℕ) (row : List KeyPlace) → has_core c row ≡ mem c (cores row)
has_core-mem c [] = refl
has_core-mem c (p ∷ row) = ap (λ b. p.core == c || b) (has_core-mem c row)

-- another core of a row of distinct ones is another one
pub apart : (c : ℕ) (cs : List ℕ) (d j : ℕ) → mem c cs ≡ false → IsAt cs d j → (c == j) ≡ false
apart c [] d j none at = absurd at
apart c (x ∷ cs) zero j none at =
    ne_eqb c j (λ same. eqb-false x c (or_parts (x == c) (mem c cs) none).0 (at ∙ sym same))
apart c (x ∷ cs) (suc d) j none at = apart c cs d j (or_parts (x == c) (mem c cs) none).1 at

pub apart_both :
    (c : ℕ) (cs : List ℕ) (p d i j : ℕ) → mem c cs ≡ false → AreAt cs p d i j
    → ((c == i) ≡ false) × ((c == j) ≡ false)
apart_both c [] p d i j none at = absurd at
apart_both c (x ∷ cs) zero d i j none at =
    let parts = or_parts (x == c) (mem c cs) none in (
      ne_eqb c i (λ same. eqb-false x c parts.0 (at.0 ∙ sym same)),
      apart c cs d j parts.1 at.1,
    )
apart_both c (x ∷ cs) (suc p) d i j none at =
    apart_both c cs p d i j (or_parts (x == c) (mem c cs) none).1 at

append-at : (cs : List ℕ) (c d j : ℕ) → IsAt cs d j → IsAt (cs ++ c ∷ []) d j
append-at [] c d j at = absurd at
append-at (x ∷ cs) c zero j at = at
append-at (x ∷ cs) c (suc d) j at = append-at cs c d j at

pub append-are_at :
    (cs : List ℕ) (c p d i j : ℕ) → AreAt cs p d i j → AreAt (cs ++ c ∷ []) p d i j
append-are_at [] c p d i j at = absurd at
append-are_at (x ∷ cs) c zero d i j at = (at.0, append-at cs c d j at.1)
append-are_at (x ∷ cs) c (suc p) d i j at = append-are_at cs c p d i j at

append-mem : (x c : ℕ) (cs : List ℕ) → mem x cs ≡ false → (c == x) ≡ false
    → mem x (cs ++ c ∷ []) ≡ false
append-mem x c [] none other = ap (λ b. b || false) other
append-mem x c (y ∷ cs) none other =
    let parts = or_parts (y == x) (mem x cs) none in
    ap (λ b. b || mem x (cs ++ c ∷ [])) parts.0 ∙ append-mem x c cs parts.1 other

pub append-distinct :
    (cs : List ℕ) (c : ℕ) → IsDistinct cs → mem c cs ≡ false → IsDistinct (cs ++ c ∷ [])
append-distinct [] c distinct none = (refl, tt)
append-distinct (x ∷ cs) c distinct none =
    let parts = or_parts (x == c) (mem c cs) none in (
      append-mem x c cs distinct.0 (ne_eqb c x (λ same. eqb-false x c parts.0 (sym same))),
      append-distinct cs c distinct.1 parts.1,
    )

pub cores-append :
    (row : List KeyPlace) (c : ℕ) → cores (row ++ new_place c) ≡ cores row ++ c ∷ []
cores-append [] c = refl
cores-append (p ∷ row) c = ap (λ cs. p.core ∷ cs) (cores-append row c)

cores-cond :
    (b : Bool) (p q : KeyPlace) (row rest : List KeyPlace) → q.core ≡ p.core → cores rest ≡ cores row
    → cores (cond b (q ∷ row) (p ∷ rest)) ≡ p.core ∷ cores row
cores-cond true p q row rest same e = ap (λ c. c ∷ cores row) same
cores-cond false p q row rest same e = ap (λ cs. p.core ∷ cs) e

pub cores-put : (c : ℕ) (s : State) (row : List KeyPlace) → cores (change_at c (put s) row) ≡ cores row
cores-put c s [] = refl
cores-put c s (p ∷ row) =
    cores-cond (p.core == c) p (put s p) row (change_at c (put s) row) refl (cores-put c s row)

pub cores-seal : (c : ℕ) (row : List KeyPlace) → cores (change_at c seal row) ≡ cores row
cores-seal c [] = refl
cores-seal c (p ∷ row) =
    cores-cond (p.core == c) p (seal p) row (change_at c seal row) refl (cores-seal c row)

-- ---- a change of one place

-- where the place's cell moves by the change, the row's cells do
moves-cond :
    (b : Bool) (f : KeyPlace → KeyPlace) (q : KeyPlace) (r rest : List KeyPlace) (s : State) (o : State)
    → cond b q.state o ≡ s
    → ((p : KeyPlace) → p.state ≡ s → (a : List Cell)
    → Moves (cell_of p.sealed p.state ∷ a) (cell_of (f p).sealed (f p).state ∷ a))
    → (o ≡ s → Moves (cells r) (cells rest))
    → Moves (cells (q ∷ r)) (cells (cond b (f q ∷ r) (q ∷ rest)))
moves-cond true f q r rest s o at move more = move q at (cells r)
moves-cond false f q r rest s o at move more = later (cell_of q.sealed q.state) (more at)

pub change-moves :
    (c : ℕ) (f : KeyPlace → KeyPlace) (row : List KeyPlace) (s : State) → state_in c row ≡ s
    → ((p : KeyPlace) → p.state ≡ s → (a : List Cell)
    → Moves (cell_of p.sealed p.state ∷ a) (cell_of (f p).sealed (f p).state ∷ a))
    → Moves (cells row) (cells (change_at c f row))
change-moves c f [] s at move = stays
change-moves c f (q ∷ r) s at move =
    moves-cond (q.core == c) f q r (change_at c f r) s (state_in c r) at move
    (λ e. change-moves c f r s e move)

pub append-moves : (row : List KeyPlace) (c : ℕ) → Moves (cells row) (cells (row ++ new_place c))
append-moves [] c = begins
append-moves (p ∷ row) c = later (cell_of p.sealed p.state) (append-moves row c)

-- ---- the cells of single steps

pub frozen-moves :
    (b : Bool) (s : State) (n : ℕ) (a : List Cell) → s ≡ Number n
    → Moves (cell_of b s ∷ a) (cell_of b (Frozen n) ∷ a)
frozen-moves b s n a e = subst (λ t. Moves (cell_of b t ∷ a) (cell_of b (Frozen n) ∷ a)) (sym e) (here b)
  where
    here : (b : Bool) → Moves (cell_of b (Number n) ∷ a) (cell_of b (Frozen n) ∷ a)
    here true = stays
    here false = freezes

pub closed-moves :
    (b had : Bool) (a : List Cell)
    → Moves (cell_of b (cond had Gone Never) ∷ a) (cell_of b (Closed had) ∷ a)
closed-moves false true a = passes
closed-moves false false a = shuts
closed-moves true true a = stays
closed-moves true false a = stays

pub full-moves :
    (b : Bool) (s : State) (a : List Cell) → s ≡ Never → Moves (cell_of b s ∷ a) (cell_of b Full ∷ a)
full-moves b s a e = subst (λ t. Moves (cell_of b t ∷ a) (cell_of b Full ∷ a)) (sym e) (here b)
  where
    here : (b : Bool) → Moves (cell_of b Never ∷ a) (cell_of b Full ∷ a)
    here true = stays
    here false = shuts

pub sealed-moves :
    (b : Bool) (s : State) (a : List Cell) → number_in_state s ≡ None
    → Moves (cell_of b s ∷ a) (cell_of true s ∷ a)
sealed-moves true s a none = stays
sealed-moves false Never a none = shuts
sealed-moves false (Number n) a none = absurd (cc)
sealed-moves false Gone a none = passes
sealed-moves false (Frozen n) a none = absurd (cc)
sealed-moves false (Closed true) a none = stays
sealed-moves false (Closed false) a none = stays
sealed-moves false Full a none = stays

-- ---- a write

after-passed :
    (b : Bool) (s : State) (x y : Cell) (a c : List Cell) → (b || is_closed s) ≡ true → Writes x y a c
    → Writes x y (cell_of b s ∷ a) (cell_of b s ∷ c)
after-passed true Never x y a c e w = after_shut w
after-passed true (Number n) x y a c e w = after_passed w
after-passed true Gone x y a c e w = after_passed w
after-passed true (Frozen n) x y a c e w = after_passed w
after-passed true (Closed true) x y a c e w = after_passed w
after-passed true (Closed false) x y a c e w = after_shut w
after-passed true Full x y a c e w = after_shut w
after-passed false Never x y a c e w = absurd (cc)
after-passed false (Number n) x y a c e w = absurd (cc)
after-passed false Gone x y a c e w = absurd (cc)
after-passed false (Frozen n) x y a c e w = absurd (cc)
after-passed false (Closed true) x y a c e w = after_passed w
after-passed false (Closed false) x y a c e w = after_shut w
after-passed false Full x y a c e w = after_shut w

write-here :
    (b : Bool) (u s v : State) (a : List Cell) → b ≡ false → u ≡ s
    → Writes (cell_of false s) (cell_of false v) (cell_of b u ∷ a) (cell_of b v ∷ a)
write-here true u s v a waits same = absurd (cc)
write-here false u s v a waits same =
    subst (λ t. Writes (cell_of false s) (cell_of false v) (cell_of false t ∷ a) (cell_of false v ∷ a))
    (sym same) write

writes-cond :
    (b : Bool) (q : KeyPlace) (r rest : List KeyPlace) (s v : State) (before sealed : Bool) (o : State)
    → (b || (is_passed q && before)) ≡ true → cond b q.state o ≡ s
    → cond b q.sealed sealed ≡ false
    → (before ≡ true → o ≡ s → sealed ≡ false
    → Writes (cell_of false s) (cell_of false v) (cells r) (cells rest))
    → Writes (cell_of false s) (cell_of false v) (cells (q ∷ r))
    (cells (cond b (put v q ∷ r) (q ∷ rest)))
writes-cond true q r rest s v before sealed o first at unsealed more =
    write-here q.sealed q.state s v (cells r) unsealed at
writes-cond false q r rest s v before sealed o first at unsealed more =
    let parts = and_parts (is_passed q) before first in
    after-passed q.sealed q.state (cell_of false s) (cell_of false v) (cells r) (cells rest) parts.0
    (more parts.1 at unsealed)

pub change-writes :
    (c : ℕ) (row : List KeyPlace) (s v : State) → is_reached c row ≡ true
    → state_in c row ≡ s → is_sealed c row ≡ false → is_open s ≡ true
    → Writes (cell_of false s) (cell_of false v) (cells row) (cells (change_at c (put v) row))
change-writes c [] s v first at unsealed open_it =
    absurd (both_ways (is_open s) (ap is_open (sym at)) open_it)
change-writes c (q ∷ r) s v first at unsealed open_it =
    writes-cond (q.core == c) q r (change_at c (put v) r) s v (is_reached c r) (is_sealed c r)
    (state_in c r) first at unsealed (λ f a u. change-writes c r s v f a u open_it)

-- ---- the number at home

home-cell :
    (b : Bool) (s : State) (r : List Cell) (m rest : Option ℕ) → IsRow (cell_of b s ∷ r) m
    → (IsRow r m → rest ≡ m) → cond (b || is_closed s) rest (number_in_state s) ≡ m
home-cell true Never r m rest row more = more row
home-cell true (Number n) r m rest row more = more row
home-cell true Gone r m rest row more = more row
home-cell true (Frozen n) r m rest row more = more row
home-cell true (Closed true) r m rest row more = more row
home-cell true (Closed false) r m rest row more = more row
home-cell true Full r m rest row more = more row
home-cell false Never r m rest row more = sym row.0
home-cell false (Number n) r m rest row more = sym row.0
home-cell false Gone r m rest row more = sym row.0
home-cell false (Frozen n) r m rest row more = sym row.0
home-cell false (Closed true) r m rest row more = more row
home-cell false (Closed false) r m rest row more = more row
home-cell false Full r m rest row more = more row

-- the row stands for the number at home
pub row-home : (row : List KeyPlace) (m : Option ℕ) → IsRow (cells row) m → number_at_home row ≡ m
row-home [] m row = sym row
row-home (p ∷ r) m row =
    home-cell p.sealed p.state (cells r) m (number_at_home r) row (row-home r m)

home-cond :
    (b : Bool) (q : KeyPlace) (s : State) (before sealed : Bool) (o : State) (rest : Option ℕ)
    → (b || (is_passed q && before)) ≡ true → cond b q.state o ≡ s
    → cond b q.sealed sealed ≡ false → is_closed s ≡ false
    → (before ≡ true → o ≡ s → sealed ≡ false → rest ≡ number_in_state s)
    → cond (is_passed q) rest (number_in_state q.state) ≡ number_in_state s
home-cond true q s before sealed o rest first at unsealed waits more =
    let not_passed : is_passed q ≡ false = rw (unsealed, at) waits in
    cond-false (is_passed q) rest (number_in_state q.state) not_passed ∙ ap number_in_state at
home-cond false q s before sealed o rest first at unsealed waits more =
    let parts = and_parts (is_passed q) before first in
    cond-true (is_passed q) rest (number_in_state q.state) parts.0 ∙ more parts.1 at unsealed

-- the first core that isn't closed is home
pub home-number :
    (c : ℕ) (row : List KeyPlace) (s : State) → is_reached c row ≡ true
    → state_in c row ≡ s → is_sealed c row ≡ false → is_closed s ≡ false
    → number_at_home row ≡ number_in_state s
home-number c [] s first at unsealed waits =
    absurd (both_ways (is_closed s) waits (ap is_closed (sym at)))
home-number c (q ∷ r) s first at unsealed waits =
    home-cond (q.core == c) q s (is_reached c r) (is_sealed c r) (state_in c r)
    (number_at_home r) first at unsealed waits (λ f a u. home-number c r s f a u waits)
