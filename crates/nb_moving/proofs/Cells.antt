-- One key's row, as a list of what the key is in each core, from the first on. A core that is
-- closed to it is `shut` where it never had a number, and else `passed`.
use Rattle.std.proofs.Common.{◌≡◌, ℕ, zero, suc, Bool, true, false, List, [], ◌∷◌, Option, Some, None, ap, sym, subst, refl}

pub data Cell : Type 0 where
  never : Cell
  number : ℕ → Cell
  gone : Cell
  frozen : ℕ → Cell
  shut : Cell
  passed : Cell

-- ---- what a row is

-- no number ever came here
abbrev pub IsFresh : List Cell → Type 0
IsFresh [] = Unit {0}
IsFresh (never ∷ r) = IsFresh r
IsFresh (number n ∷ r) = ⊥
IsFresh (gone ∷ r) = ⊥
IsFresh (frozen n ∷ r) = ⊥
IsFresh (shut ∷ r) = IsFresh r
IsFresh (passed ∷ r) = ⊥

-- Behind frozen n: copies, of which the last may be not frozen, and then what never had a number.
-- Where the key has left a copy's core, another copy has to come.
abbrev pub IsCopied : List Cell → Bool → ℕ → Type 0
IsCopied [] true n = ⊥
IsCopied [] false n = Unit {0}
IsCopied (never ∷ r) true n = ⊥
IsCopied (never ∷ r) false n = IsFresh r
IsCopied (number m ∷ r) b n = (m ≡ n) × IsFresh r
IsCopied (gone ∷ r) b n = ⊥
IsCopied (frozen m ∷ r) b n = (m ≡ n) × IsCopied r false n
IsCopied (shut ∷ r) b n = IsCopied r b n
IsCopied (passed ∷ r) b n = IsCopied r true n

-- the row stands for this number, or none
abbrev pub IsRow : List Cell → Option ℕ → Type 0
IsRow [] m = m ≡ None
IsRow (never ∷ r) m = (m ≡ None) × IsFresh r
IsRow (number n ∷ r) m = (m ≡ Some n) × IsFresh r
IsRow (gone ∷ r) m = (m ≡ None) × IsFresh r
IsRow (frozen n ∷ r) m = (m ≡ Some n) × IsCopied r false n
IsRow (shut ∷ r) m = IsRow r m
IsRow (passed ∷ r) m = IsRow r m

-- behind closed cores comes one that had a number
abbrev pub HadNext : List Cell → Type 0
HadNext [] = ⊥
HadNext (never ∷ r) = ⊥
HadNext (number n ∷ r) = Unit {0}
HadNext (gone ∷ r) = Unit {0}
HadNext (frozen n ∷ r) = Unit {0}
HadNext (shut ∷ r) = HadNext r
HadNext (passed ∷ r) = Unit {0}

fresh-copied : (r : List Cell) (n : ℕ) → IsFresh r → IsCopied r false n
fresh-copied [] n f = tt
fresh-copied (never ∷ r) n f = f
fresh-copied (number m ∷ r) n f = absurd f
fresh-copied (gone ∷ r) n f = absurd f
fresh-copied (frozen m ∷ r) n f = absurd f
fresh-copied (shut ∷ r) n f = fresh-copied r n f
fresh-copied (passed ∷ r) n f = absurd f

fresh-row : (r : List Cell) → IsFresh r → IsRow r None
fresh-row [] f = refl
fresh-row (never ∷ r) f = (refl, f)
fresh-row (number m ∷ r) f = absurd f
fresh-row (gone ∷ r) f = absurd f
fresh-row (frozen m ∷ r) f = absurd f
fresh-row (shut ∷ r) f = fresh-row r f
fresh-row (passed ∷ r) f = absurd f

-- where a copy has to come, the row stands for its number
copied-row : (r : List Cell) (n : ℕ) → IsCopied r true n → IsRow r (Some n)
copied-row [] n c = absurd c
copied-row (never ∷ r) n c = absurd c
copied-row (number m ∷ r) n c = (ap Some (sym c.0), c.1)
copied-row (gone ∷ r) n c = absurd c
copied-row (frozen m ∷ r) n c = (ap Some (sym c.0), subst (IsCopied r false) (sym c.0) c.1)
copied-row (shut ∷ r) n c = copied-row r n c
copied-row (passed ∷ r) n c = copied-row r n c

-- what had a number behind frozen n is a copy
next-copied : (r : List Cell) (b : Bool) (n : ℕ) → HadNext r → IsCopied r b n → IsCopied r true n
next-copied [] b n had c = absurd had
next-copied (never ∷ r) b n had c = absurd had
next-copied (number m ∷ r) b n had c = c
next-copied (gone ∷ r) b n had c = absurd c
next-copied (frozen m ∷ r) b n had c = c
next-copied (shut ∷ r) b n had c = next-copied r b n had c
next-copied (passed ∷ r) b n had c = c

-- ---- steps that leave the row's number

-- n came into the first core that isn't closed, where there was none before
pub data HasCome (n : ℕ) : List Cell → List Cell → Type 0 where
  come : {r : List Cell} → HasCome n (never ∷ r) (number n ∷ r)
  past_shut : {a b : List Cell} → HasCome n a b → HasCome n (shut ∷ a) (shut ∷ b)
  past_passed : {a b : List Cell} → HasCome n a b → HasCome n (passed ∷ a) (passed ∷ b)

pub data Moves : List Cell → List Cell → Type 0 where
  stays : {a : List Cell} → Moves a a
  freezes : {n : ℕ} {r : List Cell} → Moves (number n ∷ r) (frozen n ∷ r)
  shuts : {r : List Cell} → Moves (never ∷ r) (shut ∷ r)
  passes : {r : List Cell} → Moves (gone ∷ r) (passed ∷ r)
  marks : {n : ℕ} {r : List Cell} → HadNext r → Moves (frozen n ∷ r) (passed ∷ r)
  copies : {n : ℕ} {a b : List Cell} → HasCome n a b → Moves (frozen n ∷ a) (frozen n ∷ b)
  begins : Moves [] (never ∷ [])
  later : (x : Cell) {a b : List Cell} → Moves a b → Moves (x ∷ a) (x ∷ b)

come-copied :
    (n : ℕ) (a b : List Cell) (t : Bool) → HasCome n a b → IsCopied a t n → IsCopied b t n
come-copied n a b true (come {r = r}) c = absurd c
come-copied n a b false (come {r = r}) c = (refl, c)
come-copied n a b t (past_shut {a = x} {b = y} m) c = come-copied n x y t m c
come-copied n a b t (past_passed {a = x} {b = y} m) c = come-copied n x y true m c

moves-fresh : (a b : List Cell) → Moves a b → IsFresh a → IsFresh b
moves-fresh a b stays f = f
moves-fresh a b freezes f = absurd f
moves-fresh a b shuts f = f
moves-fresh a b passes f = absurd f
moves-fresh a b (marks had) f = absurd f
moves-fresh a b (copies m) f = absurd f
moves-fresh a b begins f = tt
moves-fresh a b (later never {a = x} {b = y} m) f = moves-fresh x y m f
moves-fresh a b (later (number n) m) f = absurd f
moves-fresh a b (later gone m) f = absurd f
moves-fresh a b (later (frozen n) m) f = absurd f
moves-fresh a b (later shut {a = x} {b = y} m) f = moves-fresh x y m f
moves-fresh a b (later passed m) f = absurd f

shuts-copied : (r : List Cell) (t : Bool) (n : ℕ) → IsCopied (never ∷ r) t n → IsCopied r t n
shuts-copied r true n c = absurd c
shuts-copied r false n c = fresh-copied r n c

begins-copied : (t : Bool) (n : ℕ) → IsCopied [] t n → IsCopied (never ∷ []) t n
begins-copied true n c = absurd c
begins-copied false n c = tt

never-copied :
    (a b : List Cell) (t : Bool) (n : ℕ) → Moves a b → IsCopied (never ∷ a) t n
    → IsCopied (never ∷ b) t n
never-copied a b true n m c = absurd c
never-copied a b false n m c = moves-fresh a b m c

moves-copied :
    (a b : List Cell) (t : Bool) (n : ℕ) → Moves a b → IsCopied a t n → IsCopied b t n
moves-copied a b t n stays c = c
moves-copied a b t n (freezes {r = r}) c = (c.0, fresh-copied r n c.1)
moves-copied a b t n (shuts {r = r}) c = shuts-copied r t n c
moves-copied a b t n passes c = absurd c
moves-copied a b t n (marks {r = r} had) c = next-copied r false n had c.1
moves-copied a b t n (copies {n = k} {a = x} {b = y} m) c =
    (c.0, come-copied n x y false (subst (λ i. HasCome i x y) c.0 m) c.1)
moves-copied a b t n begins c = begins-copied t n c
moves-copied a b t n (later never {a = x} {b = y} m) c = never-copied x y t n m c
moves-copied a b t n (later (number k) {a = x} {b = y} m) c = (c.0, moves-fresh x y m c.1)
moves-copied a b t n (later gone m) c = absurd c
moves-copied a b t n (later (frozen k) {a = x} {b = y} m) c =
    (c.0, moves-copied x y false n m c.1)
moves-copied a b t n (later shut {a = x} {b = y} m) c = moves-copied x y t n m c
moves-copied a b t n (later passed {a = x} {b = y} m) c = moves-copied x y true n m c

-- a step leaves the number for which the row stands
pub moves-row : (a b : List Cell) (m : Option ℕ) → Moves a b → IsRow a m → IsRow b m
moves-row a b m stays s = s
moves-row a b m (freezes {n = n} {r = r}) s = (s.0, fresh-copied r n s.1)
moves-row a b m (shuts {r = r}) s = subst (IsRow r) (sym s.0) (fresh-row r s.1)
moves-row a b m (passes {r = r}) s = subst (IsRow r) (sym s.0) (fresh-row r s.1)
moves-row a b m (marks {n = n} {r = r} had) s =
    subst (IsRow r) (sym s.0) (copied-row r n (next-copied r false n had s.1))
moves-row a b m (copies {n = n} {a = x} {b = y} c) s = (s.0, come-copied n x y false c s.1)
moves-row a b m begins s = (s, tt)
moves-row a b m (later never {a = x} {b = y} c) s = (s.0, moves-fresh x y c s.1)
moves-row a b m (later (number n) {a = x} {b = y} c) s = (s.0, moves-fresh x y c s.1)
moves-row a b m (later gone {a = x} {b = y} c) s = (s.0, moves-fresh x y c s.1)
moves-row a b m (later (frozen n) {a = x} {b = y} c) s = (s.0, moves-copied x y false n c s.1)
moves-row a b m (later shut {a = x} {b = y} c) s = moves-row x y m c s
moves-row a b m (later passed {a = x} {b = y} c) s = moves-row x y m c s

-- ---- a user's write

-- the first core that isn't closed had x, and has y now
pub data Writes (x y : Cell) : List Cell → List Cell → Type 0 where
  write : {r : List Cell} → Writes x y (x ∷ r) (y ∷ r)
  after_shut : {a b : List Cell} → Writes x y a b → Writes x y (shut ∷ a) (shut ∷ b)
  after_passed : {a b : List Cell} → Writes x y a b → Writes x y (passed ∷ a) (passed ∷ b)

-- a write may act on it
abbrev pub IsOpenCell : Cell → Type 0
IsOpenCell never = Unit {0}
IsOpenCell (number n) = Unit {0}
IsOpenCell gone = Unit {0}
IsOpenCell (frozen n) = ⊥
IsOpenCell shut = ⊥
IsOpenCell passed = ⊥

-- a write leaves it
abbrev pub IsWritten : Cell → Type 0
IsWritten never = ⊥
IsWritten (number n) = Unit {0}
IsWritten gone = Unit {0}
IsWritten (frozen n) = ⊥
IsWritten shut = ⊥
IsWritten passed = ⊥

abbrev pub cell_number : Cell → Option ℕ
cell_number never = None
cell_number (number n) = Some n
cell_number gone = None
cell_number (frozen n) = Some n
cell_number shut = None
cell_number passed = None

open-row :
    (x : Cell) (r : List Cell) (m : Option ℕ) → IsOpenCell x → IsRow (x ∷ r) m
    → (m ≡ cell_number x) × IsFresh r
open-row never r m o s = s
open-row (number n) r m o s = s
open-row gone r m o s = s
open-row (frozen n) r m o s = absurd o
open-row shut r m o s = absurd o
open-row passed r m o s = absurd o

written-row : (y : Cell) (r : List Cell) → IsWritten y → IsFresh r → IsRow (y ∷ r) (cell_number y)
written-row never r w f = absurd w
written-row (number n) r w f = (refl, f)
written-row gone r w f = (refl, f)
written-row (frozen n) r w f = absurd w
written-row shut r w f = absurd w
written-row passed r w f = absurd w

-- a write finds the number for which the row stands, and the row stands for what it leaves
pub writes-row :
    (x y : Cell) (a b : List Cell) (m : Option ℕ) → IsOpenCell x → IsWritten y → Writes x y a b
    → IsRow a m
    → (m ≡ cell_number x) × IsRow b (cell_number y)
writes-row x y a b m o w (write {r = r}) s =
    let before = open-row x r m o s in (before.0, written-row y r w before.1)
writes-row x y a b m o w (after_shut {a = c} {b = d} k) s = writes-row x y c d m o w k s
writes-row x y a b m o w (after_passed {a = c} {b = d} k) s = writes-row x y c d m o w k s

-- ---- what was seen in one moment, and what of it stays true

-- it isn't never, where that is asked
abbrev pub Allows : Cell → Bool → Type 0
Allows never true = ⊥
Allows never false = Unit {0}
Allows (number n) t = Unit {0}
Allows gone t = Unit {0}
Allows (frozen n) t = Unit {0}
Allows shut t = Unit {0}
Allows passed t = Unit {0}

-- so many closed cores come first, and then one that isn't never, where that is asked
abbrev pub Reaches : List Cell → ℕ → Bool → Type 0
Reaches [] d t = ⊥
Reaches (x ∷ r) zero t = Allows x t
Reaches (never ∷ r) (suc d) t = ⊥
Reaches (number n ∷ r) (suc d) t = ⊥
Reaches (gone ∷ r) (suc d) t = ⊥
Reaches (frozen n ∷ r) (suc d) t = ⊥
Reaches (shut ∷ r) (suc d) t = Reaches r d t
Reaches (passed ∷ r) (suc d) t = Reaches r d t

-- A core had n frozen, and those up to another were closed. Now it has n frozen still, or else is
-- closed, and the other isn't never.
abbrev pub SawHere : Cell → List Cell → ℕ → ℕ → Type 0
SawHere never r d n = ⊥
SawHere (number m) r d n = ⊥
SawHere gone r d n = ⊥
SawHere (frozen m) r d n = (m ≡ n) × Reaches r d false
SawHere shut r d n = ⊥
SawHere passed r d n = Reaches r d true

-- the same of the core at a place of the row
abbrev pub Saw : List Cell → ℕ → ℕ → ℕ → Type 0
Saw [] p d n = ⊥
Saw (x ∷ r) zero d n = SawHere x r d n
Saw (x ∷ r) (suc p) d n = Saw r p d n

-- where a copy has to come, what is reached isn't never
copied-reaches : (r : List Cell) (d n : ℕ) → IsCopied r true n → Reaches r d false → Reaches r d true
copied-reaches [] d n c s = absurd s
copied-reaches (never ∷ r) zero n c s = absurd c
copied-reaches (number m ∷ r) zero n c s = tt
copied-reaches (gone ∷ r) zero n c s = tt
copied-reaches (frozen m ∷ r) zero n c s = tt
copied-reaches (shut ∷ r) zero n c s = tt
copied-reaches (passed ∷ r) zero n c s = tt
copied-reaches (never ∷ r) (suc d) n c s = absurd s
copied-reaches (number m ∷ r) (suc d) n c s = absurd s
copied-reaches (gone ∷ r) (suc d) n c s = absurd s
copied-reaches (frozen m ∷ r) (suc d) n c s = absurd s
copied-reaches (shut ∷ r) (suc d) n c s = copied-reaches r d n c s
copied-reaches (passed ∷ r) (suc d) n c s = copied-reaches r d n c s

come-reaches :
    (n : ℕ) (a b : List Cell) (d : ℕ) (t : Bool) → HasCome n a b → Reaches a d t → Reaches b d t
come-reaches n a b zero t come s = tt
come-reaches n a b (suc d) t come s = absurd s
come-reaches n a b zero t (past_shut m) s = tt
come-reaches n a b (suc d) t (past_shut {a = x} {b = y} m) s = come-reaches n x y d t m s
come-reaches n a b zero t (past_passed m) s = tt
come-reaches n a b (suc d) t (past_passed {a = x} {b = y} m) s = come-reaches n x y d t m s

moves-reaches :
    (a b : List Cell) (d : ℕ) (t : Bool) → Moves a b → Reaches a d t → Reaches b d t
moves-reaches a b d t stays s = s
moves-reaches a b zero t freezes s = tt
moves-reaches a b (suc d) t freezes s = absurd s
moves-reaches a b zero t shuts s = tt
moves-reaches a b (suc d) t shuts s = absurd s
moves-reaches a b zero t passes s = tt
moves-reaches a b (suc d) t passes s = absurd s
moves-reaches a b zero t (marks had) s = tt
moves-reaches a b (suc d) t (marks had) s = absurd s
moves-reaches a b zero t (copies m) s = tt
moves-reaches a b (suc d) t (copies m) s = absurd s
moves-reaches a b d t begins s = absurd s
moves-reaches a b zero t (later x m) s = s
moves-reaches a b (suc d) t (later never m) s = absurd s
moves-reaches a b (suc d) t (later (number n) m) s = absurd s
moves-reaches a b (suc d) t (later gone m) s = absurd s
moves-reaches a b (suc d) t (later (frozen n) m) s = absurd s
moves-reaches a b (suc d) t (later shut {a = x} {b = y} m) s = moves-reaches x y d t m s
moves-reaches a b (suc d) t (later passed {a = x} {b = y} m) s = moves-reaches x y d t m s

written-allows : (y : Cell) (t : Bool) → IsWritten y → Allows y t
written-allows never t w = absurd w
written-allows (number n) t w = tt
written-allows gone t w = tt
written-allows (frozen n) t w = tt
written-allows shut t w = tt
written-allows passed t w = tt

open-reaches :
    (x : Cell) (r : List Cell) (d : ℕ) (t : Bool) → IsOpenCell x → Reaches (x ∷ r) (suc d) t → ⊥
open-reaches never r d t o s = s
open-reaches (number n) r d t o s = s
open-reaches gone r d t o s = s
open-reaches (frozen n) r d t o s = o
open-reaches shut r d t o s = o
open-reaches passed r d t o s = o

writes-reaches :
    (x y : Cell) (a b : List Cell) (d : ℕ) (t : Bool) → IsOpenCell x → IsWritten y → Writes x y a b
    → Reaches a d t → Reaches b d t
writes-reaches x y a b zero t o w write s = written-allows y t w
writes-reaches x y a b (suc d) t o w (write {r = r}) s = absurd (open-reaches x r d t o s)
writes-reaches x y a b zero t o w (after_shut k) s = tt
writes-reaches x y a b (suc d) t o w (after_shut {a = p} {b = q} k) s =
    writes-reaches x y p q d t o w k s
writes-reaches x y a b zero t o w (after_passed k) s = tt
writes-reaches x y a b (suc d) t o w (after_passed {a = p} {b = q} k) s =
    writes-reaches x y p q d t o w k s

-- behind each frozen number of the row come its copies
abbrev pub AreCopied : List Cell → Type 0
AreCopied [] = Unit {0}
AreCopied (never ∷ r) = AreCopied r
AreCopied (number n ∷ r) = AreCopied r
AreCopied (gone ∷ r) = AreCopied r
AreCopied (frozen n ∷ r) = IsCopied r false n × AreCopied r
AreCopied (shut ∷ r) = AreCopied r
AreCopied (passed ∷ r) = AreCopied r

fresh-are : (r : List Cell) → IsFresh r → AreCopied r
fresh-are [] f = tt
fresh-are (never ∷ r) f = fresh-are r f
fresh-are (number n ∷ r) f = absurd f
fresh-are (gone ∷ r) f = absurd f
fresh-are (frozen n ∷ r) f = absurd f
fresh-are (shut ∷ r) f = fresh-are r f
fresh-are (passed ∷ r) f = absurd f

never-are : (r : List Cell) (t : Bool) (n : ℕ) → IsCopied (never ∷ r) t n → AreCopied r
never-are r true n c = absurd c
never-are r false n c = fresh-are r c

copied-are : (r : List Cell) (t : Bool) (n : ℕ) → IsCopied r t n → AreCopied r
copied-are [] t n c = tt
copied-are (never ∷ r) t n c = never-are r t n c
copied-are (number m ∷ r) t n c = fresh-are r c.1
copied-are (gone ∷ r) t n c = absurd c
copied-are (frozen m ∷ r) t n c =
    (subst (IsCopied r false) (sym c.0) c.1, copied-are r false n c.1)
copied-are (shut ∷ r) t n c = copied-are r t n c
copied-are (passed ∷ r) t n c = copied-are r true n c

pub row-are : (r : List Cell) (m : Option ℕ) → IsRow r m → AreCopied r
row-are [] m s = tt
row-are (never ∷ r) m s = fresh-are r s.1
row-are (number n ∷ r) m s = fresh-are r s.1
row-are (gone ∷ r) m s = fresh-are r s.1
row-are (frozen n ∷ r) m s = (s.1, copied-are r false n s.1)
row-are (shut ∷ r) m s = row-are r m s
row-are (passed ∷ r) m s = row-are r m s

come-saw :
    (k : ℕ) (a b : List Cell) (p d n : ℕ) → HasCome k a b → Saw a p d n → Saw b p d n
come-saw k a b zero d n come s = absurd s
come-saw k a b (suc p) d n come s = s
come-saw k a b zero d n (past_shut m) s = absurd s
come-saw k a b (suc p) d n (past_shut {a = x} {b = y} m) s = come-saw k x y p d n m s
come-saw k a b zero d n (past_passed {a = x} {b = y} m) s = come-reaches k x y d true m s
come-saw k a b (suc p) d n (past_passed {a = x} {b = y} m) s = come-saw k x y p d n m s

later-saw :
    (x : Cell) (a b : List Cell) (d n : ℕ) → Moves a b → SawHere x a d n → SawHere x b d n
later-saw never a b d n m s = s
later-saw (number k) a b d n m s = s
later-saw gone a b d n m s = s
later-saw (frozen k) a b d n m s = (s.0, moves-reaches a b d false m s.1)
later-saw shut a b d n m s = s
later-saw passed a b d n m s = moves-reaches a b d true m s

later-are : (x : Cell) (r : List Cell) → AreCopied (x ∷ r) → AreCopied r
later-are never r s = s
later-are (number n) r s = s
later-are gone r s = s
later-are (frozen n) r s = s.1
later-are shut r s = s
later-are passed r s = s

-- what was seen of a row stays true in each step
pub moves-saw :
    (a b : List Cell) (p d n : ℕ) → Moves a b → AreCopied a → Saw a p d n → Saw b p d n
moves-saw a b p d n stays are s = s
moves-saw a b zero d n freezes are s = absurd s
moves-saw a b (suc p) d n freezes are s = s
moves-saw a b zero d n shuts are s = absurd s
moves-saw a b (suc p) d n shuts are s = s
moves-saw a b zero d n passes are s = absurd s
moves-saw a b (suc p) d n passes are s = s
moves-saw a b zero d n (marks {n = k} {r = r} had) are s =
    copied-reaches r d k (next-copied r false k had are.0) s.1
moves-saw a b (suc p) d n (marks had) are s = s
moves-saw a b zero d n (copies {n = k} {a = x} {b = y} m) are s =
    (s.0, come-reaches k x y d false m s.1)
moves-saw a b (suc p) d n (copies {n = k} {a = x} {b = y} m) are s = come-saw k x y p d n m s
moves-saw a b p d n begins are s = absurd s
moves-saw a b zero d n (later x {a = c} {b = e} m) are s = later-saw x c e d n m s
moves-saw a b (suc p) d n (later x {a = c} {b = e} m) are s =
    moves-saw c e p d n m (later-are x c are) s

open-saw : (x : Cell) (r : List Cell) (d n : ℕ) → IsOpenCell x → SawHere x r d n → ⊥
open-saw never r d n o s = s
open-saw (number k) r d n o s = s
open-saw gone r d n o s = s
open-saw (frozen k) r d n o s = o
open-saw shut r d n o s = s
open-saw passed r d n o s = o

-- and in each write
pub writes-saw :
    (x y : Cell) (a b : List Cell) (p d n : ℕ) → IsOpenCell x → IsWritten y → Writes x y a b
    → Saw a p d n → Saw b p d n
writes-saw x y a b zero d n o w (write {r = r}) s = absurd (open-saw x r d n o s)
writes-saw x y a b (suc p) d n o w write s = s
writes-saw x y a b zero d n o w (after_shut k) s = absurd s
writes-saw x y a b (suc p) d n o w (after_shut {a = e} {b = f} k) s =
    writes-saw x y e f p d n o w k s
writes-saw x y a b zero d n o w (after_passed {a = e} {b = f} k) s =
    writes-reaches x y e f d true o w k s
writes-saw x y a b (suc p) d n o w (after_passed {a = e} {b = f} k) s =
    writes-saw x y e f p d n o w k s
