-- What a thread has seen in one moment of a row, and the steps that it may take by it.
use Rattle.std.proofs.Common.{◌≡◌, ◌∙◌, ℕ, zero, suc, Bool, true, false, ◌&&◌, ◌||◌, ◌==◌, cond, List, [], ◌∷◌, ◌++◌, None, ap, sym, subst, refl}
use Rattle.std.proofs.lemmas.Bool.{and_parts, cond-false, cond-true, eq-eqb, eqb-true}
use Rattle.nb_moving.specs.Moving.{KeyPlace, is_reached, behind, change_at, had_number, is_closed, is_passed, is_sealed, new_place, number_in_state, state_in}
use Rattle.nb_moving.specs.declared.events.State.{State}
use Rattle.nb_moving.specs.declared.events.State.TheVariants.{Never, Number, Gone, Frozen, Closed, Full}
use Rattle.nb_moving.proofs.Cells.{Cell, never, number, gone, frozen, shut, passed, Allows, HadNext, HasCome, come, past_shut, past_passed, Moves, marks, copies, later, Reaches, Saw, SawHere}
use Rattle.nb_moving.proofs.Places.{AreAt, IsAt, IsDistinct, apart, apart_both, cell_of, cells, cores, put}

-- ---- what holds of each place of a row

abbrev pub AllPlaces : (KeyPlace → Type 0) → List KeyPlace → Type 0
AllPlaces P [] = Unit {0}
AllPlaces P (p ∷ row) = P p × AllPlaces P row

pub all-map :
    (P Q : KeyPlace → Type 0) (row : List KeyPlace) → ((p : KeyPlace) → P p → Q p) → AllPlaces P row
    → AllPlaces Q row
all-map P Q [] f all = tt
all-map P Q (p ∷ row) f all = (f p all.0, all-map P Q row f all.1)

pub all-append :
    (P : KeyPlace → Type 0) (row : List KeyPlace) (c : ℕ) → AllPlaces P row
    → P (record { core = c; state = Never; sealed = false }) → AllPlaces P (row ++ new_place c)
all-append P [] c all new = (new, tt)
all-append P (p ∷ row) c all new = (all.0, all-append P row c all.1 new)

all-cond :
    (b : Bool) (P Q : KeyPlace → Type 0) (c : ℕ) (f : KeyPlace → KeyPlace) (q : KeyPlace) (r rest : List KeyPlace)
    (o : State) (sealed : Bool) → (q.core == c) ≡ b → AllPlaces P (q ∷ r)
    → ((p : KeyPlace) → P p → Q p)
    → ((p : KeyPlace) → p.core ≡ c → p.state ≡ cond b q.state o
    → p.sealed ≡ cond b q.sealed sealed → P p → Q (f p))
    → (((p : KeyPlace) → p.core ≡ c → p.state ≡ o → p.sealed ≡ sealed → P p → Q (f p))
    → AllPlaces Q rest)
    → AllPlaces Q (cond b (f q ∷ r) (q ∷ rest))
all-cond true P Q c f q r rest o sealed e all keep change more =
    (change q (eqb-true q.core c e) refl refl all.0, all-map P Q r keep all.1)
all-cond false P Q c f q r rest o sealed e all keep change more = (keep q all.0, more change)

pub all-change :
    (P Q : KeyPlace → Type 0) (c : ℕ) (f : KeyPlace → KeyPlace) (row : List KeyPlace) → AllPlaces P row
    → ((p : KeyPlace) → P p → Q p)
    → ((p : KeyPlace) → p.core ≡ c → p.state ≡ state_in c row → p.sealed ≡ is_sealed c row → P p
    → Q (f p))
    → AllPlaces Q (change_at c f row)
all-change P Q c f [] all keep change = tt
all-change P Q c f (q ∷ r) all keep change =
    all-cond (q.core == c) P Q c f q r (change_at c f r) (state_in c r) (is_sealed c r) refl all keep
    change (λ more. all-change P Q c f r all.1 keep more)

-- ---- what was seen

-- a sealed place has no number
abbrev pub IsEmptied : KeyPlace → Type 0
IsEmptied p = p.sealed ≡ true → number_in_state p.state ≡ None

-- the two cores, at their places, as they were seen
pub record Seen (row : List KeyPlace) (i j n : ℕ) : Type 0 where
  pub place : ℕ
  pub distance : ℕ
  pub at : AreAt (cores row) place distance i j
  pub saw : Saw (cells row) place distance n

record Reached (row : List KeyPlace) (j : ℕ) : Type 0 where
  distance : ℕ
  at : IsAt (cores row) distance j
  reaches : Reaches (cells row) distance false

allows-any : (x : Cell) → Allows x false
allows-any never = tt
allows-any (number n) = tt
allows-any gone = tt
allows-any (frozen n) = tt
allows-any shut = tt
allows-any passed = tt

passed-reaches :
    (b : Bool) (s : State) (r : List Cell) (d : ℕ) (t : Bool) → (b || is_closed s) ≡ true → Reaches r d t
    → Reaches (cell_of b s ∷ r) (suc d) t
passed-reaches true Never r d t e s = s
passed-reaches true (Number n) r d t e s = s
passed-reaches true Gone r d t e s = s
passed-reaches true (Frozen n) r d t e s = s
passed-reaches true (Closed true) r d t e s = s
passed-reaches true (Closed false) r d t e s = s
passed-reaches true Full r d t e s = s
passed-reaches false Never r d t e s = absurd (cc)
passed-reaches false (Number n) r d t e s = absurd (cc)
passed-reaches false Gone r d t e s = absurd (cc)
passed-reaches false (Frozen n) r d t e s = absurd (cc)
passed-reaches false (Closed true) r d t e s = s
passed-reaches false (Closed false) r d t e s = s
passed-reaches false Full r d t e s = s

reach-cond :
    (b : Bool) (q : KeyPlace) (r : List KeyPlace) (j : ℕ) (reached : Bool) → (q.core == j) ≡ b
    → (b || (is_passed q && reached)) ≡ true → (reached ≡ true → Reached r j) → Reached (q ∷ r) j
reach-cond true q r j reached e first more = record {
  distance = zero;
  at = eqb-true q.core j e;
  reaches = allows-any (cell_of q.sealed q.state);
}
reach-cond false q r j reached e first more =
    let parts = and_parts (is_passed q) reached first in
    let rest = more parts.1 in
    record {
      distance = suc rest.distance;
      at = rest.at;
      reaches = passed-reaches q.sealed q.state (cells r) rest.distance false parts.0 rest.reaches;
    }

reach : (j : ℕ) (row : List KeyPlace) → is_reached j row ≡ true → Reached row j
reach j [] first = absurd (cc)
reach j (q ∷ r) first =
    reach-cond (q.core == j) q r j (is_reached j r) refl first (reach j r)

frozen-saw :
    (b : Bool) (s : State) (n : ℕ) (r : List Cell) (d : ℕ) → s ≡ Frozen n
    → (b ≡ true → number_in_state s ≡ None) → Reaches r d false → SawHere (cell_of b s) r d n
frozen-saw true s n r d e empty reaches =
    let none = empty refl in let some = ap number_in_state e in absurd (cc)
frozen-saw false s n r d e empty reaches =
    subst (λ t. SawHere (cell_of false t) r d n) (sym e) (refl, reaches)

saw-cond :
    (b : Bool) (q : KeyPlace) (r : List KeyPlace) (i j n : ℕ) (o : State) (rest : List KeyPlace)
    → (q.core == i) ≡ b → IsEmptied q → cond b q.state o ≡ Frozen n
    → is_reached j (cond b r rest) ≡ true
    → (o ≡ Frozen n → is_reached j rest ≡ true → Seen r i j n)
    → Seen (q ∷ r) i j n
saw-cond true q r i j n o rest e empty at first more =
    let reached = reach j r first in
    record {
      place = zero;
      distance = reached.distance;
      at = (eqb-true q.core i e, reached.at);
      saw =
          frozen-saw q.sealed q.state n (cells r) reached.distance at
          empty reached.reaches;
    }
saw-cond false q r i j n o rest e empty at first more =
    let seen = more at first in
    record { place = suc seen.place; distance = seen.distance; at = seen.at; saw = seen.saw }

-- what is seen now
pub see :
    (i j n : ℕ) (row : List KeyPlace) → AllPlaces IsEmptied row → state_in i row ≡ Frozen n
    → is_reached j (behind i row) ≡ true → Seen row i j n
see i j n [] all at first = absurd (cc)
see i j n (q ∷ r) all at first =
    saw-cond (q.core == i) q r i j n (state_in i r) (behind i r) refl all.0 at first
    (see i j n r all.1)

-- ---- a copy

-- in a row of distinct cores, what is said of a core behind is said of the rest
pub rest : {A : Type 0} (b : Bool) (x y : A) → b ≡ false → {z : A} → cond b x y ≡ z → y ≡ z
rest b x y other e = sym (cond-false b x y other) ∙ e

later-change :
    (b : Bool) (f : KeyPlace → KeyPlace) (q : KeyPlace) (r rest : List KeyPlace) → b ≡ false
    → Moves (cells r) (cells rest) → Moves (cells (q ∷ r)) (cells (cond b (f q ∷ r) (q ∷ rest)))
later-change true f q r rest other moves = absurd (cc)
later-change false f q r rest other moves = later (cell_of q.sealed q.state) moves

come-here :
    (b : Bool) (s : State) (n : ℕ) (a : List Cell) → s ≡ Never → b ≡ false
    → HasCome n (cell_of b s ∷ a) (cell_of b (Number n) ∷ a)
come-here true s n a e waits = absurd (cc)
come-here false s n a e waits =
    subst (λ t. HasCome n (cell_of false t ∷ a) (number n ∷ a)) (sym e) come

come-past :
    (x : Cell) (n d : ℕ) (a c : List Cell) → Reaches (x ∷ a) (suc d) false → HasCome n a c
    → HasCome n (x ∷ a) (x ∷ c)
come-past never n d a c s m = absurd s
come-past (number k) n d a c s m = absurd s
come-past gone n d a c s m = absurd s
come-past (frozen k) n d a c s m = absurd s
come-past shut n d a c s m = past_shut m
come-past passed n d a c s m = past_passed m

come-cond :
    (b : Bool) (q : KeyPlace) (r rest : List KeyPlace) (n d : ℕ) → b ≡ false
    → Reaches (cells (q ∷ r)) (suc d) false
    → HasCome n (cells r) (cells rest)
    → HasCome n (cells (q ∷ r)) (cells (cond b (put (Number n) q ∷ r) (q ∷ rest)))
come-cond true q r rest n d other s m = absurd (cc)
come-cond false q r rest n d other s m =
    come-past (cell_of q.sealed q.state) n d (cells r) (cells rest) s m

come-first :
    (b : Bool) (q : KeyPlace) (r rest : List KeyPlace) (n : ℕ) (o : State) (sealed : Bool) → b ≡ true
    → cond b q.state o ≡ Never → cond b q.sealed sealed ≡ false
    → HasCome n (cells (q ∷ r)) (cells (cond b (put (Number n) q ∷ r) (q ∷ rest)))
come-first true q r rest n o sealed same at waits =
    come-here q.sealed q.state n (cells r) at waits
come-first false q r rest n o sealed same at waits = absurd (cc)

reaches-tail :
    (x : Cell) (r : List Cell) (d : ℕ) (t : Bool) → Reaches (x ∷ r) (suc d) t → Reaches r d t
reaches-tail never r d t s = absurd s
reaches-tail (number n) r d t s = absurd s
reaches-tail gone r d t s = absurd s
reaches-tail (frozen n) r d t s = absurd s
reaches-tail shut r d t s = s
reaches-tail passed r d t s = s

comes :
    (d j n : ℕ) (row : List KeyPlace) → IsDistinct (cores row) → IsAt (cores row) d j
    → Reaches (cells row) d false → state_in j row ≡ Never → is_sealed j row ≡ false
    → HasCome n (cells row) (cells (change_at j (put (Number n)) row))
comes d j n [] distinct at s state waits = absurd at
comes zero j n (q ∷ r) distinct at s state waits =
    come-first (q.core == j) q r (change_at j (put (Number n)) r) n (state_in j r) (is_sealed j r)
    (eq-eqb q.core j at) state waits
comes (suc d) j n (q ∷ r) distinct at s state waits =
    let other = apart q.core (cores r) d j distinct.0 at in
    come-cond (q.core == j) q r (change_at j (put (Number n)) r) n d other s
    (comes d j n r distinct.1 at (reaches-tail (cell_of q.sealed q.state) (cells r) d false s)
    (rest (q.core == j) q.state (state_in j r) other state)
    (rest (q.core == j) q.sealed (is_sealed j r) other waits))

allows-never : (b : Bool) (s : State) → s ≡ Never → b ≡ false → Allows (cell_of b s) true → ⊥
allows-never true s e waits allows = cc
allows-never false s e waits allows = subst (λ t. Allows (cell_of false t) true) e allows

-- where the key never had a number, its row doesn't say that it had
pub not_never :
    (d j : ℕ) (row : List KeyPlace) → IsDistinct (cores row) → IsAt (cores row) d j
    → Reaches (cells row) d true → state_in j row ≡ Never → is_sealed j row ≡ false → ⊥
not_never d j [] distinct at s state waits = at
not_never zero j (q ∷ r) distinct at s state waits =
    let same = eq-eqb q.core j at in
    allows-never q.sealed q.state
    (sym (cond-true (q.core == j) q.state (state_in j r) same) ∙ state)
    (sym (cond-true (q.core == j) q.sealed (is_sealed j r) same) ∙ waits) s
not_never (suc d) j (q ∷ r) distinct at s state waits =
    let other = apart q.core (cores r) d j distinct.0 at in
    not_never d j r distinct.1 at (reaches-tail (cell_of q.sealed q.state) (cells r) d true s)
    (rest (q.core == j) q.state (state_in j r) other state)
    (rest (q.core == j) q.sealed (is_sealed j r) other waits)

copy-here :
    (x : Cell) (a c : List Cell) (d n : ℕ) → SawHere x a d n
    → (Reaches a d true → ⊥) → (Reaches a d false → HasCome n a c) → Moves (x ∷ a) (x ∷ c)
copy-here never a c d n s past comes = absurd s
copy-here (number k) a c d n s past comes = absurd s
copy-here gone a c d n s past comes = absurd s
copy-here (frozen k) a c d n s past comes =
    subst (λ i. Moves (frozen i ∷ a) (frozen i ∷ c)) (sym s.0) (copies (comes s.1))
copy-here shut a c d n s past comes = absurd s
copy-here passed a c d n s past comes = absurd (past s)

copy-cond :
    (b : Bool) (q : KeyPlace) (r rest : List KeyPlace) (d n : ℕ) → b ≡ false
    → SawHere (cell_of q.sealed q.state) (cells r) d n → (Reaches (cells r) d true → ⊥)
    → (Reaches (cells r) d false → HasCome n (cells r) (cells rest))
    → Moves (cells (q ∷ r)) (cells (cond b (put (Number n) q ∷ r) (q ∷ rest)))
copy-cond true q r rest d n other s past comes = absurd (cc)
copy-cond false q r rest d n other s past comes =
    copy-here (cell_of q.sealed q.state) (cells r) (cells rest) d n s past comes

pub copy-moves :
    (p d i j n : ℕ) (row : List KeyPlace) → IsDistinct (cores row) → AreAt (cores row) p d i j
    → Saw (cells row) p d n → state_in j row ≡ Never → is_sealed j row ≡ false
    → Moves (cells row) (cells (change_at j (put (Number n)) row))
copy-moves p d i j n [] distinct at s state waits = absurd at
copy-moves zero d i j n (q ∷ r) distinct at s state waits =
    let other = apart q.core (cores r) d j distinct.0 at.1 in
    let state_there = rest (q.core == j) q.state (state_in j r) other state in
    let waits_there = rest (q.core == j) q.sealed (is_sealed j r) other waits in
    copy-cond (q.core == j) q r (change_at j (put (Number n)) r) d n other s
    (λ reaches. not_never d j r distinct.1 at.1 reaches state_there waits_there)
    (λ reaches. comes d j n r distinct.1 at.1 reaches state_there waits_there)
copy-moves (suc p) d i j n (q ∷ r) distinct at s state waits =
    let other = (apart_both q.core (cores r) p d i j distinct.0 at).1 in
    later-change (q.core == j) (put (Number n)) q r (change_at j (put (Number n)) r) other
    (copy-moves p d i j n r distinct.1 at s
    (rest (q.core == j) q.state (state_in j r) other state)
    (rest (q.core == j) q.sealed (is_sealed j r) other waits))

-- ---- a mark

had-next : (b : Bool) (s : State) (a : List Cell) → had_number s ≡ true → HadNext (cell_of b s ∷ a)
had-next true Never a had = absurd (cc)
had-next true (Number n) a had = tt
had-next true Gone a had = tt
had-next true (Frozen n) a had = tt
had-next true (Closed true) a had = tt
had-next true (Closed false) a had = absurd (cc)
had-next true Full a had = absurd (cc)
had-next false Never a had = absurd (cc)
had-next false (Number n) a had = tt
had-next false Gone a had = tt
had-next false (Frozen n) a had = tt
had-next false (Closed true) a had = tt
had-next false (Closed false) a had = absurd (cc)
had-next false Full a had = absurd (cc)

next-past : (x : Cell) (a : List Cell) (d : ℕ) (t : Bool) → Reaches (x ∷ a) (suc d) t → HadNext a
    → HadNext (x ∷ a)
next-past never a d t s had = absurd s
next-past (number n) a d t s had = absurd s
next-past gone a d t s had = absurd s
next-past (frozen n) a d t s had = absurd s
next-past shut a d t s had = had
next-past passed a d t s had = tt

next :
    (d j : ℕ) (row : List KeyPlace) (u : State) → IsDistinct (cores row) → IsAt (cores row) d j
    → Reaches (cells row) d false → state_in j row ≡ u → had_number u ≡ true
    → HadNext (cells row)
next d j [] u distinct at s state had = absurd at
next zero j (q ∷ r) u distinct at s state had =
    let same = eq-eqb q.core j at in
    let state_here =
    sym (cond-true (q.core == j) q.state (state_in j r) same) ∙ state in
    had-next q.sealed q.state (cells r) (ap had_number state_here ∙ had)
next (suc d) j (q ∷ r) u distinct at s state had =
    let other = apart q.core (cores r) d j distinct.0 at in
    next-past (cell_of q.sealed q.state) (cells r) d false s
    (next d j r u distinct.1 at (reaches-tail (cell_of q.sealed q.state) (cells r) d false s)
    (rest (q.core == j) q.state (state_in j r) other state) had)

mark-state :
    (b : Bool) (s : State) (n d : ℕ) (a : List Cell) → s ≡ Frozen n → (b ≡ true → number_in_state s ≡ None)
    → SawHere (cell_of b s) a d n → (Reaches a d false → HadNext a)
    → Moves (cell_of b s ∷ a) (cell_of b (Closed true) ∷ a)
mark-state true s n d a e empty saw had =
    let none = empty refl in let some = ap number_in_state e in absurd (cc)
mark-state false s n d a e empty saw had =
    let here : SawHere (frozen n) a d n = subst (λ t. SawHere (cell_of false t) a d n) e saw in
    subst (λ t. Moves (cell_of false t ∷ a) (passed ∷ a)) (sym e) (marks (had here.1))

mark-cond :
    (b : Bool) (q : KeyPlace) (r rest : List KeyPlace) (n d : ℕ) (o : State) → b ≡ true
    → cond b q.state o ≡ Frozen n → IsEmptied q
    → SawHere (cell_of q.sealed q.state) (cells r) d n → (Reaches (cells r) d false → HadNext (cells r))
    → Moves (cells (q ∷ r)) (cells (cond b (put (Closed true) q ∷ r) (q ∷ rest)))
mark-cond true q r rest n d o same at empty saw had =
    mark-state q.sealed q.state n d (cells r) at empty saw had
mark-cond false q r rest n d o same at empty saw had = absurd (cc)

pub mark-moves :
    (p d i j n : ℕ) (row : List KeyPlace) (u : State) → IsDistinct (cores row)
    → AreAt (cores row) p d i j → AllPlaces IsEmptied row → Saw (cells row) p d n
    → state_in i row ≡ Frozen n → state_in j row ≡ u → had_number u ≡ true
    → Moves (cells row) (cells (change_at i (put (Closed true)) row))
mark-moves p d i j n [] u distinct at all s state other_state had = absurd at
mark-moves zero d i j n (q ∷ r) u distinct at all s state other_state had =
    let other = apart q.core (cores r) d j distinct.0 at.1 in
    mark-cond (q.core == i) q r (change_at i (put (Closed true)) r) n d (state_in i r)
    (eq-eqb q.core i at.0) state all.0 s
    (λ reaches. next d j r u distinct.1 at.1 reaches
    (rest (q.core == j) q.state (state_in j r) other other_state) had)
mark-moves (suc p) d i j n (q ∷ r) u distinct at all s state other_state had =
    let others = apart_both q.core (cores r) p d i j distinct.0 at in
    later-change (q.core == i) (put (Closed true)) q r (change_at i (put (Closed true)) r) others.0
    (mark-moves p d i j n r u distinct.1 at all.1 s
    (rest (q.core == i) q.state (state_in i r) others.0 state)
    (rest (q.core == j) q.state (state_in j r) others.1 other_state) had)
