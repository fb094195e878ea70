-- The cores before a sealed one are closed, so nothing is copied into it.
use Rattle.std.proofs.Common.{◌≡◌, ◌∙◌, ℕ, zero, suc, Bool, true, false, ◌&&◌, ◌||◌, ◌==◌, cond, List, [], ◌∷◌, ◌++◌, Some, None, ap, sym, subst, refl, inl, inr}
use Rattle.std.proofs.lemmas.Bool.{and_from, and_parts, both_ways, cases_Bool, cond-false, cond-true, cond_both, eq-eqb, eqb-true, or_left, or_right}
use Rattle.nb_core.specs.History.{key_of_call}
use Rattle.nb_moving.specs.Moving.{IsLegal, MayFollow, KeyPlace, becomes, change_at, followed, has_core, is_closed, is_open, is_passed, is_reached, is_sealed, left_by, new_place, number_in_state, row_of, state_in}
use Rattle.nb_moving.specs.declared.events.Event.{Event}
use Rattle.nb_moving.specs.declared.events.Event.TheVariants.{Begin, Seal, Look, Read, Write, Freeze, Copy, Mark, Close, Fill}
use Rattle.nb_moving.specs.declared.events.State.{State}
use Rattle.nb_moving.specs.declared.events.State.TheVariants.{Never, Number, Gone, Frozen, Closed, Full}
use Rattle.nb_moving.proofs.Cells.{Cell, Reaches, Saw, SawHere}
use Rattle.nb_moving.proofs.Goes.{Goes, same, written, frozen, copied_in, marked, closed, filled, went}
use Rattle.nb_moving.proofs.Places.{AreAt, IsAt, IsDistinct, apart, apart_both, cell_of, cells, cores, cores-seal, has_core-mem, mem, put, seal}
use Rattle.nb_moving.proofs.Seen.{AllPlaces, IsEmptied, not_never, rest}

-- ---- what is sealed

sealed-put :
    (d c : ℕ) (u : State) (row : List KeyPlace) → is_sealed c (change_at d (put u) row) ≡ is_sealed c row
sealed-put d c u [] = refl
sealed-put d c u (q ∷ r) = here (q.core == d) (sealed-put d c u r)
  where
    here : (b : Bool) → is_sealed c (change_at d (put u) r) ≡ is_sealed c r
        → is_sealed c (cond b (put u q ∷ r) (q ∷ change_at d (put u) r))
        ≡ cond (q.core == c) q.sealed (is_sealed c r)
    here true more = refl
    here false more = ap (cond (q.core == c) q.sealed) more

pub sealed-becomes :
    (k key d c : ℕ) (u : State) (row : List KeyPlace)
    → is_sealed c (becomes k key d u row) ≡ is_sealed c row
sealed-becomes k key d c u row =
    cond_both (k == key) (change_at d (put u) row) row (λ r. is_sealed c r ≡ is_sealed c row)
    (λ own. sealed-put d c u row) (λ other. refl)

sealed-append :
    (c d : ℕ) (row : List KeyPlace) → is_sealed c (row ++ new_place d) ≡ is_sealed c row
sealed-append c d [] = here (d == c)
  where
    here : (b : Bool) → cond b false false ≡ false
    here true = refl
    here false = refl
sealed-append c d (q ∷ r) = ap (cond (q.core == c) q.sealed) (sealed-append c d r)

pub sealed-begin :
    (b : Bool) (c d : ℕ) (row : List KeyPlace)
    → is_sealed c (cond b (row ++ new_place d) row) ≡ is_sealed c row
sealed-begin true c d row = sealed-append c d row
sealed-begin false c d row = refl

-- a seal of another core
sealed-other :
    (d c : ℕ) (row : List KeyPlace) → (d == c) ≡ false
    → is_sealed c (change_at d seal row) ≡ is_sealed c row
sealed-other d c [] other = refl
sealed-other d c (q ∷ r) other = here (q.core == d) refl (sealed-other d c r other)
  where
    here : (b : Bool) → (q.core == d) ≡ b → is_sealed c (change_at d seal r) ≡ is_sealed c r
        → is_sealed c (cond b (seal q ∷ r) (q ∷ change_at d seal r))
        ≡ cond (q.core == c) q.sealed (is_sealed c r)
    here true e more =
        let apart_too : (q.core == c) ≡ false = ap (λ x. x == c) (eqb-true q.core d e) ∙ other in
        cond-false (q.core == c) true (is_sealed c r) apart_too
        ∙ sym (cond-false (q.core == c) q.sealed (is_sealed c r) apart_too)
    here false e more = ap (cond (q.core == c) q.sealed) more

pub sealed-has : (c : ℕ) (row : List KeyPlace) → is_sealed c row ≡ true → has_core c row ≡ true
sealed-has c [] is = absurd (both_ways false refl is)
sealed-has c (q ∷ r) is = here (q.core == c) is (sealed-has c r)
  where
    here : (b : Bool) → cond b q.sealed (is_sealed c r) ≡ true
        → (is_sealed c r ≡ true → has_core c r ≡ true) → (b || has_core c r) ≡ true
    here true is more = refl
    here false is more = more is

same-sealed :
    {A : Type 0} (a b : Bool) → a ≡ b → b ≡ false → a ≡ true → A
same-sealed a b e none is = absurd (both_ways b none (sym e ∙ is))

-- where a core of the row is sealed by an event, those before it are closed
pub sealed-new :
    (e : Event) (h : List Event) (c key : ℕ) → MayFollow h e → is_sealed c (row_of h key) ≡ false
    → is_sealed c (row_of (e ∷ h) key) ≡ true → is_reached c (row_of h key) ≡ true
sealed-new (Begin t d link) h c key may none is =
    same-sealed _ (is_sealed c (row_of h key))
    (sealed-begin (has_core d (row_of h key)) c (followed link key) (row_of h key)) none is
sealed-new (Seal t d) h c key may none is = here (d == c) refl
  where
    here : (b : Bool) → (d == c) ≡ b → is_reached c (row_of h key) ≡ true
    here true e =
        let row = row_of h key in
        let has : has_core c row ≡ true =
        has_core-mem c row ∙ sym (ap (mem c) (cores-seal d row))
        ∙ sym (has_core-mem c (change_at d seal row)) ∙ sealed-has c (change_at d seal row) is in
        let core = eqb-true d c e in
        subst (λ x. is_reached x row ≡ true) core
        (may.first key (subst (λ x. has_core x row ≡ true) (sym core) has))
    here false e =
        same-sealed _ (is_sealed c (row_of h key)) (sealed-other d c (row_of h key) e) none is
sealed-new (Look t d k) h c key may none is = absurd (both_ways (is_sealed c (row_of h key)) none is)
sealed-new (Read t d a r) h c key may none is =
    absurd (both_ways (is_sealed c (row_of h key)) none is)
sealed-new (Write t d a r) h c key may none is =
    same-sealed _ (is_sealed c (row_of h key))
    (sealed-becomes (key_of_call a) key d c (left_by a r.before) (row_of h key)) none is
sealed-new (Freeze t d k n) h c key may none is =
    same-sealed _ (is_sealed c (row_of h key)) (sealed-becomes k key d c (Frozen n) (row_of h key)) none is
sealed-new (Copy t i d k n) h c key may none is =
    same-sealed _ (is_sealed c (row_of h key)) (sealed-becomes k key d c (Number n) (row_of h key)) none is
sealed-new (Mark t d j k n) h c key may none is =
    same-sealed _ (is_sealed c (row_of h key)) (sealed-becomes k key d c (Closed true) (row_of h key))
    none is
sealed-new (Close t d k had) h c key may none is =
    same-sealed _ (is_sealed c (row_of h key)) (sealed-becomes k key d c (Closed had) (row_of h key))
    none is
sealed-new (Fill t d k) h c key may none is =
    same-sealed _ (is_sealed c (row_of h key)) (sealed-becomes k key d c Full (row_of h key)) none is

-- ---- what was reached is reached ever after

passed-put :
    (b : Bool) (s u : State) → (is_closed s ≡ true → is_closed u ≡ true) → (b || is_closed s) ≡ true
    → (b || is_closed u) ≡ true
passed-put true s u keep is = refl
passed-put false s u keep is = keep is

-- a change of a place that keeps it closed, where it is, keeps what is reached
reached-change :
    (d c : ℕ) (f : KeyPlace → KeyPlace) (row : List KeyPlace) → ((p : KeyPlace) → (f p).core ≡ p.core)
    → ((p : KeyPlace) → p.state ≡ state_in d row → is_passed p ≡ true → is_passed (f p) ≡ true)
    → is_reached c row ≡ true → is_reached c (change_at d f row) ≡ true
reached-change d c f [] core keep is = is
reached-change d c f (q ∷ r) core keep is =
    here (q.core == d) (q.core == c) refl keep is (reached-change d c f r core)
  where
    later : (e y : Bool) → (e || (is_passed q && is_reached c r)) ≡ true
        → (is_reached c r ≡ true → y ≡ true) → (e || (is_passed q && y)) ≡ true
    later true y is more = refl
    later false y is more =
        let parts = and_parts (is_passed q) (is_reached c r) is in
        and_from (is_passed q) y parts.0 (more parts.1)

    first : (e : Bool) → (is_passed q ≡ true → is_passed (f q) ≡ true)
        → (e || (is_passed q && is_reached c r)) ≡ true
        → (e || (is_passed (f q) && is_reached c r)) ≡ true
    first true keep is = refl
    first false keep is =
        let parts = and_parts (is_passed q) (is_reached c r) is in
        and_from (is_passed (f q)) (is_reached c r) (keep parts.0) parts.1

    here : (b e : Bool) → (q.core == c) ≡ e
        → ((p : KeyPlace) → p.state ≡ cond b q.state (state_in d r) → is_passed p ≡ true
        → is_passed (f p) ≡ true)
        → (e || (is_passed q && is_reached c r)) ≡ true
        → (((p : KeyPlace) → p.state ≡ state_in d r → is_passed p ≡ true → is_passed (f p) ≡ true)
        → is_reached c r ≡ true → is_reached c (change_at d f r) ≡ true)
        → is_reached c (cond b (f q ∷ r) (q ∷ change_at d f r)) ≡ true
    here true e at keep is more =
        ap (λ x. x || (is_passed (f q) && is_reached c r)) (ap (λ x. x == c) (core q) ∙ at)
        ∙ first e (keep q refl) is
    here false e at keep is more =
        ap (λ x. x || (is_passed q && is_reached c (change_at d f r))) at
        ∙ later e (is_reached c (change_at d f r)) is (more keep)

reached-becomes :
    (k key d c : ℕ) (u : State) (h : List Event)
    → (is_closed (state_in d (row_of h k)) ≡ true → is_closed u ≡ true)
    → is_reached c (row_of h key) ≡ true → is_reached c (becomes k key d u (row_of h key)) ≡ true
reached-becomes k key d c u h keep is =
    let row = row_of h key in
    cond_both (k == key) (change_at d (put u) row) row (λ r. is_reached c r ≡ true)
    (λ own. reached-change d c (put u) row (λ p. refl)
    (λ p at passed. passed-put p.sealed p.state u
    (λ shut. keep (ap (λ q. is_closed (state_in d (row_of h q))) (eqb-true k key own)
    ∙ ap is_closed (sym at) ∙ shut)) passed) is)
    (λ other. is)

reached-append :
    (c d : ℕ) (row : List KeyPlace) → is_reached c row ≡ true → is_reached c (row ++ new_place d) ≡ true
reached-append c d [] is = absurd (both_ways false refl is)
reached-append c d (q ∷ r) is = here (q.core == c) is (reached-append c d r)
  where
    here : (b : Bool) → (b || (is_passed q && is_reached c r)) ≡ true
        → (is_reached c r ≡ true → is_reached c (r ++ new_place d) ≡ true)
        → (b || (is_passed q && is_reached c (r ++ new_place d))) ≡ true
    here true is more = refl
    here false is more =
        let parts = and_parts (is_passed q) (is_reached c r) is in
        and_from (is_passed q) (is_reached c (r ++ new_place d)) parts.0 (more parts.1)

pub open-or-closed : (s : State) → is_open s ≡ true → is_closed s ≡ true → ⊥
open-or-closed Never o e = cc
open-or-closed (Number n) o e = cc
open-or-closed Gone o e = cc
open-or-closed (Frozen n) o e = cc
open-or-closed (Closed had) o e = cc
open-or-closed Full o e = cc

unclosed : {A : Type 0} (s t : State) → s ≡ t → is_closed t ≡ false → is_closed s ≡ true → A
unclosed s t e none is = absurd (both_ways (is_closed t) none (ap is_closed (sym e) ∙ is))

pub reached-lasts :
    (e : Event) (h : List Event) (c key : ℕ) → MayFollow h e → is_reached c (row_of h key) ≡ true
    → is_reached c (row_of (e ∷ h) key) ≡ true
reached-lasts (Begin t d link) h c key may is =
    cond_both {A = List KeyPlace} (has_core d (row_of h key))
    (row_of h key ++ new_place (followed link key)) (row_of h key) (λ r. is_reached c r ≡ true)
    (λ has. reached-append c (followed link key) (row_of h key) is) (λ other. is)
reached-lasts (Seal t d) h c key may is =
    reached-change d c seal (row_of h key) (λ p. refl) (λ p at passed. refl) is
reached-lasts (Look t d k) h c key may is = is
reached-lasts (Read t d a r) h c key may is = is
reached-lasts (Write t d a r) h c key may is =
    reached-becomes (key_of_call a) key d c (left_by a r.before) h
    (λ shut. absurd (open-or-closed (state_in d (row_of h (key_of_call a))) may.unfrozen shut)) is
reached-lasts (Freeze t d k n) h c key may is =
    reached-becomes k key d c (Frozen n) h (unclosed (state_in d (row_of h k)) (Number n) may refl) is
reached-lasts (Copy t i d k n) h c key may is =
    reached-becomes k key d c (Number n) h (unclosed (state_in d (row_of h k)) Never may.1 refl) is
reached-lasts (Mark t d j k n) h c key may is =
    reached-becomes k key d c (Closed true) h (λ shut. refl) is
reached-lasts (Close t d k had) h c key may is =
    reached-becomes k key d c (Closed had) h (λ shut. refl) is
reached-lasts (Fill t d k) h c key may is = reached-becomes k key d c Full h (λ shut. refl) is

-- the cores before a sealed one are closed
pub sealed-reached :
    (h : List Event) → IsLegal h → (c key : ℕ) → is_sealed c (row_of h key) ≡ true
    → is_reached c (row_of h key) ≡ true
sealed-reached [] legal c key is = absurd (first (0 == c) is)
  where
    first : (b : Bool) → cond b false false ≡ true → ⊥
    first true is = both_ways false refl is
    first false is = both_ways false refl is
sealed-reached (e ∷ h) legal c key is =
    elim (cases_Bool (is_sealed c (row_of h key))) [
      | inl before ↦ reached-lasts e h c key legal.1 (sealed-reached h legal.0 c key before)
      | inr none ↦ reached-lasts e h c key legal.1 (sealed-new e h c key legal.1 none is)
    ]

-- ---- a copy into a sealed core

passed-saw :
    (b : Bool) (s : State) (r : List Cell) (d n : ℕ) → (b || is_closed s) ≡ true
    → SawHere (cell_of b s) r d n → Reaches r d true
passed-saw true Never r d n is s = absurd s
passed-saw true (Number m) r d n is s = s
passed-saw true Gone r d n is s = s
passed-saw true (Frozen m) r d n is s = s
passed-saw true (Closed true) r d n is s = s
passed-saw true (Closed false) r d n is s = absurd s
passed-saw true Full r d n is s = absurd s
passed-saw false Never r d n is s = absurd s
passed-saw false (Number m) r d n is s = absurd s
passed-saw false Gone r d n is s = absurd s
passed-saw false (Frozen m) r d n is s = absurd (both_ways false refl is)
passed-saw false (Closed true) r d n is s = s
passed-saw false (Closed false) r d n is s = absurd s
passed-saw false Full r d n is s = absurd s

-- where all before is closed, the key had a number in the core that was seen, or is closed to it
pub reached-not_never :
    (p d i j n : ℕ) (row : List KeyPlace) → IsDistinct (cores row) → AreAt (cores row) p d i j
    → Saw (cells row) p d n → is_reached j row ≡ true → state_in j row ≡ Never
    → is_sealed j row ≡ false → ⊥
reached-not_never p d i j n [] distinct at s reached state waits = at
reached-not_never zero d i j n (q ∷ r) distinct at s reached state waits =
    let other = apart q.core (cores r) d j distinct.0 at.1 in
    let parts = and_parts (is_passed q) (is_reached j r)
    (sym (ap (λ b. b || (is_passed q && is_reached j r)) other) ∙ reached) in
    not_never d j r distinct.1 at.1 (passed-saw q.sealed q.state (cells r) d n parts.0 s)
    (rest (q.core == j) q.state (state_in j r) other state)
    (rest (q.core == j) q.sealed (is_sealed j r) other waits)
reached-not_never (suc p) d i j n (q ∷ r) distinct at s reached state waits =
    let other = (apart_both q.core (cores r) p d i j distinct.0 at).1 in
    let parts = and_parts (is_passed q) (is_reached j r)
    (sym (ap (λ b. b || (is_passed q && is_reached j r)) other) ∙ reached) in
    reached-not_never p d i j n r distinct.1 at s parts.1
    (rest (q.core == j) q.state (state_in j r) other state)
    (rest (q.core == j) q.sealed (is_sealed j r) other waits)

frozen-unpassed :
    (b : Bool) (s : State) (n : ℕ) → s ≡ Frozen n → (b ≡ true → number_in_state s ≡ None)
    → (b || is_closed s) ≡ true → ⊥
frozen-unpassed true s n e empty is =
    let none = empty refl in let some = ap number_in_state e in cc
frozen-unpassed false s n e empty is = both_ways false refl (ap is_closed (sym e) ∙ is)

-- a core behind one with a frozen number isn't reached
pub frozen-unreached :
    (p d i j n : ℕ) (row : List KeyPlace) → IsDistinct (cores row) → AreAt (cores row) p d i j
    → AllPlaces IsEmptied row → state_in i row ≡ Frozen n → is_reached j row ≡ true → ⊥
frozen-unreached p d i j n [] distinct at all state reached = at
frozen-unreached zero d i j n (q ∷ r) distinct at all state reached =
    let other = apart q.core (cores r) d j distinct.0 at.1 in
    let same_core = eq-eqb q.core i at.0 in
    let parts = and_parts (is_passed q) (is_reached j r)
    (sym (ap (λ b. b || (is_passed q && is_reached j r)) other) ∙ reached) in
    frozen-unpassed q.sealed q.state n
    (sym (cond-true (q.core == i) q.state (state_in i r) same_core) ∙ state) all.0 parts.0
frozen-unreached (suc p) d i j n (q ∷ r) distinct at all state reached =
    let others = apart_both q.core (cores r) p d i j distinct.0 at in
    let parts = and_parts (is_passed q) (is_reached j r)
    (sym (ap (λ b. b || (is_passed q && is_reached j r)) others.1) ∙ reached) in
    frozen-unreached p d i j n r distinct.1 at all.1
    (rest (q.core == i) q.state (state_in i r) others.0 state) parts.1

-- a state that is never was never before
goes-never : (s u : State) → Goes s u → u ≡ Never → s ≡ Never
goes-never s u same e = e
goes-never s u (written o None) e = absurd (cc)
goes-never s u (written o (Some n)) e = absurd (cc)
goes-never s u frozen e = absurd (cc)
goes-never s u copied_in e = absurd (cc)
goes-never s u marked e = absurd (cc)
goes-never s u closed e = absurd (cc)
goes-never s u filled e = absurd (cc)

pub never-before :
    (e : Event) (h : List Event) (c key : ℕ) → MayFollow h e → has_core c (row_of h key) ≡ true
    → state_in c (row_of (e ∷ h) key) ≡ Never → state_in c (row_of h key) ≡ Never
never-before e h c key may there never =
    let s = state_in c (row_of h key) in
    let w = went e h c key s may there refl in
    goes-never s w.state w.goes (sym w.stands ∙ never)

-- the second of two cores is in the row
pub are_at-mem : (cs : List ℕ) (p d i j : ℕ) → AreAt cs p d i j → mem j cs ≡ true
are_at-mem [] p d i j at = absurd at
are_at-mem (c ∷ cs) zero d i j at = or_right (c == j) (mem j cs) (second cs d j at.1)
  where
    second : (cs : List ℕ) (d j : ℕ) → IsAt cs d j → mem j cs ≡ true
    second [] d j at = absurd at
    second (c ∷ cs) zero j at = or_left (c == j) (mem j cs) (eq-eqb c j at)
    second (c ∷ cs) (suc d) j at = or_right (c == j) (mem j cs) (second cs d j at)
are_at-mem (c ∷ cs) (suc p) d i j at = or_right (c == j) (mem j cs) (are_at-mem cs p d i j at)
