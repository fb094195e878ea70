-- What stays so, and what comes once.
use Rattle.std.proofs.Common.{◌≡◌, ◌∙◌, ℕ, ◌+◌, ◌≤◌, Bool, true, false, ◌&&◌, ◌||◌, ◌==◌, cond, List, [], ◌∷◌, ◌++◌, Some, None, ap, sym, refl, arith, inl, inr}
use Rattle.std.specs.List.{count_by}
use Rattle.std.proofs.lemmas.Bool.{and_from, and_parts, true_from_ne_false, both_ways, cond-true, eqb-true, false_from_ne_true, or_cases, or_left, or_right}
use Rattle.std.proofs.lemmas.List.Sums.{sum_by-cons}
use Rattle.nb_moving.specs.Laws.{ClosedHasNone, ClosedStays, HadStays, LinksStay, MovedOnce, NoneIntoSealed, ReachedStays, SealedBehindClosed, copied, froze, is_closed_to}
use Rattle.nb_moving.specs.Moving.{IsLegal, KeyPlace, MayFollow, becomes, change_at, followed, had_number, has_core, is_closed, is_open, is_sealed, left_by, link_of, number_in_state, row_of, state_in}
use Rattle.nb_core.specs.History.{key_of_call}
use Rattle.nb_moving.specs.declared.events.Event.{Event}
use Rattle.nb_moving.specs.declared.events.Event.TheVariants.{Begin, Seal, Look, Read, Write, Freeze, Copy, Mark, Close, Fill}
use Rattle.nb_moving.specs.declared.events.Link.{Link}
use Rattle.nb_moving.specs.declared.events.State.{State}
use Rattle.nb_moving.specs.declared.events.State.TheVariants.{Never, Number, Gone, Frozen, Closed, Full}
use Rattle.nb_moving.proofs.Goes.{Goes, same, written, frozen, copied_in, marked, closed, filled, state-absent, state-put, went}
use Rattle.nb_moving.proofs.Places.{has_core-mem, put, seal}
use Rattle.nb_moving.proofs.Rows.{mem-lasts}
use Rattle.nb_moving.proofs.Sealed.{open-or-closed, reached-lasts, sealed-becomes, sealed-begin, sealed-reached}
use Rattle.nb_moving.proofs.Sound.{emptied-in, right-emptied}
use Rattle.nb_moving.proofs.Whole.{sound}

-- whether the state of a key in a core passes a test
abbrev passes_in : (State → Bool) → List Event → (c key : ℕ) → Bool
passes_in Q h c key = Q (state_in c (row_of h key))

-- a test that each step keeps
abbrev Lasts : (State → Bool) → Type 0
Lasts Q = (s u : State) → Goes s u → Q s ≡ true → Q u ≡ true

lasts-there :
    (Q : State → Bool) → Lasts Q → (e : Event) (h : List Event) (c key : ℕ) → MayFollow h e
    → has_core c (row_of h key) ≡ true → passes_in Q h c key ≡ true → passes_in Q (e ∷ h) c key ≡ true
lasts-there Q keep e h c key may there is =
    let s = state_in c (row_of h key) in
    let w = went e h c key s may there refl in
    ap Q w.stands ∙ keep s w.state w.goes is

-- a core whose state passes a test that an absent one's doesn't is in the row
there-from :
    (Q : State → Bool) (c : ℕ) (row : List KeyPlace) → Q (Closed false) ≡ false → Q (state_in c row) ≡ true
    → has_core c row ≡ true
there-from Q c row absent is = true_from_ne_false (has_core c row)
    (λ none. both_ways (Q (state_in c row)) (ap Q (state-absent c row none) ∙ absent) is)

lasts :
    (Q : State → Bool) → Lasts Q → Q (Closed false) ≡ false → (e : Event) (h : List Event) (c key : ℕ)
    → MayFollow h e → passes_in Q h c key ≡ true → passes_in Q (e ∷ h) c key ≡ true
lasts Q keep absent e h c key may is =
    lasts-there Q keep e h c key may (there-from Q c (row_of h key) absent is) is

-- ---- a number that was there

had-lasts : Lasts had_number
had-lasts s u same is = is
had-lasts s u (written e None) is = refl
had-lasts s u (written e (Some n)) is = refl
had-lasts s u frozen is = refl
had-lasts s u copied_in is = refl
had-lasts s u marked is = refl
had-lasts s u (closed {had = true}) is = refl
had-lasts s u (closed {had = false}) is = is
had-lasts s u filled is = absurd (both_ways false refl is)

pub had_stays : HadStays
had_stays [] h legal c key is = is
had_stays (e ∷ later) h legal c key is =
    lasts had_number had-lasts refl e (later ++ h) c key legal.1 (had_stays later h legal.0 c key is)

-- ---- what is closed

closed-lasts : Lasts is_closed
closed-lasts s u same is = is
closed-lasts s u (written {s = t} e o) is = absurd (open-or-closed t e is)
closed-lasts s u frozen is = absurd (both_ways false refl is)
closed-lasts s u copied_in is = absurd (both_ways false refl is)
closed-lasts s u marked is = refl
closed-lasts s u closed is = refl
closed-lasts s u filled is = refl

sealed-change :
    (d c : ℕ) (f : KeyPlace → KeyPlace) (row : List KeyPlace) → ((p : KeyPlace) → (f p).core ≡ p.core)
    → ((p : KeyPlace) → p.sealed ≡ true → (f p).sealed ≡ true) → is_sealed c row ≡ true
    → is_sealed c (change_at d f row) ≡ true
sealed-change d c f [] core keep is = is
sealed-change d c f (q ∷ r) core keep is =
    here (q.core == d) (q.core == c) refl is (sealed-change d c f r core keep)
  where
    there : (e : Bool) → cond e q.sealed (is_sealed c r) ≡ true
        → cond e (f q).sealed (is_sealed c r) ≡ true
    there true is = keep q is
    there false is = is

    more : (e : Bool) → cond e q.sealed (is_sealed c r) ≡ true
        → (is_sealed c r ≡ true → is_sealed c (change_at d f r) ≡ true)
        → cond e q.sealed (is_sealed c (change_at d f r)) ≡ true
    more true is rest = is
    more false is rest = rest is

    here : (b e : Bool) → (q.core == c) ≡ e → cond e q.sealed (is_sealed c r) ≡ true
        → (is_sealed c r ≡ true → is_sealed c (change_at d f r) ≡ true)
        → is_sealed c (cond b (f q ∷ r) (q ∷ change_at d f r)) ≡ true
    here true e at is rest =
        ap (λ x. cond x (f q).sealed (is_sealed c r)) (ap (λ x. x == c) (core q) ∙ at) ∙ there e is
    here false e at is rest =
        ap (λ x. cond x q.sealed (is_sealed c (change_at d f r))) at ∙ more e is rest

sealed-lasts :
    (e : Event) (h : List Event) (c key : ℕ) → is_sealed c (row_of h key) ≡ true
    → is_sealed c (row_of (e ∷ h) key) ≡ true
sealed-lasts (Begin t d link) h c key is =
    sealed-begin (has_core d (row_of h key)) c (followed link key) (row_of h key) ∙ is
sealed-lasts (Seal t d) h c key is =
    sealed-change d c seal (row_of h key) (λ p. refl) (λ p e. refl) is
sealed-lasts (Look t d k) h c key is = is
sealed-lasts (Read t d a r) h c key is = is
sealed-lasts (Write t d a r) h c key is =
    sealed-becomes (key_of_call a) key d c (left_by a r.before) (row_of h key) ∙ is
sealed-lasts (Freeze t d k n) h c key is = sealed-becomes k key d c (Frozen n) (row_of h key) ∙ is
sealed-lasts (Copy t i d k n) h c key is = sealed-becomes k key d c (Number n) (row_of h key) ∙ is
sealed-lasts (Mark t d j k n) h c key is = sealed-becomes k key d c (Closed true) (row_of h key) ∙ is
sealed-lasts (Close t d k had) h c key is = sealed-becomes k key d c (Closed had) (row_of h key) ∙ is
sealed-lasts (Fill t d k) h c key is = sealed-becomes k key d c Full (row_of h key) ∙ is

has-lasts :
    (e : Event) (h : List Event) (c key : ℕ) → has_core c (row_of h key) ≡ true
    → has_core c (row_of (e ∷ h) key) ≡ true
has-lasts e h c key is =
    has_core-mem c (row_of (e ∷ h) key)
    ∙ mem-lasts e h c key (sym (has_core-mem c (row_of h key)) ∙ is)

closed-step :
    (e : Event) (h : List Event) (c key : ℕ) → MayFollow h e → is_closed_to h c key ≡ true
    → is_closed_to (e ∷ h) c key ≡ true
closed-step e h c key may is =
    let row = row_of h key in
    let next = row_of (e ∷ h) key in
    let parts = and_parts (has_core c row) (is_sealed c row || passes_in is_closed h c key) is in
    and_from (has_core c next) (is_sealed c next || passes_in is_closed (e ∷ h) c key)
    (has-lasts e h c key parts.0)
    (elim (or_cases (is_sealed c row) (passes_in is_closed h c key) parts.1) [
      | inl sealed ↦ or_left (is_sealed c next) (passes_in is_closed (e ∷ h) c key)
          (sealed-lasts e h c key sealed)
      | inr shut ↦ or_right (is_sealed c next) (passes_in is_closed (e ∷ h) c key)
          (lasts-there is_closed closed-lasts e h c key may parts.0 shut)
    ])

pub closed_stays : ClosedStays
closed_stays [] h legal c key is = is
closed_stays (e ∷ later) h legal c key is =
    closed-step e (later ++ h) c key legal.1 (closed_stays later h legal.0 c key is)

closed-none : (s : State) → is_closed s ≡ true → number_in_state s ≡ None
closed-none Never e = refl
closed-none (Number n) e = absurd (both_ways false refl e)
closed-none Gone e = refl
closed-none (Frozen n) e = absurd (both_ways false refl e)
closed-none (Closed had) e = refl
closed-none Full e = refl

pub closed_has_none : ClosedHasNone
closed_has_none h legal holds c key is =
    let row = row_of h key in
    let parts = and_parts (has_core c row) (is_sealed c row || is_closed (state_in c row)) is in
    elim (or_cases (is_sealed c row) (is_closed (state_in c row)) parts.1) [
      | inl sealed ↦ emptied-in c row (state_in c row)
          (right-emptied h row ((sound h legal holds).right key)) sealed refl
      | inr shut ↦ closed-none (state_in c row) shut
    ]

pub sealed_behind_closed : SealedBehindClosed
sealed_behind_closed h legal key c is = sealed-reached h legal c key is

pub none_into_sealed : NoneIntoSealed
none_into_sealed t i c k n h legal holds =
    false_from_ne_true (is_sealed c (row_of h k)) (λ is.
    (sound h legal.0 holds).unsealed k i c n legal.1.0 is legal.1.1)

pub reached_stays : ReachedStays
reached_stays [] h legal c key is = is
reached_stays (e ∷ later) h legal c key is =
    reached-lasts e (later ++ h) c key legal.1 (reached_stays later h legal.0 c key is)

-- ---- links

begin-link :
    (b : Bool) (d c : ℕ) (h : List Event) (new link : Link) → (d == c) ≡ b → link_of h d ≡ None
    → link_of h c ≡ Some link → cond b (Some new) (link_of h c) ≡ Some link
begin-link true d c h new link e none is =
    let some = ap (link_of h) (eqb-true d c e) ∙ is in
    absurd (cc)
begin-link false d c h new link e none is = is

link-lasts :
    (e : Event) (h : List Event) (c : ℕ) (link : Link) → MayFollow h e → link_of h c ≡ Some link
    → link_of (e ∷ h) c ≡ Some link
link-lasts (Begin t d new) h c link may is = begin-link (d == c) d c h new link refl may.once is
link-lasts (Seal t d) h c link may is = is
link-lasts (Look t d k) h c link may is = is
link-lasts (Read t d a r) h c link may is = is
link-lasts (Write t d a r) h c link may is = is
link-lasts (Freeze t d k n) h c link may is = is
link-lasts (Copy t i d k n) h c link may is = is
link-lasts (Mark t d j k n) h c link may is = is
link-lasts (Close t d k had) h c link may is = is
link-lasts (Fill t d k) h c link may is = is

pub links_stay : LinksStay
links_stay [] h legal c link is = is
links_stay (e ∷ later) h legal c link is =
    link-lasts e (later ++ h) c link legal.1 (links_stay later h legal.0 c link is)

-- ---- what comes once

count-cons :
    (p : Event → Bool) (e : Event) (h : List Event)
    → count_by p (e ∷ h) ≡ cond (p e) 1 0 + count_by p h
count-cons p e h = sum_by-cons (λ x. cond (p x) 1 0) e h

-- An event of which the state is found failing a test, and left passing it, comes once.
once :
    (p : Event → Bool) (Q : State → Bool) (c key : ℕ) → Lasts Q → Q (Closed false) ≡ false
    → ((e : Event) (h : List Event) → MayFollow h e → p e ≡ true
    → (passes_in Q h c key ≡ false) × (passes_in Q (e ∷ h) c key ≡ true)) → (h : List Event)
    → IsLegal h → (count_by p h ≤ 1) × (passes_in Q h c key ≡ false → count_by p h ≡ 0)
once p Q c key keep absent turns [] legal = (omega arith, λ no. refl)
once p Q c key keep absent turns (e ∷ h) legal =
    here (p e) refl (once p Q c key keep absent turns h legal.0)
  where
    here : (b : Bool) → p e ≡ b
        → (count_by p h ≤ 1) × (passes_in Q h c key ≡ false → count_by p h ≡ 0)
        → (count_by p (e ∷ h) ≤ 1) × (passes_in Q (e ∷ h) c key ≡ false → count_by p (e ∷ h) ≡ 0)
    here true is before =
        let turned = turns e h legal.1 is in
        let none : count_by p h ≡ 0 = before.1 turned.0 in
        let count : count_by p (e ∷ h) ≡ 1 + 0 =
        count-cons p e h ∙ ap (λ x. cond x 1 0 + count_by p h) is ∙ ap (λ n. 1 + n) none in (
          omega arith,
          λ no. absurd (both_ways (passes_in Q (e ∷ h) c key) no turned.1),
        )
    here false is before =
        let count : count_by p (e ∷ h) ≡ 0 + count_by p h =
        count-cons p e h ∙ ap (λ x. cond x 1 0 + count_by p h) is in
        let few = before.0 in (
          omega arith,
          λ no. let none : count_by p h ≡ 0 =
              before.1 (false_from_ne_true (passes_in Q h c key)
              (λ yes_it. both_ways (passes_in Q (e ∷ h) c key) no (lasts Q keep absent e h c key legal.1 yes_it))) in
              omega arith,
        )

-- frozen, or later
abbrev was_frozen : State → Bool
was_frozen (Frozen n) = true
was_frozen (Closed had) = had
was_frozen _ = false

open-or-frozen : (s : State) → is_open s ≡ true → was_frozen s ≡ true → ⊥
open-or-frozen Never o e = cc
open-or-frozen (Number n) o e = cc
open-or-frozen Gone o e = cc
open-or-frozen (Frozen n) o e = cc
open-or-frozen (Closed had) o e = cc
open-or-frozen Full o e = cc

frozen-lasts : Lasts was_frozen
frozen-lasts s u same is = is
frozen-lasts s u (written {s = t} e o) is = absurd (open-or-frozen t e is)
frozen-lasts s u frozen is = refl
frozen-lasts s u copied_in is = absurd (both_ways false refl is)
frozen-lasts s u marked is = refl
frozen-lasts s u (closed {had = true}) is = refl
frozen-lasts s u (closed {had = false}) is = is
frozen-lasts s u filled is = absurd (both_ways false refl is)

-- where the event's own key and core are these, its state is put here
own-put :
    (k key d c : ℕ) (u s : State) (h : List Event) (Q : State → Bool)
    → state_in d (row_of h k) ≡ s → (s ≡ Closed false → ⊥) → Q s ≡ false → Q u ≡ true
    → (d == c && k == key) ≡ true
    → (passes_in Q h c key ≡ false) × (Q (state_in c (becomes k key d u (row_of h key))) ≡ true)
own-put k key d c u s h Q at present before after is =
    let parts = and_parts (d == c) (k == key) is in
    let core = eqb-true d c parts.0 in
    let own = eqb-true k key parts.1 in
    let row = row_of h key in
    let here : state_in c row ≡ s =
    ap (λ x. state_in x row) (sym core) ∙ ap (λ q. state_in d (row_of h q)) (sym own) ∙ at in
    let in_row : has_core c row ≡ true = true_from_ne_false (has_core c row)
    (λ none. present (sym here ∙ state-absent c row none)) in
    let there : state_in c (becomes k key d u row) ≡ u =
    ap (state_in c) (cond-true (k == key) (change_at d (put u) row) row parts.1)
    ∙ ap (λ x. state_in c (change_at x (put u) row)) core
    ∙ state-put c u row in_row in (
      ap Q here ∙ before,
      ap Q there ∙ after,
    )

turns-frozen :
    (c key : ℕ) (e : Event) (h : List Event) → MayFollow h e → froze c key e ≡ true
    → (passes_in was_frozen h c key ≡ false) × (passes_in was_frozen (e ∷ h) c key ≡ true)
turns-frozen c key (Freeze t d k n) h may is =
    own-put k key d c (Frozen n) (Number n) h was_frozen may (λ e. cc) refl refl is
turns-frozen c key (Begin t d link) h may is = absurd (both_ways false refl is)
turns-frozen c key (Seal t d) h may is = absurd (both_ways false refl is)
turns-frozen c key (Look t d k) h may is = absurd (both_ways false refl is)
turns-frozen c key (Read t d call reply) h may is = absurd (both_ways false refl is)
turns-frozen c key (Write t d call reply) h may is = absurd (both_ways false refl is)
turns-frozen c key (Copy t i d k n) h may is = absurd (both_ways false refl is)
turns-frozen c key (Mark t d j k n) h may is = absurd (both_ways false refl is)
turns-frozen c key (Close t d k had) h may is = absurd (both_ways false refl is)
turns-frozen c key (Fill t d k) h may is = absurd (both_ways false refl is)

turns-copied :
    (c key : ℕ) (e : Event) (h : List Event) → MayFollow h e → copied c key e ≡ true
    → (passes_in had_number h c key ≡ false) × (passes_in had_number (e ∷ h) c key ≡ true)
turns-copied c key (Copy t i d k n) h may is =
    own-put k key d c (Number n) Never h had_number may.1 (λ e. cc) refl refl is
turns-copied c key (Begin t d link) h may is = absurd (both_ways false refl is)
turns-copied c key (Seal t d) h may is = absurd (both_ways false refl is)
turns-copied c key (Look t d k) h may is = absurd (both_ways false refl is)
turns-copied c key (Read t d call reply) h may is = absurd (both_ways false refl is)
turns-copied c key (Write t d call reply) h may is = absurd (both_ways false refl is)
turns-copied c key (Freeze t d k n) h may is = absurd (both_ways false refl is)
turns-copied c key (Mark t d j k n) h may is = absurd (both_ways false refl is)
turns-copied c key (Close t d k had) h may is = absurd (both_ways false refl is)
turns-copied c key (Fill t d k) h may is = absurd (both_ways false refl is)

pub moved_once : MovedOnce
moved_once h legal c key = (
  (once (froze c key) was_frozen c key frozen-lasts refl (turns-frozen c key) h legal).0,
  (once (copied c key) had_number c key had-lasts refl (turns-copied c key) h legal).0,
)
