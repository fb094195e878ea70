-- A test of histories that computes: what passes it is legal. Nobody has to believe it.
use Rattle.std.proofs.Common.{subst, ◌≡◌, ◌≢◌, ◌∙◌, ℕ, ◌/◌, ◌%◌, ◌^◌, Bool, true, false, not, ◌&&◌, ◌||◌, ◌==◌, cond, List, [], ◌∷◌, ◌++◌, Option, Some, None, ap, sym, refl, inl, inr}
use Rattle.std.specs.Option.{is_none, is_some}
use Rattle.std.proofs.lemmas.Bool.{and_parts, and_from, both_ways, cases_Bool, cond-false, cond_both, eq-eqb, eqb-true, false_from_ne_true, not-true, or_cases, or_left, or_parts, or_right}
use Rattle.nb_core.specs.Calls.{leaves_alone, same_number}
use Rattle.nb_core.specs.History.{key_of_call}
use Rattle.nb_core.specs.Log.{reply_at}
use Rattle.nb_core.specs.declared.calls.Call.{Call}
use Rattle.nb_core.specs.declared.calls.Reply.{Reply}
use Rattle.nb_core.proofs.Computed.{same_number-true}
use Rattle.nb_moving.specs.Moving.{HasSeenFrozen, IsLegal, MayFollow, MayRead, MayWrite, KeyPlace, SealsHold, becomes, behind, change_at, followed, had_number, has_core, is_open, is_passed, is_reached, is_sealed, left_by, link_of, new_place, number_in_state, row_of, state_in}
use Rattle.nb_moving.specs.declared.events.Event.{Event}
use Rattle.nb_moving.specs.declared.events.Event.TheVariants.{Begin, Seal, Look, Read, Write, Freeze, Copy, Mark, Close, Fill}
use Rattle.nb_moving.specs.declared.events.Link.{Link}
use Rattle.nb_moving.specs.declared.events.Link.TheVariants.{One, Two}
use Rattle.nb_moving.specs.declared.events.State.{State}
use Rattle.nb_moving.specs.declared.events.State.TheVariants.{Never, Number, Gone, Frozen, Closed, Full}
use Rattle.nb_moving.proofs.Places.{cores, cores-append, cores-seal, has_core-mem, mem, put, seal}
use Rattle.nb_moving.proofs.Rows.{append-mem-cases, cores-becomes}

-- ---- states

abbrev pub same_state : State → State → Bool
same_state Never Never = true
same_state (Number n) (Number m) = n == m
same_state Gone Gone = true
same_state (Frozen n) (Frozen m) = n == m
same_state (Closed true) (Closed true) = true
same_state (Closed false) (Closed false) = true
same_state Full Full = true
same_state _ _ = false

same-true : (s t : State) → same_state s t ≡ true → s ≡ t
same-true Never Never e = refl
same-true (Number n) (Number m) e = ap Number (eqb-true n m e)
same-true Gone Gone e = refl
same-true (Frozen n) (Frozen m) e = ap Frozen (eqb-true n m e)
same-true (Closed true) (Closed true) e = refl
same-true (Closed false) (Closed false) e = refl
same-true Full Full e = refl
same-true _ _ e = absurd (both_ways false refl e)

same-self : (n : ℕ) → same_state (Frozen n) (Frozen n) ≡ true
same-self n = eq-eqb n n refl

-- ---- what was seen

abbrev pub sees_now : List Event → (key i j n : ℕ) → Bool
sees_now h key i j n = same_state (state_in i (row_of h key)) (Frozen n)
    && is_reached j (behind i (row_of h key))

abbrev pub sees : List Event → (key i j n : ℕ) → Bool
sees [] key i j n = sees_now [] key i j n
sees (e ∷ h) key i j n = sees_now (e ∷ h) key i j n || sees h key i j n

seen-at :
    (h moment later : List Event) (key i j n : ℕ) → h ≡ later ++ moment
    → sees_now moment key i j n ≡ true → HasSeenFrozen h key i j n
seen-at h moment later key i j n is now =
    let row = row_of moment key in
    let parts = and_parts (same_state (state_in i row) (Frozen n)) (is_reached j (behind i row)) now in
    record {
      moment = moment;
      earlier = record { later = later; is = is };
      frozen = same-true (state_in i row) (Frozen n) parts.0;
      reached = parts.1;
    }

seen-later : (e : Event) (h : List Event) (key i j n : ℕ) → HasSeenFrozen h key i j n
    → HasSeenFrozen (e ∷ h) key i j n
seen-later e h key i j n s = record {
  moment = s.moment;
  earlier = record { later = e ∷ s.earlier.later; is = ap (λ l. e ∷ l) s.earlier.is };
  frozen = s.frozen;
  reached = s.reached;
}

pub sees-true :
    (h : List Event) (key i j n : ℕ) → sees h key i j n ≡ true → HasSeenFrozen h key i j n
sees-true [] key i j n e = seen-at [] [] [] key i j n refl e
sees-true (e ∷ h) key i j n is =
    elim (or_cases (sees_now (e ∷ h) key i j n) (sees h key i j n) is) [
      | inl now ↦ seen-at (e ∷ h) (e ∷ h) [] key i j n refl now
      | inr before ↦ seen-later e h key i j n (sees-true h key i j n before)
    ]

now-true :
    (h : List Event) (key i j n : ℕ) → state_in i (row_of h key) ≡ Frozen n
    → is_reached j (behind i (row_of h key)) ≡ true → sees_now h key i j n ≡ true
now-true h key i j n frozen reached =
    and_from (same_state (state_in i (row_of h key)) (Frozen n)) (is_reached j (behind i (row_of h key)))
    (ap (λ s. same_state s (Frozen n)) frozen ∙ same-self n) reached

sees-now : (h : List Event) (key i j n : ℕ) → sees_now h key i j n ≡ true → sees h key i j n ≡ true
sees-now [] key i j n is = is
sees-now (e ∷ h) key i j n is = or_left (sees_now (e ∷ h) key i j n) (sees h key i j n) is

sees-later :
    (later moment : List Event) (key i j n : ℕ) → sees moment key i j n ≡ true
    → sees (later ++ moment) key i j n ≡ true
sees-later [] moment key i j n is = is
sees-later (e ∷ later) moment key i j n is =
    or_right (sees_now (e ∷ (later ++ moment)) key i j n) (sees (later ++ moment) key i j n)
    (sees-later later moment key i j n is)

-- what was seen passes the test
pub seen-sees : (h : List Event) (key i j n : ℕ) → HasSeenFrozen h key i j n → sees h key i j n ≡ true
seen-sees h key i j n s =
    ap (λ l. sees l key i j n) s.earlier.is
    ∙ sees-later s.earlier.later s.moment key i j n
    (sees-now s.moment key i j n (now-true s.moment key i j n s.frozen s.reached))

-- ---- cores and keys that events name

abbrev targets : Link → List ℕ
targets (One c) = c ∷ []
targets (Two bit c d) = c ∷ d ∷ []

-- core 0, and those to which links lead
abbrev pub known : List Event → List ℕ
known [] = 0 ∷ []
known (Begin t c link ∷ h) = targets link ++ known h
known (_ ∷ h) = known h

mem-left : (c : ℕ) (a b : List ℕ) → mem c a ≡ true → mem c (a ++ b) ≡ true
mem-left c [] b is = absurd (both_ways false refl is)
mem-left c (x ∷ a) b is = here (x == c) is (mem-left c a b)
  where
    here : (t : Bool) → (t || mem c a) ≡ true → (mem c a ≡ true → mem c (a ++ b) ≡ true)
        → (t || mem c (a ++ b)) ≡ true
    here true is more = refl
    here false is more = more is

mem-right : (c : ℕ) (a b : List ℕ) → mem c b ≡ true → mem c (a ++ b) ≡ true
mem-right c [] b is = is
mem-right c (x ∷ a) b is = or_right (x == c) (mem c (a ++ b)) (mem-right c a b is)

followed-target : (link : Link) (q : ℕ) → mem (followed link q) (targets link) ≡ true
followed-target (One c) q = or_left (c == c) false (eq-eqb c c refl)
followed-target (Two bit c d) q =
    cond_both {A = ℕ} (q / 2 ^ bit % 2 == 0) c d (λ x. mem x (c ∷ d ∷ []) ≡ true)
    (λ e. or_left (c == c) (d == c || false) (eq-eqb c c refl))
    (λ e. or_right (c == d) (d == d || false) (or_left (d == d) false (eq-eqb d d refl)))

known-begin :
    (h : List Event) (d : ℕ) (link : Link) (key c : ℕ)
    → (mem c (cores (row_of h key)) ≡ true → mem c (known h) ≡ true)
    → mem c (cores (cond (has_core d (row_of h key)) (row_of h key ++ new_place (followed link key))
    (row_of h key))) ≡ true
    → mem c (targets link ++ known h) ≡ true
known-begin h d link key c before =
    cond_both {A = List KeyPlace} (has_core d (row_of h key))
    (row_of h key ++ new_place (followed link key)) (row_of h key)
    (λ r. mem c (cores r) ≡ true → mem c (targets link ++ known h) ≡ true)
    (λ has is. elim (cases_Bool (mem c (cores (row_of h key)))) [
      | inl old ↦ mem-right c (targets link) (known h) (before old)
      | inr none ↦
          let same = append-mem-cases (cores (row_of h key)) c (followed link key)
          (sym (ap (mem c) (cores-append (row_of h key) (followed link key))) ∙ is) none in
          mem-left c (targets link) (known h)
          (ap (λ x. mem x (targets link)) (sym same) ∙ followed-target link key)
    ])
    (λ has is. mem-right c (targets link) (known h) (before is))

-- each core of a row is known
known-row :
    (h : List Event) (key c : ℕ) → mem c (cores (row_of h key)) ≡ true → mem c (known h) ≡ true
known-row [] key c is = is
known-row (Begin t d link ∷ h) key c is = known-begin h d link key c (known-row h key c) is
known-row (Seal t d ∷ h) key c is =
    known-row h key c (sym (ap (mem c) (cores-seal d (row_of h key))) ∙ is)
known-row (Look t d k ∷ h) key c is = known-row h key c is
known-row (Read t d a r ∷ h) key c is = known-row h key c is
known-row (Write t d a r ∷ h) key c is =
    known-row h key c
    (sym (ap (mem c) (cores-becomes (key_of_call a) key d (left_by a r.before) (row_of h key))) ∙ is)
known-row (Freeze t d k n ∷ h) key c is =
    known-row h key c (sym (ap (mem c) (cores-becomes k key d (Frozen n) (row_of h key))) ∙ is)
known-row (Copy t i d k n ∷ h) key c is =
    known-row h key c (sym (ap (mem c) (cores-becomes k key d (Number n) (row_of h key))) ∙ is)
known-row (Mark t d j k n ∷ h) key c is =
    known-row h key c (sym (ap (mem c) (cores-becomes k key d (Closed true) (row_of h key))) ∙ is)
known-row (Close t d k had ∷ h) key c is =
    known-row h key c (sym (ap (mem c) (cores-becomes k key d (Closed had) (row_of h key))) ∙ is)
known-row (Fill t d k ∷ h) key c is =
    known-row h key c (sym (ap (mem c) (cores-becomes k key d Full (row_of h key))) ∙ is)

-- none of these cores is known
abbrev are_new : List ℕ → List ℕ → Bool
are_new [] cs = true
are_new (c ∷ l) cs = not (mem c cs) && are_new l cs

are_new-true :
    (l cs : List ℕ) (c : ℕ) → are_new l cs ≡ true → mem c l ≡ true → mem c cs ≡ false
are_new-true [] cs c new is = absurd (both_ways false refl is)
are_new-true (x ∷ l) cs c new is =
    let parts = and_parts (not (mem x cs)) (are_new l cs) new in
    elim (or_cases (x == c) (mem c l) is) [
      | inl same ↦ ap (λ y. mem y cs) (sym (eqb-true x c same)) ∙ not-true (mem x cs) parts.0
      | inr later ↦ are_new-true l cs c parts.1 later
    ]

new-true :
    (h : List Event) (link : Link) → are_new (targets link) (known h) ≡ true → (q key : ℕ)
    → has_core (followed link q) (row_of h key) ≡ false
new-true h link new q key =
    let c = followed link q in
    false_from_ne_true (has_core c (row_of h key)) (λ is.
    both_ways (mem c (known h))
    (are_new-true (targets link) (known h) c new (followed-target link q))
    (known-row h key c (sym (has_core-mem c (row_of h key)) ∙ is)))

-- ---- keys that no event names

-- the key of an event, if it has one
abbrev key_of_event : Event → Option ℕ
key_of_event (Write t c a r) = Some (key_of_call a)
key_of_event (Freeze t c k n) = Some k
key_of_event (Copy t i c k n) = Some k
key_of_event (Mark t c j k n) = Some k
key_of_event (Close t c k had) = Some k
key_of_event (Fill t c k) = Some k
key_of_event _ = None

abbrev with_key : Option ℕ → List ℕ → List ℕ
with_key None ks = ks
with_key (Some k) ks = k ∷ ks

abbrev pub keys_of : List Event → List ℕ
keys_of [] = []
keys_of (e ∷ h) = with_key (key_of_event e) (keys_of h)

-- no place of the row has a number
abbrev has_none : List KeyPlace → Bool
has_none [] = true
has_none (p ∷ row) = same_state p.state Never && has_none row

none-append : (row : List KeyPlace) (c : ℕ) → has_none row ≡ true → has_none (row ++ new_place c) ≡ true
none-append [] c is = refl
none-append (p ∷ row) c is =
    let parts = and_parts (same_state p.state Never) (has_none row) is in
    and_from (same_state p.state Never) (has_none (row ++ new_place c)) parts.0
    (none-append row c parts.1)

none-seal : (row : List KeyPlace) (c : ℕ) → has_none row ≡ true → has_none (change_at c seal row) ≡ true
none-seal [] c is = refl
none-seal (p ∷ row) c is =
    let parts = and_parts (same_state p.state Never) (has_none row) is in
    here (p.core == c) parts.0 parts.1 (none-seal row c parts.1)
  where
    here : (b : Bool) → same_state p.state Never ≡ true → has_none row ≡ true
        → has_none (change_at c seal row) ≡ true
        → has_none (cond b (seal p ∷ row) (p ∷ change_at c seal row)) ≡ true
    here true never rest more = and_from (same_state p.state Never) (has_none row) never rest
    here false never rest more =
        and_from (same_state p.state Never) (has_none (change_at c seal row)) never more

none-other :
    (k key c : ℕ) (s : State) (row : List KeyPlace) → (k == key) ≡ false → has_none row ≡ true
    → has_none (becomes k key c s row) ≡ true
none-other k key c s row other is =
    ap has_none (cond-false (k == key) (change_at c (put s) row) row other) ∙ is

-- a key that no event names has no number anywhere
none-true : (h : List Event) (key : ℕ) → mem key (keys_of h) ≡ false → has_none (row_of h key) ≡ true
none-true [] key none = refl
none-true (Begin t d link ∷ h) key none =
    cond_both {A = List KeyPlace} (has_core d (row_of h key))
    (row_of h key ++ new_place (followed link key)) (row_of h key) (λ r. has_none r ≡ true)
    (λ has. none-append (row_of h key) (followed link key) (none-true h key none))
    (λ has. none-true h key none)
none-true (Seal t d ∷ h) key none = none-seal (row_of h key) d (none-true h key none)
none-true (Look t d k ∷ h) key none = none-true h key none
none-true (Read t d a r ∷ h) key none = none-true h key none
none-true (Write t d a r ∷ h) key none =
    let parts = or_parts (key_of_call a == key) (mem key (keys_of h)) none in
    none-other (key_of_call a) key d (left_by a r.before) (row_of h key) parts.0
    (none-true h key parts.1)
none-true (Freeze t d k n ∷ h) key none =
    let parts = or_parts (k == key) (mem key (keys_of h)) none in
    none-other k key d (Frozen n) (row_of h key) parts.0 (none-true h key parts.1)
none-true (Copy t i d k n ∷ h) key none =
    let parts = or_parts (k == key) (mem key (keys_of h)) none in
    none-other k key d (Number n) (row_of h key) parts.0 (none-true h key parts.1)
none-true (Mark t d j k n ∷ h) key none =
    let parts = or_parts (k == key) (mem key (keys_of h)) none in
    none-other k key d (Closed true) (row_of h key) parts.0 (none-true h key parts.1)
none-true (Close t d k had ∷ h) key none =
    let parts = or_parts (k == key) (mem key (keys_of h)) none in
    none-other k key d (Closed had) (row_of h key) parts.0 (none-true h key parts.1)
none-true (Fill t d k ∷ h) key none =
    let parts = or_parts (k == key) (mem key (keys_of h)) none in
    none-other k key d Full (row_of h key) parts.0 (none-true h key parts.1)

none-number : (row : List KeyPlace) (c : ℕ) → has_none row ≡ true → number_in_state (state_in c row) ≡ None
none-number [] c is = refl
none-number (p ∷ row) c is =
    let parts = and_parts (same_state p.state Never) (has_none row) is in
    here (p.core == c) (same-true p.state Never parts.0) (none-number row c parts.1)
  where
    here : (b : Bool) → p.state ≡ Never → number_in_state (state_in c row) ≡ None
        → number_in_state (cond b p.state (state_in c row)) ≡ None
    here true never more = ap number_in_state never
    here false never more = more

-- none of these keys has a number in the core
abbrev are_none : List ℕ → List Event → ℕ → Bool
are_none [] h c = true
are_none (k ∷ ks) h c = is_none (number_in_state (state_in c (row_of h k))) && are_none ks h c

is_none-true : (o : Option ℕ) → is_none o ≡ true → o ≡ None
is_none-true None e = refl
is_none-true (Some n) e = absurd (both_ways false refl e)

are_none-true :
    (ks : List ℕ) (h : List Event) (c key : ℕ) → are_none ks h c ≡ true → mem key ks ≡ true
    → number_in_state (state_in c (row_of h key)) ≡ None
are_none-true [] h c key none is = absurd (both_ways false refl is)
are_none-true (k ∷ ks) h c key none is =
    let parts = and_parts (is_none (number_in_state (state_in c (row_of h k)))) (are_none ks h c) none in
    elim (or_cases (k == key) (mem key ks) is) [
      | inl same ↦ ap (λ q. number_in_state (state_in c (row_of h q))) (sym (eqb-true k key same))
          ∙ is_none-true (number_in_state (state_in c (row_of h k))) parts.0
      | inr later ↦ are_none-true ks h c key parts.1 later
    ]

empty-true :
    (h : List Event) (c : ℕ) → are_none (keys_of h) h c ≡ true → (key : ℕ)
    → number_in_state (state_in c (row_of h key)) ≡ None
empty-true h c none key =
    elim (cases_Bool (mem key (keys_of h))) [
      | inl named ↦ are_none-true (keys_of h) h c key none named
      | inr other ↦ none-number (row_of h key) c (none-true h key other)
    ]

-- ---- core 0

abbrev is_zero_first : List ℕ → Bool
is_zero_first [] = false
is_zero_first (c ∷ cs) = c == 0

zero-appended : (cs : List ℕ) (c : ℕ) → is_zero_first cs ≡ true → is_zero_first (cs ++ c ∷ []) ≡ true
zero-appended [] c is = absurd (both_ways false refl is)
zero-appended (x ∷ cs) c is = is

zero-becomes :
    (k key c : ℕ) (s : State) (row : List KeyPlace) → is_zero_first (cores row) ≡ true
    → is_zero_first (cores (becomes k key c s row)) ≡ true
zero-becomes k key c s row is = ap is_zero_first (cores-becomes k key c s row) ∙ is

-- each row begins with core 0
zero-first : (h : List Event) (key : ℕ) → is_zero_first (cores (row_of h key)) ≡ true
zero-first [] key = refl
zero-first (Begin t d link ∷ h) key =
    let row = row_of h key in
    let to = followed link key in
    cond_both {A = List KeyPlace} (has_core d row) (row ++ new_place to) row
    (λ r. is_zero_first (cores r) ≡ true)
    (λ has. ap is_zero_first (cores-append row to) ∙ zero-appended (cores row) to (zero-first h key))
    (λ has. zero-first h key)
zero-first (Seal t d ∷ h) key = ap is_zero_first (cores-seal d (row_of h key)) ∙ zero-first h key
zero-first (Look t d k ∷ h) key = zero-first h key
zero-first (Read t d a r ∷ h) key = zero-first h key
zero-first (Write t d a r ∷ h) key =
    zero-becomes (key_of_call a) key d (left_by a r.before) (row_of h key) (zero-first h key)
zero-first (Freeze t d k n ∷ h) key =
    zero-becomes k key d (Frozen n) (row_of h key) (zero-first h key)
zero-first (Copy t i d k n ∷ h) key =
    zero-becomes k key d (Number n) (row_of h key) (zero-first h key)
zero-first (Mark t d j k n ∷ h) key =
    zero-becomes k key d (Closed true) (row_of h key) (zero-first h key)
zero-first (Close t d k had ∷ h) key =
    zero-becomes k key d (Closed had) (row_of h key) (zero-first h key)
zero-first (Fill t d k ∷ h) key = zero-becomes k key d Full (row_of h key) (zero-first h key)

zero-reached : (row : List KeyPlace) → is_zero_first (cores row) ≡ true → is_reached 0 row ≡ true
zero-reached [] is = absurd (both_ways false refl is)
zero-reached (p ∷ row) is = or_left (p.core == 0) (is_passed p && is_reached 0 row) is

-- ---- the test

abbrev is_unset : Option Link → Bool
is_unset None = true
is_unset (Some link) = false

is_unset-true : (o : Option Link) → is_unset o ≡ true → o ≡ None
is_unset-true None e = refl
is_unset-true (Some link) e = absurd (both_ways false refl e)

abbrev is_marked : State → Bool
is_marked (Closed had) = true
is_marked _ = false

unmarked-true : (s : State) → not (is_marked s) ≡ true → (had : Bool) → s ≢ Closed had
unmarked-true Never e had = λ same. cc
unmarked-true (Number n) e had = λ same. cc
unmarked-true Gone e had = λ same. cc
unmarked-true (Frozen n) e had = λ same. cc
unmarked-true (Closed t) e had = absurd (both_ways false refl e)
unmarked-true Full e had = λ same. cc

abbrev same_bool : Bool → Bool → Bool
same_bool true true = true
same_bool false false = true
same_bool _ _ = false

same_bool-true : (a b : Bool) → same_bool a b ≡ true → a ≡ b
same_bool-true true true e = refl
same_bool-true true false e = absurd (both_ways false refl e)
same_bool-true false true e = absurd (both_ways false refl e)
same_bool-true false false e = refl

abbrev same_reply : Reply → Reply → Bool
same_reply a b = same_number a.before b.before && same_bool a.matched b.matched

same_reply-true : (a b : Reply) → same_reply a b ≡ true → a ≡ b
same_reply-true a b e =
    let parts = and_parts (same_number a.before b.before) (same_bool a.matched b.matched) e in
    let before = same_number-true a.before b.before parts.0 in
    let matched = same_bool-true a.matched b.matched parts.1 in
    λ i. record { before = before i; matched = matched i }

-- keys of which one is led to each core of these examples
abbrev some_has : ℕ → List Event → Bool
some_has c h = has_core c (row_of h 0) || has_core c (row_of h 1)

some_has-true : (c : ℕ) (h : List Event) → some_has c h ≡ true
    → (key : ℕ) × (has_core c (row_of h key) ≡ true)
some_has-true c h is =
    elim (or_cases (has_core c (row_of h 0)) (has_core c (row_of h 1)) is) [
      | inl even ↦ (0, even)
      | inr odd ↦ (1, odd)
    ]

abbrev reads : List Event → ℕ → State → Call → Reply → Bool
reads h c s a r = is_reached c (row_of h (key_of_call a)) && (not (is_marked s)
    && ((is_some (number_in_state s) || is_unset (link_of h c))
    && (leaves_alone a (number_in_state s) && same_reply r (reply_at a (number_in_state s)))))

abbrev writes : List Event → ℕ → State → Call → Reply → Bool
writes h c s a r = is_reached c (row_of h (key_of_call a)) && (is_open s
    && (not (leaves_alone a (number_in_state s)) && same_reply r (reply_at a (number_in_state s))))

abbrev pub may : List Event → Event → Bool
may h (Begin t c link) =
    some_has c h && (is_unset (link_of h c) && are_new (targets link) (known h))
may h (Seal t c) = is_some (link_of h c) && (c == 0 && are_none (keys_of h) h c)
may h (Look t c k) = true
may h (Read t c a r) = reads h c (state_in c (row_of h (key_of_call a))) a r
may h (Write t c a r) = writes h c (state_in c (row_of h (key_of_call a))) a r
may h (Freeze t c k n) = same_state (state_in c (row_of h k)) (Number n)
may h (Copy t i c k n) = sees h k i c n && same_state (state_in c (row_of h k)) Never
may h (Mark t c j k n) = sees h k c j n && (same_state (state_in c (row_of h k)) (Frozen n)
    && had_number (state_in j (row_of h k)))
may h (Close t c k had) = same_state (state_in c (row_of h k)) (cond had Gone Never)
may h (Fill t c k) = is_some (link_of h c) && same_state (state_in c (row_of h k)) Never

some-number : (o : Option ℕ) → is_some o ≡ true → o ≡ None → ⊥
some-number None is none = both_ways false refl is
some-number (Some n) is none = cc

reads-true :
    (h : List Event) (c : ℕ) (s : State) (a : Call) (r : Reply) → reads h c s a r ≡ true
    → MayRead h c s a r
reads-true h c s a r is =
    let alone = leaves_alone a (number_in_state s) in
    let replies = same_reply r (reply_at a (number_in_state s)) in
    let last = is_some (number_in_state s) || is_unset (link_of h c) in
    let p = and_parts (is_reached c (row_of h (key_of_call a)))
    (not (is_marked s) && (last && (alone && replies))) is in
    let q = and_parts (not (is_marked s)) (last && (alone && replies)) p.1 in
    let t = and_parts last (alone && replies) q.1 in
    let u = and_parts alone replies t.1 in
    record {
      reached = p.0;
      unmarked = unmarked-true s q.0;
      last = λ none. elim (or_cases (is_some (number_in_state s)) (is_unset (link_of h c)) t.0) [
        | inl some ↦ absurd (some-number (number_in_state s) some none)
        | inr unset ↦ is_unset-true (link_of h c) unset
      ];
      alone = u.0;
      answers = same_reply-true r (reply_at a (number_in_state s)) u.1;
    }

writes-true :
    (h : List Event) (c : ℕ) (s : State) (a : Call) (r : Reply) → writes h c s a r ≡ true
    → MayWrite h c s a r
writes-true h c s a r is =
    let acts = not (leaves_alone a (number_in_state s)) in
    let replies = same_reply r (reply_at a (number_in_state s)) in
    let p = and_parts (is_reached c (row_of h (key_of_call a))) (is_open s && (acts && replies)) is in
    let q = and_parts (is_open s) (acts && replies) p.1 in
    let t = and_parts acts replies q.1 in
    record {
      home = p.0;
      unfrozen = q.0;
      acts = not-true (leaves_alone a (number_in_state s)) t.0;
      replies = same_reply-true r (reply_at a (number_in_state s)) t.1;
    }

may-true : (h : List Event) (e : Event) → may h e ≡ true → MayFollow h e
may-true h (Begin t c link) is =
    let p = and_parts (some_has c h) (is_unset (link_of h c) && are_new (targets link) (known h)) is in
    let q = and_parts (is_unset (link_of h c)) (are_new (targets link) (known h)) p.1 in
    record {
      there = some_has-true c h p.0;
      once = is_unset-true (link_of h c) q.0;
      new = new-true h link q.1;
    }
may-true h (Seal t c) is =
    let p = and_parts (is_some (link_of h c)) (c == 0 && are_none (keys_of h) h c) is in
    let q = and_parts (c == 0) (are_none (keys_of h) h c) p.1 in
    record {
      begun = p.0;
      first = λ key has. subst (λ x. is_reached x (row_of h key) ≡ true) (sym (eqb-true c 0 q.0))
          (zero-reached (row_of h key) (zero-first h key));
      empty = empty-true h c q.1;
    }
may-true h (Look t c k) is = tt
may-true h (Read t c a r) is = reads-true h c (state_in c (row_of h (key_of_call a))) a r is
may-true h (Write t c a r) is = writes-true h c (state_in c (row_of h (key_of_call a))) a r is
may-true h (Freeze t c k n) is = same-true (state_in c (row_of h k)) (Number n) is
may-true h (Copy t i c k n) is =
    let p = and_parts (sees h k i c n) (same_state (state_in c (row_of h k)) Never) is in
    (sees-true h k i c n p.0, same-true (state_in c (row_of h k)) Never p.1)
may-true h (Mark t c j k n) is =
    let p = and_parts (sees h k c j n) (same_state (state_in c (row_of h k)) (Frozen n)
    && had_number (state_in j (row_of h k))) is in
    let q = and_parts (same_state (state_in c (row_of h k)) (Frozen n))
    (had_number (state_in j (row_of h k))) p.1 in
    (sees-true h k c j n p.0, same-true (state_in c (row_of h k)) (Frozen n) q.0, q.1)
may-true h (Close t c k had) is = same-true (state_in c (row_of h k)) (cond had Gone Never) is
may-true h (Fill t c k) is =
    let p = and_parts (is_some (link_of h c)) (same_state (state_in c (row_of h k)) Never) is in
    (p.0, same-true (state_in c (row_of h k)) Never p.1)

abbrev holds : List Event → Event → Bool
holds h (Write t c a r) = not (is_sealed c (row_of h (key_of_call a)))
holds h _ = true

-- each event may follow, and seals hold
abbrev pub passes : List Event → Bool
passes [] = true
passes (e ∷ h) = (may h e && holds h e) && passes h

pub legal : (h : List Event) → passes h ≡ true → IsLegal h
legal [] is = tt
legal (e ∷ h) is =
    let p = and_parts (may h e && holds h e) (passes h) is in
    (legal h p.1, may-true h e (and_parts (may h e) (holds h e) p.0).0)

seals-step : (e : Event) (h : List Event) → holds h e ≡ true → SealsHold h → SealsHold (e ∷ h)
seals-step (Write t c a r) h is before =
    (before, not-true (is_sealed c (row_of h (key_of_call a))) is)
seals-step (Copy t i c k n) h is before = before
seals-step (Begin t c link) h is before = before
seals-step (Seal t c) h is before = before
seals-step (Look t c k) h is before = before
seals-step (Read t c a r) h is before = before
seals-step (Freeze t c k n) h is before = before
seals-step (Mark t c j k n) h is before = before
seals-step (Close t c k had) h is before = before
seals-step (Fill t c k) h is before = before

pub seals_hold : (h : List Event) → passes h ≡ true → SealsHold h
seals_hold [] is = tt
seals_hold (e ∷ h) is =
    let p = and_parts (may h e && holds h e) (passes h) is in
    seals-step e h (and_parts (may h e) (holds h e) p.0).1 (seals_hold h p.1)

pub follows : (h : List Event) (e : Event) → may h e ≡ true → MayFollow h e
follows = may-true

-- ---- what fails it

same-itself : (s : State) → same_state s s ≡ true
same-itself Never = refl
same-itself (Number n) = eq-eqb n n refl
same-itself Gone = refl
same-itself (Frozen n) = eq-eqb n n refl
same-itself (Closed true) = refl
same-itself (Closed false) = refl
same-itself Full = refl

pub differ : (s t : State) → same_state s t ≡ false → s ≡ t → ⊥
differ s t other e = both_ways (same_state s t) other
    (ap (λ u. same_state s u) (sym e) ∙ same-itself s)

pub unseen : (h : List Event) (key i j n : ℕ) → sees h key i j n ≡ false → HasSeenFrozen h key i j n → ⊥
unseen h key i j n none s = both_ways (sees h key i j n) none (seen-sees h key i j n s)

pub unknown :
    (h : List Event) (c key : ℕ) → mem c (known h) ≡ false → has_core c (row_of h key) ≡ true → ⊥
unknown h c key none is = both_ways (mem c (known h)) none
    (known-row h key c (sym (has_core-mem c (row_of h key)) ∙ is))
