-- The invariant of legal histories: each key's row stands for what the log's map has at it.
use Rattle.std.proofs.Common.{◌≡◌, ◌∙◌, ℕ, Bool, true, false, ◌||◌, ◌==◌, cond, List, [], ◌∷◌, ◌++◌, None, ap, sym, subst, refl, inl, inr}
use Rattle.std.specs.FinMap.{get}
use Rattle.std.specs.Option.{is_some}
use Rattle.std.proofs.lemmas.Bool.{both_ways, cases_Bool, cond_both, eqb-true}
use Rattle.nb_core.specs.Log.{IsBeginning, map_of_log}
use Rattle.nb_moving.specs.Moving.{HasSeenFrozen, IsLegal, MayFollow, KeyPlace, becomes, behind, change_at, has_core, is_reached, is_sealed, link_of, log_of, number_in_state, row_of, state_in}
use Rattle.nb_moving.specs.declared.events.Event.{Event}
use Rattle.nb_moving.specs.declared.events.State.{State}
use Rattle.nb_moving.specs.declared.events.State.TheVariants.{Never, Frozen, Full}
use Rattle.nb_moving.proofs.Cells.{IsRow, Moves, stays, Saw, moves-row, moves-saw, row-are}
use Rattle.nb_moving.proofs.Places.{AreAt, IsDistinct, cells, cores, has_core-mem, put}
use Rattle.nb_moving.proofs.Sealed.{are_at-mem, frozen-unreached, never-before, reached-not_never, sealed-new, sealed-reached}
use Rattle.nb_moving.proofs.Seen.{AllPlaces, IsEmptied, Seen, all-change, all-map, see}

abbrev pub is_full : State → Bool
is_full Full = true
is_full _ = false

-- A sealed place has no number. What is closed in a way that a read doesn't show has its link.
abbrev pub IsRight : List Event → KeyPlace → Type 0
IsRight h p = IsEmptied p × ((p.sealed || is_full p.state) ≡ true → is_some (link_of h p.core) ≡ true)

pub record IsSound (h : List Event) : Type 0 where
  pub row : (key : ℕ) → IsRow (cells (row_of h key)) (get (map_of_log (log_of h)) key)
  pub right : (key : ℕ) → AllPlaces (IsRight h) (row_of h key)
  pub distinct : (key : ℕ) → IsDistinct (cores (row_of h key))
  pub seen : (key i j n : ℕ) → HasSeenFrozen h key i j n → Seen (row_of h key) i j n
  pub unsealed : (key i j n : ℕ) → HasSeenFrozen h key i j n → is_sealed j (row_of h key) ≡ true
      → state_in j (row_of h key) ≡ Never → ⊥

-- what a step from h to g keeps, whose row of the key is this
pub record Stepped (h g : List Event) (key : ℕ) (next : List KeyPlace) : Type 0 where
  pub row : IsRow (cells next) (get (map_of_log (log_of g)) key)
  pub right : AllPlaces (IsRight g) next
  pub distinct : IsDistinct (cores next)
  pub at : (p d i j : ℕ) → AreAt (cores (row_of h key)) p d i j → AreAt (cores next) p d i j
  pub saw : (p d n : ℕ) → Saw (cells (row_of h key)) p d n → Saw (cells next) p d n

pub right-emptied : (h : List Event) (row : List KeyPlace) → AllPlaces (IsRight h) row
    → AllPlaces IsEmptied row
right-emptied h row all = all-map (IsRight h) IsEmptied row (λ p r. r.0) all

same-rest : (e x : Event) (h l : List Event) → (e ∷ h) ≡ (x ∷ l) → h ≡ l
same-rest e x h l is = cc

seen-step :
    (e : Event) (h : List Event) (key i j n : ℕ) → IsSound h
    → Stepped h (e ∷ h) key (row_of (e ∷ h) key) → (moment later : List Event)
    → (e ∷ h) ≡ later ++ moment → state_in i (row_of moment key) ≡ Frozen n
    → is_reached j (behind i (row_of moment key)) ≡ true → Seen (row_of (e ∷ h) key) i j n
seen-step e h key i j n sound step moment [] is frozen first =
    see i j n (row_of (e ∷ h) key) (right-emptied (e ∷ h) (row_of (e ∷ h) key) step.right)
    (subst (λ l. state_in i (row_of l key) ≡ Frozen n) (sym is) frozen)
    (subst (λ l. is_reached j (behind i (row_of l key)) ≡ true) (sym is) first)
seen-step e h key i j n sound step moment (x ∷ later) is frozen first =
    let beginning : IsBeginning moment h = record {
      later = later;
      is = same-rest e x h (later ++ moment) is;
    } in
    let before = sound.seen key i j n (record {
      moment = moment;
      earlier = beginning;
      frozen = frozen;
      reached = first;
    }) in
    record {
      place = before.place;
      distance = before.distance;
      at = step.at before.place before.distance i j before.at;
      saw = step.saw before.place before.distance n before.saw;
    }

-- what was seen in a core is still seen after a step, where it was before it
seen-sealed :
    (e : Event) (h : List Event) (key i j n : ℕ) → IsSound h → MayFollow h e → HasSeenFrozen h key i j n
    → is_sealed j (row_of (e ∷ h) key) ≡ true → state_in j (row_of (e ∷ h) key) ≡ Never → ⊥
seen-sealed e h key i j n sound may s is never =
    let row = row_of h key in
    let before = sound.seen key i j n s in
    let there : has_core j row ≡ true = has_core-mem j row
    ∙ are_at-mem (cores row) before.place before.distance i j before.at in
    let was = never-before e h j key may there never in
    elim (cases_Bool (is_sealed j row)) [
      | inl sealed ↦ sound.unsealed key i j n s sealed was
      | inr none ↦
          reached-not_never before.place before.distance i j n row (sound.distinct key) before.at
          before.saw (sealed-new e h j key may none is) was none
    ]

sealed-step :
    (e : Event) (h : List Event) (key i j n : ℕ) → IsSound h → IsLegal (e ∷ h)
    → Stepped h (e ∷ h) key (row_of (e ∷ h) key) → (moment later : List Event)
    → (e ∷ h) ≡ later ++ moment → state_in i (row_of moment key) ≡ Frozen n
    → is_reached j (behind i (row_of moment key)) ≡ true
    → is_sealed j (row_of (e ∷ h) key) ≡ true → state_in j (row_of (e ∷ h) key) ≡ Never → ⊥
sealed-step e h key i j n sound legal step moment [] is frozen first sealed never =
    let row = row_of (e ∷ h) key in
    let state = subst (λ l. state_in i (row_of l key) ≡ Frozen n) (sym is) frozen in
    let all = right-emptied (e ∷ h) row step.right in
    let seen = see i j n row all state
    (subst (λ l. is_reached j (behind i (row_of l key)) ≡ true) (sym is) first) in
    frozen-unreached seen.place seen.distance i j n row step.distinct seen.at all state
    (sealed-reached (e ∷ h) legal j key sealed)
sealed-step e h key i j n sound legal step moment (x ∷ later) is frozen first sealed never =
    let beginning : IsBeginning moment h = record {
      later = later;
      is = same-rest e x h (later ++ moment) is;
    } in
    seen-sealed e h key i j n sound legal.1 (record {
      moment = moment;
      earlier = beginning;
      frozen = frozen;
      reached = first;
    }) sealed never

-- where each key's row is kept right, the invariant is
pub sound-step :
    (e : Event) (h : List Event) → IsSound h → IsLegal (e ∷ h)
    → ((key : ℕ) → Stepped h (e ∷ h) key (row_of (e ∷ h) key)) → IsSound (e ∷ h)
sound-step e h sound legal step = record {
  row = λ key. (step key).row;
  right = λ key. (step key).right;
  distinct = λ key. (step key).distinct;
  seen = λ key i j n s.
      seen-step e h key i j n sound (step key) s.moment s.earlier.later s.earlier.is s.frozen s.reached;
  unsealed = λ key i j n s.
      sealed-step e h key i j n sound legal (step key) s.moment s.earlier.later s.earlier.is s.frozen
      s.reached;
}

-- a step that leaves the key's number, and its cores
pub moved :
    (h g : List Event) (key : ℕ) (row : List KeyPlace) → IsSound h
    → get (map_of_log (log_of g)) key ≡ get (map_of_log (log_of h)) key
    → Moves (cells (row_of h key)) (cells row) → cores row ≡ cores (row_of h key)
    → AllPlaces (IsRight g) row → Stepped h g key row
moved h g key row sound number moves same right =
    let number_before = get (map_of_log (log_of h)) key in
    let before = sound.row key in
    record {
      row = subst (IsRow (cells row)) (sym number)
          (moves-row (cells (row_of h key)) (cells row) number_before moves before);
      right = right;
      distinct = subst IsDistinct (sym same) (sound.distinct key);
      at = λ p d i j a. subst (λ cs. AreAt cs p d i j) (sym same) a;
      saw = λ p d n s. moves-saw (cells (row_of h key)) (cells row) p d n moves
          (row-are (cells (row_of h key)) number_before before) s;
    }

-- a step that leaves the key's row
pub kept :
    (h g : List Event) (key : ℕ) → IsSound h
    → get (map_of_log (log_of g)) key ≡ get (map_of_log (log_of h)) key
    → AllPlaces (IsRight g) (row_of h key) → Stepped h g key (row_of h key)
kept h g key sound number right = moved h g key (row_of h key) sound number stays refl right

-- a step that changes the row of k alone
pub becomes-step :
    (h g : List Event) (k c : ℕ) (s : State) → Stepped h g k (change_at c (put s) (row_of h k))
    → ((key : ℕ) → (k == key) ≡ false → Stepped h g key (row_of h key)) → (key : ℕ)
    → Stepped h g key (becomes k key c s (row_of h key))
becomes-step h g k c s here others key =
    cond_both (k == key) (change_at c (put s) (row_of h key)) (row_of h key) (Stepped h g key)
    (λ same. subst (λ q. Stepped h g q (change_at c (put s) (row_of h q))) (eqb-true k key same) here)
    (others key)

-- ---- places

emptied-cond :
    (b : Bool) (q : KeyPlace) (sealed : Bool) (o : State) (s : State) → IsEmptied q
    → cond b q.sealed sealed ≡ true → cond b q.state o ≡ s
    → (sealed ≡ true → o ≡ s → number_in_state s ≡ None) → number_in_state s ≡ None
emptied-cond true q sealed o s empty is at more =
    sym (ap number_in_state at) ∙ empty is
emptied-cond false q sealed o s empty is at more = more is at

-- a sealed core of the row has no number
pub emptied-in :
    (c : ℕ) (row : List KeyPlace) (s : State) → AllPlaces IsEmptied row → is_sealed c row ≡ true
    → state_in c row ≡ s → number_in_state s ≡ None
emptied-in c [] s all is at = absurd (both_ways false refl is)
emptied-in c (q ∷ r) s all is at =
    emptied-cond (q.core == c) q (is_sealed c r) (state_in c r) s all.0 is at
    (emptied-in c r s all.1)

hidden-cond :
    (b : Bool) (h : List Event) (c : ℕ) (q : KeyPlace) (sealed : Bool) (o : State) (s : State)
    → (q.core == c) ≡ b → IsRight h q → cond b q.state o ≡ s
    → (cond b q.sealed sealed || is_full s) ≡ true
    → (o ≡ s → (sealed || is_full s) ≡ true → is_some (link_of h c) ≡ true)
    → is_some (link_of h c) ≡ true
hidden-cond true h c q sealed o s e right at is more =
    subst (λ d. is_some (link_of h d) ≡ true) (eqb-true q.core c e)
    (right.1 (ap (λ t. q.sealed || is_full t) at ∙ is))
hidden-cond false h c q sealed o s e right at is more = more at is

-- a core of the row that is sealed, or full for the key, has its link
pub hidden-in :
    (h : List Event) (c : ℕ) (row : List KeyPlace) (s : State) → AllPlaces (IsRight h) row
    → state_in c row ≡ s → (is_sealed c row || is_full s) ≡ true
    → is_some (link_of h c) ≡ true
hidden-in h c [] s all at is =
    absurd (both_ways (is_full s) (ap is_full (sym at)) is)
hidden-in h c (q ∷ r) s all at is =
    hidden-cond (q.core == c) h c q (is_sealed c r) (state_in c r) s refl all.0 at is
    (hidden-in h c r s all.1)

hidden-kept : (b : Bool) (s : State) → (b || false) ≡ true → (b || is_full s) ≡ true
hidden-kept true s e = refl
hidden-kept false s e = absurd (cc)

-- another state keeps a place right, where it is no want of a slot, and no number in a sealed core
pub right-put :
    (h : List Event) (c : ℕ) (s : State) (row : List KeyPlace) → AllPlaces (IsRight h) row
    → is_full s ≡ false → (is_sealed c row ≡ true → number_in_state s ≡ None)
    → AllPlaces (IsRight h) (change_at c (put s) row)
right-put h c s row all full empty =
    all-change (IsRight h) (IsRight h) c (put s) row all (λ p r. r)
    (λ p core state sealed r. (
      λ is. empty (sym sealed ∙ is),
      λ hid. r.1 (hidden-kept p.sealed p.state (ap (λ t. p.sealed || t) (sym full) ∙ hid)),
    ))
