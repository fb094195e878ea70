-- Where all seats of a map are gathered, and all of them but one know the same log: what is new since
-- is this one's.
use Rattle.std.proofs.Common.{◌≡◌, ◌≢◌, ◌∙◌, ℕ, ◌==◌, ◌<◌, Bool, true, false, cond, List, [], ◌∷◌, ◌++◌, length, map, All, ap, ap₂, sym, subst, refl, inl, inr, ◌⊎◌, slice_index_or, arith}
use Rattle.std.specs.List.{count_by}
use Rattle.std.proofs.lemmas.Bool.{cases_Bool, eq-eqb, eqb-true}
use Rattle.std.proofs.lemmas.List.{append_assoc, append_cancel_right}
use Rattle.std.proofs.lemmas.List.Elements.{All-cons, All-head, All-nil, All-tail}
use Rattle.std.proofs.lemmas.List.Sums.{sum_by-cons}
use Rattle.nb_core.proofs.Seating.{All-left}
use Rattle.nb_core.proofs.Theorems.{calls_append}
use Rattle.nb_core.specs.Log.{Entry, calls_of}
use Rattle.nb_core.specs.declared.calls.Call.{Call}
use Rattle.nb_core.specs.declared.calls.Reply.{Reply}
use Rattle.nb_map.specs.Ending.{EndedOf, EndedWith, HasAll, log_left}
use Rattle.nb_map.specs.Logs.{log}
use Rattle.nb_map.specs.Maps.{SeatOf}

-- a seat's call with its reply, in a log
abbrev pub entry_by : ℕ → Call × Reply → Entry
entry_by n made = record { seat = n; call = made.0; reply = made.1 }

-- entries that are all of one number are its calls
pub entries-by :
    (n : ℕ) (entries : List Entry) → All (λ entry. entry.seat ≡ n) entries
    → entries ≡ map (entry_by n) (calls_of n entries)
entries-by n [] all = refl
entries-by n (entry ∷ entries) all =
    let P : Entry → Type 0 = λ entry. entry.seat ≡ n in
    let here : entry.seat ≡ n = All-head P entry entries all in
    rw (eq-eqb entry.seat n here)
    (ap₂ (λ s rest. record { seat = s; call = entry.call; reply = entry.reply } ∷ rest) here
    (entries-by n entries (All-tail P entry entries all)))

-- where a number has no call among entries, none of them is its
none-called :
    (n : ℕ) (entries : List Entry) → calls_of n entries ≡ [] → All (λ entry. entry.seat ≢ n) entries
none-called n [] none = All-nil (λ (entry : Entry). entry.seat ≢ n)
none-called n (entry ∷ entries) none = of (entry.seat == n) refl none (none-called n entries)
  where
    of : (b : Bool) → (entry.seat == n) ≡ b
        → cond b ((entry.call, entry.reply) ∷ calls_of n entries) (calls_of n entries) ≡ []
        → (calls_of n entries ≡ [] → All (λ entry. entry.seat ≢ n) entries)
        → All (λ entry. entry.seat ≢ n) (entry ∷ entries)
    of true is none rest = absurd cc
    of false is none rest =
        All-cons (λ (entry : Entry). entry.seat ≢ n) entry entries
        (λ same. let yes = eq-eqb entry.seat n same in absurd cc) (rest none)

-- a list with nothing in it has nothing in its first part, nor in its second
first-none : {A : Type 0} (xs ys : List A) → xs ++ ys ≡ [] → xs ≡ []
first-none [] ys none = refl
first-none (x ∷ xs) ys none = absurd cc

second-none : {A : Type 0} (xs ys : List A) → xs ++ ys ≡ [] → ys ≡ []
second-none [] ys none = none
second-none (x ∷ xs) ys none = absurd cc

-- a seat with this number is one of these, and what holds of all holds of it
pub seat-numbered :
    (P : SeatOf → Type 0) (n : ℕ) (seats : List SeatOf)
    → count_by (λ seat. seat.chain.number == n) seats ≡ 1 → All P seats
    → (seat : SeatOf) × (seat.chain.number ≡ n) × P seat
seat-numbered P n [] once all = absurd (omega (arith, once))
seat-numbered P n (seat ∷ seats) once all =
    elim (cases_Bool (seat.chain.number == n)) [
      | inl mine ↦ (seat, eqb-true seat.chain.number n mine, All-head P seat seats all)
      | inr other ↦
          let first = sum_by-cons (λ (s : SeatOf). cond (s.chain.number == n) 1 0) seat seats in
          let none = ap {B = ℕ} (λ b. cond b 1 0) other in
          seat-numbered P n seats (omega (arith, once, first, none)) (All-tail P seat seats all)
    ]

module _ (seats : List SeatOf) (ended : EndedOf) (end : EndedWith seats ended)
    (base later : List Entry) (one : SeatOf) (knows : log one ≡ later ++ base)
    (has : HasAll (log_left ended) one)
    (others : All (λ seat. (seat ≡ one) ⊎ (log seat ≡ base)) seats) where
  -- each number is a seat's, which is the one or knows no more than the others
  IsSeat : SeatOf → Type 0
  IsSeat seat = HasAll (log_left ended) seat × ((seat ≡ one) ⊎ (log seat ≡ base))

  numbered : (n : ℕ) → n < length seats → (seat : SeatOf) × (seat.chain.number ≡ n) × IsSeat seat
  unfolding IsSeat
  numbered n less = seat-numbered IsSeat n seats (end.once n less)
      (λ i d within. (end.logs i d within, others i d within))

  is : log_left ended ≡ (has.later ++ later) ++ base
  is = has.is ∙ ap (λ log. has.later ++ log) knows ∙ sym (append_assoc has.later later base)

  -- what a seat has called since is what the one has called, if it is the one
  since : (n : ℕ) → n < length seats
      → (one.chain.number ≡ n) ⊎ (calls_of n (has.later ++ later) ≡ [])
  unfolding IsSeat
  since n less =
      let found = numbered n less in
      let seat = found.0 in
      elim found.2.1 [
        | inl same ↦ inl (ap (λ (s : SeatOf). s.chain.number) (sym same) ∙ found.1)
        | inr old ↦
            let all = found.2.0 in
            let same : all.later ≡ has.later ++ later
            = append_cancel_right all.later (has.later ++ later) base
            (ap (λ log. all.later ++ log) (sym old) ∙ sym all.is ∙ is) in
            inr (ap (calls_of n) (sym same) ∙ ap (λ k. calls_of k all.later) (sym found.1)
            ∙ all.others)
      ]

  below : All (λ entry. entry.seat < length seats) ((has.later ++ later) ++ base)
  below = subst (All (λ entry. entry.seat < length seats)) is end.made

  -- no call came after the one's
  nothing : (rest : List Entry) → rest ≡ has.later → rest ≡ []
  nothing [] same = refl
  nothing (entry ∷ rest) same =
      let P : Entry → Type 0 = λ entry. entry.seat < length seats in
      let less : entry.seat < length seats = All-head P entry ((rest ++ later) ++ base)
      (subst (λ xs. All P ((xs ++ later) ++ base)) (sym same) below) in
      let none : calls_of entry.seat (entry ∷ rest) ≡ [] =
      ap (calls_of entry.seat) same ∙ elim (since entry.seat less) [
        | inl mine ↦ subst (λ n. calls_of n has.later ≡ []) mine has.others
        | inr never ↦
            first-none (calls_of entry.seat has.later) (calls_of entry.seat later)
            (sym (calls_append entry.seat has.later later) ∙ never)
      ] in
      absurd (All-head (λ (e : Entry). e.seat ≢ entry.seat) entry rest
      (none-called entry.seat (entry ∷ rest) none) refl)

  -- so the log of all calls is the one's,
  pub whole-is : log_left ended ≡ later ++ base
  whole-is = is ∙ ap (λ xs. (xs ++ later) ++ base) (nothing has.later refl)

  -- and all that is new is the one's
  pub all-its : All (λ entry. entry.seat ≡ one.chain.number) later
  all-its = λ i d within.
      let P : Entry → Type 0 = λ entry. entry.seat < length seats in
      let entry = slice_index_or later i d in
      let less : entry.seat < length seats = All-left P later base
      (subst (λ xs. All P ((xs ++ later) ++ base)) (nothing has.later refl) below) i d within in
      elim (since entry.seat less) [
        | inl mine ↦ sym mine
        | inr never ↦
            absurd (none-called entry.seat later
            (second-none (calls_of entry.seat has.later) (calls_of entry.seat later)
            (sym (calls_append entry.seat has.later later) ∙ never)) i d within refl)
      ]
