-- Calls of logs, and beginnings of logs and of histories.
use Rattle.std.proofs.Common.{◌≡◌, ◌∙◌, ◌⊎◌, inl, inr, ℕ, List, [], ◌∷◌, ◌++◌, drop, ap, sym, refl}
use Rattle.std.proofs.lemmas.List.{append-nil, append_assoc, append_cancel_right}
use Rattle.std.specs.List.{All}
use Rattle.std.proofs.lemmas.List.Elements.{All-cons, All-head, All-nil, All-tail, All-weaker, filter_map-append}
use Rattle.nb_core.specs.Log.{Entry, IsBeginning, calls_of, entry_of, log_of}
use Rattle.nb_core.specs.Plans.{Plan}
use Rattle.nb_core.specs.declared.calls.Call.{Call}
use Rattle.nb_core.specs.declared.calls.Reply.{Reply}
use Rattle.nb_core.specs.declared.events.Event.{Event}
use Rattle.nb_core.proofs.Theorems.{calls_append}
use Rattle.nb_table.specs.Chains.{Grown, SeenBy}
use Rattle.nb_map.specs.Logs.{HasLogged, log}
use Rattle.nb_map.specs.Maps.{SeatOf}

abbrev pub Calls : Type 0
Calls = List (Call × Reply)

-- ---- calls

append-empty : {A : Type 0} (xs ys : List A) → xs ++ ys ≡ [] → (xs ≡ []) × (ys ≡ [])
append-empty [] ys none = (refl, none)
append-empty (x ∷ xs) ys none = absurd cc

-- where some entries and others are none of the seat's, neither are
pub calls-apart :
    (s : ℕ) (later log : List Entry) → calls_of s (later ++ log) ≡ [] → (calls_of s later ≡ [])
    × (calls_of s log ≡ [])
calls-apart s later log none = append-empty (calls_of s later) (calls_of s log)
    (sym (calls_append s later log) ∙ none)

-- ---- beginnings

module _ {A : Type 0} where
  abbrev pub beginning-itself : (h : List A) → IsBeginning h h
  beginning-itself h = record { later = []; is = refl }

  abbrev pub beginning-none : (h : List A) → IsBeginning [] h
  beginning-none h = record { later = h; is = sym (append-nil h) }

  abbrev pub beginning-more : {x y z : List A} → IsBeginning x y → IsBeginning y z → IsBeginning x z
  beginning-more {x} a b = record {
    later = b.later ++ a.later;
    is = b.is ∙ ap (λ h. b.later ++ h) a.is ∙ sym (append_assoc b.later a.later x);
  }

  -- what comes after a beginning comes after another one, or between the two
  pub later-apart :
      {low middle high : List A} (a : IsBeginning low high) (b : IsBeginning middle high)
      (c : IsBeginning low middle) → a.later ≡ b.later ++ c.later
  later-apart {low} a b c =
      append_cancel_right a.later (b.later ++ c.later) low (sym a.is ∙ b.is
      ∙ ap (λ h. b.later ++ h) c.is ∙ sym (append_assoc b.later c.later low))

  -- of two beginnings of a list one is the other's
  either-begins : (x y later later' : List A) → later ++ x ≡ later' ++ y → IsBeginning x y
      ⊎ IsBeginning y x
  either-begins x y [] later' same = inr (record { later = later'; is = same })
  either-begins x y (e ∷ later) [] same = inl (record { later = e ∷ later; is = sym same })
  either-begins x y (e ∷ later) (e' ∷ later') same =
      either-begins x y later later' (ap (drop 1) same)

  pub begins-or-begun : {x y h : List A} → IsBeginning x h → IsBeginning y h → IsBeginning x y
      ⊎ IsBeginning y x
  begins-or-begun {x} {y} a b = either-begins x y a.later b.later (sym a.is ∙ b.is)

abbrev pub beginning-grown :
    {p : Plan} {before after : SeenBy} {own : List Event} {count : ℕ}
    → Grown p before after own count → IsBeginning before.seen after.seen
beginning-grown grown = record { later = grown.later; is = grown.seen }

abbrev pub beginning-logged :
    {before after : SeatOf} {made : Calls} → HasLogged before after made
    → IsBeginning (log before) (log after)
beginning-logged logged = record { later = logged.later; is = logged.grown }

-- a beginning of a history has a beginning of its log
pub log-begins : {x y : List Event} → IsBeginning x y → IsBeginning (log_of x) (log_of y)
log-begins {x} begun = record {
  later = log_of begun.later;
  is = ap log_of begun.is
      ∙ filter_map-append entry_of begun.later x;
}

-- ---- seats

-- the seat's log is a beginning of this
abbrev pub IsSeenBy : List Entry → SeatOf → Type 0
IsSeenBy whole seat = IsBeginning (log seat) whole

-- what the seat has seen is a beginning of this
abbrev pub IsHeardBy : List Event → SeatOf → Type 0
IsHeardBy whole seat = IsBeginning seat.chain.seen whole

-- so is its log
pub heard-seen :
    (whole : List Event) (seats : List SeatOf) → All (IsHeardBy whole) seats
    → All (IsSeenBy (log_of whole)) seats
heard-seen whole =
    All-weaker (IsHeardBy whole) (IsSeenBy (log_of whole)) (λ seat begun. log-begins begun)

-- The longest of this and the logs of all these seats.
pub record Longest (base : List Entry) (seats : List SeatOf) : Type 0 where
  pub whole : List Entry
  pub begun : IsBeginning base whole
  pub all : All (IsSeenBy whole) seats
  pub least : (z : List Entry) → IsBeginning base z → All (IsSeenBy z) seats → IsBeginning whole z

longest-more :
    (base : List Entry) (s : SeatOf) (seats : List SeatOf) (rest : Longest base seats)
    → IsBeginning (log s) rest.whole ⊎ IsBeginning rest.whole (log s) → Longest base (s ∷ seats)
longest-more base s seats rest (inl shorter) = record {
  whole = rest.whole;
  begun = rest.begun;
  all = All-cons (IsSeenBy rest.whole) s seats shorter rest.all;
  least = λ z b all. rest.least z b (All-tail (IsSeenBy z) s seats all);
}
longest-more base s seats rest (inr longer) = record {
  whole = log s;
  begun = beginning-more rest.begun longer;
  all = All-cons (IsSeenBy (log s)) s seats (beginning-itself (log s))
      (All-weaker (IsSeenBy rest.whole) (IsSeenBy (log s)) (λ seat b. beginning-more b longer)
      seats rest.all);
  least = λ z b all. All-head (IsSeenBy z) s seats all;
}

-- there is one where all of these are beginnings of one log
pub longest :
    (h base : List Entry) (seats : List SeatOf) → IsBeginning base h → All (IsSeenBy h) seats
    → Longest base seats
longest h base [] begins seen = record {
  whole = base;
  begun = beginning-itself base;
  all = All-nil (IsSeenBy base);
  least = λ z b all. b;
}
longest h base (s ∷ seats) begins seen =
    let others = All-tail (IsSeenBy h) s seats seen in
    let rest = longest h base seats begins others in
    longest-more base s seats rest (begins-or-begun (All-head (IsSeenBy h) s seats seen)
    (rest.least h begins others))
