-- The worked histories pass the test, and what they show is computed.
use Rattle.std.proofs.Common.{◌≡◌, ◌∙◌, ℕ, zero, suc, ◌-◌, ◌<◌, Bool, true, ◌&&◌, List, [], ◌∷◌, Option, arith}
use Rattle.std.proofs.lemmas.Bool.{and_parts}
use Rattle.std.specs.List.{All}
use Rattle.std.specs.FinMap as map
use Rattle.std.proofs.lemmas.List.Elements.{All-cons, All-nil}
use Rattle.nb_core.specs.Calls.{same_number}
use Rattle.nb_core.specs.Plans.{generations_of, size_of}
use Rattle.nb_core.specs.Tables.{IsOther, Tables, tables_at}
use Rattle.nb_core.specs.History.{IsLegal, map_of}
use Rattle.nb_histories.specs.Histories.{HasNumbers, Worked}
use Rattle.nb_core.proofs.Computed.{below_suc, number_at, number_at_map, same_number-true}
use Rattle.nb_histories.proofs.Legality.{is_other, passes}
use Rattle.nb_core.specs.Meaning.{IsCrowded}
use Rattle.nb_histories.proofs.Passing.{is_other-true}
use Rattle.nb_histories.proofs.Replies.{passes_legal}
use Rattle.nb_core.specs.declared.events.Event.{Event}

pub legal : (w : Worked) → passes w.plan w.events ≡ true → IsLegal w.plan w.events
legal w = passes_legal w.plan w.events

abbrev has_numbers : List Event → List (ℕ × Option ℕ) → Bool
has_numbers h [] = true
has_numbers h (e ∷ es) = same_number (number_at h e.0) e.1 && has_numbers h es

has_numbers-true :
    (h : List Event) (es : List (ℕ × Option ℕ)) → has_numbers h es ≡ true
    → All (λ e. map.get (map_of h) e.0 ≡ e.1) es
has_numbers-true h [] holds = All-nil (λ e. map.get (map_of h) e.0 ≡ e.1)
has_numbers-true h (e ∷ es) holds =
    let a = and_parts (same_number (number_at h e.0) e.1) (has_numbers h es) holds in
    All-cons (λ e. map.get (map_of h) e.0 ≡ e.1) e es (number_at_map h e.0
    ∙ same_number-true (number_at h e.0) e.1 a.0) (has_numbers-true h es a.1)

pub numbers :
    (w : Worked) (es : List (ℕ × Option ℕ)) → has_numbers w.events es ≡ true → HasNumbers w es
numbers w = has_numbers-true w.events

abbrev are_all_others : Tables → ℕ → ℕ → ℕ → Bool
are_all_others t g k zero = true
are_all_others t g k (suc n) = is_other k (t.key g n) && are_all_others t g k n

all_others :
    (t : Tables) (g k n : ℕ) → are_all_others t g k n ≡ true → (i : ℕ) → i < n
    → IsOther (t.key g i) k
all_others t g k zero holds = λ i h. absurd (omega arith)
all_others t g k (suc n) holds =
    let a = and_parts (is_other k (t.key g n)) (are_all_others t g k n) holds in
    below_suc (λ i. IsOther (t.key g i) k) n (is_other-true k (t.key g n) a.0)
    (all_others t g k n a.1)

pub crowded :
    (w : Worked) (k : ℕ) → are_all_others (tables_at w.plan w.events) (generations_of w.plan - 1) k
    (size_of w.plan (generations_of w.plan - 1)) ≡ true → IsCrowded w.plan w.events k
crowded w k = all_others (tables_at w.plan w.events) (generations_of w.plan - 1) k
    (size_of w.plan (generations_of w.plan - 1))
