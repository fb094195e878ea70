-- What a step may do, and what it tells.
use Rattle.std.specs.Prelude.{◌≡◌, ◌≢◌, ℕ, ◌<◌, List, ◌++◌, All, slice_index, slice_set}
use Rattle.nb_core.specs.Plans.{Plan, IsPlan}
use Rattle.nb_core.specs.Tables.{words_of}
use Rattle.nb_core.specs.History.{IsLegal, seat_of_event}
use Rattle.nb_core.specs.declared.events.Event.{Event}
use Rattle.nb_table.specs.Chains.{Extended, SeenBy}

-- After this history a step may make these events: they keep it legal, change the words as the step
-- does, which puts `new` at its index, and are the seat's own.
pub record MayStep (p : Plan) (own : List Event) (number index new : ℕ) (h : List Event) :
    Type 0 where
  pub legal : IsLegal p (own ++ h)
  pub words : words_of p (own ++ h) ≡ slice_set (words_of p h) index new
  pub mine : All (λ e. seat_of_event e ≡ number) own

-- What is to be shown before a seat's step: whatever legal history the events of others have made
-- of what the seat has seen, the step, which makes `f found` of the word that it finds at its
-- index, may make the events that go with this word.
abbrev pub Can : Plan → (ℕ → List Event) → ℕ → List Event → ℕ → (ℕ → ℕ) → Type 0
Can p events number seen index f =
    IsPlan p → number < p.seats
    → (others : List Event) → All (λ e. seat_of_event e ≢ number) others
    → IsLegal p (others ++ seen)
    → let h = others ++ seen in let found = slice_index (words_of p h) index in
    MayStep p (events found) number index (f found) h

-- What a step tells: others made events first, the word at its index was as found after them, and
-- the seat made the events that go with this word.
pub record Stepped
    (p : Plan) (events : ℕ → List Event) (index : ℕ) (before : SeenBy) (found : ℕ)
    (after : SeenBy) : Type 0 where
  pub grows : Extended p before after (events found) 1
  pub word : slice_index (words_of p (grows.others ++ before.seen)) index ≡ found
