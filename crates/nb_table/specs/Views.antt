-- What the tokens of a chain's table know, and the rule that its words keep.
use Rattle.std.specs.Prelude.{◌≡◌, ◌≢◌, ℕ, ◌+◌, ◌<◌, ◌≤◌, ◌==◌, List, [], ◌∷◌, ◌++◌, length, map, flat_map, take, drop, count_by, sum_by, All, Contains, slice_index}
use Rattle.std.specs.List.{range_with_len}
use Rattle.atomic_table.specs.Table.{State, Me}
use Rattle.nb_core.specs.Plans.{Plan}
use Rattle.nb_core.specs.Tables.{words_of}
use Rattle.nb_core.specs.Log.{IsBeginning}
use Rattle.nb_core.specs.History.{IsLegal, seat_of_event}
use Rattle.nb_core.specs.declared.events.Event.{Event}
use Rattle.nb_table.specs.declared.view.Part.{Part}
use Rattle.nb_table.specs.declared.view.View.{View}

-- a moment of a chain's table: its words, and what each token knows
abbrev pub Moment : Type 0
Moment = State (Unit {0}) View

-- the seat of this number has seen a beginning of the history, and made no event since
pub record HasSeen (history : List Event) (number : ℕ) (seen : List Event) : Type 0 where
  pub later : List Event
  pub is : history ≡ later ++ seen
  pub others : All (λ e. seat_of_event e ≢ number) later

-- the parts of all tokens, one for each seat
abbrev pub all_parts : List View → List Part
all_parts = flat_map (λ view. view.parts)

-- how many steps these seats have made in all
abbrev pub all_steps : List Part → ℕ
all_steps = sum_by (λ part. part.steps)

-- the parts of all seats at a moment, and how many steps had been made
abbrev pub parts_at : Moment → List Part
parts_at s = all_parts s.views

abbrev pub steps_at : Moment → ℕ
steps_at s = all_steps (parts_at s)

-- the part of a seat that has seen nothing
abbrev pub new_part : ℕ → Part
new_part number = record { number = number; seen = []; steps = 0; last_step = 0 }

-- those of so many such seats, numbered by their places
abbrev pub new_parts : ℕ → List Part
new_parts count = map new_part (range_with_len 0 count)

-- the first token knows all seats
abbrev pub first_view : ℕ → View
first_view seats = record { parts = new_parts seats; told = [] }

-- the first part alone
abbrev pub first_part : View → View
first_part v = record { parts = take 1 v.parts; told = [] }

-- all other parts, with what the token was told of
abbrev pub other_parts : View → View
other_parts v = record { parts = drop 1 v.parts; told = v.told }

-- what a note of a token tells: what its seats have seen, and what it was told of
abbrev pub noted : View → View
noted v = record { parts = []; told = map (λ part. part.seen) v.parts ++ v.told }

-- what two tokens know together
abbrev pub joined_views : View → View → View
joined_views v w = record { parts = v.parts ++ w.parts; told = v.told ++ w.told }

-- a token that knows nothing any more
abbrev pub spent_view : View
spent_view = record { parts = []; told = [] }

-- There is one legal history whose words these are. Each seat has seen a beginning of it, with all
-- its own events; what a token was told of is a beginning too. Some seat's last step is the last of
-- all, and this seat has seen all of the history. No two seats share a number, and none is lost.
pub record IsChained (p : Plan) (s : Moment) : Type 0 where
  pub history : List Event
  pub legal : IsLegal p history
  pub words : s.words ≡ words_of p history
  pub seen : All (λ part. HasSeen history part.number part.seen) (parts_at s)
  pub told : All (λ v. All (λ seen. IsBeginning seen history) v.told) s.views
  pub steps : All (λ part. part.last_step ≤ steps_at s) (parts_at s)
  pub last : (part : Part) × Contains (parts_at s) part × (part.last_step ≡ steps_at s)
      × (part.seen ≡ history)
  pub numbers : All (λ part. part.number < p.seats) (parts_at s)
  pub once : (n : ℕ) → n < p.seats → count_by (λ part. part.number == n) (parts_at s) ≡ 1
  pub count : length (parts_at s) ≡ p.seats

-- ---- steps

-- the seat's part after a step, the one of this number among all: it found the history grown by
-- others' events, and made these of its own
abbrev pub moved : Part → List Event → List Event → ℕ → Part
moved part others own step =
    record {
      number = part.number;
      seen = own ++ (others ++ part.seen);
      steps = part.steps + 1;
      last_step = step;
    }

-- What a step tells: others made events meanwhile, the word was as found after them, and these
-- events of the seat's follow. It is a later step than the seat's last one.
pub record HasMoved (p : Plan) (events : ℕ → List Event) (index found : ℕ) (part part' : Part) :
    Type 0 where
  pub others : List Event
  pub not_own : All (λ e. seat_of_event e ≢ part.number) others
  pub mine : All (λ e. seat_of_event e ≡ part.number) (events found)
  pub legal : IsLegal p (events found ++ (others ++ part.seen))
  pub word : slice_index (words_of p (others ++ part.seen)) index ≡ found
  pub step : ℕ
  pub later : part.last_step < step
  pub is : part' ≡ moved part others (events found) step

-- What a step by a token that knows one seat makes of what it knows: the seat's part has moved, and
-- the seat has seen all that the token was told of.
pub record Moves
    (p : Plan) (events : ℕ → List Event) (index : ℕ) (me : Me (Unit {0}) View) (found : ℕ)
    (me' : Me (Unit {0}) View)
    : Type 0 where
  pub after : Part
  pub is : me' ≡ (record { parts = after ∷ []; told = [] }, me.1)
  pub moves : (part : Part) → me.0.parts ≡ part ∷ [] → HasMoved p events index found part after
  pub heard : All (λ seen. IsBeginning seen after.seen) me.0.told
