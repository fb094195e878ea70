-- What is in a closed chain, and how it is seen.
use Rattle.std.specs.Prelude.{◌≡◌, List, [], ◌∷◌, length, nat_lt, if◌then◌else◌}
use Rattle.std.specs.Mem.Slots.{IsFull, slots_items, slots_len}
use Rattle.nb_core.specs.Plans.{word_count}
use Rattle.nb_core.specs.declared.events.Event.{Event}
use Rattle.nb_table.specs.Chains.{SeenBy}
use Rattle.nb_table.specs.Left.{ClosedOf, IsLeft}
use Rattle.nb_table.specs.declared.closed.Closed.TheInside as closed

-- the most that one of these seats has seen
abbrev pub most_seen : List SeenBy → List Event
most_seen [] = []
most_seen (seat ∷ seats) = let rest = most_seen seats in
    if nat_lt (length rest) (length seat.seen) then seat.seen else rest

-- Each seat has seen a beginning of the one history, and one of them all of it: so the most that a
-- seat has seen is the history.
abbrev pub closed_of : closed.Inside → ClosedOf
closed_of c = record {
  shape = c.shape;
  words = slots_items c.table.words;
  history = most_seen c.seats.value.items;
}

-- all words are there, and no slots; the history left the words
pub record IsClosed (c : closed.Inside) : Type 0 where
  pub full : IsFull c.table.words
  pub count : slots_len c.table.words ≡ word_count c.shape
  pub slots : slots_len c.table.slots ≡ 0
  pub left : IsLeft (closed_of c)
