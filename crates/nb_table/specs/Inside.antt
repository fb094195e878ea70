-- What is in a chain and its seats, and how it is seen.
use Rattle.std.specs.Prelude.{◌≡◌, ℕ, List, [], ◌∷◌}
use Rattle.atomic_table.specs.Seated.{TableId}
use Rattle.nb_core.specs.Plans.{IsPlan, word_count}
use Rattle.nb_table.specs.Chains.{ChainOf, SeenBy}
use Rattle.nb_table.specs.Views.{new_part}
use Rattle.nb_table.specs.declared.chain.Chain.TheInside as chain
use Rattle.nb_table.specs.declared.chain.ChainSeat.TheInside as seat
use Rattle.nb_table.specs.declared.view.Part.{Part}

-- the chain, as contracts see it
abbrev pub chain_of : chain.Inside → ChainOf
chain_of c = record { id = c.table.shared.table_id; shape = c.shape }

-- the table is the chain's, with all of its words
pub record IsChain (c : chain.Inside) : Type 0 where
  pub key : c.table.shared.key ≡ c.shape
  pub words : c.table.shared.table_id.words ≡ word_count c.shape
  pub slots : c.table.shared.table_id.slots ≡ 0
  pub plan : IsPlan c.shape

-- the one part of a seat's token, where it has one
abbrev pub part_of : List Part → Part
part_of [] = new_part 0
part_of (part ∷ parts) = part

-- a chain's seat that remembers this top table, and of which this part is known
abbrev pub seat_with : TableId → ℕ → Part → SeenBy
seat_with chain top part = record {
  chain = chain;
  number = part.number;
  seen = part.seen;
  steps = part.steps;
  top = top;
}

-- the same seat, where it remembers this top table
abbrev pub remembering : ℕ → SeenBy → SeenBy
remembering top seat = record seat { top = top }

-- or where it remembers nothing, as a new seat
abbrev pub forgotten : SeenBy → SeenBy
forgotten = remembering 0

-- the seat, as contracts see it
abbrev pub seat_of : seat.Inside → SeenBy
seat_of c = seat_with c.seat.table_id c.top (part_of c.seat.me.0.parts)

-- the token knows one seat
pub record IsSeat (c : seat.Inside) : Type 0 where
  pub one : c.seat.me.0.parts ≡ part_of c.seat.me.0.parts ∷ []
  pub free : c.seat.me.1 ≡ []
