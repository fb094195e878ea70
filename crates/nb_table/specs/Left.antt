-- What is left of a chain that is closed.
use Rattle.std.specs.Prelude.{◌≡◌, ℕ, List}
use Rattle.nb_core.specs.Plans.{IsPlan, Plan}
use Rattle.nb_core.specs.Tables.{Tables, tables_of, words_of}
use Rattle.nb_core.specs.History.{IsLegal}
use Rattle.nb_core.specs.declared.events.Event.{Event}

-- a closed chain: its shape, its words, and the history that left them, the newest event first
pub record ClosedOf : Type 0 where
  pub shape : Plan
  pub words : List ℕ
  pub history : List Event

-- the shape is a plan, and the history is legal, and left these words
pub record IsLeft (closed : ClosedOf) : Type 0 where
  pub plan : IsPlan closed.shape
  pub legal : IsLegal closed.shape closed.history
  pub is : closed.words ≡ words_of closed.shape closed.history

-- what the words say
abbrev pub tables_left : ClosedOf → Tables
tables_left closed = tables_of closed.shape closed.words
