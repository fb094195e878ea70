-- One token with the parts of all seats sees the whole history.
use Rattle.std.specs.Prelude.{◌≡◌, ℕ, ◌+◌, ◌<◌, ◌==◌, List, [], map, All, count_by}
use Rattle.atomic_table.specs.Table.{Me}
use Rattle.nb_core.specs.Plans.{Plan}
use Rattle.nb_core.specs.Tables.{tables_at}
use Rattle.nb_core.specs.History.{IsLegal}
use Rattle.nb_core.specs.declared.events.Event.{Event}
use Rattle.nb_table.specs.Chains.{SeenBy}
use Rattle.nb_table.specs.Settling.{caught_up}
use Rattle.nb_table.specs.Views.{HasSeen}
use Rattle.nb_table.specs.declared.view.Part.{Part}
use Rattle.nb_table.specs.declared.view.View.{View}

-- the part of a seat, when it has seen this history
abbrev pub with_seen : List Event → Part → Part
with_seen history part = record part { seen = history }

-- a token with these parts, which was told of nothing
abbrev pub knowing : List Part → Me (Unit {0}) View
knowing parts = (record { parts = parts; told = [] }, [])

-- The seats in a vector and those whose parts a token has are all seats. Each of them has seen the
-- one history now, with this top, which goes on from what it had seen by events of others alone.
pub record HaveSettled
    (p : Plan) (before after : List SeenBy) (me me' : Me (Unit {0}) View) (found : ℕ) : Type 0 where
  pub history : List Event
  pub legal : IsLegal p history
  pub top : (tables_at p history).top ≡ found
  pub seen : All (λ seat. HasSeen history seat.number seat.seen) before
  pub heard : All (λ part. HasSeen history part.number part.seen) me.0.parts
  pub once :
      (n : ℕ) → n < p.seats
      → count_by (λ seat. seat.number == n) before + count_by (λ part. part.number == n) me.0.parts
      ≡ 1
  pub are : after ≡ map (caught_up p history) before
  pub is : me' ≡ knowing (map (with_seen history) me.0.parts)

-- a load of the top word by a token with the parts of all seats
abbrev pub Settles : Plan → Me (Unit {0}) View → ℕ → Me (Unit {0}) View → Type 0
Settles p me found me' = HaveSettled p [] [] me me' found
