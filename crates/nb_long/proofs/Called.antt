-- Calls by a handle, one after another.
use Rattle.std.proofs.Common.{◌∙◌, subst, sym}
use Rattle.nb_map.specs.Handles.{HandleOf, KeepsRest}
use Rattle.nb_map.specs.Maps.{IsMine, MapOf, SeatOf}
use Rattle.nb_long.specs.Numbers.{HasCalled, IsSeated}

module _ {before now : HandleOf} (kept : KeepsRest before now) where
  -- a seat of the map that the handle was of is one of its map
  pub still-seated : IsMine before.map now.seat → IsSeated now
  still-seated mine = subst (λ m. IsMine m now.seat) (sym kept.map) mine

  -- and the other way round
  pub seated-before : IsSeated now → IsMine before.map now.seat
  seated-before mine = subst (λ m. IsMine m now.seat) kept.map mine

  module _ {Done : MapOf → SeatOf → SeatOf → Type 0} {after : HandleOf}
      (called : HasCalled Done now after) where
    -- the next call has done this to the same map
    pub next-done : Done before.map now.seat after.seat
    next-done = subst (λ m. Done m now.seat after.seat) kept.map called.done

    -- and has left the rest
    pub next-rest : KeepsRest before after
    next-rest = record {
      map = called.rest.map ∙ kept.map;
      reserve = called.rest.reserve ∙ kept.reserve;
    }
