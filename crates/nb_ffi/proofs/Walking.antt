-- A walk that a cursor has goes on.
use Rattle.std.proofs.Common.{◌≡◌, ℕ, Option, Some, refl, subst, subst₂, sym}
use Rattle.nb_map.specs.Handles.{HandleOf, KeepsRest}
use Rattle.nb_map.specs.Maps.{SeatOf}
use Rattle.nb_map.specs.Promises as of_map
use Rattle.nb_map.specs.Walks.{IsWalkOf, walk_from}
use Rattle.nb_map.specs.declared.map.walks.WalkPlace.{WalkPlace}
use Rattle.nb_ffi.specs.Cursors.{place_in}
use Rattle.nb_ffi.specs.Handles.{StaysOpen}
use Rattle.nb_ffi.specs.Promises.{HasWalkedOn}
use Rattle.nb_ffi.specs.declared.cursor.Cursor.{Cursor}

pub walked-on :
    (held : Option HandleOf) (old new : HandleOf) (cursor cursor' : Cursor) (at at' : WalkPlace)
    (shown : Option (ℕ × ℕ)) → held ≡ Some old → at ≡ place_in cursor → place_in cursor' ≡ at'
    → ((begun : SeatOf) → IsWalkOf old.map old.seat (walk_from begun at)
    → of_map.HasWalkedOn old.map old.seat new.seat (walk_from begun at) (walk_from begun at') shown)
    → KeepsRest old new → StaysOpen held (Some new) (HasWalkedOn cursor cursor' shown)
walked-on held old new cursor cursor' at at' shown was from to walked rest = record {
  old = old;
  new = new;
  was = was;
  is = refl;
  holds = λ begun is. record {
    promised = subst₂ (λ one other. of_map.HasWalkedOn old.map old.seat new.seat (walk_from begun one)
        (walk_from begun other) shown) from (sym to)
        (walked begun (subst (λ one. IsWalkOf old.map old.seat (walk_from begun one)) (sym from) is));
    rest = rest;
  };
}
