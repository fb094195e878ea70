-- A walk that C has in a struct of its own.
use Rattle.std.specs.Prelude.{◌==◌, if◌then◌else◌}
use Rattle.nb_map.specs.Maps.{SeatOf}
use Rattle.nb_map.specs.Walks.{WalkOf, walk_from}
use Rattle.nb_map.specs.declared.map.walks.WalkPlace.{WalkPlace}
use Rattle.nb_map.specs.declared.steps.walk.Place.TheVariants.{End, Slot}
use Rattle.nb_ffi.specs.declared.cursor.Cursor.{Cursor}

-- where the cursor's walk is
abbrev pub place_in : Cursor → WalkPlace
place_in cursor = record {
  first = cursor.first;
  place = if cursor.is_over == 0 then Slot cursor.table cursor.slot else End;
}

-- the walk that this seat began, and that the cursor has
abbrev pub walk_in : SeatOf → Cursor → WalkOf
walk_in begun cursor = walk_from begun (place_in cursor)
