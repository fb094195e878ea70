-- How contracts see room for seats.
use Rattle.std.specs.Prelude.{ℕ}
use Rattle.nb_core.specs.declared.seat_room.Kept.{Kept}
use Rattle.nb_core.specs.declared.seat_room.Kept.TheVariants as kept
use Rattle.nb_core.specs.declared.shapes.TheConstants.{FEW_SEATS, MAX_SEATS}

-- for how many it has room
abbrev pub room_in : {T : Type 0} → Kept T → ℕ
room_in (kept.Few lock) = FEW_SEATS
room_in (kept.Many lock) = MAX_SEATS
