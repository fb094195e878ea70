-- Shapes, as C asks for them.
use Rattle.std.specs.Prelude.{ℕ, ℤ, nat_le, if◌then◌else◌, List, take, Result, Ok, Err}
use Rattle.nb_core.specs.Plans.{Plan, checked_chunk, checked_reprobes, checked_seats, checked_stripes, checked_tables}
use Rattle.nb_core.specs.declared.shapes.ShapeFault.{ShapeFault}
use Rattle.nb_core.specs.declared.shapes.TheConstants.{MAX_GENERATIONS}
use Rattle.nb_ffi.specs.Checking.{and_then}
use Rattle.nb_ffi.specs.Codes.{shape_code}
use Rattle.nb_ffi.specs.declared.codes.TheConstants.{E_TABLES}
use Rattle.nb_ffi.specs.declared.map_shape.MapShape.{MapShape}

-- the plan of a shape with these exponents, or the first thing that is wrong with it
abbrev pub checked_tuned : List ℕ → MapShape → Result Plan ShapeFault
checked_tuned exponents shape =
    and_then (checked_tables exponents) (λ plan. and_then (checked_seats plan shape.seats) (λ seated.
    and_then (checked_stripes seated shape.stripes) (λ striped.
    and_then (checked_reprobes striped shape.reprobes) (λ limited.
    checked_chunk limited shape.chunk))))

-- the same, with the fault's code
abbrev pub in_codes : Result Plan ShapeFault → Result Plan ℤ
in_codes (Ok p) = Ok p
in_codes (Err fault) = Err (shape_code fault)

-- the plan of a shape, or the code of the first thing that is wrong with it
abbrev pub checked_map_shape : MapShape → Result Plan ℤ
checked_map_shape shape =
    if nat_le shape.tables MAX_GENERATIONS
    then in_codes (checked_tuned (take shape.tables shape.exponents) shape)
    else Err E_TABLES
