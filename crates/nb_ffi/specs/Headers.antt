-- What a program of C was compiled with.
use Rattle.std.specs.Prelude.{◌==◌, ◌&&◌, ℤ, Bool, nat_le, if◌then◌else◌, Result, Err}
use Rattle.nb_core.specs.Plans.{Plan}
use Rattle.nb_ffi.specs.Shapes.{checked_map_shape}
use Rattle.nb_ffi.specs.declared.codes.TheConstants.{E_VERSION}
use Rattle.nb_ffi.specs.declared.header.Header.{Header}
use Rattle.nb_ffi.specs.declared.header.TheConstants.{CURSOR_SIZE, ENTRY_SIZE, HANDLE_SIZE, OCCUPANCY_SIZE, OLDEST, REPLY_SIZE, SHAPE_SIZE, VERSION}
use Rattle.nb_ffi.specs.declared.map_shape.MapShape.{MapShape}

-- The library serves the header: it is of the library's series and not newer, and has structs of the
-- sizes that the library reads and writes. A handle or a cursor may be larger, since the library has
-- its first words alone.
abbrev pub is_ours : Header → Bool
is_ours header =
    nat_le OLDEST header.version && nat_le header.version VERSION
    && (header.shape == SHAPE_SIZE) && (header.reply == REPLY_SIZE)
    && (header.entry == ENTRY_SIZE) && (header.occupancy == OCCUPANCY_SIZE)
    && nat_le HANDLE_SIZE header.seat && nat_le HANDLE_SIZE header.ended
    && nat_le CURSOR_SIZE header.cursor

-- the plan of a shape that a program with this header asks for, or the code of the first thing that
-- is wrong: that of another header comes before all else
abbrev pub checked_with_header : Header → MapShape → Result Plan ℤ
checked_with_header header shape = if is_ours header then checked_map_shape shape else Err E_VERSION
