-- A catalog: texts, and a map in which each is found by its hash.
use Rattle.std.specs.Prelude.{◌≡◌, ◌≤◌, ◌⊎◌, All}
use Rattle.nb_core.specs.Plans.{HasRoomFor}
use Rattle.nb_core.specs.declared.shapes.TheConstants.{MOST_KEYS}
use Rattle.nb_lines.specs.declared.faults.ProgramFault.TheVariants as fault
use Rattle.nb_lines.specs.declared.faults.ProgramFault.{ProgramFault}
use Rattle.nb_map.specs.Handles.{HandleOf, IsWhole, seats_of}
use Rattle.nb_map.specs.Logs.{log}
use Rattle.nb_map.specs.OneSeat.{held}
use Rattle.nb_texts.specs.Claims.{ClaimsOnly}
use Rattle.nb_texts.specs.Entering.{IsIndex}
use Rattle.nb_texts.specs.Hashes.{key_for}
use Rattle.nb_texts.specs.Memory.{shape_with_room}
use Rattle.nb_texts.specs.declared.catalog.Catalog.{Catalog}

-- all seats of the handle know one and the same log
abbrev pub HaveOneLog : HandleOf → Type 0
HaveOneLog handle = All (λ seat. log seat ≡ log handle.seat) handle.reserve

-- they have claimed slots for the keys alone that its map has
abbrev pub HaveClaimed : HandleOf → Type 0
HaveClaimed handle =
    All (ClaimsOnly handle.map.chain.shape (held handle.seat)) (seats_of handle)

-- It has all seats of its map, and nobody works with it. The map is an index of its texts, has slots
-- for these alone, and was made for so many, for which it has room.
pub record IsAtRest (catalog : Catalog) : Type 0 where
  pub whole : IsWhole catalog.handle
  pub logs : HaveOneLog catalog.handle
  pub index : IsIndex (key_for catalog.hashing) catalog.texts (held catalog.handle.seat)
  pub claims : HaveClaimed catalog.handle
  pub made : catalog.handle.map.chain.shape ≡ shape_with_room catalog.room
  pub room : HasRoomFor catalog.handle.map.chain.shape catalog.room
  pub most : catalog.room ≤ MOST_KEYS

-- the fault is that memory was refused, or lines found no room
abbrev pub IsNoRoom : ProgramFault → Type 0
IsNoRoom told = (told ≡ fault.OutOfMemory) ⊎ (told ≡ fault.FullOfLines)
