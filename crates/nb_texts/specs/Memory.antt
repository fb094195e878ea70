-- How many bytes are kept of lines.
use Rattle.std.specs.Prelude.{◌≡◌, ◌+◌, ◌*◌, ◌/◌, ◌<◌, ◌≤◌, ℕ, Bool, true, false, None, Option, Some, IfSome, List, if◌then◌else◌, length, max, min, nat_le, sum_by}
use Rattle.nb_core.specs.Plans.{Plan, plan_for_keys, word_count}
use Rattle.nb_core.specs.declared.shapes.TheConstants.{MOST_KEYS}
use Rattle.nb_texts.specs.Lines.{lines_in}
use Rattle.nb_texts.specs.declared.catalog.Catalog.{Catalog}
use Rattle.nb_texts.specs.declared.catalog.TheConstants.{SEATS}
use Rattle.nb_texts.specs.declared.memory.Load.{Load}
use Rattle.nb_texts.specs.declared.memory.MemoryLimit.{MemoryLimit}
use Rattle.nb_texts.specs.declared.plan.TheConstants.{AHEAD, BYTES_OF_AHEAD, BYTES_OF_ROOM}

-- how many bytes are asked for at once: under a limit a part of it, one at least
abbrev pub ahead_under : Option MemoryLimit → ℕ
ahead_under None = AHEAD
ahead_under (Some limit) = max (min AHEAD (limit.bytes / BYTES_OF_AHEAD)) 1

-- for how many lines at most a map is made at first under a limit
abbrev pub room_at_first : MemoryLimit → ℕ
room_at_first limit = limit.bytes / BYTES_OF_ROOM

-- the lines of a text
abbrev pub load_of : List ℕ → Load
load_of text = record { lines = length (lines_in text); bytes = length text }

-- each line takes its own bytes, and so many more
abbrev pub bytes_of_load : (each : ℕ) → Load → ℕ
bytes_of_load each load = load.bytes + each * load.lines

abbrev pub bytes_of_texts : (each : ℕ) → List (List ℕ) → ℕ
bytes_of_texts each texts = sum_by length texts + each * length texts

-- the shape of a map with so much room
unfoldable pub shape_with_room : ℕ → Plan
shape_with_room room = plan_for_keys room SEATS

-- each word of a map takes 8 bytes
abbrev pub bytes_of_map : Plan → ℕ
bytes_of_map p = 8 * word_count p

-- how many more a map with so much room takes while it is made, beside one that has so many entries:
-- twice its own, and 16 for each entry
abbrev pub bytes_to_make : (room entries : ℕ) → ℕ
bytes_to_make room entries = 16 * (word_count (shape_with_room room) + entries)

-- how many a catalog takes
abbrev pub bytes_of_catalog : (each : ℕ) → Catalog → ℕ
bytes_of_catalog each catalog =
    bytes_of_texts each catalog.texts + bytes_of_map catalog.handle.map.chain.shape

-- how many it takes once a block is entered, if each line of it is new
abbrev pub bytes_with : (each : ℕ) → Catalog → Load → ℕ
bytes_with each catalog block = bytes_of_catalog each catalog + bytes_of_load each block

-- for how many lines the map needs room then
abbrev pub lines_with : Catalog → Load → ℕ
lines_with catalog block = min (length catalog.texts + block.lines) MOST_KEYS

-- what there is room for if a map is made anew: a quarter more lines
abbrev pub widened : ℕ → ℕ
widened lines = min (lines + lines / 4) MOST_KEYS

-- how many bytes it takes meanwhile, if the map is made anew where it has too little room
abbrev pub most_bytes_with : (each : ℕ) → Catalog → Load → ℕ
most_bytes_with each catalog block =
    bytes_with each catalog block
    + (if nat_le (lines_with catalog block) catalog.room then 0
    else bytes_to_make (widened (lines_with catalog block)) (length catalog.texts))

-- Whether a block fits within a limit: it does if a catalog keeps to the limit however many of the
-- lines are new, and if it doesn't, then the catalog might not meanwhile. Without a limit it does.
abbrev pub TellsWhetherFits : Option MemoryLimit → Catalog → Load → (fits : Bool) → Type 0
TellsWhetherFits None catalog block fits = fits ≡ true
TellsWhetherFits (Some limit) catalog block true = bytes_with limit.each catalog block ≤ limit.bytes
TellsWhetherFits (Some limit) catalog block false =
    limit.bytes < most_bytes_with limit.each catalog block

-- a catalog keeps to a limit, if there is one, once a line was taken
abbrev pub KeepsTo : Option MemoryLimit → (taken : ℕ) → Catalog → Type 0
KeepsTo limit taken catalog =
    IfSome limit (λ limit. 0 < taken → bytes_of_catalog limit.each catalog ≤ limit.bytes)
