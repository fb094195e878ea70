-- How full a table is, by a sample of its slots.
use Rattle.std.specs.Prelude.{◌≡◌, ℕ, zero, suc, ◌+◌, ◌*◌, ◌/◌, ◌%◌, ◌<◌, ◌≤◌, ◌==◌, min, Bool, true, false, if◌then◌else◌, []}
use Rattle.nb_core.specs.Plans.{Plan, generations_of, size_of}
use Rattle.nb_core.specs.Tables.{Tables}
use Rattle.nb_core.specs.declared.states.KeyState.{KeyState}
use Rattle.nb_core.specs.declared.states.KeyState.TheVariants.{Empty, Dead, Claimed}
use Rattle.nb_table.specs.Chains.{Grown, seen_by}
use Rattle.nb_map.specs.Logs.{HasLogged}
use Rattle.nb_map.specs.Maps.{IsMine, MapOf, SeatOf}
use Rattle.nb_map.specs.Promises.{HasSeenTop}
use Rattle.nb_map.specs.declared.occupancy.Occupancy.{Occupancy}
use Rattle.nb_map.specs.declared.occupancy.TheConstants.{SAMPLE, SPREAD}

-- whether the slot is taken: it has a key, or is closed to keys
abbrev pub is_taken : KeyState → Bool
is_taken Empty = false
is_taken Dead = true
is_taken (Claimed k) = true

-- how many slots of a table are looked at: a sample, or all of a smaller table
abbrev pub sample_size : Plan → ℕ → ℕ
sample_size p g = min (size_of p g) SAMPLE

-- the table is parted into as many blocks of this size
abbrev pub block_size : Plan → ℕ → ℕ
block_size p g = size_of p g / sample_size p g

-- One slot of each block is looked at. Its place there changes from block to block, so that keys
-- which are alike in their low bits don't all have such slots, or none.
abbrev pub sampled : Plan → (g j : ℕ) → ℕ
sampled p g j = j * block_size p g + (j * SPREAD) % block_size p g

-- how many of the slots that are looked at in the first n blocks are taken
abbrev pub taken_among : Plan → Tables → (g n : ℕ) → ℕ
taken_among p t g zero = 0
taken_among p t g (suc n) =
    (if is_taken (t.key g (sampled p g n)) then 1 else 0) + taken_among p t g n

-- how many of all slots that are looked at are taken
abbrev pub taken_in : Plan → Tables → ℕ → ℕ
taken_in p t g = taken_among p t g (sample_size p g)

-- what a look at how full the map is promises
pub record HasSampled (map : MapOf) (before after : SeatOf) (found : Occupancy) : Type 0 where
  -- its first step shows which table is the top one: it is the one that is looked at
  pub begun : SeatOf
  pub top : HasSeenTop map before begun found.table
  pub is_last : found.is_last ≡ (suc found.table == generations_of map.chain.shape)
  -- then it makes one step for each slot that it looks at
  pub looked : found.looked ≡ sample_size map.chain.shape found.table
  pub grown : Grown map.chain.shape begun.chain after.chain [] found.looked
  -- each of these slots that was taken before is counted
  pub least :
      taken_in map.chain.shape (seen_by map.chain.shape begun.chain) found.table ≤ found.taken
  -- and each that is counted is taken
  pub most :
      found.taken ≤ taken_in map.chain.shape (seen_by map.chain.shape after.chain) found.table
  -- it is no call of the log, and makes no step on the counter
  pub logged : HasLogged before after []
  pub count : after.count ≡ before.count
  pub own : IsMine map after

-- The slots that are looked at are slots of the table, each in a block of its own.
abbrev pub SampleIsSpread : Type 0
SampleIsSpread =
    (p : Plan) (g j : ℕ) → j < sample_size p g
    → (j * block_size p g ≤ sampled p g j) × (sampled p g j < j * block_size p g + block_size p g)
    × (sampled p g j < size_of p g)
