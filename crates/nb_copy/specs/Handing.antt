-- What it takes to copy slots, chunks and whole tables.
use Rattle.std.specs.Prelude.{◌≡◌, ℕ, suc, ◌+◌, ◌-◌, ◌*◌, ◌/◌, ◌<◌, ◌≤◌, ◌==◌, ◌&&◌, if◌then◌else◌, List, [], ◌∷◌, ◌++◌, length, All}
use Rattle.nb_core.specs.Plans.{Plan, size_of}
use Rattle.nb_core.specs.Tables.{IsComplete, IsFinished, chunk_of, tables_at}
use Rattle.nb_core.specs.declared.events.Event.{Event}
use Rattle.nb_core.specs.declared.events.Event.TheVariants.{Count, Take}
use Rattle.nb_copy.specs.declared.tables.TheConstants.{LOOK}
use Rattle.nb_table.specs.Chains.{SeenBy, seen_by}
use Rattle.nb_copy.specs.Copying.{HasCopied}

-- ---- bounds of steps

-- the most steps for one slot of table g: the search for its key's slot in the next table makes two
-- for each slot there
abbrev pub slot_steps : Plan → ℕ → ℕ
slot_steps p g = 2 * size_of p (suc g) + 6

-- for a chunk, which is taken and counted
abbrev pub chunk_steps : Plan → ℕ → ℕ
chunk_steps p g = chunk_of p g * slot_steps p g + 3

-- how often a copier looks at the top word on its way through so many slots
abbrev pub looks_of : ℕ → ℕ
looks_of n = (n + (LOOK - 1)) / LOOK

-- for so many slots, which are gone through one by one
abbrev pub walk_steps : Plan → (g n : ℕ) → ℕ
walk_steps p g n = n * (slot_steps p g + 2) + looks_of n

-- and for a table, whose slots are gone through in chunks and then one by one
abbrev pub table_steps : Plan → ℕ → ℕ
table_steps p g = size_of p g * (2 * slot_steps p g + 3) + 1

-- ---- what was done

-- where the seat's counting has brought the count to the size of the table, the top word is past
-- the table
abbrev pub IsRaised : Plan → ℕ → SeenBy → Type 0
IsRaised p g seat = (seen_by p seat).counted g ≡ size_of p g → g < (seen_by p seat).top

-- the adds by which a seat counted slots of a table: how many each counted, the newest first
abbrev pub adds_of : List Event → (s g : ℕ) → List ℕ
adds_of [] s g = []
adds_of (Count s' g' c ∷ h) s g =
    if s' == s && g' == g then c ∷ adds_of h s g else adds_of h s g
adds_of (_ ∷ h) s g = adds_of h s g

-- the slot is one of the chunk that is handed out where the take word stands at this
abbrev pub IsHanded : Plan → (g start i : ℕ) → Type 0
IsHanded p g start i = (start ≤ i) × (i < start + chunk_of p g) × (i < size_of p g)

-- The seat asked for one chunk, and was handed the one from where the table's take word stood: all
-- slots of it are finished. Its steps turned so many slots finished, all of them in this chunk, and
-- it counted just these, in one add; where it turned none, in no add. Where no slot was left to
-- hand out, it made one step and turned none.
pub record HasHelped (p : Plan) (g : ℕ) (before after : SeenBy) (turned : ℕ) : Type 0 where
  pub slots : List ℕ
  pub number : length slots ≡ turned
  pub copied : HasCopied p g before after slots 1 turned (chunk_steps p g)
  pub since : List Event
  pub others : List Event
  pub asked : after.seen ≡ since ++ (Take before.number g ∷ (others ++ before.seen))
  pub start : ℕ
  pub stood : (tables_at p (others ++ before.seen)).taken g ≡ start
  pub finished : (i : ℕ) → IsHanded p g start i → IsFinished (seen_by p after) g i
  pub handed : All (IsHanded p g start) slots
  pub counted_once : adds_of after.seen before.number g
      ≡ (if turned == 0 then [] else turned ∷ []) ++ adds_of before.seen before.number g
  pub idle : size_of p g ≤ start → (turned ≡ 0) × (after.steps ≡ before.steps + 1)
  pub raised : 1 ≤ turned → IsRaised p g after

-- The seat copied the table: all its slots are finished, and the top word is past it. The seat
-- asked for no more chunks than the table has, and counted just the slots that its own steps turned
-- finished.
pub record HasCompleted (p : Plan) (g : ℕ) (before after : SeenBy) : Type 0 where
  pub slots : List ℕ
  pub chunks : ℕ
  pub few : chunks ≤ size_of p g / chunk_of p g
  pub copied : HasCopied p g before after slots chunks (length slots) (table_steps p g)
  pub complete : IsComplete p (seen_by p after) g
  pub raised : g < (seen_by p after).top
