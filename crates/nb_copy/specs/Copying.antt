-- What a copier does.
use Rattle.std.specs.Prelude.{◌≡◌, ℕ, suc, ◌+◌, ◌≤◌, Bool, true, false, List, ◌++◌, length, filter, All}
use Rattle.nb_core.specs.Plans.{Plan}
use Rattle.nb_core.specs.Tables.{HasSlot, Tables}
use Rattle.nb_core.specs.History.{counted_by, slots_turned}
use Rattle.nb_core.specs.declared.events.Event.{Event}
use Rattle.nb_core.specs.declared.events.Event.TheVariants.{Claim, Kill, Won, CopyIn, Prime, Finish, Install, Take, Count, Promote, Read}
use Rattle.nb_table.specs.Chains.{Grown, SeenBy, seen_by}

-- The event is one of copying table g: it is no call's and installs nothing, and a claim is of a
-- key of table g in the next one.
abbrev pub IsCopying : Plan → Tables → (g : ℕ) → Event → Type 0
IsCopying p t g (Claim s f i k) = (f ≡ suc g) × HasSlot p t g k
IsCopying p t g (Kill s f i) = f ≡ g
IsCopying p t g (Won s f i a b c r) = ⊥
IsCopying p t g (CopyIn s f i k n) = f ≡ suc g
IsCopying p t g (Prime s f i) = f ≡ g
IsCopying p t g (Finish s f i) = f ≡ g
IsCopying p t g (Install s f k) = ⊥
IsCopying p t g (Take s f) = f ≡ g
IsCopying p t g (Count s f c) = f ≡ g
IsCopying p t g (Promote s f) = f ≡ g
IsCopying p t g (Read s c r) = ⊥

-- the event asks for a chunk
abbrev pub is_take : Event → Bool
is_take (Take s f) = true
is_take _ = false

-- The seat copied: all its own new events are of copying table g, in at most so many steps. They
-- turned these slots of the table finished, the newest first, asked for so many chunks, and counted
-- so many slots.
pub record HasCopied (p : Plan) (g : ℕ) (before after : SeenBy) (slots : List ℕ)
    (chunks adding most : ℕ) : Type 0 where
  pub own : List Event
  pub count : ℕ
  pub grown : Grown p before after own count
  pub copying : All (IsCopying p (seen_by p after) g) own
  pub turned : slots_turned p after.seen before.number g
      ≡ slots ++ slots_turned p before.seen before.number g
  pub taken : length (filter is_take own) ≡ chunks
  pub counted : counted_by after.seen before.number g ≡ counted_by before.seen before.number g
      + adding
  pub few : count ≤ most
