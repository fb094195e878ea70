-- How long a call works, with a limit on its tries or without one; and how short it is at home.
use Rattle.std.specs.Prelude.{ℕ, length, ◌+◌, min, ◌≡◌, ◌⊎◌, suc, ◌≤◌}
use Rattle.nb_core.specs.Calls.{Fills}
use Rattle.nb_core.specs.History.{key_of_call}
use Rattle.nb_core.specs.Meaning.{passed_over}
use Rattle.nb_core.specs.Plans.{Plan}
use Rattle.nb_core.specs.Tables.{Tables, path_slot, IsUnprimed, IsInstalled}
use Rattle.nb_core.specs.declared.calls.Call.{Call}
use Rattle.nb_core.specs.declared.states.KeyState.TheVariants.{Claimed, Empty}
use Rattle.nb_table.specs.Chains.{SeenBy, seen_by}
use Rattle.nb_map.specs.Maps.{MapOf, SeatOf, HasWorked}
use Rattle.nb_map.specs.Steps.{put_steps}

-- how many exchanges on the call's key other seats won, among what the seat has seen since `before`
abbrev pub passed_since : Call → (before after : SeenBy) → ℕ
passed_since call before after =
    passed_over after.seen (length before.seen) (key_of_call call) before.number

-- how many tries a write has: as many as it takes, or so many
pub data Limit : Type 0 where
  Unlimited : Limit
  Tries : ℕ → Limit

-- so many tries, or as many as the limit allows if these are fewer
abbrev pub within : Limit → ℕ → ℕ
within Unlimited n = n
within (Tries tries) n = min tries n

-- The call has made no more steps than a write may that has as many tries as others won exchanges
-- on its key, and one more: these are counted from the seat's last step before the call. So the
-- call is lock-free: its bound grows only with other writes of its key. If it has so many tries, it
-- is wait-free: it has made no more steps than these take, whatever other seats do.
abbrev pub IsNonBlocking : MapOf → Call → (before after : SeatOf) → Limit → Type 0
IsNonBlocking map call before after limit = HasWorked map call before after
    (put_steps map.chain.shape (within limit (passed_since call before.chain after.chain + 1)))

-- ---- at home

-- the key's home slot in the table is its own
abbrev pub IsHomeSlot : Plan → Tables → (g k : ℕ) → Type 0
IsHomeSlot p t g k = t.key g (path_slot p g k 0) ≡ Claimed k

-- the same, with a value that isn't primed, or the home slot is empty
abbrev pub IsAtHome : Plan → Tables → (g k : ℕ) → Type 0
IsAtHome p t g k = (t.key g (path_slot p g k 0) ≡ Empty)
    ⊎ (IsHomeSlot p t g k × IsUnprimed (t.value g (path_slot p g k 0)))

-- the seat has learned of no new top table, and has seen the key at home in the one that it knows
abbrev pub IsSeenAtHome : Plan → (before after : SeenBy) → ℕ → Type 0
IsSeenAtHome p before after k =
    ((seen_by p before).top ≡ (seen_by p after).top)
    × IsAtHome p (seen_by p after) (seen_by p after).top k

-- How short a read of a key is. It makes at most two steps, if the key is at home in the table that
-- the seat remembered. It makes at most five, if the key is at home in the top table, and the seat
-- learns of no new one.
pub record IsShortRead (p : Plan) (key : ℕ) (before after : SeenBy) : Type 0 where
  pub two_steps : IsAtHome p (seen_by p after) before.top key → after.steps ≤ before.steps + 2
  pub five_steps : IsSeenAtHome p before after key → after.steps ≤ before.steps + 5

-- the call's key is at home in the table after these steps, and others have won no exchange on it
-- meanwhile
pub record IsAloneAtHome (p : Plan) (g : ℕ) (call : Call) (before after : SeenBy) : Type 0 where
  pub home : IsAtHome p (seen_by p after) g (key_of_call call)
  pub alone : passed_since call before after ≡ 0

-- if the call puts a number at an absent key, the seat knows the home slot as the key's
pub record IsKnownHome (p : Plan) (g : ℕ) (call : Call) (seat : SeenBy) : Type 0 where
  pub known : Fills call → IsHomeSlot p (seen_by p seat) g (key_of_call call)

-- the seat knows of no table above
pub record IsLastSeen (p : Plan) (g : ℕ) (seat : SeenBy) : Type 0 where
  pub none_above : IsInstalled (seen_by p seat) (suc g) → ⊥

-- How short a write is that is alone with its key at home in the table that its seat remembers. It
-- makes at most three steps, if it puts no number at an absent key, or if the seat knew the home
-- slot as the key's. It makes at most five, if the seat knows of no table above.
pub record IsShortAtHome (p : Plan) (call : Call) (before after : SeenBy) : Type 0 where
  pub three_steps :
      IsAloneAtHome p before.top call before after → IsKnownHome p before.top call before
      → after.steps ≤ before.steps + 3
  pub five_steps :
      IsAloneAtHome p before.top call before after → IsLastSeen p before.top after
      → after.steps ≤ before.steps + 5
