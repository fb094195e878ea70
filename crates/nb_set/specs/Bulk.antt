-- Calls over many keys at once: walks that show each key to a function, those that take out what
-- the function refuses, and adds of many keys.
--
-- A function that may change as it is called is told by its steps: `Step f k keep g` says that a
-- call of `f` at the key `k` may answer `keep`, whether the key is to stay, and leave the function
-- as `g`.
use Rattle.std.specs.Prelude.{◌≡◌, ◌≤◌, ◌+◌, ℕ, Bool, true, false, List, [], ◌∷◌, ◌++◌, length, sum_by, Some, None, Result, Ok, Err}
use Rattle.nb_map.specs.Bulk.{whole_walk_steps}
use Rattle.nb_map.specs.Progress.{passed_since}
use Rattle.nb_map.specs.Steps.{put_steps}
use Rattle.nb_map.specs.declared.faults.FullAfter.{FullAfter}
use Rattle.nb_map.specs.declared.faults.Full.{Full}
use Rattle.nb_set.specs.Log.{Add, Call, Contains, Remove}
use Rattle.nb_set.specs.OfMap.{call_for}
use Rattle.nb_set.specs.Promises.{HasBegunWalk, HasWalkedOn, HasWritten}
use Rattle.nb_set.specs.Sets.{IsMine, SeatOf, SetOf, shape_of, steps_of}
use Rattle.nb_set.specs.Walks.{HasShownAll, IsLater, WalkOf}

-- ---- walks that show their keys to a function

-- The seat has begun a walk and taken it on, and made no other call except removals. It has
-- made these calls, the newest first; the walk has shown these keys, the newest first; and the
-- function is left as one call at each of them left it. Where the function said that the key is to
-- stay, no call was made for it except the walk's own; else just one, which removes it. Each call
-- has all that the set promises of it.
pub data HasSwept {F : Type 0} (set : SetOf) (Step : F → (k : ℕ) → Bool → F → Type 0)
    (before : SeatOf) (first : F) :
    SeatOf → WalkOf → List (Call × Bool) → List ℕ → F → Type 0 where
  Begun :
      {now : SeatOf} {walk : WalkOf} → HasBegunWalk set before now walk
      → HasSwept set Step before first now walk [] [] first
  Kept :
      {now after : SeatOf} {walk walk' : WalkOf} {calls : List (Call × Bool)} {shown : List ℕ}
      {f : F}
      → HasSwept set Step before first now walk calls shown f → (k : ℕ) (g : F)
      → (on : HasWalkedOn set now after walk walk' (Some k)) → Step f k true g
      → HasSwept set Step before first after walk'
      ((Contains k, true) ∷ (on.asked.misses ++ calls)) (k ∷ shown) g
  Unwanted :
      {now then after : SeatOf} {walk walk' : WalkOf} {calls : List (Call × Bool)}
      {shown : List ℕ} {f : F}
      → HasSwept set Step before first now walk calls shown f → (k : ℕ) (g : F)
      → (on : HasWalkedOn set now then walk walk' (Some k)) → Step f k false g
      → (went : Bool) → HasWritten set (Remove k) then after (Ok went)
      → HasSwept set Step before first after walk'
      ((Remove k, went) ∷ (Contains k, true) ∷ (on.asked.misses ++ calls)) (k ∷ shown) g

-- the steps of a function that is only shown the keys: all of them stay
abbrev pub Keeps :
    {F : Type 0} → (F → (k : ℕ) → Unit {0} → F → Type 0) → F → (k : ℕ) → Bool → F → Type 0
Keeps Step f k keep g = (keep ≡ true) × Step f k tt g

-- the steps of a function that lets no key stay
abbrev pub KeepsNone : Unit {0} → (k : ℕ) → Bool → Unit {0} → Type 0
KeepsNone f k keep g = keep ≡ false

-- ---- their steps

-- the most steps of such a call, besides those of the walk: none of a `contains`; and of a removal
-- those of a write with as many tries as others have won exchanges on its key meanwhile, and one
-- more
abbrev pub removal_steps : SetOf → (before after : SeatOf) → Call → ℕ
removal_steps set before after (Add k) = 0
removal_steps set before after (Remove k) =
    let passed = passed_since (call_for (Remove k)) before.chain after.chain in
    put_steps (shape_of set) (passed + 1)
removal_steps set before after (Contains k) = 0

-- and of all these calls together, with those of a whole walk
abbrev pub sweep_steps : SetOf → (before after : SeatOf) → List (Call × Bool) → ℕ
sweep_steps set before after calls =
    whole_walk_steps (shape_of set)
    + sum_by (λ (made : Call × Bool). removal_steps set before after made.0) calls

-- ---- what they promise

-- what a walk promises that shows each key to a function, and takes out what this refuses
pub record HasSweptAll {F : Type 0} (set : SetOf) (Step : F → (k : ℕ) → Bool → F → Type 0) (f : F)
    (before after : SeatOf) : Type 0 where
  -- the walk went to its end, and these keys were shown, each in one call of the function
  pub then : SeatOf
  pub walk : WalkOf
  pub calls : List (Call × Bool)
  pub shown : List ℕ
  pub function : F
  pub swept : HasSwept set Step before f then walk calls shown function
  pub end : WalkOf
  pub ended : HasWalkedOn set then after walk end None
  -- no key twice, and each that the set had all the while
  pub all : HasShownAll before after shown
  -- its calls in the log were just those
  pub made : all.made ≡ ended.asked.misses ++ calls
  -- together they took at most the steps of a walk and of the removals
  pub short : steps_of after ≤ steps_of before + sweep_steps set before after all.made
  -- the seat has forgotten nothing, so its other walks go on, and is still the set's
  pub later : IsLater before after
  pub own : IsMine set after

-- ---- adds of many keys

-- The seat has added these keys in their order, by one `add` after another, each with all that an
-- `add` promises.
pub data HasAddedAll (set : SetOf) (before : SeatOf) : List ℕ → SeatOf → Type 0 where
  Never : HasAddedAll set before [] before
  Again :
      {keys : List ℕ} {then after : SeatOf} → HasAddedAll set before keys then
      → (key : ℕ) (came : Bool) → HasWritten set (Add key) then after (Ok came)
      → HasAddedAll set before (keys ++ (key ∷ [])) after

-- What `extend` promises: it has added all the keys. Or it has added the first ones, and says how
-- many, and the `add` of the next one is refused.
abbrev pub HasExtended :
    SetOf → List ℕ → (before after : SeatOf) → Result (Unit {0}) FullAfter → Type 0
HasExtended set keys before after (Ok done) = HasAddedAll set before keys after
HasExtended set keys before after (Err full) =
    (first rest : List ℕ) × (next : ℕ) × (then : SeatOf) × (fault : Full)
    × (keys ≡ first ++ (next ∷ rest)) × (length first ≡ full.put)
    × HasAddedAll set before first then
    × HasWritten set (Add next) then after (Err fault)
