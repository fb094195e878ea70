-- Calls over many keys at once: walks that show each entry to a function, those that take out what
-- the function refuses, puts of many entries, and reads of many keys.
--
-- As in `Updating`, a function that may change as it is called is told by its steps: `Step f k n
-- keep g` says that a call of `f` at the key `k` with its number `n` may answer `keep`, whether the
-- entry is to stay, and leave the function as `g`.
use Rattle.std.specs.Prelude.{◌≡◌, ℕ, ◌+◌, ◌*◌, ◌≤◌, ◌+ℤ◌, Bool, true, false, List, [], ◌∷◌, ◌++◌, length, count_by, sum_by, Some, None, Option, Result, Ok, Err}
use Rattle.nb_core.specs.Log.{reply_at}
use Rattle.nb_core.specs.Meaning.{net_of}
use Rattle.nb_core.specs.Plans.{Plan, generations_of}
use Rattle.nb_core.specs.declared.calls.Call.TheVariants.{Get, Write}
use Rattle.nb_core.specs.declared.calls.Call.{Call}
use Rattle.nb_core.specs.declared.calls.Reply.{Reply}
use Rattle.nb_count.specs.Counts.{CountSeatOf}
use Rattle.nb_table.specs.Chains.{Grown, SeenBy}
use Rattle.nb_map.specs.Calling.{HasMadeSome}
use Rattle.nb_map.specs.Logs.{HasLogged}
use Rattle.nb_map.specs.Maps.{MapOf, SeatOf, HasWorked, IsMine}
use Rattle.nb_map.specs.NamedCalls.{put_of, remove_if_of}
use Rattle.nb_map.specs.Progress.{Unlimited, passed_since}
use Rattle.nb_map.specs.Promises.{HasGot, HasWritten, Found, Refused}
use Rattle.nb_map.specs.Steps.{get_steps, put_steps, slots_below}
use Rattle.nb_map.specs.Walks.{HasShownAll}
use Rattle.nb_map.specs.declared.faults.FullAfter.{FullAfter}
use Rattle.nb_map.specs.declared.faults.PutFault.TheVariants as fault

-- ---- what a walk calls that shows its entries to a function

-- the read of a key that found this number, or none
abbrev pub read_as : (key : ℕ) → Option ℕ → Call × Reply
read_as key number = (Get key, reply_at (Get key) number)

-- The calls of such a walk, the newest first; the entries that it has shown, the newest first; and
-- the function, as it was left by one call at each of them. It has read keys, and shown each entry
-- that a read found. Where the function said that the entry is to stay, nothing else was called for
-- it; else just one call after the read, which takes out the key if it still has the number that
-- was shown.
pub data HasSwept {F : Type 0} (Step : F → (k n : ℕ) → Bool → F → Type 0) (first : F) :
    List (Call × Reply) → List (ℕ × ℕ) → F → Type 0 where
  Begun : HasSwept Step first [] [] first
  Missed :
      {calls : List (Call × Reply)} {shown : List (ℕ × ℕ)} {f : F}
      → HasSwept Step first calls shown f → (k : ℕ)
      → HasSwept Step first (read_as k None ∷ calls) shown f
  Kept :
      {calls : List (Call × Reply)} {shown : List (ℕ × ℕ)} {f : F}
      → HasSwept Step first calls shown f → (k n : ℕ) (g : F) → Step f k n true g
      → HasSwept Step first (read_as k (Some n) ∷ calls) ((k, n) ∷ shown) g
  Unwanted :
      {calls : List (Call × Reply)} {shown : List (ℕ × ℕ)} {f : F}
      → HasSwept Step first calls shown f → (k n : ℕ) (g : F) → Step f k n false g
      → (reply : Reply)
      → HasSwept Step first ((remove_if_of k n, reply) ∷ read_as k (Some n) ∷ calls)
      ((k, n) ∷ shown) g

-- the steps of a function that is only shown the entries: all of them stay
abbrev pub Keeps :
    {F : Type 0} → (F → (k n : ℕ) → Unit {0} → F → Type 0) → F → (k n : ℕ) → Bool → F → Type 0
Keeps Step f k n keep g = (keep ≡ true) × Step f k n tt g

-- the steps of a function that lets no entry stay
abbrev pub KeepsNone : Unit {0} → (k n : ℕ) → Bool → Unit {0} → Type 0
KeepsNone f k n keep g = keep ≡ false

-- ---- their steps

-- the most steps of a whole walk, with T slots in all tables and B the bound of a read: a load of
-- the top word, and T (T + B + 4)
abbrev pub whole_walk_steps : Plan → ℕ
whole_walk_steps p =
    let slots = slots_below p (generations_of p) in 1 + slots * (slots + get_steps p + 4)

-- the most steps of such a call, besides those of the walk: none of a read; and of a removal those
-- of a write with as many tries as others have won exchanges on its key meanwhile, and one more
abbrev pub removal_steps : Plan → (before after : SeenBy) → Call → ℕ
removal_steps p before after (Get k) = 0
removal_steps p before after (Write k want change) =
    put_steps p (passed_since (Get k) before after + 1)

-- and of all these calls together
abbrev pub sweep_steps : Plan → (before after : SeenBy) → List (Call × Reply) → ℕ
sweep_steps p before after calls =
    whole_walk_steps p + sum_by (λ (made : Call × Reply). removal_steps p before after made.0) calls

-- whether the call is a write whose condition held
abbrev pub has_changed : Call × Reply → Bool
has_changed (Get k, reply) = false
has_changed (Write k want change, reply) = reply.matched

-- the counter's seat after these calls, where each such write makes one step on it
abbrev pub counted_after : List (Call × Reply) → CountSeatOf → CountSeatOf
counted_after calls count = record count {
  added = count.added +ℤ net_of calls;
  adds = count.adds + count_by has_changed calls;
  steps = count.steps + count_by has_changed calls;
}

-- ---- what they promise

-- what a walk promises that shows each entry to a function, and takes out what this refuses
pub record HasSweptAll {F : Type 0} (m : MapOf) (Step : F → (k n : ℕ) → Bool → F → Type 0) (f : F)
    (before after : SeatOf) : Type 0 where
  -- these entries were shown: no key twice, and each key that the map had all the while
  pub shown : List (ℕ × ℕ)
  pub all : HasShownAll before after shown
  -- each in one call of the function, and its calls in the log were just those
  pub function : F
  pub swept : HasSwept Step f all.made shown function
  -- all that its steps did to the tables a read may do, of any key: it installs no table, and
  -- claims a slot only for a key that has one in the table below
  pub steps :
      (key : ℕ) → HasMadeSome m.chain.shape (Get key) before.chain after.chain
      (sweep_steps m.chain.shape before.chain after.chain all.made)
  -- on the counter it made one step for each key that it took out
  pub count : after.count ≡ counted_after all.made before.count
  -- the seat is still the map's
  pub own : IsMine m after

-- ---- puts of many entries

-- the put of an entry
abbrev pub put_entry : ℕ × ℕ → Call
put_entry entry = put_of entry.0 entry.1

-- The seat has put these entries in their order, by one put after another, each with all that a put
-- promises.
pub data HasPutAll (m : MapOf) (before : SeatOf) : List (ℕ × ℕ) → SeatOf → Type 0 where
  Never : HasPutAll m before [] before
  Again :
      {entries : List (ℕ × ℕ)} {then after : SeatOf} → HasPutAll m before entries then
      → (entry : ℕ × ℕ) (found : Option ℕ)
      → HasWritten m (put_entry entry) then after Unlimited (Found found)
      → HasPutAll m before (entries ++ (entry ∷ [])) after

-- What `extend` promises: it has put all the entries. Or it has put the first ones, and says how
-- many, and the put of the next one is refused.
abbrev pub HasExtended :
    MapOf → List (ℕ × ℕ) → (before after : SeatOf) → Result (Unit {0}) FullAfter → Type 0
HasExtended m entries before after (Ok done) = HasPutAll m before entries after
HasExtended m entries before after (Err full) =
    (first rest : List (ℕ × ℕ)) × (next : ℕ × ℕ) × (then : SeatOf)
    × (entries ≡ first ++ (next ∷ rest)) × (length first ≡ full.put)
    × HasPutAll m before first then
    × HasWritten m (put_entry next) then after Unlimited (Refused fault.Full)

-- ---- reads of many keys

-- The seat has read these keys in their order and found these numbers, or none, by one get after
-- another, each with all that a get promises. Beside them it has made so many looks: steps that
-- leave no event.
pub data HasGotAll (m : MapOf) (before : SeatOf) :
    List ℕ → List (Option ℕ) → (looks : ℕ) → SeatOf → Type 0 where
  Start : HasGotAll m before [] [] 0 before
  Looked :
      {keys : List ℕ} {found : List (Option ℕ)} {looks : ℕ} {then after : SeatOf}
      → HasGotAll m before keys found looks then → (more : ℕ)
      → Grown m.chain.shape then.chain after.chain [] more → after.count ≡ then.count
      → HasGotAll m before keys found (looks + more) after
  Got :
      {keys : List ℕ} {found : List (Option ℕ)} {looks : ℕ} {then after : SeatOf}
      → HasGotAll m before keys found looks then → (key : ℕ) (number : Option ℕ)
      → HasGot m key then after number
      → HasGotAll m before (keys ++ (key ∷ [])) (found ++ (number ∷ [])) looks after

-- the reads of these keys that found these numbers, or none, the newest first
abbrev pub reads_of : List ℕ → List (Option ℕ) → List (Call × Reply)
reads_of (key ∷ keys) (number ∷ found) = reads_of keys found ++ (read_as key number ∷ [])
reads_of _ _ = []

-- what a read of these keys promises, which finds these numbers, or none
pub record HasGotMany (m : MapOf) (keys : List ℕ) (before after : SeatOf)
    (found : List (Option ℕ)) : Type 0 where
  -- each key is read once, in the order of the keys, with all that a get promises
  pub looks : ℕ
  pub got : HasGotAll m before keys found looks after
  -- and the looks are no more than the keys
  pub few : looks ≤ length keys
  -- so the log goes on by these reads, each with its reply
  pub replied : HasLogged before after (reads_of keys found)
  -- it is wait-free: for each key it makes no more steps than a get may, and one
  pub worked :
      (key : ℕ) → HasWorked m (Get key) before after (length keys * (get_steps m.chain.shape + 1))
  -- the seat is still the map's
  pub own : IsMine m after

-- Reads of many keys add up: none, and those of some keys after those of others.
pub record ReadsAddUp : Type 0 where
  pub none : {m : MapOf} {seat : SeatOf} → IsMine m seat → HasGotMany m [] seat seat []
  pub more :
      {m : MapOf} {before then after : SeatOf} {keys keys' : List ℕ}
      {found found' : List (Option ℕ)}
      → IsMine m before → HasGotMany m keys before then found → HasGotMany m keys' then after found'
      → HasGotMany m (keys ++ keys') before after (found ++ found')
