-- The log of a set: calls with their replies, one after another, in the words of `java.util.Set`.
use Rattle.std.specs.Prelude.{◌≡◌, ℕ, ◌==◌, Bool, true, not, if◌then◌else◌, List, [], ◌∷◌}
use Rattle.std.specs.FinMap.{contains_key, empty, insert, remove}
use Rattle.std.specs.FinSet.{FinSet}
use Rattle.std.specs.Ordering.{nat_cmp}
use Rattle.nb_core.specs.Log.{IsBeginning}

-- ---- one call

-- a set of keys: a finite map that has nothing at each of them
abbrev pub Keys : Type 0
Keys = FinSet nat_cmp

-- a call: it adds a key, removes it, or asks whether it is there
pub data Call : Type 0 where
  Add : ℕ → Call
  Remove : ℕ → Call
  Contains : ℕ → Call

-- what a call replies on a set: whether the key came, whether it went, or whether it is there
abbrev pub reply_of : Call → Keys → Bool
reply_of (Add k) keys = not (contains_key keys k)
reply_of (Remove k) keys = contains_key keys k
reply_of (Contains k) keys = contains_key keys k

-- the set that a call leaves
abbrev pub set_after : Call → Keys → Keys
set_after (Add k) keys = insert keys k tt
set_after (Remove k) keys = remove keys k
set_after (Contains k) keys = keys

-- ---- calls one after another

-- a call that was made: the number of its seat, the call, and its reply
pub record Entry : Type 0 where
  pub seat : ℕ
  pub call : Call
  pub reply : Bool

-- A log has its newest entry first.

-- the set that the calls of a log leave of the empty one
abbrev pub set_of_log : List Entry → Keys
set_of_log [] = empty
set_of_log (entry ∷ log) = set_after entry.call (set_of_log log)

-- each entry replies as the set does that the entries before it leave
abbrev pub IsReplayed : List Entry → Type 0
IsReplayed [] = Unit {0}
IsReplayed (entry ∷ log) = (entry.reply ≡ reply_of entry.call (set_of_log log)) × IsReplayed log

-- the calls of a seat in a log, with their replies
abbrev pub calls_of : ℕ → List Entry → List (Call × Bool)
calls_of seat [] = []
calls_of seat (entry ∷ log) =
    if entry.seat == seat then (entry.call, entry.reply) ∷ calls_of seat log else calls_of seat log

-- the set has the key all the while, from the one log to the other that goes on from it (a walk
-- must show such a key)
abbrev pub HeldThrough : (first last : List Entry) → ℕ → Type 0
HeldThrough first last k = (log : List Entry) → IsBeginning first log → IsBeginning log last
    → contains_key (set_of_log log) k ≡ true
