-- All keys of a set at rest: what all its seats know once the keys are listed.
use Rattle.std.specs.List.{IsDistinct}
use Rattle.std.specs.Prelude.{◌≡◌, ◌==◌, ℕ, List, All}
use Rattle.nb_set.specs.Ending.{EndedOf, EndedWith, set_left}
use Rattle.nb_set.specs.Log.{Entry, IsReplayed, Keys, set_of_log}
use Rattle.nb_set.specs.Opening.{set_of_keys}
use Rattle.nb_set.specs.Sets.{SeatOf, log}

-- These are the keys of the set, each once.
pub record AreKeysOf (content : Keys) (keys : List ℕ) : Type 0 where
  pub once : IsDistinct (λ a b. a == b) keys
  pub are : set_of_keys keys ≡ content

-- All keys of the set are listed. There was one log of all calls, as if the set had been finished
-- then, and the keys are those of the set that it leaves. Now each seat's log is one and the same,
-- is replayed, and leaves that set.
pub record HaveListed (before after : List SeatOf) (keys : List ℕ) : Type 0 where
  pub ended : EndedOf
  pub left : EndedWith before ended
  pub all : AreKeysOf (set_left ended) keys
  pub whole : List Entry
  pub replayed : IsReplayed whole
  pub logs : All (λ seat. log seat ≡ whole) after
  pub leaves : set_of_log whole ≡ set_left ended
