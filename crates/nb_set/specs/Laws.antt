-- What follows of the calls of a set.
use Rattle.std.specs.Prelude.{◌≡◌, ℕ, ◌+◌, ◌==◌, ◌&&◌, Bool, false, if◌then◌else◌, List, [], ◌++◌, count_by}
use Rattle.std.specs.FinMap.{contains_key}
use Rattle.nb_set.specs.Log.{Add, Call, Contains, Entry, IsReplayed, Remove, set_of_log}
use Rattle.nb_set.specs.Sets.{HasLogged, IsMine, SeatOf, SetOf}

-- Calls add up: none, and some after others.
pub record LogsAddUp : Type 0 where
  pub none : {set : SetOf} {seat : SeatOf} → IsMine set seat → HasLogged seat seat []
  pub more :
      {before between after : SeatOf} {made made' : List (Call × Bool)}
      → HasLogged before between made → HasLogged between after made'
      → HasLogged before after (made' ++ made)

-- whether the call adds the key, or removes it
abbrev pub adds_key : ℕ → Call → Bool
adds_key k (Add j) = k == j
adds_key k (Remove j) = false
adds_key k (Contains j) = false

abbrev pub removes : ℕ → Call → Bool
removes k (Add j) = false
removes k (Remove j) = k == j
removes k (Contains j) = false

-- whether the key came by the entry, or went by it
abbrev pub came : ℕ → Entry → Bool
came k entry = adds_key k entry.call && entry.reply

abbrev pub went : ℕ → Entry → Bool
went k entry = removes k entry.call && entry.reply

-- A key came by as many calls as it went, and by one more where it is there.
abbrev pub KeysAddUp : Type 0
KeysAddUp =
    (log : List Entry) → IsReplayed log → (k : ℕ)
    → count_by (came k) log ≡ count_by (went k) log
    + (if contains_key (set_of_log log) k then 1 else 0)
