-- Reads of many keys, whose numbers are written into a caller's array.
use Rattle.std.specs.Prelude.{◌≡◌, ◌≤◌, ◌<◌, ◌++◌, ℕ, ℤ, List, All, length, map, drop, Option, unwrap_or}
use Rattle.nb_core.specs.declared.numbers.TheConstants.{KEY_MAX}
use Rattle.nb_map.specs.Handles.{HandleOf}
use Rattle.nb_ffi.specs.Handles.{StaysOpen}
use Rattle.nb_ffi.specs.Promises.{HasGotMany}
use Rattle.nb_ffi.specs.declared.codes.TheConstants.{E_KEY_RANGE, E_ROOM, OK}

-- all these numbers are keys
abbrev pub AreKeys : List ℕ → Type 0
AreKeys numbers = All (λ number. number ≤ KEY_MAX) numbers

-- what is written of what was found: the number, or the other one where there was none
abbrev pub told_of : (other : ℕ) → List (Option ℕ) → List ℕ
told_of other found = map (λ number. unwrap_or number other) found

-- Reads of keys came to this code: each was made, in the order of the keys, and what they found is
-- written, behind which the array is as it was. Or nothing happened, since there is no room for all,
-- or since one of them is no key.
pub data IsGetMany (keys : List ℕ) (other : ℕ) (code : ℤ) (numbers numbers' : List ℕ)
    (before after : Option HandleOf) : Type 0 where
  Read :
      code ≡ OK → AreKeys keys → length keys ≤ length numbers → (found : List (Option ℕ))
      → numbers' ≡ told_of other found ++ drop (length keys) numbers
      → StaysOpen before after (HasGotMany keys found)
      → IsGetMany keys other code numbers numbers' before after
  Short :
      code ≡ E_ROOM → length numbers < length keys → numbers' ≡ numbers → after ≡ before
      → IsGetMany keys other code numbers numbers' before after
  Unfit :
      code ≡ E_KEY_RANGE → length keys ≤ length numbers → (AreKeys keys → ⊥) → numbers' ≡ numbers
      → after ≡ before
      → IsGetMany keys other code numbers numbers' before after
