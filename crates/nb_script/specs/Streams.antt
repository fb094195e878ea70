-- What reads and writes have come to.
use Rattle.std.specs.Prelude.{◌≡◌, ◌==◌, ◌&&◌, ℕ, Bool, false, List, ◌++◌, length, nat_lt, Option, Result, Ok, Err}
use Rattle.std.specs.Io.KnownBytes.{Appends}

-- a read found the end: it had room and gave nothing
abbrev pub gave_end : {E : Type 0} → Result ℕ E → List ℕ → Bool
gave_end (Ok count) buffer = count == 0 && nat_lt 0 (length buffer)
gave_end (Err e) buffer = false

-- A beginning of the bytes went out, perhaps none and perhaps all of them.
pub record AppendsSome (written written' : Option (List ℕ)) (bytes : List ℕ) : Type 0 where
  pub out : List ℕ
  pub missing : List ℕ
  pub are : out ++ missing ≡ bytes
  pub appended : Appends written written' out
