-- What a borrowed stream holds, with the borrow's name in front of it.
use Rattle.std.specs.Prelude.{ℕ, [], ◌∷◌, Option}
use Rattle.std.specs.Io.KnownBytes.{prepend_known}
use Rattle.nb_script.specs.Script.{Bytes}

-- the name, and then the bytes, where those are known
abbrev pub named : ℕ → Option Bytes → Option Bytes
named name bytes = prepend_known (name ∷ []) bytes
