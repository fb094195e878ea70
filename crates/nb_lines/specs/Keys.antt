-- Numbers as keys of a map.
use Rattle.std.specs.Prelude.{ℕ, nat_lt, if◌then◌else◌}
use Rattle.nb_core.specs.Mixing.{unmixed}
use Rattle.nb_core.specs.declared.numbers.TheConstants.{KEY_MAX}

-- the number whose key this is: what was mixed, and mixed again where that was past the greatest
-- key
abbrev pub number_at : ℕ → ℕ
number_at key = if nat_lt KEY_MAX (unmixed key) then unmixed (unmixed key) else unmixed key
