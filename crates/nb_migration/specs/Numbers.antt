-- What the numbers of a core stand for. A core is a map of one table, in which keys are until they
-- move on to another core.
use Rattle.std.specs.Prelude.{ℕ, ◌+◌, ◌-◌, ◌&&◌, Bool, true, if◌then◌else◌, nat_le, nat_lt, Option, Some, None}
use Rattle.nb_migration.specs.declared.numbers.Seen.{Seen}
use Rattle.nb_migration.specs.declared.numbers.Seen.TheVariants.{Absent, Closed, Frozen, Open}
use Rattle.nb_migration.specs.declared.numbers.TheConstants.{CLOSED, FROZEN, USER_MAX}

-- whether this is no number, or one of the user
abbrev pub is_open : Option ℕ → Bool
is_open None = true
is_open (Some n) = nat_le n USER_MAX

-- a number of the user, frozen
abbrev pub frozen_of : ℕ → ℕ
frozen_of n = FROZEN + n

-- what a number of a core shows, or none (what is neither a number of the user nor one frozen reads
-- as closed; but for CLOSED there is one such number, and nobody puts it)
abbrev pub seen_of : Option ℕ → Seen
seen_of None = Absent
seen_of (Some n) = if nat_le n USER_MAX then Open n
    else if nat_le FROZEN n && nat_lt n CLOSED then Frozen (n - FROZEN) else Closed
