-- What stores and their tokens say.
use Rattle.std.specs.Prelude.{◌≡◌, ◌<◌}
use Rattle.boxcar.specs.Table.{Shelves, Shows, Where}
use Rattle.nb_core.specs.declared.numbers.TheConstants.{VALUE_MAX}
use Rattle.nb_long.specs.declared.store.StoreFault.{StoreFault}
use Rattle.nb_long.specs.declared.store.StoreFault.TheVariants as fault

-- The token is of this store, and its value is this one.
abbrev pub HasStored : {V : Type 0} → Shelves → V → Where V → Type 0
HasStored store value token = Shows store token × (token.value ≡ value)

-- A value that wasn't stored comes back; one whose place is past the value numbers stays, with a
-- token of it.
abbrev pub GivesBack : {V : Type 0} → Shelves → V → StoreFault V → Type 0
GivesBack store value (fault.OutOfMemory back) = back ≡ value
GivesBack store value (fault.ValueRange placed) =
    HasStored store value placed × (VALUE_MAX < placed.index)
