use Rattle.nb_table.specs.Listing.{IsListing}
use Rattle.nb_table.proofs.closed.Closed.entries.Given as goal

-- so many tables are done
abbrev pub invariant-loop-g : goal.invariant-loop-g
invariant-loop-g l = IsListing l.self l.found l.g 0
