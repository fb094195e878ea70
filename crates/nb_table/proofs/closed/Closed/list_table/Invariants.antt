use Rattle.nb_table.specs.Listing.{IsListing}
use Rattle.nb_table.proofs.closed.Closed.list_table.Given as goal

-- so many slots of the table are done
abbrev pub invariant-loop-i : goal.invariant-loop-i
invariant-loop-i l = IsListing l.self l.found l.g l.i
