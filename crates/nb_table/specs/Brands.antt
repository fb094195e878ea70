-- The plan of the type `Brand`, in place of which each call picks its own. No step is made with
-- this one.
use Rattle.std.specs.Prelude.{[]}
use Rattle.nb_core.specs.Plans.{Plan}

abbrev pub no_plan : Plan
no_plan = record { exponents = []; seats = 0; stripes = 0; reprobes = 0; chunk = 0 }
