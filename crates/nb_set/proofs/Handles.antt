-- A handle of a map, as one of the set.
use Rattle.std.proofs.Common.{◌∙◌, ap}
use Rattle.nb_map.specs.Handles as handles
use Rattle.nb_set.specs.Handles.{HandleOf, KeepsRest, as_handle}

-- a call leaves the rest as it was
pub keeps-rest :
    {before after : handles.HandleOf} → handles.KeepsRest before after
    → KeepsRest (as_handle before) (as_handle after)
keeps-rest rest = record {
  set = ap (λ m. record { map = m }) rest.map;
  reserve = rest.reserve;
}

-- and so do two calls
pub keeps-on :
    {before between after : HandleOf} → KeepsRest between after → KeepsRest before between
    → KeepsRest before after
keeps-on second first = record {
  set = second.set ∙ first.set;
  reserve = second.reserve ∙ first.reserve;
}
