-- What an account gains as handles are taken.
use Rattle.std.proofs.Common.{◌≡◌, ◌++◌, ◌∷◌, [], List, refl}
use Rattle.nb_map.specs.Handles.{HandleOf}
use Rattle.nb_lasting.specs.Visits.{took, took_all}
use Rattle.nb_lasting.specs.declared.shared.Account.{Account}

pub took-snoc :
    (handles : List HandleOf) (handle : HandleOf) (a : Account)
    → took_all (handles ++ handle ∷ []) a ≡ took handle (took_all handles a)
took-snoc [] handle a = refl
took-snoc (first ∷ handles) handle a = took-snoc handles handle (took first a)
