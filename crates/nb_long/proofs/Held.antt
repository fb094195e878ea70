-- The handles of a typed map with one seat each.
use Rattle.std.proofs.Common.{◌≡◌, List, [], ◌∷◌, ap, map, refl}
use Rattle.boxcar.specs.Table.{Shelves}
use Rattle.nb_map.specs.Handles as numbers
use Rattle.nb_map.specs.Maps.{MapOf, SeatOf}
use Rattle.nb_long.specs.Handles.{handle_on, with_store}

-- they are the handles of the map of numbers, over its store
pub with-stores :
    (m : MapOf) (store : Shelves) (seats : List SeatOf)
    → map (handle_on (record { map = m; store = store })) seats
    ≡ map (with_store store) (map (numbers.handle_on m) seats)
with-stores m store [] = refl
with-stores m store (seat ∷ seats) =
    ap (λ handles. handle_on (record { map = m; store = store }) seat ∷ handles)
    (with-stores m store seats)
