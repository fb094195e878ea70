use Rattle.std.proofs.Common.{Err, Ok, OnErr, OnOk, Result}
use Rattle.nb_texts.proofs.catalog.Catalog.rest.Goals as goal

either : {T E P : Type 0} (r : Result T E) → OnOk r P → OnErr r P → P
either (Ok x) ok err = ok
either (Err e) ok err = err

pub returns-clause-room : goal.returns-clause-room
returns-clause-room c =
    either c.renew_for.result c.renew_for.ensures.room c.renew_for.ensures.refused
