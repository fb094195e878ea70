-- The calls of a map without an end are one log.
use Rattle.std.proofs.Common.{◌∙◌, [], ◌∷◌, ap, sym}
use Rattle.nb_core.specs.Log.{map_after, reply_of}
use Rattle.nb_lasting.specs.Laws.{OneLog}

pub one_log : OneLog
one_log past after [] replayed same = (replayed, sym same)
one_log past after (newest ∷ made) replayed (then, earlier, is) =
    let rest = one_log past then made replayed earlier in (
      (is.replied ∙ ap (reply_of newest.0) (sym rest.1), rest.0),
      ap (map_after newest.0) rest.1 ∙ sym is.left,
    )
