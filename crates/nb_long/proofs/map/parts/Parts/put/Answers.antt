use Rattle.std.proofs.Common.{refl, true}
use Rattle.nb_core.specs.declared.calls.Want.TheVariants as want
use Rattle.nb_long.specs.declared.map.Stored.{Stored}
use Rattle.nb_long.proofs.Written.{put-value}
use Rattle.nb_long.proofs.map.parts.Parts.put.Goals as goal

pub returns-in-Ok : goal.returns-in-Ok
returns-in-Ok g c =
    let stored : Stored g.row.V.Denot = record {
      before = c.in-Ok.before;
      done = true;
      receipt = c.in_ok-receipt.receipt;
    } in
    record {
      done = put-value _ c.args.key want.Any c.args.value stored c.number.result c.number.ensures
          c.in_ok-receipt.ensures.stored refl c.in-Ok.ensures.done;
      rest = c.in-Ok.ensures.rest;
    }
