use Rattle.nb_core.specs.declared.calls.Want.TheVariants as want
use Rattle.nb_long.specs.declared.map.Stored.{Stored}
use Rattle.nb_long.proofs.Written.{put-value}
use Rattle.nb_long.proofs.map.parts.Parts.replace.Goals as goal

pub returns : goal.returns
returns g c =
    let stored : Stored g.row.V.Denot = record {
      before = c.replace-before.result;
      done = c.is_some.result;
      receipt = c.in_ok-receipt.receipt;
    } in
    record {
      done = put-value _ c.args.key want.Present c.args.value stored c.number.result
          c.number.ensures c.in_ok-receipt.ensures.stored c.is_some.ensures
          c.replace-before.ensures.done;
      rest = c.replace-before.ensures.rest;
    }
