use Rattle.std.proofs.Common.{refl}
use Rattle.nb_core.specs.declared.calls.Want.TheVariants as want
use Rattle.nb_long.specs.declared.map.Stored.{Stored}
use Rattle.nb_long.proofs.Written.{is-new, put-value}
use Rattle.nb_long.proofs.map.parts.Parts.put_if_absent.Goals as goal

pub returns-in-Ok : goal.returns-in-Ok
returns-in-Ok g c =
    let stored : Stored g.row.V.Denot = record {
      before = c.in-Ok.before;
      done = c.is_none.result;
      receipt = c.in_ok-receipt.receipt;
    } in
    record {
      done = put-value _ c.args.key want.Absent c.args.value stored c.number.result
          c.number.ensures c.in_ok-receipt.ensures.stored
          (is-new c.in-Ok.before c.is_none.result c.is_none.ensures) c.in-Ok.ensures.done;
      rest = c.in-Ok.ensures.rest;
    }
