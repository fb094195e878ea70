use Rattle.std.proofs.Common.{Err, Ok, subst}
use Rattle.std.proofs.lemmas.Result.{err_from_is_err_and}
use Rattle.nb_map.specs.NamedCalls.{put_if_absent_of}
use Rattle.nb_map.specs.Progress.{Unlimited}
use Rattle.nb_map.specs.Promises as of_map
use Rattle.nb_map.specs.Promises.{Found, Refused}
use Rattle.nb_map.specs.declared.faults.PutFault.TheVariants as fault
use Rattle.nb_set.specs.Log.{Add}
use Rattle.nb_set.specs.Promises.{HasWritten}
use Rattle.nb_set.proofs.Promised.{added, refused}
use Rattle.nb_set.proofs.set.LongSet.add.Goals as goal

pub returns-in_err-before : goal.returns-in_err-before
returns-in_err-before g c =
    let after = c.put_if_absent.new.seat in
    let p = err_from_is_err_and c.from_residual.result c.from_residual.ensures.1 in
    rw (p.1)
    (subst (λ set. HasWritten set (Add c.args.key) c.args.seat.now after (Err p.0)) c.self.view_is
    (refused c.args.key p.0
    (subst (λ n. of_map.HasWritten c.self.inside.map (put_if_absent_of c.args.key n)
    c.args.seat.now c.put_if_absent.new.seat Unlimited (Refused fault.Full))
    c.present.ensures c.in_err-before.ensures)))

pub returns : goal.returns
returns g c =
    let after = c.put_if_absent.new.seat in
    subst (λ set. HasWritten set (Add c.args.key) c.args.seat.now after (Ok c.is_none.result))
    c.self.view_is
    (added c.args.key c.in_ok-before.before c.is_none.result c.is_none.ensures
    (subst (λ n. of_map.HasWritten c.self.inside.map (put_if_absent_of c.args.key n)
    c.args.seat.now c.put_if_absent.new.seat Unlimited (Found c.in_ok-before.before))
    c.present.ensures c.in_ok-before.ensures))
