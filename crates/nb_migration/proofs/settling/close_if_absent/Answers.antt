use Rattle.std.proofs.Common.{max, subst}
use Rattle.nb_map.specs.NamedCalls.{put_if_absent_of}
use Rattle.nb_map.specs.Progress.{Tries}
use Rattle.nb_map.specs.Promises.{Found, HasWritten}
use Rattle.nb_migration.proofs.Stepped.{found_step}
use Rattle.nb_migration.proofs.settling.close_if_absent.Goals as goal

pub returns-in-Ok-clause-stepped : goal.returns-in-Ok-clause-stepped
returns-in-Ok-clause-stepped c =
    let core = c.args.core.now in
    found_step c.in-Ok.found
    (subst (λ n. HasWritten core.map (put_if_absent_of c.args.key n) core.seat
    c.try_put_if_absent.new.self.seat (Tries (max c.args.tries 1)) (Found c.in-Ok.found))
    c.in_range.ensures c.in-Ok.ensures.wrote)
    (c.seen_closing.ensures c.args.key)
