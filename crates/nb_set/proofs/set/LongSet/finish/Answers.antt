use Rattle.nb_set.proofs.Dealt.{ended-with}
use Rattle.nb_set.proofs.set.LongSet.finish.Goals as goal

pub returns-in-Ok-clause-ended : goal.returns-in-Ok-clause-ended
returns-in-Ok-clause-ended c =
    ended-with c.args.seats.items (record { map = c.in-Ok.map }) c.in-Ok.ensures.ended
