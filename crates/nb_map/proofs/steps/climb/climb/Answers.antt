use Rattle.nb_map.proofs.Climbed.{climbed-above, climbed-end, climbed-none}
use Rattle.nb_map.proofs.Spent.{refused-longer, spent-more}
use Rattle.nb_map.proofs.steps.climb.climb.Goals as goal

pub loop-reply-init : goal.loop-reply-init
loop-reply-init g c = record {
  climbed = climbed-none c.args.chain.now c.args.call.now c.args.seat.now c.args.first
      c.args.tries.now c.requires.at c.requires.some;
  serves = c.requires.serves;
}

pub visit-requires : goal.visit-requires
visit-requires g c = record {
  at = c.loop-reply.invariant.climbed.at;
  some = c.loop-reply.invariant.climbed.some;
  serves = c.loop-reply.invariant.serves;
}

pub returns-in-Told : goal.returns-in-Told
returns-in-Told g c =
    let climbed = c.loop-reply.invariant.climbed in
    let visit = c.in-Told.ensures in
    record {
      made = climbed-end c.args.chain.now c.requires.at.own climbed visit.spent visit.made;
      replied = visit.visit;
      refused = tt;
      spent = spent-more climbed.made.grown visit.made.grown climbed.spent visit.spent;
      serves = visit.serves;
    }

pub returns-in-Refused : goal.returns-in-Refused
returns-in-Refused g c =
    let climbed = c.loop-reply.invariant.climbed in
    let visit = c.in-Refused.ensures in
    record {
      made = climbed-end c.args.chain.now c.requires.at.own climbed visit.spent visit.made;
      replied = tt;
      refused = refused-longer climbed.made.grown visit.made.grown climbed.spent c.in-Refused.fault
          visit.visit;
      spent = spent-more climbed.made.grown visit.made.grown climbed.spent visit.spent;
      serves = visit.serves;
    }

pub loop-reply-preserved : goal.loop-reply-preserved
loop-reply-preserved g c =
    let visit = c.in-Above.ensures in
    record {
      climbed = climbed-above c.args.chain.now c.requires.at.own c.loop-reply.invariant.climbed
          visit.spent c.in-Above.below visit.made visit.visit.0 visit.visit.1;
      serves = visit.serves;
    }
