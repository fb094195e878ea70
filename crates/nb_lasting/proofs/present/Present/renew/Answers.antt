use Rattle.std.proofs.Common.{arith}
use Rattle.nb_lasting.proofs.Sizes.{slots_fewer}
use Rattle.nb_lasting.proofs.present.Present.renew.Goals as goal

pub returns-clause-slots : goal.returns-clause-slots
returns-clause-slots c =
    slots_fewer c.renew_for.new.self.handle.map.chain.shape c.args.self.now.least c.max-keys.result
    (omega (arith, c.max-keys.ensures)) c.in_ok-renew_for.ensures.slots
