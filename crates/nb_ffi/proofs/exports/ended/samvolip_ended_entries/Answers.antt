use Rattle.nb_ffi.proofs.Lending.{unchanged}
use Rattle.nb_ffi.proofs.exports.ended.samvolip_ended_entries.Goals as goal

pub returns-clause-same : goal.returns-clause-same
returns-clause-same c = unchanged c.args.ended.now c.lend.result.now c.lend.ensures.value
