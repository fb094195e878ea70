use Rattle.std.proofs.Common.{inr, refl, rules}
use Rattle.nb_ffi.proofs.exports.calls.written.Goals as goal

pub returns-in-Err : goal.returns-in-Err
returns-in-Err c = inr (
  c.in-Err.fault,
  search rules,
  refl,
  record {
    old = c.lend.result.now;
    new = c.put_if_match.new.self;
    was = c.lend.ensures.value;
    is = refl;
    holds = record { promised = c.in-Err.ensures.wrote; rest = c.in-Err.ensures.rest };
  },
)
