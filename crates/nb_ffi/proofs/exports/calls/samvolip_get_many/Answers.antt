use Rattle.std.proofs.Common.{IsTrue, refl, rules}
use Rattle.nb_ffi.specs.Many.IsGetMany.{Read}
use Rattle.nb_ffi.proofs.exports.calls.samvolip_get_many.Goals as goal

pub returns : goal.returns
returns c =
    let (found, written, got) = c.get_many.ensures in
    let passed : IsTrue c.are_keys.result = search rules in
    Read refl (c.are_keys.ensures.0 passed) c.if-numbers-keys.false found written (record {
      old = c.lend.result.now;
      new = c.get_many.new.handle;
      was = c.lend.ensures.value;
      is = refl;
      holds = got;
    })
