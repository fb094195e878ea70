use Rattle.std.proofs.Common.{refl, rules}
use Rattle.nb_ffi.proofs.exports.cores.copy_on.Goals as goal

pub returns : goal.returns
returns c =
    let copied = c.copy_on.ensures.copied in (
      copied.0,
      c.copy_on.result,
      search rules,
      record {
        old = c.lend.result.now;
        new = c.copy_on.new.source;
        was = c.lend.ensures.value;
        is = refl;
        holds = record { promised = copied.1; rest = c.copy_on.ensures.rest.0 };
      },
      record {
        old = c.lend-2.result.now;
        new = c.copy_on.new.target;
        was = c.lend-2.ensures.value;
        is = refl;
        holds = record { promised = copied.2; rest = c.copy_on.ensures.rest.1 };
      },
    )
