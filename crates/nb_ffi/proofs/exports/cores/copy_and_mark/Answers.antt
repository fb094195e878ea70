use Rattle.std.proofs.Common.{refl, rules}
use Rattle.nb_ffi.proofs.exports.cores.copy_and_mark.Goals as goal

pub returns : goal.returns
returns c =
    let copied = c.copy_and_mark.ensures.copied in (
      copied.0,
      c.copy_and_mark.result,
      search rules,
      record {
        old = c.lend-target.result.now;
        new = c.copy_and_mark.new.target;
        was = c.lend-target.ensures.value;
        is = refl;
        holds = record { promised = copied.1; rest = c.copy_and_mark.ensures.rest.1 };
      },
      record {
        old = c.lend-source.result.now;
        new = c.copy_and_mark.new.source;
        was = c.lend-source.ensures.value;
        is = refl;
        holds = record { promised = copied.2; rest = c.copy_and_mark.ensures.rest.0 };
      },
    )
