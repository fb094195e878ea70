use Rattle.std.proofs.Common.{◌∙◌, ap, arith, refl}
use Rattle.nb_ffi.specs.Entries.{written_over}
use Rattle.nb_ffi.specs.Whole.IsMapListing.{Listed, Long}
use Rattle.nb_ffi.proofs.Whole.{whole-unless}
use Rattle.nb_ffi.proofs.exports.whole.samvolip_entries.Goals as goal

pub returns-then-len-entries : goal.returns-then-len-entries
returns-then-len-entries c = Long refl c.in-Ok.listed.items
    (omega (arith, c.len.ensures, c.in-Ok.listed.ok))
    (omega (arith, c.if-len-entries.true, c.len.ensures, c.len-in-Ok.ensures, c.in-Ok.listed.ok)) refl (record {
      old = c.lend.result.now;
      new = c.entries.new.self;
      was = c.lend.ensures.value;
      is = refl;
      holds = record {
        promised = c.in-Ok.ensures.listed;
        kept = c.in-Ok.ensures.kept;
        whole = whole-unless c.lend.result.now c.in-Ok.ensures.all (λ is. absurd cc);
      };
    })

pub returns-else-len-entries : goal.returns-else-len-entries
returns-else-len-entries c = Listed refl c.in-Ok.listed.items
    (omega (arith, c.len.ensures, c.in-Ok.listed.ok))
    (omega (arith, c.if-len-entries.false, c.len.ensures, c.len-in-Ok.ensures, c.in-Ok.listed.ok))
    (c.write_entries.ensures
    ∙ ap (λ entries. written_over entries c.args.entries.now) c.deref.ensures.value) (record {
      old = c.lend.result.now;
      new = c.entries.new.self;
      was = c.lend.ensures.value;
      is = refl;
      holds = record {
        promised = c.in-Ok.ensures.listed;
        kept = c.in-Ok.ensures.kept;
        whole = whole-unless c.lend.result.now c.in-Ok.ensures.all (λ is. absurd cc);
      };
    })
