use Rattle.std.proofs.Common.{◌∙◌, arith, sym}
use Rattle.nb_lasting.proofs.Joined.{never-both}
use Rattle.nb_lasting.proofs.Refused.{if-refused, kept-long, still-whole}
use Rattle.nb_lasting.proofs.gathered.renew_or_settle.Goals as goal

pub settle_in-requires : goal.settle_in-requires
settle_in-requires c = record {
  room =
      omega (
        arith,
        kept-long c.args.whole.now c.renew_whole-renewed.new.whole
            (if-refused c.renew_whole-renewed.result (sym c.is_err.ensures.value ∙ c.if-is_err.true)
            c.renew_whole-renewed.ensures.kept),
        c.requires.settling,
      );
}

pub unreachable-requires : goal.unreachable-requires
unreachable-requires c =
    never-both c.settle_in.result c.in_default.field-0 c.in_default.is
    (c.settle_in.ensures.all.1
    (still-whole c.args.whole.now c.renew_whole-renewed.new.whole
    (if-refused c.renew_whole-renewed.result (sym c.is_err.ensures.value ∙ c.if-is_err.true)
    c.renew_whole-renewed.ensures.kept)
    c.requires.whole))
