use Rattle.std.proofs.Common.{◌≡◌, sym}
use Rattle.nb_lines.proofs.Mixed.{once, twice}
use Rattle.nb_core.specs.Mixing.{unmixed}
use Rattle.nb_lines.proofs.keys.number_of.Goals as goal

pub returns-then-number-gt-KEY_MAX : goal.returns-then-number-gt-KEY_MAX
returns-then-number-gt-KEY_MAX c =
    let at_key : unmixed c.args.key ≡ c.unmix-number.result = rw (← c.get.ensures.number) (sym c.unmix-number.ensures.value) in
    sym (twice c.unmix.result c.unmix-number.result c.args.key at_key (sym c.unmix.ensures.value) c.if-number-gt-KEY_MAX.true)

pub returns : goal.returns
returns c =
    let at_key : unmixed c.args.key ≡ c.unmix-number.result = rw (← c.get.ensures.number) (sym c.unmix-number.ensures.value) in
    sym (once c.unmix-number.result c.args.key at_key c.if-number-gt-KEY_MAX.false)
