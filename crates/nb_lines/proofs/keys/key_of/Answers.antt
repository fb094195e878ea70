use Rattle.std.proofs.Common.{◌≡◌, nat_le, refl, arith}
use Rattle.nb_core.specs.declared.numbers.TheConstants.{KEY_MAX}
use Rattle.nb_core.specs.declared.numbers.RangeFault.TheVariants as fault
use Rattle.nb_lines.proofs.Mixed.{again_fits, twice, where_ok}
use Rattle.nb_lines.specs.Keys.{number_at}
use Rattle.nb_lines.proofs.keys.key_of.Goals as goal

pub returns-then-mixed-gt-KEY_MAX-clause-back : goal.returns-then-mixed-gt-KEY_MAX-clause-back
returns-then-mixed-gt-KEY_MAX-clause-back c =
    let back = twice c.args.number c.mix-mixed.result c.mix.result c.mix.ensures.back c.mix-mixed.ensures.back c.if-mixed-gt-KEY_MAX.true in
    rw c.new.ensures (where_ok (nat_le c.mix.result KEY_MAX) c.mix.result fault.KeyRange (λ key. number_at key ≡ c.args.number) back)

pub returns-then-mixed-gt-KEY_MAX-clause-taken : goal.returns-then-mixed-gt-KEY_MAX-clause-taken
returns-then-mixed-gt-KEY_MAX-clause-taken c in_range =
    rw (
      c.new.ensures,
      again_fits c.mix-mixed.result c.mix.result c.if-mixed-gt-KEY_MAX.true c.mix-mixed.type_inv
          c.mix.ensures.value,
    ) refl

pub returns-then-mixed-gt-KEY_MAX-clause-refused :
    goal.returns-then-mixed-gt-KEY_MAX-clause-refused
returns-then-mixed-gt-KEY_MAX-clause-refused c past = absurd (omega arith)
