use Rattle.std.proofs.Common.{◌^◌, arith}
use Rattle.std.proofs.lemmas.List.Sums.{sum_by_more}
use Rattle.nb_core.proofs.Filled.{first-few, table-fits}
use Rattle.nb_core.proofs.shapes.wide.slots_of.Goals as goal

pub overflow_add-slots : goal.overflow_add-slots
overflow_add-slots c =
    omega (
      arith,
      c.loop-exponent.invariant,
      first-few c.args.exponents.now c.loop-exponent.exponent-index c.requires.sizes
          c.requires.few_tables,
      table-fits c.args.exponents.now c.loop-exponent.exponent-index c.requires.sizes
          c.loop-exponent-test.true,
    )

pub loop-exponent-preserved : goal.loop-exponent-preserved
loop-exponent-preserved c =
    omega (
      arith,
      c.loop-exponent.invariant,
      sum_by_more (λ e. 2 ^ e) c.args.exponents.now c.loop-exponent.exponent-index 0
          c.loop-exponent-test.true,
      table-fits c.args.exponents.now c.loop-exponent.exponent-index c.requires.sizes
          c.loop-exponent-test.true,
    )
