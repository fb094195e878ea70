use Rattle.std.proofs.Common.{arith, refl}
use Rattle.nb_core.proofs.Filled.{AreLaid-more, end_of-fits, IsInside-laid, plan_of-laid, table-fits}
use Rattle.nb_core.specs.Plans.{IsPlan, Plan, plan}
use Rattle.nb_core.proofs.shapes.Shape.laid_out.Goals as goal

pub overflow_add-words : goal.overflow_add-words
overflow_add-words c =
    omega (arith, table-fits c.args.exponents.now c.loop-g.g c.requires.sizes c.loop-g-test.true)

pub overflow_add-words-in-loop-g : goal.overflow_add-words-in-loop-g
overflow_add-words-in-loop-g c =
    omega (
      arith,
      c.loop-g.invariant.words,
      table-fits c.args.exponents.now c.loop-g.g c.requires.sizes c.loop-g-test.true,
      end_of-fits c.args.exponents.now c.loop-g.g c.requires.tables.1 c.requires.slots
          c.loop-g-test.true,
    )

pub loop-g-preserved : goal.loop-g-preserved
loop-g-preserved c =
    let fits = table-fits c.args.exponents.now c.loop-g.g c.requires.sizes c.loop-g-test.true in
    AreLaid-more _ _ _ _ _ _ _ _ c.loop-g.invariant c.loop-g-test.true c.requires.tables.1
    (omega (arith, fits)) (omega (arith, fits))

abbrev plan_laid : goal.After-loop-g → Plan
plan_laid c = plan c.args.exponents.now c.args.seats c.args.stripes

plan_is : (c : goal.After-loop-g) → IsPlan (plan_laid c)
plan_is c = record {
  tables = c.requires.tables;
  sizes = c.requires.sizes;
  never_fall = c.requires.never_fall;
  slots = c.requires.slots;
  seats = c.requires.seats;
  stripes = c.requires.stripes;
  reprobes = (omega arith, omega arith);
  chunk = (3, omega arith, omega arith, refl);
}

pub invariant_of-result : goal.invariant_of-result
invariant_of-result c = IsInside-laid (plan_laid c) _ _ _ _ _ (plan_is c) (omega arith)
    c.loop-g.invariant

pub returns : goal.returns
returns c =
    plan_of-laid (plan_laid c) _ _ _ _ _ (plan_is c) (omega arith) c.loop-g.invariant
