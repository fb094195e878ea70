use Rattle.std.proofs.Common.{◌≡◌, ◌∙◌, ◌+◌, ◌-◌, ◌*◌, ◌^◌, ◌≤◌, ℕ, List, ap, arith, refl, subst, sym, take}
use Rattle.std.specs.List.{All}
use Rattle.std.specs.List.Sorted.{IsNonDecreasing}
use Rattle.std.proofs.Math.Pow.{pow_mono}
use Rattle.nb_core.specs.Plans.{plan, slots_in, steps_down, tables_for}
use Rattle.nb_core.specs.declared.shapes.keys.TheConstants.{FIRST_EXPONENT, STEP}
use Rattle.nb_core.proofs.Filled.{IsFilled-more}
use Rattle.nb_core.proofs.Stepped.{step_down, steps_down-filled, steps_down-rises, steps_down-sizes, steps_down-slots}
use Rattle.nb_core.proofs.shapes.Shape.stepped.Goals as goal

pub loop-g-preserved : goal.loop-g-preserved
loop-g-preserved c =
    IsFilled-more (step_down (tables_for c.args.last) c.args.last) _ _ _ c.loop-g.invariant
    (omega arith) refl

exponents_are :
    (c : goal.After-exponents-1)
    → take (tables_for c.args.last) c.loop-g.exponents
    ≡ steps_down (tables_for c.args.last) c.args.last
exponents_are c =
    steps_down-filled c.args.last c.loop-g.g c.loop-g.exponents c.requires.last.1 (omega arith)
    c.loop-g.invariant

low :
    (c : goal.After-exponents-1)
    → FIRST_EXPONENT + STEP * (tables_for c.args.last - 1) ≤ c.args.last
low c = omega arith

pub laid_out-requires-clause-sizes : goal.laid_out-requires-clause-sizes
laid_out-requires-clause-sizes c =
    subst (All (λ (e : ℕ). (2 ≤ e) × (e ≤ 28))) (sym (exponents_are c))
    (steps_down-sizes (tables_for c.args.last) c.args.last (low c) c.requires.last.1)

pub laid_out-requires-clause-never_fall : goal.laid_out-requires-clause-never_fall
laid_out-requires-clause-never_fall c =
    subst IsNonDecreasing (sym (exponents_are c))
    (steps_down-rises (tables_for c.args.last) c.args.last (low c))

pub laid_out-requires-clause-slots : goal.laid_out-requires-clause-slots
laid_out-requires-clause-slots c =
    let few = steps_down-slots (tables_for c.args.last) c.args.last (low c) in
    let most : 2 ^ c.args.last ≤ 2 ^ 28 = pow_mono c.requires.last.1 in
    omega (arith, few, most, ap slots_in (exponents_are c))

pub returns : goal.returns
returns c =
    let exponents =
    steps_down-filled c.args.last c.loop-g.g c.loop-g.exponents c.requires.last.1 (omega arith)
    c.loop-g.invariant in
    c.laid_out.ensures ∙ ap (λ (es : List ℕ). plan es c.args.seats c.args.stripes) exponents
