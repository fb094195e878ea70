use Rattle.std.proofs.Common.{◌≡◌, ◌∙◌, ◌≤◌, arith, rules, sym, subst, take, ℕ}
use Rattle.std.specs.List.{All}
use Rattle.std.specs.List.Sorted.{IsNonDecreasing}
use Rattle.std.proofs.lemmas.List.{length-set, length-take-le}
use Rattle.nb_core.specs.Plans.{rising}
use Rattle.nb_core.proofs.Rising.{All-rising, IsNonDecreasing-rising, take-rising_more}
use Rattle.nb_core.proofs.Small.{small-sizes, small-slots}
use Rattle.nb_core.proofs.shapes.Shape.new.Goals as goal

pub loop-g-preserved : goal.loop-g-preserved
loop-g-preserved c =
    let few : c.args.generations ≤ 8 = search rules in (
      length-set _ _ _ ∙ c.loop-g.invariant.0,
      take-rising_more _ _ _ (omega arith) c.loop-g.invariant.1,
    )

exponents_are :
    (c : goal.After-exponents-1) → rising c.args.bits c.args.generations
    ≡ take c.args.generations c.loop-g.exponents
exponents_are c =
    let all : c.loop-g.g ≡ c.args.generations = omega arith in
    subst (λ (n : ℕ). rising c.args.bits n ≡ take n c.loop-g.exponents) all
    (sym c.loop-g.invariant.1)

small :
    (c : goal.After-exponents-1)
    → All (λ (e : ℕ). (2 ≤ e) × (e ≤ 19)) (take c.args.generations c.loop-g.exponents)
small c =
    let few : c.args.generations ≤ 8 = search rules in
    let bits : (2 ≤ c.args.bits) × (c.args.bits ≤ 12) = search rules in
    subst (All (λ (e : ℕ). (2 ≤ e) × (e ≤ 19))) (exponents_are c)
    (All-rising _ _ bits.0 (omega arith))

pub seated-requires-clause-sizes : goal.seated-requires-clause-sizes
seated-requires-clause-sizes c = small-sizes _ (small c)

pub seated-requires-clause-never_fall : goal.seated-requires-clause-never_fall
seated-requires-clause-never_fall c =
    subst IsNonDecreasing (exponents_are c) (IsNonDecreasing-rising _ _)

pub seated-requires-clause-slots : goal.seated-requires-clause-slots
seated-requires-clause-slots c =
    let few : c.args.generations ≤ 8 = search rules in
    let long = length-take-le c.args.generations c.loop-g.exponents
    (omega (arith, few, c.loop-g.invariant.0)) in
    small-slots _ (small c) (omega (arith, few, long))
