use Rattle.std.proofs.Common.{◌≡◌, ◌∙◌, ◌*◌, ◌%◌, ◌^◌, ◌≤◌, ℕ, List, ap, arith, replicate, rules, subst, sym}
use Rattle.std.specs.List.Sorted.{IsNonDecreasing}
use Rattle.std.proofs.Math.Pow.{pow_mono}
use Rattle.std.proofs.lemmas.List.{take-replicate}
use Rattle.std.proofs.lemmas.Nat.{one_shl}
use Rattle.nb_core.specs.declared.shapes.TheConstants.{MAX_SEATS, MAX_SLOTS}
use Rattle.nb_core.specs.Plans.{plan, slots_in, tables_for_churn}
use Rattle.nb_core.proofs.Churned.{alike-rises, alike-slots, for_churn-accepted, tuned-alike}
use Rattle.nb_core.proofs.shapes.Shape.for_churn.Goals as goal

pub fewest_tables-tables-requires-clause-few : goal.fewest_tables-tables-requires-clause-few
fewest_tables-tables-requires-clause-few c =
    let first = c.in-Some.ensures.first in
    let size : 2 ^ c.in-Some.exponent ≤ 2 ^ 26 = pow_mono {j = 26} (omega (arith, first)) in
    omega (arith, size)

pub laid_out-requires-clause-never_fall : goal.laid_out-requires-clause-never_fall
laid_out-requires-clause-never_fall c =
    let tables = c.fewest_tables-tables.result in
    let exponent = c.in-Some.exponent in
    let first = c.in-Some.ensures.first in
    let few : tables ≤ 16 = c.fewest_tables-tables.ensures.some.1 in
    subst IsNonDecreasing (sym (take-replicate tables 16 exponent few))
    (alike-rises tables exponent few c.in-Some.ensures.least (omega (arith, first)))

pub laid_out-requires-clause-slots : goal.laid_out-requires-clause-slots
laid_out-requires-clause-slots c =
    let tables = c.fewest_tables-tables.result in
    let exponent = c.in-Some.exponent in
    let first = c.in-Some.ensures.first in
    let few : tables ≤ 16 = c.fewest_tables-tables.ensures.some.1 in
    subst (λ (es : List ℕ). slots_in es ≤ MAX_SLOTS)
    (sym (take-replicate tables 16 exponent few))
    (alike-slots tables exponent few c.in-Some.ensures.least (omega (arith, first)))

pub returns-clause-shape : goal.returns-clause-shape
returns-clause-shape c =
    let tables = c.fewest_tables-tables.result in
    let exponent = c.in-Some.exponent in
    let first = c.in-Some.ensures.first in
    let some : (1 ≤ c.args.seats) × (c.args.seats ≤ MAX_SEATS) = search rules in
    let size : (1 * 2 ^ exponent) % 2 ^ 64 ≡ 2 ^ exponent =
    one_shl exponent 64 (omega (arith, first)) in
    let count : tables_for_churn c.args.live c.args.ever (2 ^ exponent) ≡ tables =
    sym (c.fewest_tables-tables.ensures.first ∙ ap (tables_for_churn c.args.live c.args.ever) size) in
    let made :
    c.laid_out.result ≡ plan (replicate tables exponent) c.args.seats c.min-stripes.result =
    c.laid_out.ensures
    ∙ ap (λ (es : List ℕ). plan es c.args.seats c.min-stripes.result)
    (take-replicate tables 16 exponent c.fewest_tables-tables.ensures.some.1) in
    c.with_chunk.ensures
    ∙ tuned-alike c.args.live c.args.ever exponent tables c.args.seats _ _ (sym first.1) count
    c.min-stripes.ensures made
    ∙ sym (for_churn-accepted c.args.live c.args.ever c.args.seats first.0 some)
