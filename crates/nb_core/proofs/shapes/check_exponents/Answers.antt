use Rattle.std.proofs.Common.{◌∙◌, ◌≤◌, length, rules, ℕ}
use Rattle.std.specs.List.{All}
use Rattle.std.proofs.lemmas.List.Sorted.{non_decreasing_from_is_sorted}
use Rattle.nb_core.proofs.Checks.{checked_exponents-falls, checked_exponents-rises, never_falls-is}
use Rattle.nb_core.proofs.shapes.check_exponents.Goals as goal

pub returns-then-not-is_sorted-clause-first : goal.returns-then-not-is_sorted-clause-first
returns-then-not-is_sorted-clause-first c passed =
    let few : (1 ≤ length c.args.exponents.now) × (length c.args.exponents.now ≤ 16) =
    search rules in
    let sizes : All (λ (e : ℕ). (2 ≤ e) × (e ≤ c.args.largest)) c.args.exponents.now =
    search rules in
    let tested = never_falls-is _ _ (non_decreasing_from_is_sorted _ _ c.is_sorted.ensures.cases) in
    checked_exponents-falls c.args.largest _ passed few sizes (tested ∙ c.if-not-is_sorted.true)

pub returns-clause-first : goal.returns-clause-first
returns-clause-first c passed =
    let few : (1 ≤ length c.args.exponents.now) × (length c.args.exponents.now ≤ 16) =
    search rules in
    let sizes : All (λ (e : ℕ). (2 ≤ e) × (e ≤ c.args.largest)) c.args.exponents.now =
    search rules in
    let tested = never_falls-is _ _ (non_decreasing_from_is_sorted _ _ c.is_sorted.ensures.cases) in
    checked_exponents-rises c.args.largest _ passed few sizes (tested ∙ c.if-not-is_sorted.false)

pub returns-clause-never_fall : goal.returns-clause-never_fall
returns-clause-never_fall c =
    rw c.if-not-is_sorted.false at (non_decreasing_from_is_sorted c.args.exponents.now
    c.is_sorted.result c.is_sorted.ensures.cases)
