use Rattle.std.proofs.Common.{◌∙◌, ◌≤◌, ◌+◌, ◌-◌, List, [], ℕ, ap, arith, drop, get_or, length, length-drop, subst, sym}
use Rattle.std.proofs.lemmas.Bool.{eq-eqb, eqb-true}
use Rattle.std.proofs.lemmas.List.{take_rest}
use Rattle.std.specs.Prelude.{slice_index}
use Rattle.nb_tally.proofs.FieldsLemmas.{field-behind, field-here, field-last, field-missing}
use Rattle.nb_tally.specs.Fields.{fields}
use Rattle.nb_tally.proofs.fields.Column.field_of.Goals as goal

pub returns-in-None : goal.returns-in-None
returns-in-None c =
    let delimiter = c.args.self.delimiter in
    let rest = c.loop-number.rest.now in
    let none = c.in-None.ensures in
    sym (field-missing delimiter rest c.loop-number.number
    (λ k less is. none k (omega arith) less (eq-eqb (slice_index rest k) delimiter is))
    c.loop-number-test.true)
    ∙ c.loop-number.invariant.0

pub loop-number-preserved : goal.loop-number-preserved
loop-number-preserved c =
    let delimiter = c.args.self.delimiter in
    let rest = c.loop-number.rest.now in
    let number = c.loop-number.number in
    let end = c.in-Some.end in
    let found = c.in-Some.ensures in
    let less : length (drop (end + 1) rest) ≤ length c.args.line.now
    = omega (arith, length-drop (end + 1) rest, c.loop-number.invariant.1) in (
      ap (λ (line : List ℕ). get_or (fields delimiter line) (number - 1 - 1) [])
          (take_rest rest (end + 1))
          ∙ field-behind delimiter rest end number (
            found.0.high,
            eqb-true (slice_index rest end) delimiter found.1,
            λ k less is. found.0.before k (omega arith) less (eq-eqb (slice_index rest k) delimiter is),
          )
          c.loop-number-test.true
          ∙ c.loop-number.invariant.0,
      subst (λ (line : List ℕ). length line ≤ length c.args.line.now)
          (sym (take_rest rest (end + 1))) less,
    )

pub returns-in-Some-memchr : goal.returns-in-Some-memchr
returns-in-Some-memchr c =
    let delimiter = c.args.self.delimiter in
    let rest = c.loop-number.rest.now in
    let end = c.in-Some-memchr.end in
    let found = c.in-Some-memchr.ensures in
    field-here delimiter rest end c.loop-number.number (
      found.0.high,
      eqb-true (slice_index rest end) delimiter found.1,
      λ k less is. found.0.before k (omega arith) less (eq-eqb (slice_index rest k) delimiter is),
    )
    c.loop-number-test.false
    ∙ c.loop-number.invariant.0

pub returns-in-None-memchr : goal.returns-in-None-memchr
returns-in-None-memchr c =
    let delimiter = c.args.self.delimiter in
    let rest = c.loop-number.rest.now in
    let none = c.in-None-memchr.ensures in
    field-last delimiter rest c.loop-number.number
    (λ k less is. none k (omega arith) less (eq-eqb (slice_index rest k) delimiter is))
    c.loop-number-test.false
    ∙ c.loop-number.invariant.0
