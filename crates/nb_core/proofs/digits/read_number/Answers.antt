use Rattle.std.proofs.Common.{◌≡◌, ◌∙◌, ◌+◌, ◌*◌, ◌^◌, ◌≤◌, sym, arith, rules}
use Rattle.nb_core.proofs.Decimals.{beyond, too_large}
use Rattle.nb_core.proofs.digits.read_number.Goals as goal

pub returns-in_err-tens : goal.returns-in_err-tens
returns-in_err-tens c =
    let tens : 2 ^ 64 ≤ c.loop-byte.number * 10 =
    beyond _ c.checked_mul.result c.in_err-tens.field-0.0 _ (2 ^ 64) c.checked_mul.ensures
    (sym c.ok_or.ensures.value ∙ c.in_err-tens.was) in
    let large = too_large c.args.text.now c.loop-byte.byte-index c.loop-byte.number
    c.loop-byte.invariant c.loop-byte-test.true c.from-digit.result (search rules)
    (omega (arith, tens)) in
    search rules

pub returns-in_err-number : goal.returns-in_err-number
returns-in_err-number c =
    let tens : c.in_ok-tens.tens ≡ c.loop-byte.number * 10 = grind (arith, c.checked_mul.ensures) in
    let sum : 2 ^ 64 ≤ c.in_ok-tens.tens + c.from-digit.result =
    beyond _ c.checked_add.result c.in_err-number.field-0.0 _ (2 ^ 64) c.checked_add.ensures
    (sym c.ok_or-in-loop-byte.ensures.value ∙ c.in_err-number.was) in
    let large = too_large c.args.text.now c.loop-byte.byte-index c.loop-byte.number
    c.loop-byte.invariant c.loop-byte-test.true c.from-digit.result (search rules)
    (omega (arith, tens, sum)) in
    search rules
