use Rattle.std.proofs.Common.{◌∙◌, ap, arith, length, lit<, rules, sym}
use Rattle.std.proofs.lemmas.Iterator.Splits.{YieldsList-from_str_split}
use Rattle.std.proofs.lemmas.Iterator.Consumers.{YieldsList-end, YieldsList-turn}
use Rattle.std.proofs.lemmas.List.{length_push}
use Rattle.nb_script.specs.Options.{numbers_of}
use Rattle.nb_script.proofs.PlanLemmas.{by_ok, part_read, plan_of_exponents, too_large, too_many}
use Rattle.nb_script.proofs.options.read_plan.Goals as goal

pub returns-then-count-eq-MAX_GENERATIONS-clause-none :
    goal.returns-then-count-eq-MAX_GENERATIONS-clause-none
returns-then-count-eq-MAX_GENERATIONS-clause-none c =
    let split = YieldsList-from_str_split {s = c.into_iter-part-iterator.result} 44 c.args.text.now
    (lit< tt) (cc) (cc) (cc) in
    let turn = YieldsList-turn split c.loop-part.yielded _ c.loop-part.yielded_by _ _ c.in-Some.part
    c.in-Some.is c.next.ensures.steps in
    too_many c.args.text.now c.args.seats c.args.stripes (omega (arith, turn.0))

pub returns-in_err-exponents-clause-none : goal.returns-in_err-exponents-clause-none
returns-in_err-exponents-clause-none c =
    let split = YieldsList-from_str_split {s = c.into_iter-part-iterator.result} 44 c.args.text.now
    (lit< tt) (cc) (cc) (cc) in
    let turn = YieldsList-turn split c.loop-part.yielded _ c.loop-part.yielded_by _ _ c.in-Some.part
    c.in-Some.is c.next.ensures.steps in
    too_large c.args.text.now c.args.seats c.args.stripes (length c.loop-part.yielded)
    c.in-Some.part.now _ turn.0 turn.1 c.in_err-exponents.ensures.none

pub loop-part-preserved : goal.loop-part-preserved
loop-part-preserved c = record {
  room = search rules;
  within = omega arith;
  counted = omega (arith, length_push c.loop-part.yielded c.in-Some.part);
  read = part_read c.loop-part.yielded c.in-Some.part c.loop-part.exponents c.loop-part.count _
      (omega arith) c.loop-part.invariant.read c.in_ok-exponents.ensures.some;
}

pub returns : goal.returns
returns c =
    let split = YieldsList-from_str_split {s = c.into_iter-part-iterator.result} 44 c.args.text.now
    (lit< tt) (cc) (cc) (cc) in
    let whole = YieldsList-end split c.loop-part.yielded _ c.loop-part.yielded_by _ _ c.in-None.is
    c.next.ensures.steps in
    let read = ap numbers_of (sym whole.0) ∙ c.loop-part.invariant.read in
    let by = by_ok c.with_plan.result _ c.ok.result _
    (plan_of_exponents c.args.text.now _ c.args.seats c.args.stripes read)
    c.ok.ensures.value c.with_plan.ensures in
    record { some = by.0; none = by.1 }
