use Rattle.std.proofs.Common.{arith, rules}
use Rattle.std.proofs.lemmas.List.{length-take}
use Rattle.std.proofs.lemmas.Result.{err_from_is_err_and}
use Rattle.nb_script.specs.declared.faults.RunFault.TheVariants as fault
use Rattle.nb_script.proofs.Taken.{fault_along, fault_of_end, fault_of_failure, fault_of_read, read_more}
use Rattle.nb_script.proofs.reader.read_script.Goals as goal

pub loop-count-preserved : goal.loop-count-preserved
loop-count-preserved g c = (
  read_more _ _ _ _ _ _ _ c.loop-count.invariant.0 c.in-Ok.ensures.bytes.0
      c.in_ok-take_all.ensures.ok,
  search rules,
  search rules,
  search rules,
  search rules,
)

pub returns-in_default-clause-fault : goal.returns-in_default-clause-fault
returns-in_default-clause-fault g c =
    fault_along _ _ _ (g.R.Source.remaining c.read.new.self.reader.now) fault.Read (search rules)
    (fault_of_failure _ _ _ _ _ c.loop-count.invariant.0 c.in_default.ensures.bytes)

pub returns-in_err-end_text-clause-fault : goal.returns-in_err-end_text-clause-fault
returns-in_err-end_text-clause-fault g c =
    let p = err_from_is_err_and c.from_residual.result c.from_residual.ensures.1 in
    rw (p.1, p.2)
    (fault_along _ _ _ (g.R.Source.remaining c.read.new.self.reader.now) _ (search rules)
    (fault_of_end _ _ _ _ _ _ _ c.loop-count.invariant.0 c.in-Ok.ensures.bytes.0
    (c.in-Ok.ensures.bytes.1 c.if-count-eq0.true (omega (arith, c.loop-count.invariant.3)))
    c.if-count-eq0.true _ c.in_err-end_text.ensures.fault))

pub returns-in_err-take_all-clause-fault : goal.returns-in_err-take_all-clause-fault
returns-in_err-take_all-clause-fault g c =
    let p = err_from_is_err_and c.from_residual-in_err-take_all.result
    c.from_residual-in_err-take_all.ensures.1 in
    rw (p.1, p.2)
    (fault_along _ _ _ (g.R.Source.remaining c.read.new.self.reader.now) _ (search rules)
    (fault_of_read _ _ _ _ _ _ c.loop-count.invariant.0 c.in-Ok.ensures.bytes.0
    (omega (arith, c.loop-count.invariant.3, length-take c.in-Ok.count c.read.new.buffer))
    _ c.in_err-take_all.ensures.fault))
