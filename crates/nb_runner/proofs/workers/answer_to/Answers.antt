use Rattle.std.proofs.Common.{refl, subst, subst₂, sym}
use Rattle.nb_runner.proofs.Answering.{by-add, by-found, by-get, by-matched, by-put}
use Rattle.nb_runner.specs.Working.{HasWorkedFor, IsAnswered}
use Rattle.nb_runner.specs.declared.answers.Answer.TheVariants.{Matched}
use Rattle.nb_script.specs.declared.script.Command.TheVariants as command
use Rattle.nb_runner.proofs.workers.answer_to.Goals as goal

pub returns-in-Get-clause-answered : goal.returns-in-Get-clause-answered
returns-in-Get-clause-answered g c =
    subst₂ (λ made a. IsAnswered c.args.map.now made a c.args.seat.now c.get.new.seat)
    (sym c.in-Get.is) (sym c.before-in-Get.ensures)
    (by-get c.args.map.now c.args.seat.now c.get.new.seat c.in-Get.key c.get.result
    c.get.ensures.replied)

pub returns-in-Put-clause-answered : goal.returns-in-Put-clause-answered
returns-in-Put-clause-answered g c =
    subst₂ (λ made a. IsAnswered c.args.map.now made a c.args.seat.now c.put.new.seat)
    (sym c.in-Put.is) (sym c.put-in-Put.ensures)
    (by-put c.args.map.now c.args.seat.now c.put.new.seat (command.Put c.in-Put.key c.in-Put.number)
    (λ reply. refl) c.put.result c.put.ensures.answered)

pub returns-in-PutIfAbsent-clause-answered : goal.returns-in-PutIfAbsent-clause-answered
returns-in-PutIfAbsent-clause-answered g c =
    subst₂ (λ made a. IsAnswered c.args.map.now made a c.args.seat.now c.put_if_absent.new.seat)
    (sym c.in-PutIfAbsent.is) (sym c.put-in-PutIfAbsent.ensures)
    (by-put c.args.map.now c.args.seat.now c.put_if_absent.new.seat
    (command.PutIfAbsent c.in-PutIfAbsent.key c.in-PutIfAbsent.number) (λ reply. refl)
    c.put_if_absent.result c.put_if_absent.ensures.answered)

pub returns-in-Replace-clause-answered : goal.returns-in-Replace-clause-answered
returns-in-Replace-clause-answered g c =
    subst₂ (λ made a. IsAnswered c.args.map.now made a c.args.seat.now c.replace.new.seat)
    (sym c.in-Replace.is) (sym c.before-in-Replace.ensures)
    (by-found c.args.map.now c.args.seat.now c.replace.new.seat
    (command.Replace c.in-Replace.key c.in-Replace.number) (λ reply. refl)
    c.replace.result c.replace.ensures.answered)

pub returns-in-ReplaceIf-clause-answered : goal.returns-in-ReplaceIf-clause-answered
returns-in-ReplaceIf-clause-answered g c =
    subst (λ made. IsAnswered c.args.map.now made (Matched c.replace_if.result)
    c.args.seat.now c.replace_if.new.seat) (sym c.in-ReplaceIf.is)
    (by-matched c.args.map.now c.args.seat.now c.replace_if.new.seat
    (command.ReplaceIf c.in-ReplaceIf.key c.in-ReplaceIf.old c.in-ReplaceIf.new) (λ reply. refl)
    c.replace_if.result c.replace_if.ensures.answered)

pub returns-in-Remove-clause-answered : goal.returns-in-Remove-clause-answered
returns-in-Remove-clause-answered g c =
    subst₂ (λ made a. IsAnswered c.args.map.now made a c.args.seat.now c.remove.new.seat)
    (sym c.in-Remove.is) (sym c.before-in-Remove.ensures)
    (by-found c.args.map.now c.args.seat.now c.remove.new.seat (command.Remove c.in-Remove.key)
    (λ reply. refl) c.remove.result c.remove.ensures.answered)

pub returns-in-RemoveIf-clause-answered : goal.returns-in-RemoveIf-clause-answered
returns-in-RemoveIf-clause-answered g c =
    subst (λ made. IsAnswered c.args.map.now made (Matched c.remove_if.result)
    c.args.seat.now c.remove_if.new.seat) (sym c.in-RemoveIf.is)
    (by-matched c.args.map.now c.args.seat.now c.remove_if.new.seat
    (command.RemoveIf c.in-RemoveIf.key c.in-RemoveIf.number) (λ reply. refl)
    c.remove_if.result c.remove_if.ensures.answered)

pub returns-in-Add-clause-answered : goal.returns-in-Add-clause-answered
returns-in-Add-clause-answered g c =
    subst₂ (λ made a. IsAnswered c.args.map.now made a c.args.seat.now c.add.new.seat)
    (sym c.in-Add.is) (sym c.added.ensures)
    (by-add c.args.map.now c.args.seat.now c.add.new.seat (command.Add c.in-Add.key c.in-Add.number)
    (λ reply. refl) c.add.result c.add.ensures.answered)

pub returns-in-Get-clause-worked : goal.returns-in-Get-clause-worked
returns-in-Get-clause-worked g c =
    subst (λ made. HasWorkedFor c.args.map.now made c.args.seat.now c.get.new.seat)
    (sym c.in-Get.is) (_, c.get.ensures.worked.steps)

pub returns-in-Put-clause-worked : goal.returns-in-Put-clause-worked
returns-in-Put-clause-worked g c =
    subst (λ made. HasWorkedFor c.args.map.now made c.args.seat.now c.put.new.seat)
    (sym c.in-Put.is) (_, c.put.ensures.non_blocking.steps)

pub returns-in-PutIfAbsent-clause-worked : goal.returns-in-PutIfAbsent-clause-worked
returns-in-PutIfAbsent-clause-worked g c =
    subst (λ made. HasWorkedFor c.args.map.now made c.args.seat.now c.put_if_absent.new.seat)
    (sym c.in-PutIfAbsent.is) (_, c.put_if_absent.ensures.non_blocking.steps)

pub returns-in-Replace-clause-worked : goal.returns-in-Replace-clause-worked
returns-in-Replace-clause-worked g c =
    subst (λ made. HasWorkedFor c.args.map.now made c.args.seat.now c.replace.new.seat)
    (sym c.in-Replace.is) (_, c.replace.ensures.non_blocking.steps)

pub returns-in-ReplaceIf-clause-worked : goal.returns-in-ReplaceIf-clause-worked
returns-in-ReplaceIf-clause-worked g c =
    subst (λ made. HasWorkedFor c.args.map.now made c.args.seat.now c.replace_if.new.seat)
    (sym c.in-ReplaceIf.is) (_, c.replace_if.ensures.non_blocking.steps)

pub returns-in-Remove-clause-worked : goal.returns-in-Remove-clause-worked
returns-in-Remove-clause-worked g c =
    subst (λ made. HasWorkedFor c.args.map.now made c.args.seat.now c.remove.new.seat)
    (sym c.in-Remove.is) (_, c.remove.ensures.non_blocking.steps)

pub returns-in-RemoveIf-clause-worked : goal.returns-in-RemoveIf-clause-worked
returns-in-RemoveIf-clause-worked g c =
    subst (λ made. HasWorkedFor c.args.map.now made c.args.seat.now c.remove_if.new.seat)
    (sym c.in-RemoveIf.is) (_, c.remove_if.ensures.non_blocking.steps)

pub returns-in-Add-clause-worked : goal.returns-in-Add-clause-worked
returns-in-Add-clause-worked g c =
    subst (λ made. HasWorkedFor c.args.map.now made c.args.seat.now c.add.new.seat)
    (sym c.in-Add.is) (_, c.add.ensures.non_blocking.steps)
