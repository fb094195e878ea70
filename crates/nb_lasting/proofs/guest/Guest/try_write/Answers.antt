use Rattle.std.proofs.Common.{◌∙◌, Err, ap, subst}
use Rattle.nb_core.specs.declared.calls.Call.TheVariants.{Write}
use Rattle.nb_lasting.specs.Tries.{HasTriedAlone, IsUndone}
use Rattle.nb_lasting.proofs.Visiting.{then-tried}
use Rattle.nb_lasting.proofs.Working.{again-by, full-by, once-by}
use Rattle.nb_lasting.proofs.guest.Guest.try_write.Goals as goal

pub returns-in-Ok-clause-first : goal.returns-in-Ok-clause-first
returns-in-Ok-clause-first g c =
    once-by (Write c.args.key c.args.want.now c.args.change.now) c.args.self.now
    c.write_here.new.self c.write_here.result
    (λ none. subst IsUndone c.in-Ok.is none)
    c.write_here.ensures.visited c.write_here.ensures.wrote

pub returns-in-Err-ValueRange-clause-first : goal.returns-in-Err-ValueRange-clause-first
returns-in-Err-ValueRange-clause-first g c =
    once-by (Write c.args.key c.args.want.now c.args.change.now) c.args.self.now
    c.write_here.new.self c.write_here.result
    (λ none. subst IsUndone (c.in-Err-ValueRange.is ∙ ap Err c.in-Err-ValueRange.field-0-is) none)
    c.write_here.ensures.visited c.write_here.ensures.wrote

pub returns-in-Err-Contended-clause-first : goal.returns-in-Err-Contended-clause-first
returns-in-Err-Contended-clause-first g c =
    let call = Write c.args.key c.args.want.now c.args.change.now in
    again-by call c.args.self.now c.write_here.new.self
    (subst (HasTriedAlone call c.args.self.now.number c.args.self.now.account
    c.write_here.new.self.account)
    (c.in-Err-Contended.is ∙ ap Err c.in-Err-Contended.field-0-is) c.write_here.ensures.visited)

pub returns-in-Err-Full-clause-tried : goal.returns-in-Err-Full-clause-tried
returns-in-Err-Full-clause-tried g c =
    then-tried (Write c.args.key c.args.want.now c.args.change.now) c.args.self.now
    c.write_here.new.self c.write_or_renew.new.self c.write_or_renew.result
    c.in-Err-Full.ensures.wrote.0 c.write_or_renew.ensures.tried

pub returns-in-Err-Full-clause-first : goal.returns-in-Err-Full-clause-first
returns-in-Err-Full-clause-first g c =
    let call = Write c.args.key c.args.want.now c.args.change.now in
    full-by call c.args.self.now c.write_here.new.self c.write_or_renew.new.self
    c.write_or_renew.result
    (subst (HasTriedAlone call c.args.self.now.number c.args.self.now.account
    c.write_here.new.self.account) (c.in-Err-Full.is ∙ ap Err c.in-Err-Full.field-0-is)
    c.write_here.ensures.visited)
    c.in-Err-Full.ensures.wrote.0 c.write_or_renew.ensures.tried c.write_or_renew.ensures.on
