use Rattle.std.proofs.Common.{◌∙◌, Ok, ap, subst}
use Rattle.nb_core.specs.declared.calls.Call.TheVariants.{Write}
use Rattle.nb_lasting.specs.inside.Guests.{GuestHasTried, HasTriedFirst}
use Rattle.nb_lasting.proofs.Visiting.{then-refused-if, then-wrote-if}
use Rattle.nb_lasting.proofs.Working.{then-once}
use Rattle.nb_lasting.proofs.guest.Guest.write.Goals as goal

pub returns-in-Ok-None-clause-wrote : goal.returns-in-Ok-None-clause-wrote
returns-in-Ok-None-clause-wrote g c =
    let call = Write c.args.key c.args.want.now c.args.change.now in
    then-wrote-if call c.args.self.now c.try_write.new.self c.write_on.new.self c.write_on.result
    (subst (GuestHasTried call c.args.self.now c.try_write.new.self)
    (c.in-Ok-None.is ∙ ap Ok c.in-Ok-None.field-0-is) c.try_write.ensures.tried)
    c.write_on.ensures.wrote

pub returns-in-Ok-None-clause-refused : goal.returns-in-Ok-None-clause-refused
returns-in-Ok-None-clause-refused g c =
    let call = Write c.args.key c.args.want.now c.args.change.now in
    then-refused-if call c.args.self.now c.try_write.new.self c.write_on.new.self
    c.write_on.result
    (subst (GuestHasTried call c.args.self.now c.try_write.new.self)
    (c.in-Ok-None.is ∙ ap Ok c.in-Ok-None.field-0-is) c.try_write.ensures.tried)
    c.write_on.ensures.refused

pub returns-in-Ok-None-clause-once : goal.returns-in-Ok-None-clause-once
returns-in-Ok-None-clause-once g c =
    let call = Write c.args.key c.args.want.now c.args.change.now in
    then-once call c.args.self.now c.try_write.new.self c.write_on.new.self
    (subst (HasTriedFirst call c.args.self.now c.try_write.new.self)
    (c.in-Ok-None.is ∙ ap Ok c.in-Ok-None.field-0-is) c.try_write.ensures.first)
    (subst (GuestHasTried call c.args.self.now c.try_write.new.self)
    (c.in-Ok-None.is ∙ ap Ok c.in-Ok-None.field-0-is) c.try_write.ensures.tried)
    c.write_on.ensures.once
