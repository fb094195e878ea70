use Rattle.std.proofs.Common.{◌∙◌, ap, sym}
use Rattle.std.specs.Prelude.{◌-◌, cond, not}
use Rattle.nb_lasting.specs.inside.Guests.{with_calls_left}
use Rattle.nb_lasting.proofs.guest.Guest.count.Goals as goal

pub returns-else-is_none : goal.returns-else-is_none
returns-else-is_none c =
    let old = c.args.self.now in
    sym (ap (λ b. with_calls_left (cond b old.left (old.left - 1)) old)
    (c.is_none.ensures ∙ ap not c.if-is_none.false))
