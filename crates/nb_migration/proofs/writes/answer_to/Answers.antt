use Rattle.std.proofs.Common.{Ok, ap, subst, true, ◌≡◌, ◌∙◌}
use Rattle.std.specs.Prelude.{nat_le}
use Rattle.nb_core.specs.declared.calls.Call.TheVariants as call
use Rattle.nb_migration.specs.declared.numbers.TheConstants.{USER_MAX}
use Rattle.nb_migration.proofs.Replied.{answered_at, new_is}
use Rattle.nb_migration.proofs.writes.answer_to.Goals as goal

pub returns-in_default : goal.returns-in_default
returns-in_default c = λ key. rw c.in_default.is (ap Ok (c.answer_at_none.ensures key))

pub returns-in-Ok : goal.returns-in-Ok
returns-in-Ok c = λ key.
    let made = new_is c.get.result c.in-Ok.there _ c.new.result c.new.ensures c.in-Ok.is in
    rw c.in-Some.is
    (answered_at (call.Write key c.args.want.now c.args.change.now) c.answer_at.result
    c.in-Some.there c.in-Ok.there (made.0 ∙ c.get.ensures.number)
    (subst (λ n. nat_le n USER_MAX ≡ true) c.get.ensures.number made.1) (c.answer_at.ensures key))
