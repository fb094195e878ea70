use Rattle.std.proofs.Common.{◌≡◌, ◌∙◌, Some, true, refl, subst, sym}
use Rattle.nb_core.specs.Calls.{same_number}
use Rattle.nb_migration.specs.Copying.{HasCopiedStill}
use Rattle.nb_migration.specs.Numbers.{frozen_of}
use Rattle.nb_migration.proofs.copying.copy_on.Goals as goal

pub returns-then-eq-clause-copied : goal.returns-then-eq-clause-copied
returns-then-eq-clause-copied c =
    let target = c.args.target.now in
    let same : same_number c.get.result (Some (frozen_of c.args.number)) ≡ true =
    subst (λ n. same_number c.get.result (Some n) ≡ true) c.frozen.ensures.number
    (sym c.eq.ensures ∙ c.if-eq.true) in (
      c.get.result,
      c.get.ensures.got,
      subst (λ b. HasCopiedStill b target.map c.args.key c.args.number target.seat
          c.copy.new.target.seat (Some c.copy.result)) (sym same)
          (c.copy.result, refl, c.copy.ensures.copied),
    )
