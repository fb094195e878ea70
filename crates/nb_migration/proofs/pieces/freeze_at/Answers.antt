use Rattle.std.proofs.Common.{Some, max, subst}
use Rattle.nb_migration.specs.Pieces.{HasFrozenKey}
use Rattle.nb_migration.proofs.pieces.freeze_at.Goals as goal

pub returns-in-Some-clause-frozen : goal.returns-in-Some-clause-frozen
returns-in-Some-clause-frozen c = (
  Some c.in-Some.key,
  c.key_at.new.self.seat,
  c.in-Some.ensures.found,
  (
    c.freeze_there.result,
    c.told_of_key.ensures,
    subst (λ map. HasFrozenKey map c.in-Some.key c.key_at.new.self.seat c.freeze_there.new.core.seat
        (max c.args.tries 1) c.freeze_there.result) c.in-Some.ensures.rest.map
        c.freeze_there.ensures.frozen,
  ),
)
