use Rattle.std.proofs.Common.{arith, refl}
use Rattle.nb_migration.specs.Pieces.{Start}
use Rattle.nb_migration.proofs.pieces.copy_all.Goals as goal

pub loop-done-init : goal.loop-done-init
loop-done-init c = record {
  rest = record { map = refl; reserve = refl };
  room = c.requires.room;
  within = omega arith;
  copied = Start;
}
