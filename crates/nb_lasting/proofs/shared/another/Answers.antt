use Rattle.std.proofs.Common.{arith}
use Rattle.nb_lasting.proofs.Sharing.{forks}
use Rattle.nb_lasting.proofs.shared.another.Goals as goal

pub split_seat-requires : goal.split_seat-requires
split_seat-requires c = (
  c.requires.table,
  omega (arith, c.args.hall.now.words, c.args.hall.now.some),
  forks c.args.hall.now.table.shared.key c.args.token.now.id c.args.token.now.me.0 c.requires.room.0
      c.requires.room.1 c.requires.room.2,
)
