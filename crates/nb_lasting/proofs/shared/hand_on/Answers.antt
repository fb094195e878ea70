use Rattle.std.proofs.Common.{arith}
use Rattle.nb_lasting.proofs.Handing.{hands}
use Rattle.nb_lasting.proofs.shared.hand_on.Goals as goal

pub split_seat-requires : goal.split_seat-requires
split_seat-requires c = (
  c.requires.table,
  omega (arith, c.args.hall.now.words, c.args.hall.now.some),
  hands c.args.hall.now.table.shared.key c.args.token.now.id c.args.token.now.me.0,
)
