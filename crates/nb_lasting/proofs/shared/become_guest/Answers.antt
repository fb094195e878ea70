use Rattle.std.proofs.Common.{arith}
use Rattle.nb_lasting.proofs.Merging.{merges}
use Rattle.nb_lasting.proofs.shared.become_guest.Goals as goal

pub join_seat-requires : goal.join_seat-requires
join_seat-requires c = (
  c.requires.table.0,
  c.requires.table.1,
  c.requires.idle.1,
  omega (arith, c.args.hall.now.words, c.args.hall.now.some),
  merges c.args.hall.now.table.shared.key c.args.token.now.id c.args.other.id c.args.token.now.me.0
      c.args.other.me.0 c.requires.idle.0,
)
