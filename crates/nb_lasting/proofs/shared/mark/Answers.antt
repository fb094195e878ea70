use Rattle.std.proofs.Common.{arith}
use Rattle.nb_lasting.proofs.Sharing.{mark_allowed}
use Rattle.nb_lasting.proofs.shared.mark.Goals as goal

pub compare_exchange-requires : goal.compare_exchange-requires
compare_exchange-requires c = (
  c.requires.table,
  omega (arith, c.requires.lane, c.args.hall.now.words),
  mark_allowed c.args.hall.now.table.shared.key c.args.hall.now.table.shared.table_id.slots c.args.token.now.id
      c.args.token.now.me c.args.lane 1 2 c.requires.lane (λ is. omega (arith, is)),
)
