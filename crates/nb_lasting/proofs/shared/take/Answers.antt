use Rattle.std.proofs.Common.{◌≡◌, refl, subst, arith}
use Rattle.std.proofs.lemmas.Bool.Decides.{nat_tests}
use Rattle.nb_lasting.proofs.Sharing.{take_allowed}
use Rattle.nb_lasting.specs.Shared.{FitsLanes}
use Rattle.nb_lasting.proofs.shared.take.Goals as goal

pub compare_exchange-requires : goal.compare_exchange-requires
compare_exchange-requires c = (
  c.requires.table,
  omega (arith, c.requires.lane, c.args.hall.now.words),
  take_allowed c.args.hall.now.table.shared.key c.args.hall.now.table.shared.table_id.slots c.args.token.now.id
      c.args.token.now.me c.args.lane c.requires.lane c.args.out c.requires.out,
)

pub returns-clause-taken : goal.returns-clause-taken
returns-clause-taken c good =
    let home : c.compare_exchange.result ≡ 0 = grind (arith, nat_tests, good) in
    (c.compare_exchange.ensures.2.0 home c.args.lane refl).0

pub returns-clause-seated : goal.returns-clause-seated
returns-clause-seated c good =
    let home : c.compare_exchange.result ≡ 0 = grind (arith, nat_tests, good) in
    subst (λ n. FitsLanes n c.compare_exchange.new.seat.me.0) c.args.hall.now.slots
    (c.compare_exchange.ensures.2.0 home c.args.lane refl).1
