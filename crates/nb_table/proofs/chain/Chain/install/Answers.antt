use Rattle.std.proofs.Common.{◌∙◌, ◌<◌, ap, arith, cond, eqb, subst, sym}
use Rattle.nb_core.specs.Plans.{Header, header_place, limit_of, word_count}
use Rattle.nb_table.proofs.Events.{install_events}
use Rattle.nb_table.specs.Steps.{Can}
use Rattle.nb_table.proofs.Keys.{can-install, exchange-installs}
use Rattle.nb_table.proofs.chain.Chain.install.Goals as goal
use Rattle.nb_core.proofs.Theorems.{indices_are_distinct}

pub exchanges-found-requires-clause-within : goal.exchanges-found-requires-clause-within
exchanges-found-requires-clause-within c =
    let p = c.args.self.now.shape in
    let at_index = c.header_word_place-index.ensures
    ∙ ap (λ v. header_place v.shape c.args.g 0) c.self.view_is in
    subst (λ index. index < word_count p) (sym at_index)
    ((indices_are_distinct p c.requires.own.plan).below (Header c.args.g 0)
    (omega (arith, c.requires.room), omega arith))

pub exchanges-found-requires-clause-can : goal.exchanges-found-requires-clause-can
exchanges-found-requires-clause-can c =
    let p = c.args.self.now.shape in
    let seat = c.args.seat.now in
    let at_index = c.header_word_place-index.ensures
    ∙ ap (λ v. header_place v.shape c.args.g 0) c.self.view_is in
    let limit = limit_of p c.args.g in
    let events = install_events seat.number c.args.g c.args.key in
    subst (λ index. Can p events seat.number seat.seen index (λ found. cond (eqb found 0) 1 found))
    (sym at_index)
    (can-install p seat.number c.args.g seat.seen c.args.key c.requires.room c.requires.ready
    c.requires.crowded
    c.known.ensures)

pub returns-clause-installed : goal.returns-clause-installed
returns-clause-installed c =
    let p = c.args.self.now.shape in
    let at_index = c.header_word_place-index.ensures
    ∙ ap (λ v. header_place v.shape c.args.g 0) c.self.view_is in
    exchange-installs p c.args.seat.now.number c.args.g c.args.key _ _ _ _ at_index
    c.exchanges-found.ensures
    c.requires.own.plan (omega (arith, c.requires.room))
