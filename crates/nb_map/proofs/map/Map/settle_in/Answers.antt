use Rattle.std.proofs.Common.{◌≡◌, length, subst, sym}
use Rattle.nb_map.proofs.Paired.{own-chains, own-counts}
use Rattle.nb_map.proofs.Settled.{each-mine, have-settled}
use Rattle.nb_map.specs.inside.Models.{IsParted, map_within}
use Rattle.nb_map.specs.Maps.{AreMine}
use Rattle.nb_map.specs.Settling.{HaveSettled}
use Rattle.nb_map.proofs.map.Map.settle_in.Goals as goal

pub settle-requires-clause-own : goal.settle-requires-clause-own
settle-requires-clause-own c =
    let mine = subst (λ m. AreMine m c.args.seats.now.items) (sym c.self.view_is) c.requires.own in
    own-chains (map_within c.self.inside) _ _ _ c.parted-chain_seats.ensures.parted mine

pub settle-size-requires-clause-own : goal.settle-size-requires-clause-own
settle-size-requires-clause-own c =
    let mine = subst (λ m. AreMine m c.args.seats.now.items) (sym c.self.view_is) c.requires.own in
    own-counts (map_within c.self.inside) _ _ _ c.parted-chain_seats.ensures.parted mine

pub returns-clause-settled : goal.returns-clause-settled
returns-clause-settled c =
    let mine = subst (λ m. AreMine m c.args.seats.now.items) (sym c.self.view_is) c.requires.own in
    let again = subst (IsParted c.pair.new.seats.items c.settle.new.seats.items)
    c.settle-size.ensures.same c.pair.ensures in
    let all = subst (λ m. length c.args.seats.now.items ≡ m.chain.shape.seats) (sym c.self.view_is)
    c.requires.all in
    subst (λ m. HaveSettled m c.args.seats.now.items c.pair.new.seats.items c.settle-size.result)
    c.self.view_is
    (have-settled (map_within c.self.inside) c.self.invariant.plan _ _ _ _ _ _
    c.parted-chain_seats.ensures.parted again c.settle.ensures.settled all mine
    c.settle-size.ensures.sum)

pub returns-clause-own : goal.returns-clause-own
returns-clause-own c =
    each-mine c.args.self.now _ c.args.seats.now.items c.pair.new.seats.items
    (returns-clause-settled c).each
