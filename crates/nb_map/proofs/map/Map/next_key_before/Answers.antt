use Rattle.std.proofs.Common.{◌≡◌, ℕ, ◌≤◌, ◌<◌, ap, refl, subst, subst₂, sym, arith}
use Rattle.std.proofs.lemmas.Bool.Decides.{nat_tests}
use Rattle.nb_core.specs.Plans.{Plan, size_of}
use Rattle.nb_map.proofs.WholeWalk.{gone-mine, walked-up-to}
use Rattle.nb_map.specs.Maps.{IsMine, SeatOf}
use Rattle.nb_map.specs.Promises.{HasWalkedUpTo}
use Rattle.nb_map.specs.Walks.{bound_at, walk_from}
use Rattle.nb_map.specs.inside.Models.{map_within, seat_of}
use Rattle.nb_map.specs.declared.steps.walk.Place.TheVariants.{End, Slot}
use Rattle.nb_map.proofs.map.Map.next_key_before.Goals as goal
use Rattle.nb_map.proofs.map.Map.next_key_before.Goals.{After-next_before, After-next_from}

-- the seat after the call, as it is inside
abbrev before-slot : After-next_before → SeatOf
before-slot c = record { chain = c.next_before.new.seat; count = c.seat.inside.count }

abbrev to-end : After-next_from → SeatOf
to-end c = record { chain = c.next_from.new.seat; count = c.seat.inside.count }

-- a bound in the table, or behind it
bound-slot :
    (p : Plan) (first end : ℕ) → end < size_of p first → bound_at p first end ≡ Slot first end
bound-slot p first end low = grind (arith, nat_tests)

bound-end : (p : Plan) (first end : ℕ) → size_of p first ≤ end → bound_at p first end ≡ End
bound-end p first end high = grind (arith, nat_tests)

pub returns-then-end-size_of-clause-own : goal.returns-then-end-size_of-clause-own
returns-then-end-size_of-clause-own c =
    let at = (goal.at.returns-then-end-size_of-clause-own c).After-next_before in
    let mine = subst₂ IsMine (sym c.self.view_is) (sym c.seat.view_is) c.requires.own in
    subst (λ map. IsMine map (before-slot at)) c.self.view_is
    (gone-mine (map_within c.self.inside) {before = seat_of c.seat.inside} {after = before-slot at}
    mine refl c.next_before.ensures.gone)

pub returns-else-end-size_of-clause-own : goal.returns-else-end-size_of-clause-own
returns-else-end-size_of-clause-own c =
    let at = (goal.at.returns-else-end-size_of-clause-own c).After-next_from in
    let mine = subst₂ IsMine (sym c.self.view_is) (sym c.seat.view_is) c.requires.own in
    subst (λ map. IsMine map (to-end at)) c.self.view_is
    (gone-mine (map_within c.self.inside) {before = seat_of c.seat.inside} {after = to-end at}
    mine refl c.next_from.ensures.gone)

pub returns-then-end-size_of-clause-walked : goal.returns-then-end-size_of-clause-walked
returns-then-end-size_of-clause-walked c = λ begun is.
    let at = (goal.at.returns-then-end-size_of-clause-walked c).After-next_before in
    let next = c.next_before in
    let m = c.args.self.now in
    let first = c.args.at.now.first in
    let size = ap (λ p. size_of p first) c.shape.ensures in
    let same = ap (λ map. size_of map.chain.shape first) c.self.view_is in
    let low : c.args.end < size_of m.chain.shape first
    = omega (arith, c.if-end-size_of.true, c.size_of.ensures.size, size, same) in
    subst (λ bound. HasWalkedUpTo m bound c.args.seat.now (before-slot at)
    (walk_from begun c.args.at.now)
    (walk_from begun (record { first = first; place = next.new.place })) next.result)
    (sym (bound-slot m.chain.shape first c.args.end low))
    (walked-up-to {after = before-slot at} c.self.view_is c.seat.view_is c.requires.own refl
    (Slot first c.args.end) c.args.at.now next.new.place next.result next.ensures.gone
    next.ensures.place next.ensures.ahead next.ensures.within next.ensures.ended begun is)

pub returns-else-end-size_of-clause-walked : goal.returns-else-end-size_of-clause-walked
returns-else-end-size_of-clause-walked c = λ begun is.
    let at = (goal.at.returns-else-end-size_of-clause-walked c).After-next_from in
    let next = c.next_from in
    let m = c.args.self.now in
    let first = c.args.at.now.first in
    let size = ap (λ p. size_of p first) c.shape.ensures in
    let same = ap (λ map. size_of map.chain.shape first) c.self.view_is in
    let high : size_of m.chain.shape first ≤ c.args.end
    = omega (arith, c.if-end-size_of.false, c.size_of.ensures.size, size, same) in
    subst (λ bound. HasWalkedUpTo m bound c.args.seat.now (to-end at)
    (walk_from begun c.args.at.now)
    (walk_from begun (record { first = first; place = next.new.place })) next.result)
    (sym (bound-end m.chain.shape first c.args.end high))
    (walked-up-to {after = to-end at} c.self.view_is c.seat.view_is c.requires.own refl End
    c.args.at.now next.new.place next.result next.ensures.gone next.ensures.place
    next.ensures.ahead (λ never. absurd never) next.ensures.ended begun is)
