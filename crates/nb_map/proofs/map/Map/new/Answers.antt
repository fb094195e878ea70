use Rattle.std.proofs.Common.{◌∙◌, ap, ap₂, sym, subst, arith}
use Rattle.std.proofs.lemmas.List.{nil_from_length}
use Rattle.nb_core.specs.Plans.{IsPlan}
use Rattle.nb_count.specs.Counts as counts
use Rattle.nb_table.specs.Chains as chains
use Rattle.nb_table.specs.Inside.{chain_of}
use Rattle.nb_map.specs.Maps.{MapOf, new_seats}
use Rattle.nb_map.proofs.Paired.{dealing-count, dealing-done, dealing-first, dealing-more, new-logs, new-mine}
use Rattle.nb_map.proofs.map.Map.new.Goals as goal

pub loop-chain-init : goal.loop-chain-init
loop-chain-init c =
    let shape = ap (λ v. v.shape) c.chain.view_is ∙ c.in_ok-chain.ensures.chain in
    let seats = ap (λ q. q.seats) (sym shape) in
    let chains = c.in_ok-chain.ensures.seats
    ∙ ap₂ chains.new_seats (ap (λ v. v.id) (sym c.chain.view_is)) seats in
    let counts = c.in_ok-counter.ensures.seats
    ∙ ap (counts.new_seats c.in_ok-counter.counter.id) (c.seats-2.ensures.number ∙ seats) in
    let m : MapOf = record { chain = chain_of c.chain.inside; counter = c.in_ok-counter.counter } in
    let d = dealing-first m _ _ _ chains counts c.in_ok-seats.ensures.items in
    let many = dealing-count d in (
      d,
      omega (arith, many, seats, c.in_ok-seats.ensures.len, c.in_ok-chain.chain_seats.ok),
      omega (arith, many, seats, c.in_ok-seats.ensures.len, c.in_ok-counter.count_seats.ok),
      omega (arith, c.in_ok-seats.ensures.capacity, c.seats.ensures.number),
    )

pub push_reserved-requires : goal.push_reserved-requires
push_reserved-requires c =
    let many = dealing-count c.loop-chain.invariant.0 in
    let shape = ap (λ v. v.shape.seats) c.chain.view_is
    ∙ ap (λ q. q.seats) c.in_ok-chain.ensures.chain in
    omega (arith, many, shape, c.loop-chain.invariant, c.in-Some.ensures, c.pop.ensures)

pub loop-chain-smaller-in-Some-pop : goal.loop-chain-smaller-in-Some-pop
loop-chain-smaller-in-Some-pop c = omega (arith, c.in-Some.ensures.len)

pub loop-chain-preserved-in-Some-pop : goal.loop-chain-preserved-in-Some-pop
loop-chain-preserved-in-Some-pop c = (
  dealing-more c.loop-chain.invariant.0 _ _ _ _ _ c.in-Some.ensures.items
      c.in-Some-pop.ensures.items c.push_reserved.ensures.items,
  omega (arith, c.loop-chain.invariant, c.in-Some.ensures.capacity),
  omega (arith, c.loop-chain.invariant, c.in-Some-pop.ensures.capacity),
  omega (arith, c.loop-chain.invariant, c.push_reserved.ensures.capacity),
)

pub loop-chain-smaller : goal.loop-chain-smaller
loop-chain-smaller c = omega (arith, c.in-Some.ensures.len)

pub loop-chain-preserved : goal.loop-chain-preserved
loop-chain-preserved c =
    let many = dealing-count c.loop-chain.invariant.0 in
    absurd (omega (arith, many, c.in-Some.ensures.len, c.in_default-pop.ensures))

pub invariant_of-map : goal.invariant_of-map
invariant_of-map c =
    let shape = ap (λ q. q.seats) c.in_ok-chain.ensures.chain in
    record {
      plan = subst IsPlan (sym c.in_ok-chain.ensures.chain) c.seats.ensures.plan;
      seats = c.in_ok-counter.ensures.counter.1 ∙ c.seats-2.ensures.number ∙ sym shape;
      chain_room = omega (arith, shape, c.seats-3.ensures.number, c.in_ok-chain_room.ensures);
      count_room = omega (arith, shape, c.seats-4.ensures.number, c.in_ok-count_room.ensures);
    }

pub returns-clause-seats : goal.returns-clause-seats
returns-clause-seats c =
    let none = nil_from_length c.loop-chain.chain_seats.items
    (omega (arith, c.in_default.ensures)) in
    let counter = c.in_ok-counter.counter in
    c.reverse.ensures.items ∙ dealing-done c.loop-chain.invariant.0 none
    ∙ ap (λ chain. new_seats (record { chain = chain; counter = counter }) chain.shape.seats)
    c.chain.view_is
    ∙ ap (λ q. new_seats (record { chain = c.in_ok-chain.chain; counter = counter }) q.seats)
    c.in_ok-chain.ensures.chain

pub returns-clause-own : goal.returns-clause-own
returns-clause-own c =
    new-mine (record { chain = c.in_ok-chain.chain; counter = c.in_ok-counter.counter })
    (subst IsPlan (sym c.in_ok-chain.ensures.chain) c.seats.ensures.plan) _ _
    (returns-clause-seats c)

pub returns-clause-empty : goal.returns-clause-empty
returns-clause-empty c =
    new-logs (record { chain = c.in_ok-chain.chain; counter = c.in_ok-counter.counter }) _ _
    (returns-clause-seats c)

pub returns-clause-plan : goal.returns-clause-plan
returns-clause-plan c = subst IsPlan (sym c.in_ok-chain.ensures.chain) c.seats.ensures.plan
