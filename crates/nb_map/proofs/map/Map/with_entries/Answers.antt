use Rattle.std.proofs.Common.{◌≡◌, ◌∙◌, [], Some, ap, length, sym, subst, arith}
use Rattle.std.proofs.lemmas.List.Elements.{All-pop}
use Rattle.std.proofs.lemmas.List.FromFn.{length-map-range_with_len}
use Rattle.nb_core.proofs.Seating.{none-left}
use Rattle.nb_map.proofs.Held.{mine-more}
use Rattle.nb_map.proofs.Opened.{filled-mine, filled-small, filled-whole}
use Rattle.nb_map.specs.Maps.{IsMine, new_seat, new_seats}
use Rattle.nb_map.specs.Opening.{IsTooSmallFor, map_of_entries}
use Rattle.nb_map.proofs.map.Map.with_entries.Goals as goal

pub unreachable-requires : goal.unreachable-requires
unreachable-requires c =
    let made = c.in_ok-map.ensures in
    let none : c.in_ok-map.seats.items ≡ []
    = none-left c.in_ok-map.seats.items
    (λ some. c.in_default.ensures.variant.1 (omega (arith, some, c.in_ok-map.seats.ok))) in
    omega (
      arith,
      ap length none,
      ap length made.seats,
      length-map-range_with_len (new_seat c.in_ok-map.map) 0 c.args.shape.seats,
      ap (λ p. p.seats) made.map,
      made.plan.seats.0,
    )

pub fill-filled-requires : goal.fill-filled-requires
fill-filled-requires c = record {
  own = (All-pop (IsMine c.in_ok-map.map) c.in_ok-map.seats.items c.pop.new.self.items
      (Some c.in-Some.last) c.in-Some.ensures.items c.in_ok-map.ensures.own).1;
}

pub settle-requires : goal.settle-requires
settle-requires c = record {
  own = mine-more c.in_ok-map.map c.pop.new.self.items c.push_reserved.new.self.items
      c.fill-filled.new.seat c.push_reserved.ensures.items
      (All-pop (IsMine c.in_ok-map.map) c.in_ok-map.seats.items c.pop.new.self.items
      (Some c.in-Some.last) c.in-Some.ensures.items c.in_ok-map.ensures.own).0
      (filled-mine c.in_ok-map.map c.args.entries.now c.in-Some.last c.fill-filled.new.seat
      c.fill-filled.result c.fill-filled.ensures);
}

pub returns-then-filled-clause-begun : goal.returns-then-filled-clause-begun
returns-then-filled-clause-begun c =
    let m = c.in_ok-map.map in
    let made = c.in_ok-map.ensures in
    let new = ap (λ p. new_seats m p.seats) made.map ∙ sym made.seats ∙ c.in-Some.ensures.items in
    filled-whole m c.args.entries.now c.pop.new.self.items c.in-Some.last c.fill-filled.new.seat
    c.push_reserved.new.self.items c.settle.new.seats.items c.in-Ok.field-0 new
    c.push_reserved.ensures.items c.in-Ok.ensures.settled c.if-filled.ensures

pub returns-else-filled-clause-full : goal.returns-else-filled-clause-full
returns-else-filled-clause-full c = λ full.
    let m = c.in_ok-map.map in
    let made = c.in_ok-map.ensures in
    let new = ap (λ p. new_seats m p.seats) made.map ∙ sym made.seats ∙ c.in-Some.ensures.items in
    subst (λ p. IsTooSmallFor p (map_of_entries c.args.entries.now)) made.map
    (filled-small m c.args.entries.now c.pop.new.self.items c.in-Some.last c.fill-filled.new.seat
    c.push_reserved.new.self.items c.settle.new.seats.items c.in-Ok.field-0 new
    c.push_reserved.ensures.items c.in-Ok.ensures.settled c.if-filled.ensures)
