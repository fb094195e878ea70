use Rattle.std.proofs.Common.{◌∙◌, ◌*◌, ◌%◌, [], ap, refl, arith}
use Rattle.nb_core.proofs.Seating.{dealing-count, dealing-done, dealing-first, dealing-more, dealing-next}
use Rattle.nb_count.specs.Counts.{new_seat}
use Rattle.nb_count.specs.declared.tally.TheConstants.{SPREAD}
use Rattle.nb_count.specs.declared.counter.CountSeat.TheInside.{Inside}
use Rattle.nb_count.proofs.Dealt.{count-words, dealt-is_seat, dealt-own, dealt-seat_of, opens-zeros}
use Rattle.nb_count.proofs.Keeping.{splits}
use Rattle.nb_count.proofs.counter.Counter.new.Goals as goal

pub of_words-requires : goal.of_words-requires
of_words-requires c = opens-zeros (record { stripes = c.args.stripes; seats = c.args.seats }) _
    (c.as_slice.ensures.value ∙ c.in_ok-words.ensures.items_if_clones_equal (λ y e. e))

pub loop-number-init : goal.loop-number-init
loop-number-init c = (
  c.in_ok-table.ensures.2,
  dealing-first (ap (λ m. m.0) c.in_ok-table.ensures.4) c.in_ok-dealt.ensures.items,
  c.in_ok-dealt.ensures.capacity,
)

pub split_seat-seat-requires : goal.split_seat-seat-requires
split_seat-seat-requires c =
    let count = count-words (record { stripes = c.args.stripes; seats = c.args.seats }) _
    (c.as_slice.ensures.value ∙ c.in_ok-words.ensures.items_if_clones_equal (λ y e. e)) in
    let words = c.in_ok-table.ensures.0 in
    (c.loop-number.invariant.0, omega (arith, words, count, c.requires.stripes.0), splits _ _ _)

pub invariant_of-push_reserved : goal.invariant_of-push_reserved
invariant_of-push_reserved c =
    let s : Inside = record {
      index = SPREAD * (c.loop-number.number % c.args.stripes);
      seat =
          c.split_seat-seat.result;
    } in
    let next = dealing-next c.loop-number.invariant.1 c.loop-number-test.true in
    let count = count-words (record { stripes = c.args.stripes; seats = c.args.seats }) _
    (c.as_slice.ensures.value ∙ c.in_ok-words.ensures.items_if_clones_equal (λ y e. e)) in
    let table = c.split_seat-seat.ensures.3 ∙ c.loop-number.invariant.0 in
    dealt-is_seat s c.loop-number.number (c.split_seat-seat.ensures.4 ∙ ap (λ ts. (ts, [])) next)
    c.args.stripes refl
    (ap (λ t. t.words) table ∙ c.in_ok-table.ensures.0 ∙ count)

pub push_reserved-requires : goal.push_reserved-requires
push_reserved-requires c =
    let count = dealing-count c.loop-number.invariant.1 in
    omega (arith, count, c.loop-number.invariant.2, c.loop-number-test.true)

pub loop-number-preserved : goal.loop-number-preserved
loop-number-preserved c =
    let index = SPREAD * (c.loop-number.number % c.args.stripes) in
    let s : Inside = record { index = index; seat = c.split_seat-seat.result } in
    let dealing = c.loop-number.invariant.1 in
    let next = dealing-next dealing c.loop-number-test.true in
    let number = c.loop-number.number in
    let own = c.loop-number.invariant.0 in
    let seat = dealt-seat_of s number (c.split_seat-seat.ensures.4 ∙ ap (λ ts. (ts, [])) next)
    ∙ ap (λ id. new_seat id number) (c.split_seat-seat.ensures.3 ∙ own) in (
      c.split_seat-seat.ensures.0 ∙ own,
      dealing-more dealing c.loop-number-test.true (ap (λ m. m.0) c.split_seat-seat.ensures.2)
          c.push_reserved.ensures.items seat,
      omega (arith, c.loop-number.invariant.2, c.push_reserved.ensures.capacity),
    )

pub returns-clause-seats : goal.returns-clause-seats
returns-clause-seats c =
    dealing-done c.loop-number.invariant.1 c.loop-number-test.false c.loop-number.auto.number-end

pub returns-clause-own : goal.returns-clause-own
returns-clause-own c =
    let id = c.in_ok-table.table.shared.table_id in
    dealt-own (record { id = id; stripes = c.args.stripes; seats = c.args.seats }) _ c.args.seats
    (returns-clause-seats c)
