use Rattle.std.proofs.Common.{◌∙◌, ◌<◌, ap, arith, replicate}
use Rattle.nb_core.proofs.Seating.{dealing-count, dealing-done, dealing-first, dealing-more, dealing-next}
use Rattle.nb_table.specs.Chains.{ChainOf, new_seat}
use Rattle.nb_table.proofs.Opening.{count-words, deals, opens, some-words}
use Rattle.nb_table.proofs.Dealt.{dealt-is_seat, dealt-own, dealt-seat_of}
use Rattle.nb_table.proofs.chain.Chain.new.Goals as goal

pub of_words-requires : goal.of_words-requires
of_words-requires c =
    opens c.args.shape c.as_slice.result.now c.seats.ensures.plan.seats.0
    (c.as_slice.ensures.value ∙ c.in_ok-words.ensures.items_if_clones_equal (λ y e. e)
    ∙ ap (λ n. replicate n 0) c.words.ensures)

pub invariant_of-chain : goal.invariant_of-chain
invariant_of-chain c =
    let zeros = c.as_slice.ensures.value ∙ c.in_ok-words.ensures.items_if_clones_equal (λ y e. e)
    ∙ ap (λ n. replicate n 0) c.words.ensures in
    record {
      key = c.in_ok-table.ensures.5;
      words = c.in_ok-table.ensures.0 ∙ count-words c.args.shape _ zeros;
      slots = c.in_ok-table.ensures.1;
      plan = c.seats.ensures.plan;
    }

pub loop-number-init : goal.loop-number-init
loop-number-init c = (
  c.in_ok-table.ensures.2,
  dealing-first (ap (λ m. m.0.parts) c.in_ok-table.ensures.4) c.in_ok-dealt.ensures.items,
  omega (arith, c.in_ok-dealt.ensures.capacity, c.seats.ensures.number),
)

pub split_seat-seat-requires : goal.split_seat-seat-requires
split_seat-seat-requires c =
    let zeros = c.as_slice.ensures.value ∙ c.in_ok-words.ensures.items_if_clones_equal (λ y e. e)
    ∙ ap (λ n. replicate n 0) c.words.ensures in (
      c.loop-number.invariant.0,
      omega (
        arith,
        c.in_ok-table.ensures.0,
        count-words c.args.shape _ zeros,
        some-words c.args.shape,
      ),
      deals _ _ _,
    )

pub invariant_of-push_reserved : goal.invariant_of-push_reserved
invariant_of-push_reserved c =
    let below : c.loop-number._number < c.args.shape.seats
    = omega (arith, c.loop-number-test.true, c.seats-number-end.ensures.number) in
    dealt-is_seat c.split_seat-seat.result c.loop-number.rest.me.0
    c.loop-number._number c.split_seat-seat.ensures.4 (dealing-next c.loop-number.invariant.1 below)

pub push_reserved-requires : goal.push_reserved-requires
push_reserved-requires c =
    omega (
      arith,
      dealing-count c.loop-number.invariant.1,
      c.loop-number.invariant.2,
      c.loop-number-test.true,
      c.seats-number-end.ensures.number,
    )

pub loop-number-preserved : goal.loop-number-preserved
loop-number-preserved c =
    let number = c.loop-number._number in
    let dealing = c.loop-number.invariant.1 in
    let below : number < c.args.shape.seats
    = omega (arith, c.loop-number-test.true, c.seats-number-end.ensures.number) in
    let seat = dealt-seat_of c.split_seat-seat.result c.loop-number.rest.me.0 number
    c.split_seat-seat.ensures.4 (dealing-next dealing below)
    ∙ ap (λ id. new_seat id number) (c.split_seat-seat.ensures.3 ∙ c.loop-number.invariant.0) in (
      c.split_seat-seat.ensures.0 ∙ c.loop-number.invariant.0,
      dealing-more dealing below (ap (λ m. m.0.parts) c.split_seat-seat.ensures.2)
          c.push_reserved.ensures.items seat,
      omega (arith, c.loop-number.invariant.2, c.push_reserved.ensures.capacity),
    )

pub returns-clause-seats : goal.returns-clause-seats
returns-clause-seats c =
    dealing-done c.loop-number.invariant.1
    (omega (arith, c.loop-number-test.false, c.seats-number-end.ensures.number))
    (omega (arith, c.loop-number.auto._number-end, c.seats-number-end.ensures.number))

pub returns-clause-own : goal.returns-clause-own
returns-clause-own c =
    let p = c.args.shape in
    let chain : ChainOf = record { id = c.in_ok-table.table.shared.table_id; shape = p } in
    dealt-own chain c.seats.ensures.plan _ p.seats (returns-clause-seats c)
