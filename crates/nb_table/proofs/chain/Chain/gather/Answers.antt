use Rattle.std.specs.Option.{option_to_list}
use Rattle.std.proofs.Common.{◌∙◌, ◌++◌, Some, map, subst, ap, sym, arith}
use Rattle.std.specs.List.Sorted.{IsPermutation}
use Rattle.std.proofs.lemmas.List.{append-nil}
use Rattle.std.proofs.lemmas.List.Elements.{All-pop}
use Rattle.nb_core.proofs.Seating.{gathered-first, gathered-more, none-left}
use Rattle.nb_table.specs.Chains.{IsOwn}
use Rattle.nb_table.specs.Inside.{forgotten, seat_with}
use Rattle.nb_table.proofs.Gathered.{forgotten-pop, one-seat}
use Rattle.nb_table.proofs.Meeting.{joins}
use Rattle.nb_table.proofs.Opening.{some-words}
use Rattle.nb_table.proofs.chain.Chain.gather.Goals as goal

pub loop-other-init : goal.loop-other-init
loop-other-init c =
    let id = c.args.self.now.id in
    let items = c.pop.ensures.items
    ∙ ap (λ o. c.pop.new.self.items ++ option_to_list o) c.unwrap-last.ensures in
    let own = All-pop (IsOwn c.args.self.now) _ _ (Some _) items c.requires.own in
    let one = one-seat id c.last.inside _ c.last.invariant c.last.view_is own.1.at in (
      ap (λ v. v.chain) c.last.view_is ∙ own.1.at,
      c.last.invariant.free,
      gathered-first (seat_with id 0) _ _ _ _ one (forgotten-pop _ _ _ items),
      own.0,
    )

pub join_seat-requires : goal.join_seat-requires
join_seat-requires c =
    let table = ap (λ v. v.id) c.self.view_is in
    let items = c.in-Some.ensures.items in
    let own = All-pop (IsOwn c.args.self.now) _ _ (Some _) items c.loop-other.invariant.3 in (
      c.loop-other.invariant.0 ∙ sym table,
      ap (λ v. v.chain) c.other.view_is ∙ own.1.at ∙ sym table,
      c.other.invariant.free,
      omega (arith, c.self.invariant.words, some-words c.self.inside.shape),
      joins _ _ _ _ _,
    )

pub loop-other-preserved : goal.loop-other-preserved
loop-other-preserved c =
    let id = c.args.self.now.id in
    let items = c.in-Some.ensures.items in
    let own = All-pop (IsOwn c.args.self.now) _ _ (Some _) items c.loop-other.invariant.3 in
    let one = one-seat id c.other.inside _ c.other.invariant c.other.view_is own.1.at in
    let joined = c.join_seat.ensures.2 in (
      c.join_seat.ensures.0 ∙ c.loop-other.invariant.0,
      ap (λ m. m.1) joined ∙ c.loop-other.invariant.1,
      gathered-more (seat_with id 0) _ _ _ _ _ _ _ c.loop-other.invariant.2 one
          (forgotten-pop _ _ _ items)
          (ap (λ m. m.0.parts) joined),
      own.0,
    )

pub returns-clause-all : goal.returns-clause-all
returns-clause-all c =
    let known = map (seat_with c.args.self.now.id 0) c.loop-other.seat.me.0.parts in
    let left = none-left c.loop-other.seats.items
    (λ some. c.in_default.ensures.variant.1 (omega (arith, c.loop-other.seats.ok))) in
    subst (λ seats. IsPermutation seats (map forgotten c.args.seats.items))
    (ap (λ seats. known ++ map forgotten seats) left ∙ append-nil known) c.loop-other.invariant.2
