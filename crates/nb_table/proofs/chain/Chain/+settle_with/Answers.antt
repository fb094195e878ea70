use Rattle.std.proofs.Common.{◌∙◌, [], ◌∷◌, ◌++◌, Some, ap, refl, sym, subst, subst₂, arith}
use Rattle.std.proofs.lemmas.List.Elements.{All-pop}
use Rattle.nb_table.specs.Chains.{IsOwn}
use Rattle.nb_table.specs.Together.{HaveSettled}
use Rattle.nb_table.specs.declared.chain.ChainSeat.TheInside.{Inside}
use Rattle.nb_table.proofs.Meeting.{joins}
use Rattle.nb_table.proofs.Opening.{deals, some-words}
use Rattle.nb_table.proofs.Together.{again-seat, settled-more}
use Rattle.nb_table.proofs.chain.Chain.+settle_with.Goals as goal

pub join_seat-requires : goal.join_seat-requires
join_seat-requires t c =
    let table = sym (ap (λ v. v.id) c.self.view_is) in
    let own = All-pop (IsOwn c.args.self.now) _ _ (Some _) c.in-Some.ensures.items c.requires.own in (
      ap (λ v. v.chain) c.last.view_is ∙ own.1.at ∙ table,
      c.requires.token.0 ∙ table,
      c.requires.token.1,
      omega (arith, c.self.invariant.words, some-words c.self.inside.shape),
      joins _ _ _ _ _,
    )

pub split_seat-seat-requires : goal.split_seat-seat-requires
split_seat-seat-requires t c = (
  c.settle_with-others.ensures.token ∙ sym (ap (λ v. v.id) c.self.view_is),
  omega (arith, c.self.invariant.words, some-words c.self.inside.shape),
  deals _ _ _,
)

pub invariant_of-push_reserved : goal.invariant_of-push_reserved
invariant_of-push_reserved t c =
    let own = All-pop (IsOwn c.args.self.now) _ _ (Some _) c.in-Some.ensures.items c.requires.own in
    let dealt : Inside
    = record { seat = c.split_seat-seat.result; top = c.settle_with-others.result.1 } in
    again-seat c.args.self.now.shape _ _ c.last.inside dealt c.args.others.me _ _ _
    c.last.invariant
    (subst (λ m. HaveSettled c.args.self.now.shape c.pop.new.self.items
    c.settle_with-others.new.seats.items m c.settle_with-others.result.0.me
    c.settle_with-others.result.1) c.join_seat.ensures.2 c.settle_with-others.ensures.settled)
    c.split_seat-seat.ensures.4 c.split_seat-seat.ensures.2
    (c.split_seat-seat.ensures.3 ∙ c.settle_with-others.ensures.token
    ∙ sym (ap (λ v. v.chain) c.last.view_is ∙ own.1.at)) refl

pub returns-clause-settled : goal.returns-clause-settled
returns-clause-settled t c =
    let own = All-pop (IsOwn c.args.self.now) _ _ (Some _) c.in-Some.ensures.items c.requires.own in
    let dealt : Inside
    = record { seat = c.split_seat-seat.result; top = c.settle_with-others.result.1 } in
    let more = settled-more c.args.self.now.shape _ _ c.last.inside dealt c.args.others.me _ _ _
    c.last.invariant
    (subst (λ m. HaveSettled c.args.self.now.shape c.pop.new.self.items
    c.settle_with-others.new.seats.items m c.settle_with-others.result.0.me
    c.settle_with-others.result.1) c.join_seat.ensures.2 c.settle_with-others.ensures.settled)
    c.split_seat-seat.ensures.4 c.split_seat-seat.ensures.2
    (c.split_seat-seat.ensures.3 ∙ c.settle_with-others.ensures.token
    ∙ sym (ap (λ v. v.chain) c.last.view_is ∙ own.1.at)) refl in
    subst₂ (λ before after. HaveSettled c.args.self.now.shape before after c.args.others.me
    c.split_seat-seat.new.seat.me c.settle_with-others.result.1)
    (ap (λ x. c.pop.new.self.items ++ x ∷ []) c.last.view_is ∙ sym c.in-Some.ensures.items)
    (sym c.push_reserved.ensures.items) more
