use Rattle.std.proofs.Common.{◌∙◌, [], ◌∷◌, ◌++◌, Some, ap, refl, sym, subst₂}
use Rattle.std.proofs.lemmas.List.Elements.{All-pop}
use Rattle.nb_table.specs.Chains.{IsOwn}
use Rattle.nb_table.specs.Settling.{Settled}
use Rattle.nb_table.specs.Views.{spent_view}
use Rattle.nb_table.specs.declared.chain.ChainSeat.TheInside.{Inside}
use Rattle.nb_table.proofs.Together.{again-seat, all-settled, one-part, settled-more, settled-own, with-none}
use Rattle.nb_table.proofs.chain.Chain.settle.Goals as goal

pub invariant_of-push_reserved : goal.invariant_of-push_reserved
invariant_of-push_reserved c =
    let own = All-pop (IsOwn c.args.self.now) _ _ (Some _) c.in-Some.ensures.items c.requires.own in
    let s = c.settle_with-seat.ensures.settled in
    let dealt : Inside
    = record { seat = c.settle_with-seat.result.0; top = c.settle_with-seat.result.1 } in
    again-seat c.args.self.now.shape _ _ c.last.inside dealt (spent_view, []) _ _ _
    c.last.invariant (with-none _ _ _ _ _ _ s)
    (one-part _ _ _ c.last.inside _ _ c.last.invariant s) refl
    (c.settle_with-seat.ensures.token ∙ sym (ap (λ v. v.chain) c.last.view_is ∙ own.1.at)) refl

pub returns-in-Some-clause-settled : goal.returns-in-Some-clause-settled
returns-in-Some-clause-settled c =
    let own = All-pop (IsOwn c.args.self.now) _ _ (Some _) c.in-Some.ensures.items c.requires.own in
    let s = c.settle_with-seat.ensures.settled in
    let dealt : Inside
    = record { seat = c.settle_with-seat.result.0; top = c.settle_with-seat.result.1 } in
    let more = settled-more c.args.self.now.shape _ _ c.last.inside dealt (spent_view, []) _ _ _
    c.last.invariant (with-none _ _ _ _ _ _ s)
    (one-part _ _ _ c.last.inside _ _ c.last.invariant s) refl
    (c.settle_with-seat.ensures.token ∙ sym (ap (λ v. v.chain) c.last.view_is ∙ own.1.at)) refl in
    subst₂ (Settled c.args.self.now.shape)
    (ap (λ x. c.pop.new.self.items ++ x ∷ []) c.last.view_is ∙ sym c.in-Some.ensures.items)
    (sym c.push_reserved.ensures.items) (all-settled _ _ _ _ _ _ refl more)

pub returns-in-Some-clause-own : goal.returns-in-Some-clause-own
returns-in-Some-clause-own c =
    settled-own c.args.self.now _ _ c.requires.own (returns-in-Some-clause-settled c)
