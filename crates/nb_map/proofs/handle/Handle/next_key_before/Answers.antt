use Rattle.std.proofs.Common.{◌∙◌, ap, subst₂, sym}
use Rattle.nb_map.specs.Promises.{HasWalkedUpTo}
use Rattle.nb_map.specs.Walks.{IsWalkOf, bound_at, walk_from}
use Rattle.nb_map.proofs.handle.Handle.next_key_before.Goals as goal

pub returns-clause-walked : goal.returns-clause-walked
returns-clause-walked c = λ begun is.
    let one = ap (λ shared. shared.map) c.deref.ensures ∙ ap (λ handle. handle.map) c.self.view_is in
    let seat = ap (λ handle. handle.seat) c.self.view_is in
    let at = walk_from begun c.args.at.now in
    subst₂ (λ m s. HasWalkedUpTo m (bound_at m.chain.shape c.args.at.now.first c.args.end) s
    c.next_key_before.new.seat at (walk_from begun c.next_key_before.new.at)
    c.next_key_before.result) one seat
    (c.next_key_before.ensures.walked begun
    (subst₂ (λ m s. IsWalkOf m s at) (sym one) (sym seat) is))
