use Rattle.std.proofs.Common.{◌∙◌, ap, subst₂, sym}
use Rattle.nb_map.specs.Promises.{HasWalkedOn}
use Rattle.nb_map.specs.Walks.{IsWalkOf, walk_from}
use Rattle.nb_map.proofs.handle.Handle.next_key_from.Goals as goal

pub returns-clause-walked : goal.returns-clause-walked
returns-clause-walked c = λ begun is.
    let one = ap (λ shared. shared.map) c.deref.ensures ∙ ap (λ handle. handle.map) c.self.view_is in
    let seat = ap (λ handle. handle.seat) c.self.view_is in
    let at = walk_from begun c.args.at.now in
    subst₂ (λ m s. HasWalkedOn m s c.next_key_from.new.seat at
    (walk_from begun c.next_key_from.new.at) c.next_key_from.result) one seat
    (c.next_key_from.ensures.walked begun
    (subst₂ (λ m s. IsWalkOf m s at) (sym one) (sym seat) is))
