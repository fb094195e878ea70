use Rattle.std.proofs.Common.{None, Some, subst, sym}
use Rattle.nb_set.specs.Promises.{HasWalkedOn}
use Rattle.nb_set.specs.Sets.{SetOf}
use Rattle.nb_set.specs.Walks.{WalkOf}
use Rattle.nb_set.proofs.Promised.{walked-on}
use Rattle.nb_set.proofs.set.LongSet.next_key.Goals as goal

pub returns-in_err-key : goal.returns-in_err-key
returns-in_err-key c =
    let set : SetOf = record { map = c.self.inside.map } in
    let before = c.args.seat.now in
    let after = c.next_key.new.seat in
    let walk' : WalkOf = record { map = c.next_key.new.walk } in
    subst (HasWalkedOn c.args.self.now before after c.args.walk.now walk')
    (sym c.from_residual.ensures)
    (subst (λ set. HasWalkedOn set before after c.args.walk.now walk' None) c.self.view_is
    (subst (λ walk. HasWalkedOn set before after walk walk' None) c.walk.view_is
    (walked-on None c.in_err-key.ensures)))

pub returns : goal.returns
returns c =
    let set : SetOf = record { map = c.self.inside.map } in
    let before = c.args.seat.now in
    let after = c.next_key.new.seat in
    let walk' : WalkOf = record { map = c.next_key.new.walk } in
    let next = Some c.in_ok-key.key in
    subst (λ set. HasWalkedOn set before after c.args.walk.now walk' next) c.self.view_is
    (subst (λ walk. HasWalkedOn set before after walk walk' next) c.walk.view_is
    (walked-on (Some (c.in_ok-key.key, c.in_ok-key.field-0-1)) c.in_ok-key.ensures))
