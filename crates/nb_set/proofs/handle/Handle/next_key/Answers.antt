use Rattle.std.proofs.Common.{None, Some, subst, sym}
use Rattle.nb_set.specs.Handles.{HandleOf}
use Rattle.nb_set.specs.Promises.{HasWalkedOn}
use Rattle.nb_set.specs.Sets.{SetOf}
use Rattle.nb_set.specs.Walks.{WalkOf}
use Rattle.nb_set.proofs.Promised.{walked-on}
use Rattle.nb_set.proofs.handle.Handle.next_key.Goals as goal

pub returns-in_err-key-clause-walked : goal.returns-in_err-key-clause-walked
returns-in_err-key-clause-walked c =
    let set : SetOf = record { map = c.self.inside.map.map } in
    let walk' : WalkOf = record { map = c.next_key.new.walk } in
    subst (HasWalkedOn c.args.self.now.set c.args.self.now.seat c.next_key.new.self.seat
    c.args.walk.now walk')
    (sym c.from_residual.ensures)
    (subst (λ (handle : HandleOf). HasWalkedOn handle.set handle.seat c.next_key.new.self.seat
    c.args.walk.now walk'
    None) c.self.view_is
    (subst (λ walk. HasWalkedOn set c.self.inside.map.seat c.next_key.new.self.seat walk walk'
    None) c.walk.view_is
    (walked-on None c.in_err-key.ensures.walked)))

pub returns-clause-walked : goal.returns-clause-walked
returns-clause-walked c =
    let set : SetOf = record { map = c.self.inside.map.map } in
    let walk' : WalkOf = record { map = c.next_key.new.walk } in
    let next = Some c.in_ok-key.key in
    subst (λ (handle : HandleOf). HasWalkedOn handle.set handle.seat c.next_key.new.self.seat
    c.args.walk.now walk'
    next) c.self.view_is
    (subst (λ walk. HasWalkedOn set c.self.inside.map.seat c.next_key.new.self.seat walk walk'
    next) c.walk.view_is
    (walked-on (Some (c.in_ok-key.key, c.in_ok-key.field-0-1)) c.in_ok-key.ensures.walked))
