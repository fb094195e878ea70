use Rattle.std.proofs.Common.{None, Some, subst, subst₂, sym}
use Rattle.nb_set.specs.Handles.{as_walk}
use Rattle.nb_set.specs.Promises.{HandleHasWalkedOn}
use Rattle.nb_set.proofs.Promised.{handle-walked-on}
use Rattle.nb_set.proofs.handle_walk.HandleWalk.next_key.Goals as goal

pub returns-in_err-key : goal.returns-in_err-key
returns-in_err-key c =
    subst₂ (λ before next. HandleHasWalkedOn before next (as_walk c.next_key.new.self))
    c.self.view_is (sym c.from_residual.ensures)
    (handle-walked-on None c.in_err-key.ensures)

pub returns : goal.returns
returns c =
    subst (λ before. HandleHasWalkedOn before (Some c.in_ok-key.key) (as_walk c.next_key.new.self))
    c.self.view_is
    (handle-walked-on (Some (c.in_ok-key.key, c.in_ok-key.field-0-1)) c.in_ok-key.ensures)
