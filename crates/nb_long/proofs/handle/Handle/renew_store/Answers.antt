use Rattle.std.proofs.Common.{◌≡◌, ◌∙◌, All, Err, ap, subst, subst₂, sym}
use Rattle.std.specs.Arc.{arc_value}
use Rattle.nb_map.specs.Opening.{BeginsWith, IsTooSmallFor, map_of_entries}
use Rattle.nb_long.proofs.CarriedOver.{full-from, kept-store, renewed-store, too-many}
use Rattle.nb_long.specs.Handles.{seats_of}
use Rattle.nb_long.specs.NewStore.{IsCarried}
use Rattle.nb_long.proofs.handle.Handle.renew_store.Goals as goal

pub returns-in_err-self-inside-clause-full : goal.returns-in_err-self-inside-clause-full
returns-in_err-self-inside-clause-full g c = λ is.
    let full = full-from c.from_residual-in_err-self-inside.result c.in_err-self-inside.field-0.0
    c.from_residual-in_err-self-inside.ensures.1 is in
    too-many c.args.shape c.args.self.now (seats_of c.entries.new.self) c.in_ok-entries.entries.items
    c.in_ok-entries.ensures.listed c.in_ok-carried.carried.items c.in_ok-carried.ensures.all
    (subst (λ entries. IsTooSmallFor c.args.shape (map_of_entries entries))
    (c.as_slice.ensures.value ∙ c.in_ok-entries-2.ensures)
    (c.in_err-self-inside.ensures.full (ap Err full)))

pub returns-clause-renewed : goal.returns-clause-renewed
returns-clause-renewed g c =
    let IsClone = g.V.Clone.is_clone in
    let first = c.args.self.now in
    let items = c.in_ok-carried.carried.items in
    let old : arc_value c.self.inside.store ≡ first.map.store
    = ap (λ handle. handle.map.store) c.self.view_is
    ∙ kept-store first c.entries.new.self c.in_ok-entries.ensures.kept in
    let new : c.in_ok-store.store ≡ arc_value c.replace-old.new.dest
    = sym (ap arc_value c.replace-old.ensures.after ∙ c.in-Ok.ensures.ok) in
    renewed-store c.args.shape first (seats_of c.entries.new.self) c.in_ok-entries.entries.items
    c.in_ok-entries.ensures.listed IsClone
    (record { store = c.sole.result; carried = c.in_ok-carried.carried })
    (arc_value c.replace-old.new.dest) c.in_ok-self-inside.field-0 c.in_ok-carried.ensures.all
    (subst₂ (λ before after. All (IsCarried IsClone before after) items) (c.deref.ensures ∙ old) new
    c.in_ok-carried.ensures.carried)
    c.in_ok-carried.ensures.numbered
    (subst (λ entries. BeginsWith c.args.shape (map_of_entries entries) c.in_ok-self-inside.field-0)
    (c.as_slice.ensures.value ∙ c.in_ok-entries-2.ensures) c.in_ok-self-inside.ensures.begun)
    (c.sole.ensures ∙ ap arc_value c.replace-old.ensures.value ∙ old)
