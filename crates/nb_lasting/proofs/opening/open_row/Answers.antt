use Rattle.std.proofs.Common.{◌∙◌, ◌≡◌, ◌*◌, Some, ap, length, subst, sym}
use Rattle.std.specs.Prelude.{replicate}
use Rattle.std.proofs.lemmas.List.{length-map, length-replicate}
use Rattle.nb_core.specs.Plans.{Plan}
use Rattle.nb_map.specs.Maps.{new_seats}
use Rattle.nb_lasting.proofs.Renewed.{new-count, new-lanes}
use Rattle.nb_lasting.proofs.Sharing.{opens}
use Rattle.nb_lasting.specs.Lasting.{HasSlots}
use Rattle.nb_lasting.proofs.opening.open_row.Goals as goal

pub new-requires : goal.new-requires
new-requires c =
    let zeros : c.as_slice.result.now ≡ replicate (8 * c.args.opened.seats) 0 =
    c.as_slice.ensures.value ∙ c.in_ok-words.ensures.items_if_clones_equal (λ y e. e) in
    let shape = c.in_ok-handle.ensures.made.shape in
    let seats = c.in_ok-handle.ensures.seats
    ∙ ap (new_seats c.in_ok-handle.handle.map) c.shape_for.ensures.seats in
    opens c.args.opened c.in_ok-handle.handle.map c.in-Ok.handles.items c.in_ok-slots.slots.items
    c.as_slice.result.now (ap (λ (q : Plan). q.seats) shape ∙ c.shape_for.ensures.seats)
    (subst (HasSlots c.args.opened.keys) (sym shape) c.shape_for.ensures.slots)
    (new-count c.in_ok-handle.handle c.args.opened.seats c.in-Ok.handles.items seats
    c.in-Ok.ensures.split)
    (new-lanes c.in_ok-handle.handle c.args.opened.seats c.in-Ok.handles.items seats
    c.in-Ok.ensures.split)
    c.in_ok-slots.ensures zeros

pub returns-in-Ok-new-clause-fits : goal.returns-in-Ok-new-clause-fits
returns-in-Ok-new-clause-fits c =
    let zeros : c.as_slice.result.now ≡ replicate (8 * c.args.opened.seats) 0 =
    c.as_slice.ensures.value ∙ c.in_ok-words.ensures.items_if_clones_equal (λ y e. e) in
    let seats = c.in_ok-handle.ensures.seats
    ∙ ap (new_seats c.in_ok-handle.handle.map) c.shape_for.ensures.seats in (
      c.in-Ok-new.ensures.ok.0 ∙ (ap length zeros ∙ length-replicate (8 * c.args.opened.seats) 0),
      c.in-Ok-new.ensures.ok.1 ∙ (ap length c.in_ok-slots.ensures
          ∙ (length-map c.in-Ok.handles.items Some
          ∙ new-count c.in_ok-handle.handle c.args.opened.seats c.in-Ok.handles.items seats
          c.in-Ok.ensures.split)),
      c.in-Ok-new.ensures.ok.5,
      c.in-Ok-new.ensures.ok.2,
    )
