use Rattle.std.proofs.Common.{◌∙◌, ◌++◌, ◌∷◌, [], ap, arith, length, length-append, subst, sym}
use Rattle.std.specs.Prelude.{Err}
use Rattle.nb_lasting.proofs.Joined.{ArePartedFrom, all-parted, none-parted, one-parted}
use Rattle.nb_lasting.proofs.gathered.split_handle.Goals as goal

pub loop-init : goal.loop-init
loop-init g c = (tt, tt, none-parted c.args.whole c.args.room.items c.requires.empty, c.requires.room)

pub push_reserved-requires : goal.push_reserved-requires
push_reserved-requires g c =
    omega (
      arith,
      c.loop.invariant.2.count,
      c.loop.invariant.3,
      ap length c.in-Ok.ensures.split.0,
      length-append c.split.new.self.reserve (c.in-Ok.other.seat ∷ []),
    )

pub push_reserved-requires-in-Err-NoSeat : goal.push_reserved-requires-in-Err-NoSeat
push_reserved-requires-in-Err-NoSeat g c =
    omega (arith, c.loop.invariant.2.count, c.loop.invariant.3)

pub loop-preserved-in-Ok : goal.loop-preserved-in-Ok
loop-preserved-in-Ok g c = (
  tt,
  tt,
  one-parted c.args.whole c.loop.handle c.loop.handles.items c.push_reserved.new.self.items
      c.loop.invariant.2 c.in-Ok.other c.split.new.self c.in-Ok.ensures.split.0
      c.in-Ok.ensures.split.1 c.in-Ok.ensures.same.0 c.in-Ok.ensures.same.1
      c.push_reserved.ensures.items,
  omega (arith, c.loop.invariant.3, c.push_reserved.ensures.capacity),
)

pub loop-preserved : goal.loop-preserved
loop-preserved g c = (
  tt,
  tt,
  subst (λ h. ArePartedFrom c.args.whole h c.loop.handles.items)
      (sym c.in-Err-OutOfMemory.ensures.refused) c.loop.invariant.2,
  c.loop.invariant.3,
)

pub returns-in-Err-NoSeat : goal.returns-in-Err-NoSeat
returns-in-Err-NoSeat g c =
    all-parted c.args.whole c.loop.handle c.loop.handles.items
    c.push_reserved-in-Err-NoSeat.new.self.items c.loop.invariant.2 c.reverse.new.self.items
    (c.split.ensures.no_seat.0 (c.in-Err-NoSeat.is ∙ ap Err c.in-Err-NoSeat.field-0-is))
    (c.push_reserved-in-Err-NoSeat.ensures.items
    ∙ ap (λ h. c.loop.handles.items ++ h ∷ []) c.in-Err-NoSeat.ensures.refused)
    c.reverse.ensures.items
