use Rattle.std.proofs.Common.{arith}
use Rattle.nb_long.proofs.CarriedOver.{all-more, entries-more, numbers-more}
use Rattle.nb_long.specs.NewStore.{IsCarried}
use Rattle.nb_long.proofs.handle.new_store.carry_all.Goals as goal

pub loop-key-preserved : goal.loop-key-preserved
loop-key-preserved g c =
    let inv = c.loop-key.invariant in
    let done = c.loop-key.all.items in
    let more = c.push_reserved.new.self.items in
    let items = c.push_reserved.ensures.items in
    let this = c.in_ok-carried.carried in
    let one = c.in_ok-carried.ensures in (
      tt,
      tt,
      entries-more done more this items inv.2 c.in-Some.ensures.steps.0 one.entry,
      all-more done more this items (IsCarried g.V.Clone.is_clone c.args.old.now c.args.new.now) inv.3
          one.carried,
      numbers-more done more this items inv.4 (omega (
        arith,
        c.if-get-len.false,
        c.get.ensures.number,
        c.number.ensures,
        c.len-in-loop-key.ensures,
      )),
      omega (arith, inv.5, c.push_reserved.ensures.capacity),
    )
