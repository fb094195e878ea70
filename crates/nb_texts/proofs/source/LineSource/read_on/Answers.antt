use Rattle.std.proofs.Common.{◌≡◌, ◌++◌, ap, arith, drop, length, length-append, length-drop, subst, take}
use Rattle.std.proofs.lemmas.List.{length-take}
use Rattle.nb_texts.proofs.source.LineSource.read_on.Goals as goal

pub returns-clause-room : goal.returns-clause-room
returns-clause-room g c =
    let old = c.args.self.now.room in
    let back = drop (length c.read_behind.new.room) old.items in
    let same = ap length c.as_mut_slice-room.ensures.value in
    omega (
      arith,
      length-take old.len (c.read_behind.new.room ++ back),
      length-append c.read_behind.new.room back,
      length-drop (length c.read_behind.new.room) old.items,
      c.read_behind.ensures.room,
      same,
      old.ok,
    )
