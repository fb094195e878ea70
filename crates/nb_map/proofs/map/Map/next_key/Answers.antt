use Rattle.std.proofs.Common.{subst, sym}
use Rattle.nb_map.specs.Promises.{HasWalkedOn}
use Rattle.nb_map.specs.Walks.{IsWalkOf, walk_from}
use Rattle.nb_map.proofs.map.Map.next_key.Goals as goal

pub returns : goal.returns
returns c =
    let begun = c.walk.inside.begun.value in
    let m = c.args.self.now in
    let seat = c.args.seat.now in
    subst (λ walk. HasWalkedOn m seat c.next_key_from.new.seat walk
    (walk_from begun c.next_key_from.new.at) c.next_key_from.result) c.walk.view_is
    (c.next_key_from.ensures.walked begun (subst (IsWalkOf m seat) (sym c.walk.view_is) c.requires.walk))
