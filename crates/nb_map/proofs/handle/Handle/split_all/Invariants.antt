use Rattle.std.proofs.Common.{◌≡◌, ◌<◌, All, length, vec_capacity}
use Rattle.std.specs.Arc.{arc_value}
use Rattle.nb_map.proofs.Held.{AreSplit}
use Rattle.nb_map.specs.Maps.{AreMine, IsMine}
use Rattle.nb_map.specs.declared.handle.Shared.{Shared}
use Rattle.nb_map.proofs.handle.Handle.split_all.Given as goal

abbrev pub invariant-loop-shared : goal.invariant-loop-shared
invariant-loop-shared l =
    let m = l.fn.self.map in
    AreSplit m l.fn.self.reserve l.reserve l.handles.items
    × (length l.clones.items ≡ length l.reserve)
    × All (λ clone. (arc_value {X = Shared} clone).map ≡ m) l.clones.items × ((arc_value l.shared).map ≡ m)
    × (l.seat ≡ l.fn.self.seat) × IsMine m l.seat × AreMine m l.reserve
    × (length l.fn.self.reserve < vec_capacity l.handles)

abbrev pub decreases-loop-shared : goal.decreases-loop-shared
decreases-loop-shared l = goal.left-loop-shared l
