use Rattle.std.proofs.Common.{◌≡◌, ◌∙◌, ◌∷◌, [], All, Some, ap, length, length-append, refl, subst, sym, arith, rules}
use Rattle.std.specs.Arc.{arc_value}
use Rattle.std.proofs.lemmas.List.{nil_from_length}
use Rattle.std.proofs.lemmas.List.Elements.{All-map, All-nil, All-pop, All-same, All-weaker}
use Rattle.nb_map.proofs.Held.{all-split, front-mine, handle-is, last-mine, none-split, one-split}
use Rattle.nb_map.specs.Handles.{handle_on, seats_of}
use Rattle.nb_map.specs.Maps.{AreMine, IsMine}
use Rattle.nb_map.specs.declared.handle.Shared.{Shared}
use Rattle.nb_map.proofs.handle.Handle.split_all.Goals as goal

pub loop-shared-init : goal.loop-shared-init
loop-shared-init c =
    let m = c.args.self.map in
    let same : (arc_value {X = Shared} c.self.inside.shared).map ≡ m
    = ap (λ handle. handle.map) c.self.view_is in
    let reserve = ap (λ handle. handle.reserve) c.self.view_is in (
      none-split m c.args.self.reserve c.self.inside.reserve c.in-Ok.handles.items (sym reserve)
          c.in-Ok.ensures.items,
      c.in-Ok-clones.ensures.count ∙ c.len.ensures.count,
      All-weaker (λ clone. arc_value {X = Shared} clone ≡ arc_value c.self.inside.shared)
          (λ clone. (arc_value {X = Shared} clone).map ≡ m)
          (λ clone is. ap (λ shared. shared.map) is ∙ same) c.in-Ok-clones.clones.items
          c.in-Ok-clones.ensures.same,
      same,
      ap (λ handle. handle.seat) c.self.view_is,
      subst (λ n. IsMine n c.self.inside.seat) same c.self.invariant.own,
      subst (λ n. AreMine n c.self.inside.reserve) same c.self.invariant.reserve,
      omega (arith, c.in-Ok.ensures.capacity, c.seats.ensures),
    )

pub invariant_of-push_reserved : goal.invariant_of-push_reserved
invariant_of-push_reserved c =
    let m = c.args.self.map in
    let inv = c.loop-shared.invariant in
    let last = c.in-Some-split_last.ensures in
    let both = All-pop (λ clone. (arc_value {X = Shared} clone).map ≡ m) c.loop-shared.clones.items
    c.pop.new.self.items (Some c.in-Some.shared) c.in-Some.ensures.items inv.2 in
    record {
      own = subst (λ n. IsMine n c.in-Some-split_last.seat) (sym both.1)
          (last-mine m c.loop-shared.reserve c.split_last.new.self c.in-Some-split_last.seat last.0 inv.6);
      reserve = All-same (IsMine (arc_value {X = Shared} c.in-Some.shared).map)
          c.in-Some-split_last.reserve [] last.1
          (All-nil (IsMine (arc_value {X = Shared} c.in-Some.shared).map));
    }

pub loop-shared-preserved : goal.loop-shared-preserved
loop-shared-preserved c =
    let m = c.args.self.map in
    let inv = c.loop-shared.invariant in
    let last = c.in-Some-split_last.ensures in
    let both = All-pop (λ clone. (arc_value {X = Shared} clone).map ≡ m) c.loop-shared.clones.items
    c.pop.new.self.items (Some c.in-Some.shared) c.in-Some.ensures.items inv.2 in (
      one-split m c.args.self.reserve c.loop-shared.reserve c.split_last.new.self
          c.in-Some-split_last.seat c.loop-shared.handles.items c.push_reserved.new.self.items _ inv.0
          last.0 c.push_reserved.ensures.items (handle-is m _ c.in-Some-split_last.seat both.1 (search rules) last.1),
      omega (arith, inv.1, ap length c.in-Some.ensures.items, ap length last.0, length-append c.pop.new.self.items (c.in-Some.shared ∷ []), length-append c.split_last.new.self (c.in-Some-split_last.seat ∷ [])),
      both.0,
      inv.3,
      inv.4,
      inv.5,
      front-mine m c.loop-shared.reserve c.split_last.new.self c.in-Some-split_last.seat last.0 inv.6,
      omega (arith, inv.7, c.push_reserved.ensures.capacity),
    )

pub returns-clause-split : goal.returns-clause-split
returns-clause-split c =
    let m = c.args.self.map in
    let inv = c.loop-shared.invariant in
    let none = nil_from_length c.loop-shared.reserve (omega (arith, inv.1, c.in_default-pop.ensures)) in
    all-split m c.args.self.reserve c.loop-shared.reserve c.args.self.seat c.loop-shared.handles.items
    c.push_reserved-2.new.self.items c.reverse.new.self.items _ inv.0 none c.push_reserved-2.ensures.items
    (handle-is m _ c.args.self.seat inv.3 inv.4 none) c.reverse.ensures.items

pub returns-clause-one : goal.returns-clause-one
returns-clause-one c =
    let m = c.args.self.map in
    subst (All (λ handle. handle.map ≡ m)) (sym (returns-clause-split c))
    (All-map (λ handle. handle.map ≡ m) (handle_on m) (seats_of c.args.self) (λ i d within. refl))
