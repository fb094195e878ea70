use Rattle.std.proofs.Common.{◌≡◌, ◌∙◌, ◌++◌, ◌∷◌, [], Some, ap, length, length-append, refl, reverse, rules, sym, arith}
use Rattle.std.proofs.lemmas.Grind.{flat_map-append}
use Rattle.std.proofs.lemmas.List.{append-nil, append_assoc, reverse-append, reverse-reverse}
use Rattle.std.proofs.lemmas.List.Elements.{All-pop}
use Rattle.nb_set.specs.Handles.{all_seats, seats_of}
use Rattle.nb_set.proofs.handle.Handle.join_all.Goals as goal

pub loop-other-init : goal.loop-other-init
loop-other-init c = (
  [],
  sym (reverse-reverse c.args.others.items) ∙ ap reverse (sym c.reverse.ensures.items),
  sym (append-nil c.args.self.now.reserve),
  refl,
  refl,
  search rules,
  search rules,
)

pub join-requires : goal.join-requires
join-requires c =
    let inv = c.loop-other.invariant in
    record {
      one = (All-pop (λ other. other.set ≡ c.args.self.now.set) c.loop-other.others.items
          c.pop.new.self.items (Some c.in-Some.other) c.in-Some.ensures.items inv.5).1 ∙ sym inv.3;
    }

pub loop-other-preserved : goal.loop-other-preserved
loop-other-preserved c =
    let inv = c.loop-other.invariant in
    let other = c.in-Some.other in
    let left = c.pop.new.self.items in
    let items = c.in-Some.ensures.items in
    let joined = c.in_default-join.ensures in
    let both = All-pop (λ other. other.set ≡ c.args.self.now.set) c.loop-other.others.items left
    (Some other) items inv.5 in (
      inv.0 ++ other ∷ [],
      inv.1 ∙ ap (λ xs. inv.0 ++ reverse xs) items
          ∙ ap (λ xs. inv.0 ++ xs) (reverse-append left (other ∷ []))
          ∙ sym (append_assoc inv.0 (other ∷ []) (reverse left)),
      joined.joined ∙ ap (λ xs. xs ++ seats_of other) inv.2
          ∙ append_assoc c.args.self.now.reserve (all_seats inv.0) (seats_of other)
          ∙ ap (λ xs. c.args.self.now.reserve ++ xs)
          (sym (flat_map-append seats_of inv.0 (other ∷ [])
          ∙ ap (λ xs. all_seats inv.0 ++ xs) (append-nil (seats_of other)))),
      joined.same.0 ∙ inv.3,
      joined.same.1 ∙ inv.4,
      both.0,
      omega (arith, inv.6, ap length items, length-append left (other ∷ []), c.in-Some.ensures.capacity),
    )
