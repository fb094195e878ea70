use Rattle.std.proofs.Common.{◌≡◌, ◌∙◌, ℕ, [], ◌∷◌, ◌++◌, List, Some, ◌+ℤ◌, ap, refl, sym, take, arith}
use Rattle.std.proofs.lemmas.List.Elements.{All-pop}
use Rattle.nb_count.specs.Counts.{IsOwn, total_of}
use Rattle.nb_count.specs.Inside.{IsSeat, seat_of}
use Rattle.atomic_table.specs.Table.{Me}
use Rattle.nb_count.specs.Tallies.{added_by, wrapped}
use Rattle.nb_count.specs.declared.tally.Tally.{Tally}
use Rattle.nb_count.specs.declared.counter.CountSeat.TheInside.{Inside}
use Rattle.nb_count.proofs.Keeping.{joins, splits}
use Rattle.nb_count.proofs.Settling.{same-seat, sum-moved}
use Rattle.nb_count.proofs.counter.Counter.+sum_with.Goals as goal

pub join_seat-requires : goal.join_seat-requires
join_seat-requires t c =
    let table = sym (ap (λ v. v.id) c.self.view_is) in
    let own = All-pop (IsOwn c.args.self.now) _ _ (Some _) c.in-Some.ensures.items c.requires.own in (
      ap (λ v. v.counter) c.last.view_is ∙ own.1 ∙ table,
      c.requires.token.0 ∙ table,
      c.requires.token.1,
      omega (arith, c.self.invariant.words, c.self.invariant.some),
      joins _ _ _ _ _,
    )

pub split_seat-seat-requires : goal.split_seat-seat-requires
split_seat-seat-requires t c = (
  c.sum_with-others.ensures.token.0 ∙ sym (ap (λ v. v.id) c.self.view_is),
  omega (arith, c.self.invariant.words, c.self.invariant.some),
  splits _ _ _,
)

-- the seat that is put back
abbrev dealt : (t : ℕ) → goal.After-push_reserved-arg-1 t → Inside
dealt t c = record { index = c.last.inside.index; seat = c.split_seat-seat.result }

-- it is the seat that was taken
again : (t : ℕ) (c : goal.After-push_reserved-arg-1 t)
    → IsSeat (dealt t c) × (seat_of (dealt t c) ≡ seat_of c.last.inside)
again t c =
    let own = All-pop (IsOwn c.args.self.now) _ _ (Some _) c.in-Some.ensures.items c.requires.own in
    let table = c.split_seat-seat.ensures.3 ∙ c.sum_with-others.ensures.token.0
    ∙ sym (ap (λ v. v.counter) c.last.view_is ∙ own.1) in
    let joined = c.sum_with-others.ensures.token.1 ∙ c.join_seat.ensures.2
    ∙ ap (λ m. (m.0 ++ c.args.others.me.0, m.1)) c.last.invariant.one in
    same-seat c.last.inside (dealt t c) c.last.invariant refl table
    (c.split_seat-seat.ensures.4 ∙ ap (λ m. (take 1 m.0, [])) joined ∙ sym c.last.invariant.one)

pub invariant_of-push_reserved : goal.invariant_of-push_reserved
invariant_of-push_reserved t c = (again t c).0

pub returns-clause-sum : goal.returns-clause-sum
returns-clause-sum t c =
    c.sum_with-others.ensures.sum
    ∙ ap (λ (m : Me (Unit {0}) (List Tally)). wrapped (total_of c.pop.new.self.items +ℤ added_by m.0))
    c.join_seat.ensures.2
    ∙ ap wrapped (sum-moved c.pop.new.self.items c.last.inside c.args.others.me.0 c.last.invariant)
    ∙ ap (λ x. wrapped (total_of (c.pop.new.self.items ++ x ∷ []) +ℤ added_by c.args.others.me.0))
    c.last.view_is
    ∙ ap (λ xs. wrapped (total_of xs +ℤ added_by c.args.others.me.0))
    (sym c.in-Some.ensures.items)
