use Rattle.std.proofs.Common.{◌≡◌, ◌∙◌, ◌%◌, ◌^◌, ◌≤◌, length, ap, sym, arith}
use Rattle.std.specs.Mem.Slots.{slots_items}
use Rattle.nb_count.proofs.Gathered.{final-sum, gathered-all}
use Rattle.nb_count.specs.Tallies.{sum_of_stripes, wrapped}
use Rattle.nb_count.proofs.counter.Counter.close.Goals as goal

pub gather-all-requires-clause-some : goal.gather-all-requires-clause-some
gather-all-requires-clause-some c = omega (arith, c.self.invariant.seated, c.len.ensures)

pub returns-clause-sum : goal.returns-clause-sum
returns-clause-sum c =
    let key = c.self.invariant.key in
    let given = gathered-all _ _ _ c.gather-all.ensures.all in
    let count : length c.gather-all.result.me.0 ≡ c.self.inside.table.shared.key.seats
    = omega (arith, given.0, c.len.ensures, ap (λ z. z.seats) key) in
    let positive : 1 ≤ c.self.inside.table.shared.key.stripes =
    omega (arith, c.self.invariant.some, ap (λ z. z.stripes) key) in
    c.sum_of-sum.ensures
    ∙ ap (λ z. sum_of_stripes (slots_items c.close_with-closed.result.words) z.stripes % 2 ^ 64)
    (sym key)
    ∙ final-sum _ _ _ _ _ positive c.close_with-closed.ensures.values.2 count
    ∙ ap wrapped given.1
