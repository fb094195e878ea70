use Rattle.std.proofs.Common.{◌≡◌, ◌∙◌, ap, length, arith}
use Rattle.nb_table.specs.Closing.{closed_of, most_seen}
use Rattle.nb_table.specs.Gathered.{ClosedWith}
use Rattle.nb_table.specs.declared.closed.Closed.TheInside.{Inside}
use Rattle.nb_table.proofs.Gathered.{closed-with}
use Rattle.nb_table.proofs.chain.Chain.close.Goals as goal

-- what is left of the chain
abbrev left : goal.After-close_with-table → Inside
left c = record {
  table = c.close_with-table.result;
  shape = c.self.inside.shape;
  seats =
      c.of-seen.result;
}

closes : (c : goal.After-close_with-table) → ClosedWith c.args.seats.items (closed_of (left c))
closes c =
    let all : length c.args.seats.items ≡ c.self.inside.shape.seats
    = omega (arith, c.len.ensures, c.if-len-seats.false, c.seats.ensures.number) in
    closed-with (closed_of (left c)) c.self.invariant.plan _ c.self.invariant.key _
    c.gather-all.result _ _ c.gather-all.ensures.all all
    (ap (λ seats. most_seen seats.items) c.of-seen.ensures) c.close_with-table.ensures.values.2

pub invariant_of-result : goal.invariant_of-result
invariant_of-result c = record {
  full = c.close_with-table.ensures.values.0;
  count = c.close_with-table.ensures.counts.0 ∙ c.self.invariant.words;
  slots = c.close_with-table.ensures.counts.1 ∙ c.self.invariant.slots;
  left = (closes c).left;
}

pub returns-clause-closed : goal.returns-clause-closed
returns-clause-closed c = closes c
