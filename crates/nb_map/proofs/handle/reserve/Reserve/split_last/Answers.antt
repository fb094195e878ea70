use Rattle.std.proofs.Common.{◌∙◌, [], ap, sym, length, arith}
use Rattle.nb_map.proofs.Reserves.{is-reserve, last-full, last-seat, left-full, node-empty, reserve-of}
use Rattle.nb_map.proofs.handle.reserve.Reserve.split_last.Goals as goal

pub invariant_of-result : goal.invariant_of-result
invariant_of-result c =
    is-reserve c.exchanged.new.nodes []
    (node-empty c.self.inside.nodes c.self.invariant c.len-count.result
    (omega (arith, c.if-count-eq0.false)) (c.len-count.ensures.count ∙ ap length (sym c.self.view_is))
    c.exchanged.result c.exchanged.ensures.0 (sym c.in-Ok.ensures.tail ∙ c.exchanged.ensures.1)
    c.exchanged.new.nodes c.exchanged.ensures.2)

pub unreachable-requires-in-None : goal.unreachable-requires-in-None
unreachable-requires-in-None c =
    last-full c.self.inside.nodes c.self.invariant c.len-count.result
    (omega (arith, c.if-count-eq0.false)) (c.len-count.ensures.count ∙ ap length (sym c.self.view_is))
    c.exchanged.result c.exchanged.ensures.0 (sym c.in-Ok.ensures.tail ∙ c.exchanged.ensures.1)
    c.in-None.is

pub invariant_of-self : goal.invariant_of-self
invariant_of-self c =
    rw c.in-Ok.ensures.items
    (left-full c.self.inside.nodes c.self.invariant c.len-count.result
    (omega (arith, c.if-count-eq0.false)) (c.len-count.ensures.count ∙ ap length (sym c.self.view_is))
    c.exchanged.result c.exchanged.ensures.0 (sym c.in-Ok.ensures.tail ∙ c.exchanged.ensures.1))

pub returns : goal.returns
returns c = (
  rw c.in-Ok.ensures.items
      (sym c.self.view_is
      ∙ last-seat c.self.inside.nodes c.self.invariant c.len-count.result
      (omega (arith, c.if-count-eq0.false)) (c.len-count.ensures.count ∙ ap length (sym c.self.view_is))
      c.exchanged.result c.exchanged.ensures.0 (sym c.in-Ok.ensures.tail ∙ c.exchanged.ensures.1)
      c.in-Some.seat c.in-Some.is),
  reserve-of c.exchanged.new.nodes []
      (node-empty c.self.inside.nodes c.self.invariant c.len-count.result
      (omega (arith, c.if-count-eq0.false)) (c.len-count.ensures.count ∙ ap length (sym c.self.view_is))
      c.exchanged.result c.exchanged.ensures.0 (sym c.in-Ok.ensures.tail ∙ c.exchanged.ensures.1)
      c.exchanged.new.nodes c.exchanged.ensures.2),
)
