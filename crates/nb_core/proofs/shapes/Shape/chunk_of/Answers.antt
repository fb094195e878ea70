use Rattle.std.proofs.Common.{◌≡◌, ◌∙◌, ◌^◌, ap, min, arith, slice_index, sym}
use Rattle.std.proofs.Math.Nat.{le-min, min-le_right}
use Rattle.nb_core.proofs.Kept.{plan-kept}
use Rattle.nb_core.proofs.Powers.{smaller-power}
use Rattle.nb_core.proofs.shapes.Shape.chunk_of.Goals as goal

pub returns-clause-power : goal.returns-clause-power
returns-clause-power c =
    let p = c.args.self.now in
    let plan = plan-kept _ _ c.self.invariant c.self.view_is in
    let size = slice_index p.exponents c.args.g in
    let kept : c.from.result ≡ p.chunk = c.from.ensures ∙ ap (λ q. q.chunk) c.self.view_is in
    let sizes = plan.sizes c.args.g 0 c.requires in (
      min size plan.chunk.0,
      le-min sizes.0 plan.chunk.1,
      omega (arith, min-le_right size plan.chunk.0, plan.chunk.2),
      c.min.ensures ∙ (λ i. min (c.size_of.ensures.size i) (kept i))
          ∙ ap (λ n. min (2 ^ size) n) plan.chunk.3
          ∙ sym (smaller-power size plan.chunk.0),
    )
