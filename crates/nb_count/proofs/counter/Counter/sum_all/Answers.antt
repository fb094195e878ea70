use Rattle.std.proofs.Common.{◌≡◌, ◌∙◌, ◌+◌, ◌*◌, ◌%◌, ◌^◌, add-one, ap, sym, arith}
use Rattle.nb_count.specs.Tallies.{served, total, wrapped}
use Rattle.nb_count.specs.declared.tally.TheConstants.{SPREAD}
use Rattle.nb_count.proofs.Sums.{all_served, over_stripes, wrapped-sum}
use Rattle.nb_count.proofs.counter.Counter.sum_all.Goals as goal

pub loop-stripe-preserved : goal.loop-stripe-preserved
loop-stripe-preserved c =
    let ts = c.args.all.now.me.0 in
    let stripes = c.args.self.now.stripes in
    let i = c.loop-stripe.stripe in
    let found : c.look_with_all-sum.result ≡ wrapped (total (served stripes (SPREAD * i)) ts) =
    c.look_with_all-sum.ensures.found
    ∙ ap (λ m. wrapped (total (served stripes (SPREAD * i)) m.0)) c.loop-stripe.invariant.1 in (
      c.look_with_all-sum.ensures.table ∙ c.loop-stripe.invariant.0,
      c.look_with_all-sum.ensures.same ∙ c.loop-stripe.invariant.1,
      (λ j. (c.loop-stripe.invariant.2 j + found j) % 2 ^ 64)
          ∙ wrapped-sum (over_stripes stripes i ts) (total (served stripes (SPREAD * i)) ts)
          ∙ ap (λ n. wrapped (over_stripes stripes n ts)) (sym (add-one i)),
    )

pub returns-clause-sum : goal.returns-clause-sum
returns-clause-sum c =
    let ts = c.args.all.now.me.0 in
    let stripes : c.self.inside.size.stripes ≡ c.args.self.now.stripes
    = ap (λ v. v.stripes) c.self.view_is in
    let end : c.loop-stripe.stripe ≡ c.args.self.now.stripes
    = omega (arith, c.loop-stripe-test.false, c.loop-stripe.auto.stripe-end, stripes) in
    c.loop-stripe.invariant.2
    ∙ ap (λ n. wrapped (over_stripes c.args.self.now.stripes n ts)) end
    ∙ ap wrapped
    (all_served c.args.self.now.stripes ts (omega (arith, c.self.invariant.some, stripes)))
