use Rattle.std.proofs.Common.{◌≡◌, ◌∙◌, ◌%◌, ◌^◌, ap, refl, arith}
use Rattle.std.specs.Mem.Slots.{slots_items}
use Rattle.nb_count.specs.Tallies.{sum_of_stripes}
use Rattle.nb_count.proofs.Gathered.{sum-next}
use Rattle.nb_count.proofs.counter.sum_of.Goals as goal

pub loop-i-init : goal.loop-i-init
loop-i-init c = refl

pub loop-i-preserved : goal.loop-i-preserved
loop-i-preserved c = sum-next (slots_items c.args.closed.now.words)
    c.loop-i.i c.loop-i.sum c.word-sum.result c.loop-i.invariant c.word-sum.ensures

pub returns : goal.returns
returns c =
    let whole : c.loop-i.i ≡ c.args.count = omega arith in
    c.loop-i.invariant ∙ ap (λ n. sum_of_stripes (slots_items c.args.closed.now.words) n % 2 ^ 64)
    whole
