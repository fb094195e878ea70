use Rattle.std.proofs.Common.{◌∙◌, ◌≡◌, ap, rules}
use Rattle.nb_table.specs.Chains.{seen_by}
use Rattle.nb_map.specs.Fullness.{sampled}
use Rattle.nb_map.proofs.Sampled.{counting-more, mark}
use Rattle.nb_map.proofs.steps.sample.taken_in.Goals as goal

pub loop-j-preserved : goal.loop-j-preserved
loop-j-preserved c =
    let chain = c.args.chain.now in
    let p = chain.shape in
    let slot : c.sampled-i.result ≡ sampled p c.args.g c.loop-j.j = search rules in
    counting-more chain c.args.g c.loop-j.j c.loop-j.taken c.look-taken.result c.requires.own
    c.requires.table (search rules) c.loop-j.invariant c.look-taken.ensures.grows
    (c.look-taken.ensures.found
    ∙ ap (λ i. mark ((seen_by p c.look-taken.new.seat).key c.args.g i)) slot)
