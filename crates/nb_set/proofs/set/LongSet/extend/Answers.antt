use Rattle.std.proofs.Common.{◌≡◌, ◌∙◌, ◌∷◌, ◌++◌, [], ap, refl, arith, rules}
use Rattle.nb_set.specs.Bulk.{Never}
use Rattle.nb_set.proofs.Swept.{add-next}
use Rattle.nb_set.proofs.set.LongSet.extend.Goals as goal

pub loop-key-init : goal.loop-key-init
loop-key-init g c = (c.requires.own, [], refl, refl, Never)

pub loop-key-preserved : goal.loop-key-preserved
loop-key-preserved g c =
    let sofar = c.loop-key.invariant in
    let key = c.in-Some.key.now in
    let next : c.loop-key.rest.now ≡ key ∷ c.in-Some.tail.now = search rules in
    let more = add-next c.in-Some.tail.now key c.add.result (search rules) c.add.ensures
    (sofar.2 ∙ ap (λ rest. sofar.1 ++ rest) next) sofar.4 in
    (c.add.ensures.own, more.0, more.1, omega (arith, more.2, sofar.3), more.3)
