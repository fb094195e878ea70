use Rattle.std.proofs.Common.{◌≡◌, ◌∙◌, ◌∷◌, ◌++◌, [], ap, refl, arith, rules, subst}
use Rattle.nb_set.specs.Bulk.{Never}
use Rattle.nb_set.specs.Log.{Add}
use Rattle.nb_set.specs.Promises.{HasWritten}
use Rattle.nb_set.specs.Sets.{SetOf}
use Rattle.nb_set.proofs.Handles.{keeps-on}
use Rattle.nb_set.proofs.Swept.{add-next}
use Rattle.nb_set.proofs.handle.Handle.extend.Goals as goal

pub loop-key-init : goal.loop-key-init
loop-key-init g c = (record { set = refl; reserve = refl }, [], refl, refl, Never)

pub loop-key-preserved : goal.loop-key-preserved
loop-key-preserved g c =
    let sofar = c.loop-key.invariant in
    let key = c.in-Some.key.now in
    let next : c.loop-key.rest.now ≡ key ∷ c.in-Some.tail.now = search rules in
    let wrote = subst (λ (set : SetOf). HasWritten set (Add key) c.loop-key.self.seat
    c.add.new.self.seat c.add.result) sofar.0.set c.add.ensures.wrote in
    let more = add-next c.in-Some.tail.now key c.add.result (search rules) wrote
    (sofar.2 ∙ ap (λ rest. sofar.1 ++ rest) next) sofar.4 in
    (keeps-on c.add.ensures.rest sofar.0, more.0, more.1, omega (arith, more.2, sofar.3), more.3)
