use Rattle.std.proofs.Common.{◌≡◌, ◌∙◌, ◌∷◌, ◌++◌, [], ap, refl, arith, rules}
use Rattle.nb_map.proofs.Extended.{put-next}
use Rattle.nb_map.specs.Bulk.{Never, put_entry}
use Rattle.nb_map.specs.Progress.{Unlimited}
use Rattle.nb_map.specs.Promises.{HasWritten, found_or_full}
use Rattle.nb_map.proofs.map.Map.extend.Goals as goal

pub loop-key-init : goal.loop-key-init
loop-key-init g c = (c.requires.own, [], refl, refl, Never)

pub loop-key-preserved : goal.loop-key-preserved
loop-key-preserved g c =
    let sofar = c.loop-key.invariant in
    let entry = c.in-Some.field-0-0.now in
    let wrote : HasWritten c.args.self.now (put_entry entry) c.loop-key.seat c.put.new.seat
    Unlimited (found_or_full c.put.result) = search rules in
    let next : c.loop-key.rest.now ≡ entry ∷ c.in-Some.tail.now = search rules in
    let more = put-next c.in-Some.tail.now entry c.put.result (search rules) wrote
    (sofar.2 ∙ ap (λ rest. sofar.1 ++ rest) next) sofar.4 in
    (c.put.ensures.own, more.0, more.1, omega (arith, more.2, sofar.3), more.3)
