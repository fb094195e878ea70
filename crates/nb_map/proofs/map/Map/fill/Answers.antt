use Rattle.std.proofs.Common.{◌≡◌, ◌∙◌, ◌∷◌, ◌++◌, [], ap, refl, sym, subst, arith, rules}
use Rattle.std.proofs.lemmas.List.{append-nil, nil_from_length}
use Rattle.nb_map.proofs.Filled.{put-next, put-none, put-refused}
use Rattle.nb_map.specs.Bulk.{put_entry}
use Rattle.nb_map.specs.Progress.{Tries}
use Rattle.nb_map.specs.Promises.{HasWritten, found_or_refused}
use Rattle.nb_map.specs.inside.Filling.{HasPut}
use Rattle.nb_map.proofs.map.Map.fill.Goals as goal

pub loop-key-init : goal.loop-key-init
loop-key-init c = ([], refl, put-none c.args.self.now c.args.entries.now c.requires.own)

pub try_put-requires : goal.try_put-requires
try_put-requires c = record { own = c.loop-key.invariant.2.own; some = omega arith }

pub loop-key-preserved : goal.loop-key-preserved
loop-key-preserved c =
    let sofar = c.loop-key.invariant in
    let entry = c.in-Some.field-0-0.now in
    let wrote : HasWritten c.args.self.now (put_entry entry) c.loop-key.seat
    c.try_put.new.seat (Tries 1) (found_or_refused c.try_put.result) = search rules in
    let next : c.loop-key.rest.now ≡ entry ∷ c.in-Some.tail.now = search rules in
    put-next c.args.self.now c.args.entries.now c.in-Some.tail.now entry c.try_put.result
    (search rules) wrote (sofar.1 ∙ ap (λ rest. sofar.0 ++ rest) next) sofar.2

pub returns : goal.returns
returns c =
    let sofar = c.loop-key.invariant in
    let none : c.loop-key.rest.now ≡ [] = nil_from_length c.loop-key.rest.now (search rules) in
    let all = sym (sofar.1 ∙ ap (λ rest. sofar.0 ++ rest) none ∙ append-nil sofar.0) in
    subst (λ first. HasPut c.args.self.now c.args.entries.now first c.args.seat.now c.loop-key.seat)
    all sofar.2

pub returns-then-is_err : goal.returns-then-is_err
returns-then-is_err c =
    let sofar = c.loop-key.invariant in
    let entry = c.in-Some.field-0-0.now in
    let wrote : HasWritten c.args.self.now (put_entry entry) c.loop-key.seat
    c.try_put.new.seat (Tries 1) (found_or_refused c.try_put.result) = search rules in
    let next : c.loop-key.rest.now ≡ entry ∷ c.in-Some.tail.now = search rules in
    put-refused c.args.self.now c.args.entries.now c.in-Some.tail.now entry c.try_put.result
    (search rules) wrote (sofar.1 ∙ ap (λ rest. sofar.0 ++ rest) next) (search rules) sofar.2
