use Rattle.std.proofs.Common.{◌+◌, [], sym, subst, arith}
use Rattle.nb_core.specs.History.{key_of_call}
use Rattle.nb_core.specs.Plans.{limit_of}
use Rattle.nb_core.specs.Tables.{AreOthers}
use Rattle.nb_table.specs.Chains.{SeenBy, seen_by}
use Rattle.nb_table.proofs.Theorems.{steps_add_up}
use Rattle.nb_map.proofs.Claimed.{complete-next, made-complete, made-install}
use Rattle.nb_map.proofs.Made.{made-more, made-own, made-quiet, made-stays, made-within}
use Rattle.nb_map.specs.Calling.{HasMade}
use Rattle.nb_map.specs.inside.Climbing.{HasBelow}
use Rattle.nb_map.specs.Steps.{owed_below}
use Rattle.nb_map.proofs.steps.claim.grow.Goals as goal
use Rattle.nb_map.proofs.steps.claim.grow.Goals.{then-not-load_next, else-not-load_next}

pub make_ready-requires-clause-installed : goal.make_ready-requires-clause-installed
make_ready-requires-clause-installed c =
    (steps_add_up.stays c.requires.at.own (steps_add_up.one c.load_next.ensures.grows)).installed
    c.args.rung.g c.requires.at.reached.installed

pub make_ready-requires-clause-below : goal.make_ready-requires-clause-below
make_ready-requires-clause-below c = λ complete.
    let p = c.args.chain.now.shape in
    let before = seen_by p c.args.seat.now in
    (steps_add_up.stays c.requires.at.own (steps_add_up.one c.load_next.ensures.grows)).ready c.args.rung.g
    (omega (arith, c.requires.room))
    (subst (HasBelow p before c.args.rung.g (key_of_call c.args.call.now)) complete c.requires.at.known)

pub install-requires-clause-crowded : goal.install-requires-clause-crowded
install-requires-clause-crowded c =
    let chain = c.args.chain.now in
    let p = chain.shape in
    let g = c.args.rung.g in
    let looked = made-quiet p c.args.call.now c.load_next.ensures.grows in
    let so_far = made-more chain c.requires.at.own looked
    (c.make_ready.ensures.made c.args.call.now) in
    subst (λ k. AreOthers p (seen_by p c.make_ready.new.seat) g k (limit_of p g))
    (sym c.key.ensures)
    ((made-stays chain c.requires.at.own so_far).others g (key_of_call c.args.call.now)
    (limit_of p g) c.requires.at.table c.requires.crowded)

pub returns : goal.returns
returns c =
    let chain = c.args.chain.now in
    let p = chain.shape in
    let g = c.args.rung.g in
    let owed = owed_below p g c.args.rung.below in
    let table = c.requires.at.table in
    let looked = made-quiet p c.args.call.now c.load_next.ensures.grows in
    let so_far : HasMade p c.args.call.now c.args.seat.now c.if-not-load_next.seat [] (owed + 2) =
    elim c.if-not-load_next.branch [
      | then-not-load_next w ↦
          subst (λ (s : SeenBy). HasMade p c.args.call.now c.args.seat.now s [] (owed + 2))
          (sym w.seat-is)
          (made-within (1 + owed + 1) (owed + 2) (omega arith)
          (made-more chain c.requires.at.own
          (made-more chain c.requires.at.own looked (w.make_ready.ensures.made c.args.call.now))
          (made-install chain c.args.call.now w.key.result g w.install.result (sym w.key.ensures)
          c.requires.fills
          w.install.ensures.won w.install.ensures.lost)))
      | else-not-load_next w ↦
          subst (λ (s : SeenBy). HasMade p c.args.call.now c.args.seat.now s [] (owed + 2))
          (sym w.seat-is)
          (made-within 1 (owed + 2) (omega arith) looked)
    ] in
    let made = made-complete chain c.requires.room c.requires.at.own so_far
    c.complete.ensures.completed in
    let complete = c.complete.ensures.completed.complete in
    let own = made-own chain c.requires.at.own made in
    record {
      made = made;
      complete =
          (complete, complete-next chain c.complete.new.seat own g table complete);
    }
