use Rattle.std.proofs.Common.{rules, ◌≡◌, subst₂, ◌∙◌, ◌∷◌, ◌++◌, [], arith, subst, sym}
use Rattle.std.proofs.lemmas.List.Elements.{length_all_zip}
use Rattle.std.specs.List.{AllZip}
use Rattle.nb_runner.specs.Working.{IsRun}
use Rattle.nb_runner.specs.declared.workers.Worker.{Worker}
use Rattle.nb_runner.proofs.Together.{all-zip-push}
use Rattle.nb_runner.proofs.workers.+fn-run_together-scope+run_together.Goals as goal

pub scope-push_reserved-requires : goal.scope-push_reserved-requires
scope-push_reserved-requires g t c =
    let count = length_all_zip (IsRun c.captures.map.now c.captures.phase.now)
    c.captures.workers.items c.in_ok-workers.workers.items
    c.in_ok-workers.ensures.ran in
    omega (arith, c.in_ok-workers.workers.ok, c.in_ok-workers.ensures.room, c.requires.room, count)

pub scope-returns : goal.scope-returns
scope-returns g t c =
    let ran : IsRun c.captures.map.now c.captures.phase.now c.captures.last c.join-ran.result =
    search rules in record {
      room = c.push_reserved.ensures.capacity ∙ c.in_ok-workers.ensures.room;
      ran =
          subst (AllZip (IsRun c.captures.map.now c.captures.phase.now)
          (c.captures.workers.items ++ c.captures.last ∷ []))
          (sym c.push_reserved.ensures.items)
          (all-zip-push (IsRun c.captures.map.now c.captures.phase.now)
          c.captures.workers.items c.in_ok-workers.workers.items
          c.captures.last c.join-ran.result c.in_ok-workers.ensures.ran ran);
    }

pub returns-then-busy-lt2-clause-ran : goal.returns-then-busy-lt2-clause-ran
returns-then-busy-lt2-clause-ran g t c =
    let R : Worker → Worker → Type 0 = IsRun c.args.map.now c.args.phase.now in
    let whole : c.args.workers.items ≡ c.pop.new.self.items ++ c.in-Some.last ∷ [] = search rules in
    subst₂ (AllZip R) (sym whole) (sym c.push_reserved.ensures.items)
    (all-zip-push R c.pop.new.self.items c.in_ok-workers.workers.items c.in-Some.last
    c.run-ran.result c.in_ok-workers.ensures.ran
    (c.run-ran.ensures.own, c.run-ran.ensures.ran))
