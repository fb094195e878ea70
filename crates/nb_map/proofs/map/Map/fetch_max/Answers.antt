use Rattle.std.proofs.Common.{◌≡◌, ◌∙◌, ap, refl, rules}
use Rattle.nb_map.proofs.Compound.{update-as}
use Rattle.nb_map.specs.Compound.{Computes, greater_of}
use Rattle.nb_map.proofs.map.Map.fetch_max.Goals as goal

-- the function keeps the number that it was made with
pub returns-clause-updated : goal.returns-clause-updated
returns-clause-updated c =
    update-as (Computes (greater_of c.args.number)) (λ f. f.0 ≡ c.args.number) (λ f. tt)
    (λ f was new g same step.
    let computed : new ≡ greater_of f.0 was = search (rules, step.met) in
    (computed ∙ ap (λ n. greater_of n was) same, step.met.1.1 ∙ same))
    refl c.try_update.ensures.updated
