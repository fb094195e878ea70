use Rattle.std.proofs.Common.{◌+◌, ◌-◌, ◌∷◌, [], ap, refl, subst, arith}
use Rattle.nb_core.specs.declared.calls.Call.TheVariants as call
use Rattle.nb_map.proofs.Made.{made-within}
use Rattle.nb_map.specs.Calling.{HasMade}
use Rattle.nb_map.specs.Steps.{climb_steps}
use Rattle.nb_map.proofs.steps.get.get_from.Goals as goal

pub returns : goal.returns
returns c =
    let p = c.args.chain.now.shape in
    let get = call.Get c.args.key in
    let climb = c.in-Ok.ensures in
    record {
      made = made-within _ (climb_steps p) (omega (arith, climb.spent.read (λ number. refl)))
          (subst (λ calls. HasMade p get c.args.seat.now c.climb.new.seat calls
          (climb_steps p + (1 - c.climb.new.tries)))
          (ap (λ reply. (get, reply) ∷ []) climb.replied) climb.made);
    }

pub unreachable-requires : goal.unreachable-requires
unreachable-requires c = c.in-Err.ensures.refused.1 (λ number. refl)
