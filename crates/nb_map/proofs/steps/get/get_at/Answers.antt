use Rattle.std.proofs.Common.{◌+◌, ◌-◌, ◌∷◌, [], ap, refl, subst, arith}
use Rattle.nb_core.specs.declared.calls.Call.TheVariants as call
use Rattle.nb_map.proofs.Made.{made-within}
use Rattle.nb_map.proofs.Rungs.{slot-above, slot-stays}
use Rattle.nb_map.proofs.Searched.{made-then}
use Rattle.nb_map.specs.Calling.{HasMade}
use Rattle.nb_map.proofs.steps.get.get_at.Goals as goal

pub returns-in-Told : goal.returns-in-Told
returns-in-Told c =
    let p = c.args.chain.now.shape in
    let get = call.Get c.args.key in
    let visit = c.in-Told.ensures in
    record {
      made = made-within _ _ (omega (arith, visit.spent.read (λ number. refl)))
          (subst (λ calls. HasMade p get c.args.seat.now c.call_at.new.seat calls
          (2 + (1 - c.call_at.new.tries)))
          (ap (λ reply. (get, reply) ∷ []) visit.visit) visit.made);
    }

pub unreachable-requires : goal.unreachable-requires
unreachable-requires c = c.in-Refused.ensures.visit.1 (λ number. refl)

pub get_from-requires : goal.get_from-requires
get_from-requires c =
    let chain = c.args.chain.now in
    let visit = c.in-Above.ensures in
    record { at = slot-above chain (slot-stays chain c.requires.at visit.made) visit.visit.0.0 }

pub returns-in-Above : goal.returns-in-Above
returns-in-Above c =
    let p = c.args.chain.now.shape in
    let visit = c.in-Above.ensures in
    record {
      made = made-within _ _ (omega (arith, visit.spent.read (λ number. refl)))
          (made-then c.requires.at.own visit.made c.get_from.ensures.made);
    }
