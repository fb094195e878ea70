use Rattle.std.proofs.Common.{◌≡◌, ◌+◌, ◌-◌, ◌*◌, ◌<◌, subst, sym, arith, rules}
use Rattle.nb_core.specs.Paths.{IsPathIn}
use Rattle.nb_core.specs.Plans.{size_of}
use Rattle.nb_core.specs.Tables.{AreOthers}
use Rattle.nb_core.specs.declared.calls.Call.TheVariants as call
use Rattle.nb_table.specs.Chains.{seen_by}
use Rattle.nb_map.specs.declared.steps.get.Glance.TheVariants as glance_is
use Rattle.nb_map.specs.inside.Climbing.{IsAt, rung_for_read}
use Rattle.nb_map.specs.inside.Reading.{IsGlance}
use Rattle.nb_map.proofs.Home.{others-away}
use Rattle.nb_map.proofs.Made.{made-none, made-within}
use Rattle.nb_map.proofs.Rungs.{read-further}
use Rattle.nb_map.proofs.Searched.{made-then, two-slots}
use Rattle.nb_map.proofs.steps.get.glance_along.Goals as goal

pub loop-distance-init : goal.loop-distance-init
loop-distance-init c =
    let chain = c.args.chain.now in (
      made-within 0 _ (omega arith)
          (made-none chain (call.Get c.args.key) c.args.seat.now c.requires.at.own),
      c.requires.at.others,
    )

pub glance_on-requires-clause-at : goal.glance_on-requires-clause-at
glance_on-requires-clause-at c =
    let chain = c.args.chain.now in
    let is : IsPathIn chain.shape c.args.g c.args.key c.path-path.result =
    subst (λ q. IsPathIn q c.args.g c.args.key c.path-path.result) c.shape.ensures
    c.path-path.ensures in
    let slots = c.slots-last.ensures chain.shape c.args.g c.args.key is in
    let below : c.loop-distance.distance < c.slots-last.result - 1 = search rules in
    let near : c.loop-distance.distance < size_of chain.shape c.args.g =
    omega (arith, below, slots) in
    let so_far = c.loop-distance.invariant in
    subst (λ g. IsAt chain (call.Get c.args.key) c.loop-distance.seat
    (rung_for_read g c.loop-distance.distance)) (sym is.table)
    (read-further chain c.requires.at so_far.0 near so_far.1)

pub returns-in-Shows-clause-made : goal.returns-in-Shows-clause-made
returns-in-Shows-clause-made c =
    let chain = c.args.chain.now in
    let is : IsPathIn chain.shape c.args.g c.args.key c.path-path.result =
    subst (λ q. IsPathIn q c.args.g c.args.key c.path-path.result) c.shape.ensures
    c.path-path.ensures in
    let slots = c.slots-last.ensures chain.shape c.args.g c.args.key is in
    let below : c.loop-distance.distance < c.slots-last.result - 1 = search rules in
    let near : c.loop-distance.distance < size_of chain.shape c.args.g =
    omega (arith, below, slots) in
    made-within (2 * (c.loop-distance.distance - c.args.from) + 2) _ (omega (arith, near))
    (made-then c.requires.at.own c.loop-distance.invariant.0 c.in-Shows.ensures.made)

-- ---- where the key's slot is being copied, or the path is closed

pub returns-then-next-distance-clause-made : goal.returns-then-next-distance-clause-made
returns-then-next-distance-clause-made c =
    let chain = c.args.chain.now in
    let is : IsPathIn chain.shape c.args.g c.args.key c.path-path.result =
    subst (λ q. IsPathIn q c.args.g c.args.key c.path-path.result) c.shape.ensures
    c.path-path.ensures in
    let slots = c.slots-last.ensures chain.shape c.args.g c.args.key is in
    let below : c.loop-distance.distance < c.slots-last.result - 1 = search rules in
    let near : c.loop-distance.distance < size_of chain.shape c.args.g =
    omega (arith, below, slots) in
    made-within (2 * (c.loop-distance.distance - c.args.from) + 2) _ (omega (arith, near))
    (made-then c.requires.at.own c.loop-distance.invariant.0 c.in-From.ensures.made)

-- ---- behind another key's slot

pub loop-distance-preserved : goal.loop-distance-preserved
loop-distance-preserved c =
    let chain = c.args.chain.now in
    let is : IsPathIn chain.shape c.args.g c.args.key c.path-path.result =
    subst (λ q. IsPathIn q c.args.g c.args.key c.path-path.result) c.shape.ensures
    c.path-path.ensures in
    let slots = c.slots-last.ensures chain.shape c.args.g c.args.key is in
    let below : c.loop-distance.distance < c.slots-last.result - 1 = search rules in
    let near : c.loop-distance.distance < size_of chain.shape c.args.g =
    omega (arith, below, slots) in
    let p = chain.shape in
    let seen = seen_by p c.glance_on.new.seat in
    let glance = subst (λ g. IsGlance p seen g c.args.key c.loop-distance.distance
    (glance_is.From c.in-From.next)) is.table c.in-From.ensures.glance in (
      made-within (2 * (c.loop-distance.distance - c.args.from) + 2) _
          (omega (arith, c.loop-distance.auto.distance))
          (made-then c.requires.at.own c.loop-distance.invariant.0 c.in-From.ensures.made),
      λ e before. glance.2 e (omega (arith, before, glance.0, c.if-next-distance.false)),
    )

-- ---- at the path's last slot

pub returns-clause-made : goal.returns-clause-made
returns-clause-made c =
    let chain = c.args.chain.now in
    let is : IsPathIn chain.shape c.args.g c.args.key c.path-path.result =
    subst (λ q. IsPathIn q c.args.g c.args.key c.path-path.result) c.shape.ensures
    c.path-path.ensures in
    let slots = c.slots-last.ensures chain.shape c.args.g c.args.key is in
    let over : c.loop-distance.distance ≡ c.slots-last.result - 1 = search rules in
    made-within _ _ (omega (arith, over, slots)) c.loop-distance.invariant.0

pub returns-clause-glance : goal.returns-clause-glance
returns-clause-glance c =
    let chain = c.args.chain.now in
    let is : IsPathIn chain.shape c.args.g c.args.key c.path-path.result =
    subst (λ q. IsPathIn q c.args.g c.args.key c.path-path.result) c.shape.ensures
    c.path-path.ensures in
    let slots = c.slots-last.ensures chain.shape c.args.g c.args.key is in
    let over : c.loop-distance.distance ≡ c.slots-last.result - 1 = search rules in
    let p = chain.shape in
    let more = two-slots p is.plan c.args.g c.requires.at.table in
    let others = subst (λ d. AreOthers p (seen_by p c.loop-distance.seat) c.args.g c.args.key d)
    over c.loop-distance.invariant.1 in (
      omega (arith, over, c.loop-distance.auto.distance),
      omega (arith, slots, more),
      others,
      others-away p (seen_by p c.loop-distance.seat) c.args.g c.args.key _
          (omega (arith, slots, more)) others,
    )
