use Rattle.std.proofs.Common.{◌≡◌, ℕ, ◌+◌, ◌<◌, ◌⊎◌, [], false, add-one, inl, inr, refl, subst, sym, arith, rules}
use Rattle.nb_core.specs.Plans.{size_of}
use Rattle.nb_core.specs.Tables.{HasSlot}
use Rattle.nb_core.specs.declared.calls.Call.TheVariants as call
use Rattle.nb_table.specs.Chains.{IsOwn, seen_by}
use Rattle.nb_map.specs.Calling.{HasMade}
use Rattle.nb_map.specs.Steps.{probe_steps, slots_below}
use Rattle.nb_map.specs.inside.Walking.{IsAway, IsEarlier}
use Rattle.nb_map.proofs.Bounds.{slots-more}
use Rattle.nb_map.proofs.Earlier.{away-lasts, earlier-reached, ends-away, ends-unread, probe-few}
use Rattle.nb_map.proofs.Made.{made-none, made-own, made-stays, made-within}
use Rattle.nb_map.proofs.Rungs.{at-path}
use Rattle.nb_map.proofs.Searched.{made-then}
use Rattle.nb_map.proofs.Walked.{first-still}
use Rattle.nb_map.proofs.steps.walk.is_earlier.Goals as goal
use Rattle.nb_map.proofs.steps.walk.is_earlier.Goals.{After-probe}

pub loop-f-init : goal.loop-f-init
loop-f-init c = (
  made-within 0 (slots_below c.args.chain.now.shape c.args.first) (omega arith)
      (made-none c.args.chain.now (call.Get c.args.key) c.args.seat.now c.requires.own),
  λ f from below. absurd (omega (arith, from, below)),
)

pub probe-requires : goal.probe-requires
probe-requires c =
    let chain = c.args.chain.now in
    let made = c.loop-f.invariant.0 in
    let below = c.loop-f-test.true in
    let own = made-own chain c.requires.own made in
    let reached = earlier-reached chain c.loop-f.seat own c.args.first c.args.g c.args.key
    (first-still chain c.requires.own c.requires.first made) c.requires.table
    ((made-stays chain c.requires.own made).has_slot c.args.g c.args.key c.requires.table
    c.requires.slot) c.loop-f.f (omega (arith, below))
    c.loop-f.invariant.1 in
    record { at = at-path chain (call.Get c.args.key) c.loop-f.seat c.loop-f.f own reached }

-- the key has its slot still, after the probe
has-slot :
    (c : After-probe) → HasSlot c.args.chain.now.shape
    (seen_by c.args.chain.now.shape c.probe.new.seat) c.args.g c.args.key
has-slot c =
    let chain = c.args.chain.now in
    let made = c.loop-f.invariant.0 in
    let first = made-stays chain c.requires.own made in
    let second = made-stays chain (made-own chain c.requires.own made) c.probe.ensures.made in
    second.has_slot c.args.g c.args.key c.requires.table
    (first.has_slot c.args.g c.args.key c.requires.table c.requires.slot)

own-still : (c : After-probe) → IsOwn c.args.chain.now c.probe.new.seat
own-still c =
    let chain = c.args.chain.now in made-own chain
    (made-own chain c.requires.own c.loop-f.invariant.0) c.probe.ensures.made

-- the steps so far, with those of the probe
so-far :
    (c : After-probe) → HasMade c.args.chain.now.shape (call.Get c.args.key)
    c.args.seat.now c.probe.new.seat []
    (slots_below c.args.chain.now.shape (c.loop-f.f + 1))
so-far c =
    let chain = c.args.chain.now in
    let p = chain.shape in
    let f = c.loop-f.f in
    let ends = c.probe.ensures.ends in
    let unread =
    ends-unread chain c.probe.new.seat (own-still c)
    f c.args.g c.args.key c.loop-f-test.true c.requires.table (has-slot c)
    c.probe.result ends in
    let few = probe-few p (seen_by p c.probe.new.seat) f c.args.key c.probe.result ends in
    let more : slots_below p (f + 1) ≡ size_of p f + slots_below p f =
    subst (λ g. slots_below p g ≡ size_of p f + slots_below p f) (sym (add-one f)) refl in
    made-within (slots_below p f + probe_steps p f 0 c.probe.result) (slots_below p (f + 1))
    (omega (arith, few, more))
    (made-then c.requires.own c.loop-f.invariant.0
    (subst (λ made. HasMade p (call.Get c.args.key) c.loop-f.seat c.probe.new.seat made
    (probe_steps p f 0 c.probe.result)) unread c.probe.ensures.made))

pub returns-in-Slot-clause-made : goal.returns-in-Slot-clause-made
returns-in-Slot-clause-made c =
    let p = c.args.chain.now.shape in
    let below = c.loop-f-test.true in
    made-within (slots_below p (c.loop-f.f + 1)) (slots_below p c.args.g)
    (slots-more p c.args.g (c.loop-f.f + 1) (omega (arith, below)))
    (so-far (goal.at.returns-in-Slot-clause-made c).After-probe)

pub loop-f-preserved : goal.loop-f-preserved
loop-f-preserved c =
    let chain = c.args.chain.now in
    let p = chain.shape in
    let at = (goal.at.loop-f-preserved c).After-probe in
    let lasting = made-stays chain (made-own chain c.requires.own c.loop-f.invariant.0)
    c.probe.ensures.made in
    let here =
    ends-away chain c.probe.new.seat (own-still at)
    c.loop-f.f c.args.g c.args.key c.loop-f-test.true c.requires.table (has-slot at)
    c.probe.result
    c.in_default.not-Slot c.probe.ensures.ends in (
      so-far at,
      λ f from below. elim (before-or-same f c.loop-f.f below) [
        | inl before ↦
            let test = c.loop-f-test.true in
            away-lasts p _ _ lasting f c.args.key (omega (arith, before, test, c.requires.table))
            (c.loop-f.invariant.1 f from before)
        | inr same ↦ subst (λ f. IsAway p (seen_by p c.probe.new.seat) f c.args.key) (sym same) here
      ],
    )
  where
    before-or-same : (a b : ℕ) → a < b + 1 → (a < b) ⊎ (a ≡ b)
    before-or-same a b below = grind (arith, below)

pub returns-clause-made : goal.returns-clause-made
returns-clause-made c =
    let p = c.args.chain.now.shape in
    let end : c.loop-f.f ≡ c.args.g = search rules in
    subst (λ f. HasMade p (call.Get c.args.key) c.args.seat.now c.loop-f.seat [] (slots_below p f))
    end c.loop-f.invariant.0

pub returns-clause-earlier : goal.returns-clause-earlier
returns-clause-earlier c =
    let p = c.args.chain.now.shape in
    let end : c.loop-f.f ≡ c.args.g = search rules in
    subst (λ g. IsEarlier p (seen_by p c.loop-f.seat) c.args.first g c.args.key false)
    end c.loop-f.invariant.1
