use Rattle.std.proofs.Common.{◌≡◌, ◌∙◌, ◌+◌, ◌<◌, ◌-◌, ◌≤◌, [], None, ap, inl, inr, refl, subst, sym, arith, rules}
use Rattle.nb_core.proofs.Theorems.{limits_fit}
use Rattle.nb_core.specs.Calls.{Fills}
use Rattle.nb_core.specs.History.{key_of_call}
use Rattle.nb_core.specs.Plans.{generations_of, limit_of, size_of}
use Rattle.nb_core.specs.Tables.{AreOthers}
use Rattle.nb_table.specs.Chains.{seen_by}
use Rattle.nb_map.proofs.Claimed.{HasProbed, HasSettled, above-complete, empty-behind, others-nearer, settled-before, settled-now, walked-behind, walked-claimed, walked-here, walked-none, walked-to, walked-whole, whole-full}
use Rattle.nb_map.proofs.Made.{made-more, made-own, made-stays, made-within}
use Rattle.nb_map.proofs.Rungs.{at-stays}
use Rattle.nb_map.proofs.Searched.{closed-above}
use Rattle.nb_map.proofs.Tried.{acts-unless}
use Rattle.nb_map.specs.Calling.{HasMade}
use Rattle.nb_map.specs.Steps.{grow_steps, owed_below, search_steps}
use Rattle.nb_map.specs.declared.steps.rung.Below.TheVariants.{Complete, Passed}
use Rattle.nb_map.specs.declared.steps.rung.Rung.{Rung}
use Rattle.nb_map.specs.declared.steps.search.PathEnd.TheVariants.{Closed, Empty, Slot, Whole}
use Rattle.nb_map.specs.inside.Climbing.{GoesAbove, IsAt, IsSlotOf, IsVisitHere, made_by}
use Rattle.nb_map.proofs.steps.claim.find.Goals as goal
use Rattle.nb_map.proofs.steps.claim.find.Goals.{After-probe, In-Empty, Joined-rung, in-Passed, in_default-below}

-- the call puts a number at an absent key
fills : (c : After-probe) → Fills c.args.call.now
fills c = acts-unless c.args.call.now None c.decide.result c.decide.ensures c.in_default.not-Leave

pub returns-in-Leave-clause-made : goal.returns-in-Leave-clause-made
returns-in-Leave-clause-made c = made-within _ _ (omega arith) c.seek.ensures.made

pub loop-i-init : goal.loop-i-init
loop-i-init c = record {
  same = refl;
  walked = walked-none c.args.chain.now c.args.call.now c.args.seat.now c.requires.at.own
      c.args.rung.g c.args.rung.from c.args.rung.below;
  at = c.requires.at;
}

pub returns-in-Slot-clause-made : goal.returns-in-Slot-clause-made
returns-in-Slot-clause-made c =
    let so_far = c.loop-i.invariant in
    let p = c.args.chain.now.shape in
    let acts = fills (goal.at.returns-in-Slot-clause-made c).After-probe in
    subst (λ g. HasMade p c.args.call.now c.args.seat.now c.probe.new.seat [] (search_steps p g))
    so_far.same
    (walked-here c.args.chain.now so_far.at.within so_far.walked
    (walked-to c.args.chain.now c.requires.at.own acts so_far.walked (Slot c.in-Slot.i)
    c.in-Slot.ensures.made))

pub returns-in-Closed-clause-made : goal.returns-in-Closed-clause-made
returns-in-Closed-clause-made c =
    let so_far = c.loop-i.invariant in
    let p = c.args.chain.now.shape in
    let acts = fills (goal.at.returns-in-Closed-clause-made c).After-probe in
    subst (λ g. HasMade p c.args.call.now c.args.seat.now c.probe.new.seat [] (search_steps p g))
    so_far.same
    (walked-here c.args.chain.now so_far.at.within so_far.walked
    (walked-to c.args.chain.now c.requires.at.own acts so_far.walked Closed c.in-Closed.ensures.made))

pub returns-in-Closed-clause-found : goal.returns-in-Closed-clause-found
returns-in-Closed-clause-found c =
    let p = c.args.chain.now.shape in
    let ends = c.in-Closed.ensures.ends in
    subst (λ g. GoesAbove p c.args.call.now c.probe.new.seat g Passed) c.loop-i.invariant.same (
      closed-above p (seen_by p c.probe.new.seat) c.loop-i.rung.g (key_of_call c.args.call.now)
          ends.0 ends.1,
      tt,
    )

-- ---- other keys have the whole path

pub returns-in-Whole : goal.returns-in-Whole
returns-in-Whole c =
    let chain = c.args.chain.now in
    let p = chain.shape in
    let so_far = c.loop-i.invariant in
    let acts = fills (goal.at.returns-in-Whole c).After-probe in
    let last : c.loop-i.rung.g + 1 ≡ generations_of p = search rules in
    record {
      made = subst (λ g. HasMade p c.args.call.now c.args.seat.now c.probe.new.seat []
          (search_steps p g)) so_far.same
          (walked-here chain so_far.at.within so_far.walked
          (walked-to chain c.requires.at.own acts so_far.walked Whole c.in-Whole.ensures.made));
      found = (
        refl,
        (
          acts,
          whole-full chain c.probe.new.seat (at-stays chain so_far.at c.probe.ensures.made).own
              c.loop-i.rung.g (key_of_call c.args.call.now) last c.in-Whole.ensures.ends,
        ),
      );
    }

pub grow-requires-clause-at : goal.grow-requires-clause-at
grow-requires-clause-at c =
    at-stays c.args.chain.now c.loop-i.invariant.at c.probe.ensures.made

pub grow-requires-clause-fills : goal.grow-requires-clause-fills
grow-requires-clause-fills c = fills (goal.at.grow-requires-clause-fills c).After-probe

pub grow-requires-clause-crowded : goal.grow-requires-clause-crowded
grow-requires-clause-crowded c =
    let p = c.args.chain.now.shape in
    let g = c.loop-i.rung.g in
    others-nearer p (seen_by p c.probe.new.seat) g (key_of_call c.args.call.now) (size_of p g)
    (limit_of p g) (limits_fit p c.requires.at.own.plan g c.loop-i.invariant.at.table).1
    c.in-Whole-2.ensures.ends

pub returns-in-Whole-2 : goal.returns-in-Whole-2
returns-in-Whole-2 c =
    let chain = c.args.chain.now in
    let p = chain.shape in
    let call = c.args.call.now in
    let so_far = c.loop-i.invariant in
    let acts = fills (goal.at.returns-in-Whole-2 c).After-probe in
    let here = at-stays chain so_far.at c.probe.ensures.made in
    let own = made-own chain here.own c.grow.ensures.made in
    record {
      made = subst (λ g. HasMade p call c.args.seat.now c.grow.new.seat [] (search_steps p g))
          so_far.same
          (walked-whole chain c.requires.at.own so_far.at.within so_far.walked
          (walked-to chain c.requires.at.own acts so_far.walked Whole c.in-Whole-2.ensures.made)
          c.grow.ensures.made);
      found = subst (λ g. GoesAbove p call c.grow.new.seat g Complete) so_far.same
          (above-complete chain call c.grow.new.seat own c.loop-i.rung.g here.table
          c.grow.ensures.complete.0 c.grow.ensures.complete.1);
    }

-- ---- an empty slot

pub make_ready-requires : goal.make_ready-requires
make_ready-requires c =
    let here = at-stays c.args.chain.now c.loop-i.invariant.at c.probe.ensures.made in
    record {
      own = here.own;
      installed = here.reached.installed;
      below = λ complete. absurd (let both = sym complete ∙ c.in-Passed.is in cc);
    }

-- it lies no nearer than the walk had come
ahead : (c : In-Empty) → c.loop-i.rung.from ≤ c.in-Empty.distance
ahead c =
    let p = c.args.chain.now.shape in
    let here = at-stays c.args.chain.now c.loop-i.invariant.at c.probe.ensures.made in
    empty-behind p (seen_by p c.probe.new.seat) c.loop-i.rung.g (key_of_call c.args.call.now)
    c.loop-i.rung.from c.in-Empty.distance here.others c.in-Empty.ensures.ends.2

-- what was done until it may be claimed, and where the call has come to then
settles :
    (c : Joined-rung)
    → HasSettled c.args.chain.now c.args.call.now c.loop-i.rung c.in-Empty.distance c.probe.new.seat
    c.match-rung.seat c.match-rung.rung
settles c =
    let chain = c.args.chain.now in
    let call = c.args.call.now in
    elim c.match-rung.branch [
      | in-Passed w ↦
          settled-now chain call w.seat-is w.rung-is (w.make_ready.ensures.made call)
          w.make_ready.ensures.ready
      | in_default-below w ↦
          settled-before chain call w.seat-is w.rung-is w.in_default-below.not-Passed
          (at-stays chain c.loop-i.invariant.at c.probe.ensures.made).own
    ]

settled :
    (c : Joined-rung) → Fills c.args.call.now
    → HasMade c.args.chain.now.shape c.args.call.now c.args.seat.now c.match-rung.seat []
    (c.loop-i.invariant.walked.most + (c.in-Empty.distance + 1 - c.loop-i.rung.from)
    + (owed_below c.args.chain.now.shape c.loop-i.rung.g c.loop-i.rung.below
    - owed_below c.args.chain.now.shape c.loop-i.rung.g c.match-rung.rung.below))
settled c acts =
    made-more c.args.chain.now c.requires.at.own
    (walked-to c.args.chain.now c.requires.at.own acts c.loop-i.invariant.walked
    (Empty c.in-Empty.distance) c.in-Empty.ensures.made)
    (settles c).made

there :
    (c : Joined-rung) → IsAt c.args.chain.now c.args.call.now c.match-rung.seat c.match-rung.rung
there c =
    let chain = c.args.chain.now in
    let k = key_of_call c.args.call.now in
    let settle = settles c in
    let probed = at-stays chain c.loop-i.invariant.at c.probe.ensures.made in
    let here = at-stays chain probed settle.made in
    let ends = c.in-Empty.ensures.ends in
    subst (IsAt chain c.args.call.now c.match-rung.seat) (sym settle.is) (record {
      own = here.own;
      table = here.table;
      reached = here.reached;
      within = omega (arith, ends.0);
      start = inl ends.0;
      others = (made-stays chain probed.own settle.made).others c.loop-i.rung.g k
          c.in-Empty.distance here.table ends.1;
      known = settle.has k probed.known;
    })

pub claim_at-requires : goal.claim_at-requires
claim_at-requires c =
    let joined = (goal.at.claim_at-requires c).Joined-rung in
    let settle = settles joined in
    record {
      at = there joined;
      fills = fills (goal.at.claim_at-requires c).After-probe;
      known = settle.known;
      near = subst (λ (rung : Rung). rung.from < size_of c.args.chain.now.shape rung.g)
          (sym settle.is) c.in-Empty.ensures.ends.0;
    }

-- the same table still
same : (c : Joined-rung) → c.match-rung.rung.g ≡ c.loop-i.rung.g
same c = ap (λ (rung : Rung). rung.g) (settles c).is

pub returns-in-Ok-Some : goal.returns-in-Ok-Some
returns-in-Ok-Some c =
    let joined = (goal.at.returns-in-Ok-Some c).Joined-rung in
    let so_far = c.loop-i.invariant in
    let p = c.args.chain.now.shape in
    let claimed = rw c.in-Ok-Some.field-0-is at c.in-Ok-Some.ensures.claimed in
    record {
      made = subst (λ g. HasMade p c.args.call.now c.args.seat.now c.claim_at.new.seat []
          (search_steps p g)) so_far.same
          (walked-claimed c.args.chain.now c.match-rung.rung.below c.in-Empty.distance
          c.requires.at.own so_far.at.within c.in-Empty.ensures.ends.0 (settles joined).fewer
          so_far.walked (settled joined (fills (goal.at.returns-in-Ok-Some c).After-probe))
          (made-within 2 _ (omega arith) claimed.0));
      found = subst (λ g. IsSlotOf p (seen_by p c.claim_at.new.seat) g c.in-Ok-Some.i
          (key_of_call c.args.call.now)) (same joined ∙ so_far.same) claimed.1;
    }

pub returns-in-Err : goal.returns-in-Err
returns-in-Err c =
    let joined = (goal.at.returns-in-Err c).Joined-rung in
    let so_far = c.loop-i.invariant in
    let p = c.args.chain.now.shape in
    let call = c.args.call.now in
    let seat = c.claim_at.new.seat in
    let calls = made_by call c.in-Err.visit in
    let below = c.match-rung.rung.below in
    let visit = c.in-Err.ensures.visit in
    record {
      made = subst (λ g. HasMade p call c.args.seat.now seat calls (search_steps p g)) so_far.same
          (walked-claimed c.args.chain.now below c.in-Empty.distance c.requires.at.own
          so_far.at.within c.in-Empty.ensures.ends.0 (settles joined).fewer so_far.walked
          (settled joined (fills (goal.at.returns-in-Err c).After-probe))
          (subst (λ g. HasMade p call c.match-rung.seat seat calls (2 + grow_steps p g below))
          (same joined) visit.0));
      found = subst (λ g. IsVisitHere p call seat g c.in-Err.visit) (same joined ∙ so_far.same)
          visit.1;
    }

-- ---- another key has got it

pub loop-i-smaller : goal.loop-i-smaller
loop-i-smaller c = omega (
  arith,
  ahead (goal.at.loop-i-smaller c).In-Empty,
  c.in-Empty.ensures.ends.0,
  ap (size_of c.args.chain.now.shape) (same (goal.at.loop-i-smaller c).Joined-rung),
)

pub loop-i-preserved : goal.loop-i-preserved
loop-i-preserved c =
    let joined = (goal.at.loop-i-preserved c).Joined-rung in
    let chain = c.args.chain.now in
    let p = chain.shape in
    let call = c.args.call.now in
    let d = c.in-Empty.distance in
    let acts = fills (goal.at.loop-i-preserved c).After-probe in
    let lost = rw c.in-Ok-None.field-0-is at c.in-Ok-None.ensures.claimed in
    let here = at-stays chain (there joined) lost.0 in
    let here' = same joined in
    record {
      same = here' ∙ c.loop-i.invariant.same;
      walked = subst (λ g. HasProbed p call c.args.seat.now c.claim_at.new.seat g (d + 1)
          c.match-rung.rung.below) (sym here')
          (walked-behind chain c.match-rung.rung.below d c.requires.at.own
          (ahead (goal.at.loop-i-preserved c).In-Empty) (settles joined).fewer
          c.loop-i.invariant.walked (settled joined acts) lost.0);
      at = record {
        own = here.own;
        table = here.table;
        reached = here.reached;
        within = omega (arith, c.in-Empty.ensures.ends.0, ap (size_of p) here');
        start = inr acts;
        others = subst (λ e. AreOthers p (seen_by p c.claim_at.new.seat) c.match-rung.rung.g
            (key_of_call call) (e + 1)) (ap (λ (rung : Rung). rung.from) (settles joined).is) lost.1;
        known = here.known;
      };
    }
