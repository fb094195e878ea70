use Rattle.std.proofs.Common.{◌≡◌, ◌≢◌, ◌∙◌, ◌+◌, ◌<◌, suc, ap, refl, subst, sym, arith, rules}
use Rattle.std.proofs.lemmas.Bool.{eqb-false}
use Rattle.nb_core.specs.History.{HasWay, key_of_call}
use Rattle.nb_core.specs.Tables.{UpToDead, path_slot}
use Rattle.nb_core.specs.Plans.{limit_of, size_of}
use Rattle.nb_core.specs.declared.states.KeyState.TheVariants.{Claimed, Dead}
use Rattle.nb_table.specs.Chains.{seen_by}
use Rattle.nb_copy.specs.Handing.{table_steps}
use Rattle.nb_map.proofs.Claimed.{HasNoNext, above-complete, claimed-empty, complete-next, dead-empty, last-table, made-claim, made-complete, none-seen, way-to}
use Rattle.nb_map.proofs.Made.{made-more, made-own, made-quiet, made-within}
use Rattle.nb_map.proofs.Rungs.{at-stays}
use Rattle.nb_map.proofs.Searched.{dead-next, others-more, table-within}
use Rattle.nb_map.specs.Steps.{grow_steps}
use Rattle.nb_map.proofs.steps.claim.claim_at.Goals as goal
use Rattle.nb_map.proofs.steps.claim.claim_at.Goals.{After-key-key, else-rung-generations-via-then-rung-generations+else-load_next, else-rung-generations-via-else-rung-generations}
use Rattle.nb_table.proofs.Theorems.{steps_add_up}

pub returns-then-rung-limit_of-clause-visit : goal.returns-then-rung-limit_of-clause-visit
returns-then-rung-limit_of-clause-visit c =
    let made = c.grow.ensures.made in
    let own = made-own c.args.chain.now c.requires.at.own made in (
      made-within (grow_steps c.args.chain.now.shape c.args.rung.g c.args.rung.below) _
          (omega arith) made,
      above-complete c.args.chain.now c.args.call.now c.grow.new.seat own c.args.rung.g
          c.requires.at.table c.grow.ensures.complete.0 c.grow.ensures.complete.1,
    )

pub returns-then-load_next-clause-visit : goal.returns-then-load_next-clause-visit
returns-then-load_next-clause-visit c =
    let chain = c.args.chain.now in
    let p = chain.shape in
    let g = c.args.rung.g in
    let looked = made-quiet p c.args.call.now c.load_next.ensures.grows in
    let next = table-within chain c.load_next.new.seat (made-own chain c.requires.at.own looked)
    (suc g) (c.if-load_next.ensures.installed.0 refl) in
    let made = made-complete chain next c.requires.at.own looked c.complete.ensures.completed in
    let own = made-own chain c.requires.at.own made in
    let complete = c.complete.ensures.completed.complete in (
      made-within (1 + table_steps p g) (2 + grow_steps p g c.args.rung.below) (omega arith) made,
      above-complete chain c.args.call.now c.complete.new.seat own g c.requires.at.table complete
          (complete-next chain c.complete.new.seat own g c.requires.at.table complete),
    )

-- ---- there is no next table

next :
    (c : After-key-key)
    → HasNoNext c.args.chain.now c.args.call.now c.args.seat.now c.else-rung-generations.seat
    c.args.rung.g
next c =
    let chain = c.args.chain.now in
    let call = c.args.call.now in
    elim c.else-rung-generations.branch [
      | else-rung-generations-via-then-rung-generations+else-load_next w ↦
          none-seen chain call w.seat-is w.load_next.ensures.grows
          w.if-load_next.ensures.installed.1
      | else-rung-generations-via-else-rung-generations w ↦
          last-table chain call w.seat-is c.requires.at.own (search rules)
          w.if-rung-generations.false
    ]

pub claim_key-requires-clause-own : goal.claim_key-requires-clause-own
claim_key-requires-clause-own c =
    made-own c.args.chain.now c.requires.at.own
    (next (goal.at.claim_key-requires-clause-own c).After-key-key).made

pub claim_key-requires-clause-installed : goal.claim_key-requires-clause-installed
claim_key-requires-clause-installed c =
    let here = at-stays c.args.chain.now c.requires.at
    (next (goal.at.claim_key-requires-clause-installed c).After-key-key).made in
    here.reached.installed

pub claim_key-requires-clause-way : goal.claim_key-requires-clause-way
claim_key-requires-clause-way c =
    let none = next (goal.at.claim_key-requires-clause-way c).After-key-key in
    let chain = c.args.chain.now in
    let p = chain.shape in
    let g = c.args.rung.g in
    let d = c.args.rung.from in
    let k = key_of_call c.args.call.now in
    let i = c.path_slot-i.result in
    let seen = seen_by p c.else-rung-generations.seat in
    let here = at-stays chain c.requires.at none.made in
    let within : d < limit_of p g = search rules in
    let at : path_slot p g k d ≡ i =
    ap (λ k. path_slot p g k d) (sym c.key-key.ensures) ∙ search rules in
    subst (HasWay p seen g i) (sym c.key-key.ensures)
    (way-to p seen g i k d c.args.rung.below c.requires.known here.known c.requires.near within at
    here.others)

pub returns-in-Empty-clause-claimed : goal.returns-in-Empty-clause-claimed
returns-in-Empty-clause-claimed c =
    let none = next (goal.at.returns-in-Empty-clause-claimed c).After-key-key in
    let chain = c.args.chain.now in
    let claimed = c.claim_key.ensures.won c.in-Empty.is in
    let in_table : c.path_slot-i.result < size_of chain.shape c.args.rung.g = search rules in (
      made-more chain c.requires.at.own none.made
          (made-claim chain c.args.call.now c.key-key.result c.args.rung.g c.path_slot-i.result
          (sym c.key-key.ensures) c.requires.fills c.requires.at.table
          none.none claimed.0),
      (in_table, claimed.1 ∙ ap Claimed c.key-key.ensures),
    )

pub returns-in-Dead-clause-visit : goal.returns-in-Dead-clause-visit
returns-in-Dead-clause-visit c =
    let none = next (goal.at.returns-in-Dead-clause-visit c).After-key-key in
    let chain = c.args.chain.now in
    let p = chain.shape in
    let g = c.args.rung.g in
    let d = c.args.rung.from in
    let i = c.path_slot-i.result in
    let lost = c.claim_key.ensures.lost (dead-empty c.claim_key.result c.in-Dead.is) in
    let made = made-more chain c.requires.at.own none.made
    (made-quiet p c.args.call.now lost.0) in
    let here = at-stays chain c.requires.at made in
    let at : path_slot p g (key_of_call c.args.call.now) d ≡ i =
    ap (λ k. path_slot p g k d) (sym c.key-key.ensures) ∙ search rules in
    let in_table : i < size_of p g = search rules in
    let dead : (seen_by p c.claim_key.new.seat).key g i ≡ Dead = lost.1 ∙ c.in-Dead.is in (
      made-within 2 _ (omega arith) made,
      (
        (
          UpToDead d c.requires.near here.others
              (ap ((seen_by p c.claim_key.new.seat).key g) at ∙ dead),
          dead-next chain c.claim_key.new.seat here.own g i (here.table, in_table) dead,
        ),
        tt,
      ),
    )

pub returns-then-eq-clause-claimed : goal.returns-then-eq-clause-claimed
returns-then-eq-clause-claimed c =
    let none = next (goal.at.returns-then-eq-clause-claimed c).After-key-key in
    let chain = c.args.chain.now in
    let lost = c.claim_key.ensures.lost (claimed-empty c.claim_key.result c.in-Claimed.other
    c.in-Claimed.is) in
    let same : c.in-Claimed.other ≡ c.key-key.result = search rules in
    let in_table : c.path_slot-i.result < size_of chain.shape c.args.rung.g = search rules in (
      made-more chain c.requires.at.own none.made
          (made-quiet chain.shape c.args.call.now lost.0),
      (in_table, lost.1 ∙ c.in-Claimed.is ∙ ap Claimed (same ∙ c.key-key.ensures)),
    )

pub returns-else-eq-clause-claimed : goal.returns-else-eq-clause-claimed
returns-else-eq-clause-claimed c =
    let none = next (goal.at.returns-else-eq-clause-claimed c).After-key-key in
    let chain = c.args.chain.now in
    let p = chain.shape in
    let g = c.args.rung.g in
    let d = c.args.rung.from in
    let k = key_of_call c.args.call.now in
    let lost = c.claim_key.ensures.lost (claimed-empty c.claim_key.result c.in-Claimed.other
    c.in-Claimed.is) in
    let looked = none.made in
    let here = at-stays chain c.requires.at looked in
    let at : path_slot p g k d ≡ c.path_slot-i.result =
    ap (λ k. path_slot p g k d) (sym c.key-key.ensures) ∙ search rules in
    let differs : c.in-Claimed.other ≢ k =
    (λ same. eqb-false c.in-Claimed.other c.key-key.result (sym c.eq.ensures ∙ c.if-eq.false)
    (same ∙ sym c.key-key.ensures)) in (
      made-more chain c.requires.at.own looked (made-quiet p c.args.call.now lost.0),
      others-more p _ _ (steps_add_up.stays here.own (steps_add_up.one lost.0)) g k d _
          c.in-Claimed.other here.table here.others at (lost.1 ∙ c.in-Claimed.is) differs,
    )
