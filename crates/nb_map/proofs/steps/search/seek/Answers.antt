use Rattle.std.proofs.Common.{◌≡◌, ◌∙◌, ◌+◌, ◌-◌, ◌==◌, ◌∷◌, [], None, Some, ap, suc, sym, subst, refl, arith, rules}
use Rattle.nb_core.specs.History.{key_of_call}
use Rattle.nb_core.specs.Tables.{Whole}
use Rattle.nb_core.specs.Plans.{generations_of, size_of}
use Rattle.nb_table.specs.Chains.{seen_by}
use Rattle.nb_map.proofs.Made.{made-quiet, made-read, made-within}
use Rattle.nb_map.proofs.Rungs.{at-stays}
use Rattle.nb_map.proofs.Searched.{closed-above, made-then, made-unless, not-last, read-alone}
use Rattle.nb_map.specs.Calling.{HasMade}
use Rattle.nb_map.proofs.steps.search.seek.Goals as goal
use Rattle.nb_table.proofs.Theorems.{steps_add_up}

pub returns-in-Slot-clause-made : goal.returns-in-Slot-clause-made
returns-in-Slot-clause-made c = made-within _ _ (omega arith) c.in-Slot.ensures.made

pub returns-in-Closed-clause-found : goal.returns-in-Closed-clause-found
returns-in-Closed-clause-found c =
    let p = c.args.chain.now.shape in
    let ends = c.in-Closed.ensures.ends in (
      closed-above p (seen_by p c.probe.new.seat) c.args.rung.g (key_of_call c.args.call.now)
          ends.0 ends.1,
      tt,
    )

pub load_next-requires-clause-reached : goal.load_next-requires-clause-reached
load_next-requires-clause-reached c =
    (at-stays c.args.chain.now c.requires.at c.probe.ensures.made).reached

pub returns-then-load_next-clause-made : goal.returns-then-load_next-clause-made
returns-then-load_next-clause-made c =
    let chain = c.args.chain.now in
    let g = c.args.rung.g in
    let tables : c.generations.result ≡ generations_of chain.shape = search rules in
    let walk = made-unless _ (suc g == generations_of chain.shape) _
    (size_of chain.shape g - c.args.rung.from)
    (not-last chain.shape g tables c.if-rung-generations.false) (omega arith)
    c.in-Whole.ensures.made in
    made-within _ _ (omega arith)
    (made-then c.requires.at.own walk
    (made-quiet chain.shape c.args.call.now c.if-load_next.ensures.grows))

pub returns-then-load_next-clause-found : goal.returns-then-load_next-clause-found
returns-then-load_next-clause-found c =
    let chain = c.args.chain.now in
    let g = c.args.rung.g in
    let here = at-stays chain c.requires.at c.probe.ensures.made in
    let lasting = steps_add_up.stays here.own (steps_add_up.one c.load_next.ensures.grows) in (
      (
        Whole (lasting.others g (key_of_call c.args.call.now) (size_of chain.shape g)
            here.table c.in-Whole.ensures.ends),
        c.if-load_next.ensures.installed.0 refl,
      ),
      tt,
    )

pub returns-else-load_next-clause-made : goal.returns-else-load_next-clause-made
returns-else-load_next-clause-made c =
    let chain = c.args.chain.now in
    let call = c.args.call.now in
    let g = c.args.rung.g in
    let tables : c.generations.result ≡ generations_of chain.shape = search rules in
    let walk = made-unless _ (suc g == generations_of chain.shape) _
    (size_of chain.shape g - c.args.rung.from)
    (not-last chain.shape g tables c.if-rung-generations.false) (omega arith)
    c.in-Whole.ensures.made in
    made-within (size_of chain.shape g - c.args.rung.from + 1) _ (omega arith)
    (subst (λ made. HasMade chain.shape call c.args.seat.now c.load_next.new.seat made
    (size_of chain.shape g - c.args.rung.from + 1))
    (read-alone call None c.requires.absent.0 ∙ ap (λ r. (call, r) ∷ []) (sym c.requires.absent.1))
    (made-then c.requires.at.own walk (made-read chain.shape call (Some None)
    c.if-load_next.ensures.grows)))
