use Rattle.std.proofs.Common.{◌++◌, ◌∷◌, [], refl, rules, subst, sym}
use Rattle.nb_map.proofs.Listed.{Lists, list-all, list-read}
use Rattle.nb_map.proofs.Swept.{HasSweptTo, sweep-begun, sweep-kept}
use Rattle.nb_map.proofs.map.Map.list.Goals as goal

pub loop-entry-init : goal.loop-entry-init
loop-entry-init c =
    subst (HasSweptTo c.args.self.now c.args.seat.now Lists [] c.walk-walk.new.seat c.walk-walk.result)
    (sym c.requires.empty)
    (sweep-begun c.requires.own c.walk-walk.ensures)

pub loop-entry-preserved : goal.loop-entry-preserved
loop-entry-preserved c =
    let entry = c.in-Some.entry in
    sweep-kept c.requires.own entry.0 entry.1 c.push.new.self.items c.loop-entry.invariant
    (rw c.in-Some.is at c.next_key.ensures) (refl, c.in_ok-push.ensures.items)

pub returns-in_err-push-clause-read : goal.returns-in_err-push-clause-read
returns-in_err-push-clause-read c =
    let entry = c.in-Some.entry in
    list-read c.requires.own
    (sweep-kept c.requires.own entry.0 entry.1 (c.loop-entry.entries.items ++ entry ∷ [])
    c.loop-entry.invariant (rw c.in-Some.is at c.next_key.ensures) (refl, refl))

pub returns-clause-listed : goal.returns-clause-listed
returns-clause-listed c =
    (list-all c.requires.own {walk' = c.next_key.new.walk} c.loop-entry.invariant (search rules)).0

pub returns-clause-read : goal.returns-clause-read
returns-clause-read c =
    (list-all c.requires.own {walk' = c.next_key.new.walk} c.loop-entry.invariant (search rules)).1
