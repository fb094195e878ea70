use Rattle.std.proofs.Common.{◌*◌, ◌≡◌, suc, sym, subst, add-one}
use Rattle.nb_core.specs.Plans.{size_of}
use Rattle.nb_core.specs.Tables.{IsSlot}
use Rattle.nb_core.specs.declared.states.KeyState.TheVariants as key_is
use Rattle.nb_table.specs.Chains.{seen_by}
use Rattle.nb_table.proofs.Theorems.{steps_add_up}
use Rattle.nb_copy.proofs.Copied.{copied-more, copied-own, copied-stays}
use Rattle.nb_copy.proofs.SlotsFinished.{copied-in, copied-three, finished-before, finished-now, next-in-plan, number-copied, number-source, passed-finished}
use Rattle.nb_copy.proofs.slots.copy_number.Goals as goal

pub place_in_next-requires-clause-table : goal.place_in_next-requires-clause-table
place_in_next-requires-clause-table c =
    next-in-plan c.args.chain.now c.args.seat.now c.requires.own c.args.g c.requires.growing

pub returns-in_default-clause-finished : goal.returns-in_default-clause-finished
returns-in_default-clause-finished c =
    let chain = c.args.chain.now in
    let table = next-in-plan chain c.args.seat.now c.requires.own c.args.g c.requires.growing in
    let search = c.in_default.ensures in
    let own = copied-own chain c.args.g c.requires.slot.0 c.requires.own search.copied in
    let lasting = copied-stays chain c.args.g c.requires.slot.0 c.requires.own search.copied in
    let below = lasting.has_slot c.args.g c.args.key c.requires.slot.0
    (record { slot = c.args.i; in_table = c.requires.slot.1; is = c.requires.claimed }) in
    passed-finished chain c.place_in_next.new.seat own c.args.g c.args.i c.args.key table
    c.requires.slot.1 below search.passed

pub copy_in-requires-clause-slot : goal.copy_in-requires-clause-slot
copy_in-requires-clause-slot c =
    let chain = c.args.chain.now in
    let table = next-in-plan chain c.args.seat.now c.requires.own c.args.g c.requires.growing in
    let slot : IsSlot chain.shape (suc c.args.g) c.in-Some.j = (table, c.in-Some.ensures.found.0) in
    subst (λ f. IsSlot chain.shape f c.in-Some.j) (sym (add-one c.args.g)) slot

pub copy_in-requires-clause-claimed : goal.copy_in-requires-clause-claimed
copy_in-requires-clause-claimed c =
    subst (λ f. (seen_by c.args.chain.now.shape c.place_in_next.new.seat).key f c.in-Some.j
    ≡ key_is.Claimed c.args.key) (sym (add-one c.args.g)) c.in-Some.ensures.found.1

pub copy_in-requires-clause-source : goal.copy_in-requires-clause-source
copy_in-requires-clause-source c =
    let lasting = copied-stays c.args.chain.now c.args.g c.requires.slot.0 c.requires.own
    c.place_in_next.ensures.copied in
    number-source c.args.chain.now.shape _ _ lasting c.args.g _ c.args.i c.args.key c.args.number
    (add-one c.args.g) c.requires.slot
    c.requires.claimed c.requires.held

pub finish_slot-requires-clause-copied : goal.finish_slot-requires-clause-copied
finish_slot-requires-clause-copied c =
    let chain = c.args.chain.now in
    let table = next-in-plan chain c.args.seat.now c.requires.own c.args.g c.requires.growing in
    let own = copied-own chain c.args.g c.requires.slot.0 c.requires.own c.in-Some.ensures.copied in
    let copy = copied-in chain c.args.g c.requires.slot.0 _ _ _ _ _ c.copy_in.result
    (add-one c.args.g) c.copy_in.ensures.won c.copy_in.ensures.lost in
    let lasting = steps_add_up.stays c.requires.own
    (copied-more chain c.args.g c.requires.slot.0 own c.in-Some.ensures.copied copy.0).grown in
    let above = (steps_add_up.stays own copy.0.grown).claimed (suc c.args.g) c.in-Some.j c.args.key
    (table, c.in-Some.ensures.found.0) c.in-Some.ensures.found.1 in
    number-copied chain.shape _ _ lasting c.args.g c.args.i c.in-Some.j c.args.key c.args.number
    c.requires.slot c.requires.claimed c.requires.held
    c.in-Some.ensures.found.0 above copy.1

pub returns-in-Primed : goal.returns-in-Primed
returns-in-Primed c =
    let chain = c.args.chain.now in
    let copy = copied-in chain c.args.g c.requires.slot.0 _ _ _ _ _ c.copy_in.result
    (add-one c.args.g) c.copy_in.ensures.won c.copy_in.ensures.lost in
    let finish = finished-now chain c.args.g c.requires.slot.0 _ c.args.i _
    c.finish_slot.result c.in-Primed.is c.finish_slot.ensures.won in
    record {
      copied = copied-three chain c.args.g c.requires.slot.0
          (2 * size_of chain.shape (suc c.args.g)) c.requires.own
          c.in-Some.ensures.copied copy.0 finish.0;
      finished = finish.1;
    }

pub returns-in_default-matches : goal.returns-in_default-matches
returns-in_default-matches c =
    let chain = c.args.chain.now in
    let copy = copied-in chain c.args.g c.requires.slot.0 _ _ _ _ _ c.copy_in.result
    (add-one c.args.g) c.copy_in.ensures.won c.copy_in.ensures.lost in
    let own = copied-own chain c.args.g c.requires.slot.0 c.requires.own c.in-Some.ensures.copied in
    let lasting = steps_add_up.stays c.requires.own
    (copied-more chain c.args.g c.requires.slot.0 own c.in-Some.ensures.copied copy.0).grown in
    let held = lasting.primed_or_finished c.args.g c.args.i c.args.number c.requires.slot
    c.requires.held in
    let finish = finished-before chain c.args.g c.requires.slot.0 c.args.i c.args.number
    c.finish_slot.result (c.finish_slot.ensures.held c.args.number held)
    (c.in_default-matches.not-Primed c.args.number) c.finish_slot.ensures.lost in
    record {
      copied = copied-three chain c.args.g c.requires.slot.0
          (2 * size_of chain.shape (suc c.args.g)) c.requires.own
          c.in-Some.ensures.copied copy.0 finish.0;
      finished = finish.1;
    }
