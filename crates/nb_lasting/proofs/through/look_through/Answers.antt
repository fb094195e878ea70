use Rattle.std.proofs.Common.{◌∙◌, [], Some, refl, subst, sym}
use Rattle.nb_map.specs.Fullness.{HasSampled}
use Rattle.nb_map.specs.Handles.{HandleOf, KeepsRest}
use Rattle.nb_map.specs.Logs.{HasLogged}
use Rattle.nb_lasting.proofs.Calling.{can-give, has-called, idle-again, slot-rest, taken-is, visited}
use Rattle.nb_lasting.proofs.Giving.{may-give}
use Rattle.nb_lasting.proofs.through.look_through.Goals as goal

pub slot_mut-requires : goal.slot_mut-requires
slot_mut-requires g c = (
  c.hold.ensures.table ∙ c.requires.table,
  (
    Some c.hold.ensures.taken.handle,
    slot-rest c.args.lane (Some c.hold.ensures.taken.handle) c.hold.new.token.me.1
        c.args.token.now.me.1 c.hold.ensures.taken.slots,
  ),
)

pub give_back-requires-clause-may : goal.give_back-requires-clause-may
give_back-requires-clause-may g c =
    let same = taken-is c.args.lane c.args.token.now.me c.hold.new.token.me c.hold.ensures.taken
    c.slot_mut.result.now c.in-Some.handle c.slot_mut.ensures.value c.in-Some.is in
    may-give c.args.hall.now.table.shared.key c.args.hall.now.table.shared.table_id.slots c.args.lane _ _ c.requires.lane
    (can-give c.args.lane c.args.token.now.me c.hold.new.token.me c.hold.ensures.taken
    c.occupancy-found.new.self [] c.requires.idle
    (subst (λ h. KeepsRest h c.occupancy-found.new.self) (sym same) c.occupancy-found.ensures.rest)
    (subst (λ h. HasLogged h.seat c.occupancy-found.new.self.seat [])
    (sym same) c.occupancy-found.ensures.looked.logged) _ refl)

pub returns : goal.returns
returns g c =
    let same = taken-is c.args.lane c.args.token.now.me c.hold.new.token.me c.hold.ensures.taken
    c.slot_mut.result.now c.in-Some.handle c.slot_mut.ensures.value c.in-Some.is in
    let keeps = subst (λ h. KeepsRest h c.occupancy-found.new.self) (sym same) c.occupancy-found.ensures.rest in
    let logged = subst (λ h. HasLogged h.seat c.occupancy-found.new.self.seat [])
    (sym same) c.occupancy-found.ensures.looked.logged in
    record {
      table = c.give_back.ensures.table ∙ c.hold.ensures.table;
      idle = idle-again c.args.lane c.args.token.now.me c.hold.new.token.me c.hold.ensures.taken
          c.occupancy-found.new.self [] c.requires.idle keeps logged _ refl c.give_back.new.token.me
          c.give_back.ensures.given.1;
      visited = visited c.args.lane c.args.token.now.me c.hold.new.token.me c.hold.ensures.taken
          c.occupancy-found.new.self [] c.requires.idle keeps logged _ refl c.give_back.new.token.me
          c.give_back.ensures.given.1
          (λ there back. HasSampled there.map there.seat back.seat c.occupancy-found.result)
          (subst (λ (h : HandleOf).
          HasSampled h.map h.seat c.occupancy-found.new.self.seat c.occupancy-found.result)
          (sym same) c.occupancy-found.ensures.looked);
      called = has-called c.args.lane c.args.token.now.me c.hold.new.token.me c.hold.ensures.taken
          c.occupancy-found.new.self [] c.requires.idle keeps logged _ refl c.give_back.new.token.me
          c.give_back.ensures.given.1;
    }
