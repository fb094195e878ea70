use Rattle.std.proofs.Common.{◌∙◌, ◌^◌, Some, refl, subst, sym}
use Rattle.std.specs.Prelude.{◌-◌}
use Rattle.nb_map.specs.Handles.{HandleOf, KeepsRest}
use Rattle.nb_map.specs.Logs.{HasLogged, made_in}
use Rattle.nb_map.specs.Progress.{Tries}
use Rattle.nb_map.specs.Promises.{HasWritten, replied_or_refused}
use Rattle.nb_core.specs.declared.calls.Call.TheVariants.{Write}
use Rattle.nb_lasting.proofs.Calling.{can-give, has-called, idle-again, map-is, slot-rest, taken-is, visited, write-logged}
use Rattle.nb_lasting.proofs.Giving.{may-give}
use Rattle.nb_lasting.proofs.through.write_through.Goals as goal

pub slot_mut-requires : goal.slot_mut-requires
slot_mut-requires g c = (
  c.hold.ensures.table ∙ c.requires.table,
  (
    Some c.hold.ensures.taken.handle,
    slot-rest c.args.lane (Some c.hold.ensures.taken.handle) c.hold.new.token.me.1
        c.args.token.now.me.1 c.hold.ensures.taken.slots,
  ),
)

pub give_back-requires-clause-may : goal.give_back-requires-clause-may
give_back-requires-clause-may g c =
    let same = taken-is c.args.lane c.args.token.now.me c.hold.new.token.me c.hold.ensures.taken
    c.slot_mut.result.now c.in-Some.handle c.slot_mut.ensures.value c.in-Some.is in
    let wrote = write-logged c.in-Some.handle.map
    (Write c.args.key c.args.want.now c.args.change.now) c.in-Some.handle.seat
    c.put_if_match-reply.new.self.seat _ c.put_if_match-reply.result
    c.put_if_match-reply.ensures.wrote in
    let made = made_in (Write c.args.key c.args.want.now c.args.change.now)
    c.put_if_match-reply.result in
    may-give c.args.hall.now.table.shared.key c.args.hall.now.table.shared.table_id.slots c.args.lane _ _ c.requires.lane
    (can-give c.args.lane c.args.token.now.me c.hold.new.token.me c.hold.ensures.taken
    c.put_if_match-reply.new.self made c.requires.idle
    (subst (λ h. KeepsRest h c.put_if_match-reply.new.self) (sym same)
    c.put_if_match-reply.ensures.rest)
    (subst (λ h. HasLogged h.seat c.put_if_match-reply.new.self.seat made) (sym same) wrote.0) _
    refl)

pub returns : goal.returns
returns g c =
    let same = taken-is c.args.lane c.args.token.now.me c.hold.new.token.me c.hold.ensures.taken
    c.slot_mut.result.now c.in-Some.handle c.slot_mut.ensures.value c.in-Some.is in
    let wrote = write-logged c.in-Some.handle.map
    (Write c.args.key c.args.want.now c.args.change.now) c.in-Some.handle.seat
    c.put_if_match-reply.new.self.seat _ c.put_if_match-reply.result
    c.put_if_match-reply.ensures.wrote in
    let made = made_in (Write c.args.key c.args.want.now c.args.change.now)
    c.put_if_match-reply.result in
    let keeps = subst (λ h. KeepsRest h c.put_if_match-reply.new.self) (sym same)
    c.put_if_match-reply.ensures.rest in
    let logged = subst (λ h. HasLogged h.seat c.put_if_match-reply.new.self.seat made) (sym same)
    wrote.0 in
    record {
      table = c.give_back.ensures.table ∙ c.hold.ensures.table;
      idle = idle-again c.args.lane c.args.token.now.me c.hold.new.token.me c.hold.ensures.taken
          c.put_if_match-reply.new.self made c.requires.idle keeps logged _ refl
          c.give_back.new.token.me c.give_back.ensures.given.1;
      visited = visited c.args.lane c.args.token.now.me c.hold.new.token.me c.hold.ensures.taken
          c.put_if_match-reply.new.self made c.requires.idle keeps logged _ refl
          c.give_back.new.token.me c.give_back.ensures.given.1
          (λ there back. HasWritten there.map
          (Write c.args.key c.args.want.now c.args.change.now) there.seat back.seat
          (Tries (2 ^ 32 - 1)) (replied_or_refused c.put_if_match-reply.result))
          (subst (λ (h : HandleOf). HasWritten h.map
          (Write c.args.key c.args.want.now c.args.change.now) h.seat
          c.put_if_match-reply.new.self.seat (Tries (2 ^ 32 - 1))
          (replied_or_refused c.put_if_match-reply.result)) (sym same)
          c.put_if_match-reply.ensures.wrote);
      called = wrote.1 c.args.lane c.args.token.now.me.0 c.give_back.new.token.me.0
          (has-called c.args.lane c.args.token.now.me c.hold.new.token.me c.hold.ensures.taken
          c.put_if_match-reply.new.self made c.requires.idle keeps logged _ refl
          c.give_back.new.token.me c.give_back.ensures.given.1)
          (map-is c.args.lane c.args.token.now.me c.hold.new.token.me c.hold.ensures.taken
          c.put_if_match-reply.new.self made c.requires.idle keeps logged _ refl
          c.give_back.new.token.me c.give_back.ensures.given.1);
    }
