use Rattle.std.proofs.Common.{◌≡◌, None, Some, inl, inr, refl, rules, subst}
use Rattle.nb_ffi.specs.Handles.{StaysOpen}
use Rattle.nb_ffi.specs.Promises.{HasWalkedOn}
use Rattle.nb_ffi.proofs.Walking.{walked-on}
use Rattle.nb_ffi.proofs.exports.walks.samvolip_next.Goals as goal

pub returns-in-Some : goal.returns-in-Some
returns-in-Some c =
    let next = c.next_key_from-shown in
    let shown : next.result ≡ Some (c.get.result, c.get-in-Some.result) = search rules in
    inl (
      refl,
      subst (λ shown. StaysOpen c.args.seat.now.handle (Some next.new.self)
          (HasWalkedOn c.args.cursor.now c.at.result shown)) shown
          (walked-on c.args.seat.now.handle c.lend.result.now next.new.self c.args.cursor.now
          c.at.result c.place-at.result next.new.at next.result c.lend.ensures.value
          c.place-at.ensures c.at.ensures next.ensures.walked next.ensures.rest),
    )

pub returns-in-None : goal.returns-in-None
returns-in-None c =
    let next = c.next_key_from-shown in
    inr (
      refl,
      refl,
      refl,
      walked-on c.args.seat.now.handle c.lend.result.now next.new.self c.args.cursor.now c.at.result
          c.place-at.result next.new.at None c.lend.ensures.value c.place-at.ensures c.at.ensures
          c.in-None.ensures.walked next.ensures.rest,
    )
