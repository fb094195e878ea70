use Rattle.std.proofs.Common.{ℕ, Ok, Err, refl, subst, subst₂, sym}
use Rattle.nb_map.proofs.Counted.{uncounted-mine}
use Rattle.nb_map.proofs.FirstPuts.{looked-again, put-first, put-found, put-full}
use Rattle.nb_map.specs.FirstPut.{HasPutIfNew}
use Rattle.nb_map.specs.Maps.{IsMine, SeatOf}
use Rattle.nb_map.specs.Promises.{HasGot}
use Rattle.nb_map.specs.inside.Firsts.{number_now}
use Rattle.nb_map.specs.declared.map.first.FirstPut.TheVariants as first
use Rattle.nb_map.proofs.map.Map.put_if_new.Goals as goal

pub returns-in-Put : goal.returns-in-Put
returns-in-Put c =
    let mine = subst₂ IsMine (sym c.self.view_is) (sym c.seat.view_is) c.requires.own in
    let after : SeatOf = record { chain = c.put_first_in.new.seat; count = c.add.new.seat } in
    subst₂ (λ map before. HasPutIfNew map c.args.key c.args.number before after (Ok first.Put))
    c.self.view_is c.seat.view_is
    (put-first {after = after} mine c.in-Put.ensures.made c.in-Put.ensures.first
    c.add.ensures.added)

pub returns-in-Found : goal.returns-in-Found
returns-in-Found c =
    let mine = subst₂ IsMine (sym c.self.view_is) (sym c.seat.view_is) c.requires.own in
    let after : SeatOf = record { chain = c.put_first_in.new.seat; count = c.seat.inside.count } in
    subst₂ (λ map before. HasPutIfNew map c.args.key c.args.number before after
    (Ok (first.Found c.in-Found.found))) c.self.view_is c.seat.view_is
    (put-found {after = after} mine c.in-Found.found c.in-Found.ensures.made
    c.in-Found.ensures.first refl)

pub returns-in-Full : goal.returns-in-Full
returns-in-Full c =
    let mine = subst₂ IsMine (sym c.self.view_is) (sym c.seat.view_is) c.requires.own in
    let after : SeatOf = record { chain = c.put_first_in.new.seat; count = c.seat.inside.count } in
    subst₂ (λ map before. HasPutIfNew map c.args.key c.args.number before after (Err record {}))
    c.self.view_is c.seat.view_is
    (put-full {after = after} mine (record {}) c.in-Full.ensures.made c.in-Full.ensures.first
    c.in-Full.ensures.looked refl)

-- ---- the key has had a number

pub get-requires : goal.get-requires
get-requires c =
    let mine = subst₂ IsMine (sym c.self.view_is) (sym c.seat.view_is) c.requires.own in
    let then : SeatOf = record { chain = c.put_first_in.new.seat; count = c.seat.inside.count } in
    record {
      own = subst (λ map. IsMine map then) c.self.view_is
          (uncounted-mine {after = then} mine c.in-Had.ensures.made refl refl);
    }

pub returns-in-Had : goal.returns-in-Had
returns-in-Had c =
    let mine = subst₂ IsMine (sym c.self.view_is) (sym c.seat.view_is) c.requires.own in
    let then : SeatOf = record { chain = c.put_first_in.new.seat; count = c.seat.inside.count } in
    subst (λ put. HasPutIfNew c.args.self.now c.args.key c.args.number c.args.seat.now c.get.new.seat
    (Ok put)) (sym c.now_of.ensures)
    (subst₂ (λ map before. HasPutIfNew map c.args.key c.args.number before c.get.new.seat
    (Ok (number_now c.get.result))) c.self.view_is c.seat.view_is
    (looked-again {then = then} mine c.get.result c.in-Had.ensures.made c.in-Had.ensures.first refl
    (subst (λ map. HasGot map c.args.key then c.get.new.seat c.get.result) (sym c.self.view_is)
    c.get.ensures)))
