use Rattle.std.proofs.Common.{◌≡◌, ◌∙◌, ℕ, [], All, ap, arith, length, refl, subst, sym}
use Rattle.std.specs.FinMap.{len, len-empty}
use Rattle.std.specs.Ordering.{nat_cmp}
use Rattle.std.proofs.lemmas.List.Elements.{All-head, All-weaker}
use Rattle.std.proofs.lemmas.List.FromFn.{length-map-range_with_len}
use Rattle.nb_core.proofs.Seating.{All-numbered}
use Rattle.nb_core.specs.Log.{map_of_log}
use Rattle.nb_core.specs.Plans.{HasRoomFor, Plan}
use Rattle.nb_map.proofs.Theorems.{asks_add_up}
use Rattle.nb_map.specs.Handles.{seats_of}
use Rattle.nb_map.specs.Logs.{log}
use Rattle.nb_map.specs.Maps.{SeatOf, new_seat}
use Rattle.nb_map.specs.OneSeat.{held}
use Rattle.nb_texts.proofs.FindingLemmas.{index-none}
use Rattle.nb_texts.proofs.RestLemmas.{one-log}
use Rattle.nb_texts.specs.Claims.{ClaimsOnly}
use Rattle.nb_texts.specs.Entering.{IsIndex}
use Rattle.nb_texts.specs.Hashes.{key_for}
use Rattle.nb_texts.proofs.catalog.Catalog.open.Goals as goal

pub returns-clause-rest : goal.returns-clause-rest
returns-clause-rest c =
    let handle = c.in_ok-handle.handle in
    let keys = key_for c.args.hashing in
    let empty = c.in_ok-handle.ensures.empty in
    let none : len (held handle.seat) ≡ 0
    = ap (λ log. len (map_of_log log))
    (All-head (λ (seat : SeatOf). log seat ≡ []) handle.seat handle.reserve empty)
    ∙ len-empty nat_cmp ℕ in
    let IsNew : SeatOf → Type 0 = λ seat. seat.chain.seen ≡ [] in
    let new : All IsNew (seats_of handle)
    = subst (All IsNew) (sym c.in_ok-handle.ensures.seats)
    (All-numbered IsNew (new_seat handle.map) 0 c.shape_for.result.seats (λ n low high. refl)) in
    record {
      whole =
          ap length c.in_ok-handle.ensures.seats
          ∙ length-map-range_with_len (new_seat handle.map) 0 c.shape_for.result.seats
          ∙ ap (λ (p : Plan). p.seats) (sym c.in_ok-handle.ensures.made.shape);
      logs = one-log [] handle.seat handle.reserve empty;
      index =
          subst (λ texts. IsIndex keys texts (held handle.seat)) (sym c.texts_for.ensures)
          (index-none keys (held handle.seat) none);
      claims =
          All-weaker IsNew (ClaimsOnly handle.map.chain.shape (held handle.seat))
          (λ seat is. asks_add_up.none is) (seats_of handle) new;
      made = c.in_ok-handle.ensures.made.shape ∙ c.shape_for.ensures.shape;
      room =
          subst (λ p. HasRoomFor p c.min-room.result) (sym c.in_ok-handle.ensures.made.shape)
          c.shape_for.ensures.room;
      most = omega (arith, c.min-room.ensures);
    }
