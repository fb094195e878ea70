-- The seats of a set are dealt, and gathered.
use Rattle.std.proofs.Common.{◌≡◌, ◌∙◌, ◌<◌, ℕ, List, [], map, length, ap, refl}
use Rattle.std.specs.List.{All, range_with_len}
use Rattle.std.proofs.lemmas.List.{map-append}
use Rattle.std.proofs.lemmas.List.Elements.{All-map, All-same, All-weaker}
use Rattle.nb_core.specs.Log as map_log
use Rattle.nb_map.specs.Ending as of_map
use Rattle.nb_set.specs.Ending.{EndedOf, EndedWith, HasAll, log_left}
use Rattle.nb_set.specs.OfMap.{call_as, entry_as, log_as}
use Rattle.nb_set.specs.Sets.{SeatOf, SetOf, log, new_seat, new_seats, seat_number}
use Rattle.nb_set.proofs.Read.{calls-as, read}

-- a new seat's log is empty
pub logs-empty :
    (set : SetOf) (count : ℕ) (seats : List SeatOf) → seats ≡ new_seats set count
    → All (λ seat. log seat ≡ []) seats
logs-empty set count seats are =
    All-same (λ seat. log seat ≡ []) seats (new_seats set count) are
    (All-map (λ seat. log seat ≡ []) (new_seat set) (range_with_len 0 count) (λ k d lt. refl))

-- ---- the end

-- one seat's log is a beginning of the one log
has-all :
    (whole : List map_log.Entry) (seat : SeatOf) → of_map.HasAll whole seat
    → HasAll (log_as whole) seat
has-all whole seat has = record {
  later = log_as has.later;
  is = ap log_as has.is ∙ map-append entry_as has.later (map_log.log_of seat.chain.seen);
  others = calls-as (seat_number seat) has.later ∙ ap (map call_as) has.others;
}

pub ended-with :
    (seats : List SeatOf) (ended : EndedOf) → of_map.EndedWith seats ended.map
    → EndedWith seats ended
ended-with seats ended with = record {
  replayed = (read (of_map.log_left ended.map) with.replayed).0;
  logs = All-weaker (of_map.HasAll (of_map.log_left ended.map)) (HasAll (log_left ended))
      (has-all (of_map.log_left ended.map)) seats with.logs;
  once = with.once;
  made = All-map (λ entry. entry.seat < length seats) entry_as (of_map.log_left ended.map)
      with.made;
}
