-- What the settled seats of a map know, as those of the set.
use Rattle.std.proofs.Common.{◌∙◌, ℕ, List, [], ◌∷◌, ap, sym}
use Rattle.std.specs.List.{AllZip}
use Rattle.nb_core.specs.Log as map_log
use Rattle.nb_map.specs.Settling as of_map
use Rattle.nb_set.specs.OfMap.{log_as}
use Rattle.nb_set.specs.Sets.{SeatOf, SetOf, shape_of}
use Rattle.nb_set.specs.Settling.{HasCaughtUp, HaveSettled, as_left}
use Rattle.nb_set.proofs.Dealt.{ended-with}
use Rattle.nb_set.proofs.Items.{len-left}
use Rattle.nb_set.proofs.Logged.{logged-as}

-- one seat
caught-up :
    (set : SetOf) (whole : List map_log.Entry) (before after : SeatOf)
    → of_map.HasCaughtUp set.map whole before after
    → HasCaughtUp set (log_as whole) before after
caught-up set whole before after has = record {
  knows = ap log_as has.knows;
  logged = logged-as has.logged;
  grows = has.grows;
  count = has.count;
  later = record {
    number = has.grows.number;
    seen = record { later = has.grows.later; is = has.grows.seen };
  };
  own = has.own;
}

-- and all of them
all-caught-up :
    (set : SetOf) (whole : List map_log.Entry) (before after : List SeatOf)
    → AllZip (of_map.HasCaughtUp set.map whole) before after
    → AllZip (HasCaughtUp set (log_as whole)) before after
all-caught-up set whole [] [] each = tt
all-caught-up set whole [] (s' ∷ after) each = absurd each
all-caught-up set whole (s ∷ before) [] each = absurd each
all-caught-up set whole (s ∷ before) (s' ∷ after) each =
    (caught-up set whole s s' each.0, all-caught-up set whole before after each.1)

pub have-settled :
    (set : SetOf) (before after : List SeatOf) (size : ℕ)
    → of_map.HaveSettled set.map before after size
    → HaveSettled set before after size
have-settled set before after size s =
    let h = s.tables.history in
    let ended = as_left (shape_of set) h size in
    record {
      tables = s.tables;
      ended = ended-with before ended s.ended;
      left = s.left;
      keys = s.keys ∙ sym (len-left ended s.ended.replayed);
      each = all-caught-up set (map_log.log_of h) before after s.each;
    }
