-- A map made anew, as a set made anew.
use Rattle.std.proofs.Common.{ℕ, List, [], ◌∷◌, map, All, is_some, ap, inl, inr}
use Rattle.std.proofs.lemmas.List.Elements.{All-cons, All-head, All-nil, All-tail}
use Rattle.nb_core.specs.Plans.{Plan}
use Rattle.nb_core.specs.declared.calls.Call as map_call
use Rattle.nb_core.specs.declared.calls.Reply.{Reply}
use Rattle.nb_map.specs.Ending as ending
use Rattle.nb_map.specs.Entries.{HasOnlyRead, HaveOnlyRead, IsRead}
use Rattle.nb_map.specs.Handles as handles
use Rattle.nb_map.specs.Renewing as of_map
use Rattle.nb_set.specs.Ending.{EndedOf, set_left}
use Rattle.nb_set.specs.Handles.{as_handle, seats_of}
use Rattle.nb_set.specs.OfMap.{call_as}
use Rattle.nb_set.specs.Renewing.{HasOnlyAsked, HasRenewed, HasTooMany, HaveOnlyAsked, IsAsk, IsKept}
use Rattle.nb_set.specs.Sets.{SeatOf, SetOf}
use Rattle.nb_set.proofs.Dealt.{ended-with}
use Rattle.nb_set.proofs.Items.{left}
use Rattle.nb_set.proofs.Logged.{logged-as}
use Rattle.nb_set.proofs.Opened.{begins-as, too-small}

-- ---- a set made anew

pub renewed-as :
    (p : Plan) (before after : handles.HandleOf) → of_map.HasRenewed p before after
    → HasRenewed p (as_handle before) (as_handle after)
renewed-as p before after renewed =
    let ended : EndedOf = record { map = renewed.ended } in
    record {
      ended = ended;
      left = ended-with _ (record { map = renewed.ended }) renewed.left;
      begun = begins-as p (set_left ended) (ending.map_left renewed.ended) after
          (left ended renewed.left.replayed) renewed.begun;
    }

pub too-many-as :
    (p : Plan) (before : handles.HandleOf) → of_map.HasTooMany p before
    → HasTooMany p (as_handle before)
too-many-as p before many =
    let ended : EndedOf = record { map = many.ended } in
    record {
      ended = ended;
      left = ended-with _ (record { map = many.ended }) many.left;
      small = too-small p (set_left ended) (ending.map_left many.ended)
          (left ended many.left.replayed) many.small;
    }

-- ---- a renewal that is refused

asks-as :
    (made : List (map_call.Call × Reply)) → All IsRead made → All IsAsk (map call_as made)
asks-as [] reads = All-nil IsAsk
asks-as (call ∷ made) reads =
    let read = All-head IsRead call made reads in
    All-cons IsAsk (call_as call) (map call_as made) (read.0, is_some read.1, ap call_as read.2)
    (asks-as made (All-tail IsRead call made reads))

pub only-asked :
    {set : SetOf} {before after : SeatOf} {most : ℕ}
    → HasOnlyRead set.map before after most → HasOnlyAsked set before after most
only-asked read = record {
  made = map call_as read.made;
  asks = asks-as read.made read.reads;
  logged = logged-as read.logged;
  worked = read.worked;
  count = read.count;
  own = read.own;
}

-- each of these seats has only asked for keys
pub asked-as :
    (set : SetOf) (before after : List SeatOf)
    → HaveOnlyRead set.map before after → HaveOnlyAsked set before after
asked-as set [] [] each = tt
asked-as set [] (new ∷ after) each = absurd each
asked-as set (old ∷ before) [] each = absurd each
asked-as set (old ∷ before) (new ∷ after) each =
    (only-asked {set = set} {before = old} {after = new} each.0, asked-as set before after each.1)

pub kept-as :
    (before after : handles.HandleOf) → of_map.IsKept before after
    → IsKept (as_handle before) (as_handle after)
kept-as before after (inl same) = inl (ap as_handle same)
kept-as before after (inr (same, read)) =
    inr (
      ap (λ m. record { map = m }) same,
      asked-as (as_handle before).set (seats_of (as_handle before)) (seats_of (as_handle after))
          read,
    )
