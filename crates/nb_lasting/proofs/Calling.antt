-- What a guest's call does to what it knows.
use Rattle.std.proofs.Common.{◌≡◌, ◌∙◌, ◌++◌, ℕ, List, [], ◌∷◌, Some, ap, subst, sym}
use Rattle.std.specs.FinMap as numbers
use Rattle.std.specs.Prelude.{Err, None, Ok, Option, Result, unwrap_or}
use Rattle.std.proofs.lemmas.List.{append-nil, append_assoc}
use Rattle.atomic_table.specs.Table.{Me, rest}
use Rattle.nb_core.proofs.Theorems.{crowded_absent, log_is_replayed}
use Rattle.nb_core.specs.Calls.{overflows}
use Rattle.nb_core.specs.History.{IsLegal, key_of_call}
use Rattle.nb_core.specs.Log.{Entry, IsReplayed, log_of, map_of_log}
use Rattle.nb_core.specs.Meaning.{IsCrowded}
use Rattle.nb_core.specs.Plans.{IsPlan, Plan}
use Rattle.nb_core.specs.declared.calls.Call.{Call}
use Rattle.nb_core.specs.declared.calls.Reply.{Reply}
use Rattle.nb_core.specs.declared.events.Event.{Event}
use Rattle.nb_map.specs.Handles.{HandleOf, KeepsRest}
use Rattle.nb_map.specs.Logs.{HasLogged, log, made_in}
use Rattle.nb_map.specs.Maps.{MapOf, SeatOf}
use Rattle.nb_map.specs.Progress.{Limit}
use Rattle.nb_map.specs.Promises.{HasWritten, replied_or_refused}
use Rattle.nb_map.specs.Refusals.{IsJust}
use Rattle.nb_map.specs.declared.faults.PutFault.TheVariants as put_fault
use Rattle.nb_map.specs.declared.faults.PutFault.{PutFault}
use Rattle.nb_lasting.proofs.Epochs.{goes_on, leaves, replays}
use Rattle.nb_lasting.proofs.Sharing.{known-of, log-as-events}
use Rattle.nb_lasting.specs.Epochs.{HasGoneOnBy}
use Rattle.nb_lasting.proofs.Giving.{CanGive}
use Rattle.nb_lasting.specs.Holding.{HasCalledIn, HasWrittenIn, IsIdleGuest, IsJustIn}
use Rattle.nb_lasting.specs.Shared.{EpochIn, HasGiven, HasTaken, KnowsIn, as_events, known_in, known_of, rest_outs, account_in}
use Rattle.nb_lasting.specs.Lasting.{HasSlots}
use Rattle.nb_lasting.specs.Visits.{HasVisited, gave}
use Rattle.nb_lasting.specs.declared.shared.LaneView.{LaneView}

-- what a handle knows after its calls
pub known-then :
    (e : EpochIn) (before after : SeatOf) (knew : List Event) (made : List (Call × Reply))
    → KnowsIn e.filled e.past before knew → HasLogged before after made
    → KnowsIn e.filled e.past after (known_of e.filled e.past after)
    × HasGoneOnBy before.chain.number (log_of knew) (log_of (known_of e.filled e.past after)) made
known-then e before after knew made knows logged =
    let whole : List Entry = (logged.later ++ knows.later) ++ log_of e.past in
    let here : log after ≡ (logged.later ++ knows.later) ++ log_of e.filled =
    logged.grown
    ∙ (ap (λ l. logged.later ++ l) knows.here
    ∙ sym (append_assoc logged.later knows.later (log_of e.filled))) in
    let replayed : IsReplayed whole =
    replays (logged.later ++ knows.later) (log_of e.filled) (log_of e.past) e.same e.replayed
    (subst IsReplayed here logged.replayed) in
    let is = known-of e.filled e.past after (as_events whole) (record {
      later = logged.later ++ knows.later;
      here = here;
      is = log-as-events whole;
      replayed = subst IsReplayed (sym (log-as-events whole)) replayed;
    }) in
    let same : log_of (known_of e.filled e.past after) ≡ whole = is.0 ∙ log-as-events whole in (
      is.1,
      record {
        later = logged.later;
        grown = same
            ∙ (append_assoc logged.later knows.later (log_of e.past)
            ∙ ap (λ l. logged.later ++ l) (sym knows.is));
        replayed = subst IsReplayed (sym same) replayed;
        own = logged.own;
      },
    )

module _
    (lane : ℕ) (before mid : Me (Option HandleOf) LaneView) (taken : HasTaken lane before mid)
    (handle : HandleOf) (made : List (Call × Reply)) (idle : IsIdleGuest lane before)
    (keeps : KeepsRest taken.handle handle)
    (logged : HasLogged taken.handle.seat handle.seat made)
    (then-me : Me (Option HandleOf) LaneView)
    (is : then-me ≡ (mid.0, (lane, Some handle) ∷ rest mid.1)) where
  goes :
      KnowsIn mid.0.filled mid.0.past handle.seat (known_of mid.0.filled mid.0.past handle.seat)
      × HasGoneOnBy taken.handle.seat.chain.number (log_of taken.knew)
      (log_of (known_of mid.0.filled mid.0.past handle.seat)) made
  goes =
      subst (λ (f : List Event). KnowsIn f mid.0.past handle.seat
      (known_of f mid.0.past handle.seat)
      × HasGoneOnBy taken.handle.seat.chain.number (log_of taken.knew)
      (log_of (known_of f mid.0.past handle.seat)) made) (sym taken.begun.0)
      (subst (λ (l : List Event). KnowsIn taken.epoch.filled l handle.seat
      (known_of taken.epoch.filled l handle.seat)
      × HasGoneOnBy taken.handle.seat.chain.number (log_of taken.knew)
      (log_of (known_of taken.epoch.filled l handle.seat)) made) (sym taken.begun.1)
      (known-then taken.epoch taken.handle.seat handle.seat taken.knew made
      (subst (λ (f : List Event). KnowsIn f taken.epoch.past taken.handle.seat taken.knew)
      taken.begun.0
      (subst (λ (l : List Event). KnowsIn mid.0.filled l taken.handle.seat taken.knew) taken.begun.1
      taken.knows)) logged))

  slot-is : then-me.1 ≡ (lane, Some handle) ∷ rest then-me.1
  slot-is =
      let e = ap (λ (m : Me (Option HandleOf) LaneView). m.1) is in
      e ∙ ap (λ l. (lane, Some handle) ∷ l) (sym (ap rest e))

  view-is : then-me.0 ≡ mid.0
  view-is = ap (λ (m : Me (Option HandleOf) LaneView). m.0) is

  pub can-give : CanGive lane then-me
  can-give = record {
    knew = taken.knew;
    whole = known_of mid.0.filled mid.0.past handle.seat;
    handle = handle;
    holds = record {
      outs = before.0.outs;
      view = ap (λ (v : LaneView). v.outs) view-is ∙ taken.outs;
      slot = slot-is;
      one = record {
        map = keeps.map ∙ taken.one.map ∙ sym (ap (λ (v : LaneView). v.map) view-is);
        number = logged.number ∙ taken.one.number;
        alone = keeps.reserve ∙ taken.one.alone;
      };
      knows = subst (λ (v : LaneView). KnowsIn v.filled v.past handle.seat
          (known_of mid.0.filled mid.0.past handle.seat)) (sym view-is) goes.0;
    };
    guest = ap (λ (v : LaneView). v.guest) view-is ∙ taken.guest.0 ∙ idle.guest;
  }

  module _ (after : Me (Option HandleOf) LaneView) (given : HasGiven then-me after) where
    seen-is : after.0.seen ≡ known_of mid.0.filled mid.0.past handle.seat
    seen-is =
        ap (λ (v : LaneView). v.seen) given.0
        ∙ ap (λ (m : Me (Option HandleOf) LaneView). known_in m.0 m.1) is

    -- what it has seen leaves the map that the handle's log leaves
    pub map-is : map_of_log (log_of after.0.seen) ≡ map_of_log (log handle.seat)
    map-is =
        let same : map_of_log (log_of mid.0.past) ≡ map_of_log (log_of mid.0.filled) =
        ap (λ (l : List Event). map_of_log (log_of l)) taken.begun.1 ∙ sym taken.epoch.same
        ∙ sym (ap (λ (l : List Event). map_of_log (log_of l)) taken.begun.0) in
        ap (λ (l : List Event). map_of_log (log_of l)) seen-is ∙ ap map_of_log goes.0.is
        ∙ leaves goes.0.later (log_of mid.0.past) (log_of mid.0.filled) same
        ∙ sym (ap map_of_log goes.0.here)

    pub idle-again : IsIdleGuest lane after
    idle-again = record {
      guest = ap (λ (v : LaneView). v.guest) given.0 ∙ can-give.guest;
      outs = ap (λ (v : LaneView). v.outs) given.0
          ∙ ap rest_outs (ap (λ (v : LaneView). v.outs) view-is ∙ taken.outs) ∙ idle.outs;
      slots = given.1
          ∙ ap rest (ap (λ (m : Me (Option HandleOf) LaneView). m.1) is) ∙ ap rest taken.slots
          ∙ idle.slots;
    }

    -- the account of its visit
    pub visited :
        (did : (there back : HandleOf) → Type 0) → did taken.handle handle
        → HasVisited lane did before.0.account after.0.account
    visited did done = record {
      there = taken.handle;
      back = handle;
      own = taken.one.number;
      room = subst (λ (m : MapOf). HasSlots before.0.account.keys m.chain.shape)
          (sym taken.one.map) taken.room;
      account = ap (λ (v : LaneView). v.account) given.0
          ∙ ap (λ (m : Me (Option HandleOf) LaneView). account_in m.1 m.0.account) is
          ∙ ap (gave handle) taken.account;
      done = done;
    }

    pub has-called : HasCalledIn lane before.0 after.0 made
    has-called =
        subst (λ (l : List Event). HasGoneOnBy lane (log_of before.0.seen) (log_of l) made)
        (sym seen-is)
        (subst (HasGoneOnBy lane (log_of before.0.seen)
        (log_of (known_of mid.0.filled mid.0.past handle.seat))) (append-nil made)
        (goes_on lane (log_of before.0.seen) (log_of taken.knew)
        (log_of (known_of mid.0.filled mid.0.past handle.seat)) [] made (taken.mine idle.guest)
        (subst (λ n. HasGoneOnBy n (log_of taken.knew)
        (log_of (known_of mid.0.filled mid.0.past handle.seat)) made) taken.one.number goes.1)))

-- ---- the slot that was taken last

abbrev head_of : List (ℕ × Option HandleOf) → Option HandleOf
head_of [] = None
head_of ((lane, y) ∷ slots) = y

pub slot-rest :
    (lane : ℕ) (y : Option HandleOf) (slots more : List (ℕ × Option HandleOf))
    → slots ≡ (lane, y) ∷ more → slots ≡ (lane, y) ∷ rest slots
slot-rest lane y slots more is = is ∙ ap (λ l. (lane, y) ∷ l) (sym (ap rest is))

pub taken-is :
    (lane : ℕ) (before mid : Me (Option HandleOf) LaneView) (taken : HasTaken lane before mid)
    (y : Option HandleOf) (handle : HandleOf) → mid.1 ≡ (lane, y) ∷ rest mid.1 → y ≡ Some handle
    → taken.handle ≡ handle
taken-is lane before mid taken y handle found is =
    ap (λ o. unwrap_or o handle) (ap head_of (sym taken.slots ∙ found) ∙ is)

-- ---- a write

-- a key that finds all slots of the last table taken is absent
pub crowded-away :
    (p : Plan) → IsPlan p → (seen : List Event) → IsLegal p seen → (k : ℕ) → IsCrowded p seen k
    → numbers.get (map_of_log (log_of seen)) k ≡ None
crowded-away p plan seen legal k crowded =
    ap (λ content. numbers.get content k) (log_is_replayed p plan seen legal).map
    ∙ crowded_absent p plan seen legal k crowded

-- its calls, and what they tell of the answer
pub write-logged :
    (m : MapOf) (call : Call) (before after : SeatOf) (limit : Limit)
    (result : Result Reply PutFault) → HasWritten m call before after limit
    (replied_or_refused result)
    → HasLogged before after (made_in call result)
    × ((lane : ℕ) (old new : LaneView) → HasCalledIn lane old new (made_in call result)
    → map_of_log (log_of new.seen) ≡ map_of_log (log after) → HasWrittenIn lane old new call result)
write-logged m call before after limit (Ok reply) wrote =
    (wrote.answered, λ lane old new called same. called)
write-logged m call before after limit (Err fault) wrote = (
  wrote.answered.unmade,
  λ lane old new called same. (called, just fault wrote.answered.just new same),
)
  where
    just : (fault : PutFault) → IsJust m.chain.shape call before.chain after.chain limit fault
        → (new : LaneView) → map_of_log (log_of new.seen) ≡ map_of_log (log after)
        → IsJustIn call (log_of new.seen) fault
    just put_fault.Full is new same = (
      is.0,
      ap (λ content. numbers.get content (key_of_call call)) same
          ∙ crowded-away m.chain.shape wrote.own.chain.plan after.chain.seen wrote.own.chain.legal
          (key_of_call call) is.1,
    )
    just put_fault.Contended is new same = tt
    just put_fault.ValueRange is new same = ap (overflows call) same ∙ is
