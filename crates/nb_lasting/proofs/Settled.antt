-- All guests settle: what the token holds, from step to step.
use Rattle.std.proofs.Common.{◌≡◌, ◌∙◌, ◌+◌, ◌++◌, ◌<◌, ◌≤◌, ℕ, suc, List, [], ◌∷◌, All, Some, ap, drop, get_or, inl, inr, length, map, refl, slice_get, slice_set, subst, sym, arith}
use Rattle.std.specs.FinMap as numbers
use Rattle.std.specs.Prelude.{Err, IfOk, Ok, OnErr, Option, Result, option_map}
use Rattle.std.proofs.Math.Seq.{drop-cons}
use Rattle.std.proofs.lemmas.List.{append_cancel_right, get_or-set_other, get_or-set_same, length-map, length-set}
use Rattle.std.proofs.lemmas.List.Elements.{All-append, All-map}
use Rattle.std.proofs.lemmas.Option.{get_or_from_slice_get, slice_get-get_or, slice_get-map, slice_get_within}
use Rattle.atomic_table.specs.Table.{Me, rest}
use Rattle.nb_core.proofs.Seating.{All-left}
use Rattle.nb_core.specs.Log.{Entry, IsReplayed, log_of, map_of_log}
use Rattle.nb_core.specs.declared.calls.Call.{Call}
use Rattle.nb_core.specs.declared.calls.Reply.{Reply}
use Rattle.nb_core.specs.declared.events.Event.{Event}
use Rattle.nb_map.specs.Ending.{EndedOf, map_left}
use Rattle.nb_map.specs.Handles.{HandleOf}
use Rattle.nb_map.specs.Logs.{log}
use Rattle.nb_map.specs.Maps.{MapOf}
use Rattle.nb_lasting.proofs.Closed.{more-come}
use Rattle.nb_lasting.proofs.Dealt.{held-left, holds-last, knows-last, new-slot, new-view, outs-left, slots-left, there_is}
use Rattle.nb_lasting.proofs.Renewed.{AreCountedIn, some-same}
use Rattle.nb_lasting.proofs.Sharing.{Same, decided, known-of, log-as-events}
use Rattle.nb_lasting.proofs.Visiting.{goes-on-to, one_log_of_guests, then-called}
use Rattle.nb_lasting.specs.Closing.{HasGathered, HaveComeTo}
use Rattle.nb_lasting.specs.Epochs.{HasGoneOnBy}
use Rattle.nb_lasting.specs.Guests.{GoesOnTo, GuestHasCalled, GuestOf, GuestsHaveSettled, HaveCalled, OneLogSoFar, with_log}
use Rattle.nb_lasting.proofs.Giving.{CanGive}
use Rattle.nb_lasting.specs.Renewal.{AreHeld, AreStill, HoldsBelow, HoldsStill}
use Rattle.nb_lasting.specs.Settling.{CanSettle, HasLent, KnowFrom}
use Rattle.nb_lasting.specs.Shared.{FitsLanes, HasGiven, IsOfGuest, as_events, as_guest, account_in, guest_left, known_in, known_of}
use Rattle.nb_lasting.specs.Visits.{SharedOf}
use Rattle.nb_lasting.specs.declared.shared.LaneView.{LaneView}

-- ---- the guest's place goes on, and what is held stays

pub handed-gathered :
    (lane : ℕ) (seen : List Event) (knew : ℕ → List Event) (me new : Me (Option HandleOf) LaneView)
    (handles : List HandleOf) → new ≡ (guest_left me.0, me.1)
    → HasGathered lane seen knew me handles
    → HasGathered lane seen knew new handles
handed-gathered lane seen knew me new handles is has =
    subst (λ m. HasGathered lane seen knew m handles) (sym is) (record {
      holds = record {
        knew = has.holds.knew;
        epoch = has.holds.epoch;
        outs = has.holds.outs;
        slots = has.holds.slots;
        begun = has.holds.begun;
        held = has.holds.held;
        mine = λ i less own. absurd cc;
      };
      here = has.here;
      below = has.below;
    })

pub handed-settle :
    (whole : List Entry) (n : ℕ) (me new : Me (Option HandleOf) LaneView) (handles : List HandleOf)
    → new ≡ (guest_left me.0, me.1) → CanSettle whole n me handles → CanSettle whole n new handles
handed-settle whole n me new handles is can =
    subst (λ m. CanSettle whole n m handles) (sym is) (record {
      knew = can.knew;
      know = can.know;
      outs = can.outs;
      slots = can.slots;
      held = can.held;
      one = can.one;
    })

pub taken-settle :
    (whole : List Entry) (n : ℕ) (me new : Me (Option HandleOf) LaneView) (other : LaneView)
    (handles : List HandleOf) → new ≡ (as_guest me.0 other, me.1) → CanSettle whole n me handles
    → CanSettle whole n new handles
taken-settle whole n me new other handles is can =
    subst (λ m. CanSettle whole n m handles) (sym is) (record {
      knew = can.knew;
      know = can.know;
      outs = can.outs;
      slots = can.slots;
      held = can.held;
      one = can.one;
    })

-- ---- the last handle is given back

module _
    (lane : ℕ) (me new after : Me (Option HandleOf) LaneView) (handles before : List HandleOf)
    (handle : HandleOf) (popped-is : before ≡ handles ++ handle ∷ [])
    (is : new ≡ (me.0, (lane, Some handle) ∷ rest me.1)) (whole : List Entry)
    (can : CanSettle whole (lane + 1) me before) where
  pub can-give-last : me.0.guest ≡ Some lane → CanGive lane new
  can-give-last guest = record {
    knew = can.knew lane;
    whole = can.know lane;
    handle = handle;
    holds = holds-last lane me new after handles before handle popped-is is can.knew can.know
        can.outs
        can.held;
    guest = ap (λ (v : LaneView). v.guest)
        (new-view lane me new after handles before handle popped-is is)
        ∙ guest;
  }

  pub given-last :
      HasGiven new after → CanSettle whole lane after handles × (log_of after.0.seen ≡ whole)
  given-last gone =
      let seen = known_in new.0 new.1 in
      let account = account_in new.1 new.0.account in (
        record {
          knew = can.knew;
          know = can.know;
          outs = outs-left lane me new after handles before handle popped-is is can.knew can.know
              can.outs can.held seen account gone.0;
          slots = slots-left lane me new after handles before handle popped-is is can.slots gone.1;
          held = held-left lane me new after handles before handle popped-is is can.knew can.know
              can.outs can.held seen account gone.0;
          one = λ i less. can.one i (omega (arith, less));
        },
        ap (λ (v : LaneView). log_of v.seen) gone.0
            ∙ ap (λ (slots : List (ℕ × Option HandleOf)). log_of (known_in new.0 slots))
            (new-slot lane me new after handles before handle popped-is is)
            ∙ ap (λ (v : LaneView). log_of (known_of v.filled v.past handle.seat))
            (new-view lane me new after handles before handle popped-is is)
            ∙ (known-of me.0.filled me.0.past handle.seat (can.know lane)
            (knows-last lane me new after handles before handle popped-is is can.knew can.know
            can.outs
            can.held)).0
            ∙ can.one lane (omega arith),
      )

-- the log that all know is replayed
pub settled-replayed :
    (whole : List Entry) (n lane : ℕ) (me : Me (Option HandleOf) LaneView) (handles : List HandleOf)
    → lane < n → CanSettle whole n me handles → IsReplayed whole
settled-replayed whole n lane me handles below can =
    let one = there_is handles lane (omega (arith, below, can.held.count)) in
    subst IsReplayed (can.one lane below) (can.held.each lane one.0 one.1).1.replayed

-- ---- one guest after another

get-set-here : (guests : List GuestOf) (k : ℕ) (guest : GuestOf) → k < length guests
    → slice_get (slice_set guests k guest) k ≡ Some guest
get-set-here guests k guest below =
    slice_get-get_or (slice_set guests k guest) k guest
    (omega (arith, below, length-set guests k guest))
    ∙ ap Some (get_or-set_same guests k guest guest below)

get-set-else : (guests : List GuestOf) (k i : ℕ) (guest old : GuestOf) → (i ≡ k → ⊥)
    → slice_get guests i ≡ Some old → slice_get (slice_set guests k guest) i ≡ Some old
get-set-else guests k i guest old other at =
    slice_get-get_or (slice_set guests k guest) i old
    (omega (arith, slice_get_within guests i old at, length-set guests k guest))
    ∙ ap Some (get_or-set_other guests k i guest old other
    ∙ get_or_from_slice_get guests i old old at)

pub know-none :
    (n : ℕ) (whole : List Entry) (guests : List GuestOf) → n ≡ length guests
    → KnowFrom n whole guests guests
know-none n whole guests all = record {
  count = refl;
  below = λ i guest less at. at;
  from = λ i guest past at. absurd (omega (arith, slice_get_within guests i guest at, past, all));
}

pub know-more :
    (n k : ℕ) (whole : List Entry) (before after : List GuestOf) (guest new : GuestOf) → n ≡ k + 1
    → KnowFrom n whole before after → slice_get before k ≡ Some guest → new ≡ with_log whole guest
    → KnowFrom k whole before (slice_set after k new)
know-more n k whole before after guest new more know at is = record {
  count = length-set after k new ∙ know.count;
  below = λ i old less here.
      get-set-else after k i new old (λ same. absurd (omega (arith, same, less)))
      (know.below i old (omega (arith, less, more)) here);
  from = λ i old past here. by i old past here (decided i k);
}
  where
    within : k < length after
    within = omega (arith, slice_get_within before k guest at, know.count)

    by : (i : ℕ) (old : GuestOf) → k ≤ i → slice_get before i ≡ Some old
        → Same i k → slice_get (slice_set after k new) i ≡ Some (with_log whole old)
    by i old past here (inl (same, _)) =
        let is-old : guest ≡ old =
        some-same guest old (sym at ∙ (ap (slice_get before) (sym same) ∙ here)) in
        ap (slice_get (slice_set after k new)) same
        ∙ (get-set-here after k new within ∙ ap Some (is ∙ ap (with_log whole) is-old))
    by i old past here (inr (other, _)) =
        get-set-else after k i new (with_log whole old) other
        (know.from i old (omega (arith, past, other, more)) here)

pub know-all :
    (whole : List Entry) (before after : List GuestOf) → length after ≡ length before
    → ((i : ℕ) (guest : GuestOf) → slice_get before i ≡ Some guest
    → slice_get after i ≡ Some (with_log whole guest))
    → after ≡ map (with_log whole) before
know-all whole [] [] count each = refl
know-all whole [] (x ∷ after) count each = absurd (omega (arith, count))
know-all whole (x ∷ before) [] count each = absurd (omega (arith, count))
know-all whole (x ∷ before) (y ∷ after) count each =
    ap (λ z. z ∷ after) (some-same y (with_log whole x) (each 0 x refl))
    ∙ ap (λ l. with_log whole x ∷ l)
    (know-all whole before after (omega (arith, count)) (λ i guest at. each (suc i) guest at))

-- the guests whose handles are gathered
pub lent-more :
    (every : List GuestOf) (i : ℕ) (guest : GuestOf) (me new : Me (Option HandleOf) LaneView)
    (handles more : List HandleOf) → HaveComeTo every (drop i every) me handles → length handles ≡ i
    → slice_get every i ≡ Some guest → guest.number ≡ i → HasLent guest me handles new more
    → HaveComeTo every (drop (i + 1) every) new more
lent-more every i guest me new handles more come count at number lent =
    let next : suc i ≡ i + 1 = omega arith in
    let left : drop i every ≡ guest ∷ drop (i + 1) every =
    drop-cons every i guest (slice_get_within every i guest at)
    ∙ (ap (λ (g : GuestOf). g ∷ drop (suc i) every) (get_or_from_slice_get every i guest guest at)
    ∙ ap (λ k. guest ∷ drop k every) next) in
    more-come every (drop i every)
    (drop (i + 1) every) guest lent.0 guest.number me new handles more
    come left (number ∙ sym count) (number ∙ sym count) lent.1 lent.2

pub lent-count :
    (i : ℕ) (guest : GuestOf) (me new : Me (Option HandleOf) LaneView)
    (handles more : List HandleOf)
    → HoldsBelow guest.number me handles → guest.number ≡ i → HasLent guest me handles new more
    → length more ≡ i + 1
lent-count i guest me new handles more holds number lent =
    let count = (lent.2 holds).holds.held.count in omega (arith, count, number)

-- the next guest who comes to know the log is as it was
pub next-settles :
    (n k : ℕ) (whole : List Entry) (before after : List GuestOf) (item : GuestOf) → n ≡ k + 1
    → n ≤ length before → KnowFrom n whole before after
    → slice_get before k ≡ Some (get_or after k item)
next-settles n k whole before after item more within know =
    let old = there_is before k (omega (arith, more, within)) in
    old.1
    ∙ ap Some (sym (get_or_from_slice_get after k old.0 item
    (know.below k old.0 (omega (arith, more)) old.1)))

-- a log that goes on by no call of the guest
further :
    (guest : GuestOf) (middle whole : List Entry) (made : List (Call × Reply))
    → GoesOnTo guest middle made → HasGoneOnBy guest.number middle whole []
    → GoesOnTo guest whole made
further guest middle whole made on gone =
    let then : GuestOf = with_log middle guest in
    goes-on-to guest then whole made [] (record { of = refl; number = refl; log = on }) gone

-- they are the map's still
pub still-of :
    {E : Type 0} (id : SharedOf) (before after : List GuestOf) (result : Result ℕ E)
    → IfOk result (GuestsHaveSettled before after) → OnErr result (after ≡ before)
    → All (λ guest. guest.of ≡ id) before
    → All (λ guest. guest.of ≡ id) after
still-of id before after (Ok size) settled kept of =
    subst (All (λ (guest : GuestOf). guest.of ≡ id)) (sym settled.know)
    (All-map (λ (guest : GuestOf). guest.of ≡ id) (with_log settled.whole) before of)
still-of id before after (Err refused) settled kept of =
    subst (All (λ (guest : GuestOf). guest.of ≡ id)) (sym kept) of

-- ---- all handles know one log

module _
    (n : ℕ) (m : MapOf) (filled past : List Event) (know : ℕ → List Event) (handles : List HandleOf)
    (whole : List Entry) (held : AreHeld m filled past n know handles)
    (logs : (i : ℕ) (h : HandleOf) → slice_get handles i ≡ Some h → log h.seat ≡ whole) where
  knows-at : (i : ℕ) → i < n
      → (later : List Entry) × (whole ≡ later ++ log_of filled)
      × (log_of (know i) ≡ later ++ log_of past)
  knows-at i below =
      let one = there_is handles i (omega (arith, below, held.count)) in
      let knows = (held.each i one.0 one.1).1 in
      (knows.later, sym (logs i one.0 one.1) ∙ knows.here, knows.is)

  pub one-log : (i k : ℕ) → i < n → k < n → log_of (know i) ≡ log_of (know k)
  one-log i k below below' =
      let a = knows-at i below in
      let b = knows-at k below' in
      a.2
      ∙ (ap (λ l. l ++ log_of past) (append_cancel_right a.0 b.0 (log_of filled) (sym a.1 ∙ b.1))
      ∙ sym b.2)

  pub one-made :
      (i : ℕ) → i < n → All (IsOfGuest n) whole → All (IsOfGuest n) (log_of past)
      → All (IsOfGuest n) (log_of (know i))
  one-made i below all old =
      let a = knows-at i below in
      subst (All (IsOfGuest n)) (sym a.2)
      (All-append (IsOfGuest n) a.0 (log_of past)
      (All-left (IsOfGuest n) a.0 (log_of filled) (subst (All (IsOfGuest n)) a.1 all)) old)

module _
    (n : ℕ) (me : Me (Option HandleOf) LaneView) (before after : List HandleOf) (size : ℕ)
    (some : 1 ≤ n) (holds : HoldsStill n me before)
    (still : AreStill me.0.map me.0.filled me.0.past n holds.knew after)
    (counts : AreCountedIn me.0.map still.know before after size) where
  -- the log that all know
  abbrev pub settled-log : List Entry
  settled-log = log_of (still.know 0)

  pub can-settle : CanSettle settled-log n me after
  can-settle = record {
    knew = holds.knew;
    know = still.know;
    outs = holds.outs;
    slots = holds.slots;
    held = still.held;
    one = λ i below.
        one-log n me.0.map me.0.filled me.0.past still.know after counts.whole still.held
        counts.logs i
        0 below (omega (arith, some));
  }

  pub have-settled :
      (guests last : List GuestOf) → length guests ≡ n → FitsLanes n me.0
      → ((i : ℕ) (guest : GuestOf) → slice_get guests i ≡ Some guest
      → (guest.number ≡ i) × GoesOnTo guest (log_of (holds.knew i)) [])
      → last ≡ map (with_log settled-log) guests
      → GuestsHaveSettled guests last size
  have-settled guests last many seated current know = record {
    whole = settled-log;
    replayed = settled-replayed settled-log n 0 me after (omega (arith, some)) can-settle;
    each = each;
    know = know;
    made = subst (λ k. All (IsOfGuest k) settled-log) (sym many)
        (one-made n me.0.map me.0.filled me.0.past still.know after counts.whole still.held
        counts.logs 0
        (omega (arith, some))
        (subst (λ k. All (IsOfGuest k) counts.whole) holds.still.held.count counts.made)
        seated.made);
    keys = (let first = there_is before 0 (omega (arith, some, holds.still.held.count)) in
        (counts.at 0 first.0 first.1).keys);
  }
    where
      each : (i : ℕ) (guest : GuestOf) → slice_get guests i ≡ Some guest
          → GoesOnTo guest settled-log []
      each i guest at =
          let below : i < n = omega (arith, slice_get_within guests i guest at, many) in
          let was = current i guest at in
          let gone = subst (λ l. HasGoneOnBy i (log_of (holds.knew i)) l [])
          (one-log n me.0.map me.0.filled me.0.past still.know after counts.whole still.held
          counts.logs i 0 below (omega (arith, some))) (still.gone i below) in
          further guest (log_of (holds.knew i)) settled-log [] was.1
          (subst (λ k. HasGoneOnBy k (log_of (holds.knew i)) settled-log []) (sym was.0) gone)

-- ---- the law

-- what would be left of a map with this log
left-of : List Entry → EndedOf
left-of whole = record {
  tables = record {
    shape = record { exponents = []; seats = 0; stripes = 0; reprobes = 0; chunk = 0 };
    words = [];
    history = as_events whole;
  };
  size = 0;
}

pub one_log_so_far : OneLogSoFar
unfolding left-of
one_log_so_far = λ n shared new last settled size made come called end. (
  (
    map_left (left-of end.whole),
    end.keys
        ∙ ap (λ l. length (numbers.entries (map_of_log l))) (sym (log-as-events end.whole)),
    one_log_of_guests n shared new last (left-of end.whole) made come called (record {
      whole = end.whole;
      replayed = end.replayed;
      leaves = ap map_of_log (log-as-events end.whole);
      each = end.each;
      made = end.made;
    }),
  ),
  still-called n new last settled size made called end,
)
  where
    still-called :
        (n : ℕ) (new last settled : List GuestOf) (size : ℕ) (made : ℕ → List (Call × Reply))
        → HaveCalled n new last made → GuestsHaveSettled last settled size
        → HaveCalled n new settled made
    still-called n new last settled size made called end = record {
      count = ap length end.know ∙ (length-map last (with_log end.whole) ∙ called.count);
      each = λ i first guest at at'.
          let at-map : slice_get (map (with_log end.whole) last) i ≡ Some guest =
          ap (λ l. slice_get l i) (sym end.know) ∙ at' in
          let old = there_is last i (omega (
            arith,
            slice_get_within (map (with_log end.whole) last) i guest at-map,
            length-map last (with_log end.whole),
          )) in
          let is : with_log end.whole old.0 ≡ guest =
          some-same (with_log end.whole old.0) guest
          (sym (slice_get-map (with_log end.whole) last i
          ∙ ap (option_map (with_log end.whole)) old.1) ∙ at-map) in
          subst (λ (g : GuestOf). GuestHasCalled first g (made i)) is
          (then-called first old.0 (with_log end.whole old.0) (made i) []
          (called.each i first old.0 at old.1)
          (record { of = refl; number = refl; log = end.each i old.0 old.1 }));
    }
