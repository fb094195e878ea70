-- What a renewer's token holds, from step to step.
use Rattle.std.proofs.Common.{◌≡◌, ◌≢◌, ◌∙◌, ◌+◌, ◌++◌, ◌<◌, ◌≤◌, ◌⊎◌, ℕ, zero, suc, List, [], ◌∷◌, All, Some, ap, inl, inr, length, length-append, refl, slice_get, subst, sym, arith}
use Rattle.std.specs.Prelude.{Err, IfErr, IfOk, None, Ok, OnErr, OnOk, Option, Result, ⊤, unwrap_or}
use Rattle.std.proofs.lemmas.Option.{slice_get_within}
use Rattle.std.specs.declared.alloc.AllocError.{AllocError as OutOfMemory}
use Rattle.atomic_table.specs.Table.{Me, rest}
use Rattle.nb_core.specs.Log.{Entry, log_of}
use Rattle.nb_core.specs.Plans.{Plan}
use Rattle.nb_core.specs.declared.events.Event.{Event}
use Rattle.nb_map.specs.Handles.{HandleOf}
use Rattle.nb_map.specs.Logs.{log}
use Rattle.nb_map.specs.Maps.{MapOf}
use Rattle.nb_lasting.proofs.Calling.{taken-is}
use Rattle.nb_lasting.proofs.Sharing.{Same, anew-log, current_here, decided, known-of, some-is, times_else, times_here, with-else, with-here, with_current}
use Rattle.nb_lasting.proofs.Epochs.{goes_on}
use Rattle.nb_lasting.specs.Epochs.{HasGoneOnBy}
use Rattle.nb_lasting.specs.Closing.{HasGathered}
use Rattle.nb_lasting.proofs.Giving.{CanDeal, CanGive, CanRenew}
use Rattle.nb_lasting.specs.Holding.{IsIdleGuest}
use Rattle.nb_lasting.proofs.Refused.{renewed-all}
use Rattle.nb_lasting.proofs.Renewed.{IsPartedAnew, all-from, at-all}
use Rattle.nb_lasting.specs.Gathered.{AreSingle, IsSingle}
use Rattle.nb_lasting.specs.Renewal.{AreHeld, AreRenewed, CanComeHome, CanDealAnew, CanDealBelow, HasBegunBy, HasBegunIn, KnowOneLog, HoldsBelow, HoldsStill, IsIdleToken, blanks, down}
use Rattle.nb_lasting.specs.Shared.{Has, HasBegunAnew, HasDealt, HasGiven, HasTaken, Holds, IsCurrent, IsKnownOrHasSlots, IsLane, IsOfGuest, FitsLanes, KnowsIn, all_knew, as_guest, given, known_in, known_of, log_in, map_in, rest_outs, account_in, begun_in, times_out}
use Rattle.nb_lasting.specs.Lasting.{HasSlots}
use Rattle.nb_lasting.specs.Visits.{began, gave}
use Rattle.nb_lasting.specs.declared.shared.Account.{Account}
use Rattle.nb_lasting.specs.declared.shared.Out.{Out}
use Rattle.nb_lasting.specs.declared.shared.LaneView.{LaneView}
use Rattle.nb_lasting.specs.declared.shared.Opened.{Opened}

-- ---- lists

pub there_is : {X : Type 0} (xs : List X) (i : ℕ) → i < length xs → (x : X)
    × (slice_get xs i ≡ Some x)
there_is [] i below = absurd (omega (arith, below))
there_is (x ∷ xs) zero below = (x, refl)
there_is (x ∷ xs) (suc i) below = there_is xs i (omega (arith, below))

pub snoc_cases :
    {X : Type 0} (xs : List X) (y : X) (i : ℕ) (x : X) → slice_get (xs ++ y ∷ []) i ≡ Some x
    → (slice_get xs i ≡ Some x) ⊎ ((i ≡ length xs) × (y ≡ x))
snoc_cases [] y zero x at = inr (refl, ap (λ o. unwrap_or o x) at)
snoc_cases [] y (suc i) x at = absurd (omega (arith, slice_get_within (y ∷ []) (suc i) x at))
snoc_cases (z ∷ xs) y zero x at = inl at
snoc_cases (z ∷ xs) y (suc i) x at = later (snoc_cases xs y i x at)
  where
    later : (slice_get xs i ≡ Some x) ⊎ ((i ≡ length xs) × (y ≡ x))
        → (slice_get xs i ≡ Some x) ⊎ ((suc i ≡ suc (length xs)) × (y ≡ x))
    later (inl old) = inl old
    later (inr (is, same)) = inr (ap suc is, same)

snoc_at : {X : Type 0} (xs : List X) (y : X) (i : ℕ) (x : X) → slice_get xs i ≡ Some x
    → slice_get (xs ++ y ∷ []) i ≡ Some x
snoc_at [] y i x at = absurd (omega (arith, slice_get_within [] i x at))
snoc_at (z ∷ xs) y zero x at = at
snoc_at (z ∷ xs) y (suc i) x at = snoc_at xs y i x at

pub snoc_last : {X : Type 0} (xs : List X) (y : X) → slice_get (xs ++ y ∷ []) (length xs) ≡ Some y
snoc_last [] y = refl
snoc_last (z ∷ xs) y = snoc_last xs y

down_more : (knew : ℕ → List Event) (n : ℕ)
    → down knew (n + 1) ≡ record { lane = n; knew = knew n } ∷ down knew n
down_more knew n = let e : n + 1 ≡ suc n = omega arith in ap (down knew) e

blanks_more : (n : ℕ) → blanks (n + 1) ≡ (n, None) ∷ blanks n
blanks_more n = let e : n + 1 ≡ suc n = omega arith in ap blanks e

down_long : (knew : ℕ → List Event) (n : ℕ) → length (down knew n) ≡ n
down_long knew zero = refl
down_long knew (suc n) = ap suc (down_long knew n)

down_same : (knew know : ℕ → List Event) (n : ℕ) → ((i : ℕ) → i < n → knew i ≡ know i)
    → down knew n ≡ down know n
down_same knew know zero same = refl
down_same knew know (suc n) same =
    ap (λ (l : List Event). record { lane = n; knew = l } ∷ down knew n) (same n (omega arith))
    ∙ ap (λ (outs : List Out). record { lane = n; knew = know n } ∷ outs)
    (down_same knew know n (λ i less. same i (omega (arith, less))))

down_knew : (whole : List Event) (knew : ℕ → List Event) (n : ℕ)
    → all_knew whole (down knew n) ≡ down (λ _. whole) n
down_knew whole knew zero = refl
down_knew whole knew (suc n) =
    ap (λ (outs : List Out). record { lane = n; knew = whole } ∷ outs) (down_knew whole knew n)

down_all : (knew : ℕ → List Event) (n i : ℕ) → i < n → 1 ≤ times_out i (down knew n)
down_all knew zero i below = absurd (omega (arith, below))
down_all knew (suc n) i below = by (decided i n) (down_all knew n i)
  where
    by : Same i n → (i < n → 1 ≤ times_out i (down knew n)) → 1 ≤ times_out i (down knew (suc n))
    by (inl (is, _)) before =
        subst (λ k. 1 ≤ times_out k (down knew (suc n))) (sym is)
        (let e = times_here (record { lane = n; knew = knew n }) (down knew n) in omega (arith, e))
    by (inr (other, differ)) before =
        let less : i < n = omega (arith, other, below) in
        let e = times_else i (record { lane = n; knew = knew n }) (down knew n) differ in
        let old = before less in
        omega (arith, e, old)

down_has : (knew : ℕ → List Event) (n : ℕ) (out : Out) → Has out (down knew n)
    → (out.lane < n) × (out.knew ≡ knew out.lane)
down_has knew zero out has = absurd has
down_has knew (suc n) out (inl is) = (
  let e = ap (λ (o : Out). o.lane) is in omega (arith, e),
  sym (ap (λ (o : Out). o.knew) is) ∙ ap knew (ap (λ (o : Out). o.lane) is),
)
down_has knew (suc n) out (inr has) =
    let old = down_has knew n out has in (omega (arith, old.0), old.1)

-- ---- a handle is gathered

pub gathered :
    (lane : ℕ) (before after : Me (Option HandleOf) LaneView) (handles : List HandleOf)
    (handle : HandleOf) (new : Me (Option HandleOf) LaneView) → HoldsBelow lane before handles
    → HasTaken lane before after → after.1 ≡ (lane, Some handle) ∷ rest after.1
    → new ≡ (after.0, (lane, None) ∷ rest after.1)
    → HoldsBelow (lane + 1) new (handles ++ handle ∷ [])
gathered lane before after handles handle new holds taken found is = record {
  knew = with_current holds.knew lane taken.knew;
  epoch = taken.epoch;
  outs = ap (λ (m : Me (Option HandleOf) LaneView). m.0.outs) is
      ∙ (taken.outs ∙ ap (λ (outs : List Out). record { lane = lane; knew = taken.knew } ∷ outs)
      (holds.outs ∙ down_same holds.knew (with_current holds.knew lane taken.knew) lane
      (λ i less. sym (with-else holds.knew lane i taken.knew
      (λ same. absurd (omega (arith, same, less)))))))
      ∙ ap (λ (l : List Event). record { lane = lane; knew = l } ∷ down
      (with_current holds.knew lane taken.knew) lane)
      (sym (with-here holds.knew lane taken.knew))
      ∙ sym (down_more (with_current holds.knew lane taken.knew) lane);
  slots = ap (λ (m : Me (Option HandleOf) LaneView). m.1) is
      ∙ (ap (λ l. (lane, None) ∷ l) (ap rest taken.slots ∙ holds.slots) ∙ sym (blanks_more lane));
  begun = λ _. (
    ap (λ (m : Me (Option HandleOf) LaneView). m.0.filled) is ∙ taken.begun.0,
    ap (λ (m : Me (Option HandleOf) LaneView). m.0.past) is ∙ taken.begun.1,
  );
  held = record {
    count = omega (arith, length-append handles (handle ∷ []), holds.held.count);
    each = each;
  };
  mine = mine;
}
  where
    knew : ℕ → List Event
    knew = with_current holds.knew lane taken.knew

    view : new.0 ≡ after.0
    view = ap (λ (m : Me (Option HandleOf) LaneView). m.0) is

    same : taken.handle ≡ handle
    same = taken-is lane before after taken (Some handle) handle found refl

    seen-is : new.0.seen ≡ before.0.seen
    seen-is = ap (λ (v : LaneView). v.seen) view ∙ taken.guest.1

    guest-is : new.0.guest ≡ before.0.guest
    guest-is = ap (λ (v : LaneView). v.guest) view ∙ taken.guest.0

    mine :
        (i : ℕ) → i < lane + 1 → new.0.guest ≡ Some i
        → IsCurrent i new.0.seen (with_current holds.knew lane taken.knew i)
    mine i less own = by (decided i lane)
      where
        by : Same i lane → IsCurrent i new.0.seen (with_current holds.knew lane taken.knew i)
        by (inl (is-here, _)) =
            subst (λ k. IsCurrent k new.0.seen (with_current holds.knew lane taken.knew k))
            (sym is-here)
            (subst (λ (l : List Event). IsCurrent lane new.0.seen l)
            (sym (with-here holds.knew lane taken.knew))
            (subst (λ (l : List Event). IsCurrent lane l taken.knew) (sym seen-is)
            (taken.mine (sym guest-is ∙ own ∙ ap Some is-here))))
        by (inr (other, _)) =
            subst (λ (l : List Event). IsCurrent i new.0.seen l)
            (sym (with-else holds.knew lane i taken.knew other))
            (subst (λ (l : List Event). IsCurrent i l (holds.knew i)) (sym seen-is)
            (holds.mine i (omega (arith, less, other)) (sym guest-is ∙ own)))

    Goal : ℕ → HandleOf → Type 0
    Goal i h = IsLane new.0.map i h × KnowsIn new.0.filled new.0.past h.seat
        (with_current holds.knew lane taken.knew i)

    each : (i : ℕ) (h : HandleOf) → slice_get (handles ++ handle ∷ []) i ≡ Some h → Goal i h
    each i h at = by (snoc_cases handles handle i h at)
      where
        by : (slice_get handles i ≡ Some h) ⊎ ((i ≡ length handles) × (handle ≡ h)) → Goal i h
        by (inl old) =
            let one = holds.held.each i h old in
            let below = slice_get_within handles i h old in
            let some-lane : before.0.outs ≢ [] = λ none-held. absurd (omega (
              arith,
              below,
              holds.held.count,
              ap length (sym holds.outs ∙ none-held),
              down_long holds.knew lane,
            )) in
            let base = taken.same some-lane in
            let elsewhere : i ≢ lane =
            λ at-lane. absurd (omega (arith, at-lane, below, holds.held.count)) in (
              record {
                map = one.0.map ∙ sym base.0 ∙ sym (ap (λ (v : LaneView). v.map) view);
                number = one.0.number;
                alone = one.0.alone;
              },
              subst (KnowsIn new.0.filled new.0.past h.seat)
                  (sym (with-else holds.knew lane i taken.knew elsewhere))
                  (subst (λ (f : List Event). KnowsIn f new.0.past h.seat (holds.knew i))
                  (sym base.1 ∙ sym (ap (λ (v : LaneView). v.filled) view))
                  (subst (λ (l : List Event). KnowsIn before.0.filled l h.seat (holds.knew i))
                  (sym base.2 ∙ sym (ap (λ (v : LaneView). v.past) view)) one.1)),
            )
        by (inr (is-last, is-handle)) =
            let to : taken.handle ≡ h = same ∙ is-handle in
            let here : i ≡ lane = omega (arith, is-last, holds.held.count) in
            subst (λ n. Goal n h) (sym here)
            (subst (Goal lane) to (
              record {
                map = taken.one.map ∙ sym (ap (λ (v : LaneView). v.map) view);
                number = taken.one.number;
                alone = taken.one.alone;
              },
              subst (KnowsIn new.0.filled new.0.past taken.handle.seat)
                  (sym (with-here holds.knew lane taken.knew))
                  (subst (λ (v : LaneView). KnowsIn v.filled v.past taken.handle.seat taken.knew)
                  (sym view) taken.knows),
            ))

-- a handle is gathered by the lane's guest, whose place the token has
module _
    (lane : ℕ) (before mid after new : Me (Option HandleOf) LaneView)
    (guest : Me (Option HandleOf) LaneView)
    (handles : List HandleOf) (handle : HandleOf) (idle : IsIdleGuest lane guest)
    (became : mid ≡ (as_guest before.0 guest.0, before.1)) (taken : HasTaken lane mid after)
    (found : after.1 ≡ (lane, Some handle) ∷ rest after.1)
    (is : new ≡ (after.0, (lane, None) ∷ rest after.1))
    (holds : HoldsBelow lane before handles) where
  -- in the guest's place it holds what it held
  abbrev held-by : HoldsBelow lane (as_guest before.0 guest.0, before.1) handles
  held-by = record {
    knew = holds.knew;
    epoch = holds.epoch;
    outs = holds.outs;
    slots = holds.slots;
    begun = holds.begun;
    held = holds.held;
    mine = λ i less own. absurd (omega (arith, less, some-is i lane (sym own ∙ idle.guest)));
  }

  taken-so : HasTaken lane (as_guest before.0 guest.0, before.1) after
  taken-so = subst (λ m. HasTaken lane m after) became taken

  pub gathered-from : HasGathered lane guest.0.seen holds.knew new (handles ++ handle ∷ [])
  unfolding gathered
  gathered-from = record {
    holds = gathered lane (as_guest before.0 guest.0, before.1) after handles handle new held-by
        taken-so found is;
    here = subst (IsCurrent lane guest.0.seen) (sym (with-here holds.knew lane taken-so.knew))
        (taken-so.mine idle.guest);
    below = λ i less.
        with-else holds.knew lane i taken-so.knew (λ same. absurd (omega (arith, same, less)));
  }

-- ---- a handle is dealt

-- a vector's last handle, and the others
popped :
    (lane : ℕ) (m : MapOf) (filled past : List Event) (know : ℕ → List Event)
    (handles before : List HandleOf) (handle : HandleOf) → before ≡ handles ++ handle ∷ []
    → AreHeld m filled past (lane + 1) know before
    → AreHeld m filled past lane know handles
    × (IsLane m lane handle × KnowsIn filled past handle.seat (know lane))
popped lane m filled past know handles before handle is held =
    let long = length-append handles (handle ∷ []) in
    let count : length handles ≡ lane = omega (arith, long, ap length is, held.count) in
    let at-last : slice_get before lane ≡ Some handle =
    ap (λ xs. slice_get xs lane) is
    ∙ subst (λ n. slice_get (handles ++ handle ∷ []) n ≡ Some handle) count
    (snoc_last handles handle) in (
      record {
        count = count;
        each = λ i h at. held.each i h (ap (λ xs. slice_get xs i) is
            ∙ snoc_at handles handle i h at);
      },
      held.each lane handle at-last,
    )

pub slot_is :
    (lane : ℕ) (me : Me (Option HandleOf) LaneView) → me.1 ≡ blanks (lane + 1)
    → me.1 ≡ (lane, None) ∷ rest me.1
slot_is lane me slots =
    let e : me.1 ≡ (lane, None) ∷ blanks lane = slots ∙ blanks_more lane in
    e ∙ ap (λ l. (lane, None) ∷ l) (sym (ap rest e))

module _
    (lane : ℕ) (me new after : Me (Option HandleOf) LaneView) (handles before : List HandleOf)
    (handle : HandleOf) (popped-is : before ≡ handles ++ handle ∷ [])
    (is : new ≡ (me.0, (lane, Some handle) ∷ rest me.1)) where
  pub new-view : new.0 ≡ me.0
  new-view = ap (λ (m : Me (Option HandleOf) LaneView). m.0) is

  pub new-slot : new.1 ≡ (lane, Some handle) ∷ rest new.1
  new-slot =
      let e = ap (λ (m : Me (Option HandleOf) LaneView). m.1) is in
      e ∙ ap (λ l. (lane, Some handle) ∷ l) (sym (ap rest e))

  outs-is : (knew : ℕ → List Event) → me.0.outs ≡ down knew (lane + 1)
      → new.0.outs ≡ record { lane = lane; knew = knew lane } ∷ down knew lane
  outs-is knew outs = ap (λ (v : LaneView). v.outs) new-view ∙ outs ∙ down_more knew lane

  pub slots-left : me.1 ≡ blanks (lane + 1) → after.1 ≡ rest new.1 → after.1 ≡ blanks lane
  slots-left slots left =
      left
      ∙ (ap rest (ap (λ (m : Me (Option HandleOf) LaneView). m.1) is)
      ∙ (ap rest slots ∙ ap rest (blanks_more lane)))

  module _ (knew know : ℕ → List Event) (outs : me.0.outs ≡ down knew (lane + 1))
      (held : AreHeld me.0.map me.0.filled me.0.past (lane + 1) know before) where
    pub knows-last : KnowsIn me.0.filled me.0.past handle.seat (know lane)
    knows-last =
        (popped lane me.0.map me.0.filled me.0.past know handles before handle popped-is held).1.1

    pub holds-last : Holds lane (knew lane) (know lane) handle new
    holds-last =
        let one = (popped lane me.0.map me.0.filled me.0.past know handles before handle popped-is
        held).1 in
        record {
          outs = down knew lane;
          view = outs-is knew outs;
          slot = new-slot;
          one = subst (λ (v : LaneView). IsLane v.map lane handle) (sym new-view) one.0;
          knows = subst (λ (v : LaneView). KnowsIn v.filled v.past handle.seat (know lane))
              (sym new-view) one.1;
        }

    -- the others, when the view has lost the last lane alone, or seen more
    pub held-left :
        (seen : List Event) (account : Account)
        → after.0 ≡ given new.0 (rest_outs new.0.outs) seen account
        → AreHeld after.0.map after.0.filled after.0.past lane know handles
    held-left seen account gone =
        subst (λ (m : MapOf). AreHeld m after.0.filled after.0.past lane know handles)
        (sym (ap (λ (v : LaneView). v.map) gone ∙ ap (λ (v : LaneView). v.map) new-view))
        (subst (λ (f : List Event). AreHeld me.0.map f after.0.past lane know handles)
        (sym (ap (λ (v : LaneView). v.filled) gone ∙ ap (λ (v : LaneView). v.filled) new-view))
        (subst (λ (l : List Event). AreHeld me.0.map me.0.filled l lane know handles)
        (sym (ap (λ (v : LaneView). v.past) gone ∙ ap (λ (v : LaneView). v.past) new-view))
        (popped lane me.0.map me.0.filled me.0.past know handles before handle popped-is held).0))

    pub outs-left :
        (seen : List Event) (account : Account)
        → after.0 ≡ given new.0 (rest_outs new.0.outs) seen account
        → after.0.outs ≡ down knew lane
    outs-left seen account gone =
        ap (λ (v : LaneView). v.outs) gone ∙ ap rest_outs (outs-is knew outs)

  pub can-deal : CanDealBelow (lane + 1) me before → CanDeal lane new
  can-deal can = record {
    knew = can.knew lane;
    whole = can.know lane;
    handle = handle;
    holds = holds-last can.knew can.know can.outs can.held;
    current = can.current lane (omega arith);
  }

  pub dealt : CanDealBelow (lane + 1) me before → HasDealt new after
      → CanDealBelow lane after handles
  dealt can gone = record {
    knew = can.knew;
    know = can.know;
    outs = outs-left can.knew can.know can.outs can.held new.0.seen new.0.account gone.0;
    slots = slots-left can.slots gone.1;
    held = held-left can.knew can.know can.outs can.held new.0.seen new.0.account gone.0;
    current = λ i less. can.current i (omega (arith, less));
  }

  -- the guest's own handle, and another one, beside it
  pub can-give-own :
      (own : ℕ) (whole : List Entry) → CanComeHome own whole (lane + 1) me before → lane ≡ own
      → CanGive lane new
  can-give-own own whole can here = record {
    knew = can.knew lane;
    whole = can.know lane;
    handle = handle;
    holds = holds-last can.knew can.know can.outs can.held;
    guest = ap (λ (v : LaneView). v.guest) new-view ∙ can.guest ∙ ap Some (sym here);
  }

  pub can-deal-else :
      (own : ℕ) (whole : List Entry) → CanComeHome own whole (lane + 1) me before → lane ≢ own
      → CanDeal lane new
  can-deal-else own whole can other = record {
    knew = can.knew lane;
    whole = can.know lane;
    handle = handle;
    holds = holds-last can.knew can.know can.outs can.held;
    current = can.current lane (omega arith) other;
  }

  pub come-own :
      (own : ℕ) (whole : List Entry) → CanComeHome own whole (lane + 1) me before → lane ≡ own
      → HasGiven new after → CanComeHome own whole lane after handles
  come-own own whole can here gone =
      let seen = known_in new.0 new.1 in
      record {
        knew = can.knew;
        know = can.know;
        outs = outs-left can.knew can.know can.outs can.held seen (account_in new.1 new.0.account)
            gone.0;
        slots = slots-left can.slots gone.1;
        held = held-left can.knew can.know can.outs can.held seen (account_in new.1 new.0.account)
            gone.0;
        current = λ i less. can.current i (omega (arith, less));
        guest = ap (λ (v : LaneView). v.guest) gone.0 ∙ ap (λ (v : LaneView). v.guest) new-view
            ∙ can.guest;
        due = λ less. absurd (omega (arith, less, here));
        seen = λ _.
            ap (λ (v : LaneView). log_of v.seen) gone.0
            ∙ ap (λ (slots : List (ℕ × Option HandleOf)). log_of (known_in new.0 slots)) new-slot
            ∙ ap (λ (v : LaneView). log_of (known_of v.filled v.past handle.seat)) new-view
            ∙ (known-of me.0.filled me.0.past handle.seat (can.know lane)
            (knows-last can.knew can.know can.outs can.held)).0
            ∙ ap (λ k. log_of (can.know k)) here ∙ can.due (omega (arith, here));
      }

  pub come-else :
      (own : ℕ) (whole : List Entry) → CanComeHome own whole (lane + 1) me before → lane ≢ own
      → HasDealt new after → CanComeHome own whole lane after handles
  come-else own whole can other gone = record {
    knew = can.knew;
    know = can.know;
    outs = outs-left can.knew can.know can.outs can.held new.0.seen new.0.account gone.0;
    slots = slots-left can.slots gone.1;
    held = held-left can.knew can.know can.outs can.held new.0.seen new.0.account gone.0;
    current = λ i less. can.current i (omega (arith, less));
    guest = ap (λ (v : LaneView). v.guest) gone.0 ∙ ap (λ (v : LaneView). v.guest) new-view
        ∙ can.guest;
    due = λ less. can.due (omega (arith, less));
    seen = λ more.
        ap (λ (v : LaneView). log_of v.seen) gone.0 ∙ ap (λ (v : LaneView). log_of v.seen) new-view
        ∙ can.seen (omega (arith, more, other));
  }

  pub can-renew :
      (p : Opened) → lane + 1 ≡ p.seats → CanDealAnew p.keys (lane + 1) me before
      → CanRenew p lane new
  can-renew p last can =
      let one = (popped lane can.anew.shared can.anew.next.filled can.anew.next.past
      (λ _. can.anew.next.past) handles before handle popped-is can.anew.held).1 in
      let outs : new.0.outs ≡ down can.knew (lane + 1) = ap (λ (v : LaneView). v.outs) new-view
      ∙ can.outs in
      record {
        knew = can.knew lane;
        handle = handle;
        next = can.anew.next;
        holds = record {
          outs = down can.knew lane;
          view = outs-is can.knew can.outs;
          slot = new-slot;
          number = one.0.number;
          alone = one.0.alone;
          fits = ap (λ (m : MapOf). m.chain.shape.seats) one.0.map ∙ can.anew.fits ∙ last;
          room = subst (λ (known : MapOf). IsKnownOrHasSlots p.keys known handle.map)
              (sym (ap (λ (v : LaneView). v.map) new-view))
              (subst (IsKnownOrHasSlots p.keys me.0.map) (sym one.0.map) can.room);
          made = subst (λ n. All (IsOfGuest n) (log_of can.anew.next.past)) last can.anew.made;
          knows = one.1;
          all = λ i below. subst (λ (outs : List Out). 1 ≤ times_out i outs) (sym outs)
              (down_all can.knew (lane + 1) i (omega (arith, below, last)));
          met = λ out has.
              let is-out = down_has can.knew (lane + 1) out (subst (Has out) outs has) in
              subst (λ (l : List Event). HasGoneOnBy out.lane (log_of l)
              (log_of can.anew.next.past) [])
              (sym is-out.1) (can.anew.met out.lane is-out.0);
        };
      }

  -- the account, when the last handle has gone home: by its guest, by another, or first of a new map
  pub given-account : HasGiven new after → after.0.account ≡ gave handle me.0.account
  given-account gone =
      ap (λ (v : LaneView). v.account) gone.0
      ∙ ap (λ (slots : List (ℕ × Option HandleOf)). account_in slots new.0.account) new-slot
      ∙ ap (λ (v : LaneView). gave handle v.account) new-view

  pub dealt-account : HasDealt new after → after.0.account ≡ me.0.account
  dealt-account gone =
      ap (λ (v : LaneView). v.account) gone.0 ∙ ap (λ (v : LaneView). v.account) new-view

  pub begun-account : HasBegunAnew new after → after.0.account ≡ began handle me.0.account
  begun-account gone =
      ap (λ (v : LaneView). v.account) gone.3
      ∙ ap (λ (slots : List (ℕ × Option HandleOf)). begun_in slots new.0.account) new-slot
      ∙ ap (λ (v : LaneView). began handle v.account) new-view

  pub begun-map :
      (keys : ℕ) (can : CanDealAnew keys (lane + 1) me before) → HasBegunAnew new after
      → after.0.map ≡ can.anew.shared
  begun-map keys can gone =
      let both = popped lane can.anew.shared can.anew.next.filled can.anew.next.past
      (λ _. can.anew.next.past) handles before handle popped-is can.anew.held in
      ap (λ (v : LaneView). v.map) gone.3 ∙ ap (map_in new.0.map) new-slot ∙ both.1.0.map

  pub begun :
      (keys : ℕ) → CanDealAnew keys (lane + 1) me before → HasBegunAnew new after → CanDealBelow lane after handles
  begun keys can gone =
      let next = gone.0 in
      let both = popped lane can.anew.shared can.anew.next.filled can.anew.next.past
      (λ _. can.anew.next.past) handles before handle popped-is can.anew.held in
      let same : log handle.seat ≡ log_of next.filled =
      ap log_in (sym new-slot) ∙ gone.1 in
      let map : after.0.map ≡ can.anew.shared =
      ap (λ (v : LaneView). v.map) gone.3 ∙ ap (map_in new.0.map) new-slot ∙ both.1.0.map in
      let filled : after.0.filled ≡ next.filled = ap (λ (v : LaneView). v.filled) gone.3 in
      let past : after.0.past ≡ next.past = ap (λ (v : LaneView). v.past) gone.3 in
      record {
        knew = λ _. next.past;
        know = λ _. next.past;
        outs = ap (λ (v : LaneView). v.outs) gone.3
            ∙ ap (λ (outs : List Out). all_knew next.past (rest_outs outs))
            (outs-is can.knew can.outs)
            ∙ down_knew next.past can.knew lane;
        slots = slots-left can.slots gone.4;
        held = record {
          count = both.0.count;
          each = λ i h at.
              let one = both.0.each i h at in (
                record { map = one.0.map ∙ sym map; number = one.0.number; alone = one.0.alone },
                record {
                  later = [];
                  here = anew-log can.anew.next h.seat one.1
                      ∙ sym (anew-log can.anew.next handle.seat both.1.1) ∙ same
                      ∙ sym (ap log_of filled);
                  is = sym (ap log_of past);
                  replayed = next.replayed;
                },
              );
        };
        current = λ i less. current_here i next.past next.replayed;
      }

-- ---- at the beginning, and at the end

pub holds-none :
    (me : Me (Option HandleOf) LaneView) (handles : List HandleOf) → handles ≡ [] → IsIdleToken me
    → HoldsBelow 0 me handles
holds-none me handles none idle = record {
  knew = λ _. [];
  epoch = record { filled = []; past = []; replayed = tt; same = refl };
  outs = idle.outs;
  slots = idle.slots;
  begun = λ some. absurd (omega (arith, some));
  held = record {
    count = ap length none;
    each = λ i h at. absurd (omega (arith, slice_get_within handles i h at, ap length none));
  };
  mine = λ i less own. absurd (omega (arith, less));
}

-- handles that have called nothing can be dealt
pub as-held :
    (n : ℕ) (me : Me (Option HandleOf) LaneView) (handles : List HandleOf) → HoldsBelow n me handles
    → CanDealBelow (length handles) me handles
as-held n me handles holds =
    subst (λ k. CanDealBelow k me handles) (sym holds.held.count) (record {
      knew = holds.knew;
      know = holds.knew;
      outs = holds.outs;
      slots = holds.slots;
      held = holds.held;
      current = λ i below.
          let one = there_is handles i (omega (arith, below, holds.held.count)) in
          current_here i (holds.knew i) (holds.held.each i one.0 one.1).1.replayed;
    })

pub dealt-all :
    (n : ℕ) (me : Me (Option HandleOf) LaneView) (handles : List HandleOf) → n ≡ 0
    → CanDealBelow n me handles → IsIdleToken me
dealt-all n me handles none can = record {
  outs = can.outs ∙ ap (down can.knew) none;
  slots = can.slots ∙ ap blanks none;
}

pub done_ok : {A B P Q : Type 0} (result : Result A B) → (P → Q) → IfOk result (λ x. P)
    → OnOk result Q
done_ok (Ok x) holds is = holds is
done_ok (Err fault) holds is = tt

-- ---- all handles are made one

-- they have called nothing since they were gathered
pub held-still :
    (n : ℕ) (me : Me (Option HandleOf) LaneView) (handles : List HandleOf) → HoldsBelow n me handles
    → HoldsStill n me handles
held-still n me handles holds = record {
  knew = holds.knew;
  epoch = holds.epoch;
  outs = holds.outs;
  slots = holds.slots;
  begun = holds.begun;
  still = record {
    know = holds.knew;
    held = holds.held;
    gone = λ i below.
        let one = there_is handles i (omega (arith, below, holds.held.count)) in
        record {
          later = [];
          grown = refl;
          replayed = (holds.held.each i one.0 one.1).1.replayed;
          own = refl;
        };
  };
  mine = holds.mine;
}

pub held-knew :
    (n : ℕ) (me : Me (Option HandleOf) LaneView) (handles : List HandleOf)
    (holds : HoldsBelow n me handles)
    → (held-still n me handles holds).knew ≡ holds.knew
unfolding held-still
held-knew n me handles holds = refl

-- so they can be dealt
pub still-dealt :
    (n : ℕ) (me : Me (Option HandleOf) LaneView) (handles : List HandleOf) → HoldsStill n me handles
    → CanDealBelow (length handles) me handles
still-dealt n me handles holds =
    subst (λ k. CanDealBelow k me handles) (sym holds.still.held.count) (record {
      knew = holds.knew;
      know = holds.still.know;
      outs = holds.outs;
      slots = holds.slots;
      held = holds.still.held;
      current = holds.still.gone;
    })

pub all-single :
    (n : ℕ) (m : MapOf) (filled past : List Event) (know : ℕ → List Event) (handles : List HandleOf)
    → 1 ≤ n → n ≤ 256 → AreHeld m filled past n know handles → AreSingle handles
all-single n m filled past know handles some few held = record {
  shared = m;
  each = all-from (IsSingle m) handles (λ i h at.
      let one = (held.each i h at).0 in
      record { map = one.map; alone = one.alone });
  some = omega (arith, some, held.count);
  few = omega (arith, few, held.count);
}

pub single-map :
    (n : ℕ) (m : MapOf) (filled past : List Event) (know : ℕ → List Event) (handles : List HandleOf)
    (some : 1 ≤ n) (few : n ≤ 256) (held : AreHeld m filled past n know handles)
    → (all-single n m filled past know handles some few held).shared ≡ m
unfolding all-single
single-map n m filled past know handles some few held = refl

-- the same of what a token holds
abbrev pub still-single :
    (n : ℕ) (me : Me (Option HandleOf) LaneView) (handles : List HandleOf) → 1 ≤ n → n ≤ 256
    → HoldsStill n me handles → AreSingle handles
still-single n me handles some few holds =
    all-single n me.0.map me.0.filled me.0.past holds.still.know handles some few holds.still.held

-- a map that was made anew has the slots of its shape, and one that was not is the same
has-room :
    (result : Result ⊤ OutOfMemory) (keys : ℕ) (p : Plan) (known m : MapOf) → HasSlots keys p
    → IfOk result (λ done. m.chain.shape ≡ p) → IfErr result (λ fault. m ≡ known)
    → IsKnownOrHasSlots keys known m
has-room (Ok done) keys p known m room shape same = inr (subst (HasSlots keys) (sym shape) room)
has-room (Err fault) keys p known m room shape same = inl same

module _
    (p : Plan) (me : Me (Option HandleOf) LaneView) (before after : List HandleOf)
    (some : 1 ≤ p.seats)
    (few : p.seats ≤ 256) (seated : FitsLanes p.seats me.0) (holds : HoldsStill p.seats me before)
    (settled : KnowOneLog before) (keys : ℕ) (room : HasSlots keys p) where
  -- what a renewal makes of them
  pub deals :
      (result : Result ⊤ OutOfMemory) → IsPartedAnew p before after result
      → (length after ≡ p.seats)
      × ((can : CanDealAnew keys (length after) me after)
      × IfOk result (λ done. can.anew.shared.chain.shape ≡ p)
      × IfErr result (λ fault. can.anew.shared ≡ me.0.map))
  deals result is =
      let count = anew.0.held.count in (
        count,
        subst (λ n. (can : CanDealAnew keys n me after)
            × IfOk result (λ done. can.anew.shared.chain.shape ≡ p)
            × IfErr result (λ fault. can.anew.shared ≡ me.0.map))
            (sym count) (
              record {
                knew = holds.knew;
                outs = holds.outs;
                slots = holds.slots;
                anew = record {
                  shared = anew.0.shared;
                  next = anew.0.next;
                  fits = anew.0.fits;
                  made = anew.0.made;
                  held = anew.0.held;
                  met = λ i below.
                      goes_on i (log_of (holds.knew i)) (log_of (holds.still.know i))
                      (log_of anew.0.next.past) [] [] (holds.still.gone i below)
                      (anew.0.met i below);
                };
                room = has-room result keys p me.0.map anew.0.shared room anew.1 anew.2;
              },
              anew.1,
              anew.2,
            ),
      )
    where
      begun : (me.0.filled ≡ holds.epoch.filled) × (me.0.past ≡ holds.epoch.past)
      begun = holds.begun (omega (arith, some))

      held : AreHeld me.0.map holds.epoch.filled holds.epoch.past p.seats holds.still.know before
      held =
          subst (λ (f : List Event). AreHeld me.0.map f holds.epoch.past p.seats holds.still.know
          before)
          begun.0
          (subst (λ (l : List Event). AreHeld me.0.map me.0.filled l p.seats holds.still.know
          before)
          begun.1 holds.still.held)

      anew : AreRenewed p me.0.map holds.still.know after result
      anew =
          renewed-all p me.0.map holds.epoch holds.still.know before after some seated.fits
          (subst (λ (l : List Event). All (IsOfGuest p.seats) (log_of l)) begun.1 seated.made) held
          settled (still-single p.seats me before some few holds) result
          (single-map p.seats me.0.map me.0.filled me.0.past holds.still.know before some few
          holds.still.held) is

-- where it was refused, the first one that goes home is of the same map
pub begun-in :
    (result : Result ⊤ OutOfMemory) (keys n : ℕ) (me : Me (Option HandleOf) LaneView)
    (handles : List HandleOf) (can : CanDealAnew keys n me handles) (a b : Account)
    → IfErr result (λ fault. can.anew.shared ≡ me.0.map) → HasBegunBy handles a b
    → OnErr result (HasBegunIn me.0.map a b)
begun-in (Ok done) keys n me handles can a b same begun = tt
begun-in (Err fault) keys n me handles can a b same begun = record {
  first = begun.first;
  map = (can.anew.held.each begun.place begun.first begun.there).0.map ∙ same;
  account = begun.account;
}

-- they are all seats of their map
pub all-of-map :
    (n : ℕ) (me : Me (Option HandleOf) LaneView) (handles : List HandleOf) → 1 ≤ n
    → FitsLanes n me.0
    → HoldsStill n me handles → (single : AreSingle handles)
    → length handles ≡ single.shared.chain.shape.seats
all-of-map n me handles some seated holds single =
    let held = holds.still.held in
    let first = there_is handles 0 (omega (arith, some, held.count)) in
    let same : me.0.map ≡ single.shared =
    sym (held.each 0 first.0 first.1).0.map
    ∙ (at-all (IsSingle single.shared) handles 0 first.0 single.each first.1).map in
    held.count ∙ sym seated.fits ∙ ap (λ (m : MapOf). m.chain.shape.seats) same
