-- A guest counts the map with all handles, and gives them back.
use Rattle.std.proofs.Common.{◌≡◌, ◌∙◌, ◌*◌, ◌<◌, ◌≤◌, ◌^◌, ℕ, List, [], Some, ap, length, refl, subst, sym, arith}
use Rattle.std.specs.FinMap as numbers
use Rattle.std.specs.Prelude.{Err, IfOk, Ok, Option, Result, max}
use Rattle.std.specs.declared.alloc.AllocError.{AllocError as OutOfMemory}
use Rattle.atomic_table.specs.Table.{Me}
use Rattle.nb_core.specs.Log.{Entry, IsReplayed, Numbers, log_of, map_of_log}
use Rattle.nb_core.specs.Meaning.{IsCrowded}
use Rattle.nb_core.specs.Plans.{Plan}
use Rattle.nb_core.specs.declared.calls.Call.{Call}
use Rattle.nb_core.specs.declared.calls.Reply.{Reply}
use Rattle.nb_core.specs.declared.events.Event.{Event}
use Rattle.nb_core.specs.declared.shapes.TheConstants.{MAX_EXPONENT}
use Rattle.nb_map.specs.Handles.{HandleOf}
use Rattle.nb_map.specs.Maps.{MapOf}
use Rattle.nb_lasting.proofs.Dealt.{single-map, still-single, there_is}
use Rattle.nb_lasting.proofs.Epochs.{goes_on}
use Rattle.nb_lasting.proofs.Renewed.{AreCountedIn, HaveTooMany, counted-still, has-room-left}
use Rattle.nb_lasting.proofs.Sharing.{current_here}
use Rattle.nb_lasting.specs.Epochs.{HasGoneOnBy}
use Rattle.nb_lasting.specs.Gathered.{IsPartedCounted}
use Rattle.nb_lasting.specs.Holding.{HasCalledIn, IsIdleGuest}
use Rattle.nb_lasting.specs.Renewal.{AreHeld, AreStill, CanComeHome, HasBegunAs, HasRoomAnew, KnowOneLog, HoldsStill, IsFullAt, blanks, down}
use Rattle.nb_lasting.specs.Visits.{HasMadeMapAnew, SharedOf, keys_known, least_anew}
use Rattle.nb_lasting.specs.declared.shared.Account.{Account}
use Rattle.nb_lasting.specs.declared.shared.LaneView.{LaneView}
use Rattle.nb_lasting.specs.Lasting.{HasSlots, shape_made_for}

-- what a token had seen before it gathered
pub called-from :
    (lane : ℕ) (before me then : LaneView) (made : List (Call × Reply)) → me.seen ≡ before.seen
    → HasCalledIn lane me then made → HasCalledIn lane before then made
called-from lane before me then made same called =
    subst (λ (l : List Event). HasGoneOnBy lane (log_of l) (log_of then.seen) made) same called

pub if-ok : {A B : Type 0} (result : Result A B) (x : A) (P : A → Type 0) → result ≡ Ok x
    → IfOk result P
    → P x
if-ok result x P is holds = subst (λ r. IfOk r P) is holds

pub ok-by : {A B : Type 0} (result : Result A B) (P : A → Type 0)
    → ((x : A) → result ≡ Ok x → P x) → IfOk result P
ok-by (Ok x) P each = each x refl
ok-by (Err refused) P each = tt

module _
    (n : ℕ) (me : Me (Option HandleOf) LaneView) (before after : List HandleOf) (some : 1 ≤ n)
    (few : n ≤ 256) (holds : HoldsStill n me before) where
  -- what a count makes of them, in the words of the token
  pub still-by :
      (result : Result ℕ OutOfMemory) → IsPartedCounted before after result
      → (still : AreStill me.0.map me.0.filled me.0.past n holds.knew after)
      × IfOk result (AreCountedIn me.0.map still.know before after)
  still-by result is =
      let begun = holds.begun (omega (arith, some)) in
      let know = holds.still.know in
      let held = holds.still.held in
      let counted : (still : AreStill me.0.map me.0.filled me.0.past n know after)
      × IfOk result (AreCountedIn me.0.map still.know before after) =
      subst (λ (f : List Event). (still : AreStill me.0.map f me.0.past n know after)
      × IfOk result (AreCountedIn me.0.map still.know before after)) (sym begun.0)
      (subst (λ (l : List Event). (still : AreStill me.0.map holds.epoch.filled l n know after)
      × IfOk result (AreCountedIn me.0.map still.know before after)) (sym begun.1)
      (counted-still n me.0.map holds.epoch know before after
      (subst (λ (f : List Event). AreHeld me.0.map f holds.epoch.past n know before) begun.0
      (subst (λ (l : List Event). AreHeld me.0.map me.0.filled l n know before) begun.1 held))
      (still-single n me before some few holds)
      (single-map n me.0.map me.0.filled me.0.past know before some few held) result is)) in (
        record {
          know = counted.0.know;
          held = counted.0.held;
          gone = λ i below.
              goes_on i (log_of (holds.knew i)) (log_of (know i)) (log_of (counted.0.know i)) [] []
              (holds.still.gone i below) (counted.0.gone i below);
        },
        counted.1,
      )

  -- the token has them still
  pub still-holds :
      AreStill me.0.map me.0.filled me.0.past n holds.knew after → HoldsStill n me after
  still-holds still = record {
    knew = holds.knew;
    epoch = holds.epoch;
    outs = holds.outs;
    slots = holds.slots;
    begun = holds.begun;
    still = still;
    mine = holds.mine;
  }

  -- so they can go home
  pub can-come-home :
      (still : AreStill me.0.map me.0.filled me.0.past n holds.knew after) (own : ℕ)
      → me.0.guest ≡ Some own → own < n
      → CanComeHome own (log_of (still.know own)) (length after) me after
  can-come-home still own guest below =
      subst (λ k. CanComeHome own (log_of (still.know own)) k me after) (sym still.held.count)
      (record {
        knew = holds.knew;
        know = still.know;
        outs = holds.outs;
        slots = holds.slots;
        held = still.held;
        current = λ i less other. still.gone i less;
        guest = guest;
        due = λ _. refl;
        seen = λ more. absurd (omega (arith, more, below));
      })

  -- and the guest has called nothing
  none-called-in :
      (still : AreStill me.0.map me.0.filled me.0.past n holds.knew after) (own : ℕ)
      → me.0.guest ≡ Some own → own < n → (then : LaneView)
      → log_of then.seen ≡ log_of (still.know own) → HasCalledIn own me.0 then []
  none-called-in still own guest below then is =
      subst (λ l. HasGoneOnBy own (log_of me.0.seen) l []) (sym is)
      (goes_on own (log_of me.0.seen) (log_of (holds.knew own)) (log_of (still.know own)) [] []
      (holds.mine own below guest) (still.gone own below))

  -- nor since it gathered them
  pub called-home :
      (still : AreStill me.0.map me.0.filled me.0.past n holds.knew after) (own : ℕ)
      → me.0.guest ≡ Some own → own < n → (old : LaneView) → me.0.seen ≡ old.seen
      → (then : LaneView)
      → ((whole : List Entry) → CanComeHome own whole (length after) me after
      → log_of then.seen ≡ whole)
      → HasCalledIn own old then []
  called-home still own guest below old same then home =
      called-from own old me.0 then [] same
      (none-called-in still own guest below then
      (home (log_of (still.know own)) (can-come-home still own guest below)))

  module _
      (result : Result ℕ OutOfMemory) (is : IsPartedCounted before after result) (size : ℕ)
      (counted : result ≡ Ok size) (own : ℕ) (guest : me.0.guest ≡ Some own) (below : own < n)
      (then : LaneView)
      (home : (whole : List Entry) → CanComeHome own whole (length after) me after
      → log_of then.seen ≡ whole) where
    counts : AreCountedIn me.0.map (still-by result is).0.know before after size
    counts =
        if-ok result size (AreCountedIn me.0.map (still-by result is).0.know before after) counted
        (still-by result is).1

    content-is :
        map_of_log (log_of then.seen) ≡ map_of_log (log_of ((still-by result is).0.know own))
    content-is =
        let still = (still-by result is).0 in
        ap map_of_log (home (log_of (still.know own)) (can-come-home still own guest below))

    -- the guest knows a map of so many keys
    pub size-home : size ≡ length (numbers.entries (map_of_log (log_of then.seen)))
    size-home =
        let first = there_is before own (omega (arith, below, holds.still.held.count)) in
        (counts.at own first.0 first.1).keys
        ∙ ap (λ (c : Numbers). length (numbers.entries c)) (sym content-is)

    -- and where they are as many as there can be, it knows it so
    pub full-home : 2 ^ MAX_EXPONENT ≤ size → IsFullAt own before (map_of_log (log_of then.seen))
    full-home great = record {
      great = subst (λ k. 2 ^ MAX_EXPONENT ≤ k) size-home great;
      absent = λ k crowded.
          ap (λ (c : Numbers). numbers.get c k) content-is
          ∙ (counts.at own crowded.0 crowded.1).absent k
          (subst (λ (m : MapOf). IsCrowded m.chain.shape crowded.0.seat.chain.seen k)
          (holds.still.held.each own crowded.0 crowded.1).0.map crowded.2);
    }

  -- a shape for twice as many has room anew
  pub room-anew :
      (result : Result ℕ OutOfMemory) (is : IsPartedCounted before after result) (size : ℕ)
      → result ≡ Ok size → (own : ℕ) → me.0.guest ≡ Some own → own < n → (keys : ℕ)
      → (least : ℕ) → keys ≡ max (2 * size) least → (then : LaneView)
      → HasSlots keys then.map.chain.shape
      → HasRoomAnew least own me.0 then
  room-anew result is size counted own guest below keys least twice then room =
      let known = still-by result is in
      let first = there_is before own (omega (arith, below, holds.still.held.count)) in
      let counts = if-ok result size
      (AreCountedIn me.0.map known.0.know before after) counted known.1 in
      record {
        whole = known.0.know own;
        current = goes_on own (log_of me.0.seen) (log_of (holds.knew own))
            (log_of (known.0.know own)) [] [] (holds.mine own below guest) (known.0.gone own below);
        room = subst (λ k. HasSlots k then.map.chain.shape)
            (twice ∙ ap (λ k. max (2 * k) least) (counts.at own first.0 first.1).keys) room;
      }

  -- so it is in the account
  pub made-anew :
      (result : Result ℕ OutOfMemory) → IsPartedCounted before after result → (size : ℕ)
      → result ≡ Ok size → (p : Plan) (keys : ℕ) (of : SharedOf) → keys ≡ max (2 * size) (least_anew of)
      → HasSlots keys p → p ≡ shape_made_for keys of.guests → (a b : Account) → HasBegunAs p after a b
      → HasMadeMapAnew of a b
  made-anew result is size counted p keys of twice room shape a b begun =
      let known = still-by result is in
      let counts = if-ok result size
      (AreCountedIn me.0.map known.0.know before after) counted known.1 in
      let same : keys_known begun.first ≡ size =
      ap (λ (c : Numbers). length (numbers.entries c))
      (begun.same (record { whole = counts.whole; logs = counts.logs })) ∙ sym counts.keys in
      record {
        first = begun.first;
        account = begun.account;
        room = subst (HasSlots (max (2 * keys_known begun.first) (least_anew of))) (sym begun.shape)
            (subst (λ k. HasSlots k p) (twice ∙ ap (λ k. max (2 * k) (least_anew of)) (sym same)) room);
        shape = begun.shape ∙ shape
            ∙ ap (λ k. shape_made_for k of.guests)
            (twice ∙ ap (λ k. max (2 * k) (least_anew of)) (sym same));
        claimed = begun.claimed;
      }

  -- all have one log
  pub one-log :
      (result : Result ℕ OutOfMemory) → IsPartedCounted before after result → (size : ℕ)
      → result ≡ Ok size → KnowOneLog after
  one-log result is size counted =
      let known = still-by result is in
      let counts = if-ok result size
      (AreCountedIn me.0.map known.0.know before after) counted known.1 in
      record { whole = counts.whole; logs = counts.logs }

  -- else a new map has room
  pub room-left :
      (result : Result ℕ OutOfMemory) (is : IsPartedCounted before after result) (size : ℕ)
      → result ≡ Ok size → (p : Plan) (keys : ℕ) → size < 2 ^ MAX_EXPONENT → size ≤ keys
      → HasSlots keys p → HaveTooMany p after → ⊥
  room-left result is size counted p keys less fewer room many =
      let known = still-by result is in
      has-room-left p n me.0.map me.0.filled me.0.past known.0.know known.0.know before after size
      keys
      some known.0.held
      (if-ok result size (AreCountedIn me.0.map known.0.know before after) counted known.1) less
      fewer
      room many

-- all are home
pub home-all :
    (own n : ℕ) (whole : List Entry) (me : Me (Option HandleOf) LaneView) (handles : List HandleOf)
    → n ≡ 0 → CanComeHome own whole n me handles
    → IsIdleGuest own me × (log_of me.0.seen ≡ whole)
home-all own n whole me handles none can = (
  record {
    guest = can.guest;
    outs = can.outs ∙ ap (down can.knew) none;
    slots = can.slots ∙ ap blanks none;
  },
  can.seen (omega (arith, none)),
)

-- a guest that has seen nothing more
pub nothing-seen :
    (lane : ℕ) (before after : LaneView) → after.seen ≡ before.seen
    → IsReplayed (log_of before.seen)
    → HasCalledIn lane before after []
nothing-seen lane before after same replayed =
    subst (λ (l : List Event). HasGoneOnBy lane (log_of before.seen) (log_of l) []) (sym same)
    (current_here lane before.seen replayed)

-- a token that has done nothing
pub nothing-called :
    (lane : ℕ) (before after : Me (Option HandleOf) LaneView) → after ≡ before
    → IsReplayed (log_of before.0.seen) → HasCalledIn lane before.0 after.0 []
nothing-called lane before after same replayed =
    subst (λ (me : Me (Option HandleOf) LaneView). HasCalledIn lane before.0 me.0 []) (sym same)
    (current_here lane before.0.seen replayed)
