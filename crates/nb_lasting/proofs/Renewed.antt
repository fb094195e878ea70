-- What a renewal makes of the handles of all lanes, and a count.
use Rattle.std.proofs.Common.{◌≡◌, ◌∙◌, ◌++◌, ◌<◌, ◌≤◌, ◌^◌, ℕ, cond, zero, suc, List, [], ◌∷◌, All, Some, ap, inl, inr, length, map, refl, slice_get, subst, sym, arith}
use Rattle.std.specs.FinMap as numbers
use Rattle.std.specs.List.{AllZip, range_with_len}
use Rattle.std.specs.Prelude.{◌-◌, Err, IfErr, IfOk, None, Ok, OnOk, Option, Result, ⊤, get_or, option_map, unwrap_or}
use Rattle.std.proofs.lemmas.Bool.{eq-eqb}
use Rattle.std.proofs.lemmas.List.{append_cancel_right, length-map}
use Rattle.std.proofs.lemmas.List.Elements.{All-append, All-cons, All-head, All-nil, All-tail}
use Rattle.std.proofs.lemmas.List.FromFn.{get_or-range_with_len, length-range_with_len}
use Rattle.std.proofs.lemmas.Option.{get_or_from_slice_get, slice_get-get_or, slice_get-map, slice_get_within}
use Rattle.std.specs.declared.alloc.AllocError.{AllocError as OutOfMemory}
use Rattle.nb_core.proofs.Seating.{All-left}
use Rattle.nb_core.proofs.Theorems.{stays}
use Rattle.nb_core.specs.History.{IsLegal}
use Rattle.nb_core.specs.Log.{Entry, IsReplayed, calls_of, log_of, map_of_log}
use Rattle.nb_core.specs.Meaning.{IsCrowded}
use Rattle.nb_core.specs.Plans.{IsPlan, Plan, generations_of}
use Rattle.nb_core.specs.declared.calls.Call.{Call}
use Rattle.nb_core.specs.declared.calls.Reply.{Reply}
use Rattle.nb_core.specs.declared.events.Event.{Event}
use Rattle.nb_core.specs.declared.shapes.TheConstants.{MAX_EXPONENT}
use Rattle.nb_table.specs.Chains.{SeenBy}
use Rattle.nb_table.specs.Views.{HasSeen}
use Rattle.nb_map.specs.Bulk.{put_entry}
use Rattle.nb_map.specs.Crowding.{HasAskedFor}
use Rattle.nb_map.specs.Ending.{EndedOf, EndedWith, HasAll, log_left, map_left}
use Rattle.nb_map.specs.Handles.{HandleOf, IsSameMap, handle_on, seats_of}
use Rattle.nb_map.specs.Logs.{HasLogged, log}
use Rattle.nb_map.specs.Maps.{MapOf, SeatOf, new_seat, new_seats}
use Rattle.nb_map.specs.Renewing.{HasRenewed, HasTooMany}
use Rattle.nb_map.specs.Settling.{HasCaughtUp}
use Rattle.nb_lasting.proofs.Calling.{crowded-away, known-then}
use Rattle.nb_lasting.proofs.Epochs.{leaves, one_log_for_all}
use Rattle.nb_lasting.proofs.Sharing.{log-as-events}
use Rattle.nb_lasting.specs.Epochs.{AllKnow, EpochOf, HasGoneOnBy, HaveMetIn, IsOfEpoch, Knows}
use Rattle.nb_lasting.specs.Gathered.{AreSingle, IsPartedCounted, IsRested, IsSingle, parts_of, seats_of_each}
use Rattle.nb_lasting.specs.Lasting.{HasSlots}
use Rattle.nb_lasting.specs.Renewal.{AreAnew, AreHeld, AreStill, HasBegunAs, HasBegunBy}
use Rattle.nb_lasting.specs.Shared.{EpochIn, IsLane, IsOfGuest, KnowsIn, as_events, known_of}
use Rattle.nb_lasting.specs.Visits.{HasClaimedForItsKeys}
use Rattle.nb_lasting.specs.declared.shared.Account.{Account}

-- ---- lists by index

pub some-same : {X : Type 0} (x y : X) → ◌≡◌ {A = Option X} (Some x) (Some y) → x ≡ y
some-same x y is = ap (λ o. unwrap_or o x) is

pub at-all : {X : Type 0} (P : X → Type 0) (xs : List X) (i : ℕ) (x : X) → All P xs
    → slice_get xs i ≡ Some x → P x
at-all P [] i x all at = absurd (omega (arith, slice_get_within [] i x at))
at-all P (y ∷ ys) zero x all at = subst P (some-same y x at) (All-head P y ys all)
at-all P (y ∷ ys) (suc i) x all at = at-all P ys i x (All-tail P y ys all) at

pub all-from : {X : Type 0} (P : X → Type 0) (xs : List X)
    → ((i : ℕ) (x : X) → slice_get xs i ≡ Some x → P x)
    → All P xs
all-from P [] each = All-nil P
all-from P (x ∷ xs) each =
    All-cons P x xs (each 0 x refl) (all-from P xs (λ i y at. each (suc i) y at))

pub zip-at : {X : Type 0} (P : X → X → Type 0) (xs ys : List X) (i : ℕ) (y : X) → AllZip P xs ys
    → slice_get ys i ≡ Some y
    → (x : X) × (slice_get xs i ≡ Some x) × P x y
zip-at P [] [] i y all at = absurd (omega (arith, slice_get_within [] i y at))
zip-at P [] (z ∷ ys) i y all at = absurd all
zip-at P (x ∷ xs) [] i y all at = absurd all
zip-at P (x ∷ xs) (z ∷ ys) zero y all at = (x, refl, subst (P x) (some-same z y at) all.0)
zip-at P (x ∷ xs) (z ∷ ys) (suc i) y all at = zip-at P xs ys i y all.1 at

-- a handle's seat, and a seat's handle
pub seat-at : (handles : List HandleOf) (i : ℕ) (h : HandleOf) → slice_get handles i ≡ Some h
    → slice_get (seats_of_each handles) i ≡ Some h.seat
seat-at [] i h at = absurd (omega (arith, slice_get_within [] i h at))
seat-at (x ∷ xs) zero h at = ap (λ (x : HandleOf). Some x.seat) (some-same x h at)
seat-at (x ∷ xs) (suc i) h at = seat-at xs i h at

pub handle-at : (handles : List HandleOf) (i : ℕ) (s : SeatOf)
    → slice_get (seats_of_each handles) i ≡ Some s
    → (h : HandleOf) × (slice_get handles i ≡ Some h) × (h.seat ≡ s)
handle-at [] i s at = absurd (omega (arith, slice_get_within [] i s at))
handle-at (x ∷ xs) zero s at = (x, refl, some-same x.seat s at)
handle-at (x ∷ xs) (suc i) s at = handle-at xs i s at

pub mapped-at : (m : MapOf) (seats : List SeatOf) (i : ℕ) (h : HandleOf)
    → slice_get (map (handle_on m) seats) i ≡ Some h
    → (s : SeatOf) × (slice_get seats i ≡ Some s) × (h ≡ handle_on m s)
mapped-at m [] i h at = absurd (omega (arith, slice_get_within [] i h at))
mapped-at m (s ∷ seats) zero h at = (s, refl, sym (some-same (handle_on m s) h at))
mapped-at m (s ∷ seats) (suc i) h at = mapped-at m seats i h at

-- seats that are numbered by their places
number-at :
    (seats : List SeatOf) (n i : ℕ) (s : SeatOf)
    → map (λ (seat : SeatOf). seat.chain.number) seats ≡ range_with_len 0 n
    → slice_get seats i ≡ Some s
    → s.chain.number ≡ i
number-at seats n i s numbered at =
    let here : slice_get (range_with_len 0 n) i ≡ Some s.chain.number =
    ap (λ xs. slice_get xs i) (sym numbered)
    ∙ (slice_get-map (λ (seat : SeatOf). seat.chain.number) seats i
    ∙ ap (option_map (λ (seat : SeatOf). seat.chain.number)) at) in
    let within : i < n =
    omega (arith, slice_get_within (range_with_len 0 n) i _ here, length-range_with_len 0 n) in
    let a = get_or_from_slice_get (range_with_len 0 n) i _ 0 here in
    let b = get_or-range_with_len 0 n i 0 within in
    omega (arith, a, b)

-- ---- a renewal

-- an epoch in events, as one in logs
abbrev pub logs-of : EpochIn → EpochOf
logs-of e = record {
  filled = log_of e.filled;
  past = log_of e.past;
  replayed = e.replayed;
  same = e.same;
}

pub length-each : (handles : List HandleOf) → length (seats_of_each handles) ≡ length handles
length-each handles = length-map handles (λ (h : HandleOf). h.seat)

-- all calls until a map's end are of so many lanes
pub whole-made :
    (e : EpochOf) (n : ℕ) (seats : List SeatOf) (ended : EndedOf) (whole : List Entry)
    → length seats ≡ n → All (IsOfGuest n) e.past → EndedWith seats ended
    → HaveMetIn e seats ended whole → All (IsOfGuest n) whole
whole-made e n seats ended whole many past left met =
    let all : All (IsOfGuest n) (log_left ended) =
    subst (λ k. All (IsOfGuest k) (log_left ended)) many left.made in
    subst (All (IsOfGuest n)) (sym met.is)
    (All-append (IsOfGuest n) met.later e.past
    (All-left (IsOfGuest n) met.later e.filled (subst (All (IsOfGuest n)) met.left all)) past)

-- ---- handles that were made one and parted again

-- The handles are of all seats, in order, of one that was made anew, or memory for that was refused,
-- and its seats settled; and it was parted.
pub record IsPartedAnew (p : Plan) (before after : List HandleOf) (result : Result ⊤ OutOfMemory) :
    Type 0 where
  pub joined : HandleOf
  pub whole : HandleOf
  pub one_map : (single : AreSingle before) → joined.map ≡ single.shared
  pub seats : seats_of joined ≡ seats_of_each before
  pub parted : after ≡ parts_of whole
  pub renewed : IfOk result (λ done. HasRenewed p joined whole)
  pub rested : IfErr result (λ refused. IsRested joined whole)

pub each-parted :
    (m : MapOf) (seats : List SeatOf) → seats_of_each (map (handle_on m) seats) ≡ seats
each-parted m [] = refl
each-parted m (seat ∷ seats) = ap (λ l. seat ∷ l) (each-parted m seats)

pub map-parted :
    (m : MapOf) (seats : List SeatOf) → (single : AreSingle (map (handle_on m) seats))
    → m ≡ single.shared
map-parted m [] single = absurd (let none : 1 ≤ 0 = single.some in omega (arith, none))
map-parted m (seat ∷ seats) single =
    (All-head (IsSingle single.shared) (handle_on m seat) (map (handle_on m) seats) single.each).map

-- the parts of a handle, and those of what a renewal makes of it
pub parted-anew :
    (p : Plan) (before whole : HandleOf) (after : List HandleOf) (result : Result ⊤ OutOfMemory)
    → after ≡ parts_of whole → IfOk result (λ done. HasRenewed p before whole)
    → IfErr result (λ refused. IsRested before whole)
    → IsPartedAnew p (parts_of before) after result
parted-anew p before whole after result parted renewed rested = record {
  joined = before;
  whole = whole;
  one_map = map-parted before.map (seats_of before);
  seats = sym (each-parted before.map (seats_of before));
  parted = parted;
  renewed = renewed;
  rested = rested;
}

-- the seat has made these calls, of which this holds
abbrev pub HasMade : (List (Call × Reply) → Type 0) → (old new : SeatOf) → Type 0
HasMade Q old new = (made : List (Call × Reply)) × Q made × HasLogged old new made

pub zip-weaker :
    (P Q : SeatOf → SeatOf → Type 0) → ((x y : SeatOf) → P x y → Q x y) → (xs ys : List SeatOf)
    → AllZip P xs ys → AllZip Q xs ys
zip-weaker P Q weaker [] [] all = tt
zip-weaker P Q weaker [] (y ∷ ys) all = absurd all
zip-weaker P Q weaker (x ∷ xs) [] all = absurd all
zip-weaker P Q weaker (x ∷ xs) (y ∷ ys) all = (weaker x y all.0, zip-weaker P Q weaker xs ys all.1)

pub length-zip : (P : SeatOf → SeatOf → Type 0) (xs ys : List SeatOf) → AllZip P xs ys → length xs
    ≡ length ys
length-zip P [] [] all = refl
length-zip P [] (y ∷ ys) all = absurd all
length-zip P (x ∷ xs) [] all = absurd all
length-zip P (x ∷ xs) (y ∷ ys) all = ap suc (length-zip P xs ys all.1)

-- the one log that each seat of a whole handle knows
abbrev pub knows-of : EpochIn → HandleOf → ℕ → List Event
knows-of e whole i = known_of e.filled e.past (get_or (seats_of whole) i whole.seat)

module _
    (Q : List (Call × Reply) → Type 0) (n : ℕ) (m : MapOf) (e : EpochIn) (knew : ℕ → List Event)
    (before : List HandleOf) (held : AreHeld m e.filled e.past n knew before)
    (joined whole : HandleOf)
    (one : joined.map ≡ m) (seats : seats_of joined ≡ seats_of_each before)
    (same : IsSameMap joined whole) (moved : AllZip (HasMade Q) (seats_of joined)
    (seats_of whole)) where
  pub long-after : length (seats_of whole) ≡ n
  long-after =
      sym (length-zip (HasMade Q) (seats_of joined) (seats_of whole) moved) ∙ ap length seats
      ∙ (length-each before ∙ held.count)

  after-at :
      (i : ℕ) (s : SeatOf) → slice_get (seats_of whole) i ≡ Some s
      → (s.chain.number ≡ i) × KnowsIn e.filled e.past s (knows-of e whole i)
      × ((made : List (Call × Reply)) × Q made
      × HasGoneOnBy i (log_of (knew i)) (log_of (knows-of e whole i)) made)
  after-at i s at =
      let was = zip-at (HasMade Q) (seats_of joined) (seats_of whole) i s moved at in
      let h = handle-at before i was.0 (ap (λ xs. slice_get xs i) (sym seats) ∙ was.1) in
      let each = held.each i h.0 h.1 in
      let is = was.2 in
      let number : was.0.chain.number ≡ i =
      ap (λ (x : SeatOf). x.chain.number) (sym h.2) ∙ each.0.number in
      let knows = known-then e was.0 s (knew i) is.0
      (subst (λ x. KnowsIn e.filled e.past x (knew i)) h.2 each.1) is.2 in
      let here : s ≡ get_or (seats_of whole) i whole.seat =
      sym (get_or_from_slice_get (seats_of whole) i s whole.seat at) in (
        is.2.number ∙ number,
        subst (λ x. KnowsIn e.filled e.past s (known_of e.filled e.past x)) here knows.0,
        (
          is.0,
          is.1,
          subst (λ x. HasGoneOnBy i (log_of (knew i))
              (log_of (known_of e.filled e.past x)) is.0) here
              (subst (λ k. HasGoneOnBy k (log_of (knew i))
              (log_of (known_of e.filled e.past s)) is.0)
              number knows.1),
        ),
      )

  pub seat-after : (i : ℕ) → i < n
      → slice_get (seats_of whole) i ≡ Some (get_or (seats_of whole) i whole.seat)
  seat-after i below =
      slice_get-get_or (seats_of whole) i whole.seat (omega (arith, below, long-after))

  pub held-after :
      AreHeld m e.filled e.past n (knows-of e whole) (map (handle_on whole.map) (seats_of whole))
  held-after = record {
    count = length-map (seats_of whole) (handle_on whole.map) ∙ long-after;
    each = λ i h at.
        let s = mapped-at whole.map (seats_of whole) i h at in
        let x = after-at i s.0 s.1 in (
          record {
            map = ap (λ (x : HandleOf). x.map) s.2 ∙ same ∙ one;
            number = ap (λ (x : HandleOf). x.seat.chain.number) s.2 ∙ x.0;
            alone = ap (λ (x : HandleOf). x.reserve) s.2;
          },
          subst (λ y. KnowsIn e.filled e.past y (knows-of e whole i))
              (sym (ap (λ (x : HandleOf). x.seat) s.2)) x.1,
        );
  }

  pub knows-after :
      (i : ℕ) → i < n
      → KnowsIn e.filled e.past (get_or (seats_of whole) i whole.seat) (knows-of e whole i)
  knows-after i below =
      (after-at i (get_or (seats_of whole) i whole.seat) (seat-after i below)).1

  pub gone-after :
      (i : ℕ) → i < n
      → (made : List (Call × Reply)) × Q made
      × HasGoneOnBy i (log_of (knew i)) (log_of (knows-of e whole i)) made
  gone-after i below =
      (after-at i (get_or (seats_of whole) i whole.seat) (seat-after i below)).2

-- they are as they were
pub kept-still :
    (n : ℕ) (m : MapOf) (e : EpochIn) (knew : ℕ → List Event) (before : List HandleOf)
    → AreHeld m e.filled e.past n knew before → (joined whole : HandleOf) → joined.map ≡ m
    → seats_of joined ≡ seats_of_each before → whole ≡ joined
    → AreStill m e.filled e.past n knew (map (handle_on whole.map) (seats_of whole))
kept-still n m e knew before held joined whole one seats same = record {
  know = knew;
  held = record {
    count = length-map (seats_of whole) (handle_on whole.map)
        ∙ ap (λ (h : HandleOf). length (seats_of h)) same ∙ ap length seats
        ∙ (length-each before ∙ held.count);
    each = λ i h at.
        let s = mapped-at whole.map (seats_of whole) i h at in
        let at-seat : slice_get (seats_of_each before) i ≡ Some s.0 =
        ap (λ xs. slice_get xs i) (sym (ap seats_of same ∙ seats)) ∙ s.1 in
        let was = handle-at before i s.0 at-seat in
        let each = held.each i was.0 was.1 in (
          record {
            map = ap (λ (x : HandleOf). x.map) s.2 ∙ ap (λ (x : HandleOf). x.map) same ∙ one;
            number = ap (λ (x : HandleOf). x.seat.chain.number) s.2
                ∙ ap (λ (x : SeatOf). x.chain.number) (sym was.2) ∙ each.0.number;
            alone = ap (λ (x : HandleOf). x.reserve) s.2;
          },
          subst (λ x. KnowsIn e.filled e.past x (knew i))
              (was.2 ∙ sym (ap (λ (x : HandleOf). x.seat) s.2)) each.1,
        );
  };
  gone = λ i below.
      let at : slice_get before i ≡ Some (get_or before i joined) =
      slice_get-get_or before i joined (omega (arith, below, held.count)) in
      record {
        later = [];
        grown = refl;
        replayed = (held.each i (get_or before i joined) at).1.replayed;
        own = refl;
      };
}

-- what a handle knows leaves the map that its seat's log leaves
pub seen-map :
    (e : EpochIn) (seat : SeatOf) (whole : List Event) → KnowsIn e.filled e.past seat whole
    → map_of_log (log_of whole) ≡ map_of_log (log seat)
seen-map e seat whole knows =
    ap map_of_log knows.is ∙ leaves knows.later (log_of e.past) (log_of e.filled) (sym e.same)
    ∙ sym (ap map_of_log knows.here)

-- how many keys they have, where they were counted
abbrev pub HasSize : List Event → ℕ → Type 0
HasSize whole size = size ≡ length (numbers.entries (map_of_log (log_of whole)))

-- a key that a handle finds crowded out is so for ever
crowded-still :
    (p : Plan) → IsPlan p → (later seen : List Event) → IsLegal p (later ++ seen) → (k : ℕ)
    → IsCrowded p seen k → IsCrowded p (later ++ seen) k
crowded-still p plan later seen legal k crowded i less =
    let is = crowded i less in
    let stay = stays p plan later seen legal (generations_of p - 1) i
    (omega (arith, plan.tables.0), less) in
    record {
      other = is.other;
      is = stay.key (λ empty. absurd cc) ∙ is.is;
      differs = is.differs;
    }

-- what is known of a lane's handle after a count, which had this seat before
pub record IsCountedAt (m : MapOf) (seat : SeatOf) (whole : List Event) (size : ℕ) : Type 0 where
  pub keys : HasSize whole size
  pub absent :
      (k : ℕ) → IsCrowded m.chain.shape seat.chain.seen k
      → numbers.get (map_of_log (log_of whole)) k ≡ None

-- what is known of all handles after a count
pub record AreCountedIn (m : MapOf) (know : ℕ → List Event) (before after : List HandleOf)
    (size : ℕ) : Type 0 where
  pub at : (i : ℕ) (h : HandleOf) → slice_get before i ≡ Some h → IsCountedAt m h.seat (know i) size
  pub whole : List Entry
  pub logs : (i : ℕ) (h : HandleOf) → slice_get after i ≡ Some h → log h.seat ≡ whole
  pub keys : size ≡ length (numbers.entries (map_of_log whole))
  pub made : All (IsOfGuest (length before)) whole

-- handles that were counted have called nothing, and each knows the map of so many keys
pub counted-still :
    (n : ℕ) (m : MapOf) (e : EpochIn) (knew : ℕ → List Event) (before after : List HandleOf)
    → AreHeld m e.filled e.past n knew before → (single : AreSingle before) → single.shared ≡ m
    → (result : Result ℕ OutOfMemory) → IsPartedCounted before after result
    → (still : AreStill m e.filled e.past n knew after)
    × IfOk result (AreCountedIn m still.know before after)
counted-still n m e knew before after held single one (Err fault) is = (
  subst (AreStill m e.filled e.past n knew) (sym is.parted)
      (kept-still n m e knew before held is.joined is.whole
      (is.one_map single ∙ one) is.seats is.kept),
  tt,
)
counted-still n m e knew before after held single one (Ok size) is =
    subst (λ hs. (still : AreStill m e.filled e.past n knew hs)
    × AreCountedIn m still.know before hs size) (sym is.parted) (
      record {
        know = knows-of e is.whole;
        held = held-after IsNone n m e knew before held is.joined is.whole same-map is.seats is.same
            moved;
        gone = λ i below.
            let gone = gone-after IsNone n m e knew before held is.joined is.whole same-map is.seats
            is.same moved i below in
            subst (HasGoneOnBy i (log_of (knew i)) (log_of (knows-of e is.whole i))) gone.1 gone.2;
      },
      record {
        at = at-each;
        whole = log_of is.settled.tables.history;
        logs = λ i h at.
            let s = mapped-at is.whole.map (seats_of is.whole) i h at in
            let caught = zip-at (HasCaughtUp is.joined.map (log_of is.settled.tables.history))
            (seats_of is.joined) (seats_of is.whole) i s.0 is.settled.each s.1 in
            ap (λ (x : HandleOf). log x.seat) s.2 ∙ caught.2.knows;
        keys = is.settled.keys;
        made = subst (λ k. All (IsOfGuest k) (log_of is.settled.tables.history))
            (ap length is.seats ∙ length-each before) is.settled.ended.made;
      },
    )
  where
    IsNone : List (Call × Reply) → Type 0
    IsNone made = made ≡ []

    same-map : is.joined.map ≡ m
    same-map = is.one_map single ∙ one

    history : List Event
    history = is.settled.tables.history

    moved : AllZip (HasMade IsNone) (seats_of is.joined) (seats_of is.whole)
    moved =
        zip-weaker (HasCaughtUp is.joined.map (log_of is.settled.tables.history)) (HasMade IsNone)
        (λ old new caught. ([], refl, caught.logged)) (seats_of is.joined) (seats_of is.whole)
        is.settled.each

    -- what each handle knows then leaves the map of all calls
    knows-all :
        (i : ℕ) → i < n
        → map_of_log (log_of (knows-of e is.whole i))
        ≡ map_of_log (log_of is.settled.tables.history)
    knows-all i below =
        let seat = get_or (seats_of is.whole) i is.whole.seat in
        let at = seat-after IsNone n m e knew before held is.joined is.whole same-map is.seats
        is.same
        moved i below in
        let caught = zip-at (HasCaughtUp is.joined.map (log_of is.settled.tables.history))
        (seats_of is.joined) (seats_of is.whole) i seat is.settled.each at in
        seen-map e seat (knows-of e is.whole i)
        (knows-after IsNone n m e knew before held is.joined is.whole same-map is.seats is.same
        moved
        i below)
        ∙ ap map_of_log caught.2.knows

    at-each :
        (i : ℕ) (h : HandleOf) → slice_get before i ≡ Some h
        → IsCountedAt m h.seat (knows-of e is.whole i) size
    at-each i h at = record {
      keys = is.settled.keys
          ∙ ap (λ content. length (numbers.entries content)) (sym (knows-all i below));
      absent = λ k crowded.
          ap (λ content. numbers.get content k) (knows-all i below)
          ∙ crowded-away m.chain.shape plan is.settled.tables.history legal k
          (subst (λ h. IsCrowded m.chain.shape h k) (sym seen.is)
          (crowded-still m.chain.shape plan seen.later h.seat.chain.seen
          (subst (IsLegal m.chain.shape) seen.is legal) k crowded));
    }
      where
        below : i < n
        below = omega (arith, slice_get_within before i h at, held.count)

        shape : is.joined.map.chain.shape ≡ m.chain.shape
        shape = ap (λ (m : MapOf). m.chain.shape) same-map

        plan : IsPlan m.chain.shape
        plan = subst IsPlan shape is.settled.left.left.plan

        legal : IsLegal m.chain.shape is.settled.tables.history
        legal = subst (λ p. IsLegal p is.settled.tables.history) shape is.settled.tables.legal

        seat-here : slice_get (seats_of is.joined) i ≡ Some h.seat
        seat-here = ap (λ xs. slice_get xs i) is.seats ∙ seat-at before i h at

        chain-here : slice_get (map (λ (seat : SeatOf). seat.chain) (seats_of is.joined)) i
            ≡ Some h.seat.chain
        chain-here =
            slice_get-map (λ (seat : SeatOf). seat.chain) (seats_of is.joined) i
            ∙ ap (option_map (λ (seat : SeatOf). seat.chain)) seat-here

        seen : HasSeen is.settled.tables.history h.seat.chain.number h.seat.chain.seen
        seen =
            at-all (λ (seat : SeenBy). HasSeen is.settled.tables.history seat.number seat.seen)
            (map (λ (seat : SeatOf). seat.chain) (seats_of is.joined)) i h.seat.chain
            is.settled.tables.seen chain-here

-- where all seats know one log, that one is left
one-left :
    (seats : List SeatOf) (whole : List Entry) (first : SeatOf) (ended : EndedOf)
    → EndedWith seats ended
    → slice_get seats 0 ≡ Some first
    → ((i : ℕ) (seat : SeatOf) → slice_get seats i ≡ Some seat
    → (log seat ≡ whole) × (seat.chain.number ≡ i))
    → log_left ended ≡ whole
one-left seats whole first ended left at each =
    let all = at-all (HasAll (log_left ended)) seats 0 first left.logs at in
    let is : log_left ended ≡ all.later ++ whole =
    all.is ∙ ap (λ l. all.later ++ l) (each 0 first at).0 in
    is ∙ ap (λ l. l ++ whole) (none all.later is)
  where
    none : (later : List Entry) → log_left ended ≡ later ++ whole → later ≡ []
    none [] is = refl
    none (entry ∷ later) is =
        let below : entry.seat < length seats =
        All-head (λ (entry : Entry). entry.seat < length seats) entry (later ++ whole)
        (subst (All (λ (entry : Entry). entry.seat < length seats)) is left.made) in
        let seat = get_or seats entry.seat first in
        let there = slice_get-get_or seats entry.seat first below in
        let all = at-all (HasAll (log_left ended)) seats entry.seat seat left.logs there in
        let own = each entry.seat seat there in
        let same : all.later ≡ entry ∷ later =
        append_cancel_right all.later (entry ∷ later) whole
        (ap (λ l. all.later ++ l) (sym own.0) ∙ sym all.is ∙ is) in
        let none-own : calls_of entry.seat (entry ∷ later) ≡ [] =
        ap (calls_of entry.seat) (sym same) ∙ ap (λ k. calls_of k all.later) (sym own.1)
        ∙ all.others in
        let some-own : calls_of entry.seat (entry ∷ later)
        ≡ (entry.call, entry.reply) ∷ calls_of entry.seat later =
        ap (λ b. cond b ((entry.call, entry.reply) ∷ calls_of entry.seat later)
        (calls_of entry.seat later)) (eq-eqb entry.seat entry.seat refl) in
        absurd (omega (arith, ap length (sym some-own ∙ none-own)))

-- the map of these handles has more keys than the last table of the shape has slots
abbrev pub HaveTooMany : Plan → List HandleOf → Type 0
HaveTooMany p handles =
    (joined : HandleOf) × (seats_of joined ≡ seats_of_each handles) × HasTooMany p joined

-- a shape for twice the keys that were counted has room for them
pub has-room-left :
    (p : Plan) (n : ℕ) (m : MapOf) (filled past : List Event) (know counted-know : ℕ → List Event)
    (before after : List HandleOf) (size keys : ℕ) → 1 ≤ n → AreHeld m filled past n know after
    → AreCountedIn m counted-know before after size → size < 2 ^ MAX_EXPONENT → size ≤ keys
    → HasSlots keys p → HaveTooMany p after
    → ⊥
has-room-left p n m filled past know counted-know before after size keys some held counted few fewer
    room many =
    let first = get_or (seats_of_each after) 0 many.0.seat in
    let at : slice_get (seats_of_each after) 0 ≡ Some first =
    slice_get-get_or (seats_of_each after) 0 many.0.seat
    (omega (arith, length-each after, held.count, some)) in
    let left : EndedWith (seats_of_each after) many.2.ended =
    subst (λ seats. EndedWith seats many.2.ended) many.1 many.2.left in
    let is = one-left (seats_of_each after) counted.whole first many.2.ended left at
    (λ i seat here.
    let h = handle-at after i seat here in (
      ap log (sym h.2) ∙ counted.logs i h.0 h.1,
      ap (λ (s : SeatOf). s.chain.number) (sym h.2) ∙ (held.each i h.0 h.1).0.number,
    )) in
    let keys-left = ap (λ l. length (numbers.entries (map_of_log l))) is in
    elim room [
      | inl more ↦ omega (arith, more, fewer, many.2.small, keys-left, counted.keys)
      | inr great ↦ omega (arith, great, few, many.2.small, keys-left, counted.keys)
    ]

-- the first handle that goes home, of a new map, knows what the old one's handles knew
pub begun-as :
    (p : Plan) (n : ℕ) (m : MapOf) (filled past : List Event) (know : ℕ → List Event)
    (before after : List HandleOf) (a b : Account) (result : Result ⊤ OutOfMemory) → 1 ≤ n
    → AreHeld m filled past n know before → IsPartedAnew p before after result
    → HasBegunBy after a b → OnOk result (HasBegunAs p before a b)
begun-as p n m filled past know before after a b (Err fault) some held is begun = tt
begun-as p n m filled past know before after a b (Ok done) some held is begun = record {
  first = begun.first;
  account = begun.account;
  shape = ap (λ (h : HandleOf). h.map.chain.shape) seat.2 ∙ is.renewed.begun.made.shape;
  claimed = subst HasClaimedForItsKeys (sym seat.2)
      (subst (λ content. HasAskedFor is.whole.map.chain.shape
      (map put_entry (numbers.entries content)) seat.0.chain) (sym as-left)
      (at-all (λ (s : SeatOf). HasAskedFor is.whole.map.chain.shape
      (map put_entry (numbers.entries (map_left is.renewed.ended))) s.chain) (seats_of is.whole)
      begun.place seat.0 is.renewed.begun.begun.claimed seat.1));
  same = λ one.
      ap (λ (h : HandleOf). map_of_log (log h.seat)) seat.2 ∙ as-left
      ∙ ap map_of_log
      (one-left (seats_of_each before) one.whole first is.renewed.ended left at (λ i s here.
      let h = handle-at before i s here in (
        ap log (sym h.2) ∙ one.logs i h.0 h.1,
        ap (λ (x : SeatOf). x.chain.number) (sym h.2) ∙ (held.each i h.0 h.1).0.number,
      )));
}
  where
    seat :
        (s : SeatOf) × (slice_get (seats_of is.whole) begun.place ≡ Some s)
        × (begun.first ≡ handle_on is.whole.map s)
    seat =
        mapped-at is.whole.map (seats_of is.whole) begun.place begun.first
        (ap (λ l. slice_get l begun.place) (sym is.parted) ∙ begun.there)

    as-left : map_of_log (log seat.0) ≡ map_left is.renewed.ended
    as-left =
        ap map_of_log
        (at-all (λ s. log s ≡ is.renewed.begun.begun.whole) (seats_of is.whole) begun.place seat.0
        is.renewed.begun.begun.logs seat.1)
        ∙ is.renewed.begun.begun.leaves

    first : SeatOf
    first = get_or (seats_of_each before) 0 is.joined.seat

    at : slice_get (seats_of_each before) 0 ≡ Some first
    at =
        slice_get-get_or (seats_of_each before) 0 is.joined.seat
        (omega (arith, length-each before, held.count, some))

    left : EndedWith (seats_of_each before) is.renewed.ended
    left = subst (λ seats. EndedWith seats is.renewed.ended) is.seats is.renewed.left

module _
    (p : Plan) (m : MapOf) (e : EpochIn) (knew : ℕ → List Event) (before : List HandleOf)
    (old : All (IsOfGuest p.seats) (log_of e.past))
    (held : AreHeld m e.filled e.past p.seats knew before) where
  knows-at : (i : ℕ) (h : HandleOf) → slice_get before i ≡ Some h
      → Knows (logs-of e) h.seat (log_of (knew i))
  knows-at i h at =
      let knows = (held.each i h at).1 in
      record { later = knows.later; here = knows.here; is = knows.is; replayed = knows.replayed }

  pub anew : (joined whole : HandleOf) → seats_of joined ≡ seats_of_each before
      → HasRenewed p joined whole
      → (anew : AreAnew p.seats knew (map (handle_on whole.map) (seats_of whole)))
      × (anew.shared.chain.shape ≡ p)
  anew joined whole seats renewed = (
    record {
      shared = whole.map;
      next = next;
      fits = ap (λ (q : Plan). q.seats) shape;
      made = subst (All (IsOfGuest p.seats)) (sym (log-as-events step.0.past))
          (whole-made (logs-of e) p.seats (seats_of joined) renewed.ended step.0.past
          (ap length seats ∙ (length-each before ∙ held.count)) old renewed.left step.1);
      held = record { count = count; each = each };
      met = met;
    },
    shape,
  )
    where
      all : All (IsOfEpoch (logs-of e)) (seats_of joined)
      all =
          subst (All (IsOfEpoch (logs-of e))) (sym seats)
          (all-from (IsOfEpoch (logs-of e)) (seats_of_each before)
          (λ i s at.
          let h = handle-at before i s at in (
            log_of (knew i),
            subst (λ s. Knows (logs-of e) s (log_of (knew i))) h.2 (knows-at i h.0 h.1),
          )))

      step :
          (next : EpochOf) × HaveMetIn (logs-of e) (seats_of joined) renewed.ended next.past
          × AllKnow next whole next.past
      step = one_log_for_all.renewed {e = logs-of e} {p = p} {before = joined} {after = whole} all
          renewed

      next : EpochIn
      next = record {
        filled = as_events step.0.filled;
        past = as_events step.0.past;
        replayed = subst IsReplayed (sym (log-as-events step.0.past)) step.0.replayed;
        same = ap map_of_log (log-as-events step.0.filled) ∙ step.0.same
            ∙ ap map_of_log (sym (log-as-events step.0.past));
      }

      shape : whole.map.chain.shape ≡ p
      shape = renewed.begun.made.shape

      numbered : map (λ (seat : SeatOf). seat.chain.number) (seats_of whole)
          ≡ range_with_len 0 p.seats
      numbered =
          renewed.begun.begun.numbered ∙ ap (λ (q : Plan). range_with_len 0 q.seats) shape

      count : length (map (handle_on whole.map) (seats_of whole)) ≡ p.seats
      count =
          length-map (seats_of whole) (handle_on whole.map)
          ∙ sym (length-map (seats_of whole) (λ (seat : SeatOf). seat.chain.number))
          ∙ ap length numbered ∙ length-range_with_len 0 p.seats

      each :
          (i : ℕ) (h : HandleOf) → slice_get (map (handle_on whole.map) (seats_of whole)) i ≡ Some h
          → IsLane whole.map i h × KnowsIn next.filled next.past h.seat next.past
      each i h at =
          let s = mapped-at whole.map (seats_of whole) i h at in
          let knows = at-all (λ seat. Knows step.0 seat step.0.past)
          (seats_of whole) i s.0 step.2 s.1 in
          subst (λ (x : HandleOf). IsLane whole.map i x
          × KnowsIn next.filled next.past x.seat next.past) (sym s.2) (
            record {
              map = refl;
              number = number-at (seats_of whole) p.seats i s.0 numbered s.1;
              alone = refl;
            },
            record {
              later = knows.later;
              here = knows.here ∙ ap (λ l. knows.later ++ l) (sym (log-as-events step.0.filled));
              is = log-as-events step.0.past ∙ knows.is
                  ∙ ap (λ l. knows.later ++ l) (sym (log-as-events step.0.past));
              replayed = next.replayed;
            },
          )

      met : (i : ℕ) → i < p.seats → HasGoneOnBy i (log_of (knew i)) (log_of next.past) []
      met i below =
          let d = joined in
          let at : slice_get before i ≡ Some (get_or before i d) =
          slice_get-get_or before i d (omega (arith, below, held.count)) in
          let h = get_or before i d in
          let seat = ap (λ xs. slice_get xs i) seats ∙ seat-at before i h at in
          let gone = at-all (λ seat. (known : List Entry) → Knows (logs-of e) seat known
          → HasGoneOnBy seat.chain.number known step.0.past [])
          (seats_of joined) i h.seat step.1.each seat
          (log_of (knew i)) (knows-at i h at) in
          subst (λ l. HasGoneOnBy i (log_of (knew i)) l []) (sym (log-as-events step.0.past))
          (subst (λ n. HasGoneOnBy n (log_of (knew i)) step.0.past [])
          (held.each i h at).0.number gone)

-- ---- a new map

module _
    (whole : HandleOf) (n : ℕ) (handles : List HandleOf)
    (seats : seats_of whole ≡ new_seats whole.map n)
    (parted : handles ≡ map (handle_on whole.map) (seats_of whole)) where
  pub new-count : length handles ≡ n
  new-count =
      ap length parted ∙ length-map (seats_of whole) (handle_on whole.map) ∙ ap length seats
      ∙ length-map (range_with_len 0 n) (new_seat whole.map) ∙ length-range_with_len 0 n

  pub new-lanes :
      (i : ℕ) (h : HandleOf) → slice_get handles i ≡ Some h
      → IsLane whole.map i h × (log h.seat ≡ [])
  new-lanes i h at =
      let s = mapped-at whole.map (seats_of whole) i h
      (ap (λ xs. slice_get xs i) (sym parted) ∙ at) in
      let new = new-at (range_with_len 0 n) i s.0 (ap (λ xs. slice_get xs i) (sym seats) ∙ s.1) in
      let below : i < n =
      omega (
        arith,
        slice_get_within (range_with_len 0 n) i new.0 new.1,
        length-range_with_len 0 n,
      ) in
      let number : new.0 ≡ i =
      (let a = get_or_from_slice_get (range_with_len 0 n) i new.0 0 new.1 in
      let b = get_or-range_with_len 0 n i 0 below in
      omega (arith, a, b)) in (
        record {
          map = ap (λ (x : HandleOf). x.map) s.2;
          number = ap (λ (x : HandleOf). x.seat.chain.number) s.2
              ∙ ap (λ (x : SeatOf). x.chain.number) new.2 ∙ number;
          alone = ap (λ (x : HandleOf). x.reserve) s.2;
        },
        ap (λ (x : HandleOf). log x.seat) s.2 ∙ ap log new.2,
      )
    where
      new-at : (ns : List ℕ) (i : ℕ) (s : SeatOf) → slice_get (map (new_seat whole.map) ns) i
          ≡ Some s
          → (k : ℕ) × (slice_get ns i ≡ Some k) × (s ≡ new_seat whole.map k)
      new-at [] i s at = absurd (omega (arith, slice_get_within [] i s at))
      new-at (k ∷ ns) zero s at = (k, refl, sym (some-same (new_seat whole.map k) s at))
      new-at (k ∷ ns) (suc i) s at = new-at ns i s at
