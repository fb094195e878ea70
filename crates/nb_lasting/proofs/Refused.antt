-- A renewal that was refused begins an epoch of the same map: what it has read is nobody's call.
use Rattle.std.proofs.Common.{◌≡◌, ◌≢◌, ◌∙◌, ◌++◌, ◌<◌, ◌≤◌, ℕ, true, false, if◌then◌else◌, List, [], ◌∷◌, All, Some, ap, inl, inr, length, map, refl, slice_get, subst, sym, arith}
use Rattle.std.specs.List.{AllZip}
use Rattle.std.specs.Prelude.{Err, IfErr, IfOk, Ok, Result, ⊤, get_or, is_err}
use Rattle.std.proofs.lemmas.List.{append_assoc, append_cancel_right, length-map}
use Rattle.std.proofs.lemmas.List.Elements.{All-append, All-cons, All-head, All-nil, All-tail}
use Rattle.std.proofs.lemmas.List.FromFn.{length-range_with_len}
use Rattle.std.proofs.lemmas.Option.{slice_get-get_or}
use Rattle.std.specs.declared.alloc.AllocError.{AllocError as OutOfMemory}
use Rattle.nb_core.proofs.Seating.{All-left, All-right}
use Rattle.nb_core.proofs.Theorems.{calls_append}
use Rattle.nb_core.specs.Log.{Entry, calls_of, log_of, map_after, map_of_log}
use Rattle.nb_core.specs.Plans.{Plan}
use Rattle.nb_core.specs.declared.calls.Call.{Call}
use Rattle.nb_core.specs.declared.calls.Reply.{Reply}
use Rattle.nb_core.specs.declared.events.Event.{Event}
use Rattle.nb_map.specs.Bulk.{whole_walk_steps}
use Rattle.nb_map.specs.Ending.{HasAll}
use Rattle.nb_map.specs.Entries.{HasOnlyRead, IsRead}
use Rattle.nb_map.specs.Handles.{HandleOf, IsWhole, handle_on, seats_of}
use Rattle.nb_map.specs.Logs.{log}
use Rattle.nb_map.specs.Maps.{MapOf, SeatOf}
use Rattle.nb_map.specs.Renewing.{HasRenewed, IsKept}
use Rattle.nb_map.specs.Settling.{HasCaughtUp, HaveSettled}
use Rattle.nb_lasting.proofs.Renewed.{IsPartedAnew, anew, at-all, handle-at, length-each, length-zip, mapped-at, seen-map, zip-at, zip-weaker}
use Rattle.nb_lasting.proofs.Sharing.{Same, decided, log-as-events}
use Rattle.nb_lasting.specs.Gathered.{AreSingle, IsRested, seats_of_each}
use Rattle.nb_lasting.specs.Renewal.{AreAnew, AreHeld, AreRenewed, KnowOneLog}
use Rattle.nb_lasting.specs.Shared.{EpochIn, IsLane, IsOfGuest, KnowsIn, as_events}

-- ---- whose call an entry is

module _ (entry : Entry) (log : List Entry) where
  pub calls-here : calls_of entry.seat (entry ∷ log)
      ≡ (entry.call, entry.reply) ∷ calls_of entry.seat log
  calls-here = by (decided entry.seat entry.seat)
    where
      by : Same entry.seat entry.seat
          → calls_of entry.seat (entry ∷ log) ≡ (entry.call, entry.reply) ∷ calls_of entry.seat log
      by (inl (_, is)) = ap
          (λ b. if b then (entry.call, entry.reply) ∷ calls_of entry.seat log else calls_of
          entry.seat log) is
      by (inr (not, _)) = absurd (not refl)

  pub calls-else : (i : ℕ) → i ≢ entry.seat → calls_of i (entry ∷ log) ≡ calls_of i log
  calls-else i other = by (decided entry.seat i)
    where
      by : Same entry.seat i → calls_of i (entry ∷ log) ≡ calls_of i log
      by (inl (same, _)) = absurd (other (sym same))
      by (inr (_, is)) = ap
          (λ b. if b then (entry.call, entry.reply) ∷ calls_of i log else calls_of i log) is

-- ---- reads after a log

abbrev IsReadEntry : Entry → Type 0
IsReadEntry entry = IsRead (entry.call, entry.reply)

-- they leave the map as it is
reads-leave :
    (later base : List Entry) → All IsReadEntry later
    → map_of_log (later ++ base) ≡ map_of_log base
reads-leave [] base reads = refl
reads-leave (entry ∷ later) base reads =
    let read = All-head IsReadEntry entry later reads in
    ap (λ (made : Call × Reply). map_after made.0 (map_of_log (later ++ base))) read.2
    ∙ reads-leave later base (All-tail IsReadEntry entry later reads)

-- where each of so many seats has made reads alone, all is reads
reads-all :
    (n : ℕ) (later : List Entry) → All (IsOfGuest n) later
    → ((i : ℕ) → i < n → All IsRead (calls_of i later)) → All IsReadEntry later
reads-all n [] made each = All-nil IsReadEntry
reads-all n (entry ∷ later) made each =
    All-cons IsReadEntry entry later
    (All-head IsRead (entry.call, entry.reply) (calls_of entry.seat later) here)
    (reads-all n later (All-tail (IsOfGuest n) entry later made)
    (λ i less. rest i less (decided i entry.seat)))
  where
    here : All IsRead ((entry.call, entry.reply) ∷ calls_of entry.seat later)
    here =
        subst (All IsRead) (calls-here entry later)
        (each entry.seat (All-head (IsOfGuest n) entry later made))

    rest : (i : ℕ) → i < n → Same i entry.seat → All IsRead (calls_of i later)
    rest i less (inl (same, _)) =
        subst (λ k. All IsRead (calls_of k later)) (sym same)
        (All-tail IsRead (entry.call, entry.reply) (calls_of entry.seat later) here)
    rest i less (inr (other, _)) = subst (All IsRead) (calls-else entry later i other) (each i less)

-- ---- the seats of a renewal that was refused

-- the seat has made reads alone
pub record HasReadOn (old new : SeatOf) : Type 0 where
  pub number : new.chain.number ≡ old.chain.number
  pub later : List Entry
  pub grown : log new ≡ later ++ log old
  pub reads : All IsRead (calls_of old.chain.number later)

same-read : (seats : List SeatOf) → AllZip HasReadOn seats seats
same-read [] = tt
same-read (seat ∷ seats) = (
  record { number = refl; later = []; grown = refl; reads = All-nil IsRead },
  same-read seats,
)

kept-read : (before after : HandleOf) → IsKept before after
    → AllZip HasReadOn (seats_of before) (seats_of after)
kept-read before after (inl same) =
    subst (λ (h : HandleOf). AllZip HasReadOn (seats_of before) (seats_of h)) (sym same)
    (same-read (seats_of before))
kept-read before after (inr (same, reads)) =
    zip-weaker (λ old new. HasOnlyRead before.map old new (whole_walk_steps before.map.chain.shape))
    HasReadOn
    (λ old new read. record {
      number = read.logged.number;
      later = read.logged.later;
      grown = read.logged.grown;
      reads = subst (All IsRead) (sym read.logged.own) read.reads;
    })
    (seats_of before) (seats_of after) reads

kept-map : (before after : HandleOf) → IsKept before after → after.map ≡ before.map
kept-map before after (inl same) = ap (λ (h : HandleOf). h.map) same
kept-map before after (inr (same, reads)) = same

-- a handle that was to be made anew has as many seats still
pub kept-long : (before after : HandleOf) → IsKept before after
    → length (seats_of after) ≡ length (seats_of before)
kept-long before after kept =
    sym (length-zip HasReadOn (seats_of before) (seats_of after) (kept-read before after kept))

pub still-whole : (before after : HandleOf) → IsKept before after → IsWhole before → IsWhole after
still-whole before after kept whole =
    kept-long before after kept ∙ whole
    ∙ ap (λ (m : MapOf). m.chain.shape.seats) (sym (kept-map before after kept))

pub if-refused : {A B P : Type 0} (result : Result A B) → is_err result ≡ true
    → IfErr result (λ fault. P) → P
if-refused (Ok x) bad holds = absurd (let wrong : false ≡ true = bad in cc)
if-refused (Err fault) bad holds = holds

module _
    (n : ℕ) (m : MapOf) (e : EpochIn) (knew : ℕ → List Event) (before : List HandleOf)
    (some : 1 ≤ n)
    (fits : m.chain.shape.seats ≡ n) (old : All (IsOfGuest n) (log_of e.past))
    (held : AreHeld m e.filled e.past n knew before) (settled : KnowOneLog before)
    (joined whole : HandleOf) (one : joined.map ≡ m)
    (seats : seats_of joined ≡ seats_of_each before)
    (rested : IsRested joined whole) where
  -- all calls until then, and those before
  abbrev total : List Entry
  total = log_of rested.settled.tables.history

  abbrev base : List Entry
  base = settled.whole

  moved : AllZip HasReadOn (seats_of joined) (seats_of rested.tried)
  moved = kept-read joined rested.tried rested.kept

  long : length (seats_of rested.tried) ≡ n
  long =
      kept-long joined rested.tried rested.kept ∙ ap length seats
      ∙ (length-each before ∙ held.count)

  -- what is known of a seat
  pub record IsAt (i : ℕ) (seat : SeatOf) : Type 0 where
    pub number : seat.chain.number ≡ i
    pub since : List Entry
    pub is : total ≡ since ++ base
    pub reads : All IsRead (calls_of i since)

  seat-is : (i : ℕ) (seat : SeatOf) → slice_get (seats_of rested.tried) i ≡ Some seat → IsAt i seat
  seat-is i seat at =
      let was = zip-at HasReadOn (seats_of joined) (seats_of rested.tried) i seat moved at in
      let h = handle-at before i was.0 (ap (λ xs. slice_get xs i) (sym seats) ∙ was.1) in
      let read = was.2 in
      let old-number : was.0.chain.number ≡ i =
      ap (λ (x : SeatOf). x.chain.number) (sym h.2) ∙ (held.each i h.0 h.1).0.number in
      let number : seat.chain.number ≡ i = read.number ∙ old-number in
      let all : HasAll total seat =
      at-all (HasAll total) (seats_of rested.tried) i seat rested.settled.ended.logs at in
      let knew-base : log was.0 ≡ base = ap log (sym h.2) ∙ settled.logs i h.0 h.1 in
      record {
        number = number;
        since = all.later ++ read.later;
        is = all.is
            ∙ (ap (λ l. all.later ++ l) (read.grown ∙ ap (λ l. read.later ++ l) knew-base)
            ∙ sym (append_assoc all.later read.later base));
        reads = subst (All IsRead)
            (sym (calls_append i all.later read.later
            ∙ ap (λ l. l ++ calls_of i read.later)
            (ap (λ k. calls_of k all.later) (sym number) ∙ all.others)))
            (subst (λ k. All IsRead (calls_of k read.later)) old-number read.reads);
      }

  there : (i : ℕ) → i < n → (seat : SeatOf) × (slice_get (seats_of rested.tried) i ≡ Some seat)
  there i below = (
    get_or (seats_of rested.tried) i rested.tried.seat,
    slice_get-get_or (seats_of rested.tried) i rested.tried.seat (omega (arith, below, long)),
  )

  first : IsAt 0 (there 0 some).0
  first = seat-is 0 (there 0 some).0 (there 0 some).1

  total-made : All (IsOfGuest n) (first.since ++ base)
  total-made =
      subst (All (IsOfGuest n)) first.is
      (subst (λ k. All (IsOfGuest k) total) long rested.settled.ended.made)

  all-reads : All IsReadEntry first.since
  all-reads =
      reads-all n first.since (All-left (IsOfGuest n) first.since base total-made) (λ i below.
      let seat = there i below in
      let is = seat-is i seat.0 seat.1 in
      subst (λ l. All IsRead (calls_of i l))
      (append_cancel_right is.since first.since base (sym is.is ∙ first.is)) is.reads)

  -- all handles knew one log
  handle-there : (i : ℕ) → i < n → (h : HandleOf) × (slice_get before i ≡ Some h)
  handle-there i below = (
    get_or before i joined,
    slice_get-get_or before i joined (omega (arith, below, held.count)),
  )

  abbrev knows-at : (i : ℕ) (below : i < n)
      → KnowsIn e.filled e.past (handle-there i below).0.seat (knew i)
  knows-at i below = (held.each i (handle-there i below).0 (handle-there i below).1).1

  log-at : (i : ℕ) (below : i < n) → base ≡ (knows-at i below).later ++ log_of e.filled
  log-at i below =
      sym (settled.logs i (handle-there i below).0 (handle-there i below).1)
      ∙ (knows-at i below).here

  knew-one : (i : ℕ) → i < n → log_of (knew i) ≡ log_of (knew 0)
  knew-one i below =
      (knows-at i below).is
      ∙ ap (λ l. l ++ log_of e.past)
      (append_cancel_right (knows-at i below).later (knows-at 0 some).later (log_of e.filled)
      (sym (log-at i below) ∙ log-at 0 some))
      ∙ sym (knows-at 0 some).is

  next : EpochIn
  next = record {
    filled = as_events total;
    past = knew 0;
    replayed = (knows-at 0 some).replayed;
    same = ap map_of_log (log-as-events total ∙ first.is) ∙ reads-leave first.since base all-reads
        ∙ ap map_of_log (sym (settled.logs 0 (handle-there 0 some).0 (handle-there 0 some).1))
        ∙ sym (seen-map e (handle-there 0 some).0.seat (knew 0) (knows-at 0 some));
  }

  past-made : All (IsOfGuest n) (log_of (knew 0))
  past-made =
      let of-base : All (IsOfGuest n) ((knows-at 0 some).later ++ log_of e.filled) =
      subst (All (IsOfGuest n)) (log-at 0 some)
      (All-right (IsOfGuest n) first.since base total-made) in
      subst (All (IsOfGuest n)) (sym (knows-at 0 some).is)
      (All-append (IsOfGuest n) (knows-at 0 some).later (log_of e.past)
      (All-left (IsOfGuest n) (knows-at 0 some).later (log_of e.filled) of-base) old)

  -- so they begin an epoch of that map, which goes on from it
  pub rested-anew :
      (anew : AreAnew n knew (map (handle_on whole.map) (seats_of whole))) × (anew.shared ≡ m)
  unfolding next
  rested-anew = (
    record {
      shared = m;
      next = next;
      fits = fits;
      made = past-made;
      held = record {
        count = length-map (seats_of whole) (handle_on whole.map)
            ∙ sym (length-zip (HasCaughtUp rested.tried.map total) (seats_of rested.tried)
            (seats_of whole) rested.settled.each)
            ∙ long;
        each = each;
      };
      met = λ i below. record {
        later = [];
        grown = sym (knew-one i below);
        replayed = next.replayed;
        own = refl;
      };
    },
    refl,
  )
    where
      each :
          (i : ℕ) (h : HandleOf) → slice_get (map (handle_on whole.map) (seats_of whole)) i ≡ Some h
          → IsLane m i h × KnowsIn next.filled next.past h.seat next.past
      each i h at =
          let s = mapped-at whole.map (seats_of whole) i h at in
          let caught = zip-at (HasCaughtUp rested.tried.map total) (seats_of rested.tried)
          (seats_of whole) i s.0 rested.settled.each s.1 in (
            record {
              map = ap (λ (x : HandleOf). x.map) s.2 ∙ rested.same
                  ∙ kept-map joined rested.tried rested.kept ∙ one;
              number = ap (λ (x : HandleOf). x.seat.chain.number) s.2 ∙ caught.2.logged.number
                  ∙ (seat-is i caught.0 caught.1).number;
              alone = ap (λ (x : HandleOf). x.reserve) s.2;
            },
            record {
              later = [];
              here = ap (λ (x : HandleOf). log x.seat) s.2 ∙ caught.2.knows
                  ∙ sym (log-as-events total);
              is = refl;
              replayed = next.replayed;
            },
          )

-- ---- as many seats as before

pub counted-long :
    (result : Result ℕ OutOfMemory) (joined whole : HandleOf)
    → IfOk result (HaveSettled joined.map (seats_of joined) (seats_of whole))
    → IfErr result (λ refused. whole ≡ joined)
    → length (seats_of whole) ≡ length (seats_of joined)
counted-long (Ok size) joined whole settled same =
    sym (length-zip (HasCaughtUp joined.map (log_of settled.tables.history)) (seats_of joined)
    (seats_of whole) settled.each)
counted-long (Err fault) joined whole settled same = ap (λ (h : HandleOf). length (seats_of h)) same

pub renewed-long :
    (p : Plan) (result : Result ⊤ OutOfMemory) (joined whole : HandleOf)
    → length (seats_of joined) ≡ p.seats → IfOk result (λ done. HasRenewed p joined whole)
    → IfErr result (λ fault. IsRested joined whole) → length (seats_of whole) ≡ p.seats
renewed-long p (Ok done) joined whole many renewed rested =
    sym (length-map (seats_of whole) (λ (seat : SeatOf). seat.chain.number))
    ∙ ap length renewed.begun.begun.numbered
    ∙ length-range_with_len 0 whole.map.chain.shape.seats
    ∙ ap (λ (p : Plan). p.seats) renewed.begun.made.shape
renewed-long p (Err fault) joined whole many renewed rested =
    sym (length-zip (HasCaughtUp rested.tried.map (log_of rested.settled.tables.history))
    (seats_of rested.tried) (seats_of whole) rested.settled.each)
    ∙ kept-long joined rested.tried rested.kept ∙ many

-- ---- a renewal

module _
    (p : Plan) (m : MapOf) (e : EpochIn) (knew : ℕ → List Event) (before after : List HandleOf)
    (some : 1 ≤ p.seats) (fits : m.chain.shape.seats ≡ p.seats)
    (old : All (IsOfGuest p.seats) (log_of e.past))
    (held : AreHeld m e.filled e.past p.seats knew before) (settled : KnowOneLog before)
    (single : AreSingle before) where
  pub renewed-all :
      (result : Result ⊤ OutOfMemory) → single.shared ≡ m → IsPartedAnew p before after result
      → AreRenewed p m knew after result
  renewed-all (Ok done) one is =
      let both = subst (λ hs. (anew : AreAnew p.seats knew hs) × (anew.shared.chain.shape ≡ p))
      (sym is.parted)
      (anew p m e knew before old held is.joined is.whole is.seats is.renewed) in
      (both.0, both.1, tt)
  renewed-all (Err fault) one is =
      let both = subst (λ hs. (anew : AreAnew p.seats knew hs) × (anew.shared ≡ m)) (sym is.parted)
      (rested-anew p.seats m e knew before some fits old held settled is.joined is.whole
      (is.one_map single ∙ one) is.seats is.rested) in
      (both.0, tt, both.1)
