-- A map of which one seat writes while others read: what it has once all seats are gathered.
use Rattle.std.proofs.Common.{◌≡◌, ◌∙◌, ◌<◌, ◌≤◌, ◌+◌, ◌-◌, ◌==◌, ◌⊎◌, ℕ, Bool, true, false, cond, List, [], ◌∷◌, ◌++◌, All, None, Option, Some, ap, arith, inl, inr, is_some, length, length-append, map, refl, reverse, subst, sym}
use Rattle.std.specs.FinMap.{entries, get, len}
use Rattle.std.specs.List.{AllZip, count_by}
use Rattle.std.proofs.lemmas.Bool.{cases_Bool, cases_eq, eq-eqb, eqb-true}
use Rattle.std.proofs.lemmas.List.{append_assoc, append_cancel_right, length-map, reverse-reverse}
use Rattle.std.proofs.lemmas.List.Elements.{All-append, All-cons, All-head, All-nil, All-tail, All-weaker}
use Rattle.std.proofs.lemmas.List.FromFn.{length-range_with_len}
use Rattle.std.proofs.lemmas.List.Sorted.{All-permutation, IsPermutation-reverse}
use Rattle.std.proofs.lemmas.List.Sums.{sum_by-cons}
use Rattle.std.proofs.lemmas.Slice.Zip.{AllZip-long}
use Rattle.nb_core.proofs.Seating.{All-left, All-right, All-unmap, count-map}
use Rattle.nb_core.proofs.Theorems.{calls_append}
use Rattle.nb_core.specs.Log.{Entry, IsReplayed, Numbers, calls_of, log_of, map_after, map_of_log, reply_of}
use Rattle.nb_core.specs.Plans.{HasRoomFor, Plan, generations_of, size_of}
use Rattle.nb_core.specs.declared.calls.Call.{Call}
use Rattle.nb_core.specs.declared.calls.Reply.{Reply}
use Rattle.nb_core.specs.declared.shapes.TheConstants.{MOST_KEYS}
use Rattle.nb_map.proofs.Theorems.{crowded_by_calls, logs_add_up}
use Rattle.nb_map.specs.Bulk.{put_entry}
use Rattle.nb_map.specs.Crowding.{HasAskedFor, HasAskedIn, IsFilled}
use Rattle.nb_map.specs.Ending.{EndedOf, EndedWith, HasAll, log_left, map_left}
use Rattle.nb_map.specs.Entries.{IsRead}
use Rattle.nb_map.specs.Handles.{HandleOf, IsSameMap, IsWhole, KeepsRest, all_seats, seats_of}
use Rattle.nb_map.specs.Logs.{HasLogged, log}
use Rattle.nb_map.specs.Maps.{MapOf, SeatOf}
use Rattle.nb_map.specs.NamedCalls.{put_if_absent_of}
use Rattle.nb_map.specs.OneSeat.{held}
use Rattle.nb_map.specs.Opening.{IsTooSmallFor}
use Rattle.nb_map.specs.Renewing.{HasRenewed, HasTooMany}
use Rattle.nb_map.specs.Settling.{HasCaughtUp, HaveSettled, as_left}
use Rattle.nb_table.specs.Chains.{SeenBy}
use Rattle.nb_table.specs.Views.{HasSeen}
use Rattle.nb_texts.specs.Catalogs.{HaveClaimed, HaveOneLog}
use Rattle.nb_texts.specs.Claims.{ClaimsOnly, HasClaimedBy}
use Rattle.nb_texts.specs.Clues.{ArePartedFrom, HasOnlyLooked}
use Rattle.nb_texts.specs.Entering.{AreReplayed, HasEntered, HasNoSlot, HasNoRoomFor, IsIndex, PutsIfAbsent, calls_in, map_after_calls}
use Rattle.nb_texts.specs.Lines.{is_among, with_new_lines}
use Rattle.nb_texts.specs.Stopped.{HasMadeSince, HasReadSince}
use Rattle.nb_texts.proofs.ClaimLemmas.{claims-caught, claims-weaker, filled-later, has-filled, others-few, puts-fill}
use Rattle.nb_texts.proofs.ClueLemmas.{zip-all}
use Rattle.nb_texts.proofs.LinesLemmas.{with-append, with-longer}

-- ---- entries of one seat's calls, among others' reads

-- a read leaves the map
pub read-leaves : (made : Call × Reply) (m : Numbers) → IsRead made → map_after made.0 m ≡ m
read-leaves made m read = ap (λ (made : Call × Reply). map_after made.0 m) read.2

module _ (number seats : ℕ) where
  -- each seat but the one has only reads among them
  abbrev OthersRead : List Entry → Type 0
  OthersRead entries =
      (n : ℕ) → n < seats → (n ≡ number) ⊎ All IsRead (calls_of n entries)

  others-tail : (entry : Entry) (rest : List Entry) → OthersRead (entry ∷ rest) → OthersRead rest
  others-tail entry rest others = λ n less. elim (others n less) [
    | inl one ↦ inl one
    | inr reads ↦ inr (of n (entry.seat == n) refl reads)
  ]
    where
      of : (n : ℕ) (b : Bool) → (entry.seat == n) ≡ b
          → All IsRead (cond b ((entry.call, entry.reply) ∷ calls_of n rest) (calls_of n rest))
          → All IsRead (calls_of n rest)
      of n true is reads = All-tail IsRead (entry.call, entry.reply) (calls_of n rest) reads
      of n false is reads = reads

  others-head :
      (entry : Entry) (rest : List Entry) → OthersRead (entry ∷ rest) → entry.seat < seats
      → (entry.seat == number) ≡ false → IsRead (entry.call, entry.reply)
  others-head entry rest others less other = elim (others entry.seat less) [
    | inl one ↦ absurd (let yes = eq-eqb entry.seat number one in let no : true ≡ false = sym yes ∙ other in cc)
    | inr reads ↦
        All-head IsRead (entry.call, entry.reply) (calls_of entry.seat rest)
        (subst (λ b. All IsRead (cond b ((entry.call, entry.reply) ∷ calls_of entry.seat rest) (calls_of entry.seat rest)))
        (eq-eqb entry.seat entry.seat refl) reads)
  ]

  -- so the one's calls reply as a map does that nobody else writes
  pub calls-told :
      (entries base : List Entry) → All (λ entry. entry.seat < seats) entries → OthersRead entries
      → IsReplayed (entries ++ base)
      → AreReplayed (calls_of number entries) (map_of_log base)
      × (map_of_log (entries ++ base) ≡ map_after_calls (calls_of number entries) (map_of_log base))
  calls-told [] base below others replayed = (tt, refl)
  calls-told (entry ∷ rest) base below others (reply, replayed) =
      let P : Entry → Type 0 = λ entry. entry.seat < seats in
      let next = calls-told rest base (All-tail P entry rest below) (others-tail entry rest others) replayed in
      elim (cases_Bool (entry.seat == number)) [
        | inl mine ↦
            rw mine (
              (reply ∙ ap (reply_of entry.call) next.1, next.0),
              ap (map_after entry.call) next.1,
            )
        | inr other ↦
            let read = others-head entry rest others (All-head P entry rest below) other in
            rw other (
              next.0,
              read-leaves (entry.call, entry.reply) (map_of_log (rest ++ base)) read ∙ next.1,
            )
      ]

-- ---- all seats are gathered

-- a seat with this number is one of these, and what holds of all holds of it
seat-numbered :
    (P : SeatOf → Type 0) (n : ℕ) (seats : List SeatOf)
    → count_by (λ seat. seat.chain.number == n) seats ≡ 1 → All P seats
    → (seat : SeatOf) × (seat.chain.number ≡ n) × P seat
seat-numbered P n [] once all = absurd (omega (arith, once))
seat-numbered P n (seat ∷ seats) once all = elim (cases_Bool (seat.chain.number == n)) [
  | inl mine ↦ (seat, eqb-true seat.chain.number n mine, All-head P seat seats all)
  | inr other ↦
      let first = sum_by-cons (λ (s : SeatOf). cond (s.chain.number == n) 1 0) seat seats in
      let none = ap {B = ℕ} (λ b. cond b 1 0) other in
      seat-numbered P n seats (omega (arith, once, first, none)) (All-tail P seat seats all)
]

module _ (base : List Entry) (made : List (Call × Reply)) (one : SeatOf) (others : List SeatOf)
    (ended : EndedOf) (end : EndedWith (one ∷ others) ended) (its : HasMadeSince base made one)
    (read : All (HasReadSince base) others) where
  IsSeat : SeatOf → Type 0
  IsSeat seat = HasAll (log_left ended) seat × ((seat ≡ one) ⊎ HasReadSince base seat)

  all : All IsSeat (one ∷ others)
  unfolding IsSeat
  all =
      let has = end.logs in
      let Q : SeatOf → Type 0 = λ seat. (seat ≡ one) ⊎ HasReadSince base seat in
      let either : All Q (one ∷ others) = All-cons Q one others (inl refl) (λ i d less. inr (read i d less)) in
      λ i d less. (has i d less, either i d less)

  has : HasAll (log_left ended) one
  has = All-head (HasAll (log_left ended)) one others end.logs

  new : List Entry
  new = has.later ++ its.later

  is : log_left ended ≡ new ++ base
  unfolding new
  is = has.is ∙ ap (λ log. has.later ++ log) its.is ∙ sym (append_assoc has.later its.later base)

  since : OthersRead one.chain.number (length (one ∷ others)) new
  unfolding IsSeat
  since n less =
      let found = seat-numbered IsSeat n (one ∷ others) (end.once n less) all in
      let seat = found.0 in
      elim found.2.1 [
        | inl same ↦ inl (sym found.1 ∙ ap (λ (s : SeatOf). s.chain.number) same)
        | inr looked ↦
            let left = found.2.0 in
            let same : left.later ++ looked.later ≡ new
            = append_cancel_right (left.later ++ looked.later) new base
            (append_assoc left.later looked.later base ∙ ap (λ log. left.later ++ log) (sym looked.is)
            ∙ sym left.is ∙ is) in
            let calls : calls_of seat.chain.number looked.later ≡ calls_of n new
            = ap (λ calls. calls ++ calls_of seat.chain.number looked.later) (sym left.others)
            ∙ sym (calls_append seat.chain.number left.later looked.later)
            ∙ ap (calls_of seat.chain.number) same ∙ ap (λ n. calls_of n new) found.1 in
            inr (subst (All IsRead) calls looked.reads)
      ]

  own : calls_of one.chain.number new ≡ made
  unfolding new
  own =
      calls_append one.chain.number has.later its.later
      ∙ ap (λ calls. calls ++ calls_of one.chain.number its.later) has.others ∙ its.calls

  -- the calls of the one reply as a map does, and the map that they leave is what is left
  pub gathered-told :
      AreReplayed made (map_of_log base) × (map_left ended ≡ map_after_calls made (map_of_log base))
  gathered-told =
      let below : All (λ entry. entry.seat < length (one ∷ others)) new
      = All-left (λ entry. entry.seat < length (one ∷ others)) new base
      (subst (All (λ entry. entry.seat < length (one ∷ others))) is end.made) in
      let told = calls-told one.chain.number (length (one ∷ others)) new base below since
      (subst IsReplayed is end.replayed) in (
        subst (λ calls. AreReplayed calls (map_of_log base)) own told.0,
        ap map_of_log is ∙ told.1 ∙ ap (λ calls. map_after_calls calls (map_of_log base)) own,
      )

-- ---- logs of handles

-- where all seats know a log, all know that of the first one
pub one-log :
    (whole : List Entry) (seat : SeatOf) (reserve : List SeatOf)
    → All (λ seat. log seat ≡ whole) (seat ∷ reserve) → All (λ other. log other ≡ log seat) reserve
one-log whole seat reserve all =
    let P : SeatOf → Type 0 = λ seat. log seat ≡ whole in
    let first : log seat ≡ whole = All-head P seat reserve all in
    All-weaker P (λ other. log other ≡ log seat) (λ other knows. knows ∙ sym first) reserve
    (All-tail P seat reserve all)

-- a seat that knows a log alone has made no call since
pub read-nothing : (base : List Entry) (seat : SeatOf) → log seat ≡ base → HasReadSince base seat
read-nothing base seat knows = record { later = []; is = knows; reads = All-nil IsRead }

-- ---- a map is made anew

pub renewed-same :
    (p : Plan) (before after : HandleOf) → HaveOneLog before → HasRenewed p before after
    → held after.seat ≡ held before.seat
renewed-same p before after logs renewed =
    let base = log before.seat in
    let begun = renewed.begun.begun in
    let told = gathered-told base [] before.seat before.reserve renewed.ended renewed.left
    (record { later = []; is = refl; calls = refl })
    (All-weaker (λ (seat : SeatOf). log seat ≡ base) (HasReadSince base) (read-nothing base)
    before.reserve logs) in
    ap map_of_log (All-head (λ (seat : SeatOf). log seat ≡ begun.whole) after.seat after.reserve begun.logs)
    ∙ begun.leaves ∙ told.1

-- the seats of the new map have claimed slots for its keys alone
pub renewed-claims : (p : Plan) (before after : HandleOf) → HasRenewed p before after → HaveClaimed after
renewed-claims p before after renewed =
    let begun = renewed.begun.begun in
    let whole : held after.seat ≡ map_left renewed.ended
    = ap map_of_log (All-head (λ (seat : SeatOf). log seat ≡ begun.whole) after.seat after.reserve begun.logs)
    ∙ begun.leaves in
    subst (λ m. All (ClaimsOnly after.map.chain.shape m) (seats_of after)) (sym whole) begun.claimed

-- it has all of them
pub renewed-whole : (p : Plan) (before after : HandleOf) → HasRenewed p before after → IsWhole after
renewed-whole p before after renewed =
    sym (length-map (seats_of after) (λ (seat : SeatOf). seat.chain.number))
    ∙ ap length renewed.begun.begun.numbered ∙ length-range_with_len 0 after.map.chain.shape.seats

-- the keys that are too many for it are those of the old one
pub too-small :
    (p : Plan) (before : HandleOf) → HaveOneLog before → HasTooMany p before
    → IsTooSmallFor p (held before.seat)
too-small p before logs many =
    let base = log before.seat in
    let told = gathered-told base [] before.seat before.reserve many.ended many.left
    (record { later = []; is = refl; calls = refl })
    (All-weaker (λ (seat : SeatOf). log seat ≡ base) (HasReadSince base) (read-nothing base)
    before.reserve logs) in
    subst (IsTooSmallFor p) told.1 many.small

-- ---- lines were entered while others looked

-- What holds of the seats in reserve holds still of those that stayed, and as readers leave it of
-- theirs.
module _
    (m : MapOf) (P Q : SeatOf → Type 0) (stays : (seat : SeatOf) → P seat → Q seat)
    (looks :
    (before after : HandleOf) → HasOnlyLooked before after → before.map ≡ m → P before.seat
    → Q after.seat)
  where
    -- a reader,
    IsFresh : HandleOf → Type 0
    IsFresh handle = P handle.seat × (handle.reserve ≡ []) × (handle.map ≡ m)

    -- and one that has looked
    HasLooked : HandleOf → Type 0
    HasLooked handle = Q handle.seat × (handle.reserve ≡ [])

    looked-since : (before after : HandleOf) → HasOnlyLooked before after → IsFresh before → HasLooked after
    unfolding IsFresh HasLooked
    looked-since before after looked fresh =
        (looks before after looked fresh.2 fresh.0, looked.rest.reserve ∙ fresh.1)

    all-read : (readers : List HandleOf) → All HasLooked readers → All Q (all_seats readers)
    unfolding HasLooked
    all-read [] each = All-nil Q
    all-read (reader ∷ readers) each =
        let here = All-head HasLooked reader readers each in
        let rest = all-read readers (All-tail HasLooked reader readers each) in
        subst (λ reserve. All Q ((reader.seat ∷ reserve) ++ all_seats readers)) (sym here.1)
        (All-cons Q reader.seat (all_seats readers) here.0 rest)

    pub others-all :
        (before parted after : HandleOf) (readers readers' : List HandleOf) → before.map ≡ m
        → ArePartedFrom before parted readers → AllZip HasOnlyLooked readers readers'
        → KeepsRest parted after → All P before.reserve
        → All Q (after.reserve ++ all_seats readers')
    unfolding IsFresh
    others-all before parted after readers readers' same from looked rest all =
        let seats = map (λ (handle : HandleOf). handle.seat) readers in
        let parts = subst (All P) from.seats all in
        let known : All P seats
        = subst (All P) (reverse-reverse seats)
        (All-permutation P (reverse seats) (reverse (reverse seats))
        (IsPermutation-reverse (reverse seats)) (All-right P parted.reserve (reverse seats) parts)) in
        let each = All-unmap P (λ (handle : HandleOf). handle.seat) readers known in
        let fresh : All IsFresh readers = λ i d less. (
          each i d less,
          ap (λ (handle : HandleOf). handle.reserve) (from.each i d less),
          ap (λ (handle : HandleOf). handle.map) (from.each i d less) ∙ same,
        ) in
        All-append Q after.reserve (all_seats readers')
        (subst (All Q) (sym rest.reserve)
        (All-weaker P Q stays parted.reserve (All-left P parted.reserve (reverse seats) parts)))
        (all-read readers' (zip-all HasOnlyLooked IsFresh HasLooked looked-since readers readers' looked
        fresh))

-- each of a handle's seats has caught up
caught-up :
    (m : MapOf) (whole : List Entry) (before after : List SeatOf)
    → AllZip (HasCaughtUp m whole) before after → All (λ seat. log seat ≡ whole) after
caught-up m whole [] [] each = All-nil (λ (seat : SeatOf). log seat ≡ whole)
caught-up m whole [] (s' ∷ after) each = absurd each
caught-up m whole (s ∷ before) [] each = absurd each
caught-up m whole (s ∷ before) (s' ∷ after) (here, rest) =
    All-cons (λ (seat : SeatOf). log seat ≡ whole) s' after here.knows
    (caught-up m whole before after rest)

-- all seats that settle are there still
pub settled-whole :
    {size : ℕ} (before after : HandleOf) → IsSameMap before after
    → HaveSettled before.map (seats_of before) (seats_of after) size
    → ((IsWhole before → ⊥) → ⊥) → IsWhole after
settled-whole before after same settled whole =
    let m = before.map in
    let many = AllZip-long (HasCaughtUp m (log_of settled.tables.history)) (seats_of before)
    (seats_of after) settled.each in
    elim (cases_eq (length (seats_of before)) m.chain.shape.seats) [
      | inl all ↦ many ∙ all ∙ ap (λ (m : MapOf). m.chain.shape.seats) (sym same)
      | inr missing ↦ absurd (whole missing)
    ]

-- A handle was parted into readers, its seat has made these calls while they looked, and all seats
-- are gathered.
pub record HasGathered (made : List (Call × Reply)) (before last : HandleOf) : Type 0 where
  pub parted : HandleOf
  pub after : HandleOf
  pub readers : List HandleOf
  pub readers' : List HandleOf
  pub size : ℕ
  pub seat : parted.seat ≡ before.seat
  pub from : ArePartedFrom before parted readers
  pub looked : AllZip HasOnlyLooked readers readers'
  pub rest : KeepsRest parted after
  pub logged : HasLogged parted.seat after.seat made
  pub settled :
      HaveSettled before.map (after.seat ∷ after.reserve ++ all_seats readers') (seats_of last) size

abbrev pub gathered-from :
    (before parted after last : HandleOf) (readers readers' : List HandleOf) (size : ℕ)
    (made : List (Call × Reply)) → IsSameMap before parted × (parted.seat ≡ before.seat)
    → ArePartedFrom before parted readers → AllZip HasOnlyLooked readers readers'
    → KeepsRest parted after → HasLogged parted.seat after.seat made
    → HaveSettled after.map (after.seat ∷ after.reserve ++ all_seats readers') (seats_of last) size
    → HasGathered made before last
gathered-from before parted after last readers readers' size made same from looked rest logged settled =
    record {
      parted = parted;
      after = after;
      readers = readers;
      readers' = readers';
      size = size;
      seat = same.1;
      from = from;
      looked = looked;
      rest = rest;
      logged = logged;
      settled =
          subst (λ m. HaveSettled m (after.seat ∷ after.reserve ++ all_seats readers') (seats_of last) size)
          (rest.map ∙ same.0) settled;
    }

module _
    (made : List (Call × Reply)) (before last : HandleOf) (logs : HaveOneLog before)
    (done : HasGathered made before last)
  where
    base : List Entry
    base = log before.seat

    seats : List SeatOf
    seats = done.after.seat ∷ done.after.reserve ++ all_seats done.readers'

    its : HasMadeSince base made done.after.seat
    unfolding base
    its = record {
      later = done.logged.later;
      is =
          done.logged.grown ∙ ap (λ (s : SeatOf). done.logged.later ++ log s) done.seat;
      calls =
          ap (λ n. calls_of n done.logged.later) done.logged.number ∙ done.logged.own;
    }

    others-read : All (HasReadSince base) (done.after.reserve ++ all_seats done.readers')
    unfolding base
    others-read =
        others-all before.map (λ seat. log seat ≡ base) (HasReadSince base) (read-nothing base)
        (λ from to looked same knows. record {
          later = looked.logged.later;
          is = looked.logged.grown ∙ ap (λ log. looked.logged.later ++ log) knows;
          reads =
              subst (All IsRead) (sym (ap (λ n. calls_of n looked.logged.later) looked.logged.number
              ∙ looked.logged.own)) looked.reads;
        })
        before done.parted done.after done.readers done.readers' refl done.from done.looked done.rest
        logs

    -- The calls reply as a map does that nobody else writes. All seats know the map that they leave.
    pub gathered-all :
        HaveOneLog last × AreReplayed made (held before.seat)
        × (held last.seat ≡ map_after_calls made (held before.seat))
    unfolding base
    gathered-all =
        let settled = done.settled in
        let whole = log_of settled.tables.history in
        let told = gathered-told base made done.after.seat
        (done.after.reserve ++ all_seats done.readers')
        (as_left before.map.chain.shape settled.tables.history done.size) settled.ended its
        others-read in
        let all : All (λ seat. log seat ≡ whole) (seats_of last)
        = caught-up before.map whole (done.after.seat ∷ done.after.reserve ++ all_seats done.readers')
        (seats_of last) settled.each in (
          one-log whole last.seat last.reserve all,
          told.0,
          ap map_of_log (All-head (λ (seat : SeatOf). log seat ≡ whole) last.seat last.reserve all) ∙ told.1,
        )

    p : Plan
    p = before.map.chain.shape

    -- where the seat has claimed slots for some calls, and all others only for the map's keys, all
    -- have claimed slots for these calls
    all-claimed :
        (cs : List Call)
        → ((k : ℕ) → IsFilled (map put_entry (entries (held before.seat))) k → IsFilled cs k)
        → All (ClaimsOnly p (held before.seat)) (seats_of before)
        → HasAskedFor p cs done.after.seat.chain
        → All (λ seat. HasAskedFor p cs seat.chain) seats
    unfolding p seats
    all-claimed cs more claims own =
        let m = held before.seat in
        let Q : SeatOf → Type 0 = λ seat. HasAskedFor p cs seat.chain in
        All-cons Q done.after.seat (done.after.reserve ++ all_seats done.readers') own
        (others-all before.map (ClaimsOnly p m) Q
        (λ seat asked. claims-weaker p (map put_entry (entries m)) cs seat.chain more asked)
        (λ from to looked same asked.
        claims-weaker p (map put_entry (entries m)) cs to.seat.chain more
        (subst (λ (map : MapOf). HasClaimedBy map.chain.shape [] from.seat to.seat) same looked.claims
        (map put_entry (entries m)) asked))
        before done.parted done.after done.readers done.readers' refl done.from done.looked done.rest
        (All-tail (ClaimsOnly p m) before.seat before.reserve claims))

    -- once the seat has made puts, all seats have claimed slots for the map's keys alone
    pub gathered-claims :
        All PutsIfAbsent made → HasClaimedBy before.map.chain.shape (calls_in made) done.parted.seat done.after.seat
        → All (ClaimsOnly before.map.chain.shape (held before.seat)) (seats_of before)
        → All (ClaimsOnly before.map.chain.shape (held last.seat)) (seats_of last)
    unfolding p seats
    gathered-claims puts its_claims claims =
        let m = held before.seat in
        let cs = calls_in made ++ map put_entry (entries m) in
        let first : ClaimsOnly p m done.parted.seat
        = subst (ClaimsOnly p m) (sym done.seat) (All-head (ClaimsOnly p m) before.seat before.reserve claims) in
        let own : HasAskedFor p cs done.after.seat.chain
        = its_claims (map put_entry (entries m)) first in
        let settled = done.settled in
        let caught = claims-caught before.map (log_of settled.tables.history) cs settled.left.left.plan
        (done.after.seat ∷ done.after.reserve ++ all_seats done.readers') (seats_of last) settled.each
        (all-claimed cs (λ k filled. filled-later (calls_in made) (map put_entry (entries m)) k filled)
        claims own) in
        let more : (k : ℕ) → IsFilled cs k → IsFilled (map put_entry (entries (held last.seat))) k
        = λ k filled. has-filled (held last.seat) k
        (ap (λ (m : Numbers). is_some (get m k)) gathered-all.2 ∙ puts-fill made m puts k filled) in
        All-weaker (λ (seat : SeatOf). HasAskedFor p cs seat.chain) (ClaimsOnly p (held last.seat))
        (λ seat asked. claims-weaker p cs (map put_entry (entries (held last.seat))) seat.chain more
        asked) (seats_of last) caught

    -- Where then a put was refused, the last table has no more slots than the map has other keys.
    pub gathered-crowded :
        All PutsIfAbsent made → (then : SeatOf) (key : ℕ)
        → HasClaimedBy before.map.chain.shape (calls_in made) done.parted.seat then
        → HasNoSlot before.map.chain.shape key then done.after.seat
        → All (ClaimsOnly before.map.chain.shape (held before.seat)) (seats_of before)
        → size_of before.map.chain.shape (generations_of before.map.chain.shape - 1)
        + cond (is_some (get (held last.seat) key)) 1 0 ≤ len (held last.seat)
    unfolding p seats
    gathered-crowded puts then key its_claims full claims =
        let m = held before.seat in
        let put = put_if_absent_of key full.number in
        let cs = calls_in made ++ map put_entry (entries m) in
        let last_puts = map put_entry (entries (held last.seat)) in
        let first : ClaimsOnly p m done.parted.seat
        = subst (ClaimsOnly p m) (sym done.seat) (All-head (ClaimsOnly p m) before.seat before.reserve claims) in
        let more : (k : ℕ) → IsFilled (put ∷ cs) k → IsFilled (put ∷ last_puts) k
        = λ k filled. elim filled [
          | inl here ↦ inl here
          | inr there ↦
              inr (has-filled (held last.seat) k
              (ap (λ (m : Numbers). is_some (get m k)) gathered-all.2 ∙ puts-fill made m puts k there))
        ] in
        let own : HasAskedFor p (put ∷ last_puts) done.after.seat.chain
        = claims-weaker p (put ∷ cs) (put ∷ last_puts) done.after.seat.chain more
        (full.claims cs (its_claims (map put_entry (entries m)) first)) in
        let all = all-claimed (put ∷ last_puts)
        (λ k filled. more k (inr (filled-later (calls_in made) (map put_entry (entries m)) k filled)))
        claims own in
        let settled = done.settled in
        let history = settled.tables.history in
        let Q : SeatOf → Type 0
        = λ seat. HasSeen history seat.chain.number seat.chain.seen
        × HasAskedFor p (put ∷ last_puts) seat.chain in
        let both : All Q seats = λ i d less. (settled.left.seen i d less, all i d less) in
        let asked : (n : ℕ) → n < p.seats → HasAskedIn p (put ∷ last_puts) history n
        = λ n less.
        let found = seat-numbered Q n seats
        (sym (count-map (λ (seat : SeenBy). seat.number == n) (λ (seat : SeatOf). seat.chain) seats)
        ∙ settled.tables.once n less) both in
        record {
          seat = found.0.chain;
          number = found.1;
          asked = found.2.1;
          seen = subst (λ n. HasSeen history n found.0.chain.seen) found.1 found.2.0;
        } in
        let seen = (All-head Q done.after.seat (done.after.reserve ++ all_seats done.readers') both).0 in
        let few = crowded_by_calls p settled.left.left.plan (put ∷ last_puts) history
        settled.left.left.legal asked done.after.seat.chain.seen
        (record { later = seen.later; is = seen.is }) key full.crowded in
        omega (arith, few, others-few (held last.seat) key full.number)

-- ---- lines were entered

-- the texts have become those with these lines, the map is an index of them, and all seats know all
pub entered-gathered :
    (keys : List ℕ → ℕ → ℕ) (before last : HandleOf) (texts texts' lines : List (List ℕ))
    (logs : HaveOneLog before) (parted after : SeatOf)
    (entered : HasEntered before.map.chain.shape keys parted after texts texts' lines)
    (done : HasGathered entered.made before last) → IsIndex keys texts (held before.seat)
    → HaveOneLog last × IsIndex keys texts' (held last.seat) × (texts' ≡ with_new_lines texts lines)
entered-gathered keys before last texts texts' lines logs parted after entered done index =
    let all = gathered-all entered.made before last logs done in
    let told = entered.told (held before.seat) all.1 index in
    (all.0, subst (IsIndex keys texts') (sym all.2) told.0, told.1)

-- ---- a line found no room

longer-new :
    (known : List (List ℕ)) (line : List ℕ) (left : List (List ℕ)) → is_among line known ≡ false
    → length known < length (with_new_lines known (line ∷ left))
longer-new known line left new =
    rw new (omega (arith, with-longer (known ++ line ∷ []) left, length-append known (line ∷ [])))

-- where other keys have all slots that a key might take, there are more than so many texts with the
-- line
past-room :
    (known : List (List ℕ)) (line : List ℕ) (left : List (List ℕ)) (m : Numbers) (key room : ℕ)
    → room + cond (is_some (get m key)) 1 0 ≤ len m → len m ≡ length known
    → (get m key ≡ None → is_among line known ≡ false)
    → room < length (with_new_lines known (line ∷ left))
past-room known line left m key room few count new = of (get m key) refl
  where
    of : (o : Option ℕ) → get m key ≡ o → room < length (with_new_lines known (line ∷ left))
    of None at =
        let one = ap {B = ℕ} (λ o. cond (is_some o) 1 0) at in
        omega (arith, few, one, count, longer-new known line left (new at))
    of (Some v) at =
        let one = ap {B = ℕ} (λ o. cond (is_some o) 1 0) at in
        omega (arith, few, one, count, with-longer known (line ∷ left))

-- so with all lines there are more texts than the map had room for
pub stopped-gathered :
    (keys : List ℕ → ℕ → ℕ) (before last : HandleOf) (texts lines : List (List ℕ)) (room : ℕ)
    (logs : HaveOneLog before) (parted after : SeatOf)
    (stopped : HasNoRoomFor before.map.chain.shape keys parted after texts lines)
    → ((made : List (Call × Reply)) → HasLogged parted after made
    → (done : HasGathered made before last) × (done.parted.seat ≡ parted) × (done.after.seat ≡ after))
    → IsIndex keys texts (held before.seat)
    → All (ClaimsOnly before.map.chain.shape (held before.seat)) (seats_of before)
    → HasRoomFor before.map.chain.shape room → room ≤ MOST_KEYS
    → room < length (with_new_lines texts lines)
stopped-gathered keys before last texts lines room logs parted after stopped gather index claims has most =
    let entered = stopped.entered in
    let known = stopped.known in
    let made = entered.made in
    let rest = stopped.line ∷ stopped.left in
    let whole : known ≡ with_new_lines texts stopped.done
    → length (with_new_lines texts lines) ≡ length (with_new_lines known rest)
    = λ is. ap length (ap (with_new_lines texts) stopped.are ∙ with-append texts stopped.done rest
    ∙ ap (λ known. with_new_lines known rest) (sym is)) in
    elim stopped.full [
      | inl none ↦
          let key = keys stopped.line stopped.tries in
          let done = gather made (logs_add_up.more entered.logged none.logged) in
          let all = gathered-all made before last logs done.0 in
          let told = entered.told (held before.seat) all.1 index in
          let count : len (held last.seat) ≡ length known = ap len all.2 ∙ told.0.keys in
          let crowd = gathered-crowded made before last logs done.0 entered.puts stopped.then key
          (subst (λ (s : SeatOf). HasClaimedBy before.map.chain.shape (calls_in made) s stopped.then)
          (sym done.1) entered.claims)
          (subst (HasNoSlot before.map.chain.shape key stopped.then) (sym done.2) none) claims in
          let past = past-room known stopped.line stopped.left (held last.seat) key room
          (omega (arith, has, crowd)) count
          (λ none. stopped.new (held before.seat) all.1 index
          (ap (λ (m : Numbers). get m key) (sym all.2) ∙ none)) in
          omega (arith, past, whole told.1)
      | inr many ↦
          let done = gather made
          (subst (λ s. HasLogged parted s made) many.0 entered.logged) in
          let all = gathered-all made before last logs done.0 in
          let told = entered.told (held before.seat) all.1 index in
          let most_keys : MOST_KEYS ≡ 178956970 = refl in
          omega (
            arith,
            most,
            most_keys,
            whole told.1,
            many.1 (held before.seat) all.1 index,
            with-longer known rest,
          )
    ]
