-- A handle that has the only seat of its map.
use Rattle.std.proofs.Common.{◌≡◌, ◌∙◌, ◌==◌, ◌<◌, ◌≤◌, ◌+◌, ◌-◌, ◌&&◌, ◌^◌, drop, ℕ, zero, suc, Bool, true, false, not, cond, eqb, List, [], ◌∷◌, ◌++◌, length, map, filter, take, ap, ap₂, refl, sym, subst, inl, inr, arith}
use Rattle.std.specs.FinMap as numbers
use Rattle.std.specs.List.{All, AllZip, count_by, range_with_len}
use Rattle.std.specs.Prelude.{Err, IfErr, IfOk, Ok, OnErr, Option, Result}
use Rattle.std.specs.Set.{distinct_count, is_member, unique_keys}
use Rattle.std.proofs.lemmas.Bool.{eq-eqb}
use Rattle.std.proofs.lemmas.List.Elements.{All-cons, All-head, All-nil, All-tail}
use Rattle.std.proofs.lemmas.List.Sums.{sum_by-cons}
use Rattle.nb_core.proofs.Theorems.{log_is_replayed}
use Rattle.nb_core.specs.Calls.{overflows}
use Rattle.nb_core.specs.History.{key_of_call}
use Rattle.nb_core.specs.Laws.{HasLog}
use Rattle.nb_core.specs.Log.{Entry, calls_of, log_of, map_of_log, reply_at}
use Rattle.nb_core.specs.Meaning.{IsCrowded, is_win_of_another}
use Rattle.nb_core.specs.Plans.{Plan}
use Rattle.nb_core.specs.declared.calls.Call.TheVariants.{Get}
use Rattle.nb_core.specs.declared.calls.Call.{Call}
use Rattle.nb_core.specs.declared.calls.Reply.{Reply}
use Rattle.nb_core.specs.declared.events.Event.{Event}
use Rattle.nb_core.specs.declared.events.Event.TheVariants.{Read, Won}
use Rattle.nb_core.specs.declared.shapes.TheConstants.{MAX_EXPONENT}
use Rattle.nb_map.proofs.Theorems.{asks_add_up, crowded_by_calls, one_seat}
use Rattle.nb_map.specs.Bulk.{put_entry}
use Rattle.nb_map.specs.Crowding.{HasAskedFor, fills, others_filled}
use Rattle.nb_map.specs.Ending.{EndedOf, EndedWith, HasAll, log_left, map_left}
use Rattle.nb_map.specs.Entries.{AreEntriesOf, HaveListed, HaveOnlyRead, IsRead}
use Rattle.nb_map.specs.Handles.{HandleOf, IsSameMap, IsWhole, KeepsRest, seats_of}
use Rattle.nb_map.specs.Logs.{HasLogged, log}
use Rattle.nb_map.specs.Maps.{HasWorked, IsMine, MapOf, SeatOf, new_seats}
use Rattle.nb_map.specs.OneSeat.{IsOnly, entry_of_first}
use Rattle.nb_map.specs.Progress.{Tries, passed_since}
use Rattle.nb_map.specs.Promises.{HasGot, HasWritten, replied_or_refused}
use Rattle.nb_map.specs.Renewing.{HasRenewed, HasTooMany, IsKept}
use Rattle.nb_map.specs.Settling.{HasCaughtUp, HaveSettled}
use Rattle.nb_map.specs.declared.faults.PutFault.{PutFault}
use Rattle.nb_map.specs.declared.faults.PutFault.TheVariants as fault
use Rattle.nb_lasting.specs.Lasting.{Finds, HasSlots, IsMadeOn, last_size}
use Rattle.nb_lasting.specs.inside.Present.{IsAlone, IsFresh, IsRefusedHere, content, keys_in}

-- ---- entries of the first seat

abbrev IsFirstEntry : Entry → Type 0
IsFirstEntry entry = entry.seat < 1

-- all entries of the log that the only seat knows are its own
firsts : (handle : HandleOf) → IsAlone handle → All IsFirstEntry (log handle.seat)
firsts handle alone =
    let chain = alone.only.mine.chain in
    let has : HasLog handle.map.chain.shape handle.seat.chain.seen =
    log_is_replayed handle.map.chain.shape chain.plan handle.seat.chain.seen chain.legal in
    subst (λ n. All (λ (entry : Entry). entry.seat < n) (log handle.seat)) alone.only.seats
    has.seats

-- where it has called nothing more, nothing has come
none-later :
    (later : List Entry) → All IsFirstEntry later → calls_of 0 later ≡ [] → later ≡ []
none-later [] all none = refl
none-later (entry ∷ later) all none =
    let first : entry.seat ≡ 0 = omega (arith, All-head IsFirstEntry entry later all) in
    let some : (entry.call, entry.reply) ∷ calls_of 0 later ≡ [] =
    ap (λ b. cond b ((entry.call, entry.reply) ∷ calls_of 0 later) (calls_of 0 later))
    (sym (eq-eqb entry.seat 0 first)) ∙ none in
    absurd cc

-- ---- other seats' exchanges: there is none

not-another : (b : Bool) → (b && not true) ≡ false
not-another true = refl
not-another false = refl

no-win :
    (k : ℕ) (e : Event) (h : List Event) → All IsFirstEntry (log_of (e ∷ h))
    → (is_win_of_another k 0 e ≡ false) × All IsFirstEntry (log_of h)
no-win k (Won s g i a b c r) h all =
    let entry : Entry = record { seat = s; call = c; reply = r } in
    let less : s < 1 = All-head IsFirstEntry entry (log_of h) all in
    let first : s ≡ 0 = omega (arith, less) in (
      ap (λ own. (key_of_call c == k) && not own) (eq-eqb s 0 first)
          ∙ not-another (key_of_call c == k),
      All-tail IsFirstEntry entry (log_of h) all,
    )
no-win k (Read s c r) h all =
    let entry : Entry = record { seat = s; call = c; reply = r } in
    (refl, All-tail IsFirstEntry entry (log_of h) all)
no-win k e h all = (refl, all)

no-wins :
    (k count : ℕ) (h : List Event) → All IsFirstEntry (log_of h)
    → count_by (is_win_of_another k 0) (take count h) ≡ 0
no-wins k zero h all = refl
no-wins k (suc count) [] all = refl
no-wins k (suc count) (e ∷ h) all =
    let here = no-win k e h all in
    sum_by-cons (λ e. cond (is_win_of_another k 0 e) 1 0) e (take count h)
    ∙ ap₂ (λ b more. cond b 1 0 + more) here.0 (no-wins k count h here.1)

-- ---- how many keys calls fill

few-distinct : (xs : List ℕ) → distinct_count eqb xs ≤ length xs
few-distinct [] = omega arith
few-distinct (x ∷ xs) = of (is_member eqb xs x) (few-distinct xs)
  where
    of : (b : Bool) → distinct_count eqb xs ≤ length xs
        → length (cond b (unique_keys eqb xs) (x ∷ unique_keys eqb xs)) ≤ suc (length xs)
    of true few = omega (arith, few)
    of false few = omega (arith, few)

few-others : (k : ℕ) (xs : List ℕ) → length (filter (λ j. not (j == k)) xs) ≤ length xs
few-others k [] = omega arith
few-others k (x ∷ xs) = of (x == k) (few-others k xs)
  where
    others : List ℕ
    others = filter (λ j. not (j == k)) xs

    of : (b : Bool) → length others ≤ length xs
        → length (cond (not b) (x ∷ others) others) ≤ suc (length xs)
    of true few = omega (arith, few)
    of false few = omega (arith, few)

keys-filled :
    (entries : List (ℕ × ℕ))
    → map key_of_call (filter fills (map put_entry entries)) ≡ map (λ entry. entry.0) entries
keys-filled [] = refl
keys-filled (entry ∷ entries) = ap (λ ks. entry.0 ∷ ks) (keys-filled entries)

length-keys : (entries : List (ℕ × ℕ)) → length (map (λ entry. entry.0) entries) ≡ length entries
length-keys [] = refl
length-keys (entry ∷ entries) = ap suc (length-keys entries)

-- beside the key of a call that fills it, these puts fill at most a key each
few-filled :
    (call : Call) (entries : List (ℕ × ℕ)) → fills call ≡ true
    → others_filled (key_of_call call) (call ∷ map put_entry entries) ≤ length entries
few-filled call entries filled =
    let k : ℕ = key_of_call call in
    let keys : List ℕ = map key_of_call (filter fills (map put_entry entries)) in
    let own : others_filled k (call ∷ map put_entry entries)
    ≡ distinct_count eqb (filter (λ j. not (j == k)) keys) =
    ap (λ b. distinct_count eqb (filter (λ j. not (j == k)) (map key_of_call
    (cond b (call ∷ filter fills (map put_entry entries)) (filter fills (map put_entry entries))))))
    filled
    ∙ ap (λ b. distinct_count eqb (cond (not b) (k ∷ filter (λ j. not (j == k)) keys)
    (filter (λ j. not (j == k)) keys))) (eq-eqb k k refl) in
    let few = few-distinct (filter (λ j. not (j == k)) keys) in
    let fewer = few-others k keys in
    let as-many = ap length (keys-filled entries) ∙ length-keys entries in
    omega (arith, own, few, fewer, as-many)

-- ---- a call of the handle

module _ (before after : HandleOf) (alone : IsAlone before) (rest : KeepsRest before after) where
  mine-still : IsMine before.map after.seat → IsMine after.map after.seat
  mine-still mine = subst (λ m. IsMine m after.seat) (sym rest.map) mine

  pub alone-logged :
      {made : List (Call × Reply)} → IsMine before.map after.seat
      → HasLogged before.seat after.seat made → IsAlone after
  alone-logged mine logged = record {
    only = subst (λ m. IsOnly m after.seat) (sym rest.map)
        (one_seat.logged alone.only mine logged).1;
    none_else = rest.reserve ∙ alone.none_else;
  }

-- what a read does
pub got-alone :
    (before after : HandleOf) (key : ℕ) (found : Option ℕ) → IsAlone before
    → KeepsRest before after → HasGot before.map key before.seat after.seat found
    → IsAlone after × Finds (Get key) (content before) (content after) found
got-alone before after key found alone rest got =
    let is = one_seat.replied alone.only got.own got.replied in (
      alone-logged before after alone rest got.own got.replied,
      (reply_at (Get key) found, refl, record { replied = is.0; left = is.1 }),
    )

-- where the new map has claimed slots for its own keys alone, another key finds it full only where
-- its keys are as many
crowded-by :
    (before : HandleOf) (seat : SeatOf) (call : Call) (most : ℕ) → IsAlone before
    → IsMine before.map seat → seat.chain.number ≡ 0 → fills call ≡ true
    → HasAskedFor before.map.chain.shape (map put_entry (numbers.entries (content before)))
    before.seat.chain
    → HasWorked before.map call before.seat seat most
    → IsCrowded before.map.chain.shape seat.chain.seen (key_of_call call)
    → last_size before.map.chain.shape ≤ keys_in before
crowded-by before seat call most alone mine number filled asked worked crowded =
    let p : Plan = before.map.chain.shape in
    let entries : List (ℕ × ℕ) = numbers.entries (content before) in
    let calls : List Call = call ∷ map put_entry entries in
    let asked' : HasAskedFor p calls seat.chain =
    asks_add_up.more mine.chain.plan (λ k here. inr here) (λ fill. inl (fill, refl)) asked
    worked.steps in
    let few = crowded_by_calls p mine.chain.plan calls seat.chain.seen mine.chain.legal
    (λ n less. record {
      seat = seat.chain;
      number = omega (arith, less, number, alone.only.seats);
      asked = asked';
      seen = record {
        later = [];
        is = refl;
        others = All-nil _;
      };
    })
    seat.chain.seen (record { later = []; is = refl }) (key_of_call call) crowded in
    omega (arith, few, few-filled call entries filled)

-- what a write does
pub wrote-alone :
    (before after : HandleOf) (call : Call) (result : Result Reply PutFault) → IsAlone before
    → KeepsRest before after
    → HasWritten before.map call before.seat after.seat (Tries 1) (replied_or_refused result)
    → IsAlone after × IfOk result (IsMadeOn call (content before) (content after))
    × OnErr result (content after ≡ content before) × IfErr result (IsRefusedHere call before)
wrote-alone before after call (Ok reply) alone rest wrote =
    let is = one_seat.replied alone.only wrote.own wrote.answered in (
      alone-logged before after alone rest wrote.own wrote.answered,
      record { replied = is.0; left = is.1 },
      tt,
      tt,
    )
wrote-alone before after call (Err fault.Full) alone rest wrote =
    let just = wrote.answered.just in
    let filled : fills call ≡ true = ap not just.0 in (
      alone-logged before after alone rest wrote.own wrote.answered.unmade,
      tt,
      one_seat.quiet alone.only wrote.own wrote.answered.unmade,
      (
        (
          just.0,
          one_seat.full alone.only wrote.own wrote.answered.unmade (key_of_call call) just.1,
        ),
        λ fresh.
            let few = crowded-by before after.seat call _ alone wrote.own
            (wrote.answered.unmade.number ∙ alone.only.first) filled fresh.asked wrote.non_blocking
            just.1 in
            elim fresh.room [
              | inl more ↦ absurd (omega (arith, more, few))
              | inr great ↦ omega (arith, great, few)
            ],
      ),
    )
wrote-alone before after call (Err fault.Contended) alone rest wrote =
    let none : passed_since call before.seat.chain after.seat.chain ≡ 0 =
    ap (λ n. count_by (is_win_of_another (key_of_call call) n)
    (take (length after.seat.chain.seen - length before.seat.chain.seen) after.seat.chain.seen))
    alone.only.first
    ∙ no-wins (key_of_call call)
    (length after.seat.chain.seen - length before.seat.chain.seen) after.seat.chain.seen
    (firsts after (alone-logged before after alone rest wrote.own wrote.answered.unmade)) in
    absurd (omega (arith, none, wrote.answered.just))
wrote-alone before after call (Err fault.ValueRange) alone rest wrote =
    let quiet = one_seat.quiet alone.only wrote.own wrote.answered.unmade in (
      alone-logged before after alone rest wrote.own wrote.answered.unmade,
      tt,
      quiet,
      subst (λ m. overflows call m ≡ true) quiet wrote.answered.just,
    )

-- ---- all seats are the one

-- what is left is what it knew
pub ended-alone :
    (handle : HandleOf) (ended : EndedOf) → IsAlone handle → EndedWith (seats_of handle) ended
    → map_left ended ≡ content handle
ended-alone handle ended alone left =
    let one : EndedWith (handle.seat ∷ []) ended =
    subst (λ reserve. EndedWith (handle.seat ∷ reserve) ended) alone.none_else left in
    let has = All-head (HasAll (log_left ended)) handle.seat [] one.logs in
    let made : All IsFirstEntry (log_left ended) = one.made in
    let later : has.later ≡ [] =
    none-later has.later (first-part has.later (log handle.seat)
    (subst (All IsFirstEntry) has.is made))
    (ap (λ n. calls_of n has.later) (sym alone.only.first) ∙ has.others) in
    ap map_of_log (has.is ∙ ap (λ l. l ++ log handle.seat) later)
  where
    first-part :
        (xs ys : List Entry) → All IsFirstEntry (xs ++ ys) → All IsFirstEntry xs
    first-part [] ys all = All-nil IsFirstEntry
    first-part (x ∷ xs) ys all = All-cons IsFirstEntry x xs (All-head IsFirstEntry x (xs ++ ys) all)
        (first-part xs ys (All-tail IsFirstEntry x (xs ++ ys) all))

-- the handle is whole
pub whole-alone : (handle : HandleOf) → IsAlone handle → IsWhole handle
whole-alone handle alone =
    ap (λ reserve. suc (length reserve)) alone.none_else ∙ sym alone.only.seats

-- reads leave the map
reads-leave :
    (made : List (Call × Reply)) (past : List Entry) → All IsRead made
    → map_of_log (map entry_of_first made ++ past) ≡ map_of_log past
reads-leave [] past reads = refl
reads-leave (newest ∷ made) past reads =
    let is = All-head IsRead newest made reads in
    rw is.2 (reads-leave made past (All-tail IsRead newest made reads))

-- what a refused renewal, or a listing, leaves
pub kept-alone :
    (before after : HandleOf) → IsAlone before → IsKept before after
    → IsAlone after × (content after ≡ content before)
kept-alone before after alone (inl same) =
    (subst IsAlone (sym same) alone, ap content same)
kept-alone before after alone (inr (same, reads)) =
    let none = none-after before.map after.reserve (subst (λ reserve.
    HaveOnlyRead before.map reserve after.reserve) alone.none_else reads.1) in
    let read = reads.0 in
    let is = one_seat.logged alone.only read.own read.logged in (
      record {
        only = subst (λ m. IsOnly m after.seat) (sym same) is.1;
        none_else = none;
      },
      ap map_of_log is.0 ∙ reads-leave read.made (log before.seat) read.reads,
    )
  where
    none-after : (m : MapOf) (reserve : List SeatOf) → HaveOnlyRead m [] reserve → reserve ≡ []
    none-after m [] each = refl
    none-after m (seat ∷ reserve) each = absurd each

-- what settling leaves, and tells
pub settled-alone :
    (before after : HandleOf) (size : ℕ) → IsAlone before → IsSameMap before after
    → HaveSettled before.map (seats_of before) (seats_of after) size
    → IsAlone after × (content after ≡ content before) × (size ≡ keys_in before)
settled-alone before after size alone same settled =
    let whole : List Entry = log_of settled.tables.history in
    let caught = settled.each.0 in
    let quiet = one_seat.quiet alone.only caught.own caught.logged in
    let none = none-after whole before.map after.reserve (subst (λ reserve.
    AllZip (HasCaughtUp before.map whole) reserve after.reserve) alone.none_else settled.each.1) in (
      record {
        only = subst (λ m. IsOnly m after.seat) (sym same)
            (one_seat.logged alone.only caught.own caught.logged).1;
        none_else = none;
      },
      quiet,
      settled.keys ∙ ap (λ l. length (numbers.entries (map_of_log l))) (sym caught.knows)
          ∙ ap (λ m. length (numbers.entries m)) quiet,
    )
  where
    none-after : (whole : List Entry) (m : MapOf) (reserve : List SeatOf)
        → AllZip (HasCaughtUp m whole) [] reserve → reserve ≡ []
    none-after whole m [] each = refl
    none-after whole m (seat ∷ reserve) each = absurd each

-- what a listing tells
pub listed-alone :
    (before after : HandleOf) (entries : List (ℕ × ℕ)) → IsAlone before
    → HaveListed (seats_of before) (seats_of after) entries
    → AreEntriesOf (content before) entries
listed-alone before after entries alone listed =
    subst (λ m. AreEntriesOf m entries) (ended-alone before listed.ended alone listed.left)
    listed.all

-- what a new map is
pub opened-alone :
    (m : MapOf) (p : Plan) (handle : HandleOf) → handle.map ≡ m → m.chain.shape ≡ p → p.seats ≡ 1
    → seats_of handle ≡ new_seats m p.seats → IsMine handle.map handle.seat
    → log handle.seat ≡ []
    → IsAlone handle × (content handle ≡ numbers.empty)
opened-alone m p handle same shape one seats mine none =
    let all : seats_of handle ≡ new_seats m 1 = seats ∙ ap (new_seats m) one in (
      record {
        only = record {
          seats = ap (λ (m : MapOf). m.chain.shape.seats) same ∙ ap (λ (p : Plan). p.seats) shape
              ∙ one;
          first = ap (λ seats. number-of seats) all;
          mine = mine;
        };
        none_else = ap (drop 1) all;
      },
      ap map_of_log none,
    )
  where
    number-of : List SeatOf → ℕ
    number-of [] = 0
    number-of (seat ∷ seats) = seat.chain.number

-- what a renewed map is
pub renewed-alone :
    (p : Plan) (before after : HandleOf) → IsAlone before → p.seats ≡ 1
    → HasSlots (keys_in before) p → HasRenewed p before after → IsMine after.map after.seat
    → IsAlone after × (content after ≡ content before) × IsFresh after
renewed-alone p before after alone one room renewed mine =
    let begun = renewed.begun.begun in
    let same : content after ≡ content before =
    ap map_of_log (All-head (λ (seat : SeatOf). log seat ≡ begun.whole) after.seat after.reserve
    begun.logs)
    ∙ begun.leaves ∙ ended-alone before renewed.ended alone renewed.left in
    let shape : after.map.chain.shape ≡ p = renewed.begun.made.shape in
    let seats : after.map.chain.shape.seats ≡ 1 = ap (λ (p : Plan). p.seats) shape ∙ one in
    let numbers-are : map (λ (seat : SeatOf). seat.chain.number) (seats_of after) ≡ 0 ∷ [] =
    begun.numbered ∙ ap (range_with_len 0) seats in (
      record {
        only = record { seats = seats; first = ap first-of numbers-are; mine = mine };
        none_else = none-left after.reserve (ap (drop 1) numbers-are);
      },
      same,
      record {
        asked = subst (λ m. HasAskedFor after.map.chain.shape
            (map put_entry (numbers.entries m)) after.seat.chain)
            (sym (ended-alone before renewed.ended alone renewed.left) ∙ sym begun.leaves
            ∙ ap map_of_log (sym (All-head (λ (seat : SeatOf). log seat ≡ begun.whole) after.seat
            after.reserve begun.logs)))
            (subst (λ m. HasAskedFor after.map.chain.shape
            (map put_entry (numbers.entries m)) after.seat.chain)
            (ended-alone before renewed.ended alone renewed.left)
            (All-head (λ (seat : SeatOf). HasAskedFor after.map.chain.shape
            (map put_entry (numbers.entries (map_left renewed.ended))) seat.chain) after.seat
            after.reserve begun.claimed));
        room = subst (λ q. HasSlots (keys_in after) q) (sym shape)
            (subst (λ m. HasSlots (length (numbers.entries m)) p) (sym same) room);
      },
    )
  where
    first-of : List ℕ → ℕ
    first-of [] = 0
    first-of (n ∷ ns) = n

    none-left : (reserve : List SeatOf) → map (λ (seat : SeatOf). seat.chain.number) reserve ≡ []
        → reserve ≡ []
    none-left [] none = refl
    none-left (seat ∷ reserve) none = absurd cc

-- why a new map is too small
pub too-many :
    (p : Plan) (before : HandleOf) → IsAlone before → HasSlots (keys_in before) p
    → HasTooMany p before
    → 2 ^ MAX_EXPONENT ≤ keys_in before
too-many p before alone room many =
    let few : last_size p < length (numbers.entries (map_left many.ended)) = many.small in
    let same = ap (λ m. length (numbers.entries m))
    (ended-alone before many.ended alone many.left) in
    elim room [
      | inl more ↦ absurd (omega (arith, more, few, same))
      | inr great ↦ omega (arith, great, few, same)
    ]

-- a shape with slots for more keys has them for these
pub has-room :
    (p : Plan) (keys : ℕ) (handle : HandleOf) → keys_in handle ≤ keys → HasSlots keys p
    → HasSlots (keys_in handle) p
has-room p keys handle few (inl more) = inl (omega (arith, few, more))
has-room p keys handle few (inr great) = inr great
