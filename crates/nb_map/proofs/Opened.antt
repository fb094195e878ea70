-- A map that has entries from the start: what its seats know, and when it has too few slots.
use Rattle.std.proofs.Common.{◌≡◌, ◌≢◌, ◌∙◌, ℕ, zero, suc, ◌==◌, ◌+◌, ◌-◌, ◌<◌, ◌≤◌, ◌&&◌, ◌||◌, not, Bool, true, false, cond, eqb, List, [], ◌∷◌, ◌++◌, length, length-append, map, filter, drop, reverse, take, All, is_some, ap, ap₂, sym, subst, refl, inl, inr, ◌⊎◌, arith}
use Rattle.std.specs.FinMap as numbers
use Rattle.std.specs.FinMap.{contains_key-keys, from_entries, get, get-from_entries, len, len-empty, len-entries, len-insert}
use Rattle.std.specs.FinMap.Entries.{is_some-find}
use Rattle.std.specs.Cmp.{nat_cmp_total, nat_eq_equiv, unsigned_tied}
use Rattle.std.specs.List.{AllZip, count_by, list_any, range_with_len}
use Rattle.std.specs.Ordering.{eq_by_cmp, nat_cmp}
use Rattle.std.specs.Prelude.{nat_lt}
use Rattle.std.specs.Set.{distinct_count, is_member, unique_keys}
use Rattle.std.proofs.lemmas.Bool.{cases_Bool, eq-eqb, eqb-true, ltb-true, ne_eqb, or_left, or_right}
use Rattle.std.proofs.lemmas.List.{append-nil, map-append}
use Rattle.std.proofs.lemmas.List.Elements.{All-append, All-cons, All-head, All-map, All-nil, All-tail, All-weaker}
use Rattle.std.proofs.lemmas.List.Sums.{sum_by-cons}
use Rattle.std.proofs.lemmas.List.FromFn.{length-map-range_with_len}
use Rattle.std.proofs.lemmas.Map.Made.{is_member-filter}
use Rattle.nb_core.proofs.Seating.{All-left, All-numbered, All-right, All-unmap}
use Rattle.nb_core.specs.History.{key_of_call}
use Rattle.nb_core.specs.Log.{Entry, Numbers, calls_of, log_of, map_after, map_of_log}
use Rattle.nb_core.specs.Meaning.{is_win_of_another, passed_over}
use Rattle.nb_core.specs.Plans.{IsPlan, Plan, generations_of, size_of}
use Rattle.nb_core.specs.Tables.{tables_at}
use Rattle.nb_core.specs.declared.calls.Call.{Call}
use Rattle.nb_core.specs.declared.calls.Reply.{Reply}
use Rattle.nb_core.specs.declared.events.Event.{Event}
use Rattle.nb_core.specs.declared.events.Event.TheVariants.{Claim, Read, Won}
use Rattle.nb_core.specs.declared.numbers.TheConstants.{VALUE_MAX}
use Rattle.nb_table.specs.Chains.{KnowsTop, SeenBy, own_events}
use Rattle.nb_table.specs.Settling.{caught_up}
use Rattle.nb_table.specs.Views.{HasSeen}
use Rattle.nb_map.proofs.Alone.{all-its, entries-by, entry_by, seat-numbered, whole-is}
use Rattle.nb_map.proofs.Crowding.{asks_add_up, crowded_by_calls}
use Rattle.nb_map.proofs.Filled.{claims-more, entry-filled}
use Rattle.nb_map.proofs.Logged.{logged-then}
use Rattle.nb_map.specs.Bulk.{put_entry}
use Rattle.nb_map.specs.Crowding.{HasAskedFor, HasAskedIn, IsClaimOf, IsFilled, fills, others_filled}
use Rattle.nb_map.specs.Ending.{HasAll}
use Rattle.nb_map.specs.Logs.{HasLogged, log}
use Rattle.nb_map.specs.Maps.{IsMine, MapOf, SeatOf, new_seat, new_seats}
use Rattle.nb_map.specs.Progress.{Tries, passed_since}
use Rattle.nb_map.specs.Opening.{HaveBegunWith, IsTooSmallFor, map_of_entries}
use Rattle.nb_map.specs.Refusals.{HasRefused}
use Rattle.nb_map.specs.Settling.{HasCaughtUp, HaveSettled, as_left}
use Rattle.nb_map.specs.declared.faults.PutFault.{PutFault}
use Rattle.nb_map.specs.declared.faults.PutFault.TheVariants as fault
use Rattle.nb_map.specs.inside.Filling.{HasClaimedFor, HasFilled, puts_of}

-- ---- the map of puts

-- one seat's puts leave the map of the entries
puts-leave :
    (n : ℕ) (made : List (Call × Reply)) (entries : List (ℕ × ℕ))
    → map (λ made. made.0) made ≡ map put_entry entries
    → map_of_log (map (entry_by n) made) ≡ from_entries entries
puts-leave n [] [] puts = refl
puts-leave n [] (entry ∷ entries) puts = absurd cc
puts-leave n (call ∷ made) [] puts = absurd cc
puts-leave n (call ∷ made) (entry ∷ entries) puts =
    let here : call.0 ≡ put_entry entry = cc in
    let rest : map (λ made. made.0) made ≡ map put_entry entries = ap (drop 1) puts in
    ap₂ (λ (c : Call) (m : Numbers). map_after c m) here (puts-leave n made entries rest)

-- ---- the keys of entries

abbrev keys_of : List (ℕ × ℕ) → List ℕ
keys_of entries = map (λ entry. entry.0) entries

-- whether a key is one of them, by the map's own test
tied-any :
    (k : ℕ) (ks : List ℕ) → list_any (eq_by_cmp nat_cmp k) ks ≡ is_member eqb ks k
tied-any k [] = refl
tied-any k (j ∷ ks) = ap₂ (λ here later. here || later) (unsigned_tied k j) (tied-any k ks)

-- the map of entries has just their keys
has-key :
    (entries : List (ℕ × ℕ)) (k : ℕ)
    → is_some (get (from_entries {R = nat_cmp} entries) k) ≡ is_member eqb (keys_of entries) k
has-key entries k =
    ap is_some (get-from_entries nat_cmp_total entries k) ∙ is_some-find nat_cmp k entries
    ∙ tied-any k (keys_of entries)

-- so it has as many keys as there are different ones
len-distinct :
    (entries : List (ℕ × ℕ))
    → len (from_entries {R = nat_cmp} entries) ≡ distinct_count eqb (keys_of entries)
len-distinct [] = len-empty nat_cmp ℕ
len-distinct (entry ∷ entries) =
    len-insert nat_cmp_total (from_entries entries) entry.0 entry.1
    ∙ of (is_some (get (from_entries {R = nat_cmp} entries) entry.0))
    (is_member eqb (keys_of entries) entry.0) (has-key entries entry.0) (len-distinct entries)
  where
    of : (b c : Bool) → b ≡ c
        → len (from_entries {R = nat_cmp} entries) ≡ distinct_count eqb (keys_of entries)
        → cond b (len (from_entries {R = nat_cmp} entries))
        (len (from_entries {R = nat_cmp} entries) + 1)
        ≡ length (cond c (unique_keys eqb (keys_of entries))
        (entry.0 ∷ unique_keys eqb (keys_of entries)))
    of true true same rest = rest
    of false false same rest = omega (arith, rest)
    of true false same rest = absurd cc
    of false true same rest = absurd cc

-- the keys other than this one
abbrev others_of : ℕ → List ℕ → List ℕ
others_of k ks = filter (λ j. not (j == k)) ks

-- with the key itself they are all
distinct-others :
    (k : ℕ) (ks : List ℕ)
    → distinct_count eqb (others_of k ks) + cond (is_member eqb ks k) 1 0 ≡ distinct_count eqb ks
distinct-others k [] = refl
distinct-others k (j ∷ ks) =
    elim (cases_Bool (j == k)) [
      | inl same ↦
          let key : j ≡ k = eqb-true j k same in
          rw (same, eq-eqb k j (sym key))
          (same-key (is_member eqb ks k) (is_member eqb ks j)
          (ap (is_member eqb ks) (sym key)) (distinct-others k ks))
      | inr other ↦
          let differs : k ≢ j = λ key. let yes = eq-eqb j k (sym key) in absurd cc in
          rw (other, ne_eqb k j differs)
          (other-key (is_member eqb (others_of k ks) j) (is_member eqb ks j)
          (is_member-filter nat_eq_equiv (λ i. not (i == k)) j
          (λ x tied. ap (λ i. not (i == k)) (eqb-true j x tied)) ks
          ∙ ap (λ b. is_member eqb ks j && not b) other ∙ and-true (is_member eqb ks j))
          (distinct-others k ks))
    ]
  where
    and-true : (b : Bool) → (b && true) ≡ b
    and-true true = refl
    and-true false = refl

    same-key : (b c : Bool) → b ≡ c
        → distinct_count eqb (others_of k ks) + cond b 1 0 ≡ distinct_count eqb ks
        → distinct_count eqb (others_of k ks) + 1
        ≡ length (cond c (unique_keys eqb ks) (j ∷ unique_keys eqb ks))
    same-key true true same rest = rest
    same-key false false same rest = omega (arith, rest)
    same-key true false same rest = absurd cc
    same-key false true same rest = absurd cc

    other-key : (b c : Bool) → b ≡ c
        → distinct_count eqb (others_of k ks) + cond (is_member eqb ks k) 1 0
        ≡ distinct_count eqb ks
        → length (cond b (unique_keys eqb (others_of k ks)) (j ∷ unique_keys eqb (others_of k ks)))
        + cond (is_member eqb ks k) 1 0
        ≡ length (cond c (unique_keys eqb ks) (j ∷ unique_keys eqb ks))
    other-key true true same rest = rest
    other-key false false same rest = omega (arith, rest)
    other-key true false same rest = absurd cc
    other-key false true same rest = absurd cc

-- puts fill the keys of their entries
keys-filled :
    (entries : List (ℕ × ℕ)) → map key_of_call (filter fills (map put_entry entries)) ≡ keys_of entries
keys-filled [] = refl
keys-filled (entry ∷ entries) = ap (λ ks. entry.0 ∷ ks) (keys-filled entries)

filled-member :
    (k : ℕ) (entries : List (ℕ × ℕ)) → IsFilled (map put_entry entries) k
    → is_member eqb (keys_of entries) k ≡ true
filled-member k [] filled = absurd filled
filled-member k (entry ∷ entries) filled =
    elim filled [
      | inl here ↦
          or_left (eqb k entry.0) (is_member eqb (keys_of entries) k)
          (eq-eqb k entry.0 (sym here.1))
      | inr later ↦
          or_right (eqb k entry.0) (is_member eqb (keys_of entries) k)
          (filled-member k entries later)
    ]

member-filled :
    (k : ℕ) (entries : List (ℕ × ℕ)) → is_member eqb (keys_of entries) k ≡ true
    → IsFilled (map put_entry entries) k
member-filled k [] member = absurd cc
member-filled k (entry ∷ entries) member =
    elim (cases_Bool (eqb k entry.0)) [
      | inl same ↦ inl (refl, sym (eqb-true k entry.0 same))
      | inr other ↦
          inr (member-filled k entries
          (sym (ap (λ b. b || is_member eqb (keys_of entries) k) other) ∙ member))
    ]

-- Where the puts fill as many keys other than one of their own as the last table has slots, the map
-- of the entries has more keys.
too-small :
    (p : Plan) (entries : List (ℕ × ℕ)) (k : ℕ) → IsFilled (map put_entry entries) k
    → size_of p (generations_of p - 1) ≤ others_filled k (map put_entry entries)
    → IsTooSmallFor p (from_entries entries)
too-small p entries k filled few =
    let keys : others_filled k (map put_entry entries) ≡ distinct_count eqb (others_of k (keys_of entries))
    = ap (λ ks. distinct_count eqb (others_of k ks)) (keys-filled entries) in
    let all = distinct-others k (keys_of entries) in
    let one = ap {B = ℕ} (λ b. cond b 1 0) (filled-member k entries filled) in
    omega (
      arith,
      few,
      keys,
      all,
      one,
      len-distinct entries,
      len-entries (from_entries {R = nat_cmp} entries),
    )

-- what the puts fill, the puts of the map's entries fill too
content-filled :
    (entries : List (ℕ × ℕ)) (k : ℕ) → IsFilled (map put_entry entries) k
    → IsFilled (map put_entry (numbers.entries (from_entries {R = nat_cmp} entries))) k
content-filled entries k filled =
    let content = from_entries {R = nat_cmp} entries in
    member-filled k (numbers.entries content)
    (sym (tied-any k (keys_of (numbers.entries content))) ∙ sym (contains_key-keys content k)
    ∙ has-key entries k ∙ filled-member k entries filled)

-- ---- events of one seat

-- an exchange of another seat isn't the seat's
not-another : (b : Bool) → (b && not true) ≡ false
not-another true = refl
not-another false = refl

-- where all entries of a history's log are one seat's, no other seat has won an exchange
no-win :
    (n k : ℕ) (e : Event) (h : List Event) → All (λ entry. entry.seat ≡ n) (log_of (e ∷ h))
    → (is_win_of_another k n e ≡ false) × All (λ entry. entry.seat ≡ n) (log_of h)
no-win n k (Won s g i a b c r) h all =
    let entry : Entry = record { seat = s; call = c; reply = r } in
    let same : s ≡ n = All-head (λ entry. entry.seat ≡ n) entry (log_of h) all in (
      ap (λ own. (key_of_call c == k) && not own) (eq-eqb s n same)
          ∙ not-another (key_of_call c == k),
      All-tail (λ entry. entry.seat ≡ n) entry (log_of h) all,
    )
no-win n k (Read s c r) h all =
    let entry : Entry = record { seat = s; call = c; reply = r } in
    (refl, All-tail (λ entry. entry.seat ≡ n) entry (log_of h) all)
no-win n k e h all = (refl, all)

no-wins :
    (n k count : ℕ) (h : List Event) → All (λ entry. entry.seat ≡ n) (log_of h)
    → count_by (is_win_of_another k n) (take count h) ≡ 0
no-wins n k zero h all = refl
no-wins n k (suc count) [] all = refl
no-wins n k (suc count) (e ∷ h) all =
    let here = no-win n k e h all in
    sum_by-cons (λ e. cond (is_win_of_another k n e) 1 0) e (take count h)
    ∙ ap₂ (λ b more. cond b 1 0 + more) here.0 (no-wins n k count h here.1)

-- ---- seats

-- a seat that has claimed slots for these calls has claimed them for others that fill as much
asked-weaker :
    (p : Plan) (cs cs' : List Call) (seat : SeenBy) → ((k : ℕ) → IsFilled cs k → IsFilled cs' k)
    → HasAskedFor p cs seat → HasAskedFor p cs' seat
asked-weaker p cs cs' seat more asked = record {
  own = All-weaker (IsClaimOf p (tables_at p seat.seen) cs) (IsClaimOf p (tables_at p seat.seen) cs')
      weaker (own_events seat.number seat.seen) asked.own;
}
  where
    weaker : (e : Event) → IsClaimOf p (tables_at p seat.seen) cs e
        → IsClaimOf p (tables_at p seat.seen) cs' e
    weaker (Claim s g i k) claim = (
      claim.0,
      elim claim.1 [ inl below ↦ inl below | inr filled ↦ inr (more k filled) ],
    )
    weaker _ claim = tt

-- the numbers of new seats
numbers-new :
    (m : MapOf) (ns : List ℕ) → map (λ seat. seat.chain.number) (map (new_seat m) ns) ≡ ns
numbers-new m [] = refl
numbers-new m (n ∷ ns) = ap (λ rest. n ∷ rest) (numbers-new m ns)

module _ (m : MapOf) (whole : List Entry) where
  -- each seat that has caught up has its number still,
  caught-numbers :
      (before after : List SeatOf) → AllZip (HasCaughtUp m whole) before after
      → map (λ seat. seat.chain.number) after ≡ map (λ seat. seat.chain.number) before
  caught-numbers [] [] each = refl
  caught-numbers [] (s' ∷ after) each = absurd each
  caught-numbers (s ∷ before) [] each = absurd each
  caught-numbers (s ∷ before) (s' ∷ after) each =
      ap₂ (λ n rest. n ∷ rest) each.0.logged.number (caught-numbers before after each.1)

  -- and knows all
  pub caught-logs :
      (before after : List SeatOf) → AllZip (HasCaughtUp m whole) before after
      → All (λ seat. log seat ≡ whole) after
  caught-logs [] [] each = All-nil (λ (seat : SeatOf). log seat ≡ whole)
  caught-logs [] (s' ∷ after) each = absurd each
  caught-logs (s ∷ before) [] each = absurd each
  caught-logs (s ∷ before) (s' ∷ after) each =
      All-cons (λ (seat : SeatOf). log seat ≡ whole) s' after each.0.knows
      (caught-logs before after each.1)

  -- and has claimed no more
  caught-claims :
      (entries : List (ℕ × ℕ)) (cs : List Call) → IsPlan m.chain.shape
      → ((k : ℕ) → IsFilled (puts_of entries) k → IsFilled cs k)
      → (before after : List SeatOf) → AllZip (HasCaughtUp m whole) before after
      → All (HasClaimedFor m entries) before
      → All (λ seat. HasAskedFor m.chain.shape cs seat.chain) after
  caught-claims entries cs plan more [] [] each all =
      All-nil (λ (seat : SeatOf). HasAskedFor m.chain.shape cs seat.chain)
  caught-claims entries cs plan more [] (s' ∷ after) each all = absurd each
  caught-claims entries cs plan more (s ∷ before) [] each all = absurd each
  caught-claims entries cs plan more (s ∷ before) (s' ∷ after) each all =
      All-cons (λ (seat : SeatOf). HasAskedFor m.chain.shape cs seat.chain) s' after
      (asked-weaker m.chain.shape (puts_of entries) cs s'.chain more
      (asks_add_up.rested plan (All-head (HasClaimedFor m entries) s before all) each.0.grows))
      (caught-claims entries cs plan more before after each.1
      (All-tail (HasClaimedFor m entries) s before all))

-- ---- a map that is filled by its last seat

module _
    (m : MapOf) (entries : List (ℕ × ℕ)) (front : List SeatOf) (first last : SeatOf)
    (seats after : List SeatOf) (size : ℕ)
    (new : new_seats m m.chain.shape.seats ≡ front ++ first ∷ []) (are : seats ≡ front ++ last ∷ [])
    (s : HaveSettled m seats after size)
    (made : List (Call × Reply)) (logged : HasLogged first last made)
    (claims : HasClaimedFor m entries first → HasClaimedFor m entries last) where
  p : Plan
  p = m.chain.shape

  abbrev IsNew : SeatOf → Type 0
  IsNew seat = seat.chain.seen ≡ []

  all-new : All IsNew (front ++ first ∷ [])
  all-new =
      subst (All IsNew) new
      (All-numbered IsNew (new_seat m) 0 m.chain.shape.seats (λ n low high. refl))

  front-new : All IsNew front
  front-new = All-left IsNew front (first ∷ []) all-new

  first-new : IsNew first
  first-new = All-head IsNew first [] (All-right IsNew front (first ∷ []) all-new)

  knows : log last ≡ logged.later ++ []
  knows = logged.grown ∙ ap (λ seen. logged.later ++ log_of seen) first-new

  others : All (λ seat. (seat ≡ last) ⊎ (log seat ≡ [])) seats
  others =
      let P : SeatOf → Type 0 = λ seat. (seat ≡ last) ⊎ (log seat ≡ []) in
      subst (All P) (sym are)
      (All-append P front (last ∷ [])
      (All-weaker IsNew P (λ seat is. inr (ap log_of is)) front front-new)
      (All-cons P last [] (inl refl) (All-nil P)))

  has : HasAll (log_of s.tables.history) last
  has =
      let P : SeatOf → Type 0 = HasAll (log_of s.tables.history) in
      All-head P last [] (All-right P front (last ∷ []) (subst (All P) are s.ended.logs))

  whole-later : log_of s.tables.history ≡ logged.later
  whole-later =
      whole-is seats (as_left m.chain.shape s.tables.history size) s.ended [] logged.later last knows
      has others
      ∙ append-nil logged.later

  own : All (λ entry. entry.seat ≡ last.chain.number) logged.later
  own =
      all-its seats (as_left m.chain.shape s.tables.history size) s.ended [] logged.later last knows
      has others

  -- all calls are the puts that were made
  whole-puts : log_of s.tables.history ≡ map (entry_by last.chain.number) made
  whole-puts =
      whole-later ∙ entries-by last.chain.number logged.later own
      ∙ ap (map (entry_by last.chain.number))
      (ap (λ n. calls_of n logged.later) logged.number ∙ logged.own)

  claimed : All (HasClaimedFor m entries) seats
  claimed =
      let P : SeatOf → Type 0 = HasClaimedFor m entries in
      subst (All P) (sym are)
      (All-append P front (last ∷ [])
      (All-weaker IsNew P (λ seat is. asks_add_up.none is) front front-new)
      (All-cons P last [] (claims (asks_add_up.none first-new)) (All-nil P)))

  numbered : map (λ seat. seat.chain.number) seats ≡ range_with_len 0 m.chain.shape.seats
  numbered =
      let number : SeatOf → ℕ = λ seat. seat.chain.number in
      ap (map number) are ∙ map-append number front (last ∷ [])
      ∙ ap (λ n. map number front ++ (n ∷ [])) logged.number
      ∙ sym (map-append number front (first ∷ [])) ∙ sym (ap (map number) new)
      ∙ numbers-new m (range_with_len 0 m.chain.shape.seats)

  -- to settle is to learn of the top table
  tops : All (λ seat. KnowsTop m.chain.shape seat.chain) after
  tops =
      let p = m.chain.shape in
      All-unmap (KnowsTop p) (λ (seat : SeatOf). seat.chain) after
      (subst (All (KnowsTop p)) (sym s.tables.is)
      (All-map (KnowsTop p) (caught_up p s.tables.history) (map (λ seat. seat.chain) seats)
      (λ i d within. refl)))

  pub begun-with :
      map (λ made. made.0) made ≡ puts_of entries → HaveBegunWith m (map_of_entries entries) after
  begun-with puts = record {
    numbered = caught-numbers m (log_of s.tables.history) seats after s.each ∙ numbered;
    whole = log_of s.tables.history;
    replayed = s.ended.replayed;
    logs = caught-logs m (log_of s.tables.history) seats after s.each;
    leaves = ap map_of_log whole-puts
        ∙ puts-leave last.chain.number made (reverse entries) puts;
    claimed = caught-claims m (log_of s.tables.history) entries
        (map put_entry (numbers.entries (map_of_entries entries)))
        s.left.left.plan (content-filled (reverse entries)) seats after s.each claimed;
    tops = tops;
  }

  -- the seat of each number has claimed slots for these entries alone
  asked : (n : ℕ) → n < m.chain.shape.seats
      → HasAskedIn m.chain.shape (puts_of entries) s.tables.history n
  asked n less =
      let found = seat-numbered (λ seat. HasSeen s.tables.history seat.chain.number seat.chain.seen
      × HasClaimedFor m entries seat) n seats
      (s.ended.once n (omega (arith, less, count)))
      (λ i d within. (s.left.seen i d within, claimed i d within)) in
      record {
        seat = found.0.chain;
        number = found.1;
        asked = found.2.1;
        seen = subst (λ n. HasSeen s.tables.history n found.0.chain.seen) found.1 found.2.0;
      }
    where
      count : length seats ≡ m.chain.shape.seats
      count =
          ap length are ∙ length-append front (last ∷ []) ∙ sym (length-append front (first ∷ []))
          ∙ sym (ap length new)
          ∙ length-map-range_with_len (new_seat m) 0 m.chain.shape.seats

  seen-last : HasSeen s.tables.history last.chain.number last.chain.seen
  seen-last =
      let P : SeatOf → Type 0 =
      λ seat. HasSeen s.tables.history seat.chain.number seat.chain.seen in
      All-head P last [] (All-right P front (last ∷ []) (subst (All P) are s.left.seen))

  -- a put that is refused is so for room
  pub refused-small :
      (then : SeatOf) (next : ℕ × ℕ) (fault : PutFault) → IsFilled (puts_of entries) next.0
      → next.1 ≤ VALUE_MAX → then.chain.number ≡ last.chain.number
      → HasRefused m (put_entry next) then last (Tries 1) fault
      → IsTooSmallFor m.chain.shape (map_of_entries entries)
  refused-small then next fault.Full filled small number given =
      too-small m.chain.shape (reverse entries) next.0 filled
      (crowded_by_calls m.chain.shape s.left.left.plan (puts_of entries) s.tables.history
      s.left.left.legal asked last.chain.seen
      (record { later = seen-last.later; is = seen-last.is }) next.0 given.just.1)
  refused-small then next fault.Contended filled small number given =
      let none : passed_since (put_entry next) then.chain last.chain ≡ 0
      = ap (λ n. passed_over last.chain.seen (length then.chain.seen) next.0 n) number
      ∙ no-wins last.chain.number next.0 (length last.chain.seen - length then.chain.seen)
      last.chain.seen
      (subst (All (λ entry. entry.seat ≡ last.chain.number)) (sym (knows ∙ append-nil logged.later))
      own) in
      absurd (omega (arith, none, given.just))
  refused-small then next fault.ValueRange filled small number given =
      let past : nat_lt VALUE_MAX next.1 ≡ true = given.just in
      absurd (omega (arith, small, ltb-true VALUE_MAX next.1 past))

-- ---- what filling promises

module _
    (m : MapOf) (entries : List (ℕ × ℕ)) (front : List SeatOf) (first last : SeatOf)
    (seats after : List SeatOf) (size : ℕ)
    (new : new_seats m m.chain.shape.seats ≡ front ++ first ∷ []) (are : seats ≡ front ++ last ∷ [])
    (s : HaveSettled m seats after size) where
  pub filled-whole :
      HasFilled m entries first last true → HaveBegunWith m (map_of_entries entries) after
  filled-whole put =
      begun-with m entries front first last seats after size new are s put.made put.logged
      put.claims put.puts

  pub filled-small :
      HasFilled m entries first last false → IsTooSmallFor m.chain.shape (map_of_entries entries)
  filled-small (start, rest, next, then, fault, is, small, put, wrote) =
      refused-small m entries front first last seats after size new are s put.made
      (logged-then put.logged wrote.answered.unmade)
      (λ claimed. claims-more m entries start rest next is put.own wrote (put.claims claimed))
      then next fault (entry-filled entries start rest next is) small
      (sym wrote.answered.unmade.number) wrote.answered

-- and the seat that fills it is still the map's
pub filled-mine :
    (m : MapOf) (entries : List (ℕ × ℕ)) (first last : SeatOf) (all : Bool)
    → HasFilled m entries first last all → IsMine m last
filled-mine m entries first last true put = put.own
filled-mine m entries first last false (start, rest, next, then, fault, is, small, put, wrote) =
    wrote.own
