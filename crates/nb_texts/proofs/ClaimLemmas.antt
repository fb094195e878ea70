-- For which keys the seats of a map claim slots, and how many keys that are.
use Rattle.std.proofs.Common.{◌≡◌, ◌≢◌, ◌∙◌, ◌==◌, ◌+◌, ◌<◌, ◌≤◌, ◌||◌, not, ℕ, Bool, true, false, cond, eqb, List, [], ◌∷◌, ◌++◌, None, Option, Some, All, ap, ap₂, arith, filter, get_or, inl, inr, is_some, length, map, refl, subst, sym}
use Rattle.std.specs.Cmp.{nat_eq_equiv, unsigned_tied}
use Rattle.std.specs.FinMap.{contains_key-keys, entries, get, len, len-entries}
use Rattle.std.specs.List.{AllZip, list_any, range_with_len}
use Rattle.std.specs.Ordering.{eq_by_cmp, nat_cmp}
use Rattle.std.specs.Set.{is_member}
use Rattle.std.proofs.lemmas.Bool.{cases_Bool, eq-eqb, eqb-true, ne_eqb, or_left, or_right}
use Rattle.std.proofs.lemmas.List.{length-map}
use Rattle.std.proofs.lemmas.List.Elements.{All-cons, All-head, All-nil, All-tail, All-weaker}
use Rattle.std.proofs.lemmas.List.FromFn.{get_or-map-range_with_len, length-map-range_with_len}
use Rattle.std.proofs.lemmas.Map.Keys.{IsDistinct-from_apart}
use Rattle.std.proofs.lemmas.Map.Made.{distinct_count-le, length-le_from_is_member}
use Rattle.std.proofs.lemmas.Map.Views.{Contains-from_any}
use Rattle.nb_core.specs.History.{key_of_call}
use Rattle.nb_core.specs.Log.{Entry, Numbers, map_after}
use Rattle.nb_core.specs.Plans.{IsPlan, Plan}
use Rattle.nb_core.specs.Tables.{tables_at}
use Rattle.nb_core.specs.declared.calls.Call.{Call}
use Rattle.nb_core.specs.declared.calls.Reply.{Reply}
use Rattle.nb_core.specs.declared.events.Event.{Event}
use Rattle.nb_core.specs.declared.events.Event.TheVariants.{Claim}
use Rattle.nb_map.proofs.Theorems.{asks_add_up}
use Rattle.nb_map.specs.Bulk.{put_entry}
use Rattle.nb_map.specs.Crowding.{HasAskedFor, IsClaimOf, IsFilled, fills, others_filled}
use Rattle.nb_map.specs.Maps.{MapOf, SeatOf}
use Rattle.nb_map.specs.NamedCalls.{put_if_absent_of}
use Rattle.nb_map.specs.Settling.{HasCaughtUp}
use Rattle.nb_table.specs.Chains.{SeenBy, own_events}
use Rattle.nb_texts.proofs.FindingLemmas.{got, got-new, put-absent, put-present}
use Rattle.nb_texts.specs.Entering.{PutsIfAbsent, calls_in, map_after_calls}

-- ---- the keys of a map

abbrev keys_of : List (ℕ × ℕ) → List ℕ
keys_of es = map (λ (entry : ℕ × ℕ). entry.0) es

-- whether a key is one of them, by the map's own test
tied-any :
    (k : ℕ) (ks : List ℕ) → list_any (eq_by_cmp nat_cmp k) ks ≡ is_member eqb ks k
tied-any k [] = refl
tied-any k (j ∷ ks) = ap₂ (λ here later. here || later) (unsigned_tied k j) (tied-any k ks)

pub has-member :
    (m : Numbers) (k : ℕ) → is_some (get m k) ≡ is_member eqb (keys_of (entries m)) k
has-member m k = contains_key-keys m k ∙ tied-any k (keys_of (entries m))

-- the puts of entries fill their keys
filled-member :
    (k : ℕ) (es : List (ℕ × ℕ)) → IsFilled (map put_entry es) k
    → is_member eqb (keys_of es) k ≡ true
filled-member k [] filled = absurd filled
filled-member k (entry ∷ es) filled = elim filled [
  | inl here ↦ or_left (eqb k entry.0) (is_member eqb (keys_of es) k) (eq-eqb k entry.0 (sym here.1))
  | inr later ↦
      or_right (eqb k entry.0) (is_member eqb (keys_of es) k) (filled-member k es later)
]

member-filled :
    (k : ℕ) (es : List (ℕ × ℕ)) → is_member eqb (keys_of es) k ≡ true
    → IsFilled (map put_entry es) k
member-filled k [] member = absurd cc
member-filled k (entry ∷ es) member = elim (cases_Bool (eqb k entry.0)) [
  | inl same ↦ inl (refl, sym (eqb-true k entry.0 same))
  | inr other ↦
      inr (member-filled k es (sym (ap (λ b. b || is_member eqb (keys_of es) k) other) ∙ member))
]

pub has-filled : (m : Numbers) (k : ℕ) → is_some (get m k) ≡ true → IsFilled (map put_entry (entries m)) k
has-filled m k has = member-filled k (entries m) (sym (has-member m k) ∙ has)

-- more calls fill more
pub filled-later :
    (cs later : List Call) (k : ℕ) → IsFilled later k → IsFilled (cs ++ later) k
filled-later [] later k filled = filled
filled-later (call ∷ cs) later k filled = inr (filled-later cs later k filled)

-- so many different keys of a map are no more than it has
pub no-more :
    (m : Numbers) (f : ℕ → ℕ) (n : ℕ) → ((i : ℕ) → i < n → is_some (get m (f i)) ≡ true)
    → ((i j : ℕ) → i < j → j < n → f i ≢ f j) → n ≤ len m
no-more m f n has apart =
    let xs = map f (range_with_len 0 n) in
    let count : length xs ≡ n = length-map-range_with_len f 0 n in
    let at : (i d : ℕ) → i < n → get_or xs i d ≡ f i
    = λ i d h. get_or-map-range_with_len f 0 n i i d h (omega arith) in
    let distinct = IsDistinct-from_apart eqb xs (λ i j d less below.
    ne_eqb _ _ (λ same. apart i j less (omega arith) (sym (at i d (omega arith)) ∙ same
    ∙ at j d (omega arith)))) in
    let found : (q : ℕ) → list_any (eqb q) xs ≡ true → list_any (eqb q) (keys_of (entries m)) ≡ true
    = λ q any.
    let place = Contains-from_any eqb-true q xs any in
    let within : place.0 < n = omega arith in
    let is : f place.0 ≡ q = sym (at place.0 q within) ∙ place.2 in
    sym (has-member m q) ∙ subst (λ k. is_some (get m k) ≡ true) is (has place.0 within) in
    let fewer : length xs ≤ length (keys_of (entries m))
    = length-le_from_is_member nat_eq_equiv xs (keys_of (entries m)) distinct found in
    omega (
      arith,
      count,
      fewer,
      length-map (entries m) (λ (entry : ℕ × ℕ). entry.0),
      len-entries m,
    )

-- ---- puts where nothing is there

put-has : (m : Numbers) (k n : ℕ) → is_some (get (map_after (put_if_absent_of k n) m) k) ≡ true
put-has m k n = of (get m k) refl
  where
    of : (o : Option ℕ) → get m k ≡ o
        → is_some (get (map_after (put_if_absent_of k n) m) k) ≡ true
    of None none =
        ap (λ (m : Numbers). is_some (get m k)) (put-absent m k n none)
        ∙ ap is_some (got-new m k n)
    of (Some v) there =
        ap (λ (m : Numbers). is_some (get m k)) (put-present m k n v there) ∙ ap is_some there

put-keeps :
    (m : Numbers) (k n j : ℕ) → is_some (get m j) ≡ true
    → is_some (get (map_after (put_if_absent_of k n) m) j) ≡ true
put-keeps m k n j has = of (get m k) refl
  where
    either : (b : Bool) → is_some (cond b (Some n) (get m j)) ≡ true
    either true = refl
    either false = has

    of : (o : Option ℕ) → get m k ≡ o
        → is_some (get (map_after (put_if_absent_of k n) m) j) ≡ true
    of None none =
        ap (λ (m : Numbers). is_some (get m j)) (put-absent m k n none)
        ∙ ap is_some (got m k n j) ∙ either (eqb j k)
    of (Some v) there =
        ap (λ (m : Numbers). is_some (get m j)) (put-present m k n v there) ∙ has

-- what puts fill, and what a map has, is there once they were made
pub puts-fill :
    (made : List (Call × Reply)) (m : Numbers) → All PutsIfAbsent made → (k : ℕ)
    → IsFilled (calls_in made ++ map put_entry (entries m)) k
    → is_some (get (map_after_calls made m) k) ≡ true
puts-fill [] m puts k filled = has-member m k ∙ filled-member k (entries m) filled
puts-fill (one ∷ made) m puts k filled =
    let put = All-head PutsIfAbsent one made puts in
    let then = map_after_calls made m in
    let P : Call → Type 0 = λ call. is_some (get (map_after call then) k) ≡ true in
    subst P (sym put.2) (elim filled [
      | inl here ↦
          let same : put.0 ≡ k = sym (ap key_of_call put.2) ∙ here.1 in
          subst (λ k. is_some (get (map_after (put_if_absent_of put.0 put.1) then) k) ≡ true) same
          (put-has then put.0 put.1)
      | inr later ↦
          put-keeps then put.0 put.1 k (puts-fill made m (All-tail PutsIfAbsent one made puts) k later)
    ])

-- ---- seats

-- a seat that has claimed slots for these calls has claimed them for others that fill as much
pub claims-weaker :
    (p : Plan) (cs cs' : List Call) (seat : SeenBy) → ((k : ℕ) → IsFilled cs k → IsFilled cs' k)
    → HasAskedFor p cs seat → HasAskedFor p cs' seat
claims-weaker p cs cs' seat more asked = record {
  own = All-weaker (IsClaimOf p (tables_at p seat.seen) cs) (IsClaimOf p (tables_at p seat.seen) cs')
      weaker (own_events seat.number seat.seen) asked.own;
}
  where
    weaker : (e : Event) → IsClaimOf p (tables_at p seat.seen) cs e
        → IsClaimOf p (tables_at p seat.seen) cs' e
    weaker (Claim s g i k) claim = (
      claim.0,
      elim claim.1 [ inl below ↦ inl below | inr filled ↦ inr (more k filled) ],
    )
    weaker _ claim = tt

-- seats that have caught up have claimed no more
pub claims-caught :
    (m : MapOf) (whole : List Entry) (cs : List Call) → IsPlan m.chain.shape
    → (before after : List SeatOf) → AllZip (HasCaughtUp m whole) before after
    → All (λ seat. HasAskedFor m.chain.shape cs seat.chain) before
    → All (λ seat. HasAskedFor m.chain.shape cs seat.chain) after
claims-caught m whole cs plan [] [] each all =
    All-nil (λ (seat : SeatOf). HasAskedFor m.chain.shape cs seat.chain)
claims-caught m whole cs plan [] (s' ∷ after) each all = absurd each
claims-caught m whole cs plan (s ∷ before) [] each all = absurd each
claims-caught m whole cs plan (s ∷ before) (s' ∷ after) each all =
    let Q : SeatOf → Type 0 = λ seat. HasAskedFor m.chain.shape cs seat.chain in
    All-cons Q s' after (asks_add_up.rested plan (All-head Q s before all) each.0.grows)
    (claims-caught m whole cs plan before after each.1 (All-tail Q s before all))

-- ---- how many other keys calls fill

-- the keys but this one
fewer :
    (k : ℕ) (ks : List ℕ)
    → length (filter (λ j. not (j == k)) ks) + cond (is_member eqb ks k) 1 0 ≤ length ks
fewer k [] = omega arith
fewer k (j ∷ ks) = elim (cases_Bool (j == k)) [
  | inl same ↦ rw (same, eq-eqb k j (sym (eqb-true j k same))) (omega (arith, fewer k ks))
  | inr other ↦
      let differs : k ≢ j = λ key. let yes = eq-eqb j k (sym key) in absurd cc in
      rw (other, ne_eqb k j differs) (omega (arith, fewer k ks))
]

keys-filled :
    (es : List (ℕ × ℕ)) → map key_of_call (filter fills (map put_entry es)) ≡ keys_of es
keys-filled [] = refl
keys-filled (entry ∷ es) = ap (λ ks. entry.0 ∷ ks) (keys-filled es)

-- A put at a key, and the puts of a map's entries, fill no more other keys than the map has.
pub others-few :
    (m : Numbers) (k n : ℕ)
    → others_filled k (put_if_absent_of k n ∷ map put_entry (entries m))
    + cond (is_some (get m k)) 1 0 ≤ len m
others-few m k n =
    let es = entries m in
    let test : ℕ → Bool = λ j. not (j == k) in
    let all = map key_of_call (filter fills (map put_entry es)) in
    let few : others_filled k (put_if_absent_of k n ∷ map put_entry es)
    ≤ length (filter test (k ∷ all))
    = distinct_count-le (λ i j. i == j) (filter test (k ∷ all)) in
    let same : length (filter test (k ∷ all)) ≡ length (filter test (keys_of es))
    = ap length (ap (λ b. cond (not b) (k ∷ filter test all) (filter test all)) (eq-eqb k k refl)
    ∙ ap (filter test) (keys-filled es)) in
    let one = ap {B = ℕ} (λ b. cond b 1 0) (has-member m k) in
    omega (
      arith,
      few,
      same,
      one,
      fewer k (keys_of es),
      length-map es (λ (entry : ℕ × ℕ). entry.0),
      len-entries m,
    )
