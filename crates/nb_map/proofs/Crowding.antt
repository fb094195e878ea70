-- A map can be full for a key only where calls filled as many other keys as the last table has
-- slots.
use Rattle.std.proofs.Common.{◌≡◌, ◌≢◌, ◌∙◌, ◌==◌, ◌≤◌, ◌<◌, ◌-◌, ◌||◌, not, Bool, true, false, cond, eqb, ℕ, zero, suc, List, [], ◌∷◌, ◌++◌, map, filter, length, get_or, slice_index, ap, sym, subst, refl, inl, inr, arith}
use Rattle.std.specs.List.{All, list_any, range_with_len}
use Rattle.std.specs.Set.{is_member, unique_keys}
use Rattle.std.specs.Cmp.{nat_eq_equiv}
use Rattle.std.proofs.lemmas.Bool.{cases_Bool, cases_lt, eq-eqb, eqb-true, ne_eqb, or_left, or_right}
use Rattle.std.proofs.lemmas.List.{get_or-replicate, get_or_past, length-replicate}
use Rattle.std.proofs.lemmas.List.Elements.{All-append, All-cons, All-head, All-nil, All-same, All-tail, All-weaker, filter-append}
use Rattle.std.proofs.lemmas.List.FromFn.{get_or-map-range_with_len, length-map-range_with_len}
use Rattle.std.proofs.lemmas.Map.Keys.{IsDistinct-from_apart}
use Rattle.std.proofs.lemmas.Map.Made.{length-le_from_is_member}
use Rattle.std.proofs.lemmas.Map.Views.{Contains-from_any}
use Rattle.nb_core.specs.History.{IsLegal, key_of_call, seat_of_event}
use Rattle.nb_core.specs.Laws.{IsKeyChange, Lasts}
use Rattle.nb_core.specs.Meaning.{IsCrowded}
use Rattle.nb_core.specs.Plans.{IsPlan, Plan, generations_of, key_place, size_of, word_count}
use Rattle.nb_core.specs.States.{key_state}
use Rattle.nb_core.specs.Tables.{HasSlot, IsSlot, Tables, tables_at, words_of}
use Rattle.nb_core.specs.declared.calls.Call.{Call}
use Rattle.nb_core.specs.declared.events.Event.{Event}
use Rattle.nb_core.specs.declared.events.Event.TheVariants.{Claim, Kill}
use Rattle.nb_core.specs.declared.states.KeyState.{KeyState}
use Rattle.nb_core.specs.declared.states.KeyState.TheVariants.{Empty, Dead, Claimed}
use Rattle.nb_core.proofs.Theorems.{lawful_changes, one_slot, seat-in_range, seen_lasts}
use Rattle.nb_table.specs.Chains.{Grown, SeenBy, own_events}
use Rattle.nb_table.proofs.Theorems.{own-none}
use Rattle.nb_map.proofs.Made.{slot-below-lasts}
use Rattle.nb_map.specs.Calling.{HasMadeSome, MayMake}
use Rattle.nb_map.specs.Crowding.{AsksAddUp, CrowdedByCalls, HasAskedFor, HasAskedIn, IsClaimOf, IsFilled, fills, others_filled}

-- ---- keys that calls fill

-- the keys that these calls fill
abbrev filled_keys : List Call → List ℕ
filled_keys cs = map key_of_call (filter fills cs)

-- those of them that are other keys
abbrev other_keys : ℕ → List Call → List ℕ
other_keys k cs = filter (λ j. not (j == k)) (filled_keys cs)

-- such a key is still there among more keys, and a first one that isn't k is there
keys-more :
    (k q j : ℕ) (keys : List ℕ) → list_any (eqb q) (filter (λ j. not (j == k)) keys) ≡ true
    → list_any (eqb q) (filter (λ j. not (j == k)) (j ∷ keys)) ≡ true
keys-more k q j keys found = of (j == k)
  where
    others : List ℕ
    others = filter (λ j. not (j == k)) keys

    of : (b : Bool) → list_any (eqb q) (cond (not b) (j ∷ others) others) ≡ true
    of true = found
    of false = or_right (eqb q j) (list_any (eqb q) others) found

keys-first :
    (k q j : ℕ) (keys : List ℕ) → q ≢ k → j ≡ q
    → list_any (eqb q) (filter (λ j. not (j == k)) (j ∷ keys)) ≡ true
keys-first k q j keys differs same =
    rw (ne_eqb j k (λ is. differs (sym same ∙ is)))
    (or_left (eqb q j) (list_any (eqb q) (filter (λ j. not (j == k)) keys))
    (eq-eqb q j (sym same)))

-- a key that one of the calls fills is one of them
other-member :
    (k q : ℕ) → q ≢ k → (cs : List Call) → IsFilled cs q → list_any (eqb q) (other_keys k cs) ≡ true
other-member k q differs [] put = absurd put
other-member k q differs (c ∷ cs) put =
    elim put [
      | inl here ↦ first (fills c) here.0 here.1
      | inr later ↦ past (fills c) (other-member k q differs cs later)
    ]
  where
    all : Bool → List ℕ
    all b = filter (λ j. not (j == k)) (map key_of_call
        (cond b (c ∷ filter fills cs) (filter fills cs)))

    first : (b : Bool) → b ≡ true → key_of_call c ≡ q → list_any (eqb q) (all b) ≡ true
    first true is same = keys-first k q (key_of_call c) (filled_keys cs) differs same
    first false is same = cc

    past : (b : Bool) → list_any (eqb q) (other_keys k cs) ≡ true → list_any (eqb q) (all b) ≡ true
    past true found = keys-more k q (key_of_call c) (filled_keys cs) found
    past false found = found

-- a number of a list is among its distinct ones
unique-member :
    (q : ℕ) (xs : List ℕ) → list_any (eqb q) xs ≡ true
    → list_any (eqb q) (unique_keys eqb xs) ≡ true
unique-member q [] found = found
unique-member q (x ∷ xs) found =
    elim (cases_Bool (eqb q x)) [
      | inl same ↦ at (is_member eqb xs x) refl (eqb-true q x same) (unique-member q xs)
      | inr differs ↦ past (is_member eqb xs x)
          (unique-member q xs (ap (λ b. b || list_any (eqb q) xs) (sym differs) ∙ found))
    ]
  where
    unique : List ℕ
    unique = unique_keys eqb xs

    at : (b : Bool) → is_member eqb xs x ≡ b → q ≡ x
        → (list_any (eqb q) xs ≡ true → list_any (eqb q) unique ≡ true)
        → list_any (eqb q) (cond b unique (x ∷ unique)) ≡ true
    at true known same rest = rest (ap (λ y. list_any (eqb y) xs) same ∙ known)
    at false known same rest = or_left (eqb q x) (list_any (eqb q) unique) (eq-eqb q x same)

    past : (b : Bool) → list_any (eqb q) unique ≡ true
        → list_any (eqb q) (cond b unique (x ∷ unique)) ≡ true
    past true known = known
    past false known = or_right (eqb q x) (list_any (eqb q) unique) known

-- so many different keys other than k, each of which one of the calls fills, are no more than they
-- fill
count-put :
    (n k : ℕ) (f : ℕ → ℕ) (cs : List Call) → ((i : ℕ) → i < n → f i ≢ k)
    → ((i : ℕ) → i < n → IsFilled cs (f i))
    → ((i j : ℕ) → i < j → j < n → f i ≢ f j) → n ≤ others_filled k cs
count-put n k f cs others put apart =
    let xs = map f (range_with_len 0 n) in
    let count : length xs ≡ n = length-map-range_with_len f 0 n in
    let at : (i d : ℕ) → i < n → get_or xs i d ≡ f i =
    λ i d h. get_or-map-range_with_len f 0 n i i d h (omega arith) in
    let distinct = IsDistinct-from_apart eqb xs (λ i j d less below.
    ne_eqb _ _ (λ same. apart i j less (omega arith) (sym (at i d (omega arith)) ∙ same
    ∙ at j d (omega arith)))) in
    let found : (q : ℕ) → list_any (eqb q) xs ≡ true
    → list_any (eqb q) (unique_keys eqb (other_keys k cs)) ≡ true = λ q any.
    let place = Contains-from_any eqb-true q xs any in
    let within : place.0 < n = omega arith in
    let is : f place.0 ≡ q = sym (at place.0 q within) ∙ place.2 in
    unique-member q (other_keys k cs) (other-member k q (λ same. others place.0 within (is ∙ same))
    cs (subst (IsFilled cs) is (put place.0 within))) in
    let fewer : length xs ≤ others_filled k cs =
    length-le_from_is_member nat_eq_equiv xs (unique_keys eqb (other_keys k cs))
    distinct found in
    omega (arith, count, fewer)

-- ---- a crowded table

-- the key of a slot that has one
abbrev key_in : KeyState → ℕ
key_in Empty = 0
key_in Dead = 0
key_in (Claimed k) = k

-- Where other keys have all slots of the last table, and the calls fill each of these, they fill so
-- many.
crowd-count :
    (p : Plan) → IsPlan p → (h : List Event) → IsLegal p h → (k : ℕ) (cs : List Call)
    → ((j : ℕ) → j ≢ k → HasSlot p (tables_at p h) (generations_of p - 1) j → IsFilled cs j)
    → IsCrowded p h k
    → size_of p (generations_of p - 1) ≤ others_filled k cs
crowd-count p plan h legal k cs put crowded =
    count-put (size_of p g) k f cs differs
    (λ i less. put (f i) (differs i less)
    (record { slot = i; in_table = less; is = is i less })) apart
  where
    g : ℕ
    g = generations_of p - 1

    within : g < generations_of p
    within = omega (arith, plan.tables.0)

    f : ℕ → ℕ
    f i = key_in ((tables_at p h).key g i)

    same : (i : ℕ) (less : i < size_of p g) → f i ≡ (crowded i less).other
    same i less = ap key_in (crowded i less).is

    is : (i : ℕ) → i < size_of p g → (tables_at p h).key g i ≡ Claimed (f i)
    is i less = (crowded i less).is ∙ ap Claimed (sym (same i less))

    differs : (i : ℕ) → i < size_of p g → f i ≢ k
    differs i less e = (crowded i less).differs (sym (same i less) ∙ e)

    apart : (i j : ℕ) → i < j → j < size_of p g → f i ≢ f j
    apart i j less below e =
        let first : i < size_of p g = omega (arith, less, below) in
        let at : i ≡ j = one_slot p plan h legal g i j (f i) (within, first) (within, below)
        (is i first) (is j below ∙ ap Claimed (sym e)) in
        omega (arith, less, at)

-- ---- claims of a history

-- before any event no slot has a key
none-claimed : (p : Plan) (g i k : ℕ) → (tables_at p []).key g i ≡ Claimed k → ⊥
none-claimed p g i k claimed =
    let none : ℕ = 0 in
    let long : length (words_of p []) ≡ word_count p = length-replicate (word_count p) none in
    let zero : slice_index (words_of p []) (key_place p g i) ≡ 0 =
    elim (cases_lt (key_place p g i) (word_count p)) [
      | inl within ↦ get_or-replicate (word_count p) (key_place p g i) 0 0 within
      | inr past ↦ get_or_past (words_of p []) (key_place p g i) 0 (omega (arith, past, long))
    ] in
    let empty : Empty ≡ Claimed k = sym (ap key_state zero) ∙ claimed in
    cc

-- an event that gave a slot its key is a claim
claim-is :
    (Q : Event → Type 0) (e : Event) (g i k : ℕ) (from to : KeyState) → Q e
    → IsKeyChange e g i from to → to ≡ Claimed k
    → (s : ℕ) × Q (Claim s g i k)
claim-is Q (Claim s f j n) g i k from to holds change is =
    let table : f ≡ g = change.0 in
    let slot : j ≡ i = change.1 in
    let claimed : to ≡ Claimed n = change.3 in
    let key : n ≡ k = cc in
    let same : Claim s f j n ≡ Claim s g i k = cc in
    (s, subst Q same holds)
claim-is Q (Kill s f j) g i k from to holds change is = let dead : to ≡ Dead = change.3 in cc
claim-is Q _ g i k from to holds change is = absurd change

module _ (p : Plan) (plan : IsPlan p) where
  -- a slot's key comes from a claim: whatever holds of all events holds of one
  claimed-from :
      (Q : Event → Type 0) (h : List Event) → IsLegal p h → All Q h → (g i k : ℕ) → IsSlot p g i
      → (tables_at p h).key g i ≡ Claimed k → (s : ℕ) × Q (Claim s g i k)
  claimed-from Q [] legal all g i k slot claimed = absurd (none-claimed p g i k claimed)
  claimed-from Q (e ∷ h) legal all g i k slot claimed =
      elim ((lawful_changes p plan e h legal).keys g i slot) [
        | inl same ↦ claimed-from Q h legal.0 (All-tail Q e h all) g i k slot (sym same ∙ claimed)
        | inr change ↦ claim-is Q e g i k _ _ (All-head Q e h all) change claimed
      ]

  -- Where all claims of a history are so, the calls fill each key with a slot.
  all-put :
      (cs : List Call) (h : List Event) → IsLegal p h → All (IsClaimOf p (tables_at p h) cs) h
      → (g : ℕ) → g < generations_of p → (k : ℕ)
      → HasSlot p (tables_at p h) g k → IsFilled cs k
  all-put cs h legal all zero table k has =
      elim (claimed-from (IsClaimOf p (tables_at p h) cs) h legal all 0 has.slot k
      (table, has.in_table) has.is).1.1 [
        | inl none ↦ absurd none
        | inr put ↦ put
      ]
  all-put cs h legal all (suc g) table k has =
      elim (claimed-from (IsClaimOf p (tables_at p h) cs) h legal all (suc g) has.slot k
      (table, has.in_table) has.is).1.1 [
        | inl below ↦ all-put cs h legal all g (omega (arith, table)) k below
        | inr put ↦ put
      ]

-- ---- a seat's own events

-- the seat of a legal history's event is one of the plan's
pub seats-below : (p : Plan) (h : List Event) → IsLegal p h → All (λ e. seat_of_event e < p.seats) h
seats-below p [] legal = All-nil (λ (e : Event). seat_of_event e < p.seats)
seats-below p (e ∷ h) legal = All-cons (λ (e : Event). seat_of_event e < p.seats) e h
    (seat-in_range p e legal.1) (seats-below p h legal.0)

-- what holds of each seat's own events holds of all
pub each-own :
    (Q : Event → Type 0) (n : ℕ) (h : List Event) → All (λ e. seat_of_event e < n) h
    → ((s : ℕ) → s < n → All Q (own_events s h)) → All Q h
each-own Q n [] below own = All-nil Q
each-own Q n (e ∷ h) below own =
    All-cons Q e h (head (own (seat_of_event e) (All-head P e h below)))
    (each-own Q n h (All-tail P e h below) (λ s less. rest s (own s less)))
  where
    P : Event → Type 0
    P e = seat_of_event e < n

    head : All Q (own_events (seat_of_event e) (e ∷ h)) → Q e
    head all =
        All-head Q e (own_events (seat_of_event e) h)
        (All-same Q _ _
        (ap (λ b. cond b (e ∷ own_events (seat_of_event e) h) (own_events (seat_of_event e) h))
        (sym (eq-eqb (seat_of_event e) (seat_of_event e) refl))) all)

    rest : (s : ℕ) → All Q (own_events s (e ∷ h)) → All Q (own_events s h)
    rest s = of (seat_of_event e == s)
      where
        of : (b : Bool) → All Q (cond b (e ∷ own_events s h) (own_events s h))
            → All Q (own_events s h)
        of true all = All-tail Q e (own_events s h) all
        of false all = all

-- ---- what a seat was asked

-- a claim is so still, and of more calls
claim-lasts :
    (p : Plan) (cs cs' : List Call) (t u : Tables) → ((k : ℕ) → IsFilled cs k → IsFilled cs' k)
    → Lasts p t u → (e : Event)
    → IsClaimOf p t cs e → IsClaimOf p u cs' e
claim-lasts p cs cs' t u more lasting (Claim s g i k) is = (
  is.0,
  elim is.1 [
    | inl below ↦ inl (slot-below-lasts p t u lasting g k is.0 below)
    | inr put ↦ inr
        (more k put)
  ],
)
claim-lasts p cs cs' t u more lasting _ is = tt

-- a call claims a key for itself only where it fills it
claim-made :
    (p : Plan) (before after : List Event) (call : Call) (cs : List Call)
    → (fills call ≡ true → IsFilled cs (key_of_call call)) → (e : Event)
    → MayMake p before after call e → IsClaimOf p (tables_at p after) cs e
claim-made p before after call cs adds (Claim s g i k) may = (
  may.0,
  elim may.1 [
    | inl below ↦ inl below
    | inr own ↦ inr
        (subst (IsFilled cs) (sym own.0) (adds (ap not own.1)))
  ],
)
claim-made p before after call cs adds _ may = tt

module _ (p : Plan) (plan : IsPlan p) where
  -- what is claimed stays so in later histories
  later-lasts : (before after later : List Event) → after ≡ later ++ before → IsLegal p after
      → Lasts p (tables_at p before) (tables_at p after)
  later-lasts before after later is legal =
      subst (λ h. Lasts p (tables_at p before) (tables_at p h)) (sym is)
      (seen_lasts p plan later before (subst (IsLegal p) is legal))

  -- a seat that has seen more, with claims of its own that are so
  asked-grown :
      {before after : SeenBy} {own : List Event} {count : ℕ} (cs cs' : List Call)
      → ((k : ℕ) → IsFilled cs k → IsFilled cs' k)
      → HasAskedFor p cs before → Grown p before after own count
      → All (IsClaimOf p (tables_at p after.seen) cs') own → HasAskedFor p cs' after
  asked-grown {before} {after} {own} cs cs' more asked grown new = record {
    own = All-same Q _ _ parts (All-append Q own _ new old);
  }
    where
      Q : Event → Type 0
      Q = IsClaimOf p (tables_at p after.seen) cs'

      old : All Q (own_events before.number before.seen)
      old =
          All-weaker (IsClaimOf p (tables_at p before.seen) cs) Q
          (claim-lasts p cs cs' (tables_at p before.seen) (tables_at p after.seen) more
          (later-lasts before.seen after.seen grown.later grown.seen grown.legal)) _ asked.own

      parts : own_events after.number after.seen ≡ own ++ own_events before.number before.seen
      parts =
          ap (λ n. own_events n after.seen) grown.number ∙ ap (own_events before.number) grown.seen
          ∙ filter-append _ grown.later before.seen
          ∙ ap (λ es. es ++ own_events before.number before.seen) grown.own_are

  -- after the steps of a call
  asked-made_some :
      {call : Call} {before after : SeenBy} {most : ℕ} (cs cs' : List Call)
      → ((k : ℕ) → IsFilled cs k → IsFilled cs' k)
      → (fills call ≡ true → IsFilled cs' (key_of_call call)) → HasAskedFor p cs before
      → HasMadeSome p call before after most → HasAskedFor p cs' after
  asked-made_some {call} {before} {after} cs cs' more adds asked stepped =
      let made = stepped.1 in
      asked-grown cs cs' more asked made.grown
      (All-weaker (MayMake p before.seen after.seen call) (IsClaimOf p (tables_at p after.seen) cs')
      (claim-made p before.seen after.seen call cs' adds) made.own made.may)

  -- in a history that the seat has seen a beginning of with all its own events, its own claims are
  -- so too
  asked-history :
      (cs : List Call) (history : List Event) (n : ℕ) → IsLegal p history
      → HasAskedIn p cs history n
      → All (IsClaimOf p (tables_at p history) cs) (own_events n history)
  asked-history cs history n legal is =
      All-same (IsClaimOf p (tables_at p history) cs) _ _ parts
      (All-weaker (IsClaimOf p (tables_at p is.seat.seen) cs) (IsClaimOf p (tables_at p history) cs)
      (claim-lasts p cs cs (tables_at p is.seat.seen) (tables_at p history) (λ k put. put)
      (later-lasts is.seat.seen history is.seen.later is.seen.is legal)) _ is.asked.own)
    where
      parts : own_events n history ≡ own_events is.seat.number is.seat.seen
      parts =
          ap (own_events n) is.seen.is ∙ filter-append _ is.seen.later is.seat.seen
          ∙ ap (λ es. es ++ own_events n is.seat.seen) (own-none n is.seen.later is.seen.others)
          ∙ ap (λ s. own_events s is.seat.seen) (sym is.number)

-- a seat that has seen nothing
asked-new : (p : Plan) (cs : List Call) (seat : SeenBy) → seat.seen ≡ [] → HasAskedFor p cs seat
asked-new p cs seat new = record {
  own = subst (λ seen. All (IsClaimOf p (tables_at p seen) cs) (own_events seat.number seen))
      (sym new) (All-nil (IsClaimOf p (tables_at p []) cs));
}

-- ---- the laws

pub asks_add_up : AsksAddUp
asks_add_up = record {
  none = λ {p} {calls} {seat} new. asked-new p calls seat new;
  more = λ {p} {calls} {calls'} plan more adds asked stepped.
      asked-made_some p plan calls calls' more adds asked stepped;
  rested = λ {p} {calls} {before} {after} plan asked grown.
      asked-grown p plan calls calls (λ k filled. filled) asked grown
      (All-nil (IsClaimOf p (tables_at p after.seen) calls));
}

pub crowded_by_calls : CrowdedByCalls
crowded_by_calls p plan cs history legal asked h begun k crowded =
    crowd-count p plan history legal k cs
    (λ j differs has. all-put p plan cs history legal all g within j has) still
  where
    g : ℕ
    g = generations_of p - 1

    within : g < generations_of p
    within = omega (arith, plan.tables.0)

    all : All (IsClaimOf p (tables_at p history) cs) history
    all = each-own (IsClaimOf p (tables_at p history) cs) p.seats history
        (seats-below p history legal)
        (λ s less. asked-history p plan cs history s legal (asked s less))

    still : IsCrowded p history k
    still i less =
        let lasting = later-lasts p plan h history begun.later begun.is legal in
        let is = crowded i less in
        record {
          other = is.other;
          is = lasting.claimed g i is.other (within, less) is.is;
          differs =
              is.differs;
        }
