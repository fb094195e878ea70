-- An event that passes the test is in range, and may follow.
use Rattle.std.proofs.Common.{◌≡◌, ◌≢◌, ℕ, zero, suc, ◌+◌, ◌<◌, ◌≤◌, inl, inr, ap, refl, true, false, not, cond, ◌&&◌, ◌||◌, eqb, ltb, leb, List, Option, Some, None, MatchOption, is_some, ⊎_elim, arith}
use Rattle.std.proofs.lemmas.Bool.{and_parts, both_ways, eq-eqb, eqb-false, eqb-true, leb-true, ltb-true, not-true, or_cases}
use Rattle.nb_core.specs.Log.{changed, holds_of}
use Rattle.nb_core.specs.Plans.{Plan, generations_of, limit_of, size_of}
use Rattle.nb_core.specs.States.{IsValueState}
use Rattle.nb_core.specs.Tables.{AreOthers, HasSlotBelow, IsComplete, IsFinished, IsFinishedValue, IsInstalled, IsOther, IsReady, IsSettledBelow, IsSlot, IsUnprimed, Tables, is_finished_value, path_slot, tables_at}
use Rattle.nb_histories.specs.Histories.{is_empty}
use Rattle.nb_core.specs.History.{Exchanges, HasValue, IsCallInRange, IsChangeInRange, IsExchange, IsInRange, IsPrimedBelow, IsWantInRange, MayClaim, MayFinish, MayFollow, MayWin, number_in_value, counted_by, key_of_call, turned_by}
use Rattle.nb_core.specs.Meaning.{is_claimed_by, is_installed, slot_among}
use Rattle.nb_core.proofs.Computed.{below_suc, is_claimed_by-true, is_finished, is_finished-true, no_true, unclaimed}
use Rattle.nb_histories.proofs.Legality.{all_finished, are_others, claimed_key, distance_of, exchanges_to, has_slot_below, has_value_at, is_call_in_range, is_change_in_range, is_complete, is_exchange, is_in_range, is_live, is_null, is_other, is_primed_at, is_primed_below, is_ready, is_settled_below, is_slot, is_unprimed, is_value_in_range, is_want_in_range, may_claim_at, may_finish_of, may_follow, may_win, primed_number, same_value, settled_among}
use Rattle.nb_core.specs.declared.numbers.TheConstants.{KEY_MAX, VALUE_MAX}
use Rattle.nb_core.specs.declared.calls.Call.{Call}
use Rattle.nb_core.specs.declared.calls.Call.TheVariants as call
use Rattle.nb_core.specs.declared.calls.Change.{Change}
use Rattle.nb_core.specs.declared.calls.Change.TheVariants as change
use Rattle.nb_core.specs.declared.calls.Want.{Want}
use Rattle.nb_core.specs.declared.calls.Want.TheVariants as want
use Rattle.nb_core.specs.declared.events.Event.{Event}
use Rattle.nb_core.specs.declared.events.Event.TheVariants.{Claim, Kill, Won, CopyIn, Prime, Finish, Install, Take, Count, Promote, Read}
use Rattle.nb_core.specs.declared.states.KeyState.{KeyState}
use Rattle.nb_core.specs.declared.states.KeyState.TheVariants.{Empty, Dead, Claimed}
use Rattle.nb_core.specs.declared.states.ValueState.{ValueState}
use Rattle.nb_core.specs.declared.states.ValueState.TheVariants.{Null, Tombstone, Live, PrimedNull, PrimedTombstone, Primed, Finished}

-- ---- tests

differ : (a b : ℕ) → not (eqb a b) ≡ true → a ≢ b
differ a b e = eqb-false a b (not-true (eqb a b) e)

-- ---- states

is_empty-true : (s : KeyState) → is_empty s ≡ true → s ≡ Empty
is_empty-true Empty e = refl
is_empty-true Dead e = cc
is_empty-true (Claimed k) e = cc

pub is_other-true : (k : ℕ) (s : KeyState) → is_other k s ≡ true → IsOther s k
is_other-true k Empty e = absurd (no_true e)
is_other-true k Dead e = absurd (no_true e)
is_other-true k (Claimed j) e = record { other = j; is = refl; differs = differ j k e }

claimed_key-some : (s : KeyState) (k : ℕ) → claimed_key s ≡ Some k → s ≡ Claimed k
claimed_key-some (Claimed j) k e = cc
claimed_key-some _ k e = cc

is_unprimed-true : (v : ValueState) → is_unprimed v ≡ true → IsUnprimed v
is_unprimed-true Null e = tt
is_unprimed-true Tombstone e = tt
is_unprimed-true (Live n) e = tt
is_unprimed-true _ e = no_true e

pub is_null-true : (v : ValueState) → is_null v ≡ true → v ≡ Null
is_null-true Null e = refl
is_null-true _ e = cc

not_null : (v : ValueState) → not (is_null v) ≡ true → v ≢ Null
not_null v e h = let null : is_null v ≡ true = rw h refl in
    both_ways (is_null v) (not-true (is_null v) e) null

is_live-true : (v : ValueState) → is_live v ≡ true → (n : ℕ) × (v ≡ Live n)
is_live-true (Live n) e = (n, refl)
is_live-true _ e = absurd (no_true e)

primed_number-some : (v : ValueState) (n : ℕ) → primed_number v ≡ Some n → v ≡ Primed n
primed_number-some (Primed m) n e = cc
primed_number-some _ n e = cc

same_value-true : (a b : ValueState) → same_value a b ≡ true → a ≡ b
same_value-true Null Null e = refl
same_value-true Tombstone Tombstone e = refl
same_value-true (Live n) (Live m) e = ap Live (eqb-true n m e)
same_value-true PrimedNull PrimedNull e = refl
same_value-true PrimedTombstone PrimedTombstone e = refl
same_value-true (Primed n) (Primed m) e = ap Primed (eqb-true n m e)
same_value-true (Finished n) (Finished m) e = ap Finished (eqb-true n m e)
same_value-true _ _ e = cc

same_value_itself : (a : ValueState) → same_value a a ≡ true
same_value_itself Null = refl
same_value_itself Tombstone = refl
same_value_itself (Live n) = eq-eqb n n refl
same_value_itself PrimedNull = refl
same_value_itself PrimedTombstone = refl
same_value_itself (Primed n) = eq-eqb n n refl
same_value_itself (Finished n) = eq-eqb n n refl

-- ---- tables

all_finished-true :
    (t : Tables) (g n : ℕ) → all_finished t g n ≡ true → (i : ℕ) → i < n → IsFinished t g i
all_finished-true t g zero e = λ i h. absurd (omega arith)
all_finished-true t g (suc n) e =
    let b = and_parts (is_finished t g n) (all_finished t g n) e in
    below_suc (IsFinished t g) n (is_finished-true t g n b.0) (all_finished-true t g n b.1)

is_complete-true : (p : Plan) (t : Tables) (g : ℕ) → is_complete p t g ≡ true → IsComplete p t g
is_complete-true p t g e = all_finished-true t g (size_of p g) e

is_ready-true : (p : Plan) (t : Tables) (g : ℕ) → is_ready p t g ≡ true → IsReady p t g
is_ready-true p t zero e = tt
is_ready-true p t (suc g) e = is_complete-true p t g e

is_installed-true : (t : Tables) (g : ℕ) → is_installed t g ≡ true → IsInstalled t g
is_installed-true t zero e = tt
is_installed-true t (suc g) e = eqb-true (t.next g) 1 e

are_others-true :
    (p : Plan) (t : Tables) (g k d : ℕ) → are_others p t g k d ≡ true → AreOthers p t g k d
are_others-true p t g k zero e = λ i h. absurd (omega arith)
are_others-true p t g k (suc d) e =
    let b = and_parts (is_other k (t.key g (path_slot p g k d))) (are_others p t g k d) e in
    below_suc (λ i. IsOther (t.key g (path_slot p g k i)) k) d
    (is_other-true k (t.key g (path_slot p g k d)) b.0) (are_others-true p t g k d b.1)

-- where a key was found among the first slots, it stands
slot_among-some :
    (t : Tables) (g k n i : ℕ) → slot_among t g k n ≡ Some i → (i < n) × (t.key g i ≡ Claimed k)
slot_among-some t g k zero i e = cc
slot_among-some t g k (suc n) i e =
    (elim (is_claimed_by k (t.key g n)) as (λ b. is_claimed_by k (t.key g n) ≡ b
    → cond b (Some n) (slot_among t g k n) ≡ Some i → (i < suc n) × (t.key g i ≡ Claimed k)) [
      | true ↦ λ here found. let same : n ≡ i = cc in
          (omega arith, rw (← same) (is_claimed_by-true k (t.key g n) here))
      | false ↦ λ away found. let rest = slot_among-some t g k n i found in (omega arith, rest.1)
    ]) refl e

some_of : {A : Type 0} (o : Option A) → is_some o ≡ true → (x : A) × (o ≡ Some x)
some_of None e = absurd (no_true e)
some_of (Some x) e = (x, refl)

has_slot_below-true :
    (p : Plan) (t : Tables) (g k : ℕ) → has_slot_below p t g k ≡ true → HasSlotBelow p t g k
has_slot_below-true p t zero k e = no_true e
has_slot_below-true p t (suc g) k e =
    let found = some_of (slot_among t g k (size_of p g)) e in
    let at = slot_among-some t g k (size_of p g) found.0 found.1 in
    record { slot = found.0; in_table = at.0; is = at.1 }

settled_among-true :
    (t : Tables) (g k n : ℕ) → settled_among t g k n ≡ true → (i : ℕ) → i < n
    → t.key g i ≡ Claimed k → IsFinishedValue (t.value g i)
settled_among-true t g k zero e = λ i h claimed. absurd (omega arith)
settled_among-true t g k (suc n) e =
    let b = and_parts (not (is_claimed_by k (t.key g n)) || is_finished_value (t.value g n))
    (settled_among t g k n) e in
    below_suc (λ i. t.key g i ≡ Claimed k → IsFinishedValue (t.value g i)) n
    (λ claimed. ⊎_elim (λ away. absurd (unclaimed k (t.key g n) away claimed)) (λ final. final)
    (or_cases (not (is_claimed_by k (t.key g n))) (is_finished_value (t.value g n)) b.0))
    (settled_among-true t g k n b.1)

is_settled_below-true :
    (p : Plan) (t : Tables) (g k : ℕ) → is_settled_below p t g k ≡ true → IsSettledBelow p t g k
is_settled_below-true p t zero k e = tt
is_settled_below-true p t (suc g) k e = settled_among-true t g k (size_of p g) e

-- ---- events

may_claim-true :
    (p : Plan) (t : Tables) (g i k d : ℕ) → may_claim_at p t g i k d ≡ true → MayClaim p t g i k
may_claim-true p t g i k d e =
    let a = and_parts (is_installed t g) _ e in
    let b = and_parts (is_empty (t.key g i)) _ a.1 in
    let c = and_parts (ltb d (size_of p g)) _ b.1 in
    let f = and_parts (eqb (path_slot p g k d) i) _ c.1 in
    let o = and_parts (are_others p t g k d) _ f.1 in
    record {
      installed = is_installed-true t g a.0;
      empty = is_empty-true (t.key g i) b.0;
      way = record {
        path = record {
          distance = d;
          in_table = ltb-true d (size_of p g) c.0;
          at = eqb-true (path_slot p g k d) i f.0;
          passed = are_others-true p t g k d o.0;
        };
        reason = ⊎_elim (λ below. inl (has_slot_below-true p t g k below))
            (λ fresh. let r = and_parts (is_ready p t g) (ltb d (limit_of p g)) fresh in
            inr (is_ready-true p t g r.0, ltb-true d (limit_of p g) r.1))
            (or_cases (has_slot_below p t g k) (is_ready p t g && ltb d (limit_of p g)) o.1);
      };
    }

exchanges_of :
    (o : Option ℕ) (a b : ValueState) → exchanges_to o a b ≡ true
    → MatchOption o ((b ≡ Tombstone) × ((n : ℕ) × (a ≡ Live n)))
    (λ n. (b ≡ Live n) × (b ≢ a) × (n ≤ VALUE_MAX))
exchanges_of None a b e = let s = and_parts (same_value b Tombstone) (is_live a) e in
    (same_value-true b Tombstone s.0, is_live-true a s.1)
exchanges_of (Some n) a b e =
    let s = and_parts (same_value b (Live n)) _ e in
    let d = and_parts (not (same_value b a)) (leb n VALUE_MAX) s.1 in (
      same_value-true b (Live n) s.0,
      (λ h. both_ways (same_value b a) (not-true _ d.0)
          (rw h (same_value_itself a))),
      leb-true n VALUE_MAX d.1,
    )

exchanges-true :
    (change : Change) (a b : ValueState) → exchanges_to (changed change (number_in_value a)) a b
    ≡ true → Exchanges change a b
exchanges-true change a b e = exchanges_of (changed change (number_in_value a)) a b e

is_exchange-true :
    (c : Call) (a b : ValueState) → is_exchange c a b ≡ true → IsExchange c (key_of_call c) a b
is_exchange-true (call.Get k) a b e = no_true e
is_exchange-true (call.Write k want change) a b e =
    let s = and_parts (holds_of want (number_in_value a))
    (exchanges_to (changed change (number_in_value a)) a b) e in
    (refl, s.0, exchanges-true change a b s.1)

may_win-true :
    (p : Plan) (t : Tables) (g i : ℕ) (a b : ValueState) (c : Call) → may_win p t g i a b c ≡ true
    → MayWin p t g i a b c
may_win-true p t g i a b c e =
    let k = key_of_call c in
    let s = and_parts (is_claimed_by k (t.key g i)) _ e in
    let v = and_parts (same_value (t.value g i) a) _ s.1 in
    let u = and_parts (is_unprimed a) _ v.1 in
    let l = and_parts (is_settled_below p t g k) (is_exchange c a b) u.1 in
    record {
      key = k;
      claimed = is_claimed_by-true k (t.key g i) s.0;
      stands = same_value-true (t.value g i) a v.0;
      unprimed = is_unprimed-true a u.0;
      settled = is_settled_below-true p t g k l.0;
      exchange = is_exchange-true c a b l.1;
    }

primed_at-true :
    (p : Plan) (t : Tables) (g k n : ℕ) (o : Option ℕ) → slot_among t g k (size_of p g) ≡ o
    → is_primed_at t g n o ≡ true → IsPrimedBelow p t (suc g) k n
primed_at-true p t g k n None found e = no_true e
primed_at-true p t g k n (Some j) found e =
    let at = slot_among-some t g k (size_of p g) j found in
    (j, at.0, at.1, same_value-true (t.value g j) (Primed n) e)

is_primed_below-true :
    (p : Plan) (t : Tables) (g k n : ℕ) → is_primed_below p t g k n ≡ true → IsPrimedBelow p t g k n
is_primed_below-true p t zero k n e = no_true e
is_primed_below-true p t (suc g) k n e = primed_at-true p t g k n _ refl e

has_value-true :
    (p : Plan) (t : Tables) (g k : ℕ) (o : Option ℕ) → slot_among t g k (size_of p g) ≡ o
    → has_value_at t g o ≡ true → HasValue p t g k
has_value-true p t g k None found e = absurd (no_true e)
has_value-true p t g k (Some j) found e =
    let at = slot_among-some t g k (size_of p g) j found in
    record { slot = j; in_table = at.0; is = at.1; some = not_null (t.value g j) e }

may_finish-true :
    (p : Plan) (t : Tables) (g i : ℕ) (k n : Option ℕ) → claimed_key (t.key g i) ≡ k
    → primed_number (t.value g i) ≡ n → may_finish_of p t g k n ≡ true → MayFinish p t g i
may_finish-true p t g i None n claimed primed e = absurd (no_true e)
may_finish-true p t g i (Some k) None claimed primed e = absurd (no_true e)
may_finish-true p t g i (Some k) (Some n) claimed primed e = record {
  key = k;
  number = n;
  claimed = claimed_key-some (t.key g i) k claimed;
  primed = primed_number-some (t.value g i) n primed;
  copied = has_value-true p t (suc g) k _ refl e;
}

pub may_follow-true :
    (p : Plan) (h : List Event) (e : Event) → may_follow p h (tables_at p h) e ≡ true
    → MayFollow p h e
may_follow-true p h (Claim s g i k) e = may_claim-true p (tables_at p h) g i k (distance_of p g k i)
    e
may_follow-true p h (Kill s g i) e =
    let t = tables_at p h in
    let a = and_parts (eqb (t.next g) 1) (is_empty (t.key g i)) e in
    record { growing = eqb-true (t.next g) 1 a.0; empty = is_empty-true (t.key g i) a.1 }
may_follow-true p h (Won s g i a b c r) e = may_win-true p (tables_at p h) g i a b c e
may_follow-true p h (CopyIn s g i k n) e =
    let t = tables_at p h in
    let a = and_parts (is_claimed_by k (t.key g i)) _ e in
    let b = and_parts (is_null (t.value g i)) (is_primed_below p t g k n) a.1 in
    record {
      claimed = is_claimed_by-true k (t.key g i) a.0;
      null = is_null-true (t.value g i) b.0;
      primed = is_primed_below-true p t g k n b.1;
    }
may_follow-true p h (Prime s g i) e =
    let t = tables_at p h in
    let a = and_parts (eqb (t.next g) 1) _ e in
    let b = and_parts (is_some (claimed_key (t.key g i))) (is_unprimed (t.value g i)) a.1 in
    let k = some_of (claimed_key (t.key g i)) b.0 in
    record {
      growing = eqb-true (t.next g) 1 a.0;
      key = k.0;
      claimed = claimed_key-some (t.key g i) k.0 k.1;
      unprimed = is_unprimed-true (t.value g i) b.1;
    }
may_follow-true p h (Finish s g i) e = may_finish-true p (tables_at p h) g i _ _ refl refl e
may_follow-true p h (Install s g k) e =
    let t = tables_at p h in
    let a = and_parts (ltb (suc g) (generations_of p)) _ e in
    let b = and_parts (eqb (t.next g) 0) _ a.1 in
    let c = and_parts (is_ready p t g) (are_others p t g k (limit_of p g)) b.1 in
    record {
      room = ltb-true (suc g) (generations_of p) a.0;
      no_next = eqb-true (t.next g) 0 b.0;
      ready = is_ready-true p t g c.0;
      crowded = are_others-true p t g k (limit_of p g) c.1;
    }
may_follow-true p h (Take s g) e = eqb-true ((tables_at p h).next g) 1 e
may_follow-true p h (Count s g c) e =
    let a = and_parts (leb 1 c) (leb (counted_by h s g + c) (turned_by p h s g)) e in
    record {
      some = leb-true 1 c a.0;
      own =
          leb-true (counted_by h s g + c) (turned_by p h s g) a.1;
    }
may_follow-true p h (Promote s g) e =
    let t = tables_at p h in
    let a = and_parts (is_complete p t g) (leb t.top g) e in
    record { complete = is_complete-true p t g a.0; higher = leb-true t.top g a.1 }
may_follow-true p h (Read s c r) e = tt

-- ---- ranges

is_value_in_range-true : (v : ValueState) → is_value_in_range v ≡ true → IsValueState v
is_value_in_range-true Null e = tt
is_value_in_range-true Tombstone e = tt
is_value_in_range-true (Live n) e = leb-true n VALUE_MAX e
is_value_in_range-true PrimedNull e = tt
is_value_in_range-true PrimedTombstone e = tt
is_value_in_range-true (Primed n) e = leb-true n VALUE_MAX e
is_value_in_range-true (Finished n) e = leb-true n VALUE_MAX e

is_want_in_range-true : (w : Want) → is_want_in_range w ≡ true → IsWantInRange w
is_want_in_range-true want.Any e = tt
is_want_in_range-true want.Absent e = tt
is_want_in_range-true want.Present e = tt
is_want_in_range-true (want.Equal n) e = leb-true n VALUE_MAX e
is_want_in_range-true (want.Below n) e = leb-true n VALUE_MAX e

is_change_in_range-true : (c : Change) → is_change_in_range c ≡ true → IsChangeInRange c
is_change_in_range-true (change.Put n) e = leb-true n VALUE_MAX e
is_change_in_range-true change.Remove e = tt
is_change_in_range-true (change.Add n) e = leb-true n VALUE_MAX e

is_call_in_range-true : (c : Call) → is_call_in_range c ≡ true → IsCallInRange c
is_call_in_range-true (call.Get k) e = leb-true k KEY_MAX e
is_call_in_range-true (call.Write k w c) e =
    let a = and_parts (leb k KEY_MAX) _ e in
    let b = and_parts (is_want_in_range w) (is_change_in_range c) a.1 in
    (leb-true k KEY_MAX a.0, is_want_in_range-true w b.0, is_change_in_range-true c b.1)

is_slot-true : (p : Plan) (g i : ℕ) → is_slot p g i ≡ true → IsSlot p g i
is_slot-true p g i e =
    let a = and_parts (ltb g (generations_of p)) (ltb i (size_of p g)) e in
    (ltb-true g (generations_of p) a.0, ltb-true i (size_of p g) a.1)

pub is_in_range-true : (p : Plan) (e : Event) → is_in_range p e ≡ true → IsInRange p e
is_in_range-true p (Claim s g i k) e =
    let a = and_parts (ltb s p.seats) _ e in
    let b = and_parts (is_slot p g i) (leb k KEY_MAX) a.1 in
    (ltb-true s p.seats a.0, is_slot-true p g i b.0, leb-true k KEY_MAX b.1)
is_in_range-true p (Kill s g i) e = let a = and_parts (ltb s p.seats) (is_slot p g i) e in
    (ltb-true s p.seats a.0, is_slot-true p g i a.1)
is_in_range-true p (Won s g i a b c r) e =
    let q = and_parts (ltb s p.seats) _ e in
    let l = and_parts (is_slot p g i) _ q.1 in
    let v = and_parts (is_value_in_range a) _ l.1 in
    let w = and_parts (is_value_in_range b) (is_call_in_range c) v.1 in (
      ltb-true s p.seats q.0,
      is_slot-true p g i l.0,
      is_value_in_range-true a v.0,
      is_value_in_range-true b w.0,
      is_call_in_range-true c w.1,
    )
is_in_range-true p (CopyIn s g i k n) e =
    let a = and_parts (ltb s p.seats) _ e in
    let b = and_parts (is_slot p g i) _ a.1 in
    let c = and_parts (leb k KEY_MAX) (leb n VALUE_MAX) b.1 in (
      ltb-true s p.seats a.0,
      is_slot-true p g i b.0,
      leb-true k KEY_MAX c.0,
      leb-true n VALUE_MAX c.1,
    )
is_in_range-true p (Prime s g i) e = let a = and_parts (ltb s p.seats) (is_slot p g i) e in
    (ltb-true s p.seats a.0, is_slot-true p g i a.1)
is_in_range-true p (Finish s g i) e = let a = and_parts (ltb s p.seats) (is_slot p g i) e in
    (ltb-true s p.seats a.0, is_slot-true p g i a.1)
is_in_range-true p (Install s g k) e =
    let a = and_parts (ltb s p.seats) _ e in
    let b = and_parts (ltb g (generations_of p)) (leb k KEY_MAX) a.1 in
    (ltb-true s p.seats a.0, ltb-true g (generations_of p) b.0, leb-true k KEY_MAX b.1)
is_in_range-true p (Take s g) e = let a = and_parts (ltb s p.seats) (ltb g (generations_of p)) e in
    (ltb-true s p.seats a.0, ltb-true g (generations_of p) a.1)
is_in_range-true p (Count s g c) e = let a = and_parts (ltb s p.seats) (ltb g (generations_of p)) e in
    (ltb-true s p.seats a.0, ltb-true g (generations_of p) a.1)
is_in_range-true p (Promote s g) e = let a = and_parts (ltb s p.seats) (ltb g (generations_of p)) e in
    (ltb-true s p.seats a.0, ltb-true g (generations_of p) a.1)
is_in_range-true p (Read s c r) e = let a = and_parts (ltb s p.seats) (is_call_in_range c) e in
    (ltb-true s p.seats a.0, is_call_in_range-true c a.1)
