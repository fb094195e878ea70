-- The number of the map's keys is what the calls of all seats added, less what they took out.
use Rattle.std.proofs.Common.{◌≡◌, ◌∙◌, ℕ, ◌+◌, ◌-◌, ◌<◌, ◌≤◌, zero, suc, List, [], ◌∷◌, Option, Some, None, true, false, cond, eqb, ap, sym, refl, inl, inr, arith}
use Rattle.std.proofs.Math.IntN.{ℤ, pos, ◌+ℤ◌}
use Rattle.std.proofs.lemmas.Bool.{cases_order, cond-false, cond-true, eq-eqb, ne_eqb}
use Rattle.std.proofs.lemmas.Int.{ints}
use Rattle.std.specs.Cmp.{nat_cmp_total}
use Rattle.std.specs.FinMap.{empty_of_len, get, get-empty, insert, len, len-empty, len-entries, len-insert, len-remove, remove}
use Rattle.std.specs.Option.{is_some}
use Rattle.std.specs.Ordering.{nat_cmp}
use Rattle.nb_core.specs.Log.{Numbers, calls_of, changed, holds_of, log_of, map_after, reply_of, with_at}
use Rattle.nb_core.specs.Plans.{Plan, IsPlan}
use Rattle.nb_core.specs.History.{Exchanges, IsExchange, IsLegal, after_win, number_in_value, key_of_call, map_of}
use Rattle.nb_core.specs.Meaning.{net_of, net_of_call, net_of_change, net_of_seats}
use Rattle.nb_core.specs.Laws.{SizeIsNet}
use Rattle.nb_core.specs.declared.calls.Call.{Call}
use Rattle.nb_core.proofs.Shown.{win_number}
use Rattle.nb_core.specs.declared.calls.Call.TheVariants as call
use Rattle.nb_core.specs.declared.calls.Change.{Change}
use Rattle.nb_core.specs.declared.calls.Change.TheVariants.{Put, Remove, Add}
use Rattle.nb_core.specs.declared.calls.Reply.{Reply}
use Rattle.nb_core.specs.declared.events.Event.{Event}
use Rattle.nb_core.specs.declared.events.Event.TheVariants.{Won, Read}
use Rattle.nb_core.specs.declared.states.ValueState.{ValueState}

-- ---- what a call does to the number of keys

-- an insert adds a key just where the map had none
net-insert :
    (m : Numbers) (k n : ℕ) (o : Option ℕ) → get m k ≡ o
    → pos (len (insert m k n)) ≡ net_of_change (Put n) o +ℤ pos (len m)
net-insert m k n None at = ap pos (len-insert nat_cmp_total m k n
    ∙ ap (λ o. cond (is_some o) (len m) (len m + 1)) at ∙ omega arith)
net-insert m k n (Some v) at = ap pos (len-insert nat_cmp_total m k n
    ∙ ap (λ o. cond (is_some o) (len m) (len m + 1)) at ∙ omega arith)

-- a map that has a number at a key has one key at least
len-positive : (m : Numbers) (k v : ℕ) → get m k ≡ Some v → 1 ≤ len m
len-positive m k v at =
    elim (cases_order (len m) 0) [
      | inl none ↦ let e = ap (λ n. get n k) (empty_of_len m none) in let f =
          get-empty {X = ℕ} nat_cmp k in absurd (cc)
      | inr (inl below) ↦ absurd (omega arith)
      | inr (inr above) ↦ above
    ]

-- a removal takes a key out just where the map had it
net-remove :
    (m : Numbers) (k : ℕ) (o : Option ℕ) → get m k ≡ o
    → pos (len (remove m k)) ≡ net_of_change Remove o +ℤ pos (len m)
net-remove m k None at =
    ap pos (len-remove nat_cmp_total m k ∙ ap (λ o. cond (is_some o) (len m - 1) (len m)) at
    ∙ omega arith)
net-remove m k (Some v) at =
    let less : len (remove m k) ≡ len m - 1 = len-remove nat_cmp_total m k
    ∙ ap (λ o. cond (is_some o) (len m - 1) (len m)) at in
    let some : 1 ≤ len m = len-positive m k v at in omega (arith, ints)

-- a change of what the map has at a key does its net to the number of keys
net-with_at :
    (m : Numbers) (k : ℕ) (change : Change) (o : Option ℕ) → get m k ≡ o
    → pos (len (with_at m k (changed change o))) ≡ net_of_change change o +ℤ pos (len m)
net-with_at m k (Put n) o at = net-insert m k n o at
net-with_at m k Remove o at = net-remove m k o at
net-with_at m k (Add n) None at = net-insert m k _ None at
net-with_at m k (Add n) (Some v) at = net-insert m k _ (Some v) at

-- a call does the net of its reply to the number of keys
net-map_after :
    (c : Call) (m : Numbers) → pos (len (map_after c m))
    ≡ net_of_call c (reply_of c m) +ℤ pos (len m)
net-map_after (call.Get k) m = omega (arith, ints)
net-map_after (call.Write k want change) m =
    elim (holds_of want (get m k)) as (λ b.
    pos (len (cond b (with_at m k (changed change (get m k))) m))
    ≡ cond b (net_of_change change (get m k)) (pos 0) +ℤ pos (len m)) [
      | true ↦ net-with_at m k change (get m k) refl
      | false ↦ omega (arith, ints)
    ]

-- an exchange puts at the key what its change makes of the number in the value
after_win-exchange :
    (m : Numbers) (k : ℕ) (change : Change) (a b : ValueState) → Exchanges change a b
    → after_win m k b ≡ with_at m k (changed change (number_in_value a))
after_win-exchange m k Remove a b e = ap (after_win m k) e.0
after_win-exchange m k _ a b e = ap (after_win m k) e.0

-- where the map has at the key what an exchange replaces, the exchange leaves the map that its call
-- leaves
pub after_win-call :
    (m : Numbers) (c : Call) (k : ℕ) (a b : ValueState) → get m (key_of_call c) ≡ number_in_value a
    → IsExchange c k a b
    → after_win m (key_of_call c) b ≡ map_after c m
after_win-call m (call.Get key) k a b at e = absurd e
after_win-call m (call.Write key want change) k a b at e =
    let holds : holds_of want (get m key) ≡ true = ap (holds_of want) at ∙ e.1 in
    after_win-exchange m key change a b e.2 ∙ ap (λ o. with_at m key (changed change o)) (sym at)
    ∙ sym (cond-true _ _ m holds)

-- ---- what a call adds to the sum over the seats

-- where the calls of each of the first n seats are the same, so is the sum
net_of_seats-same :
    (h later : List Event) (n : ℕ) → ((s : ℕ) → s < n
    → calls_of s (log_of later) ≡ calls_of s (log_of h))
    → net_of_seats (log_of later) n ≡ net_of_seats (log_of h) n
net_of_seats-same h later zero same = refl
net_of_seats-same h later (suc n) same =
    let here = ap net_of (same n (omega arith)) in
    let rest = net_of_seats-same h later n (λ s below. same s (omega arith)) in omega (arith, ints)

-- the later history has one call more, which is the seat's
record HasCall (h later : List Event) (s : ℕ) (c : Call) (r : Reply) : Type 0 where
  calls : (n : ℕ) → calls_of n (log_of later) ≡ cond (eqb s n) ((c, r) ∷ calls_of n (log_of h))
      (calls_of n (log_of h))

-- the calls of another seat are the same
calls_of-other :
    (h later : List Event) (s : ℕ) (c : Call) (r : Reply) → HasCall h later s c r → (n : ℕ)
    → (s ≡ n → ⊥)
    → calls_of n (log_of later) ≡ calls_of n (log_of h)
calls_of-other h later s c r has n other = has.calls n ∙ cond-false (eqb s n) _ _ (ne_eqb s n other)

-- one call more adds its net to the sum
net_of_seats-more :
    (h later : List Event) (s : ℕ) (c : Call) (r : Reply) → HasCall h later s c r → (n : ℕ) → s < n
    → net_of_seats (log_of later) n ≡ net_of_call c r +ℤ net_of_seats (log_of h) n
net_of_seats-more h later s c r has zero within = absurd (omega arith)
net_of_seats-more h later s c r has (suc n) within =
    elim (cases_order s n) [
      | inl own ↦
          let here = ap net_of (has.calls n ∙ cond-true (eqb s n) _ _ (eq-eqb s n own)) in
          let rest = net_of_seats-same h later n
          (λ i below. calls_of-other h later s c r has i (λ same. omega arith)) in
          omega (arith, ints)
      | inr (inl below) ↦
          let here = ap net_of (calls_of-other h later s c r has n (λ same. omega arith)) in
          let rest = net_of_seats-more h later s c r has n below in omega (arith, ints)
      | inr (inr above) ↦ absurd (omega arith)
    ]

-- ---- both along a history

-- the event adds as much to the number of the map's keys as to the sum over the seats
record AddsAlike (p : Plan) (e : Event) (h : List Event) : Type 0 where
  net : ℤ
  keys : pos (len (map_of (e ∷ h))) ≡ net +ℤ pos (len (map_of h))
  seats : net_of_seats (log_of (e ∷ h)) p.seats ≡ net +ℤ net_of_seats (log_of h) p.seats

-- an event with a call adds the call's net to both
adds_alike-call :
    (p : Plan) (e : Event) (h : List Event) (s : ℕ) (c : Call) (r : Reply) → s < p.seats
    → map_of (e ∷ h) ≡ map_after c (map_of h) → r ≡ reply_of c (map_of h) → HasCall h (e ∷ h) s c r
    → AddsAlike p e h
adds_alike-call p e h s c r within map reply has = record {
  net = net_of_call c r;
  keys = ap (λ m. pos (len m)) map ∙ net-map_after c (map_of h)
      ∙ ap (λ r. net_of_call c r +ℤ pos (len (map_of h))) (sym reply);
  seats = net_of_seats-more h (e ∷ h) s c r has p.seats within;
}

-- each event of a legal history adds alike, and one without a call adds nothing
adds_alike :
    (p : Plan) → IsPlan p → (e : Event) (h : List Event) → IsLegal p (e ∷ h) → AddsAlike p e h
adds_alike p plan (Won s g i a b c r) h legal =
    let number = win_number p plan h legal.0 g i a b c legal.1.1 legal.2 in
    let map = after_win-call (map_of h) c legal.2.key a b number legal.2.exchange in
    adds_alike-call p (Won s g i a b c r) h s c r legal.1.0 map legal.3.0
    (record { calls = λ n. refl })
adds_alike p plan (Read s c r) h legal =
    adds_alike-call p (Read s c r) h s c r legal.1.0 (sym legal.3.2) legal.3.0
    (record { calls = λ n. refl })
adds_alike p plan e h legal = record {
  net = pos 0;
  keys = omega (arith, ints);
  seats = net_of_seats-same h (e ∷ h) p.seats (λ s below. refl) ∙ omega (arith, ints);
}

-- before all events the sum is 0
net_of_seats-none : (n : ℕ) → net_of_seats [] n ≡ pos 0
net_of_seats-none zero = refl
net_of_seats-none (suc n) = let rest = net_of_seats-none n in omega (arith, ints)

-- what all seats' calls added, less what they took out, is the number of keys
pub size_is_net : SizeIsNet
size_is_net p plan [] legal = net_of_seats-none p.seats
    ∙ ap pos (sym (len-empty nat_cmp ℕ) ∙ len-entries (map_of []))
size_is_net p plan (e ∷ h) legal =
    let alike = adds_alike p plan e h legal in
    let before = size_is_net p plan h legal.0 ∙ ap pos (sym (len-entries (map_of h))) in
    alike.seats ∙ ap (λ net. alike.net +ℤ net) before ∙ sym alike.keys
    ∙ ap pos (len-entries (map_of (e ∷ h)))
