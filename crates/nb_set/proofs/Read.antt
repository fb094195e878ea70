-- A map's log, read as that of the set of its keys.
use Rattle.std.proofs.Common.{◌≡◌, ◌∙◌, ℕ, ◌||◌, ◌==◌, Bool, true, false, not, cond, if◌then◌else◌, List, [], ◌∷◌, ◌++◌, map, Option, Some, None, is_some, ap, sym, subst, refl, unwrap_or, ◌+◌, ◌&&◌}
use Rattle.std.proofs.lemmas.List.{map-append}
use Rattle.std.specs.FinMap.{FinMap, contains_key, get, get-empty, get-insert, get-remove, get_tied, insert, remove}
use Rattle.std.specs.Ordering.{eq_by_cmp, nat_cmp}
use Rattle.std.specs.Cmp.{Equal-is, nat_cmp_total}
use Rattle.nb_core.specs.Log.{IsBeginning, Numbers, holds_of, map_of_log}
use Rattle.nb_core.specs.Log as map_log
use Rattle.nb_core.specs.declared.calls.Call as map_call
use Rattle.nb_core.specs.declared.calls.Call.TheVariants as on_map
use Rattle.nb_core.specs.declared.calls.Change.TheVariants as change
use Rattle.nb_set.specs.Log.{Call, IsReplayed, Keys, calls_of, reply_of, set_after, set_of_log}
use Rattle.nb_set.specs.OfMap.{call_as, entry_as, log_as, put_as, removal_as}

-- the set has the keys that the map has
abbrev pub AreKeys : Keys → Numbers → Type 0
AreKeys keys m = (k : ℕ) → contains_key keys k ≡ contains_key m k

-- ---- one call

-- keys that tie are in the set alike
pub same-key :
    (keys : Keys) (k q : ℕ) → eq_by_cmp nat_cmp q k ≡ true
    → contains_key keys q ≡ contains_key keys k
same-key keys k q tie =
    sym (ap is_some (get_tied nat_cmp_total keys q k ((Equal-is (nat_cmp q k)).0 tie)))

-- which keys there are when one is put in, and taken out
pub keys-put :
    {X : Type 0} (m : FinMap nat_cmp X) (k : ℕ) (x : X) (q : ℕ)
    → contains_key (insert m k x) q ≡ (eq_by_cmp nat_cmp q k || contains_key m q)
keys-put m k x q = ap is_some (get-insert nat_cmp_total m k x q) ∙ here (eq_by_cmp nat_cmp q k)
  where
    here : (b : Bool) → is_some (cond b (Some x) (get m q)) ≡ (b || is_some (get m q))
    here true = refl
    here false = refl

pub keys-left :
    {X : Type 0} (m : FinMap nat_cmp X) (k q : ℕ)
    → contains_key (remove m k) q ≡ (not (eq_by_cmp nat_cmp q k) && contains_key m q)
keys-left m k q = ap is_some (get-remove nat_cmp_total m k q) ∙ gone (eq_by_cmp nat_cmp q k)
  where
    gone : (b : Bool) → is_some (cond b None (get m q)) ≡ (not b && is_some (get m q))
    gone true = refl
    gone false = refl

keys-insert :
    (keys : Keys) (m : Numbers) (k x : ℕ) → AreKeys keys m
    → AreKeys (insert keys k tt) (insert m k x)
keys-insert keys m k x are q = keys-put keys k tt q ∙ ap (λ b. eq_by_cmp nat_cmp q k || b) (are q)
    ∙ sym (keys-put m k x q)

keys-remove :
    (keys : Keys) (m : Numbers) (k : ℕ) → AreKeys keys m → AreKeys (remove keys k) (remove m k)
keys-remove keys m k are q = keys-left keys k q ∙ ap (λ b. not (eq_by_cmp nat_cmp q k) && b) (are q)
    ∙ sym (keys-left m k q)

-- to add a key that is there changes nothing
keys-same :
    (keys : Keys) (m : Numbers) (k : ℕ) → AreKeys keys m → contains_key keys k ≡ true
    → AreKeys (insert keys k tt) m
keys-same keys m k are there q = keys-put keys k tt q ∙ also (eq_by_cmp nat_cmp q k) refl ∙ are q
  where
    also : (b : Bool) → eq_by_cmp nat_cmp q k ≡ b → (b || contains_key keys q) ≡ contains_key keys q
    also true tie = sym (same-key keys k q tie ∙ there)
    also false tie = refl

-- nor to remove one that isn't
keys-gone :
    (keys : Keys) (m : Numbers) (k : ℕ) → AreKeys keys m → contains_key keys k ≡ false
    → AreKeys (remove keys k) m
keys-gone keys m k are gone q = keys-left keys k q ∙ also (eq_by_cmp nat_cmp q k) refl ∙ are q
  where
    also : (b : Bool) → eq_by_cmp nat_cmp q k ≡ b
        → (not b && contains_key keys q) ≡ contains_key keys q
    also true tie = sym (same-key keys k q tie ∙ gone)
    also false tie = refl

-- a call with its reply that the set gives, and the set that it leaves has the keys of this map
abbrev IsStep : Keys → Call × Bool → Numbers → Type 0
IsStep keys made after = (made.1 ≡ reply_of made.0 keys) × AreKeys (set_after made.0 keys) after

put-step :
    (keys : Keys) (m : Numbers) (k x : ℕ) (b : Bool) (at : Option ℕ) → AreKeys keys m → get m k ≡ at
    → IsStep keys (put_as k (record { before = at; matched = b })) (if b then insert m k x else m)
put-step keys m k x true None are is = (
  sym (ap not (are k ∙ ap is_some is)),
  keys-insert keys m k x are,
)
put-step keys m k x true (Some n) are is =
    (sym (ap not (are k ∙ ap is_some is)), keys-insert keys m k x are)
put-step keys m k x false None are is = (sym (are k ∙ ap is_some is), are)
put-step keys m k x false (Some n) are is =
    (sym (ap not (are k ∙ ap is_some is)), keys-same keys m k are (are k ∙ ap is_some is))

removal-step :
    (keys : Keys) (m : Numbers) (k : ℕ) (b : Bool) (at : Option ℕ) → AreKeys keys m → get m k ≡ at
    → IsStep keys (removal_as k (record { before = at; matched = b })) (if b then remove m k else m)
removal-step keys m k true None are is = (sym (are k ∙ ap is_some is), keys-remove keys m k are)
removal-step keys m k true (Some n) are is = (sym (are k ∙ ap is_some is), keys-remove keys m k are)
removal-step keys m k false None are is =
    (sym (are k ∙ ap is_some is), keys-gone keys m k are (are k ∙ ap is_some is))
removal-step keys m k false (Some n) are is = (sym (are k ∙ ap is_some is), are)

step :
    (keys : Keys) (m : Numbers) (call : map_call.Call) → AreKeys keys m
    → IsStep keys (call_as (call, map_log.reply_of call m)) (map_log.map_after call m)
step keys m (on_map.Get k) are = (sym (are k), are)
step keys m (on_map.Write k want (change.Put n)) are =
    put-step keys m k n (holds_of want (get m k)) (get m k) are refl
step keys m (on_map.Write k want (change.Add n)) are =
    put-step keys m k (unwrap_or (get m k) 0 + n) (holds_of want (get m k)) (get m k) are refl
step keys m (on_map.Write k want change.Remove) are =
    removal-step keys m k (holds_of want (get m k)) (get m k) are refl

-- ---- logs

-- The log of a map that is replayed is so as that of the set, and the set that it leaves has the
-- map's keys.
pub read :
    (log : List map_log.Entry) → map_log.IsReplayed log → IsReplayed (log_as log)
    × AreKeys (set_of_log (log_as log)) (map_of_log log)
read [] replayed = (
  tt,
  λ k. ap is_some (get-empty nat_cmp k)
      ∙ ap is_some (sym (get-empty nat_cmp k)),
)
read (entry ∷ log) (reply, replayed) =
    let (as_set, are) = read log replayed in
    let m = map_of_log log in
    let keys = set_of_log (log_as log) in
    let (same, after) = subst (λ reply. IsStep keys (call_as (entry.call, reply))
    (map_log.map_after entry.call m)) (sym reply) (step keys m entry.call are) in
    ((same, as_set), after)

-- a seat's calls in it
pub calls-as :
    (seat : ℕ) (log : List map_log.Entry)
    → calls_of seat (log_as log) ≡ map call_as (map_log.calls_of seat log)
calls-as seat [] = refl
calls-as seat (entry ∷ log) =
    elim (entry.seat == seat) as (λ b.
    (if b then ((entry_as entry).call, (entry_as entry).reply) ∷ calls_of seat (log_as log)
    else calls_of seat (log_as log))
    ≡ map call_as (if b then (entry.call, entry.reply)
    ∷ map_log.calls_of seat log else map_log.calls_of seat log)) [
      | true ↦ ap (λ calls. call_as (entry.call, entry.reply) ∷ calls) (calls-as seat log)
      | false ↦ calls-as seat log
    ]

-- a beginning of it
pub begins-as :
    {first whole : List map_log.Entry} → IsBeginning first whole
    → IsBeginning (log_as first) (log_as whole)
begins-as {first} begun = record {
  later = log_as begun.later;
  is = ap log_as begun.is
      ∙ map-append entry_as begun.later first;
}

-- a beginning of a log that is replayed is so
pub begins-replayed :
    (later first : List map_log.Entry) → map_log.IsReplayed (later ++ first)
    → map_log.IsReplayed first
begins-replayed [] first replayed = replayed
begins-replayed (entry ∷ later) first replayed = begins-replayed later first replayed.1
