-- Replies that pass the test are the map's, and a history that passes it is legal.
use Rattle.std.proofs.Common.{◌≡◌, ◌∙◌, ℕ, ap, refl, Bool, true, false, not, cond, ◌||◌, List, [], ◌∷◌, Option}
use Rattle.std.proofs.lemmas.Bool.{and_parts}
use Rattle.std.specs.FinMap.{get}
use Rattle.nb_core.specs.Calls.{is_past_max, leaves_alone, overflows, same_number}
use Rattle.nb_core.specs.Log.{Numbers, changed, holds_of, reply_of}
use Rattle.nb_core.specs.Plans.{Plan}
use Rattle.nb_core.specs.Tables.{tables_at}
use Rattle.nb_core.specs.History.{IsLegal, Replies, key_of_call, map_of}
use Rattle.nb_core.proofs.Computed.{map_after-left, number_at, number_at_map, same_number-true}
use Rattle.nb_histories.proofs.Legality.{is_reply, is_in_range, may_follow, passes, replies}
use Rattle.nb_histories.proofs.Passing.{is_in_range-true, may_follow-true}
use Rattle.nb_core.specs.declared.calls.Call.{Call}
use Rattle.nb_core.specs.declared.calls.Call.TheVariants as call
use Rattle.nb_core.specs.declared.calls.Reply.{Reply}
use Rattle.nb_core.specs.declared.events.Event.{Event}
use Rattle.nb_core.specs.declared.events.Event.TheVariants.{Won, Read}

-- a reply is what it says
same_reply :
    (r : Reply) (before : Option ℕ) (matched : Bool) → r.before ≡ before → r.matched ≡ matched
    → r ≡ record { before = before; matched = matched }
same_reply r before matched p q = λ i. record { before = p i; matched = q i }

-- a reply that passes the test says whether the condition held
matched_is : (holds matched : Bool) → cond holds matched (not matched) ≡ true → matched ≡ holds
matched_is true true e = refl
matched_is true false e = cc
matched_is false true e = cc
matched_is false false e = refl

-- a call whose condition fails, or whose number fits, doesn't overflow
not_past : (holds past : Bool) → (not holds || not past) ≡ true → cond holds past false ≡ false
not_past true true e = cc
not_past true false e = refl
not_past false past e = refl

-- a reply that passes the test, with what the map has at the call's key, is the map's,
reply_here :
    (c : Call) (r : Reply) (m : Numbers) → is_reply c r (get m (key_of_call c)) ≡ true
    → (r ≡ reply_of c m) × (overflows c m ≡ false)
reply_here (call.Get k) r m e =
    let a = and_parts (same_number r.before (get m k)) r.matched e in
    (same_reply r (get m k) true (same_number-true r.before (get m k) a.0) a.1, refl)
reply_here (call.Write k want change) r m e =
    let now = get m k in
    let a = and_parts (same_number r.before now) _ e in
    let b = and_parts (cond (holds_of want now) r.matched (not r.matched)) _ a.1 in (
      same_reply r now (holds_of want now) (same_number-true r.before now a.0)
          (matched_is (holds_of want now) r.matched b.0),
      not_past (holds_of want now) (is_past_max (changed change now)) b.1,
    )

-- also with that computed
reply_is :
    (c : Call) (r : Reply) (m : Numbers) (now : Option ℕ) → get m (key_of_call c) ≡ now
    → is_reply c r now ≡ true
    → (r ≡ reply_of c m) × (overflows c m ≡ false)
reply_is c r m now at e = reply_here c r m (ap (is_reply c r) at ∙ e)

-- replies that pass the test are right
replies-true : (h : List Event) (e : Event) → replies h e ≡ true → Replies (map_of h) e
replies-true h (Won s g i a b c r) e = reply_is c r (map_of h) _ (number_at_map h (key_of_call c)) e
replies-true h (Read s c r) e =
    let k = key_of_call c in
    let at = number_at_map h k in
    let a = and_parts (is_reply c r (number_at h k)) (leaves_alone c (number_at h k)) e in
    let reply = reply_is c r (map_of h) _ at a.0 in
    let alone = ap (leaves_alone c) at ∙ a.1 in
    (reply.0, reply.1, map_after-left c (map_of h) alone)
replies-true h _ e = tt

-- what passes is legal
pub passes_legal : (p : Plan) (h : List Event) → passes p h ≡ true → IsLegal p h
passes_legal p [] e = tt
passes_legal p (event ∷ h) e =
    let a = and_parts (is_in_range p event) _ e in
    let b = and_parts (may_follow p h (tables_at p h) event) _ a.1 in
    let c = and_parts (replies h event) (passes p h) b.1 in (
      passes_legal p h c.1,
      is_in_range-true p event a.0,
      may_follow-true p h event b.0,
      replies-true h event c.0,
    )
