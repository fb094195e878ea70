-- What a plain map has at a key after a call.
use Rattle.std.proofs.Common.{◌≡◌, ◌∙◌, ℕ, true, false, not, cond, ◌==◌, Option, Some, None, ap, sym, refl}
use Rattle.std.proofs.lemmas.Bool.{cond-false, cond-true, eq-eqb, ne_eqb, eqb-false, not-false, or_parts}
use Rattle.std.specs.FinMap.{get, get-insert, get-remove}
use Rattle.std.specs.Cmp.{nat_cmp_total}
use Rattle.nb_core.specs.Calls.{leaves_alone, same_number}
use Rattle.nb_core.specs.History.{key_of_call}
use Rattle.nb_core.specs.Log.{Numbers, changed, holds_of, map_after, reply_at, reply_of, with_at}
use Rattle.nb_core.specs.declared.calls.Call.{Call}
use Rattle.nb_core.specs.declared.calls.Call.TheVariants as call
use Rattle.nb_core.specs.declared.calls.Change.{Change}
use Rattle.nb_core.specs.declared.calls.Want.{Want}
use Rattle.nb_core.proofs.Computed.{same_key}

get-with_at :
    (m : Numbers) (k q : ℕ) (o : Option ℕ) → get (with_at m k o) q ≡ cond (q == k) o (get m q)
get-with_at m k q None = get-remove nat_cmp_total m k q
    ∙ ap (λ t. cond t None (get m q)) (same_key q k)
get-with_at m k q (Some n) = get-insert nat_cmp_total m k n q
    ∙ ap (λ t. cond t (Some n) (get m q)) (same_key q k)

-- a write that changes something has its condition met
acts-holds :
    (k : ℕ) (want : Want) (change : Change) (number : Option ℕ)
    → leaves_alone (call.Write k want change) number ≡ false → holds_of want number ≡ true
acts-holds k want change number acts =
    not-false (holds_of want number)
    (or_parts (not (holds_of want number)) (same_number (changed change number) number) acts).0

get-after :
    (k : ℕ) (want : Want) (change : Change) (m : Numbers) (q : ℕ)
    → leaves_alone (call.Write k want change) (get m k) ≡ false
    → get (map_after (call.Write k want change) m) q ≡ cond (q == k) (changed change (get m k)) (get m q)
get-after k want change m q acts =
    ap (λ t. get t q) (cond-true (holds_of want (get m k)) (with_at m k (changed change (get m k))) m
    (acts-holds k want change (get m k) acts))
    ∙ get-with_at m k q (changed change (get m k))

-- at its key such a write leaves what it changes the number to
pub get-changed :
    (k : ℕ) (want : Want) (change : Change) (m : Numbers)
    → leaves_alone (call.Write k want change) (get m k) ≡ false
    → get (map_after (call.Write k want change) m) k ≡ changed change (get m k)
get-changed k want change m acts =
    get-after k want change m k acts
    ∙ cond-true (k == k) (changed change (get m k)) (get m k) (eq-eqb k k refl)

-- and elsewhere nothing
pub get-other :
    (k : ℕ) (want : Want) (change : Change) (m : Numbers) (q : ℕ)
    → leaves_alone (call.Write k want change) (get m k) ≡ false → (k == q) ≡ false
    → get (map_after (call.Write k want change) m) q ≡ get m q
get-other k want change m q acts other =
    get-after k want change m q acts
    ∙ cond-false (q == k) (changed change (get m k)) (get m q)
    (ne_eqb q k (λ same. eqb-false k q other (sym same)))

-- a reply that says what the map has at the call's key is the map's
pub reply_at-map : (c : Call) (m : Numbers) → reply_at c (get m (key_of_call c)) ≡ reply_of c m
reply_at-map (call.Get k) m = refl
reply_at-map (call.Write k want change) m = refl

-- a reply tells the number that was found
pub before-reply : (c : Call) (number : Option ℕ) → (reply_at c number).before ≡ number
before-reply (call.Get k) number = refl
before-reply (call.Write k want change) number = refl
