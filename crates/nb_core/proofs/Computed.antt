-- What computes: whether a slot is a key's or finished, what the map of a history has at a key, and
-- which calls leave that alone.
use Rattle.std.proofs.Common.{◌≡◌, ◌≢◌, ◌∙◌, ◌⊎◌, ℕ, suc, ◌<◌, ◌==◌, sym, ap, subst, refl, Bool, true, false, not, cond, if◌then◌else◌, ◌||◌, eqb, ltb, List, [], ◌∷◌, Option, Some, None, ⊎_elim, arith, inl, inr}
use Rattle.std.proofs.lemmas.Bool.{both_ways, cond-false, eq-eqb, eqb-true, ltb-true, ne_eqb, not-true, or_cases}
use Rattle.std.specs.FinMap.{get, get-insert, get-remove, get-empty, same_map, nat_cmp-IsAntisymmetric}
use Rattle.std.specs.Ordering.{nat_cmp, eq_by_cmp, is_eq}
use Rattle.std.specs.declared.cmp.Ordering.TheVariants.{Less, Equal, Greater}
use Rattle.std.specs.Cmp.{nat_cmp_total}
use Rattle.nb_core.specs.Calls.{leaves_alone, same_number}
use Rattle.nb_core.specs.Log.{Numbers, changed, holds_of, map_after, with_at}
use Rattle.nb_core.specs.Tables.{IsFinished, Tables, is_dead, is_finished_value}
use Rattle.nb_core.specs.History.{after_win, key_of_call, map_of}
use Rattle.nb_core.specs.Meaning.{is_claimed_by}
use Rattle.nb_core.specs.declared.calls.Call.{Call}
use Rattle.nb_core.specs.declared.calls.Call.TheVariants as call
use Rattle.nb_core.specs.declared.calls.Change.{Change}
use Rattle.nb_core.specs.declared.calls.Want.{Want}
use Rattle.nb_core.specs.declared.events.Event.{Event}
use Rattle.nb_core.specs.declared.events.Event.TheVariants.{Won}
use Rattle.nb_core.specs.declared.states.KeyState.{KeyState}
use Rattle.nb_core.specs.declared.states.KeyState.TheVariants.{Empty, Dead, Claimed}
use Rattle.nb_core.specs.declared.states.ValueState.{ValueState}
use Rattle.nb_core.specs.declared.states.ValueState.TheVariants.{Tombstone, Live}

-- ---- tests of slots

-- no test that fails passes
pub no_true : {A : Type 0} → false ≡ true → A
no_true e = cc

last_or_below : (i n : ℕ) → i < suc n → (i < n) ⊎ (i ≡ n)
last_or_below i n h = grind arith

-- what holds of each number below n and of n holds of each below suc n
pub below_suc : (P : ℕ → Type 0) (n : ℕ) → P n → ((i : ℕ) → i < n → P i) → (i : ℕ) → i < suc n → P i
below_suc P n here below i h = ⊎_elim (λ lt. below i lt) (λ e. subst P (sym e) here)
    (last_or_below i n h)

pub is_claimed_by-true : (k : ℕ) (s : KeyState) → is_claimed_by k s ≡ true → s ≡ Claimed k
is_claimed_by-true k Empty e = cc
is_claimed_by-true k Dead e = cc
is_claimed_by-true k (Claimed j) e = ap Claimed (eqb-true j k e)

pub unclaimed : (k : ℕ) (s : KeyState) → not (is_claimed_by k s) ≡ true → s ≢ Claimed k
unclaimed k s e h = let here : is_claimed_by k s ≡ true = rw h (eq-eqb k k refl) in
    both_ways (is_claimed_by k s) (not-true _ e) here

is_dead-true : (s : KeyState) → is_dead s ≡ true → s ≡ Dead
is_dead-true Empty e = cc
is_dead-true Dead e = refl
is_dead-true (Claimed k) e = cc

abbrev pub is_finished : Tables → ℕ → ℕ → Bool
is_finished t g i = is_dead (t.key g i) || is_finished_value (t.value g i)

pub is_finished-true : (t : Tables) (g i : ℕ) → is_finished t g i ≡ true → IsFinished t g i
is_finished-true t g i e =
    ⊎_elim (λ dead. inl (is_dead-true (t.key g i) dead)) (λ final. inr final)
    (or_cases (is_dead (t.key g i)) (is_finished_value (t.value g i)) e)

-- ---- the map's number at a key

abbrev pub number_left : ValueState → Option ℕ → Option ℕ
number_left (Live n) before = Some n
number_left Tombstone before = None
number_left _ before = before

abbrev pub number_at : List Event → ℕ → Option ℕ
number_at [] k = None
number_at (Won s g i a b c r ∷ h) k = if k == key_of_call c then number_left b (number_at h k)
    else number_at h k
number_at (_ ∷ h) k = number_at h k

-- numbers compare alike where they are equal
pub same_key : (a b : ℕ) → eq_by_cmp nat_cmp a b ≡ eqb a b
same_key a b =
    elim (ltb a b) as (λ t. ltb a b ≡ t → is_eq (cond t Less (cond (eqb a b) Equal Greater))
    ≡ eqb a b) [
      | true ↦ λ lt. let below = ltb-true a b lt in sym (ne_eqb a b (λ same. absurd (omega arith)))
      | false ↦ λ ge. elim (eqb a b) as (λ t. is_eq (cond t Equal Greater) ≡ t)
          [ true ↦ refl | false ↦ refl ]
    ] refl

-- a choice between a thing and itself is that thing
same_branch : {A : Type 0} (b : Bool) (x : A) → cond b x x ≡ x
same_branch true x = refl
same_branch false x = refl

-- where the key has this already, a change to it at the key is none
unchanged :
    (m : Numbers) (k q : ℕ) (o : Option ℕ) → get m k ≡ o → cond (eqb q k) o (get m q) ≡ get m q
unchanged m k q o e =
    elim (eqb q k) as (λ t. eqb q k ≡ t → cond t o (get m q) ≡ get m q) [
      | true ↦ λ same. sym e ∙ ap (get m) (sym (eqb-true q k same))
      | false ↦ λ other. refl
    ] refl

-- what the map has at a key after an exchange
get-after_win :
    (m : Numbers) (k q : ℕ) (b : ValueState)
    → get (after_win m k b) q ≡ cond (eqb q k) (number_left b (get m q)) (get m q)
get-after_win m k q (Live n) = get-insert nat_cmp_total m k n q
    ∙ ap (λ t. cond t (Some n) (get m q)) (same_key q k)
get-after_win m k q Tombstone = get-remove nat_cmp_total m k q
    ∙ ap (λ t. cond t None (get m q)) (same_key q k)
get-after_win m k q _ = sym (same_branch (eqb q k) (get m q))

-- what the map of a history has at a key, computed
pub number_at_map : (h : List Event) (k : ℕ) → get (map_of h) k ≡ number_at h k
number_at_map [] k = get-empty nat_cmp k
number_at_map (Won s g i a b c r ∷ h) k =
    get-after_win (map_of h) (key_of_call c) k b
    ∙ ap (λ o. cond (eqb k (key_of_call c)) (number_left b o) o) (number_at_map h k)
number_at_map (e ∷ h) k = number_at_map h k

-- ---- calls that leave it alone

-- what passes the test of two numbers, or none, is the same
pub same_number-true : (a b : Option ℕ) → same_number a b ≡ true → a ≡ b
same_number-true None None e = refl
same_number-true None (Some m) e = cc
same_number-true (Some n) None e = cc
same_number-true (Some n) (Some m) e = ap Some (eqb-true n m e)

-- to set a key to what stands there changes nothing
with_at-same : (m : Numbers) (k : ℕ) (o : Option ℕ) → get m k ≡ o → with_at m k o ≡ m
with_at-same m k None e =
    same_map nat_cmp_total nat_cmp-IsAntisymmetric _ _
    (λ q. get-remove nat_cmp_total m k q ∙ ap (λ t. cond t None (get m q)) (same_key q k)
    ∙ unchanged m k q None e)
with_at-same m k (Some n) e =
    same_map nat_cmp_total nat_cmp-IsAntisymmetric _ _
    (λ q. get-insert nat_cmp_total m k n q ∙ ap (λ t. cond t (Some n) (get m q)) (same_key q k)
    ∙ unchanged m k q (Some n) e)

-- A write leaves alone what stands at its key where its condition doesn't hold of it, or its change
-- puts the same.
pub alone-why :
    (k : ℕ) (want : Want) (change : Change) (number : Option ℕ)
    → leaves_alone (call.Write k want change) number ≡ true
    → (holds_of want number ≡ false) ⊎ (changed change number ≡ number)
alone-why k want change number e =
    elim (or_cases (not (holds_of want number)) (same_number (changed change number) number) e) [
      | inl fails ↦ inl (not-true (holds_of want number) fails)
      | inr same ↦ inr (same_number-true (changed change number) number same)
    ]

-- a call that leaves the number at its key alone leaves the map as it is
pub map_after-left :
    (c : Call) (m : Numbers) → leaves_alone c (get m (key_of_call c)) ≡ true → map_after c m ≡ m
map_after-left (call.Get k) m alone = refl
map_after-left (call.Write k want change) m alone =
    let number = get m k in
    let after = λ (b : Bool). cond b (with_at m k (changed change number)) m in
    elim (alone-why k want change number alone) as (λ why. after (holds_of want number) ≡ m) [
      | inl fails ↦ cond-false _ _ _ fails
      | inr same ↦ elim (holds_of want number) as (λ b. after b ≡ m) [
        | true ↦ ap (with_at m k) same ∙ with_at-same m k number refl
        | false ↦ refl
      ]
    ]
