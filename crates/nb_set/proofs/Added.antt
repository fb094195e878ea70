-- How often a key came and went.
use Rattle.std.proofs.Common.{◌≡◌, ◌∙◌, ℕ, ◌+◌, ◌==◌, ◌&&◌, ◌||◌, Bool, true, false, not, cond, if◌then◌else◌, [], ◌∷◌, is_some, ap, sym, subst, refl, arith}
use Rattle.std.proofs.lemmas.List.Sums.{sum_by-cons}
use Rattle.std.specs.FinMap.{contains_key, get-empty}
use Rattle.std.specs.Ordering.{nat_cmp}
use Rattle.std.specs.Cmp.{unsigned_tied}
use Rattle.nb_set.specs.Laws.{KeysAddUp, adds_key, came, removes, went}
use Rattle.nb_set.specs.Log.{Add, Call, Contains, Keys, Remove, reply_of, set_after, set_of_log}
use Rattle.nb_set.proofs.Read.{keys-left, keys-put, same-key}

-- one, where it is so
abbrev one : Bool → ℕ
one b = if b then 1 else 0

-- one key, where the call is of it (b), its key was there (s), and this one was (t)
came-sums : (b s t : Bool) → (b ≡ true → t ≡ s) → cond (b && not s) 1 0 + one t ≡ 0 + one (b || t)
came-sums true true true same = refl
came-sums true false false same = refl
came-sums true true false same = absurd (omega (arith, ap one (same refl)))
came-sums true false true same = absurd (omega (arith, ap one (same refl)))
came-sums false s t same = refl

went-sums : (b s t : Bool) → (b ≡ true → t ≡ s) → 0 + one t ≡ cond (b && s) 1 0 + one (not b && t)
went-sums true true true same = refl
went-sums true false false same = refl
went-sums true true false same = absurd (omega (arith, ap one (same refl)))
went-sums true false true same = absurd (omega (arith, ap one (same refl)))
went-sums false s t same = refl

-- one call more
step :
    (keys : Keys) (k : ℕ) (call : Call)
    → cond (adds_key k call && reply_of call keys) 1 0 + one (contains_key keys k)
    ≡ cond (removes k call && reply_of call keys) 1 0
    + one (contains_key (set_after call keys) k)
step keys k (Add j) =
    came-sums (k == j) (contains_key keys j) (contains_key keys k)
    (λ same. same-key keys j k (unsigned_tied k j ∙ same))
    ∙ ap (λ b. 0 + one b) (sym (keys-put keys j tt k
    ∙ ap (λ b. b || contains_key keys k) (unsigned_tied k j)))
step keys k (Remove j) =
    went-sums (k == j) (contains_key keys j) (contains_key keys k)
    (λ same. same-key keys j k (unsigned_tied k j ∙ same))
    ∙ ap (λ b. cond ((k == j) && contains_key keys j) 1 0 + one b)
    (sym (keys-left keys j k ∙ ap (λ b. not b && contains_key keys k) (unsigned_tied k j)))
step keys k (Contains j) = refl

pub keys_add_up : KeysAddUp
keys_add_up [] replayed k = ap (λ b. 0 + one b) (sym (ap is_some (get-empty nat_cmp k)))
keys_add_up (entry ∷ log) (reply, replayed) k =
    let before = keys_add_up log replayed k in
    let here = subst (λ r. cond (adds_key k entry.call && r) 1 0
    + one (contains_key (set_of_log log) k) ≡ cond (removes k entry.call && r) 1 0
    + one (contains_key (set_after entry.call (set_of_log log)) k)) (sym reply) (step
    (set_of_log log) k entry.call) in
    omega (
      arith,
      before,
      here,
      sum_by-cons (λ e. cond (came k e) 1 0) entry log,
      sum_by-cons (λ e. cond (went k e) 1 0) entry log,
    )
