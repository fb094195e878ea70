-- What a plain map's entries say of the finite map that they make.
use Rattle.std.proofs.Common.{arith, ◌≡◌, ◌∙◌, sym, ap, refl, subst, ℕ, List, [], ◌∷◌, ◌++◌, length, map, Bool, ◌&&◌, cond, true, false, T, Option, Some, None}
use Rattle.std.specs.FinMap.{find, get, insert, remove, entries, from_entries, from_sorted, is_sorted, get-from_entries, get-from_sorted, get-insert, get-remove, entries-from_sorted, len, len-entries, same_map, nat_cmp-IsAntisymmetric}
use Rattle.std.specs.Ordering.{nat_cmp, eq_by_cmp}
use Rattle.std.specs.Cmp.{nat_cmp_total, eq_by_cmp_equiv}
use Rattle.std.specs.Map.{lookup}
use Rattle.std.specs.BTreeMap.{is_at}
use Rattle.std.specs.List.{AllByRecursion}
use Rattle.std.specs.List.Sorted.{IsStrictlySortedBy}
use Rattle.std.specs.FinMap.Entries.{below_all}
use Rattle.std.specs.declared.cmp.Ordering.TheVariants.{Less}
use Rattle.std.specs.Ordering.{is_lt}
use Rattle.std.proofs.lemmas.Grind.{common_steps}

-- what the entries have at a key
abbrev pub number_at : List (ℕ × ℕ) → ℕ → Option ℕ
number_at es k = lookup (is_at (nat_cmp k)) es

find_number : (es : List (ℕ × ℕ)) (k : ℕ) → find nat_cmp k es ≡ number_at es k
find_number [] k = refl
find_number (e ∷ es) k = ap (cond (is_at (nat_cmp k) e.0) (Some e.1)) (find_number es k)

pub get_number :
    (es : List (ℕ × ℕ)) (k : ℕ) → get (from_entries {R = nat_cmp} es) k ≡ number_at es k
get_number es k = get-from_entries nat_cmp_total es k ∙ find_number es k

-- entries that differ at one key make maps that differ there
pub inserted :
    (es fs : List (ℕ × ℕ)) (k n : ℕ) → ((q : ℕ)
    → number_at fs q ≡ cond (is_at (nat_cmp k) q) (Some n) (number_at es q)) → from_entries {R =
    nat_cmp} fs ≡ insert (from_entries es) k n
inserted es fs k n h = same_map nat_cmp_total nat_cmp-IsAntisymmetric _ _ (λ q.
    get_number fs q ∙ h q ∙ ap (λ b. cond b (Some n) (number_at es q))
    ((eq_by_cmp_equiv nat_cmp_total).symm k q)
    ∙ sym (get-insert nat_cmp_total (from_entries es) k n q
    ∙ ap (cond (eq_by_cmp nat_cmp q k) (Some n)) (get_number es q)))

pub removed :
    (es fs : List (ℕ × ℕ)) (k : ℕ) → ((q : ℕ)
    → number_at fs q ≡ cond (is_at (nat_cmp k) q) None (number_at es q)) → from_entries {R =
    nat_cmp} fs ≡ remove (from_entries es) k
removed es fs k h = same_map nat_cmp_total nat_cmp-IsAntisymmetric _ _ (λ q.
    get_number fs q ∙ h q ∙ ap (λ b. cond b None (number_at es q))
    ((eq_by_cmp_equiv nat_cmp_total).symm k q)
    ∙ sym (get-remove nat_cmp_total (from_entries es) k q
    ∙ ap (cond (eq_by_cmp nat_cmp q k) None) (get_number es q)))

-- entries in order are those of the map that they make
pub entries_in_order :
    (es : List (ℕ × ℕ)) → T (is_sorted nat_cmp es) → entries (from_entries {R = nat_cmp} es) ≡ es
entries_in_order es h = ap entries same ∙ entries-from_sorted nat_cmp es h where
  same : from_entries {R = nat_cmp} es ≡ from_sorted es
  same = same_map nat_cmp_total nat_cmp-IsAntisymmetric _ _
      (λ q. get-from_entries nat_cmp_total es q ∙ sym (get-from_sorted nat_cmp es q h))

-- a map in order has as many keys as entries
pub len_in_order :
    (es : List (ℕ × ℕ)) → T (is_sorted nat_cmp es) → len (from_entries {R = nat_cmp} es) ≡ length es
len_in_order es h = len-entries (from_entries es) ∙ ap length (entries_in_order es h)

both : (a b : Bool) → T a → T b → T (a && b)
both true b p q = q
both false b p q = absurd p

all_below :
    (k : ℕ) (es : List (ℕ × ℕ)) → AllByRecursion (λ q. nat_cmp k q ≡ Less) (map (λ e. e.0) es)
    → T (below_all nat_cmp k es)
all_below k [] h = tt
all_below k (e ∷ es) h = both _ _ (subst (λ r. T (is_lt r)) (sym h.0) tt) (all_below k es h.1)

-- The entries of a `BTreeMap` are in order.
pub in_order :
    (es : List (ℕ × ℕ)) → IsStrictlySortedBy nat_cmp (map (λ e. e.0) es) → T (is_sorted nat_cmp es)
unfolding IsStrictlySortedBy
in_order [] h = tt
in_order (e ∷ es) h = both _ _ (all_below e.0 es h.0) (in_order es h.1)

-- what was taken of a list of which nothing is left is all of it
pub all_taken :
    {X : Type 0} (taken left all : List X) → taken ++ left ≡ all → left ≡ [] → taken ≡ all
all_taken taken left all h e = grind (arith, common_steps)
