-- The keys of a map as a set: as many, and in the same order.
use Rattle.std.proofs.Common.{◌≡◌, ◌∙◌, ℕ, ◌&&◌, true, false, cond, List, [], ◌∷◌, map, length, is_some, is_lt, Option, Some, None, ap, sym, subst, refl, T}
use Rattle.std.proofs.lemmas.List.{length-map}
use Rattle.std.specs.FinMap as numbers
use Rattle.std.specs.FinMap.Entries.{below_all, find, is_sorted}
use Rattle.std.specs.Ordering.{eq_by_cmp, nat_cmp}
use Rattle.std.specs.Cmp.{nat_cmp_total}
use Rattle.nb_core.specs.Log.{Numbers}
use Rattle.nb_core.specs.Log as map_log
use Rattle.nb_map.specs.Ending as of_map
use Rattle.nb_set.specs.Ending.{EndedOf, set_left}
use Rattle.nb_set.specs.Log.{Keys}
use Rattle.nb_set.proofs.Read.{AreKeys, read}

-- an entry of a map without its number
abbrev mark : ℕ × ℕ → ℕ × Unit {0}
mark entry = (entry.0, tt)

marks-below :
    (x : ℕ) (es : List (ℕ × ℕ)) → below_all nat_cmp x (map mark es) ≡ below_all nat_cmp x es
marks-below x [] = refl
marks-below x (e ∷ es) = ap (λ b. is_lt (nat_cmp x e.0) && b) (marks-below x es)

marks-sorted : (es : List (ℕ × ℕ)) → is_sorted nat_cmp (map mark es) ≡ is_sorted nat_cmp es
marks-sorted [] = refl
marks-sorted (e ∷ es) = ap (λ b. b && is_sorted nat_cmp (map mark es)) (marks-below e.0 es)
    ∙ ap (λ b. below_all nat_cmp e.0 es && b) (marks-sorted es)

marks-find :
    (q : ℕ) (es : List (ℕ × ℕ)) → is_some (find nat_cmp q (map mark es))
    ≡ is_some (find nat_cmp q es)
marks-find q [] = refl
marks-find q (e ∷ es) =
    elim (eq_by_cmp nat_cmp q e.0) as (λ b. is_some
    (cond b (Some tt) (find nat_cmp q (map mark es)))
    ≡ is_some (cond b (Some e.1) (find nat_cmp q es))) [
      | true ↦ refl
      | false ↦ marks-find q es
    ]

marks-keys : (es : List (ℕ × ℕ)) → map (λ e. e.0) (map mark es) ≡ map (λ e. e.0) es
marks-keys [] = refl
marks-keys (e ∷ es) = ap (λ keys. e.0 ∷ keys) (marks-keys es)

-- the set of the map's keys
abbrev keys-in : Numbers → Keys
keys-in m = numbers.from_sorted (map mark (numbers.entries m))

sorted : (m : Numbers) → T (is_sorted nat_cmp (map mark (numbers.entries m)))
sorted m = subst T (sym (marks-sorted (numbers.entries m))) (numbers.entries_sorted m)

keys-in-are : (m : Numbers) → AreKeys (keys-in m) m
keys-in-are m q =
    ap is_some (numbers.get-from_sorted nat_cmp (map mark (numbers.entries m)) q (sorted m))
    ∙ marks-find q (numbers.entries m)
    ∙ ap is_some (sym (numbers.get-entries m q))

-- a set is told by its keys
marks-itself : (at : Option (Unit {0})) → at ≡ cond (is_some at) (Some tt) None
marks-itself None = refl
marks-itself (Some u) = refl

pub same-keys :
    (keys others : Keys) → ((k : ℕ) → numbers.contains_key keys k ≡ numbers.contains_key others k)
    → keys ≡ others
same-keys keys others same =
    numbers.same_map nat_cmp_total numbers.nat_cmp-IsAntisymmetric keys others
    (λ k. marks-itself (numbers.get keys k) ∙ ap (λ b. cond b (Some tt) None) (same k)
    ∙ sym (marks-itself (numbers.get others k)))

-- which are the keys of a set that has those of the map
pub keys-are :
    (keys : Keys) (m : Numbers) → AreKeys keys m
    → numbers.keys keys ≡ map (λ e. e.0) (numbers.entries m)
keys-are keys m are =
    ap numbers.keys (same-keys keys (keys-in m) (λ q. are q ∙ sym (keys-in-are m q)))
    ∙ ap (map (λ e. e.0)) (numbers.entries-from_sorted nat_cmp (map mark (numbers.entries m))
    (sorted m)) ∙ marks-keys (numbers.entries m)

-- and how many
pub len-is :
    (keys : Keys) (m : Numbers) → AreKeys keys m → numbers.len keys ≡ length (numbers.entries m)
len-is keys m are =
    numbers.len-entries keys ∙ sym (length-map (numbers.entries keys) (λ e. e.0))
    ∙ ap length (keys-are keys m are)
    ∙ length-map (numbers.entries m) (λ e. e.0)

-- ---- at the end

pub left :
    (ended : EndedOf) → map_log.IsReplayed (of_map.log_left ended.map)
    → AreKeys (set_left ended) (of_map.map_left ended.map)
left ended replayed = (read (of_map.log_left ended.map) replayed).1

pub keys-left :
    (ended : EndedOf) → map_log.IsReplayed (of_map.log_left ended.map)
    → numbers.keys (set_left ended) ≡ map (λ e. e.0) (numbers.entries (of_map.map_left ended.map))
keys-left ended replayed = keys-are (set_left ended) (of_map.map_left ended.map)
    (left ended replayed)

pub len-left :
    (ended : EndedOf) → map_log.IsReplayed (of_map.log_left ended.map)
    → numbers.len (set_left ended) ≡ length (numbers.entries (of_map.map_left ended.map))
len-left ended replayed = len-is (set_left ended) (of_map.map_left ended.map) (left ended replayed)
