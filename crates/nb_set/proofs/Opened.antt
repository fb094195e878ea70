-- A map that has entries from the start, as a set that has keys from the start.
use Rattle.std.proofs.Common.{◌≡◌, ◌∙◌, ℕ, ◌||◌, Bool, true, false, List, [], ◌∷◌, map, reverse, is_some, ap, sym, subst, refl, inl, inr, arith}
use Rattle.std.specs.FinMap as numbers
use Rattle.std.specs.FinMap.{contains_key, from_entries, get-empty}
use Rattle.std.specs.List.{list_any}
use Rattle.std.specs.Ordering.{eq_by_cmp, nat_cmp}
use Rattle.std.proofs.lemmas.List.{reverse-append}
use Rattle.std.proofs.lemmas.List.Elements.{All-weaker}
use Rattle.std.proofs.lemmas.List.Folds.{list_any-append}
use Rattle.nb_core.specs.Log.{Numbers}
use Rattle.nb_core.specs.Plans.{Plan}
use Rattle.nb_core.specs.Tables.{tables_at}
use Rattle.nb_core.specs.declared.calls.Call as map_call
use Rattle.nb_core.specs.declared.events.Event.{Event}
use Rattle.nb_core.specs.declared.events.Event.TheVariants.{Claim}
use Rattle.nb_table.specs.Chains.{SeenBy, own_events}
use Rattle.nb_map.specs.Bulk.{put_entry}
use Rattle.nb_map.specs.Crowding.{IsClaimOf, IsFilled}
use Rattle.nb_map.specs.Crowding as crowding
use Rattle.nb_map.specs.Handles as handles
use Rattle.nb_map.specs.Maps as maps
use Rattle.nb_map.specs.Opening as of_map
use Rattle.nb_map.specs.Opening.{map_of_entries}
use Rattle.nb_set.specs.Handles.{as_handle}
use Rattle.nb_set.specs.Log.{Add, Keys, set_of_log}
use Rattle.nb_set.specs.OfMap.{call_for, log_as, pair_for}
use Rattle.nb_set.specs.Opening.{BeginsWith, HasAskedFor, HaveBegunWith, IsTooSmallFor, set_of_keys}
use Rattle.nb_set.specs.Sets.{SetOf, log, shape_of}
use Rattle.nb_set.proofs.Items.{keys-are, len-is, same-keys}
use Rattle.nb_set.proofs.Read.{AreKeys, keys-put, read}

-- ---- the set of keys

or-swap : (a b : Bool) → (a || (b || false)) ≡ (b || a)
or-swap true true = refl
or-swap true false = refl
or-swap false true = refl
or-swap false false = refl

pub any-reverse :
    {X : Type 0} (p : X → Bool) (xs : List X) → list_any p (reverse xs) ≡ list_any p xs
any-reverse p [] = refl
any-reverse p (x ∷ xs) =
    ap (list_any p) (reverse-append (x ∷ []) xs) ∙ list_any-append p (reverse xs) (x ∷ [])
    ∙ ap (λ b. b || (p x || false)) (any-reverse p xs)
    ∙ or-swap (list_any p xs) (p x)

-- whether the entry is of this key
abbrev pub is_of : ℕ → ℕ × ℕ → Bool
is_of q entry = eq_by_cmp nat_cmp q entry.0

pub set-has :
    (ks : List ℕ) (q : ℕ) → contains_key (set_of_keys ks) q ≡ list_any (is_of q) (map pair_for ks)
set-has [] q = ap is_some (get-empty nat_cmp q)
set-has (k ∷ ks) q =
    keys-put (set_of_keys ks) k tt q ∙ ap (λ b. eq_by_cmp nat_cmp q k || b) (set-has ks q)

pub entries-have :
    (es : List (ℕ × ℕ)) (q : ℕ)
    → contains_key (from_entries {R = nat_cmp} es) q ≡ list_any (is_of q) es
entries-have [] q = ap is_some (get-empty nat_cmp q)
entries-have (e ∷ es) q =
    keys-put (from_entries {R = nat_cmp} es) e.0 e.1 q
    ∙ ap (λ b. eq_by_cmp nat_cmp q e.0 || b) (entries-have es q)

-- the set of keys has the keys of the map of their entries
pub keys-as : (ks : List ℕ) → AreKeys (set_of_keys ks) (map_of_entries (map pair_for ks))
keys-as ks q =
    set-has ks q ∙ sym (any-reverse (is_of q) (map pair_for ks))
    ∙ sym (entries-have (reverse (map pair_for ks)) q)

-- it has more than the last table has slots where the map has
pub too-small :
    (p : Plan) (keys : Keys) (m : Numbers) → AreKeys keys m → of_map.IsTooSmallFor p m
    → IsTooSmallFor p keys
too-small p keys m are small = omega (arith, small, len-is keys m are)

-- the same, of keys and their entries
pub too-many :
    (p : Plan) (ks : List ℕ) (es : List (ℕ × ℕ)) → es ≡ map pair_for ks
    → of_map.IsTooSmallFor p (map_of_entries es) → IsTooSmallFor p (set_of_keys ks)
too-many p ks es are small =
    too-small p (set_of_keys ks) (map_of_entries (map pair_for ks)) (keys-as ks)
    (subst (λ es. of_map.IsTooSmallFor p (map_of_entries es)) are small)

-- ---- what its seats have claimed

-- a seat that was asked for some calls was asked for more
asked-weaker :
    (p : Plan) (cs cs' : List map_call.Call) (seat : SeenBy)
    → ((k : ℕ) → IsFilled cs k → IsFilled cs' k)
    → crowding.HasAskedFor p cs seat → crowding.HasAskedFor p cs' seat
asked-weaker p cs cs' seat more asked = record {
  own = All-weaker (IsClaimOf p (tables_at p seat.seen) cs) (IsClaimOf p (tables_at p seat.seen) cs')
      weaker (own_events seat.number seat.seen) asked.own;
}
  where
    weaker : (e : Event) → IsClaimOf p (tables_at p seat.seen) cs e
        → IsClaimOf p (tables_at p seat.seen) cs' e
    weaker (Claim s g i k) claim = (
      claim.0,
      elim claim.1 [ inl below ↦ inl below | inr filled ↦ inr (more k filled) ],
    )
    weaker _ claim = tt

-- the puts of a map's entries fill the keys that adds of these keys fill
filled-add :
    (es : List (ℕ × ℕ)) (k : ℕ) → IsFilled (map put_entry es) k
    → IsFilled (map call_for (map Add (map (λ e. e.0) es))) k
filled-add [] k filled = filled
filled-add (e ∷ es) k filled =
    elim filled [
      | inl here ↦ inl (refl, here.1)
      | inr later ↦ inr (filled-add es k later)
    ]

asked-as :
    (set : SetOf) (content : Keys) (m : Numbers) → AreKeys content m → (seat : maps.SeatOf)
    → crowding.HasAskedFor (shape_of set) (map put_entry (numbers.entries m)) seat.chain
    → HasAskedFor set (map Add (numbers.keys content)) seat
asked-as set content m are seat asked =
    asked-weaker (shape_of set) (map put_entry (numbers.entries m))
    (map call_for (map Add (numbers.keys content))) seat.chain
    (λ k filled. subst (λ ks. IsFilled (map call_for (map Add ks)) k) (sym (keys-are content m are))
    (filled-add (numbers.entries m) k filled)) asked

-- ---- what its seats and its handles know

pub begun-as :
    (set : SetOf) (content : Keys) (m : Numbers) (seats : List maps.SeatOf) → AreKeys content m
    → of_map.HaveBegunWith set.map m seats → HaveBegunWith set content seats
begun-as set content m seats are begun =
    let (replayed, keys) = read begun.whole begun.replayed in
    record {
      numbered = begun.numbered;
      whole = log_as begun.whole;
      replayed = replayed;
      logs = All-weaker _ (λ seat. log seat ≡ log_as begun.whole) (λ seat is. ap log_as is) seats
          begun.logs;
      leaves = same-keys (set_of_log (log_as begun.whole)) content
          (λ k. keys k ∙ ap (λ (m : Numbers). contains_key m k) begun.leaves ∙ sym (are k));
      claimed = All-weaker _ (HasAskedFor set (map Add (numbers.keys content)))
          (asked-as set content m are) seats begun.claimed;
      tops = begun.tops;
    }

pub begins-as :
    (p : Plan) (content : Keys) (m : Numbers) (handle : handles.HandleOf) → AreKeys content m
    → of_map.BeginsWith p m handle → BeginsWith p content (as_handle handle)
begins-as p content m handle are begins = record {
  made = begins.made;
  begun = begun-as (record { map = handle.map }) content m (handles.seats_of handle) are begins.begun;
}
