-- The values of a map that are carried over: of each key one, so as many as the map has keys, before
-- and after.
use Rattle.std.proofs.Common.{◌≡◌, ◌∙◌, ◌==◌, ◌||◌, ◌++◌, ◌+◌, ℕ, zero, suc, Bool, true, false, cond, eqb, List, [], ◌∷◌, length, length-append, map, reverse, All, Some, ap, refl, sym, subst, inl, inr, arith}
use Rattle.std.specs.Cmp.{nat_cmp_total, unsigned_tied}
use Rattle.std.specs.FinMap as numbers
use Rattle.std.specs.FinMap.{from_entries, get, get-empty, get-insert, len, len-empty, len-entries, len-insert}
use Rattle.std.specs.List.{AllByRecursion, IsDistinct, range_with_len}
use Rattle.std.specs.Ordering.{nat_cmp}
use Rattle.std.specs.Prelude.{Err, Result, is_some}
use Rattle.std.specs.Result.{IsErrAnd}
use Rattle.std.specs.Set.{is_member}
use Rattle.std.proofs.lemmas.Bool.Decides.{nat_tests}
use Rattle.std.proofs.lemmas.List.{append_assoc, length-reverse, map-append, reverse-append}
use Rattle.std.proofs.lemmas.List.Elements.{All-append, All-cons, All-nil}
use Rattle.std.proofs.lemmas.List.Sorted.{IsPermutation-reverse}
use Rattle.std.proofs.lemmas.Map.Keys.{IsDistinct-IsPermutation, IsDistinct-head, IsDistinct-tail}
use Rattle.nb_core.specs.Log.{Numbers}
use Rattle.boxcar.specs.Table.{Shelves}
use Rattle.nb_core.specs.Plans.{Plan}
use Rattle.nb_map.specs.Ending.{map_left}
use Rattle.nb_map.specs.Entries.{AreEntriesOf, HaveListed}
use Rattle.nb_map.specs.Handles as numbered
use Rattle.nb_map.specs.Maps.{SeatOf}
use Rattle.nb_map.specs.Opening.{BeginsWith, IsTooSmallFor, map_of_entries}
use Rattle.nb_map.specs.declared.faults.OpenFault.{OpenFault}
use Rattle.nb_map.specs.declared.faults.OpenFault.TheVariants as open_fault
use Rattle.nb_long.specs.Handles.{HandleOf, seats_of, with_store}
use Rattle.nb_long.specs.NewStore.{HasRenewedStore, IsCarried, new_entry, old_entry, unopened}
use Rattle.nb_long.specs.Renewing.{HasTooMany, IsKept}
use Rattle.nb_long.specs.declared.new_store.Carried.{Carried}
use Rattle.nb_long.specs.declared.new_store.RenewStoreFault.TheVariants as fault
use Rattle.nb_long.specs.declared.new_store.RenewStoreFault.{RenewStoreFault}
use Rattle.nb_long.specs.declared.new_store.Renewed.{Renewed}

-- ---- lists

map-reverse : {X Y : Type 0} → (f : X → Y) (xs : List X) → map f (reverse xs) ≡ reverse (map f xs)
map-reverse f [] = refl
map-reverse f (x ∷ xs) =
    ap (map f) (reverse-append (x ∷ []) xs) ∙ map-append f (reverse xs) (x ∷ [])
    ∙ ap (λ ys. ys ++ f x ∷ []) (map-reverse f xs) ∙ sym (reverse-append (f x ∷ []) (map f xs))

flips : (a b : ℕ) → (a == b) ≡ (b == a)
flips a b = grind (arith, nat_tests)

other : (a b : ℕ) → (a == b) ≡ false → eqb a b ≡ false
other a b is = is

absent : (k : ℕ) (ks : List ℕ) → AllByRecursion (λ j. (k == j) ≡ false) ks → is_member eqb ks k ≡ false
absent k [] all = refl
absent k (j ∷ ks) (first, rest) =
    ap (λ b. b || is_member eqb ks k) (other k j first) ∙ absent k ks rest

-- ---- a map of keys with numbers

module _ {X : Type 0} (key : X → ℕ) where
  abbrev keyed : (X → ℕ) → List X → List (ℕ × ℕ)
  keyed number xs = map (λ x. (key x, number x)) xs

  abbrev made : (X → ℕ) → List X → Numbers
  made number xs = from_entries {R = nat_cmp} (keyed number xs)

  made-has :
      (number : X → ℕ) (xs : List X) (q : ℕ)
      → is_some (get (made number xs) q) ≡ is_member eqb (map key xs) q
  made-has number [] q = ap is_some (get-empty nat_cmp q)
  made-has number (x ∷ xs) q =
      ap is_some (get-insert nat_cmp_total (made number xs) (key x) (number x) q)
      ∙ ap (λ b. is_some (cond b (Some (number x)) (get (made number xs) q)))
      (unsigned_tied q (key x))
      ∙ of (eqb q (key x)) (made-has number xs q)
    where
      of : (b : Bool) → is_some (get (made number xs) q) ≡ is_member eqb (map key xs) q
          → is_some (cond b (Some (number x)) (get (made number xs) q))
          ≡ (b || is_member eqb (map key xs) q)
      of true rest = refl
      of false rest = rest

  -- how many keys it has doesn't depend on the numbers
  made-more :
      (number : X → ℕ) (x : X) (xs : List X)
      → len (made number (x ∷ xs))
      ≡ cond (is_member eqb (map key xs) (key x)) (len (made number xs)) (len (made number xs) + 1)
  made-more number x xs =
      len-insert nat_cmp_total (made number xs) (key x) (number x)
      ∙ ap (λ b. cond b (len (made number xs)) (len (made number xs) + 1))
      (made-has number xs (key x))

  as-many : (a b : X → ℕ) (xs : List X) → len (made a xs) ≡ len (made b xs)
  as-many a b [] = refl
  as-many a b (x ∷ xs) =
      made-more a x xs
      ∙ ap (λ n. cond (is_member eqb (map key xs) (key x)) n (n + 1)) (as-many a b xs)
      ∙ sym (made-more b x xs)

  -- and where each key comes once, it has them all
  each-once :
      (number : X → ℕ) (xs : List X) → IsDistinct (λ a b. a == b) (map key xs)
      → len (made number xs) ≡ length xs
  each-once number [] once = len-empty nat_cmp ℕ
  each-once number (x ∷ xs) once =
      let same : (a b : ℕ) → Bool = λ a b. a == b in
      let new = absent (key x) (map key xs) (IsDistinct-head same (key x) (map key xs) once) in
      let rest = each-once number xs (IsDistinct-tail same (key x) (map key xs) once) in
      made-more number x xs
      ∙ ap (λ b. cond b (len (made number xs)) (len (made number xs) + 1)) new
      ∙ omega (arith, rest)

  -- of the entries of a list, turned
  turned :
      (number : X → ℕ) (xs : List X)
      → length (numbers.entries (map_of_entries (keyed number xs))) ≡ len (made number (reverse xs))
  turned number xs =
      sym (len-entries (map_of_entries (keyed number xs)))
      ∙ ap (λ entries. len (from_entries {R = nat_cmp} entries))
      (sym (map-reverse (λ x. (key x, number x)) xs))

  pub entries-as-many :
      (a b : X → ℕ) (xs : List X)
      → length (numbers.entries (map_of_entries (keyed a xs)))
      ≡ length (numbers.entries (map_of_entries (keyed b xs)))
  entries-as-many a b xs = turned a xs ∙ as-many a b (reverse xs) ∙ sym (turned b xs)

  pub entries-each-once :
      (number : X → ℕ) (xs : List X) → IsDistinct (λ a b. a == b) (map key xs)
      → length (numbers.entries (map_of_entries (keyed number xs))) ≡ length xs
  entries-each-once number xs once =
      turned number xs
      ∙ each-once number (reverse xs)
      (subst (IsDistinct (λ a b. a == b)) (sym (map-reverse key xs))
      (IsDistinct-IsPermutation (λ a b. a == b) flips (map key xs) (reverse (map key xs))
      (IsPermutation-reverse (map key xs)) once))
      ∙ length-reverse xs

-- ---- what is carried over

keys-are :
    {V : Type 0} → (carried : List (Carried V))
    → map (λ entry. entry.0) (map old_entry carried) ≡ map (λ c. c.key) carried
keys-are [] = refl
keys-are (c ∷ carried) = ap (λ keys. c.key ∷ keys) (keys-are carried)

-- the new map has as many keys as the old one
pub carried-as-many :
    {V : Type 0} → (carried : List (Carried V))
    → length (numbers.entries (map_of_entries (map new_entry carried)))
    ≡ length (numbers.entries (map_of_entries (map old_entry carried)))
carried-as-many carried =
    entries-as-many (λ c. c.key) (λ c. c.new.index) (λ c. c.old.index) carried

-- and so many values are carried over
pub carried-each :
    {V : Type 0} → (carried : List (Carried V))
    → IsDistinct (λ a b. a == b) (map (λ entry. entry.0) (map old_entry carried))
    → length carried ≡ length (numbers.entries (map_of_entries (map old_entry carried)))
carried-each carried once =
    sym (entries-each-once (λ c. c.key) (λ c. c.old.index) carried
    (subst (IsDistinct (λ a b. a == b)) (keys-are carried) once))

-- ---- one value after another

range-more : (a n : ℕ) → range_with_len a (suc n) ≡ range_with_len a n ++ (a + n) ∷ []
range-more a zero = ap (λ k. k ∷ []) (omega arith)
range-more a (suc n) =
    ap (λ ks. a ∷ ks) (range-more (a + 1) n
    ∙ ap (λ k. range_with_len (a + 1) n ++ k ∷ []) (omega arith))

module _ {V : Type 0} (carried more : List (Carried V)) (one : Carried V)
    (is : more ≡ carried ++ one ∷ []) where
  -- the entries that are left are fewer by one
  pub entries-more :
      {left rest : List (ℕ × ℕ)} {all : List (ℕ × ℕ)} {entry : ℕ × ℕ}
      → map old_entry carried ++ left ≡ all → left ≡ entry ∷ rest → old_entry one ≡ entry
      → map old_entry more ++ rest ≡ all
  entries-more {rest = rest} are next entry =
      ap (λ c. map old_entry c ++ rest) is
      ∙ ap (λ xs. xs ++ rest) (map-append old_entry carried (one ∷ []))
      ∙ append_assoc (map old_entry carried) (old_entry one ∷ []) rest
      ∙ ap (λ e. map old_entry carried ++ e ∷ rest) entry
      ∙ ap (λ xs. map old_entry carried ++ xs) (sym next) ∙ are

  pub all-more : (P : Carried V → Type 0) → All P carried → P one → All P more
  all-more P all this =
      subst (All P) (sym is)
      (All-append P carried (one ∷ []) all (All-cons P one [] this (All-nil P)))

  -- and the new numbers go on by one
  pub numbers-more :
      map (λ c. c.new.index) carried ≡ range_with_len 0 (length carried)
      → one.new.index ≡ length carried
      → map (λ c. c.new.index) more ≡ range_with_len 0 (length more)
  numbers-more are this =
      let index : Carried V → ℕ = λ c. c.new.index in
      let many : length more ≡ suc (length carried)
      = omega (arith, ap length is, length-append carried (one ∷ [])) in
      ap (map index) is ∙ map-append index carried (one ∷ [])
      ∙ ap (λ ks. ks ++ one.new.index ∷ []) are
      ∙ ap (λ k. range_with_len 0 (length carried) ++ k ∷ []) (this ∙ omega arith)
      ∙ sym (range-more 0 (length carried))
      ∙ ap (range_with_len 0) (sym many)

-- ---- the whole renewal

-- to list the entries leaves the store
pub kept-store :
    (before after : HandleOf) → IsKept before after → after.map.store ≡ before.map.store
kept-store before after (inl is) = ap (λ handle. handle.map.store) is
kept-store before after (inr (same, read)) = ap (λ m. m.store) same

-- a renewal is refused as full where the new map is
full-alone : (refused : OpenFault) → fault.Full ≡ unopened refused → refused ≡ open_fault.Full
full-alone open_fault.Full is = refl
full-alone open_fault.OutOfMemory is = cc

pub full-from :
    {X : Type 0} → (result : Result X RenewStoreFault) (refused : OpenFault)
    → IsErrAnd result (λ refusal. refusal ≡ unopened refused) → result ≡ Err fault.Full
    → refused ≡ open_fault.Full
full-from result refused given is =
    full-alone refused (subst (λ r. IsErrAnd r (λ refusal. refusal ≡ unopened refused)) is given)

module _ {V : Type 0} (p : Plan) (before : HandleOf) (seats : List SeatOf)
    (entries : List (ℕ × ℕ)) (listed : HaveListed (seats_of before) seats entries) where
  pub too-many :
      (carried : List (Carried V)) → map old_entry carried ≡ entries
      → IsTooSmallFor p (map_of_entries (map new_entry carried)) → HasTooMany p before
  too-many carried are small = record {
    ended = listed.ended;
    left = listed.left;
    small = subst (IsTooSmallFor p) (ap map_of_entries are ∙ listed.all.are)
        (omega (arith, small, carried-as-many carried));
  }

  pub renewed-store :
      (IsClone : V → V → Type 0) (renewed : Renewed V) (store : Shelves)
      (handle : numbered.HandleOf) → map old_entry renewed.carried.items ≡ entries
      → All (IsCarried IsClone before.map.store store) renewed.carried.items
      → map (λ c. c.new.index) renewed.carried.items
      ≡ range_with_len 0 (length renewed.carried.items)
      → BeginsWith p (map_of_entries (map new_entry renewed.carried.items)) handle
      → renewed.store ≡ before.map.store
      → HasRenewedStore IsClone p before (with_store store handle) renewed
  renewed-store IsClone renewed store handle are carried new begins old =
      let items = renewed.carried.items in
      let all = subst (AreEntriesOf (map_left listed.ended)) (sym are) listed.all in
      record {
        ended = listed.ended;
        left = listed.left;
        all = all;
        carried = carried;
        numbered = new
            ∙ ap (range_with_len 0) (carried-each items all.once
            ∙ ap (λ content. length (numbers.entries content)) all.are);
        made = begins.made;
        begun = begins.begun;
        store = old;
      }
