-- A plain map that gathers the keys of a closed chain has at last what the chain's map has.
use Rattle.std.proofs.Common.{◌≡◌, ◌≢◌, ◌∙◌, ℕ, ◌+◌, ◌<◌, ◌≤◌, zero, suc, ap, sym, subst, refl, inl, inr, true, false, cond, Option, Some, None, Result, Ok, Err, OnOk, is_ok, arith}
use Rattle.std.specs.FinMap.{empty, get, get-empty, get-insert, insert, nat_cmp-IsAntisymmetric, same_map}
use Rattle.std.specs.Cmp.{nat_cmp_total, unsigned_tied}
use Rattle.std.specs.Ordering.{eq_by_cmp, nat_cmp}
use Rattle.std.proofs.lemmas.Bool.{cases_eq, eq-eqb, eqb-false, ne_eqb}
use Rattle.nb_core.specs.Log.{Numbers}
use Rattle.nb_core.specs.Plans.{generations_of, size_of}
use Rattle.nb_core.specs.Tables.{IsInstalled, tables_at}
use Rattle.nb_core.specs.History.{map_of}
use Rattle.nb_core.specs.Meaning.{is_installed}
use Rattle.nb_core.specs.Laws.{AreLinked}
use Rattle.nb_core.specs.declared.states.KeyState.TheVariants.{Claimed}
use Rattle.nb_table.specs.Left.{ClosedOf, IsLeft, tables_left}
use Rattle.nb_table.specs.Listing.{HasRight, IsListing}
use Rattle.nb_table.proofs.Looking.{of-left}
use Rattle.nb_core.proofs.Theorems.{held_has_place, linked, place_is, top_complete}

-- what holds where a call succeeds
pub on_ok : {A E : Type 0} (P : Type 0) (r : Result A E) → is_ok r ≡ true → OnOk r P → P
on_ok P (Ok x) is holds = holds
on_ok P (Err e) is holds = absurd cc

module _ (closed : ClosedOf) where
  -- nothing is done yet
  pub listing-first : (found : Numbers) → found ≡ empty
      → IsListing closed found (tables_left closed).top 0
  listing-first found none = record {
    so_far = λ k. inl (ap (λ m. get m k) none ∙ get-empty nat_cmp k);
    tables = λ f j k from below slot is. absurd (omega arith);
    slots = λ j k below is. absurd (omega arith);
  }

  -- a slot that no key has
  pub listing-past :
      (found : Numbers) (g i : ℕ) → ((k : ℕ) → (tables_left closed).key g i ≢ Claimed k)
      → IsListing closed found g i → IsListing closed found g (i + 1)
  listing-past found g i unclaimed listing = record {
    so_far = listing.so_far;
    tables = listing.tables;
    slots = λ j k below is. elim (cases_eq j i) [
      | inl same ↦ absurd (unclaimed k (ap ((tables_left closed).key g) (sym same) ∙ is))
      | inr before ↦ listing.slots j k (omega arith) is
    ];
  }

  -- A slot's key that was brought to what the map has. All others are as they were.
  listing-key :
      (found found' : Numbers) (g i key : ℕ) → (tables_left closed).key g i ≡ Claimed key
      → HasRight closed found' key
      → ((k : ℕ) → k ≢ key → get found' k ≡ get found k)
      → IsListing closed found g i → IsListing closed found' g (i + 1)
  listing-key found found' g i key here right others listing = record {
    so_far = λ k. elim (cases_eq k key) [
      | inl same ↦ inr (subst (HasRight closed found') (sym same) right)
      | inr other ↦ elim (listing.so_far k) [
        | inl none ↦ inl (others k other ∙ none)
        | inr before ↦ inr (others k other ∙ before)
      ]
    ];
    tables = λ f j k from below slot is. kept k (listing.tables f j k from below slot is);
    slots = λ j k below is. elim (cases_eq j i) [
      | inl same ↦
          let claimed : Claimed key ≡ Claimed k = sym here
          ∙ ap ((tables_left closed).key g) (sym same) ∙ is in
          let k_is : key ≡ k = cc in
          subst (HasRight closed found') k_is right
      | inr before ↦ kept k (listing.slots j k (omega arith) is)
    ];
  }
    where
      kept : (k : ℕ) → HasRight closed found k → HasRight closed found' k
      kept k before = elim (cases_eq k key) [
        | inl same ↦ subst (HasRight closed found') (sym same) right
        | inr other ↦ others k other ∙ before
      ]

  -- the key of a slot that the map hasn't got
  pub listing-without :
      (found : Numbers) (g i key : ℕ) → (tables_left closed).key g i ≡ Claimed key
      → None ≡ get (map_of closed.history) key → IsListing closed found g i
      → IsListing closed found g (i + 1)
  listing-without found g i key here none listing =
      let right : HasRight closed found key = elim (listing.so_far key) [
        | inl nothing ↦ nothing ∙ none
        | inr before ↦ before
      ] in
      listing-key found found g i key here right (λ k other. refl) listing

  -- the key of a slot that the map has, put with its number
  pub listing-put :
      (found found' : Numbers) (g i key number : ℕ) → (tables_left closed).key g i ≡ Claimed key
      → Some number ≡ get (map_of closed.history) key → found' ≡ insert found key number
      → IsListing closed found g i → IsListing closed found' g (i + 1)
  listing-put found found' g i key number here some put listing =
      let at = λ (k : ℕ). ap (λ m. get m k) put ∙ get-insert nat_cmp_total found key number k in
      listing-key found found' g i key here
      (at key ∙ ap (λ b. cond b (Some number) (get found key)) (own key) ∙ some)
      (λ k other. at k ∙ ap (λ b. cond b (Some number) (get found k)) (apart k key other)) listing
    where
      own : (k : ℕ) → eq_by_cmp nat_cmp k k ≡ true
      own k = unsigned_tied k k ∙ eq-eqb k k refl

      apart : (k key : ℕ) → k ≢ key → eq_by_cmp nat_cmp k key ≡ false
      apart k key other = unsigned_tied k key ∙ ne_eqb k key other

  -- all slots of a table
  pub listing-table :
      (found : Numbers) (g size : ℕ) → size_of closed.shape g ≤ size
      → IsListing closed found g size → IsListing closed found (g + 1) 0
  listing-table found g size whole listing = record {
    so_far = listing.so_far;
    tables = λ f j k from below slot is. elim (cases_eq f g) [
      | inl same ↦
          let in_table : j < size_of closed.shape g =
          subst (λ x. j < size_of closed.shape x) same slot.1 in
          listing.slots j k (omega arith) (ap (λ x. (tables_left closed).key x j) (sym same) ∙ is)
      | inr before ↦ listing.tables f j k from (omega arith) slot is
    ];
    slots = λ j k below is. absurd (omega arith);
  }

  -- a table that isn't there
  pub listing-skip :
      AreLinked closed.shape (tables_left closed) → (found : Numbers) (g : ℕ)
      → false ≡ is_installed (tables_left closed) g
      → IsListing closed found g 0 → IsListing closed found (g + 1) 0
  listing-skip linked found g absent listing = record {
    so_far = listing.so_far;
    tables = λ f j k from below slot is. elim (cases_eq f g) [
      | inl same ↦ absurd
          (away g absent (subst (IsInstalled (tables_left closed)) same
          (linked.claimed f j k slot is)))
      | inr before ↦ listing.tables f j k from (omega arith) slot is
    ];
    slots = λ j k below is. absurd (omega arith);
  }
    where
      away : (g : ℕ) → false ≡ is_installed (tables_left closed) g
          → IsInstalled (tables_left closed) g → ⊥
      away zero absent installed = cc
      away (suc g) absent installed = eqb-false ((tables_left closed).next g) 1 (sym absent)
          installed

  -- Each key that the map has was found at its place from the top word on, so once all tables are
  -- done the two are the same.
  pub listing-all :
      IsLeft closed → (found : Numbers) (g : ℕ) → generations_of closed.shape ≤ g
      → IsListing closed found g 0
      → found ≡ map_of closed.history
  listing-all is found g whole listing =
      same_map nat_cmp_total nat_cmp-IsAntisymmetric found (map_of closed.history) (λ k.
      elim (listing.so_far k) [
        | inl none ↦ same-none k none (get (map_of closed.history) k) refl
        | inr right ↦ right
      ])
    where
      same-none :
          (k : ℕ) → get found k ≡ None → (number : Option ℕ)
          → get (map_of closed.history) k ≡ number
          → get found k ≡ get (map_of closed.history) k
      same-none k none None is_none = none ∙ sym is_none
      same-none k none (Some n) is_some =
          let p = closed.shape in
          let h = closed.history in
          let legal = is.legal in
          let top = (tables_at p h).top in
          let links = linked p is.plan h legal in
          let found_at = held_has_place p is.plan h legal top k n (links.within top links.top)
          (λ f below. (top_complete p is.plan h legal f below).1) is_some in
          let f = found_at.0.0 in
          let i = found_at.0.1 in
          let first = (place_is p is.plan h legal top k f i).0 found_at.1 in
          let claimed = of-left closed is (λ t. t.key f i ≡ Claimed k) first.is in
          let above = of-left closed is (λ t. t.top ≤ f) first.from in
          listing.tables f i k above (omega (arith, first.slot.0)) first.slot claimed
