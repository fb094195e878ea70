-- What a load may be the read of, and what it finds.
use Rattle.std.proofs.Common.{◌≡◌, ◌≢◌, ◌∙◌, ℕ, suc, ◌+◌, ◌-◌, ◌%◌, ◌<◌, ◌⊎◌, Bool, true, false, not, ◌&&◌, cond, eqb, List, ◌++◌, slice_index, Option, Some, None, ap, sym, subst, refl, inl, inr, arith}
use Rattle.std.specs.Option.{IfSome}
use Rattle.std.specs.FinMap as map
use Rattle.std.proofs.Math.Nat.{mod-add-mod, mod-eq-sub-mod, mod-eq_of_lt, mod-lt}
use Rattle.std.proofs.lemmas.Bool.{cases_lt, eqb-false, eqb-true}
use Rattle.std.proofs.lemmas.List.{set-get_or}
use Rattle.std.proofs.lemmas.Option.{IfSome_then}
use Rattle.nb_core.specs.Calls.{leaves_alone}
use Rattle.nb_core.specs.Log.{reply_at}
use Rattle.nb_core.specs.Plans.{Plan, IsPlan, generations_of, header_place, key_place, size_of, value_place}
use Rattle.nb_core.specs.States.{key_state, shown_by_value, value_in_word}
use Rattle.nb_core.specs.Tables.{AreOthers, IsOnPath, IsSlot, IsUnprimed, Tables, path_slot, tables_at, tables_of, words_of}
use Rattle.nb_core.specs.History.{IsCallInRange, IsLegal, number_in_value, key_of_call, map_of}
use Rattle.nb_core.specs.Laws.{Lasts, Shows, AtEmpty, AtValue, NoNext, InLast}
use Rattle.nb_core.specs.declared.calls.Call.{Call}
use Rattle.nb_core.specs.declared.calls.Reply.{Reply}
use Rattle.nb_core.specs.declared.events.Event.{Event}
use Rattle.nb_core.specs.declared.events.Event.TheVariants.{Read}
use Rattle.nb_core.specs.declared.states.KeyState.{KeyState}
use Rattle.nb_core.specs.declared.states.KeyState.TheVariants.{Empty, Dead, Claimed}
use Rattle.nb_core.specs.declared.states.ValueState.{ValueState}
use Rattle.nb_core.specs.declared.states.ValueState.TheVariants.{Null, Tombstone, Live}
use Rattle.nb_table.proofs.Following.{if-follows, later, none-follows, one-follows}
use Rattle.nb_table.specs.Chains.{SeenBy, seen_by}
use Rattle.nb_table.specs.Conditions.{IsReached}
use Rattle.nb_table.specs.Events.{is_last_slot, only, read, reads, shown_by_key, shown_by_next}
use Rattle.nb_table.specs.Steps.{Can, MayStep, Stepped}
use Rattle.nb_core.proofs.Theorems.{decided, linked, read_replies}

-- ---- the last slot of a path

-- only a step of no slots, or of all, leads to the same slot
same-slot : (x c size : ℕ) → c < size → (x + c) % size ≡ x % size → c ≡ 0
same-slot x c size within same =
    let r = x % size in
    let below : r < size = mod-lt x (omega arith) in
    let on : (r + c) % size ≡ r = mod-add-mod x size c ∙ same in
    elim (cases_lt (r + c) size) [
      | inl less ↦ let kept : r + c ≡ r = sym (mod-eq_of_lt less) ∙ on in omega (arith, kept)
      | inr more ↦
          let less : r + c - size < size = omega (arith, below, within) in
          let back : r + c - size ≡ r = sym (mod-eq_of_lt less) ∙ sym (mod-eq-sub-mod more) ∙ on in
          absurd (omega (arith, back, more, within))
    ]

-- a slot at which a path ends is its last
last-distance : (k d size : ℕ) → d < size → (k + d) % size ≡ (k + (size - 1)) % size → suc d ≡ size
last-distance k d size within same =
    let rest = size - 1 - d in
    let all : k + d + rest ≡ k + (size - 1) = omega (arith, within) in
    let none : rest ≡ 0 = same-slot (k + d) rest size (omega (arith, within))
    (ap (λ x. x % size) all ∙ sym same) in
    omega (arith, none, within)

-- ---- what is shown

-- one more slot of a path
others-suc :
    (p : Plan) (t : Tables) (g k d j : ℕ) → AreOthers p t g k d
    → t.key g (path_slot p g k d) ≡ Claimed j → j ≢ k
    → AreOthers p t g k (suc d)
others-suc p t g k d j passed claimed other e below = elim (same-or-less e d below) [
  | inl same ↦ record {
    other = j;
    is = ap (λ x. t.key g (path_slot p g k x)) same
        ∙ claimed;
    differs = other;
  }
  | inr less ↦ passed e less
]
  where
    same-or-less : (e d : ℕ) → e < suc d → (e ≡ d) ⊎ (e < d)
    same-or-less e d below = grind arith

-- a number is the one that is shown
shown-is : (m n : Option ℕ) → Some m ≡ Some n → n ≡ m
shown-is m n same = cc

-- another key in the last slot of a key's path in the last table shows none
last-shows :
    (p : Plan) (t : Tables) (g i k j : ℕ) (n : Option ℕ) → IsOnPath p t g i k
    → t.key g i ≡ Claimed j
    → (not (eqb j k) && is_last_slot p g i k) ≡ true → n ≡ None → Shows p t g k n
last-shows p t g i k j n path is test none =
    let other_last = and-both (not (eqb j k)) (is_last_slot p g i k) test in
    let last = and-both (eqb (suc g) (generations_of p)) (eqb (path_slot p g k (size_of p g - 1)) i)
    other_last.1 in
    let at : path_slot p g k path.distance ≡ path_slot p g k (size_of p g - 1) = path.at
    ∙ sym (eqb-true _ _ last.1) in
    let all = last-distance k path.distance (size_of p g) path.in_table at in
    InLast
    (subst (AreOthers p t g k) all
    (others-suc p t g k path.distance j path.passed (ap (t.key g) path.at ∙ is)
    (eqb-false j k (not-true (eqb j k) other_last.0)))) (eqb-true (suc g) (generations_of
    p) last.0) none
  where
    and-both : (a b : Bool) → (a && b) ≡ true → (a ≡ true) × (b ≡ true)
    and-both true true both = (refl, refl)
    and-both true false both = cc
    and-both false b both = cc

    not-true : (a : Bool) → not a ≡ true → a ≡ false
    not-true true is = cc
    not-true false is = refl

-- what a key word shows to a search whose path leads to its slot
key-shows :
    (p : Plan) (t : Tables) (g i k : ℕ) (state : KeyState) (n : Option ℕ) → IsOnPath p t g i k
    → t.key g i ≡ state
    → shown_by_key p g i state k ≡ Some n → Shows p t g k n
key-shows p t g i k Empty n path is shown =
    AtEmpty path.distance path.in_table path.passed (ap (t.key g) path.at ∙ is)
    (shown-is None n shown)
key-shows p t g i k Dead n path is shown = cc
key-shows p t g i k (Claimed j) n path is shown =
    let test = not (eqb j k) && is_last_slot p g i k in
    elim test as (λ b. test ≡ b → cond b (Some None) None ≡ Some n → Shows p t g k n) [
      | true ↦ λ holds some. last-shows p t g i k j n path is holds (shown-is None n some)
      | false ↦ λ fails some. cc
    ] refl shown

-- what a value shows in its key's slot
value-shows :
    (p : Plan) (t : Tables) (g i k : ℕ) (state : ValueState) (n : Option ℕ) → IsSlot p g i
    → t.key g i ≡ Claimed k
    → t.value g i ≡ state → shown_by_value state ≡ Some n → Shows p t g k n
value-shows p t g i k state n slot claimed is shown =
    AtValue i slot.1 claimed (subst IsUnprimed (sym is) (unprimed state shown)) (content state shown
    ∙ ap number_in_value (sym is))
  where
    unprimed : (state : ValueState) → shown_by_value state ≡ Some n → IsUnprimed state
    unprimed Null shown = tt
    unprimed Tombstone shown = tt
    unprimed (Live m) shown = tt
    unprimed _ shown = cc

    content : (state : ValueState) → shown_by_value state ≡ Some n → n ≡ number_in_value state
    content Null shown = shown-is None n shown
    content Tombstone shown = shown-is None n shown
    content (Live m) shown = shown-is (Some m) n shown
    content _ shown = cc

-- ---- what may be read

-- the read of a call may follow where what is shown of its key is what the map has
read-follows :
    (p : Plan) → IsPlan p → (number index : ℕ) (call : Call) (shown : Option (Option ℕ))
    (h : List Event)
    → number < p.seats → IsLegal p h → IsCallInRange call
    → ((n : Option ℕ) → shown ≡ Some n → map.get (map_of h) (key_of_call call) ≡ n)
    → MayStep p (read number call shown) number index (slice_index (words_of p h) index) h
read-follows p plan number index call None h seated legal ranges is =
    none-follows p number index _ h legal refl
read-follows p plan number index call (Some n) h seated legal ranges is =
    if-follows p (leaves_alone call n) (Read number call (reply_at call n)) number index
    (slice_index (words_of p h) index) h
    (λ alone. one-follows p (Read number call (reply_at call n)) number index
    (slice_index (words_of p h) index) h
    (legal, (seated, ranges), tt, read_replies p plan h legal number call n (is n refl) alone)
    (sym (set-get_or (words_of p h) index 0)) refl)
    (λ other. none-follows p number index (slice_index (words_of p h) index) h legal refl)

-- a search that has come to a table has come there still
pub reached-lasts :
    (p : Plan) (t u : Tables) (g k : ℕ) → g < generations_of p → Lasts p t u → IsReached p t g k
    → IsReached p u g k
reached-lasts p t u g k within lasting reached = record {
  installed = lasting.installed g reached.installed;
  below = λ f less. lasting.passed f k (omega (arith, less, within)) (reached.below f less);
}

-- A load may be the read of its call where the search for the call's key has come to its table, and
-- what the word shows to the search is what the tables show.
module _
    (p : Plan) (number : ℕ) (seen : List Event) (g : ℕ)
    (within : g < generations_of p) where
  can-read :
      (call : Option Call) (index : ℕ) (shown : ℕ → ℕ → Option (Option ℕ))
      → IfSome call IsCallInRange
      → IfSome call (λ c. IsReached p (tables_at p seen) g (key_of_call c))
      → IfSome call (λ c. (others : List Event) → IsLegal p (others ++ seen)
      → Lasts p (tables_at p seen) (tables_at p (others ++ seen))
      → (n : Option ℕ) → shown (slice_index (words_of p (others ++ seen)) index) (key_of_call c)
      ≡ Some n
      → Shows p (tables_at p (others ++ seen)) g (key_of_call c) n)
      → Can p (λ found. reads number call (shown found)) number seen index (λ found. found)
  can-read None index shown ranges reached shows plan seated others not_own legal =
      none-follows p number index _ (others ++ seen) legal refl
  can-read (Some call) index shown ranges reached shows plan seated others not_own legal =
      let h = others ++ seen in
      let k = key_of_call call in
      let lasting = later p number seen plan others legal in
      let come = reached-lasts p (tables_at p seen) (tables_at p h) g k within lasting reached in
      read-follows p plan number index call (shown (slice_index (words_of p h) index) k)
      h seated legal ranges
      (λ n is. decided p plan h legal g k within come.installed come.below n
      (shows others legal lasting n is))

  -- of a key, to a search whose path leads to the slot
  pub can-load_key :
      (i : ℕ) (call : Option Call) → IsSlot p g i → IfSome call IsCallInRange
      → IfSome call (λ c. IsReached p (tables_at p seen) g (key_of_call c))
      → IfSome call (λ c. IsOnPath p (tables_at p seen) g i (key_of_call c))
      → Can p (λ found. reads number call (shown_by_key p g i (key_state found))) number seen
      (key_place p g i) (λ found. found)
  can-load_key i call slot ranges reached on_path =
      can-read call (key_place p g i) (λ found. shown_by_key p g i (key_state found)) ranges reached
      (IfSome_then call on_path (λ c path others legal lasting n is.
      key-shows p (tables_at p (others ++ seen)) g i (key_of_call c) _ n
      (record {
        distance = path.distance;
        in_table = path.in_table;
        at = path.at;
        passed = lasting.others g (key_of_call c) path.distance within path.passed;
      }) refl is))

  -- of a value, to a search for its key
  pub can-load_value :
      (i : ℕ) (call : Option Call) → IsSlot p g i → IfSome call IsCallInRange
      → IfSome call (λ c. IsReached p (tables_at p seen) g (key_of_call c))
      → IfSome call (λ c. (tables_at p seen).key g i ≡ Claimed (key_of_call c))
      → Can p (λ found. reads number call
      (λ k. shown_by_value (value_in_word found))) number seen
      (value_place p g i) (λ found. found)
  can-load_value i call slot ranges reached claimed =
      can-read call (value_place p g i) (λ found k. shown_by_value (value_in_word found)) ranges reached
      (IfSome_then call claimed (λ c is_claimed others legal lasting n is.
      value-shows p (tables_at p (others ++ seen)) g i (key_of_call c) _ n slot
      (lasting.claimed g i (key_of_call c) slot is_claimed) refl is))

  -- of a next word, to a search whose key's whole path is other keys'
  pub can-load_next :
      (call : Option Call) → IsPlan p → IfSome call IsCallInRange
      → IfSome call (λ c. IsReached p (tables_at p seen) g (key_of_call c))
      → IfSome call (λ c. AreOthers p (tables_at p seen) g (key_of_call c) (size_of p g))
      → Can p (λ found. reads number call (λ k. shown_by_next (eqb found 1))) number seen
      (header_place p g 0) (λ found. found)
  can-load_next call plan ranges reached crowded =
      can-read call (header_place p g 0) (λ found k. shown_by_next (eqb found 1)) ranges reached
      (IfSome_then call crowded (λ c others_there others legal lasting n is.
      NoNext (lasting.others g (key_of_call c) (size_of p g) within others_there)
      (no-next _ n is ((linked p plan (others ++ seen) legal).next g)) (no-number _ n is)))
    where
      no-next : (found : ℕ) (n : Option ℕ) → shown_by_next (eqb found 1) ≡ Some n
          → (found ≡ 0) ⊎ (found ≡ 1) → found ≡ 0
      no-next found n shown (inl none) = none
      no-next found n shown (inr one) =
          let some : None ≡ Some n = ap (λ x. shown_by_next (eqb x 1)) (sym one) ∙ shown in cc

      no-number : (found : ℕ) (n : Option ℕ) → shown_by_next (eqb found 1) ≡ Some n → n ≡ None
      no-number found n shown = elim (eqb found 1) as (λ b. shown_by_next b ≡ Some n → n ≡ None) [
        | true ↦ λ none. cc
        | false ↦ λ some. shown-is None n some
      ] shown

-- ---- what is found

-- a read changes no word
reads-words :
    (p : Plan) (number : ℕ) (call : Option Call) (shown : ℕ → Option (Option ℕ)) (h : List Event)
    → words_of p (reads number call shown ++ h) ≡ words_of p h
reads-words p number None shown h = refl
reads-words p number (Some call) shown h = read-words (shown (key_of_call call))
  where
    only-words : (b : Bool) (r : Reply) → words_of p (only b (Read number call r) ++ h)
        ≡ words_of p h
    only-words true r = refl
    only-words false r = refl

    read-words : (some : Option (Option ℕ)) → words_of p (read number call some ++ h) ≡ words_of p h
    read-words None = refl
    read-words (Some n) = only-words (leaves_alone call n) (reply_at call n)

-- what the words say after a load is what they said when it was made
pub load-sees :
    (p : Plan) (number : ℕ) (call : Option Call) (shown : ℕ → ℕ → Option (Option ℕ))
    (index found : ℕ) (before after : SeenBy)
    → (step : Stepped p (λ word. reads number call (shown word)) index before found after)
    → seen_by p after ≡ tables_at p (step.grows.others ++ before.seen)
load-sees p number call shown index found before after step =
    ap (tables_at p) step.grows.seen
    ∙ ap (tables_of p) (reads-words p number call (shown found) (step.grows.others ++ before.seen))
