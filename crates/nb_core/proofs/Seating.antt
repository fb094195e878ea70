-- Seats are dealt one after another, and gathered again: no number twice, and none lost. A part is
-- what a token knows of one seat, of whatever kind.
use Rattle.std.proofs.Common.{◌≡◌, ◌≢◌, ◌∙◌, ℕ, zero, suc, ◌+◌, ◌-◌, ◌<◌, ◌≤◌, ◌==◌, Bool, true, false, cond, ap, sym, subst, subst₂, refl, inl, inr, List, [], ◌∷◌, ◌++◌, length, length-append, map, take, drop, slice_set, All, count_by, arith}
use mathlib.Core.Option.{some, some-injective, some-ne-none}
use lib.ListN.{get_elem?}
use Rattle.std.specs.List.{flat_map, range_with_len}
use Rattle.std.specs.List.Sorted.{IsPermutation}
use Rattle.std.proofs.lemmas.Bool.{cases_lt, eq-eqb, ne_eqb}
use Rattle.std.proofs.lemmas.List.{append-nil, append_assoc, length-map, map-append, nil_from_length, set_comm}
use Rattle.std.proofs.lemmas.List.Concat.{flat_map-append}
use Rattle.std.proofs.lemmas.List.Elements.{All-cons, All-head, All-nil, All-tail}
use Rattle.std.proofs.lemmas.List.FromFn.{length-map-range_with_len, map-range_with_len_more, sum_by-map-range_with_len_more}
use Rattle.std.proofs.lemmas.List.Sorted.{All-permutation, IsPermutation-append_comm, IsPermutation-append_left, IsPermutation-append_right, IsPermutation-refl, IsPermutation-sym, IsPermutation-trans, length_permutation}
use Rattle.std.proofs.lemmas.List.Sums.{sum_by-cons}

-- ---- lists

module _ {X : Type 0} (P : X → Type 0) where
  -- what holds of each element of two lists holds of each of the first
  pub All-left : (xs ys : List X) → All P (xs ++ ys) → All P xs
  All-left [] ys every = All-nil P
  All-left (x ∷ xs) ys every =
      All-cons P x xs (All-head P x (xs ++ ys) every)
      (All-left xs ys (All-tail P x (xs ++ ys) every))

  -- and of the second
  pub All-right : (xs ys : List X) → All P (xs ++ ys) → All P ys
  All-right [] ys every = every
  All-right (x ∷ xs) ys every = All-right xs ys (All-tail P x (xs ++ ys) every)

  -- what holds of each value of a function holds of it at each element
  pub All-unmap : {Y : Type 0} (f : Y → X) (ys : List Y) → All P (map f ys) → All (λ y. P (f y)) ys
  All-unmap f [] every = All-nil (λ y. P (f y))
  All-unmap f (y ∷ ys) every =
      All-cons (λ y. P (f y)) y ys (All-head P (f y) (map f ys) every)
      (All-unmap f ys (All-tail P (f y) (map f ys) every))

  -- and of the element at a place
  pub All-at : (xs : List X) (i : ℕ) (x : X) → get_elem? xs i ≡ some x → All P xs → P x
  All-at [] i x at every = absurd (some-ne-none x (sym at))
  All-at (y ∷ xs) zero x at every = subst P (some-injective y x at) (All-head P y xs every)
  All-at (y ∷ xs) (suc i) x at every = All-at xs i x at (All-tail P y xs every)

  -- what holds of each value holds of all values for the numbers from one on
  pub All-numbered :
      (value : ℕ → X) (first count : ℕ) → ((n : ℕ) → first ≤ n → n < first + count → P (value n))
      → All P (map value (range_with_len first count))
  All-numbered value first zero each = All-nil P
  All-numbered value first (suc count) each =
      All-cons P (value first) (map value (range_with_len (first + 1) count))
      (each first (omega arith) (omega arith))
      (All-numbered value (first + 1) count (λ n low high. each n (omega arith) (omega arith)))

-- how many values pass a test
pub count-map :
    {X Y : Type 0} (test : Y → Bool) (f : X → Y) (xs : List X)
    → count_by test (map f xs) ≡ count_by (λ x. test (f x)) xs
count-map test f [] = refl
count-map test f (x ∷ xs) =
    sum_by-cons (λ y. cond (test y) 1 0) (f x) (map f xs)
    ∙ ap (λ n. cond (test (f x)) 1 0 + n) (count-map test f xs)
    ∙ sym (sum_by-cons (λ x. cond (test (f x)) 1 0) x xs)

-- a list from which nothing can be taken is empty
pub none-left : {X : Type 0} (left : List X) → (0 < length left → false ≡ true) → left ≡ []
none-left [] none = refl
none-left (x ∷ left) none = absurd (let e : false ≡ true = none (omega arith) in cc)

-- ---- new seats

-- Where each value has its number, each number below so many is one value's.
module _
    {X : Type 0} (value : ℕ → X) (number : X → ℕ) (has : (n : ℕ) → number (value n) ≡ n)
    (n : ℕ) where
  abbrev times : ℕ → ℕ
  times count = count_by (λ x. number x == n) (map value (range_with_len 0 count))

  times-more : (count : ℕ) → times (suc count) ≡ times count + cond (number (value count) == n) 1 0
  times-more count =
      let more : suc count ≡ count + 1 = omega arith in
      ap times more
      ∙ sum_by-map-range_with_len_more (λ x. cond (number x == n) 1 0) value 0 count count
      (omega arith)

  other : (count : ℕ) → count ≢ n → times (suc count) ≡ times count
  other count differs =
      let no = ne_eqb (number (value count)) n (λ same. differs (sym (has count) ∙ same)) in
      omega (arith, times-more count, ap {B = ℕ} (λ b. cond b 1 0) no)

  none-yet : (count : ℕ) → count ≤ n → times count ≡ 0
  none-yet zero low = refl
  none-yet (suc count) low =
      other count (λ same. absurd (omega arith)) ∙ none-yet count (omega arith)

  pub numbered-once : (count : ℕ) → n < count → times count ≡ 1
  numbered-once zero below = absurd (omega arith)
  numbered-once (suc count) below =
      elim (cases_lt n count) [
        | inl lower ↦ other count (λ same. absurd (omega arith)) ∙ numbered-once count lower
        | inr here ↦
            let yes = eq-eqb (number (value count)) n (has count ∙ omega arith) in
            let none = none-yet count (omega arith) in
            omega (arith, times-more count, ap {B = ℕ} (λ b. cond b 1 0) yes, none)
      ]

-- ---- dealing

-- So many seats are dealt, which are new. The parts of the others are left.
pub record IsDealing
    {Part Seen : Type 0} (new_part : ℕ → Part) (new_seat : ℕ → Seen) (seats : ℕ) (rest : List Part)
    (dealt : List Seen) (number : ℕ) : Type 0 where
  pub left : rest ≡ map new_part (range_with_len number (seats - number))
  pub so_far : dealt ≡ map new_seat (range_with_len 0 number)

module _ {Part Seen : Type 0} {new_part : ℕ → Part} {new_seat : ℕ → Seen} {seats : ℕ}
    {rest : List Part} {dealt : List Seen} where
  pub dealing-first :
      rest ≡ map new_part (range_with_len 0 seats) → dealt ≡ []
      → IsDealing new_part new_seat seats rest dealt 0
  dealing-first all none = record {
    left =
        let same : seats ≡ seats - 0 = omega arith in
        all ∙ ap (λ n. map new_part (range_with_len 0 n)) same;
    so_far = none;
  }

  module _ {number : ℕ} (d : IsDealing new_part new_seat seats rest dealt number) where
    pub dealing-count : length dealt ≡ number
    dealing-count = ap length d.so_far ∙ length-map-range_with_len new_seat 0 number

    rest-is :
        number < seats
        → rest ≡ new_part number ∷ map new_part (range_with_len (number + 1) (seats - (number + 1)))
    rest-is below =
        let more : seats - number ≡ suc (seats - (number + 1)) = omega arith in
        d.left ∙ ap (λ n. map new_part (range_with_len number n)) more

    -- the next part is a new one
    pub dealing-next : number < seats → take 1 rest ≡ new_part number ∷ []
    dealing-next below = ap (take 1) (rest-is below)

    -- one seat more
    pub dealing-more :
        {rest' : List Part} {dealt' : List Seen} {seat : Seen} → number < seats
        → rest' ≡ drop 1 rest → dealt' ≡ dealt ++ seat ∷ [] → seat ≡ new_seat number
        → IsDealing new_part new_seat seats rest' dealt' (number + 1)
    dealing-more below rest_is dealt_is seat_is = record {
      left = rest_is ∙ ap (drop 1) (rest-is below);
      so_far =
          dealt_is ∙ (λ i. d.so_far i ++ seat_is i ∷ [])
          ∙ sym (map-range_with_len_more new_seat 0 number number (omega arith));
    }

    -- all are dealt
    pub dealing-done : seats ≤ number → number ≤ seats
        → dealt ≡ map new_seat (range_with_len 0 seats)
    dealing-done low high =
        let all : number ≡ seats = omega arith in
        d.so_far ∙ ap (λ n. map new_seat (range_with_len 0 n)) all

-- ---- parting

-- Seats are moved from one list to another, one after another: of all values some are moved, and
-- the others are those of what is left.
pub record AreMoved {A B : Type 0} (f : A → B) (all moved : List B) (left : List A) : Type 0 where
  pub is : all ≡ moved ++ map f left

-- none is moved yet
pub none-moved :
    {A B : Type 0} {f : A → B} {all moved : List B} {left : List A} → all ≡ map f left → moved ≡ []
    → AreMoved f all moved left
none-moved {f = f} {left = left} are none =
    record { is = are ∙ ap (λ ys. ys ++ map f left) (sym none) }

module _ {A B : Type 0} {f : A → B} {all moved : List B} {left : List A} where
  pub moved-count : AreMoved f all moved left → length moved + length left ≡ length all
  moved-count are =
      omega (arith, ap length are.is, length-append moved (map f left), length-map left f)

  -- the first that is left is moved
  pub moved-more :
      {moved' : List B} {left' : List A} {x : A} {y : B} → AreMoved f all moved left
      → left ≡ x ∷ left' → f x ≡ y → moved' ≡ moved ++ y ∷ [] → AreMoved f all moved' left'
  moved-more {moved'} {left'} {x} {y} are next is more = record {
    is =
        are.is ∙ ap (λ xs. moved ++ map f xs) next ∙ ap (λ z. moved ++ z ∷ map f left') is
        ∙ sym (append_assoc moved (y ∷ []) (map f left')) ∙ ap (λ ys. ys ++ map f left') (sym more);
  }

  -- the last that is moved is taken back
  pub moved-back :
      {moved' : List B} {x : A} → AreMoved f all moved left → moved ≡ moved' ++ f x ∷ []
      → AreMoved f all moved' (x ∷ left)
  moved-back {moved'} {x} are last = record {
    is = are.is ∙ ap (λ ys. ys ++ map f left) last ∙ append_assoc moved' (f x ∷ []) (map f left);
  }

  -- where none is left, all are moved
  pub all-moved : AreMoved f all moved left → length left ≡ 0 → moved ≡ all
  all-moved are none =
      sym (are.is ∙ ap (λ xs. moved ++ map f xs) (nil_from_length left none) ∙ append-nil moved)

-- ---- the same in another order

-- one after another, and the other way round
pub and_then : {X : Type 0} {xs ys zs : List X} → IsPermutation xs ys → IsPermutation ys zs
    → IsPermutation xs zs
and_then {X} {xs} {ys} {zs} = IsPermutation-trans xs ys zs

pub back : {X : Type 0} {xs ys : List X} → IsPermutation xs ys → IsPermutation ys xs
back {X} {xs} {ys} = IsPermutation-sym xs ys

-- with others in front, and behind
pub in_front : {X : Type 0} (zs : List X) {xs ys : List X} → IsPermutation xs ys
    → IsPermutation (zs ++ xs) (zs ++ ys)
in_front zs {xs} {ys} = IsPermutation-append_right zs xs ys

behind : {X : Type 0} (zs : List X) {xs ys : List X} → IsPermutation xs ys
    → IsPermutation (xs ++ zs) (ys ++ zs)
behind zs {xs} {ys} = IsPermutation-append_left zs xs ys

-- the first two of three lists change places
exchanged : {X : Type 0} (xs ys zs : List X) → IsPermutation (xs ++ (ys ++ zs)) (ys ++ (xs ++ zs))
exchanged xs ys zs =
    subst₂ IsPermutation (append_assoc xs ys zs) (append_assoc ys xs zs)
    (behind zs (IsPermutation-append_comm xs ys))

-- ---- gathering

-- A token's parts are of all these seats but those that are left, the last of which is taken next.
module _ {Part Seen : Type 0} (seat_with : Part → Seen) where
  pub gathered-first :
      (parts : List Part) (last : Seen) (left seats : List Seen) → map seat_with parts ≡ last ∷ []
      → seats ≡ left ++ last ∷ [] → IsPermutation (map seat_with parts ++ left) seats
  gathered-first parts last left seats one is =
      subst₂ IsPermutation (ap (λ known. known ++ left) (sym one)) (sym is)
      (IsPermutation-append_comm (last ∷ []) left)

  pub gathered-more :
      (parts parts' more : List Part) (next : Seen) (left left' seats : List Seen)
      → IsPermutation (map seat_with parts ++ left') seats → map seat_with more ≡ next ∷ []
      → left' ≡ left ++ next ∷ [] → parts' ≡ parts ++ more
      → IsPermutation (map seat_with parts' ++ left) seats
  gathered-more parts parts' more next left left' seats g one is joined =
      let known = map seat_with parts in
      let now = ap (map seat_with) joined ∙ map-append seat_with parts more
      ∙ ap (λ k. known ++ k) one in
      let all = ap (λ k. k ++ left) now ∙ append_assoc known (next ∷ []) left in
      and_then (subst₂ IsPermutation (sym all) (ap (λ seats. known ++ seats) (sym is))
      (in_front known (IsPermutation-append_comm (next ∷ []) left))) g

-- ---- the parts of all tokens

module _ {View Part : Type 0} (parts_of : View → List Part) where
  abbrev all_parts : List View → List Part
  all_parts = flat_map parts_of

  -- The parts of all tokens are those of one and the rest. The rest stays as it is, whatever the
  -- one knows.
  pub record Apart (views : List View) (id : ℕ) (v : View) : Type 0 where
    pub rest : List Part
    pub is : IsPermutation (all_parts views) (parts_of v ++ rest)
    pub after : (w : View) → IsPermutation (all_parts (slice_set views id w)) (parts_of w ++ rest)

  pub apart : (views : List View) (id : ℕ) (v : View) → get_elem? views id ≡ some v
      → Apart views id v
  apart [] id v at = absurd (some-ne-none v (sym at))
  apart (x ∷ views) zero v at = record {
    rest = all_parts views;
    is =
        subst (λ u. IsPermutation (parts_of x ++ all_parts views) (parts_of u ++ all_parts views))
        (some-injective x v at) (IsPermutation-refl (parts_of x ++ all_parts views));
    after = λ w. IsPermutation-refl (parts_of w ++ all_parts views);
  }
  apart (x ∷ views) (suc id) v at =
      let there = apart views id v at in
      record {
        rest = parts_of x ++ there.rest;
        is = and_then (in_front (parts_of x) there.is)
            (exchanged (parts_of x) (parts_of v) there.rest);
        after = λ w. and_then (in_front (parts_of x) (there.after w))
            (exchanged (parts_of x) (parts_of w) there.rest);
      }

  -- what holds of all tokens' parts holds of one token's
  pub All-of-one :
      (P : Part → Type 0) (views : List View) (id : ℕ) (v : View) → get_elem? views id ≡ some v
      → All P (all_parts views) → All P (parts_of v)
  All-of-one P views id v at every =
      let there = apart views id v at in
      All-left P (parts_of v) there.rest
      (All-permutation P (all_parts views) (parts_of v ++ there.rest) there.is every)

  -- a token with as many parts as there are has all of them
  pub all-there :
      (views : List View) (id : ℕ) (v : View) → get_elem? views id ≡ some v
      → length (all_parts views) ≡ length (parts_of v)
      → IsPermutation (all_parts views) (parts_of v)
  all-there views id v at all =
      let there = apart views id v at in
      let none = nil_from_length there.rest (omega (
        arith,
        length_permutation (all_parts views) (parts_of v ++ there.rest) there.is,
        length-append (parts_of v) there.rest,
        all,
      )) in
      let alone = ap (λ rest. parts_of v ++ rest) none ∙ append-nil (parts_of v) in
      subst (IsPermutation (all_parts views)) alone there.is

  -- a token gives some of its parts to a new one
  pub all-split :
      (views : List View) (id : ℕ) (v left right : View) → get_elem? views id ≡ some v
      → parts_of v ≡ parts_of right ++ parts_of left
      → IsPermutation (all_parts views) (all_parts (slice_set views id left ++ right ∷ []))
  all-split views id v left right at parts =
      let there = apart views id v at in
      let given = parts_of right in
      let kept = all_parts (slice_set views id left) in
      let grouped = ap (λ ps. ps ++ there.rest) parts
      ∙ append_assoc given (parts_of left) there.rest in
      let alone = flat_map-append parts_of (slice_set views id left) (right ∷ [])
      ∙ ap (λ ps. kept ++ ps) (append-nil given) in
      and_then (subst (IsPermutation (all_parts views)) grouped there.is)
      (and_then (in_front given (back (there.after left)))
      (subst (IsPermutation (given ++ kept)) (sym alone) (IsPermutation-append_comm given kept)))

  -- a token takes in the parts of another
  pub all-joined :
      (views : List View) (id : ℕ) (v : View) (other : ℕ) (w both spent : View)
      → get_elem? views id ≡ some v → other ≢ id
      → get_elem? (slice_set views id both) other ≡ some w
      → parts_of both ≡ parts_of v ++ parts_of w → parts_of spent ≡ []
      → let after = slice_set (slice_set views id both) other spent in
      IsPermutation (all_parts views) (all_parts after)
  all-joined views id v other w both spent at differs other_at parts none =
      let apart_w = apart views other w (sym (stays views id other both differs') ∙ other_at) in
      let without = slice_set views other spent in
      let apart_v = apart without id v (stays views other id spent differs ∙ at) in
      let empty = subst (λ ps. IsPermutation (ps ++ apart_w.rest) (all_parts without)) none
      (back (apart_w.after spent)) in
      let gone = and_then apart_w.is (in_front (parts_of w) (and_then empty apart_v.is)) in
      let come = subst (λ ps. IsPermutation ps (all_parts (slice_set without id both)))
      (ap (λ ps. ps ++ apart_v.rest) parts ∙ append_assoc (parts_of v) (parts_of w) apart_v.rest)
      (back (apart_v.after both)) in
      subst (λ vs. IsPermutation (all_parts views) (all_parts vs))
      (sym (set_comm views id other both spent differs'))
      (and_then gone (and_then (exchanged (parts_of w) (parts_of v) apart_v.rest) come))
    where
      differs' : id ≢ other
      differs' same = differs (sym same)

      stays : (vs : List View) (i j : ℕ) (x : View) → i ≢ j
          → get_elem? (slice_set vs i x) j ≡ get_elem? vs j
      stays [] i j x other = refl
      stays (y ∷ vs) zero zero x other = absurd (other refl)
      stays (y ∷ vs) zero (suc j) x other = refl
      stays (y ∷ vs) (suc i) zero x other = refl
      stays (y ∷ vs) (suc i) (suc j) x other = stays vs i j x (λ same. other (ap suc same))
