-- How a reserve holds its seats: in nodes, of which the first one is empty.
use Rattle.std.proofs.Common.{◌≡◌, ◌≢◌, ◌∙◌, ℕ, suc, ◌+◌, ◌-◌, ◌≤◌, List, [], ◌∷◌, ◌++◌, length, map, take, drop, Option, None, Some, ap, ap₂, sym, refl, arith}
use Rattle.std.proofs.lemmas.List.{append_assoc, drop-map, length-drop, length-map, map-append, nil_from_length, take-append-drop, take-map}
use Rattle.nb_core.proofs.Seating.{AreMoved, all-moved, moved-more}
use Rattle.nb_map.specs.Maps.{SeatOf}
use Rattle.nb_map.specs.inside.Reserves.{seats_in}

-- full nodes hold their seats
pub seats_in-full : (seats : List SeatOf) → seats_in (map Some seats) ≡ seats
seats_in-full [] = refl
seats_in-full (seat ∷ seats) = ap (λ rest. seat ∷ rest) (seats_in-full seats)

module _ (nodes : List (Option SeatOf)) (seats : List SeatOf) (are : nodes ≡ None ∷ map Some seats) where
  -- with an empty one in front they are a reserve of these seats
  pub reserve-of : seats_in nodes ≡ seats
  reserve-of = ap seats_in are ∙ seats_in-full seats

  pub is-reserve : nodes ≡ None ∷ map Some (seats_in nodes)
  is-reserve = are ∙ ap (λ xs. None ∷ map Some xs) (sym reserve-of)

-- nodes hold what their parts hold
seats_in-append : (xs ys : List (Option SeatOf)) → seats_in (xs ++ ys) ≡ seats_in xs ++ seats_in ys
seats_in-append [] ys = refl
seats_in-append (None ∷ xs) ys = seats_in-append xs ys
seats_in-append (Some seat ∷ xs) ys = ap (λ rest. seat ∷ rest) (seats_in-append xs ys)

-- the first of full nodes isn't empty
full-first :
    (seats : List SeatOf) (rest : List (Option SeatOf)) → None ∷ rest ≡ map Some seats → ⊥
full-first [] rest are = absurd cc
full-first (seat ∷ seats) rest are = absurd cc

-- ---- the last node is taken off

module _ (nodes : List (Option SeatOf)) (are : nodes ≡ None ∷ map Some (seats_in nodes)) (n : ℕ)
    (some : n ≡ suc (n - 1)) (count : n ≡ length (seats_in nodes)) (first : Option SeatOf)
    (rest : List (Option SeatOf)) (last : drop n nodes ≡ first ∷ rest) where
  none-after : rest ≡ []
  none-after =
      nil_from_length rest
      (omega (
        arith,
        length-drop n nodes,
        ap length last,
        ap length are,
        length-map (seats_in nodes) Some,
        count,
      ))

  -- those that are left are a reserve
  pub left-full : take n nodes ≡ None ∷ map Some (seats_in (take n nodes))
  left-full =
      is-reserve (take n nodes) (take (n - 1) (seats_in nodes))
      (ap (take n) are ∙ ap (λ m. take m (None ∷ map Some (seats_in nodes))) some
      ∙ ap (λ xs. None ∷ xs) (take-map Some (n - 1) (seats_in nodes)))

  -- the last one has a seat
  pub last-full : first ≢ None
  last-full none =
      full-first (drop (n - 1) (seats_in nodes)) rest
      (ap (λ x. x ∷ rest) (sym none) ∙ sym last ∙ ap (drop n) are
      ∙ ap (λ m. drop m (None ∷ map Some (seats_in nodes))) some
      ∙ drop-map Some (n - 1) (seats_in nodes))

  -- and it is the last seat
  pub last-seat : (seat : SeatOf) → first ≡ Some seat
      → seats_in nodes ≡ seats_in (take n nodes) ++ seat ∷ []
  last-seat seat is =
      ap seats_in (sym (take-append-drop n nodes)) ∙ seats_in-append (take n nodes) (drop n nodes)
      ∙ ap (λ xs. seats_in (take n nodes) ++ seats_in xs)
      (last ∙ ap₂ (λ x xs. x ∷ xs) is none-after)

  -- its node is a reserve of none
  pub node-empty : (node : List (Option SeatOf)) → node ≡ None ∷ rest → node ≡ None ∷ map Some []
  node-empty node is = is ∙ ap (λ xs. None ∷ xs) none-after

-- ---- nodes come behind others

-- a reserve whose first node has got a seat, behind another reserve
pub joined :
    (mine theirs theirs' : List (Option SeatOf)) (first : Option SeatOf) (seat : SeatOf)
    → mine ≡ None ∷ map Some (seats_in mine) → theirs ≡ None ∷ map Some (seats_in theirs)
    → (rest : List (Option SeatOf)) × (theirs ≡ first ∷ rest) × (theirs' ≡ Some seat ∷ rest)
    → mine ++ theirs' ≡ None ∷ map Some (seats_in mine ++ seat ∷ seats_in theirs)
joined mine theirs theirs' first seat mine-are theirs-are exchanged =
    let rest : exchanged.0 ≡ map Some (seats_in theirs) =
    ap (drop 1) (sym exchanged.1 ∙ theirs-are) in
    ap₂ (λ xs ys. xs ++ ys) mine-are (exchanged.2 ∙ ap (λ xs. Some seat ∷ xs) rest)
    ∙ ap (λ xs. None ∷ xs) (sym (map-append Some (seats_in mine) (seat ∷ seats_in theirs)))

-- ---- the first node comes to the end

abbrev head_or : {X : Type 0} → X → List X → X
head_or x [] = x
head_or x (y ∷ ys) = y

-- of full nodes with others behind them
module _ (nodes back rest : List (Option SeatOf)) (first : Option SeatOf) (seat : SeatOf)
    (left : List SeatOf) (are : nodes ≡ map Some (seat ∷ left) ++ back) (next : nodes ≡ first ∷ rest) where
  pub first-is : first ≡ Some seat
  first-is = ap (head_or first) (sym next ∙ are)

  pub rest-is : rest ≡ map Some left ++ back
  rest-is = ap (drop 1) (sym next ∙ are)

same-seat : (one two : SeatOf) → Some one ≡ Some two → one ≡ two
same-seat one two same = cc

-- a first full node has come to the end, empty: one seat less is left
module _ (nodes nodes' rest back : List (Option SeatOf)) (first new : Option SeatOf)
    (all moved moved' left : List SeatOf) (are : nodes ≡ map Some left ++ back)
    (next : nodes ≡ first ∷ rest) (come : nodes' ≡ rest ++ new ∷ [])
    (is : AreMoved (λ seat. seat) all moved left) where
  -- while a seat is left, the first node has one
  pub has-seat : 1 ≤ length left → first ≢ None
  has-seat some none = of left are some
    where
      of : (left : List SeatOf) → nodes ≡ map Some left ++ back → 1 ≤ length left → ⊥
      of [] are some = omega (arith, some)
      of (seat ∷ left) are some =
          let is = sym none ∙ first-is nodes back rest first seat left are next in absurd cc

  abbrev pub OneLess : (seats : List SeatOf) → Type 0
  OneLess seats =
      (left' : List SeatOf) × (back' : List (Option SeatOf)) × (nodes' ≡ map Some left' ++ back')
      × AreMoved (λ seat. seat) all seats left' × (length left ≡ length left' + 1)

  pub one-less : (seat : SeatOf) → first ≡ Some seat → 1 ≤ length left → OneLess (moved ++ seat ∷ [])
  one-less seat first-seat some = of left are is some refl
    where
      of : (xs : List SeatOf) → nodes ≡ map Some xs ++ back → AreMoved (λ seat. seat) all moved xs
          → 1 ≤ length xs → xs ≡ left → OneLess (moved ++ seat ∷ [])
      of [] are is some same = absurd (omega (arith, some))
      of (x ∷ xs) are is some same = (
        xs,
        back ++ new ∷ [],
        come ∙ ap (λ ys. ys ++ new ∷ []) (rest-is nodes back rest first x xs are next)
            ∙ append_assoc (map Some xs) back (new ∷ []),
        moved-more is refl
            (same-seat x seat (sym (first-is nodes back rest first x xs are next) ∙ first-seat))
            refl,
        omega (arith, ap length same),
      )

-- a first node has come to the end with a seat, behind an empty one and those that came before
module _ (nodes nodes' front moved rest : List (Option SeatOf)) (first : Option SeatOf)
    (seat : SeatOf) (all : List (Option SeatOf)) (left left' : List SeatOf)
    (are : nodes ≡ front ++ None ∷ moved) (next : nodes ≡ first ∷ rest)
    (come : nodes' ≡ rest ++ Some seat ∷ []) (count : length front ≡ length left)
    (is : AreMoved Some all moved left) (one : left ≡ seat ∷ left') where
  abbrev pub OneMore : Type 0
  OneMore =
      (front' moved' : List (Option SeatOf)) × (nodes' ≡ front' ++ None ∷ moved')
      × (length front' ≡ length left') × AreMoved Some all moved' left'

  pub one-more : OneMore
  one-more = of front are count
    where
      of : (xs : List (Option SeatOf)) → nodes ≡ xs ++ None ∷ moved → length xs ≡ length left → OneMore
      of [] are count = absurd (omega (arith, count, ap length one))
      of (x ∷ xs) are count = (
        xs,
        moved ++ Some seat ∷ [],
        come ∙ ap (λ ys. ys ++ Some seat ∷ []) (ap (drop 1) (sym next ∙ are))
            ∙ append_assoc xs (None ∷ moved) (Some seat ∷ []),
        omega (arith, count, ap length one),
        moved-more is one refl refl,
      )

-- where none is left, the empty node is in front, and those behind it have all seats
pub all-behind :
    (nodes front moved all : List (Option SeatOf)) (left : List SeatOf)
    → nodes ≡ front ++ None ∷ moved → length front ≡ length left → AreMoved Some all moved left
    → length left ≡ 0 → nodes ≡ None ∷ all
all-behind nodes front moved all left are count is none =
    are ∙ ap (λ xs. xs ++ None ∷ moved) (nil_from_length front (omega (arith, count, none)))
    ∙ ap (λ xs. None ∷ xs) (all-moved is none)
