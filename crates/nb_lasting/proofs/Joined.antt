-- Handles with one seat each, made one.
use Rattle.std.proofs.Common.{◌≡◌, ◌∙◌, ◌+◌, ◌++◌, ◌<◌, ◌≤◌, ◌^◌, suc, List, [], ◌∷◌, All, Some, ap, get_or, length, length-append, map, refl, reverse, subst, sym, true, arith}
use Rattle.std.specs.Prelude.{Err, Ok, Result, is_ok, remove}
use Rattle.std.proofs.lemmas.List.{append-nil, append_assoc, map-append, reverse-append, reverse-reverse}
use Rattle.std.proofs.lemmas.List.Elements.{All-append, All-cons, All-head, All-nil, All-pop, All-tail}
use Rattle.nb_map.specs.Handles.{HandleOf, handle_on, seats_of}
use Rattle.nb_map.specs.Maps.{SeatOf}
use Rattle.nb_lasting.specs.Gathered.{AreSingle, IsSingle, seats_of_each}

-- the first is taken out
pub first-out :
    (xs : List HandleOf) (first : HandleOf) → 1 ≤ length xs → first ≡ get_or xs 0 first
    → xs ≡ first ∷ remove xs 0
first-out [] first some is = absurd (omega (arith, some))
first-out (x ∷ xs) first some is = ap (λ (h : HandleOf). h ∷ xs) (sym is)

length-seats : (handles : List HandleOf) → length (seats_of_each handles) ≡ length handles
length-seats [] = refl
length-seats (h ∷ hs) = ap suc (length-seats hs)

module _
    (handles others : List HandleOf) (first : HandleOf) (single : AreSingle handles)
    (are : handles ≡ first ∷ others) where
  all : All (IsSingle single.shared) (first ∷ others)
  all = subst (All (IsSingle single.shared)) are single.each

  pub first-single : IsSingle single.shared first
  first-single = All-head (IsSingle single.shared) first others all

pub never-both :
    {A B : Type 0} (result : Result A B) (fault : B) → result ≡ Err fault → is_ok result ≡ true → ⊥
never-both (Ok a) fault is good = cc
never-both (Err e) fault is good = cc

-- ---- handles that are joined one by one

-- the first of these handles are one by now, and these are left, the last first
pub record AreJoined (handles left : List HandleOf) (whole : HandleOf) : Type 0 where
  pub front : List HandleOf
  pub parts : handles ≡ front ++ reverse left
  pub seats : seats_of whole ≡ seats_of_each front
  pub one :
      (single : AreSingle handles)
      → (whole.map ≡ single.shared) × All (IsSingle single.shared) left

All-reverse : (P : HandleOf → Type 0) (xs : List HandleOf) → All P xs → All P (reverse xs)
All-reverse P [] each = All-nil P
All-reverse P (x ∷ xs) each =
    subst (All P) (sym (reverse-append (x ∷ []) xs))
    (All-append P (reverse xs) (x ∷ []) (All-reverse P xs (All-tail P x xs each))
    (All-cons P x [] (All-head P x xs each) (All-nil P)))

pub first-joined :
    (handles others left : List HandleOf) (first : HandleOf) → AreSingle handles
    → handles ≡ first ∷ others → left ≡ reverse others → AreJoined handles left first
first-joined handles others left first some are turned = record {
  front = first ∷ [];
  parts = are ∙ ap (λ hs. first ∷ hs) (sym (ap reverse turned ∙ reverse-reverse others));
  seats = ap (λ (r : List SeatOf). first.seat ∷ r) (first-single handles others first some are).alone;
  one = λ single. (
    (first-single handles others first single are).map,
    subst (All (IsSingle single.shared)) (sym turned)
        (All-reverse (IsSingle single.shared) others
        (All-tail (IsSingle single.shared) first others
        (subst (All (IsSingle single.shared)) are single.each))),
  );
}

module _
    (handles left fewer : List HandleOf) (whole other : HandleOf) (single : AreSingle handles)
    (is : AreJoined handles left whole) (popped : left ≡ fewer ++ other ∷ []) where
  both : All (IsSingle single.shared) fewer × IsSingle single.shared other
  both = All-pop (IsSingle single.shared) left fewer (Some other) popped (is.one single).1

  pub other-one : other.map ≡ whole.map
  other-one = both.1.map ∙ sym (is.one single).0

  pub few-joined : length (seats_of whole) + length (seats_of other) < 2 ^ 63
  few-joined =
      omega (
        arith,
        ap length both.1.alone,
        ap length is.seats,
        length-seats is.front,
        ap length is.parts,
        length-append is.front (reverse left),
        single.few,
      )

  pub one-joined :
      (next : HandleOf) → next.map ≡ whole.map → next.seat ≡ whole.seat
      → next.reserve ≡ whole.reserve ++ seats_of other → AreJoined handles fewer next
  one-joined next same-map same-seat joined = record {
    front = is.front ++ other ∷ [];
    parts = is.parts
        ∙ ap (λ hs. is.front ++ hs) (ap reverse popped ∙ reverse-append fewer (other ∷ []))
        ∙ sym (append_assoc is.front (other ∷ []) (reverse fewer));
    seats = ap (λ (s : SeatOf). s ∷ next.reserve) same-seat
        ∙ ap (λ (r : List SeatOf). whole.seat ∷ r)
        (joined ∙ ap (λ (r : List SeatOf). whole.reserve ++ other.seat ∷ r) both.1.alone)
        ∙ ap (λ (r : List SeatOf). r ++ other.seat ∷ []) is.seats
        ∙ sym (map-append (λ (h : HandleOf). h.seat) is.front (other ∷ []));
    one = λ each. (
      same-map ∙ (is.one each).0,
      (All-pop (IsSingle each.shared) left fewer (Some other) popped (is.one each).1).0,
    );
  }

pub all-joined :
    (handles left : List HandleOf) (whole : HandleOf) → AreJoined handles left whole → left ≡ []
    → seats_of whole ≡ seats_of_each handles
all-joined handles left whole is none =
    is.seats
    ∙ ap seats_of_each (sym (is.parts ∙ ap (λ hs. is.front ++ reverse hs) none ∙ append-nil is.front))

-- ---- a handle's seats, which are split off one by one

-- these seats of the handle are handles of their own by now, the last first
pub record ArePartedFrom (whole handle : HandleOf) (handles : List HandleOf) : Type 0 where
  pub of : handle.map ≡ whole.map
  pub own : handle.seat ≡ whole.seat
  pub are :
      map (handle_on whole.map) whole.reserve
      ≡ map (handle_on whole.map) handle.reserve ++ reverse handles
  pub count : length handle.reserve + length handles ≡ length whole.reserve

pub none-parted : (whole : HandleOf) (handles : List HandleOf) → handles ≡ [] → ArePartedFrom whole whole handles
none-parted whole handles none = record {
  of = refl;
  own = refl;
  are = sym (ap (λ hs. map (handle_on whole.map) whole.reserve ++ reverse hs) none
      ∙ append-nil (map (handle_on whole.map) whole.reserve));
  count = omega (arith, ap length none);
}

module _ (whole handle : HandleOf) (handles more : List HandleOf) (is : ArePartedFrom whole handle handles) where
  pub one-parted :
      (other next : HandleOf) → handle.reserve ≡ next.reserve ++ other.seat ∷ []
      → other ≡ handle_on handle.map other.seat → next.map ≡ handle.map → next.seat ≡ handle.seat
      → more ≡ handles ++ other ∷ [] → ArePartedFrom whole next more
  one-parted other next split one same-map same-seat all = record {
    of = same-map ∙ is.of;
    own = same-seat ∙ is.own;
    are = is.are
        ∙ ap (λ (r : List SeatOf). map (handle_on whole.map) r ++ reverse handles) split
        ∙ ap (λ (hs : List HandleOf). hs ++ reverse handles)
        (map-append (handle_on whole.map) next.reserve (other.seat ∷ []))
        ∙ append_assoc (map (handle_on whole.map) next.reserve)
        (handle_on whole.map other.seat ∷ []) (reverse handles)
        ∙ ap (λ (h : HandleOf). map (handle_on whole.map) next.reserve ++ (h ∷ reverse handles))
        (ap (λ m. handle_on m other.seat) (sym is.of) ∙ sym one)
        ∙ ap (λ hs. map (handle_on whole.map) next.reserve ++ hs)
        (sym (ap reverse all ∙ reverse-append handles (other ∷ [])));
    count = omega (
      arith,
      is.count,
      ap length split,
      ap length all,
      length-append next.reserve (other.seat ∷ []),
      length-append handles (other ∷ []),
    );
  }

  -- none is left
  pub all-parted :
      (last : List HandleOf) → handle.reserve ≡ [] → more ≡ handles ++ handle ∷ [] → last ≡ reverse more
      → last ≡ map (handle_on whole.map) (seats_of whole)
  all-parted last none all turned =
      turned ∙ ap reverse all ∙ reverse-append handles (handle ∷ [])
      ∙ ap (λ (h : HandleOf). h ∷ reverse handles) alone
      ∙ ap (λ hs. handle_on whole.map whole.seat ∷ hs)
      (sym (is.are ∙ ap (λ (r : List SeatOf). map (handle_on whole.map) r ++ reverse handles) none))
    where
      alone : handle ≡ handle_on whole.map whole.seat
      alone = ap (λ (r : List SeatOf). record { map = handle.map; seat = handle.seat; reserve = r }) none
          ∙ ap (λ m. handle_on m handle.seat) is.of ∙ ap (handle_on whole.map) is.own
