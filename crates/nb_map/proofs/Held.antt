-- The seats that a handle holds.
use Rattle.std.proofs.Common.{◌≡◌, ◌∙◌, List, [], ◌∷◌, ◌++◌, ap, ap₂, map, reverse, subst, sym}
use Rattle.std.proofs.lemmas.List.{append-nil, append_assoc, map-append, reverse-append, reverse-reverse}
use Rattle.std.proofs.lemmas.List.Elements.{All-append, All-cons, All-head, All-nil, All-same, All-tail}
use Rattle.nb_core.proofs.Seating.{All-left, All-right}
use Rattle.nb_map.proofs.Entries.{map-reverse}
use Rattle.nb_map.specs.Handles.{HandleOf, handle_on}
use Rattle.nb_map.specs.Maps.{AreMine, IsMine, MapOf, SeatOf}

-- with one seat more of the map's at their end, all are still the map's
pub mine-more :
    (m : MapOf) (seats seats' : List SeatOf) (seat : SeatOf) → seats' ≡ seats ++ seat ∷ []
    → AreMine m seats → IsMine m seat → AreMine m seats'
mine-more m seats seats' seat are mine one =
    All-same (IsMine m) seats' (seats ++ seat ∷ []) are
    (All-append (IsMine m) seats (seat ∷ []) mine
    (All-cons (IsMine m) seat [] one (All-nil (IsMine m))))

-- the one that is taken off the end is, and those before it are
module _ (m : MapOf) (seats front : List SeatOf) (last : SeatOf) (are : seats ≡ front ++ last ∷ [])
    (mine : AreMine m seats) where
  both : AreMine m (front ++ last ∷ [])
  both = subst (AreMine m) are mine

  pub front-mine : AreMine m front
  front-mine = All-left (IsMine m) front (last ∷ []) both

  pub last-mine : IsMine m last
  last-mine = All-head (IsMine m) last [] (All-right (IsMine m) front (last ∷ []) both)

-- a handle's own seat, of all its seats
pub own-mine : (m : MapOf) (own : SeatOf) (reserve : List SeatOf) → AreMine m (own ∷ reserve)
    → IsMine m own
own-mine m own reserve mine = All-head (IsMine m) own reserve mine

pub reserve-mine : (m : MapOf) (own : SeatOf) (reserve : List SeatOf) → AreMine m (own ∷ reserve)
    → AreMine m reserve
reserve-mine m own reserve mine = All-tail (IsMine m) own reserve mine

-- seats of another handle of the map come behind those in reserve
pub joined-mine :
    (m n : MapOf) (reserve joined : List SeatOf) (own : SeatOf) (more : List SeatOf) → n ≡ m
    → joined ≡ reserve ++ own ∷ more → AreMine m reserve → IsMine n own → AreMine n more
    → AreMine m joined
joined-mine m n reserve joined own more one are mine theirs rest =
    All-same (IsMine m) joined (reserve ++ own ∷ more) are
    (All-append (IsMine m) reserve (own ∷ more) mine
    (subst (λ n. AreMine n (own ∷ more)) one (All-cons (IsMine n) own more theirs rest)))

-- a handle of the map with this seat, and none in reserve
pub handle-is :
    (m : MapOf) (handle : HandleOf) (seat : SeatOf) → handle.map ≡ m → handle.seat ≡ seat
    → handle.reserve ≡ [] → handle ≡ handle_on m seat
handle-is m handle seat map-is seat-is none =
    ap₂ (λ m seat. record { map = m; seat = seat; reserve = handle.reserve }) map-is seat-is
    ∙ ap (λ reserve. record { map = m; seat = seat; reserve = reserve }) none

-- ---- handles are split off, the last one first

module _ (m : MapOf) (reserve : List SeatOf) where
  -- the seats behind are in handles of their own
  pub record AreSplit (left : List SeatOf) (off : List HandleOf) : Type 0 where
    pub back : List SeatOf
    pub is : reserve ≡ left ++ back
    pub handles : off ≡ map (handle_on m) (reverse back)

  pub none-split : (left : List SeatOf) (handles : List HandleOf) → reserve ≡ left → handles ≡ []
      → AreSplit left handles
  none-split left handles is none =
      record { back = []; is = is ∙ sym (append-nil left); handles = none }

  -- one more is
  pub one-split :
      (left left' : List SeatOf) (seat : SeatOf) (handles handles' : List HandleOf) (handle : HandleOf)
      → AreSplit left handles → left ≡ left' ++ seat ∷ [] → handles' ≡ handles ++ handle ∷ []
      → handle ≡ handle_on m seat → AreSplit left' handles'
  one-split left left' seat handles handles' handle split last more is = record {
    back = seat ∷ split.back;
    is = split.is ∙ ap (λ xs. xs ++ split.back) last ∙ append_assoc left' (seat ∷ []) split.back;
    handles = more ∙ ap₂ (λ xs x. xs ++ x ∷ []) split.handles is
        ∙ sym (ap (map (handle_on m)) (reverse-append (seat ∷ []) split.back)
        ∙ map-append (handle_on m) (reverse split.back) (seat ∷ []));
  }

  -- with the handle's own, they are all
  pub all-split :
      (left : List SeatOf) (own : SeatOf) (handles handles' turned : List HandleOf) (handle : HandleOf)
      → AreSplit left handles → left ≡ [] → handles' ≡ handles ++ handle ∷ []
      → handle ≡ handle_on m own → turned ≡ reverse handles'
      → turned ≡ map (handle_on m) (own ∷ reserve)
  all-split left own handles handles' turned handle split none more is turn =
      turn ∙ ap reverse (more ∙ ap₂ (λ xs x. xs ++ x ∷ []) split.handles is)
      ∙ reverse-append (map (handle_on m) (reverse split.back)) (handle_on m own ∷ [])
      ∙ ap (λ xs. handle_on m own ∷ xs)
      (sym (map-reverse (handle_on m) (reverse split.back))
      ∙ ap (map (handle_on m)) (reverse-reverse split.back ∙ sym (split.is ∙ ap (λ xs. xs ++ split.back) none)))
