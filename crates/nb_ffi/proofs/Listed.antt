-- A walk is listed: the pairs that it shows are written, one after another.
use Rattle.std.proofs.Common.{◌≡◌, ◌∙◌, ◌<◌, ◌≤◌, ◌+◌, ℕ, List, [], ◌∷◌, ◌++◌, None, Option, Some, ap, refl, subst, sym, length, map, drop, slice_set, arith}
use Rattle.std.proofs.lemmas.List.{append_assoc, drop_more, length-map, length_push, map-append, set_at}
use Rattle.nb_map.specs.Handles.{HandleOf, KeepsRest}
use Rattle.nb_map.specs.Maps.{SeatOf}
use Rattle.nb_map.specs.Promises as of_map
use Rattle.nb_map.specs.Walks.{IsWalkOf, bound_at, walk_from}
use Rattle.nb_map.specs.declared.map.walks.WalkPlace.{WalkPlace}
use Rattle.nb_ffi.specs.Entries.{entry_in_c, written_over}
use Rattle.nb_ffi.specs.Listing.{HasListedWholePart, HasShownUpTo}
use Rattle.nb_ffi.specs.Listing.HasShownUpTo.{Begun, Showed}
use Rattle.nb_ffi.specs.declared.ended_map.MapEntry.{MapEntry}

-- so many pairs were written so far, and each walk that the seat began goes on from here
pub record HasCome (end : ℕ) (before : HandleOf) (from : WalkPlace) (room : List MapEntry)
    (now : HandleOf) (at : WalkPlace) (room' : List MapEntry) (count : ℕ) : Type 0 where
  pub pairs : List (ℕ × ℕ)
  pub many : length pairs ≡ count
  pub fits : length pairs ≤ length room
  pub written : room' ≡ written_over pairs room
  pub shown :
      (begun : SeatOf) → IsWalkOf before.map before.seat (walk_from begun from)
      → HasShownUpTo end begun before from now at pairs
      × IsWalkOf now.map now.seat (walk_from begun at)

pub come-begun :
    (end : ℕ) (before : HandleOf) (from : WalkPlace) (room : List MapEntry)
    → HasCome end before from room before from room 0
come-begun end before from room = record {
  pairs = [];
  many = refl;
  fits = omega arith;
  written = refl;
  shown = λ begun is. (Begun, is);
}

-- one entry more
pub written-one :
    (pairs : List (ℕ × ℕ)) (room : List MapEntry) (pair : ℕ × ℕ) → length pairs < length room
    → slice_set (written_over pairs room) (length pairs) (entry_in_c pair)
    ≡ written_over (pairs ++ pair ∷ []) room
written-one pairs room pair fits =
    let front = map entry_in_c pairs in
    let long : length front ≡ length pairs = length-map pairs entry_in_c in
    ap (λ rest. slice_set (front ++ rest) (length pairs) (entry_in_c pair))
    (drop_more room (length pairs) (entry_in_c pair) fits)
    ∙ set_at front _ _ (entry_in_c pair) (length pairs) long
    ∙ sym (append_assoc front (entry_in_c pair ∷ []) _)
    ∙ ap (λ l. l ++ drop (length pairs + 1) room) (sym (map-append entry_in_c pairs (pair ∷ [])))
    ∙ ap (λ n. map entry_in_c (pairs ++ pair ∷ []) ++ drop n room) (sym (length_push pairs pair))

-- a call of each walk that the seat began and that is here
abbrev pub Walked :
    (end : ℕ) → (now after : HandleOf) → (at to : WalkPlace) → Option (ℕ × ℕ) → Type 0
Walked end now after at to shown =
    (begun : SeatOf) → IsWalkOf now.map now.seat (walk_from begun at)
    → of_map.HasWalkedUpTo now.map (bound_at now.map.chain.shape at.first end) now.seat after.seat
    (walk_from begun at) (walk_from begun to) shown

module _ {end : ℕ} {before : HandleOf} {from : WalkPlace} {room : List MapEntry} where
  pub come-more :
      {now after : HandleOf} {at to : WalkPlace} {room' : List MapEntry} {count : ℕ}
      (pair : ℕ × ℕ) → HasCome end before from room now at room' count → count < length room
      → Walked end now after at to (Some pair) → KeepsRest now after
      → HasCome end before from room after to (slice_set room' count (entry_in_c pair)) (count + 1)
  come-more {now} {after} {at} {to} {room'} {count} pair come less walked rest = record {
    pairs = come.pairs ++ pair ∷ [];
    many = length_push come.pairs pair ∙ ap (λ n. n + 1) come.many;
    fits = omega (arith, length_push come.pairs pair, come.many, less);
    written = ap (λ l. slice_set l count (entry_in_c pair)) come.written
        ∙ ap (λ n. slice_set (written_over come.pairs room) n (entry_in_c pair)) (sym come.many)
        ∙ written-one come.pairs room pair (omega (arith, come.many, less));
    shown = λ begun is.
        let so_far = come.shown begun is in
        let on = walked begun so_far.1 in (
          Showed so_far.0 (record { promised = on; rest = rest }),
          subst (λ map. IsWalkOf map after.seat (walk_from begun to)) (sym rest.map) on.is_walk,
        );
  }

  pub come-all :
      {now after : HandleOf} {at to : WalkPlace} {room' : List MapEntry} {count : ℕ}
      → (come : HasCome end before from room now at room' count) → Walked end now after at to None
      → KeepsRest now after → HasListedWholePart end from to come.pairs before after
  come-all {now} {at = at} come walked rest = λ begun is.
      let so_far = come.shown begun is in (
        now,
        at,
        so_far.0,
        record { promised = walked begun so_far.1; rest = rest },
      )
