-- What a walk that counts has shown.
use Rattle.std.proofs.Common.{◌≡◌, ◌∙◌, ◌∷◌, [], ◌++◌, ℕ, List, Option, None, Some, ap, map, subst, sym}
use Rattle.std.proofs.lemmas.List.{map_push}
use Rattle.std.specs.Prelude.{reverse}
use mathlib.Core.List.{reverse-cons}
use Rattle.nb_map.proofs.Theorems.{whole_walk}
use Rattle.nb_map.specs.Handles.{HandleOf, HandleWalkOf, KeepsRest}
use Rattle.nb_map.specs.Maps.{SeatOf}
use Rattle.nb_map.specs.Promises.{HandleHasWalkedOn, HasBegunWalk}
use Rattle.nb_map.specs.Walks.{HasShownAll, IsUnderway, WalkOf, with_shown}
use Rattle.nb_tally.specs.Numbers.{HasCountedAll, count_at}
use Rattle.nb_tally.specs.declared.counting.Count.{Count}

-- a walk by the handle has shown what these counts tell so far
pub record HasCountedSoFar (handle : HandleOf) (begun : SeatOf) (now : HandleWalkOf)
    (counts : List Count) : Type 0 where
  pub rest : KeepsRest handle now.handle
  pub begins : now.walk.begun ≡ begun
  pub shown : List (ℕ × ℕ)
  pub underway : IsUnderway handle.map now.handle.seat now.walk shown
  pub are : counts ≡ map count_at (reverse shown)

-- and one more pair, if there is one
pub counted-on :
    (handle : HandleOf) (begun : SeatOf) (now next : HandleWalkOf) (counts counts' : List Count)
    (pair : ℕ × ℕ) (result : Option (ℕ × ℕ)) → HasCountedSoFar handle begun now counts
    → HandleHasWalkedOn now result next → result ≡ Some pair → counts' ≡ counts ++ count_at pair ∷ []
    → HasCountedSoFar handle begun next counts'
counted-on handle begun now next counts counts' pair result so on is more =
    let under : IsUnderway now.handle.map now.handle.seat now.walk so.shown
    = subst (λ m. IsUnderway m now.handle.seat now.walk so.shown) (sym so.rest.map) so.underway in
    record {
      rest = record { map = on.rest.map ∙ so.rest.map; reserve = on.rest.reserve ∙ so.rest.reserve };
      begins = on.on.walked.begun ∙ so.begins;
      shown = pair ∷ so.shown;
      underway = subst (λ m. IsUnderway m next.handle.seat next.walk (pair ∷ so.shown)) so.rest.map
          (subst (λ shown. IsUnderway now.handle.map next.handle.seat next.walk (with_shown shown so.shown)) is
          (on.on.underway so.shown under));
      are = more ∙ ap (λ all. all ++ count_at pair ∷ []) so.are
          ∙ sym (map_push count_at (reverse so.shown) pair)
          ∙ ap (map count_at) (sym (reverse-cons pair so.shown));
    }

-- at the walk's end they tell all
pub counted-all :
    (handle : HandleOf) (begun : SeatOf) (walk : WalkOf) (now next : HandleWalkOf)
    (counts : List Count) (result : Option (ℕ × ℕ)) → HasBegunWalk handle.map handle.seat begun walk
    → HasCountedSoFar handle begun now counts → HandleHasWalkedOn now result next → result ≡ None
    → HasCountedAll handle next.handle counts
counted-all handle begun walk now next counts result begins so on none =
    let under : IsUnderway now.handle.map now.handle.seat now.walk so.shown
    = subst (λ m. IsUnderway m now.handle.seat now.walk so.shown) (sym so.rest.map) so.underway in
    let ended : IsUnderway now.handle.map next.handle.seat next.walk so.shown
    = subst (λ shown. IsUnderway now.handle.map next.handle.seat next.walk (with_shown shown so.shown)) none
    (on.on.underway so.shown under) in
    record {
      begun = begun;
      walk = walk;
      begins = begins;
      shown = so.shown;
      all = subst (λ seat. HasShownAll seat next.handle.seat so.shown) (on.on.walked.begun ∙ so.begins)
          (whole_walk now.handle.map next.handle.seat next.walk so.shown ended (on.on.ended none));
      rest = record { map = on.rest.map ∙ so.rest.map; reserve = on.rest.reserve ∙ so.rest.reserve };
      are = so.are;
    }
