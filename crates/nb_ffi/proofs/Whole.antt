-- A handle has all seats of its map, unless it is told that it lacks some.
use Rattle.std.proofs.Common.{◌≡◌, ◌↔◌, ◌==◌, ◌∙◌, Bool, true, false, length, refl, sym}
use Rattle.std.proofs.lemmas.Bool.{eq-eqb, eqb-true}
use Rattle.nb_map.specs.Handles.{HandleOf, IsWhole, seats_of}

pub whole-unless :
    (handle : HandleOf) {Lacks : Type 0} → (Lacks ↔ (IsWhole handle → ⊥)) → (Lacks → ⊥)
    → IsWhole handle
whole-unless handle told not =
    of (length (seats_of handle) == handle.map.chain.shape.seats) refl
  where
    of :
        (same : Bool) → (length (seats_of handle) == handle.map.chain.shape.seats) ≡ same
        → IsWhole handle
    of true same = eqb-true (length (seats_of handle)) handle.map.chain.shape.seats same
    of false same = absurd (not (told.1 (λ whole. apart
        (sym same ∙ eq-eqb (length (seats_of handle)) handle.map.chain.shape.seats whole))))
      where
        apart : false ≡ true → ⊥
        apart is = cc
