-- What an account gains as all handles go home.
use Rattle.std.proofs.Common.{◌≡◌, ◌∙◌, ◌+◌, ◌++◌, ◌<◌, ◌≤◌, ◌∷◌, ℕ, zero, suc, List, [], Some, ap, arith, inl, inr, length, length-append, refl, slice_get, subst, sym}
use Rattle.std.proofs.lemmas.List.{append_assoc}
use Rattle.std.proofs.lemmas.Option.{slice_get_within}
use Rattle.nb_core.specs.declared.events.Event.{Event}
use Rattle.nb_map.specs.Handles.{HandleOf}
use Rattle.nb_map.specs.Maps.{MapOf}
use Rattle.nb_lasting.proofs.Dealt.{snoc_last}
use Rattle.nb_lasting.proofs.Sharing.{Same, decided}
use Rattle.nb_lasting.specs.Renewal.{AreAllHome, AreStill, HasComeHome, IsHomeSeen}
use Rattle.nb_lasting.specs.Visits.{gave}
use Rattle.nb_lasting.specs.declared.shared.Account.{Account}

append_at :
    {X : Type 0} (xs ys : List X) (i : ℕ) (x : X) → slice_get xs i ≡ Some x
    → slice_get (xs ++ ys) i ≡ Some x
append_at [] ys i x at = absurd (omega (arith, slice_get_within [] i x at))
append_at (z ∷ xs) ys zero x at = at
append_at (z ∷ xs) ys (suc i) x at = append_at xs ys i x at

-- the guest's own one is home, and of the map still
pub home-seen :
    (m : MapOf) (filled past : List Event) (n : ℕ) (knew : ℕ → List Event)
    (handles : List HandleOf) (own : ℕ) (a b : Account) → AreStill m filled past n knew handles
    → AreAllHome own handles a b → IsHomeSeen own m a b
home-seen m filled past n knew handles own a b still home =
    let one = (still.held.each own home.0 home.1).0 in
    record { back = home.0; map = one.map; number = one.number; account = home.2 }

-- these are left, from the first on, of those that were to go home
pub record AreLeft (own : ℕ) (all left : List HandleOf) (before after : Account) : Type 0 where
  pub gone : List HandleOf
  pub parts : all ≡ left ++ gone
  pub still : own < length left → after ≡ before
  pub home : length left ≤ own → AreAllHome own all before after

pub none-gone : (own : ℕ) (all : List HandleOf) (a : Account) → own < length all
    → AreLeft own all all a a
none-gone own all a below = record {
  gone = [];
  parts = sym (append-none all);
  still = λ less. refl;
  home = λ more. absurd (omega (arith, below, more));
}
  where
    append-none : (xs : List HandleOf) → xs ++ [] ≡ xs
    append-none [] = refl
    append-none (x ∷ xs) = ap (λ l. x ∷ l) (append-none xs)

pub one-gone :
    (own : ℕ) (all old new : List HandleOf) (a b c : Account) (lane : ℕ) → lane + 1 ≡ length old
    → AreLeft own all old a b → HasComeHome lane own b c old new → AreLeft own all new a c
one-gone own all old new a b c lane long was step = record {
  gone = step.last ∷ was.gone;
  parts = was.parts ∙ ap (λ l. l ++ was.gone) step.all
      ∙ append_assoc new (step.last ∷ []) was.gone;
  still = λ less.
      step.dealt (λ same. absurd (omega (arith, same, less, place)))
      ∙ was.still (omega (arith, less, place, long));
  home = λ more. by more (decided lane own);
}
  where
    place : length new ≡ lane
    place = omega (arith, length-append new (step.last ∷ []), ap length step.all, long)

    here : lane ≡ own → slice_get all own ≡ Some step.last
    here same =
        ap (λ l. slice_get l own) was.parts
        ∙ append_at old was.gone own step.last
        (ap (λ l. slice_get l own) step.all
        ∙ subst (λ i. slice_get (new ++ step.last ∷ []) i ≡ Some step.last) (place ∙ same)
        (snoc_last new step.last))

    by : length new ≤ own → Same lane own → AreAllHome own all a c
    by more (inl (same, _)) = (
      step.last,
      here same,
      step.given same ∙ ap (gave step.last) (was.still (omega (arith, same, long))),
    )
    by more (inr (other, _)) =
        let old-home = was.home (omega (arith, more, place, long, other)) in
        (old-home.0, old-home.1, step.dealt other ∙ old-home.2)
