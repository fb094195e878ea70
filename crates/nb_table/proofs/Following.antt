-- What a seat may do, by what it has seen.
use Rattle.std.proofs.Common.{◌≡◌, ◌∙◌, ℕ, Bool, true, false, List, [], ◌∷◌, ◌++◌, slice_index, slice_set, ap, sym, refl}
use Rattle.std.proofs.lemmas.List.{set-get_or}
use Rattle.std.proofs.lemmas.List.Elements.{All-cons, All-nil}
use Rattle.nb_core.specs.Plans.{Plan, IsPlan}
use Rattle.nb_core.specs.Tables.{tables_at, words_of}
use Rattle.nb_core.specs.History.{IsLegal, seat_of_event}
use Rattle.nb_core.specs.Laws.{Lasts}
use Rattle.nb_core.specs.declared.events.Event.{Event}
use Rattle.nb_table.specs.Events.{only}
use Rattle.nb_table.specs.Steps.{MayStep}
use Rattle.nb_core.proofs.Theorems.{seen_lasts}

-- a step without an event leaves its word
pub none-follows :
    (p : Plan) (number index new : ℕ) (h : List Event) → IsLegal p h
    → new ≡ slice_index (words_of p h) index
    → MayStep p [] number index new h
none-follows p number index new h legal same = record {
  legal = legal;
  words = sym (ap (slice_set (words_of p h) index) same ∙ set-get_or (words_of p h) index 0);
  mine = All-nil (λ x. seat_of_event x ≡ number);
}

-- the one event of a step
pub one-follows :
    (p : Plan) (e : Event) (number index new : ℕ) (h : List Event) → IsLegal p (e ∷ h)
    → words_of p (e ∷ h) ≡ slice_set (words_of p h) index new → seat_of_event e ≡ number
    → MayStep p (e ∷ []) number index new h
one-follows p e number index new h legal words mine = record {
  legal = legal;
  words = words;
  mine = All-cons (λ x. seat_of_event x ≡ number) e [] mine
      (All-nil (λ x. seat_of_event x ≡ number));
}

-- a step that is an event where a test holds
pub if-follows :
    (p : Plan) (test : Bool) (e : Event) (number index new : ℕ) (h : List Event)
    → (test ≡ true → MayStep p (e ∷ []) number index new h)
    → (test ≡ false → MayStep p [] number index new h)
    → MayStep p (only test e) number index new h
if-follows p true e number index new h yes_it no_it = yes_it refl
if-follows p false e number index new h yes_it no_it = no_it refl

module _ (p : Plan) (number : ℕ) (seen : List Event) where
  -- what is so still
  pub later :
      IsPlan p → (others : List Event) → IsLegal p (others ++ seen)
      → Lasts p (tables_at p seen) (tables_at p (others ++ seen))
  later plan others legal = seen_lasts p plan others seen legal
