use Rattle.std.proofs.Common.{List, [], ◌∷◌, refl}
use Rattle.nb_moving.specs.Moving.{IsLegal}
use Rattle.nb_moving.specs.declared.events.Event.{Event}
use Rattle.nb_moving.specs.declared.events.Event.TheVariants.{Begin, Seal}
use Rattle.nb_moving.specs.declared.events.Link.TheVariants.{One}
use Rattle.nb_moving.proofs.Tests.{legal}
use Rattle.nb_moving.proofs.examples.sealed_in_order.Goals as goal

-- before the second seal
before : List Event
before = Seal 0 0 ∷ Begin 0 1 (One 2) ∷ Begin 0 0 (One 1) ∷ []

legal_before : IsLegal before
unfolding before
legal_before = legal before refl

pub returns-clause-legal : goal.returns-clause-legal
unfolding before
returns-clause-legal c = (
  legal_before,
  record {
    begun = refl;
    first = λ key has. refl;
    empty = λ key. refl;
  },
)

pub returns-clause-seals : goal.returns-clause-seals
returns-clause-seals c = tt

pub returns-clause-cores : goal.returns-clause-cores
returns-clause-cores c = refl
