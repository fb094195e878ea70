-- A history that has all events of each seat is whole.
use Rattle.std.proofs.Common.{◌≢◌, [], ◌∷◌, refl}
use Rattle.std.proofs.lemmas.List.Elements.{All-head}
use Rattle.nb_core.specs.History.{seat_of_event}
use Rattle.nb_core.specs.Laws.{NothingIsMissing}
use Rattle.nb_core.proofs.Counting.{seat-in_range}

-- the newest of the events that came would be of a seat that made none of them
pub nothing_is_missing : NothingIsMissing
nothing_is_missing p h [] legal none = refl
nothing_is_missing p h (e ∷ later) legal none =
    absurd (All-head (λ x. seat_of_event x ≢ seat_of_event e) e later
    (none (seat_of_event e) (seat-in_range p e legal.1)) refl)
