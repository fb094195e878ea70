-- What holds of the parts of all tokens.
use Rattle.std.proofs.Common.{◌≡◌, ℕ, ◌+◌, ◌==◌, cond, List, ◌∷◌, All}
use Rattle.std.specs.List.{count_by}
use Rattle.std.proofs.lemmas.List.Sums.{sum_by-cons}
use Rattle.nb_core.specs.declared.events.Event.{Event}
use Rattle.nb_core.specs.Log.{IsBeginning}
use Rattle.nb_table.specs.Views.{HasSeen}
use Rattle.nb_table.specs.declared.view.Part.{Part}
use Rattle.nb_table.specs.declared.view.View.{View}

-- the part's seat has seen a beginning of the history, and made no event since
abbrev pub Fits : List Event → Part → Type 0
Fits history part = HasSeen history part.number part.seen

-- what a token was told of is a beginning of the history
abbrev pub IsTold : List Event → View → Type 0
IsTold history v = All (λ seen. IsBeginning seen history) v.told

-- how many of these parts have this number
abbrev pub times_among : ℕ → List Part → ℕ
times_among n = count_by (λ part. part.number == n)

pub times-cons :
    (n : ℕ) (part : Part) (parts : List Part)
    → times_among n (part ∷ parts) ≡ cond (part.number == n) 1 0 + times_among n parts
times-cons n = sum_by-cons (λ part. cond (part.number == n) 1 0)
