-- What follows of the rule at any moment, and of the steps that a seat made.
use Rattle.std.specs.Prelude.{◌≡◌, ◌≢◌, ℕ, ◌+◌, ◌<◌, List, [], ◌∷◌, ◌++◌, All, Contains}
use Rattle.nb_core.specs.History.{map_of}
use Rattle.nb_core.specs.Laws.{AreLawful, IsLawfulChange, Lasts}
use Rattle.nb_core.specs.Meaning.{Stands}
use Rattle.nb_core.specs.Plans.{IsPlan, Plan}
use Rattle.nb_core.specs.Tables.{words_of}
use Rattle.nb_core.specs.declared.events.Event.{Event}
use Rattle.nb_table.specs.Chains.{ChainOf, Extended, Grown, IsOwn, SeenBy, seen_by}
use Rattle.nb_core.specs.Log.{IsBeginning}
use Rattle.nb_table.specs.Views.{IsChained, Moment, parts_at, steps_at}
use Rattle.nb_table.specs.declared.view.Part.{Part}

-- ---- one history that grows

-- At each moment the words stand for the map of the history.
abbrev pub WordsStand : Type 0
WordsStand = (p : Plan) (s : Moment) → IsPlan p → (rule : IsChained p s)
    → Stands p s.words (map_of rule.history)

-- At each moment there are as many words as the plan says, and each key word and value word stands
-- for a state.
abbrev pub WordsAreLawful : Type 0
WordsAreLawful = (p : Plan) (s : Moment) → IsPlan p → IsChained p s → AreLawful p s.words

-- each seat has seen at the second moment at least what it had seen at the first
abbrev pub HaveSeenMore : Moment → Moment → Type 0
HaveSeenMore s s' =
    All (λ part. (part' : Part) × Contains (parts_at s') part' × (part'.number ≡ part.number)
    × IsBeginning part.seen part'.seen)
    (parts_at s)

-- No seat forgets what it has seen, so the history of a later moment goes on from that of an
-- earlier one.
abbrev pub GoesOn : Type 0
GoesOn =
    (p : Plan) (s s' : Moment) (rule : IsChained p s) (rule' : IsChained p s') → HaveSeenMore s s'
    → IsBeginning rule.history rule'.history

-- each of these events, which came after the history, changed its words as an event may
abbrev pub ChangeLawfully : Plan → (later h : List Event) → Type 0
ChangeLawfully p [] h = Unit {0}
ChangeLawfully p (e ∷ later) h =
    IsLawfulChange p e (words_of p (later ++ h)) (words_of p (e ∷ (later ++ h)))
    × ChangeLawfully p later h

-- From one moment to a later one the words change by the events that came meanwhile and by nothing
-- else: one after another, one word at a time, and keys and values only as the event's kind may.
abbrev pub WordsChangeLawfully : Type 0
WordsChangeLawfully =
    (p : Plan) (s s' : Moment) → IsPlan p → (rule : IsChained p s) (rule' : IsChained p s')
    → HaveSeenMore s s' → (since : IsBeginning rule.history rule'.history)
    × (s'.words ≡ words_of p (since.later ++ rule.history)) × (s.words ≡ words_of p rule.history)
    × ChangeLawfully p since.later rule.history

-- all seats but the one of this number know at the second moment just what they knew at the first
abbrev pub OthersStay : ℕ → Moment → Moment → Type 0
OthersStay number s s' =
    All (λ part. part.number ≢ number → Contains (parts_at s) part) (parts_at s')

-- After each step, be it an event or none, the seat that made it has seen the history up to that
-- step: where one more step has been made, or several, and all seats but one know just what they
-- knew, this one has seen all of the history.
abbrev pub StepperHasSeen : Type 0
StepperHasSeen =
    (p : Plan) (s s' : Moment) (rule : IsChained p s) (rule' : IsChained p s') (number : ℕ)
    → steps_at s < steps_at s'
    → OthersStay number s s'
    → (part : Part) × Contains (parts_at s') part × (part.number ≡ number)
    × (part.seen ≡ rule'.history)

-- ---- the steps of one seat

-- Steps add up: none, one, and some after others. The seat stays the chain's, and what it has seen
-- of keys, values and tables stays so.
pub record StepsAddUp : Type 0 where
  pub none : {chain : ChainOf} {seat : SeenBy} → IsOwn chain seat → Grown chain.shape seat seat [] 0
  pub one :
      {p : Plan} {before after : SeenBy} {own : List Event} {count : ℕ}
      → Extended p before after own count
      → Grown p before after own count
  pub more :
      {p : Plan} {before then after : SeenBy} {own own' : List Event} {count count' : ℕ}
      → Grown p before then own count
      → Grown p then after own' count' → Grown p before after (own' ++ own) (count + count')
  pub own :
      {chain : ChainOf} {before after : SeenBy} {own : List Event} {count : ℕ} → IsOwn chain before
      → Grown chain.shape before after own count → IsOwn chain after
  pub stays :
      {chain : ChainOf} {before after : SeenBy} {own : List Event} {count : ℕ} → IsOwn chain before
      → Grown chain.shape before after own count
      → Lasts chain.shape (seen_by chain.shape before) (seen_by chain.shape after)
