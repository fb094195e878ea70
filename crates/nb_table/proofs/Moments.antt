-- What follows of the rule at one moment, and at two.
use Rattle.std.proofs.Common.{◌≡◌, ◌≢◌, ◌∙◌, ◌≤◌, inl, inr, ap, sym, subst, List, [], ◌∷◌, ◌++◌, arith}
use Rattle.std.specs.List.{Contains}
use Rattle.std.proofs.lemmas.Bool.{cases_eq}
use Rattle.std.proofs.lemmas.List.{append_assoc}
use Rattle.std.proofs.lemmas.List.Elements.{All-contains}
use Rattle.nb_core.specs.History.{IsLegal, map_of}
use Rattle.nb_core.specs.Laws.{AreLawful}
use Rattle.nb_core.specs.Meaning.{Stands}
use Rattle.nb_core.specs.Plans.{IsPlan, Plan}
use Rattle.nb_core.specs.Tables.{words_of}
use Rattle.nb_core.specs.declared.events.Event.{Event}
use Rattle.nb_core.proofs.Theorems.{lawful_changes, lawful_words, stands}
use Rattle.nb_table.specs.Laws.{ChangeLawfully, GoesOn, StepperHasSeen, WordsAreLawful, WordsChangeLawfully, WordsStand}
use Rattle.nb_core.specs.Log.{IsBeginning}
use Rattle.nb_table.specs.Views.{parts_at, steps_at}
use Rattle.nb_table.specs.declared.view.Part.{Part}
use Rattle.nb_table.proofs.Parted.{Fits}

pub words_stand : WordsStand
words_stand p s plan rule =
    subst (λ words. Stands p words (map_of rule.history)) (sym rule.words)
    (stands p plan rule.history rule.legal)

pub words_are_lawful : WordsAreLawful
words_are_lawful p s plan rule =
    subst (AreLawful p) (sym rule.words) (lawful_words p plan rule.history rule.legal)

-- Who made the last step has seen all, and has seen no less later.
pub goes_on : GoesOn
goes_on p s s' rule rule' more =
    let last = rule.last in
    let P : Part → Type 0 = λ part.
    (part' : Part) × Contains (parts_at s') part' × (part'.number ≡ part.number)
    × IsBeginning part.seen part'.seen in
    let then = All-contains P (parts_at s) last.0 more last.1 in
    let fits = All-contains (Fits rule'.history) (parts_at s') then.0 rule'.seen then.1 in
    subst (λ h. IsBeginning h rule'.history) last.3 (record {
      later = fits.later ++ then.3.later;
      is = fits.is ∙ ap (λ h. fits.later ++ h) then.3.is
          ∙ sym (append_assoc fits.later then.3.later last.0.seen);
    })

-- each event of a legal history changes the words as its kind may
change-lawfully :
    (p : Plan) → IsPlan p → (later h : List Event) → IsLegal p (later ++ h)
    → ChangeLawfully p later h
change-lawfully p plan [] h legal = tt
change-lawfully p plan (e ∷ later) h legal =
    (lawful_changes p plan e (later ++ h) legal, change-lawfully p plan later h legal.0)

pub words_change_lawfully : WordsChangeLawfully
words_change_lawfully p s s' plan rule rule' more =
    let since = goes_on p s s' rule rule' more in (
      since,
      rule'.words ∙ ap (words_of p) since.is,
      rule.words,
      change-lawfully p plan since.later rule.history
          (subst (IsLegal p) since.is rule'.legal),
    )

-- Who made the last step is the one seat that knows more: no other has made a step of this number.
pub stepper_has_seen : StepperHasSeen
stepper_has_seen p s s' rule rule' number more others =
    let last = rule'.last in
    elim (cases_eq last.0.number number) [
      | inl own ↦ (last.0, last.1, own, last.3)
      | inr other ↦
          let P : Part → Type 0 = λ part. part.number ≢ number → Contains (parts_at s) part in
          let was = All-contains P (parts_at s') last.0 others last.1 other in
          let before = All-contains (λ (part : Part). part.last_step ≤ steps_at s) (parts_at s)
          last.0 rule.steps was in
          absurd (omega (arith, before, more, last.2))
    ]
