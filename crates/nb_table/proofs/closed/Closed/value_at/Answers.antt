use Rattle.std.proofs.Common.{◌∙◌, ap, slice_index, subst, sym}
use Rattle.nb_core.specs.States.{IsValueWord, value_in_word}
use Rattle.nb_core.specs.Plans.{value_place}
use Rattle.nb_table.proofs.Looking.{lawful}
use Rattle.nb_table.proofs.closed.Closed.value_at.Goals as goal
use Rattle.nb_core.proofs.Theorems.{lawful_words}

pub lawful-requires : goal.lawful-requires
lawful-requires c =
    let closed = c.args.self.now in
    let is = lawful c.self.inside closed c.self.invariant c.self.view_is in
    let index = c.value_place.ensures ∙ ap (λ v. value_place v.shape c.args.g c.args.i)
    c.self.view_is in
    let words = lawful_words closed.shape is.plan closed.history is.legal in
    subst IsValueWord
    (sym (c.word.ensures ∙ (λ j. slice_index (is.is j) (index j))))
    (words.values c.args.g c.args.i c.requires)

pub returns : goal.returns
returns c =
    let index = c.value_place.ensures ∙ ap (λ v. value_place v.shape c.args.g c.args.i)
    c.self.view_is in
    let word = c.word.ensures ∙ ap (slice_index c.args.self.now.words) index in
    c.state.ensures ∙ c.lawful.ensures.value ∙ ap value_in_word word
