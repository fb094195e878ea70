use Rattle.std.proofs.Common.{◌≡◌, ◌∙◌, ◌<◌, ap, arith, get_or, length, subst}
use Rattle.nb_texts.proofs.ForgettingLemmas.{kept-line}
use Rattle.nb_texts.proofs.TallyLemmas.{index-map}
use Rattle.nb_texts.proofs.forgetting.kept_above.Goals as goal

pub loop-place-preserved : goal.loop-place-preserved
loop-place-preserved c = λ times told.
    let texts = c.args.tally.now.catalog.texts in
    let counts = c.args.tally.now.counts.items in
    let n = c.loop-place.place in
    let line = c.in-Some.line.now in
    let listed = c.deref-times-items.ensures.value in
    let within : n < length counts
    = subst (λ counts. n < length counts) listed c.loop-place-test.true in
    let less : n < length texts = omega (arith, within, c.requires) in
    let before = c.loop-place.invariant times told in
    let here : get_or c.deref-times-items.result.now n 0 ≡ times line
    = ap (λ counts. get_or counts n 0) (listed ∙ told) ∙ index-map times texts n line c.in-Some.ensures in
    kept-line c.args.cut texts times n line (get_or c.deref-times-items.result.now n 0)
    c.loop-place.kept.text.items c.keep.new.self.text.items c.loop-place.kept.counts.items
    c.keep.new.self.counts.items less c.in-Some.ensures here before.0 before.1
    c.in_ok-keep.ensures.text c.in_ok-keep.ensures.counts
