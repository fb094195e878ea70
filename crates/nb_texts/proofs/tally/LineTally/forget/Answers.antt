use Rattle.std.proofs.Common.{◌≡◌, ◌∙◌, ◌<◌, ℕ, Err, List, [], ap, arith, length, min, rules, subst, sym}
use Rattle.std.proofs.lemmas.Grind.{common_steps}
use Rattle.std.proofs.lemmas.List.{length-map}
use Rattle.nb_core.specs.declared.shapes.TheConstants.{MOST_KEYS}
use Rattle.nb_texts.proofs.ForgettingLemmas.{half-kept, kept-entered, lines-none, lines-with, tally-above}
use Rattle.nb_lines.specs.declared.faults.ProgramFault.TheVariants as fault
use Rattle.nb_texts.specs.Forgetting.{AreLines}
use Rattle.nb_texts.specs.Lines.{lines_in, with_new_lines}
use Rattle.nb_texts.specs.Tallies.{times}
use Rattle.nb_texts.proofs.tally.LineTally.forget.Goals as goal

pub kept_of-requires : goal.kept_of-requires
kept_of-requires g c =
    let tally = c.requires.tally in
    record {
      many = ap length tally.1.told ∙ length-map c.args.self.catalog.texts (λ line. times line tally.0);
    }

pub returns-clause-lines : goal.returns-clause-lines
returns-clause-lines g c =
    subst AreLines (sym c.in_ok-catalog.ensures.lines) (lines-with [] c.as_slice.result.now lines-none)

pub returns-clause-half : goal.returns-clause-half
returns-clause-half g c =
    let known = c.args.self.catalog.texts in
    let known' = c.in_ok-catalog.catalog.texts in
    let kept = c.in_ok-cut.kept in
    let (lines, tally) = c.requires.tally in
    let entered : known' ≡ with_new_lines [] (lines_in kept.text.items)
    = c.in_ok-catalog.ensures.lines
    ∙ ap (λ text. with_new_lines [] (lines_in text)) c.as_slice.ensures.value in
    half-kept c.in_ok-cut.cut lines known known' c.args.self.counts.items tally c.in_ok-cut.ensures.cut
    (kept-entered c.in_ok-cut.cut lines known known' c.args.self.counts.items kept.text.items
    c.requires.lines tally (c.in_ok-cut.ensures.text (λ line. times line lines) tally.told) entered)

pub returns-in_err-catalog-clause-full : goal.returns-in_err-catalog-clause-full
returns-in_err-catalog-clause-full g c =
    let known = c.args.self.catalog.texts in
    let kept = c.in_ok-cut.kept in
    let (lines, tally) = c.requires.tally in
    let known' = with_new_lines [] (lines_in c.as_slice.result.now) in
    let told : c.from_residual-in_err-catalog.result ≡ Err fault.FullOfLines
    → min c.args.self.catalog.room MOST_KEYS < length known' = first_of (search rules, grind (arith, common_steps)) in
    let entered : known' ≡ with_new_lines [] (lines_in kept.text.items)
    = ap (λ text. with_new_lines [] (lines_in text)) c.as_slice.ensures.value in
    λ is.
    omega (
      arith,
      told is,
      half-kept c.in_ok-cut.cut lines known known' c.args.self.counts.items tally c.in_ok-cut.ensures.cut
          (kept-entered c.in_ok-cut.cut lines known known' c.args.self.counts.items kept.text.items
          c.requires.lines tally (c.in_ok-cut.ensures.text (λ line. times line lines) tally.told) entered),
    )

pub returns-clause-tally : goal.returns-clause-tally
returns-clause-tally g c = λ lines tally.
    let known = c.args.self.catalog.texts in
    let counts = c.args.self.counts.items in
    let known' = c.in_ok-catalog.catalog.texts in
    let kept = c.in_ok-cut.kept in
    let of : List ℕ → ℕ = λ line. times line lines in
    let entered : known' ≡ with_new_lines [] (lines_in kept.text.items)
    = c.in_ok-catalog.ensures.lines
    ∙ ap (λ text. with_new_lines [] (lines_in text)) c.as_slice.ensures.value in
    tally-above c.in_ok-cut.cut lines known known' counts kept.counts.items tally
    (kept-entered c.in_ok-cut.cut lines known known' counts kept.text.items c.requires.lines tally
    (c.in_ok-cut.ensures.text of tally.told) entered)
    (c.in_ok-cut.ensures.counts of tally.told)
