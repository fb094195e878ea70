use Rattle.std.proofs.Common.{◌≡◌, ◌∙◌, ◌+◌, ◌^◌, ◌<◌, ◌≤◌, ◌==◌, ℕ, Err, ap, arith, length, rules, subst}
use Rattle.std.specs.Prelude.{Contains, count_by, slice_index}
use Rattle.std.proofs.lemmas.Grind.{common_steps}
use Rattle.nb_lines.specs.declared.faults.ProgramFault.TheVariants as fault
use Rattle.nb_texts.proofs.TallyLemmas.{counts-few, tally-more, tally-often}
use Rattle.nb_texts.specs.Lines.{lines_in, with_new_lines}
use Rattle.nb_texts.proofs.tally.LineTally.enter.Goals as goal

pub returns-clause-tally : goal.returns-clause-tally
returns-clause-tally g c = λ lines tally.
    let texts = c.args.self.now.catalog.texts in
    let block = lines_in c.args.block.now in
    let texts' = c.enter.new.self.texts in
    let counts' = c.count.new.counts.items in
    let entered : texts' ≡ with_new_lines texts block
    = c.in_ok-places.ensures.lines in
    let many : length counts' ≡ length texts'
    = c.in_ok-count.ensures.many ∙ c.in_ok-pad.ensures.many ∙ c.len-many.ensures in
    tally-more lines texts block texts' c.args.self.now.counts.items counts' c.in_ok-places.places.items
    tally entered c.in_ok-places.ensures.places many
    (λ q less.
    c.in_ok-count.ensures.counted q (omega (arith, less, many))
    ∙ ap (λ n. n + count_by (λ place. place == q) c.as_slice.result.now) (c.in_ok-pad.ensures.same q)
    ∙ ap (λ places. slice_index c.args.self.now.counts.items q + count_by (λ place. place == q) places)
    c.as_slice.ensures.value)

pub returns-in_err-pad-clause-often : goal.returns-in_err-pad-clause-often
returns-in_err-pad-clause-often g c =
    let texts = c.args.self.now.catalog.texts in
    let counts = c.args.self.now.counts.items in
    let texts' = c.enter.new.self.texts in
    let long : c.from_residual-in_err-pad.result ≡ Err fault.TooOften
    → c.len-many.result < length counts = first_of (search rules, grind (arith, common_steps)) in
    λ is lines tally.
    absurd (omega (
      arith,
      long is,
      c.len-many.ensures,
      counts-few lines texts (lines_in c.args.block.now) texts' counts tally c.in_ok-places.ensures.lines,
    ))

pub returns-in_err-count-clause-often : goal.returns-in_err-count-clause-often
returns-in_err-count-clause-often g c = λ is lines tally.
    let texts = c.args.self.now.catalog.texts in
    let block = lines_in c.args.block.now in
    let texts' = c.enter.new.self.texts in
    let counts' = c.pad.new.counts.items in
    let places = c.in_ok-places.places.items in
    let often : (q : ℕ) × Contains places q × (q < length counts'
    → 2 ^ 64 ≤ slice_index counts' q + count_by (λ place. place == q) places)
    = subst (λ places. (q : ℕ) × Contains places q × (q < length counts'
    → 2 ^ 64 ≤ slice_index counts' q + count_by (λ place. place == q) places))
    c.as_slice.ensures.value c.in_err-count.ensures.often in
    tally-often lines texts block texts' c.args.self.now.counts.items counts' places tally
    c.in_ok-places.ensures.lines c.in_ok-places.ensures.places
    (c.in_ok-pad.ensures.many ∙ c.len-many.ensures) often.0 often.1
    (c.in_ok-pad.ensures.same often.0) often.2
