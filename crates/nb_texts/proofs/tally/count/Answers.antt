use Rattle.std.proofs.Common.{◌≡◌, ◌∙◌, ◌<◌, arith, get_or, length, rules, sym}
use Rattle.std.specs.Prelude.{slice_index}
use Rattle.std.proofs.lemmas.Grind.{common_steps}
use Rattle.std.proofs.lemmas.List.{get_or_default}
use Rattle.nb_texts.proofs.TallyLemmas.{past-count}
use Rattle.nb_texts.proofs.tally.count.Goals as goal

pub returns-then-index-clause-often : goal.returns-then-index-clause-often
returns-then-index-clause-often c =
    let now = c.loop-place in
    let places = c.args.places.now in
    let q = get_or places now.place-index 0 in
    let within : q < length now.counts.items
    = first_of (omega (arith, c.if-place-len.false, c.len.ensures), search rules, grind (arith, common_steps)) in
    let most : slice_index now.counts.items q ≡ 18446744073709551615
    = sym (get_or_default now.counts.items q c.index.result.now 0 within) ∙ sym c.index.ensures
    ∙ c.if-index.true in
    past-count c.args.counts.now.items now.counts.items places now.place-index c.loop-place-test.true
    now.invariant.0 now.invariant.1 most
