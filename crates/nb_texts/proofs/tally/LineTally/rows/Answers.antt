use Rattle.std.proofs.Common.{◌≡◌, ◌+◌, ◌<◌, ap, arith, get_or, length, refl, subst, sym, take}
use Rattle.nb_texts.proofs.RowsLemmas.{rows-more}
use Rattle.nb_texts.specs.Rows.{AreRowsOf}
use Rattle.nb_texts.specs.declared.tally.Row.{Row}
use Rattle.nb_texts.proofs.tally.LineTally.rows.Goals as goal

pub loop-place-preserved : goal.loop-place-preserved
loop-place-preserved c =
    let texts = c.args.self.now.catalog.texts in
    let counts = c.args.self.now.counts.items in
    let n = c.loop-place.place in
    let listed = c.deref-times-items.ensures.value in
    let row : Row
    = record { line = c.in-Some.line; times = get_or c.deref-times-items.result.now n 0; place = n } in
    let within : n < length counts
    = subst (λ counts. n < length counts) listed c.loop-place-test.true in
    let less : n < length texts = omega (arith, within, c.requires) in
    let times : get_or counts n 0 ≡ row.times = ap (λ counts. get_or counts n 0) (sym listed) in
    subst (λ rows. AreRowsOf (take (n + 1) texts) (take (n + 1) counts) rows)
    (sym c.in_ok-push.ensures.items)
    (rows-more texts counts c.loop-place.rows.items row n less within c.in-Some.ensures times refl
    c.loop-place.invariant)
