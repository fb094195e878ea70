use Rattle.std.proofs.Common.{◌≡◌, ◌/◌, ◌<◌, ap, arith, length, rules, subst, sym}
use Rattle.std.proofs.lemmas.Bool.Decides.{nat_tests}
use Rattle.std.proofs.lemmas.Grind.{common_steps}
use Rattle.std.proofs.lemmas.List.{get_or_read}
use Rattle.std.specs.List.Sorted.{IsPermutation}
use Rattle.nb_texts.proofs.MiddleLemmas.{middle-of}
use Rattle.nb_texts.specs.Forgetting.{IsMiddle}
use Rattle.nb_texts.proofs.forgetting.middle_of.Goals as goal

pub returns : goal.returns
returns c =
    let counts = c.args.counts.now in
    let sorted = c.sort_unstable.new.self.items in
    let place = c.len.result / 2 in
    let same : IsPermutation counts sorted
    = subst (λ counts. IsPermutation counts sorted) c.in_ok-sorted.ensures.items
    c.sort_unstable.ensures.permutation in
    let some : 0 < length sorted = grind (arith, nat_tests, common_steps, c.is_empty.ensures) in
    let at : place ≡ length sorted / 2 = ap (λ n. n / 2) (search rules) in
    let less : place < length sorted = omega (arith, some, at) in
    subst (IsMiddle counts) (sym (get_or_read sorted place c.index.result.now less c.index.ensures 0))
    (middle-of counts sorted place same c.sort_unstable.ensures.sorted at some)
