use Rattle.std.proofs.Common.{◌≡◌, ◌++◌, IfOk, rules, subst, sym}
use Rattle.nb_texts.specs.Clues.{AreCluesTo, HasOnlyLooked, HaveOnlyLooked}
use Rattle.nb_texts.specs.Lines.{lines_in}
use Rattle.nb_texts.proofs.ClueLemmas.{both-made, clues-both, zip-append}
use Rattle.nb_texts.proofs.clues.+found.Goals as goal

pub returns-clause-looked : goal.returns-clause-looked
returns-clause-looked g t c =
    let few = c.split_at_mut-few.result.0.now in
    let others = c.split_at_mut-few.result.1.now in
    let front : HaveOnlyLooked few c.few-1.given.0 = search rules in
    let back : HaveOnlyLooked others c.others-1.given.0 = search rules in
    let parts : c.args.readers.now ≡ few ++ others = search rules in
    subst (λ readers. HaveOnlyLooked readers (c.few-1.given.0 ++ c.others-1.given.0)) (sym parts)
    (zip-append HasOnlyLooked few c.few-1.given.0 others c.others-1.given.0 front back)

pub returns-clause-clues : goal.returns-clause-clues
returns-clause-clues g t c =
    let hashing = c.args.hashing in
    let texts = c.args.texts.now in
    let front = lines_in c.split_text.result.0.now in
    let back = lines_in c.split_text.result.1.now in
    let first : IfOk c.join_mut-first.result.0 (λ clues. AreCluesTo hashing texts front clues.items)
    = search rules in
    let second : IfOk c.join_mut-first.result.1 (λ clues. AreCluesTo hashing texts back clues.items)
    = search rules in
    both-made c.join_mut-first.result.0 c.join_mut-first.result.1 c.both.result
    (λ clues. AreCluesTo hashing texts front clues.items)
    (λ clues. AreCluesTo hashing texts back clues.items)
    (λ clues. AreCluesTo hashing texts (lines_in c.args.text.now) clues.items)
    (λ front back clues. clues.items ≡ front.items ++ back.items) c.both.ensures.ok c.both.ensures.clues
    first second
    (λ one two all are too made.
    clues-both hashing texts (lines_in c.args.text.now) front back one.items two.items all.items
    c.split_text.ensures.lines made are too)
