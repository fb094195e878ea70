use Rattle.std.proofs.Common.{◌≡◌, ◌∙◌, ◌+◌, ◌∷◌, ◌++◌, ap, arith, drop, inl, suc, sym, take}
use Rattle.std.proofs.lemmas.Bool.{eq-eqb, eqb-true}
use Rattle.std.proofs.lemmas.List.{take_rest}
use Rattle.std.specs.Prelude.{slice_index}
use Rattle.nb_texts.proofs.LinesLemmas.{cut-at, first-line, only-lines}
use Rattle.nb_texts.specs.Lines.{lines_in}
use Rattle.nb_texts.proofs.lines.split_line.Goals as goal

pub returns-in-Some-clause-line : goal.returns-in-Some-clause-line
returns-in-Some-clause-line c =
    let text = c.args.text.now in
    let end = c.in-Some.end in
    let found = c.in-Some.ensures in
    let next : suc end ≡ end + 1 = omega arith in
    first-line text end found.0.high (eqb-true (slice_index text end) 10 found.1)
    (λ k less is. found.0.before k (omega arith) less (eq-eqb (slice_index text k) 10 is))
    ∙ ap (λ n. take end text ∷ lines_in (drop n text)) next
    ∙ ap (λ rest. take end text ∷ lines_in rest) (sym (take_rest text (end + 1)))

pub returns-in-None-clause-line : goal.returns-in-None-clause-line
returns-in-None-clause-line c =
    let text = c.args.text.now in
    let none = c.in-None.ensures in
    only-lines text c.requires.some
    (λ k less is. none k (omega arith) less (eq-eqb (slice_index text k) 10 is))

pub returns-in-Some-clause-behind : goal.returns-in-Some-clause-behind
returns-in-Some-clause-behind c =
    let text = c.args.text.now in
    let end = c.in-Some.end in
    let found = c.in-Some.ensures in
    inl (cut-at text end found.0.high (eqb-true (slice_index text end) 10 found.1)
    ∙ ap (λ rest. take end text ++ 10 ∷ rest) (sym (take_rest text (end + 1))))
