use Rattle.std.proofs.Common.{◌≡◌, ◌∙◌, ◌<◌, Err, ap, arith, length, rules}
use Rattle.std.proofs.lemmas.Grind.{common_steps}
use Rattle.nb_lines.specs.declared.faults.ProgramFault.TheVariants as fault
use Rattle.nb_texts.specs.Lines.{lines_in, with_new_lines}
use Rattle.nb_texts.proofs.forgetting.catalog_of.Goals as goal

pub returns-clause-lines : goal.returns-clause-lines
returns-clause-lines g c =
    c.in_ok-enter.ensures.lines
    ∙ ap (λ known. with_new_lines known (lines_in c.args.text.now)) c.in_ok-catalog.ensures.empty

pub returns-in_err-enter-clause-full : goal.returns-in_err-enter-clause-full
returns-in_err-enter-clause-full g c =
    let opened = c.in_ok-catalog.catalog in
    let lines = lines_in c.args.text.now in
    let told : c.from_residual-in_err-enter.result ≡ Err fault.FullOfLines
    → opened.room < length (with_new_lines opened.texts lines) = first_of (search rules, grind (arith, common_steps)) in
    let same = ap (λ known. length (with_new_lines known lines)) c.in_ok-catalog.ensures.empty in
    λ is. omega (arith, told is, same, c.in_ok-catalog.ensures.room)
