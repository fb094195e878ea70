use Rattle.std.proofs.Common.{◌∙◌, [], ap, sym, rules}
use Rattle.std.proofs.lemmas.Result.{IfErr-weaker, on_ok_weaker}
use Rattle.nb_script.specs.Reading.{with_texts}
use Rattle.nb_script.proofs.Reading.{first_along, lines_of-end}
use Rattle.nb_script.proofs.reader.Lines.end_text.Goals as goal

pub returns-clause-ok : goal.returns-clause-ok
returns-clause-ok c =
    on_ok_weaker c.end_line.result (λ same. same []
    ∙ ap (with_texts c.args.self.now)
    (sym (lines_of-end c.args.self.now.partial.items c.args.self.now.one_line (search rules))))
    c.end_line.ensures.ok

pub returns-clause-fault : goal.returns-clause-fault
returns-clause-fault c =
    IfErr-weaker c.end_line.result _ _ (λ fault first.
    first_along _ _ (λ more. []) (λ more. ap (with_texts c.args.self.now)
    (lines_of-end c.args.self.now.partial.items c.args.self.now.one_line (search rules)))
    fault first) c.end_line.ensures.fault
