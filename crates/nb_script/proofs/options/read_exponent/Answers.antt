use Rattle.std.proofs.Common.{◌∙◌, sym, lit<}
use Rattle.std.proofs.lemmas.Bool.{eqb-false}
use Rattle.nb_script.proofs.TextLemmas.{number_read, number_refused}
use Rattle.nb_script.proofs.options.read_exponent.Goals as goal

pub returns-else-starts_with-clause-some : goal.returns-else-starts_with-clause-some
returns-else-starts_with-clause-some c =
    let plain = eqb-false _ 43 (sym (c.starts_with.ensures.byte (lit< tt) (lit< tt) (λ w o h. h))
    ∙ c.if-starts_with.false) in
    rw c.ok.ensures.value (number_read c.args.part.now plain c.parse.result c.parse.ensures.value.0)

pub returns-else-starts_with-clause-none : goal.returns-else-starts_with-clause-none
returns-else-starts_with-clause-none c =
    let plain = eqb-false _ 43 (sym (c.starts_with.ensures.byte (lit< tt) (lit< tt) (λ w o h. h))
    ∙ c.if-starts_with.false) in
    rw c.ok.ensures.value (number_refused c.args.part.now plain c.parse.result
    c.parse.ensures.value.0)
