use Rattle.std.proofs.Common.{ap, Ok}
use Rattle.nb_script.specs.Script.{lines_from, lines_of}
use Rattle.nb_script.proofs.Reading.{bind_same, joined_nothing}
use Rattle.nb_script.proofs.reader.Lines.new.Goals as goal

pub returns : goal.returns
returns c = λ more. rw (c.new.ensures, c.new-2.ensures.items, c.new-3.ensures.items)
    (bind_same (lines_from c.args.seats 1 (lines_of more)) _ _
    (λ lines. ap Ok (joined_nothing lines)))
