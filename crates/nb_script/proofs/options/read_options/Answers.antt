use Rattle.std.proofs.Common.{map, string_bytes}
use Rattle.clap.specs.Words.{app_of, kind_of}
use Rattle.nb_script.proofs.FaultLemmas.{are_given, is_due, is_none_due}
use Rattle.nb_script.proofs.options.read_options.Goals as goal

pub returns-in-Err-clause-fault : goal.returns-in-Err-clause-fault
returns-in-Err-clause-fault c =
    is_due (app_of c.in_ok-command.field-0) _ (kind_of c.in-Err.error)
    c.option_fault.result c.in_ok-command.ensures c.in-Err.ensures.kinds c.option_fault.ensures

pub returns-in_default-clause-fault : goal.returns-in_default-clause-fault
returns-in_default-clause-fault c =
    is_none_due (app_of c.in_ok-command.field-0) (map string_bytes c.args.words.now)
    c.in-Ok.matches c.in_ok-command.ensures c.in-Ok.ensures.kinds c.in-Ok.ensures.matches
    c.in_default.ensures.none

pub returns-clause-given : goal.returns-clause-given
returns-clause-given c =
    are_given (app_of c.in_ok-command.field-0) (map string_bytes c.args.words.now)
    c.in-Ok.matches _ c.in_ok-command.ensures c.in-Ok.ensures.kinds c.in-Ok.ensures.matches
    c.in-Some.ensures.some
