use Rattle.std.proofs.Common.{◌∙◌, ap₂}
use Rattle.nb_core.specs.declared.calls.Call.TheVariants.{Write}
use Rattle.nb_migration.specs.Writes.{answer_or_fault}
use Rattle.nb_migration.proofs.OpenWrites.{exchange-open}
use Rattle.nb_migration.proofs.writes.exchange.Goals as goal

pub returns-clause-wrote : goal.returns-clause-wrote
returns-clause-wrote c = record {
  only_open = exchange-open c.args.key c.args.old.now c.args.new.now c.requires.old_user
      c.requires.new_user;
  found = c.find-found.result;
  written = c.find-found.ensures.wrote;
  answered = c.answer_or_fault.ensures c.args.key
      ∙ ap₂ (λ want change. answer_or_fault (Write c.args.key want change) c.find-found.result)
      c.want_of.ensures c.change_to.ensures;
}
