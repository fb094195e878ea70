use Rattle.std.proofs.Common.{ap, ap₂, ◌-◌, ◌∙◌}
use Rattle.nb_map.specs.NamedCalls.{add_below_of}
use Rattle.nb_migration.proofs.OpenWrites.{add-open}
use Rattle.nb_migration.proofs.Replied.{from_found, written_open}
use Rattle.nb_migration.specs.declared.numbers.TheConstants.{USER_END}
use Rattle.nb_migration.proofs.writes.add.Goals as goal

pub returns-clause-wrote : goal.returns-clause-wrote
returns-clause-wrote c =
    let call = add_below_of c.args.key in
    let found = c.try_add_below-found in
    let made = call c.plain-number.result c.in_range-limit.result in
    let is = ap₂ call c.plain-number.ensures.number
    (c.in_range-limit.ensures ∙ ap (λ n. USER_END - n) c.get.ensures.number) in
    written_open made made found.result is is
    (add-open c.args.key c.args.number c.plain-number.ensures.in_range)
    (from_found found.result found.ensures.wrote) (c.answer_or_fault.ensures c.args.key)
