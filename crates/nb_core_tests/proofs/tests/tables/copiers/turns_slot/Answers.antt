use Rattle.nb_table.proofs.Theorems.{steps_add_up}
use Rattle.nb_core_tests.proofs.tests.tables.copiers.turns_slot.Goals as goal

pub returns-then-counted : goal.returns-then-counted
returns-then-counted c =
    let copied = c.copy_and_count.ensures.copied.grown in
    let lasting = steps_add_up.stays c.requires.own copied in
    record {
      own = steps_add_up.own c.requires.own copied;
      growing = lasting.installed 1 c.requires.growing;
    }

pub returns : goal.returns
returns c =
    let copied = c.copy_slot.ensures.copied.grown in
    let lasting = steps_add_up.stays c.requires.own copied in
    record {
      own = steps_add_up.own c.requires.own copied;
      growing = lasting.installed 1 c.requires.growing;
    }
