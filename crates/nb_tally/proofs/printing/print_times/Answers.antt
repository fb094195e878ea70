use Rattle.std.proofs.Common.{rules}
use Rattle.nb_tally.proofs.PrintedLemmas.{column-printed}
use Rattle.nb_tally.proofs.printing.print_times.Goals as goal

pub returns : goal.returns
returns g c =
    column-printed c.write_all-3.result _ _ _ _ c.args.times c.min.result c.as_bytes.result.now
    (search rules) (search rules) c.in_ok-write_all.ensures.bytes c.in_ok-write_all-2.ensures.bytes
    c.write_all-3.ensures.bytes
