use Rattle.std.proofs.Common.{◌≡◌, ◌-◌}
use Rattle.nb_core.specs.Meaning.{shown_from}
use Rattle.nb_core.specs.Plans.{generations_of}
use Rattle.nb_table.specs.Left.{tables_left}
use Rattle.nb_table.proofs.closed.Closed.shown.Given as goal

-- the tables from here on show what all of them do
abbrev pub invariant-loop-g : goal.invariant-loop-g
invariant-loop-g l =
    let p = l.self.shape in let t = tables_left l.self in
    shown_from p t l.key 0 (generations_of p) ≡ shown_from p t l.key l.g (generations_of p - l.g)
