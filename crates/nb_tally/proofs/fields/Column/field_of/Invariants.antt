use Rattle.std.proofs.Common.{◌≡◌, ◌≤◌, ◌-◌, [], get_or, length}
use Rattle.nb_tally.specs.Fields.{field, fields}
use Rattle.nb_tally.proofs.fields.Column.field_of.Given as goal

abbrev pub invariant-loop-number : goal.invariant-loop-number
invariant-loop-number l =
    (get_or (fields l.self.delimiter l.rest) (l.number - 1) [] ≡ field l.self l.line)
    × (length l.rest ≤ length l.line)

abbrev pub decreases-loop-number : goal.decreases-loop-number
decreases-loop-number l = l.number
