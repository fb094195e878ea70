use Rattle.std.proofs.Common.{◌≡◌, ◌%◌, ◌^◌}
use Rattle.std.specs.Mem.Slots.{slots_items}
use Rattle.nb_count.specs.Tallies.{sum_of_stripes}
use Rattle.nb_count.proofs.counter.sum_of.Given as goal

abbrev pub invariant-loop-i : goal.invariant-loop-i
invariant-loop-i l = l.sum ≡ sum_of_stripes (slots_items l.closed.words) l.i % 2 ^ 64
