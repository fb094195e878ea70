use Rattle.std.proofs.Common.{◌≡◌, ◌++◌}
use Rattle.nb_core.proofs.plain.PlainMap.entries.Given as goal

-- the entries so far, and those that are left, are all
abbrev pub invariant-loop-key : goal.invariant-loop-key
invariant-loop-key l = l.entries.items ++ l.key-iterator ≡ l.initial.key-iterator
