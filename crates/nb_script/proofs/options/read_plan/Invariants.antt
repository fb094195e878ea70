use Rattle.std.proofs.Common.{◌≡◌, ◌≤◌, Some, length, map, take}
use Rattle.nb_script.specs.Options.{numbers_of}
use Rattle.nb_script.proofs.options.read_plan.Given as goal

abbrev pub invariant-loop-part : goal.invariant-loop-part
invariant-loop-part l = record {
  room : length l.exponents ≡ 16;
  within : l.count ≤ 16;
  counted : length l.yielded ≡ l.count;
  read : numbers_of (map (λ part. part.now) l.yielded) ≡ Some (take l.count l.exponents);
}
