use Rattle.std.proofs.Common.{◌≡◌, ◌≤◌, length, vec_capacity}
use Rattle.nb_map.specs.Handles.{IsSameMap}
use Rattle.nb_texts.specs.Clues.{ArePartedFrom}
use Rattle.nb_texts.proofs.catalog.split_readers.Given as goal

abbrev pub invariant-loop : goal.invariant-loop
invariant-loop l = record {
  map : IsSameMap l.fn.handle l.handle;
  seat : l.handle.seat ≡ l.fn.handle.seat;
  parted : ArePartedFrom l.fn.handle l.handle l.readers.items;
  many : length l.readers.items ≡ l.counter;
  room : l.count ≤ vec_capacity l.readers;
}
