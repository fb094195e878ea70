use Rattle.std.proofs.Common.{◌≡◌, false, length}
use Rattle.nb_texts.specs.Sources.{IsInOneLine}
use Rattle.nb_texts.proofs.TakingLemmas.{IsTaking}
use Rattle.nb_texts.proofs.taking.take_from.Given as goal

abbrev pub invariant-loop : goal.invariant-loop
invariant-loop g l = record {
  way :
      IsTaking (g.I.Read.remaining l.fn.reader) (g.I.Read.remaining l.reader)
      (g.T.TakesLines.has_taken (length l.fn.source.room.items) l.fn.taker l.now) l.taken.lines l.source.rest.items;
  part : l.taken.is_whole ≡ false;
  rest : IsInOneLine l.source.rest.items;
  room : length l.source.room.items ≡ (length l.fn.source.room.items);
}
