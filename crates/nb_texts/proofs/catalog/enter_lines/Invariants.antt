use Rattle.std.proofs.Common.{drop}
use Rattle.nb_map.specs.Handles.{KeepsRest}
use Rattle.nb_texts.specs.Lines.{lines_in}
use Rattle.nb_texts.proofs.ClueLemmas.{HasEnteredSoFar}
use Rattle.nb_texts.proofs.catalog.enter_lines.Given as goal

abbrev pub invariant-loop-clue : goal.invariant-loop-clue
invariant-loop-clue g l = record {
  kept : KeepsRest l.fn.handle l.handle;
  so_far :
      HasEnteredSoFar l.fn.handle.map.chain.shape l.hashing l.fn.handle.seat l.handle.seat l.fn.texts
      l.texts (lines_in l.fn.block) (lines_in l.rest) (drop l.clue-index l.clues) l.places.items;
}
