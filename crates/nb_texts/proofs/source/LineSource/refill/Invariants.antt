use Rattle.std.proofs.Common.{◌≡◌, [], length}
use Rattle.nb_texts.specs.Sources.{IsInOneLine}
use Rattle.nb_texts.proofs.SourceLemmas.{HasRead}
use Rattle.nb_texts.proofs.source.LineSource.refill.Given as goal

abbrev pub invariant-loop : goal.invariant-loop
invariant-loop g l =
    (l.self.rest.items ≡ [])
    × HasRead (g.I.Read.remaining l.fn.reader) (g.I.Read.remaining l.reader) l.fn.self.rest.items
    l.self.block.items
    × IsInOneLine l.self.block.items
    × (length l.self.room.items ≡ length l.fn.self.room.items)
