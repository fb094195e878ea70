use Rattle.std.proofs.Common.{drop}
use Rattle.std.specs.List.{flat_map}
use Rattle.nb_runner.proofs.Saying.{SaysOn}
use Rattle.nb_runner.proofs.output.say_all.Given as goal

abbrev pub invariant-loop-piece : goal.invariant-loop-piece
invariant-loop-piece g l =
    SaysOn g.W.Sink.contents g.W.Sink.failed l.fn.writer l.writer l.fn.waiting.items l.waiting.items
    (flat_map (λ piece. piece.now) (drop l.piece-index l.pieces))
    (flat_map (λ piece. piece.now) l.pieces)
