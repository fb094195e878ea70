use Rattle.std.proofs.Common.{Bor}
use Rattle.nb_script.specs.Script.{Bytes}
use Rattle.nb_runner.proofs.Saying.{more-said, next-failed, texts-at}
use Rattle.nb_runner.proofs.output.say_all.Goals as goal

abbrev text : Bor Bytes → Bytes
text piece = piece.now

pub loop-piece-preserved : goal.loop-piece-preserved
loop-piece-preserved g c =
    more-said c.loop-piece.invariant c.in_ok-say.ensures
    (texts-at text c.args.pieces.now c.loop-piece.piece-index _ c.loop-piece-test.true)

pub returns-in_err-say : goal.returns-in_err-say
returns-in_err-say g c =
    next-failed _ c.from_residual.result c.loop-piece.invariant c.in_err-say.ensures
    (texts-at text c.args.pieces.now c.loop-piece.piece-index _ c.loop-piece-test.true)
    c.from_residual.ensures.0
