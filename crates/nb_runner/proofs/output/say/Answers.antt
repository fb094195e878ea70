use Rattle.std.proofs.Common.{◌≡◌, ◌∙◌, ap, subst, rules}
use Rattle.nb_runner.specs.Output.{HasSaid}
use Rattle.nb_runner.proofs.Saying.{part-failed, said-both, written}
use Rattle.nb_runner.proofs.output.say.Goals as goal

pub returns-in_err-flush : goal.returns-in_err-flush
returns-in_err-flush g c =
    let kept : c.try_extend_from_slice.new.self.items ≡ c.args.waiting.now.items = search rules in
    subst (λ waiting. HasSaid g.W.Sink.contents g.W.Sink.failed c.args.writer.now c.flush.new.writer
    waiting c.flush.new.waiting.items c.args.bytes.now c.from_residual.result) kept
    (part-failed c.args.bytes.now c.from_residual.result c.in_err-flush.ensures.flushed
    c.from_residual.ensures.0)

pub returns-in-Err : goal.returns-in-Err
returns-in-Err g c =
    let kept : c.try_extend_from_slice.new.self.items ≡ c.args.waiting.now.items = search rules in
    let empty = c.in_ok-flush.ensures.empty in
    subst (λ waiting. HasSaid g.W.Sink.contents g.W.Sink.failed c.args.writer.now
    c.write_all.new.writer waiting c.try_extend_from_slice-2.new.self.items c.args.bytes.now
    c.write_all.result) kept
    (said-both c.in_ok-flush.ensures.flushed
    (written c.write_all.result empty (ap (λ v. v.items) c.in-Err.ensures.err ∙ empty)
    c.write_all.ensures.written c.write_all.ensures.begun c.write_all.ensures.marks))
