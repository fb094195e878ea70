use Rattle.std.proofs.Common.{List, true, ◌==◌, ◌≡◌, ◌∙◌, ◌+◌, ap, arith, length, length-append, refl, subst, subst₂, sym, vec_capacity, [], ◌∷◌}
use Rattle.std.proofs.lemmas.Bool.{ne_eqb}
use Rattle.std.proofs.lemmas.Bool.Decides.{nat_tests}
use Rattle.nb_map.specs.Maps.{IsMine, SeatOf}
use Rattle.nb_runner.specs.declared.answers.Answer.{Answer}
use Rattle.nb_runner.proofs.OneWorker.{IsRunning, room-other, room-own, running-done, running-more, running-past}
use Rattle.nb_runner.proofs.workers.Worker.run.Goals as goal
use Rattle.nb_runner.proofs.workers.Worker.run.Goals.{then-worker-number, else-worker-number}

pub loop-worker-preserved : goal.loop-worker-preserved
loop-worker-preserved g c =
    let m = c.args.map.now in
    let number = c.args.self.number in
    let phase = c.args.phase.now in
    let i = c.loop-worker.worker-index in
    let Running : List Answer → SeatOf → Type 0 =
    λ items seat. IsRunning m number phase (i + 1)
    c.args.self.answers.items items c.args.self.seat seat in
    let inv = c.loop-worker.invariant in
    let item = c.loop-worker-item in
    elim c.if-worker-number.branch [
      | then-worker-number b ↦
          let same = b.if-worker-number.true in
          let own : (item.result.0 == number) ≡ true = grind (arith, nat_tests, same) in
          let items = ap (λ v. v.items) b.answers-is ∙ b.push_reserved.ensures.items in
          let capacity = ap vec_capacity b.answers-is ∙ b.push_reserved.ensures.capacity in (
            subst (IsMine m) (sym b.seat-is) b.answer_to-answer.ensures.own,
            subst₂ Running (sym items) (sym b.seat-is)
                (running-more m number phase i item.result b.answer_to-answer.result _ _ _ _ _
                c.loop-worker-test.true item.is own
                (b.answer_to-answer.ensures.answered, b.answer_to-answer.ensures.worked) inv.1),
            omega (
              arith,
              inv.2,
              capacity,
              ap length items,
              length-append c.loop-worker.answers.items (b.answer_to-answer.result ∷ []),
              room-own m number phase i item.result c.loop-worker-test.true item.is own,
            ),
            capacity ∙ inv.3,
            omega (arith, inv.4, b.done-is),
          )
      | else-worker-number b ↦
          let other = ne_eqb item.result.0 number b.if-worker-number.false in
          let items = ap (λ v. v.items) b.answers-is in
          let capacity = ap vec_capacity b.answers-is in (
            subst (IsMine m) (sym b.seat-is) inv.0,
            subst₂ Running (sym items) (sym b.seat-is)
                (running-past m number phase i item.result _ _ _ _ c.loop-worker-test.true item.is
                other inv.1),
            omega (
              arith,
              inv.2,
              capacity,
              ap length items,
              room-other m number phase i item.result c.loop-worker-test.true item.is other,
            ),
            capacity ∙ inv.3,
            omega (arith, inv.4, b.done-is),
          )
    ]

pub returns-clause-ran : goal.returns-clause-ran
returns-clause-ran g c = record {
  number = refl;
  answers = c.loop-worker.invariant.1.so_far;
  kept = c.loop-worker.invariant.1.kept;
  room = c.loop-worker.invariant.3;
  answered = running-done _ _ _ _ _ _ _ _ c.loop-worker-test.false c.loop-worker.invariant.1;
}
