use Rattle.std.proofs.Common.{arith}
use Rattle.std.proofs.lemmas.Result.{err_from_is_err_and}
use Rattle.nb_map.proofs.Updated.{come-all, come-end, come-first, come-more, come-refused}
use Rattle.nb_map.proofs.map.Map.try_update.Goals as goal

pub loop-lost-init : goal.loop-lost-init
loop-lost-init g c = (
  c.requires.callable,
  come-first c.args.new_of c.args.tries c.get-found.result c.requires.own c.get-found.ensures,
)

pub returns-in_err-reply-clause-updated : goal.returns-in_err-reply-clause-updated
returns-in_err-reply-clause-updated g c =
    let p = err_from_is_err_and c.from_residual.result c.from_residual.ensures.1 in
    let exchanged = c.in_err-reply.ensures.exchanged in
    rw (p.1, p.2)
    (come-refused c.requires.own c.loop-lost.invariant.1 exchanged.0 _ exchanged.1
    exchanged.2.own exchanged.2.non_blocking c.in_err-reply.field-0.0 c.loop-lost-test.true
    exchanged.2.answered)

pub returns-then-reply-clause-updated : goal.returns-then-reply-clause-updated
returns-then-reply-clause-updated g c =
    let exchanged = c.in_ok-reply.ensures.exchanged in
    come-end c.requires.own c.loop-lost.invariant.1 exchanged.0 _ exchanged.1
    exchanged.2.own exchanged.2.non_blocking c.in_ok-reply.reply c.loop-lost-test.true
    exchanged.2.answered c.if-reply.true

pub loop-lost-preserved : goal.loop-lost-preserved
loop-lost-preserved g c =
    let exchanged = c.in_ok-reply.ensures.exchanged in (
      c.in_ok-reply.ensures.callable,
      come-more c.requires.own c.loop-lost.invariant.1 exchanged.0 _ exchanged.1
          exchanged.2.own exchanged.2.non_blocking c.in_ok-reply.reply exchanged.2.answered
          c.if-reply.false,
    )

pub returns-clause-updated : goal.returns-clause-updated
returns-clause-updated g c =
    come-all c.requires.own c.loop-lost.invariant.1
    (omega (arith, c.loop-lost-test.false, c.loop-lost.auto._lost-end))
