use Rattle.std.proofs.Common.{[], sym, subst, arith}
use Rattle.nb_core.specs.declared.calls.Call.{Call}
use Rattle.nb_core.specs.declared.calls.Call.TheVariants.{Get}
use Rattle.nb_table.specs.Chains.{seen_by}
use Rattle.nb_map.proofs.Claimed.{completed-below, first-ready, owed-all}
use Rattle.nb_map.proofs.Made.{made-none, made-own, made-within}
use Rattle.nb_map.proofs.Searched.{table-within}
use Rattle.nb_map.specs.Calling.{HasMade}
use Rattle.nb_map.proofs.steps.claim.make_ready.Goals as goal

pub returns-in-Complete-clause-made : goal.returns-in-Complete-clause-made
returns-in-Complete-clause-made c = λ call.
    made-within 0 _ (omega arith) (made-none c.args.chain.now call c.args.seat.now c.requires.own)

pub returns-then-g-gt0 : goal.returns-then-g-gt0
returns-then-g-gt0 c =
    let p = c.args.chain.now.shape in
    let table = table-within c.args.chain.now c.args.seat.now c.requires.own c.args.g
    c.requires.installed in
    let done = λ (call : Call).
    completed-below call c.args.chain.now c.args.g c.if-g-gt0.true table
    c.complete.ensures.completed in
    let most = owed-all p c.args.g c.args.below c.in_default.not-Complete in
    record {
      made = λ call. subst (λ most. HasMade p call c.args.seat.now c.complete.new.seat [] most)
          (sym most) (done call).0;
      own = made-own c.args.chain.now c.requires.own (done (Get 0)).0;
      ready = (done (Get 0)).1;
    }

pub returns-else-g-gt0 : goal.returns-else-g-gt0
returns-else-g-gt0 c = record {
  made = λ call. made-within 0 _ (omega arith)
      (made-none c.args.chain.now call c.args.seat.now c.requires.own);
  own = c.requires.own;
  ready = first-ready c.args.chain.now.shape (seen_by c.args.chain.now.shape c.args.seat.now)
      c.args.g c.if-g-gt0.false;
}
