use Rattle.std.proofs.Common.{arith, subst₂}
use Rattle.std.proofs.lemmas.List.{take_all}
use Rattle.nb_map.specs.Bulk.{HasGotAll, Start}
use Rattle.nb_map.proofs.Batched.{got-all, got-looked}
use Rattle.nb_map.proofs.Rested.{mine-rested}
use Rattle.nb_map.proofs.map.Map.get_many.Goals as goal

pub loop-done-init : goal.loop-done-init
loop-done-init c =
    record { own = c.requires.own; room = c.requires.room; within = omega arith; got = Start }

pub get_some-requires-clause-own : goal.get_some-requires-clause-own
get_some-requires-clause-own c =
    mine-rested c.loop-done.invariant.own c.look_at.ensures.looked c.look_at.ensures.count

pub loop-done-preserved : goal.loop-done-preserved
loop-done-preserved c =
    let sofar = c.loop-done.invariant in
    record {
      own = c.get_some.ensures.own;
      room = c.get_some.ensures.room;
      within = omega (arith, c.min.ensures, sofar.within);
      got = c.get_some.ensures.got c.args.seat.now _
          (got-looked c.args.keys.now c.loop-done.done c.min.result
          (omega (arith, c.min.ensures, sofar.within)) sofar.got c.look_at.ensures.looked
          c.look_at.ensures.count);
    }

pub returns : goal.returns
returns c =
    let sofar = c.loop-done.invariant in
    got-all c.requires.own
    (subst₂ (λ keys found. HasGotAll c.args.self.now c.args.seat.now keys found c.loop-done.done
    c.loop-done.seat) (take_all c.loop-done.done c.args.keys.now c.loop-done-test.false)
    (take_all c.loop-done.done c.loop-done.found
    (omega (arith, c.loop-done-test.false, sofar.room)))
    sofar.got) sofar.within
