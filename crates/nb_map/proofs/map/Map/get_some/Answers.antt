use Rattle.std.proofs.Common.{◌≡◌, arith, length-set, subst, take}
use Rattle.nb_map.specs.Bulk.{HasGotAll}
use Rattle.nb_map.proofs.Batched.{got-next}
use Rattle.nb_map.proofs.map.Map.get_some.Goals as goal

pub loop-i-init : goal.loop-i-init
loop-i-init c =
    record { own = c.requires.own; room = c.requires.room; got = λ before looks got. got }

pub loop-i-preserved : goal.loop-i-preserved
loop-i-preserved c =
    let sofar = c.loop-i.invariant in
    record {
      own = c.get.ensures.own;
      room = omega (arith, sofar.room, length-set c.loop-i.found c.loop-i.i c.get.result);
      got = λ before looks got.
          got-next c.args.keys.now c.loop-i.found c.loop-i.i c.index-keys-i.result c.get.result
          (sofar.got before looks got) (omega arith) sofar.room c.index-keys-i.is c.get.ensures;
    }

pub returns : goal.returns
returns c =
    let all : c.loop-i.i ≡ c.args.end =
    omega (arith, c.requires.order, c.loop-i.auto.i-end, c.loop-i-test.false) in
    record {
      got = λ before looks got.
          subst (λ i. HasGotAll c.args.self.now before (take i c.args.keys.now)
          (take i c.loop-i.found) looks c.loop-i.seat) all (c.loop-i.invariant.got before looks got);
      room = c.loop-i.invariant.room;
      own = c.loop-i.invariant.own;
    }
