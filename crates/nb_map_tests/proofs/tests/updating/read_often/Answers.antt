use Rattle.std.proofs.Common.{◌∙◌, [], refl, arith}
use Rattle.nb_map.proofs.Theorems.{logs_add_up}
use Rattle.nb_map_tests.proofs.tests.updating.read_often.Goals as goal

-- no call was made yet
pub loop-round-init : goal.loop-round-init
loop-round-init c =
    (record { map = refl; reserve = refl }, [], refl, logs_add_up.none c.known.ensures.own)

-- one more
pub loop-round-preserved : goal.loop-round-preserved
loop-round-preserved c =
    let sofar = c.loop-round.invariant in (
      record {
        map = c.get.ensures.rest.map ∙ sofar.0.map;
        reserve = c.get.ensures.rest.reserve ∙ sofar.0.reserve;
      },
      _,
      omega (arith, sofar.2),
      logs_add_up.more sofar.3 c.get.ensures.got.replied,
    )
