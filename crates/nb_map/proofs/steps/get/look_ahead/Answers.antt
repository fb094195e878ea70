use Rattle.std.proofs.Common.{◌<◌, refl, subst, sym}
use Rattle.nb_core.specs.declared.calls.Call.TheVariants as call
use Rattle.nb_core.specs.Plans.{generations_of}
use Rattle.nb_map.proofs.OnPath.{slot-of_path}
use Rattle.nb_map.proofs.Straight.{at-known}
use Rattle.nb_map.proofs.steps.get.look_ahead.Goals as goal
use Rattle.nb_table.proofs.Theorems.{steps_add_up}

pub loop-key-init : goal.loop-key-init
loop-key-init c = steps_add_up.none c.requires.own

pub path-requires : goal.path-requires
path-requires c =
    let known = c.known_top-known.result in
    subst (λ p. known < generations_of p) (sym c.shape.ensures)
    (at-known c.args.chain.now known c.requires.own c.known_top-known.ensures (call.Get 0)).table

pub load_key_word_at-requires-clause-own : goal.load_key_word_at-requires-clause-own
load_key_word_at-requires-clause-own c = steps_add_up.own c.requires.own c.loop-key.invariant

pub load_key_word_at-requires-clause-slot : goal.load_key_word_at-requires-clause-slot
load_key_word_at-requires-clause-slot c =
    (slot-of_path c.shape.ensures refl c.path.ensures c.slot-home.ensures).placed

pub loop-key-preserved : goal.loop-key-preserved
loop-key-preserved c =
    steps_add_up.more c.loop-key.invariant (steps_add_up.one c.load_key_word_at.ensures.grows)
