use Rattle.std.proofs.Common.{◌*◌, ◌+◌, suc, arith}
use Rattle.nb_core.specs.Plans.{size_of}
use Rattle.nb_table.proofs.Theorems.{steps_add_up}
use Rattle.nb_copy.proofs.Copied.{copied-quiet, copied-then, copied-within}
use Rattle.nb_copy.proofs.slots.copy_value.Goals as goal

pub returns-then-is_finished-clause-copied : goal.returns-then-is_finished-clause-copied
returns-then-is_finished-clause-copied c =
    copied-within 1 (2 * size_of c.args.chain.now.shape (suc c.args.g) + 4) (omega arith)
    (copied-quiet c.args.chain.now.shape c.args.g _ _ c.load_value.ensures.grows)

pub prime_value-requires-clause-growing : goal.prime_value-requires-clause-growing
prime_value-requires-clause-growing c =
    (steps_add_up.stays c.requires.own (steps_add_up.one c.load_value.ensures.grows)).installed
    (suc c.args.g) c.requires.growing

pub prime_value-requires-clause-claimed : goal.prime_value-requires-clause-claimed
prime_value-requires-clause-claimed c =
    (steps_add_up.stays c.requires.own (steps_add_up.one c.load_value.ensures.grows)).claimed
    c.args.g c.args.i c.args.key c.requires.slot c.requires.claimed

pub returns-clause-copied : goal.returns-clause-copied
returns-clause-copied c =
    let size = size_of c.args.chain.now.shape (suc c.args.g) in
    copied-within (1 + (2 * size + 3)) (2 * size + 4) (omega arith)
    (copied-then c.args.chain.now c.args.g c.requires.slot.0 c.requires.own
    (copied-quiet c.args.chain.now.shape c.args.g _ _ c.load_value.ensures.grows)
    c.prime_value.ensures.copied)
