use Rattle.std.proofs.Common.{◌*◌, ◌+◌, ◌≢◌, suc, arith}
use Rattle.nb_core.specs.Plans.{size_of}
use Rattle.nb_core.specs.declared.states.KeyState.TheVariants as key_is
use Rattle.nb_copy.proofs.Copied.{copied-stays, copied-then, copied-within}
use Rattle.nb_copy.proofs.slots.copy_slot.Goals as goal

pub copy_value-requires-clause-growing : goal.copy_value-requires-clause-growing
copy_value-requires-clause-growing c =
    let some : c.key_or_close.result ≢ key_is.Empty = λ empty. let is = c.in-Claimed.is in cc in
    let lasting = copied-stays c.args.chain.now c.args.g c.requires.slot.0 c.requires.own
    (c.key_or_close.ensures.found some).0 in
    lasting.installed (suc c.args.g) c.requires.growing

pub returns-in-Claimed-clause-copied : goal.returns-in-Claimed-clause-copied
returns-in-Claimed-clause-copied c =
    let some : c.key_or_close.result ≢ key_is.Empty = λ empty. let is = c.in-Claimed.is in cc in
    let size = size_of c.args.chain.now.shape (suc c.args.g) in
    copied-within (2 + (2 * size + 4)) (2 * size + 6) (omega arith)
    (copied-then c.args.chain.now c.args.g c.requires.slot.0 c.requires.own
    (c.key_or_close.ensures.found some).0
    c.copy_value.ensures.copied)
