use Rattle.std.proofs.Common.{suc, arith}
use Rattle.nb_table.proofs.Theorems.{steps_add_up}
use Rattle.nb_copy.proofs.Copied.{copied-quiet, copied-then, copied-within}
use Rattle.nb_copy.proofs.SlotsFinished.{copied-kill}
use Rattle.nb_copy.proofs.slots.key_or_close.Goals as goal

pub kill_key-requires-clause-growing : goal.kill_key-requires-clause-growing
kill_key-requires-clause-growing c =
    (steps_add_up.stays c.requires.own (steps_add_up.one c.load_key.ensures.grows)).installed
    (suc c.args.g) c.requires.growing

pub returns-in-Empty : goal.returns-in-Empty
returns-in-Empty c =
    let chain = c.args.chain.now in
    let load = copied-quiet chain.shape c.args.g _ _ c.load_key.ensures.grows in
    record {
      closed = λ empty.
          let won = c.kill_key.ensures.won empty in (
            copied-then chain c.args.g c.requires.slot.0 c.requires.own load
                (copied-kill chain c.args.g c.requires.slot.0 _ c.args.i won.0),
            won.1,
          );
      found = λ some.
          let lost = c.kill_key.ensures.lost some in (
            copied-then chain c.args.g c.requires.slot.0 c.requires.own load
                (copied-quiet chain.shape c.args.g _ _ lost.0),
            lost.1,
          );
    }

pub returns-in_default : goal.returns-in_default
returns-in_default c = record {
  closed = λ empty. absurd (c.in_default.not-Empty empty);
  found = λ some. (
    copied-within 1 2 (omega arith) (copied-quiet c.args.chain.now.shape c.args.g _ _
        c.load_key.ensures.grows),
    c.load_key.ensures.found,
  );
}
