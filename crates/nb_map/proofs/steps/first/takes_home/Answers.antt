use Rattle.std.proofs.Common.{arith}
use Rattle.nb_table.proofs.Theorems.{steps_add_up}
use Rattle.nb_map.proofs.Claimed.{claimed-empty, dead-empty}
use Rattle.nb_map.proofs.FirstHome.{made-home, made-missed, way-first}
use Rattle.nb_map.proofs.Made.{made-quiet, made-within}
use Rattle.nb_map.specs.NamedCalls.{put_if_absent_of}
use Rattle.nb_map.proofs.steps.first.takes_home.Goals as goal

pub returns-then-not-is_empty-clause-made : goal.returns-then-not-is_empty-clause-made
returns-then-not-is_empty-clause-made c = λ number.
    made-within 1 2 (omega arith)
    (made-quiet c.args.chain.now.shape (put_if_absent_of c.args.key number)
    c.load_key_word_at-word.ensures.grows)

pub claim_key_at-requires-clause-way : goal.claim_key_at-requires-clause-way
claim_key_at-requires-clause-way c =
    way-first c.args.chain.now c.requires.home
    (steps_add_up.own c.requires.own (steps_add_up.one c.load_key_word_at-word.ensures.grows))

pub returns-in-Empty-clause-made : goal.returns-in-Empty-clause-made
returns-in-Empty-clause-made c = λ number.
    made-home c.args.chain.now c.requires.home number c.requires.own
    c.load_key_word_at-word.ensures.grows c.requires.one
    (c.claim_key_at.ensures.won c.in-Empty.is).0

pub returns-in-Claimed-clause-made : goal.returns-in-Claimed-clause-made
returns-in-Claimed-clause-made c = λ number.
    made-missed c.args.chain.now c.requires.home number c.requires.own
    c.load_key_word_at-word.ensures.grows
    (c.claim_key_at.ensures.lost
    (claimed-empty c.claim_key_at.result c.in-Claimed.other c.in-Claimed.is)).0

pub returns-in-Dead-clause-made : goal.returns-in-Dead-clause-made
returns-in-Dead-clause-made c = λ number.
    made-missed c.args.chain.now c.requires.home number c.requires.own
    c.load_key_word_at-word.ensures.grows
    (c.claim_key_at.ensures.lost (dead-empty c.claim_key_at.result c.in-Dead.is)).0
