use Rattle.std.proofs.Common.{◌≡◌}
use Rattle.nb_map.specs.Handles.{KeepsRest}
use Rattle.nb_texts.specs.Hashes.{key_for}
use Rattle.nb_texts.proofs.FindingLemmas.{HasTried}
use Rattle.nb_texts.proofs.catalog.enter_line.Given as goal

abbrev pub invariant-loop-tries : goal.invariant-loop-tries
invariant-loop-tries g l =
    KeepsRest l.fn.handle l.handle × (l.texts ≡ l.fn.texts)
    × HasTried l.fn.handle.map.chain.shape (key_for l.fn.hashing l.line) l.fn.handle.seat l.handle.seat
    l.fn.texts l.line l.tries
