use Rattle.std.proofs.Common.{◌*◌, ◌≡◌, true, false, suc, inl, inr, ap, arith}
use Rattle.nb_core.specs.History.{is_finished_by_priming}
use Rattle.nb_core.specs.Plans.{size_of}
use Rattle.nb_table.proofs.Theorems.{steps_add_up}
use Rattle.nb_copy.proofs.SlotsFinished.{copied-prime, primed-first, primed-last}
use Rattle.nb_copy.proofs.slots.prime_value.Goals as goal

pub copy_number-requires-clause-growing : goal.copy_number-requires-clause-growing
copy_number-requires-clause-growing c =
    let prime = copied-prime c.args.chain.now c.args.g c.requires.slot.0 _ c.args.i c.prime.result
    c.prime.ensures.won c.prime.ensures.lost in
    (steps_add_up.stays c.requires.own prime.grown).installed (suc c.args.g) c.requires.growing

pub copy_number-requires-clause-claimed : goal.copy_number-requires-clause-claimed
copy_number-requires-clause-claimed c =
    let prime = copied-prime c.args.chain.now c.args.g c.requires.slot.0 _ c.args.i c.prime.result
    c.prime.ensures.won c.prime.ensures.lost in
    (steps_add_up.stays c.requires.own prime.grown).claimed c.args.g c.args.i c.args.key
    c.requires.slot c.requires.claimed

pub returns-in-Null-clause-copied : goal.returns-in-Null-clause-copied
returns-in-Null-clause-copied c =
    let prime = copied-prime c.args.chain.now c.args.g c.requires.slot.0 _ c.args.i c.prime.result
    c.prime.ensures.won c.prime.ensures.lost in
    let turned : is_finished_by_priming c.prime.result ≡ true =
    elim c.in-Null.is [
      | inl e ↦ ap is_finished_by_priming e
      | inr e ↦ ap is_finished_by_priming
          e
    ] in
    primed-last c.args.chain.now c.args.g c.requires.slot.0 c.args.i _
    (is_finished_by_priming c.prime.result)
    true turned (omega arith) prime

pub returns-in-PrimedNull-clause-copied : goal.returns-in-PrimedNull-clause-copied
returns-in-PrimedNull-clause-copied c =
    let prime = copied-prime c.args.chain.now c.args.g c.requires.slot.0 _ c.args.i c.prime.result
    c.prime.ensures.won c.prime.ensures.lost in
    let turned : is_finished_by_priming c.prime.result ≡ false = elim c.in-PrimedNull.is [
      | inl e ↦ ap is_finished_by_priming e
      | inr others ↦ elim others [
        | inl e ↦ ap is_finished_by_priming e
        | inr e ↦ ap
            is_finished_by_priming e.1
      ]
    ] in
    primed-last c.args.chain.now c.args.g c.requires.slot.0 c.args.i _
    (is_finished_by_priming c.prime.result)
    false turned (omega arith) prime

pub returns-in-Live-clause-copied : goal.returns-in-Live-clause-copied
returns-in-Live-clause-copied c =
    let prime = copied-prime c.args.chain.now c.args.g c.requires.slot.0 _ c.args.i c.prime.result
    c.prime.ensures.won c.prime.ensures.lost in
    let not_turned : is_finished_by_priming c.prime.result ≡ false =
    elim c.in-Live.is [
      | inl e ↦ ap is_finished_by_priming e
      | inr e ↦ ap is_finished_by_priming
          e
    ] in
    primed-first c.args.chain.now c.args.g c.requires.slot.0 c.args.i
    (2 * size_of c.args.chain.now.shape (suc c.args.g)) (is_finished_by_priming c.prime.result)
    c.requires.own not_turned prime c.copy_number.ensures.copied
