use Rattle.std.proofs.Common.{◌≡◌, suc, add-one, subst, sym, arith}
use Rattle.nb_core.specs.Tables.{IsInstalled}
use Rattle.nb_table.specs.Chains.{seen_by}
use Rattle.nb_table.proofs.Theorems.{steps_add_up}
use Rattle.nb_copy.proofs.SlotsInNext.{claim-way, claimed-next, two-quiet}
use Rattle.nb_copy.proofs.Copied.{copied-quiet, copied-within}
use Rattle.nb_copy.proofs.slots.key_or_claim.Goals as goal

pub claim_key-requires-clause-installed : goal.claim_key-requires-clause-installed
claim_key-requires-clause-installed c =
    let lasting = steps_add_up.stays c.requires.own (steps_add_up.one c.load_key.ensures.grows) in
    subst (IsInstalled (seen_by c.args.chain.now.shape c.load_key.new.seat))
    (sym (add-one c.args.g)) (lasting.installed (suc c.args.g) c.requires.growing)

pub claim_key-requires-clause-way : goal.claim_key-requires-clause-way
claim_key-requires-clause-way c =
    let lasting = steps_add_up.stays c.requires.own (steps_add_up.one c.load_key.ensures.grows) in
    claim-way _ _ _ lasting c.args.g _ _ _ (add-one c.args.g)
    c.requires.slot.0 c.requires.below c.requires.on_path

pub returns-in-Empty-claim_key-clause-copied : goal.returns-in-Empty-claim_key-clause-copied
returns-in-Empty-claim_key-clause-copied c =
    let won = c.claim_key.ensures.won c.in-Empty-claim_key.is in
    claimed-next c.args.chain.now c.args.g (omega (arith, c.requires.slot.0))
    _ _ _ _ (add-one c.args.g) c.requires.own c.requires.below c.load_key.ensures.grows won.0

pub returns-in_default-claim_key : goal.returns-in_default-claim_key
returns-in_default-claim_key c =
    let lost = c.claim_key.ensures.lost c.in_default-claim_key.not-Empty in
    record {
      copied = two-quiet c.args.chain.now c.args.g (omega (arith, c.requires.slot.0))
          c.requires.own c.load_key.ensures.grows lost.0;
      found = subst (λ f. (seen_by c.args.chain.now.shape c.claim_key.new.seat).key f c.args.j
          ≡ c.claim_key.result) (add-one c.args.g) lost.1;
      some = c.in_default-claim_key.not-Empty;
    }

pub returns-in_default : goal.returns-in_default
returns-in_default c = record {
  copied = copied-within 1 2 (omega arith)
      (copied-quiet c.args.chain.now.shape c.args.g _ _ c.load_key.ensures.grows);
  found = subst (λ f. (seen_by c.args.chain.now.shape c.load_key.new.seat).key f c.args.j
      ≡ c.load_key.result) (add-one c.args.g) c.load_key.ensures.found;
  some = c.in_default.not-Empty;
}
