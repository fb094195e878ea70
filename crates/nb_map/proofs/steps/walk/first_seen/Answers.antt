use Rattle.std.proofs.Common.{◌≡◌, ◌∙◌, ℕ, ◌+◌, [], arith}
use Rattle.std.proofs.Math.Nat.{le_refl}
use Rattle.nb_core.specs.Tables.{HasSlot}
use Rattle.nb_core.specs.declared.calls.Call.TheVariants as call
use Rattle.nb_core.specs.declared.states.KeyState.TheVariants.{Claimed}
use Rattle.nb_table.specs.Chains.{IsOwn, seen_by}
use Rattle.nb_map.specs.Calling.{HasMade}
use Rattle.nb_map.specs.Steps.{slots_below}
use Rattle.nb_map.proofs.Earlier.{away-placed, earlier-placed, earlier-reached, unclaimed-placed}
use Rattle.nb_map.proofs.Made.{made-more, made-own, made-quiet, made-stays, made-within}
use Rattle.nb_map.proofs.Walked.{first-still, made-as}
use Rattle.nb_map.proofs.steps.walk.first_seen.Goals as goal
use Rattle.nb_map.proofs.steps.walk.first_seen.Goals.{After-is_earlier}

-- the load of the slot's key
looked :
    (c : After-is_earlier) (k : ℕ) → HasMade c.args.chain.now.shape (call.Get k)
    c.args.seat.now c.load_key.new.seat [] 1
looked c k = made-quiet c.args.chain.now.shape (call.Get k) c.load_key.ensures.grows

own-then : (c : After-is_earlier) → IsOwn c.args.chain.now c.load_key.new.seat
own-then c = made-own c.args.chain.now c.requires.own (looked c 0)

own-after : (c : After-is_earlier) → IsOwn c.args.chain.now c.is_earlier.new.seat
own-after c = made-own c.args.chain.now (own-then c) c.is_earlier.ensures.made

-- the key is the slot's still
claimed :
    (c : After-is_earlier) → (seen_by c.args.chain.now.shape c.is_earlier.new.seat).key c.args.g
    c.args.i ≡ Claimed c.in-Claimed.key
claimed c =
    (made-stays c.args.chain.now (own-then c) c.is_earlier.ensures.made).claimed c.args.g c.args.i
    c.in-Claimed.key c.requires.slot
    (c.load_key.ensures.found ∙ c.in-Claimed.is)

made :
    (c : After-is_earlier) (k : ℕ) → HasMade c.args.chain.now.shape (call.Get k)
    c.args.seat.now c.is_earlier.new.seat []
    (1 + slots_below c.args.chain.now.shape c.args.g)
made c k =
    made-more c.args.chain.now c.requires.own (looked c k)
    (made-as c.args.chain.now c.in-Claimed.key k c.is_earlier.ensures.made)

pub is_earlier-requires-clause-first : goal.is_earlier-requires-clause-first
is_earlier-requires-clause-first c =
    let chain = c.args.chain.now in
    first-still chain c.requires.own c.requires.first
    (made-quiet chain.shape (call.Get 0) c.load_key.ensures.grows)

pub returns-then-is_earlier-clause-made : goal.returns-then-is_earlier-clause-made
returns-then-is_earlier-clause-made c = made
    (goal.at.returns-then-is_earlier-clause-made c).After-is_earlier

pub returns-then-is_earlier-clause-first : goal.returns-then-is_earlier-clause-first
returns-then-is_earlier-clause-first c =
    let at = (goal.at.returns-then-is_earlier-clause-first c).After-is_earlier in
    earlier-placed c.args.chain.now c.is_earlier.new.seat (own-after at)
    c.args.first c.args.g c.args.i c.in-Claimed.key (claimed at)
    c.if-is_earlier.ensures.earlier

pub returns-else-is_earlier-clause-made : goal.returns-else-is_earlier-clause-made
returns-else-is_earlier-clause-made c = made
    (goal.at.returns-else-is_earlier-clause-made c).After-is_earlier

pub returns-else-is_earlier-clause-first : goal.returns-else-is_earlier-clause-first
returns-else-is_earlier-clause-first c =
    let chain = c.args.chain.now in
    let at = (goal.at.returns-else-is_earlier-clause-first c).After-is_earlier in
    let own = own-after at in
    let has : HasSlot chain.shape (seen_by chain.shape c.is_earlier.new.seat)
    c.args.g c.in-Claimed.key
    = record { slot = c.args.i; in_table = c.requires.slot.1; is = claimed at } in
    let away = c.if-is_earlier.ensures.earlier in (
      away-placed chain c.is_earlier.new.seat own c.args.first c.args.g c.args.i c.in-Claimed.key
          c.requires.behind c.requires.slot (claimed at) away,
      earlier-reached chain c.is_earlier.new.seat own c.args.first c.args.g c.in-Claimed.key
          (first-still chain (own-then at)
          (first-still chain c.requires.own c.requires.first (looked at 0))
          c.is_earlier.ensures.made) c.requires.slot.0 has c.args.g
          (le_refl c.args.g) away,
    )

pub returns-in_default : goal.returns-in_default
returns-in_default c =
    let chain = c.args.chain.now in
    let looked = λ (k : ℕ). made-quiet chain.shape (call.Get k) c.load_key.ensures.grows in
    record {
      made = λ k. made-within 1 (1 + slots_below chain.shape c.args.g) (omega arith) (looked k);
      first = unclaimed-placed chain c.load_key.new.seat (made-own chain c.requires.own (looked 0))
          c.args.first c.args.g c.args.i c.load_key.result
          c.load_key.ensures.found c.in_default.not-Claimed;
    }
