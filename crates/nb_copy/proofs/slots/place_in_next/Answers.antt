use Rattle.std.proofs.Common.{◌∙◌, ◌≢◌, ◌<◌, ◌≡◌, suc, ap, below_more, inl, inr, sym, arith, rules}
use Rattle.std.proofs.lemmas.Bool.{eqb-false}
use Rattle.nb_core.specs.Plans.{generations_of, size_of}
use Rattle.nb_core.specs.Tables.{IsOther, path_slot}
use Rattle.nb_table.specs.Chains.{seen_by}
use Rattle.nb_copy.proofs.Copied.{copied-none, copied-own, copied-stays}
use Rattle.nb_copy.proofs.SlotsInNext.{looked-last, looked-on, passed-dead}
use Rattle.nb_copy.proofs.slots.place_in_next.Goals as goal

pub loop-distance-init : goal.loop-distance-init
loop-distance-init c = (
  copied-none c.args.chain.now c.args.g c.args.seat.now c.requires.own,
  λ e below. absurd (omega (arith, below)),
)

pub key_or_claim-requires-clause-growing : goal.key_or_claim-requires-clause-growing
key_or_claim-requires-clause-growing c =
    let lasting = copied-stays c.args.chain.now c.args.g (omega (arith, c.requires.table))
    c.requires.own c.loop-distance.invariant.0 in
    lasting.installed (suc c.args.g) c.requires.growing

pub key_or_claim-requires-clause-below : goal.key_or_claim-requires-clause-below
key_or_claim-requires-clause-below c =
    let lasting = copied-stays c.args.chain.now c.args.g (omega (arith, c.requires.table))
    c.requires.own c.loop-distance.invariant.0 in
    lasting.has_slot c.args.g c.args.key (omega (arith, c.requires.table)) c.requires.below

pub returns-then-eq-clause-copied : goal.returns-then-eq-clause-copied
returns-then-eq-clause-copied c =
    looked-last c.args.chain.now c.args.g (omega (arith, c.requires.table))
    c.loop-distance.distance _
    (search rules) c.requires.own c.loop-distance.invariant.0 c.key_or_claim.ensures.copied

pub returns-in-Empty : goal.returns-in-Empty
returns-in-Empty c =
    let shape = c.args.chain.now.shape in
    let table : c.args.g < generations_of shape = omega (arith, c.requires.table) in
    let near : c.loop-distance.distance < size_of shape (suc c.args.g) = search rules in
    let at : path_slot shape (suc c.args.g) c.args.key c.loop-distance.distance
    ≡ c.path_slot-j.result = search rules in
    let so_far = c.loop-distance.invariant in
    let look = c.key_or_claim.ensures in
    elim c.in-Empty.is [
      | inl empty ↦ absurd (look.some empty)
      | inr dead ↦
          let own = copied-own c.args.chain.now c.args.g table c.requires.own so_far.0 in
          let lasting = copied-stays c.args.chain.now c.args.g table own look.copied in
          record {
            copied = looked-last c.args.chain.now c.args.g table c.loop-distance.distance _ near
                c.requires.own so_far.0 look.copied;
            found = tt;
            passed = passed-dead shape _ _ lasting (suc c.args.g)
                c.args.key c.loop-distance.distance _ c.requires.table near so_far.1 at
                (look.found ∙ dead);
          }
    ]

pub loop-distance-preserved : goal.loop-distance-preserved
loop-distance-preserved c =
    let shape = c.args.chain.now.shape in
    let table : c.args.g < generations_of shape = omega (arith, c.requires.table) in
    let at : path_slot shape (suc c.args.g) c.args.key c.loop-distance.distance
    ≡ c.path_slot-j.result = search rules in
    let so_far = c.loop-distance.invariant in
    let look = c.key_or_claim.ensures in
    let own = copied-own c.args.chain.now c.args.g table c.requires.own so_far.0 in
    let lasting = copied-stays c.args.chain.now c.args.g table own look.copied in
    let keys = (seen_by c.args.chain.now.shape c.key_or_claim.new.seat).key (suc c.args.g) in
    let differs : c.in-Claimed.other ≢ c.args.key =
    eqb-false c.in-Claimed.other c.args.key (sym c.eq.ensures ∙ c.if-eq.false) in (
      looked-on c.args.chain.now c.args.g table c.loop-distance.distance c.requires.own so_far.0
          look.copied,
      below_more (λ e. IsOther (keys (path_slot shape (suc c.args.g) c.args.key e)) c.args.key)
          c.loop-distance.distance
          (lasting.others (suc c.args.g) c.args.key c.loop-distance.distance c.requires.table
          so_far.1)
          (record {
            other = c.in-Claimed.other;
            is = ap keys at ∙ (look.found ∙ c.in-Claimed.is);
            differs = differs;
          }),
    )
