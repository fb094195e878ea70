use Rattle.std.proofs.Common.{◌≡◌, ◌∙◌, ◌+◌, ◌-◌, ◌<◌, length, max, min, take, ap, arith, inl, refl, subst, subst₂, sym}
use Rattle.nb_core.specs.Plans.{size_of}
use Rattle.nb_migration.specs.Pieces.{Begun, HasFrozenSlots}
use Rattle.nb_migration.proofs.Stretches.{IsFreezing, one-listed, one-passed}
use Rattle.nb_migration.proofs.pieces.freeze_stretch.Goals as goal
use Rattle.nb_migration.proofs.pieces.freeze_stretch.Goals.{in-Listed, in-Passed}

pub loop-passed-init : goal.loop-passed-init
loop-passed-init c = record {
  rest = record { map = refl; reserve = refl };
  few = omega arith;
  room = refl;
  frozen = Begun;
}

pub loop-passed-preserved : goal.loop-passed-preserved
loop-passed-preserved c =
    let sofar = c.loop-passed.invariant in
    let passed = c.loop-passed.passed in
    let rest = c.freeze_at.ensures.rest in
    elim c.match-freeze_at.branch [
      | in-Passed w ↦
          subst₂ (λ n list. IsFreezing c.args.first (max c.args.tries 1) c.args.core.now
          c.args.list.now (passed + 1) n c.freeze_at.new.core list) (sym w.listed-is)
          (sym w.list-is) (one-passed sofar rest w.in-Passed.ensures.frozen)
      | in-Listed w ↦
          subst₂ (λ n list. IsFreezing c.args.first (max c.args.tries 1) c.args.core.now
          c.args.list.now (passed + 1) n c.freeze_at.new.core list) (sym w.listed-is)
          (sym w.list-is)
          (one-listed sofar rest w.in-Listed.key w.in-Listed.number (c.args.first + passed)
          (omega (arith, c.loop-passed-test.true, c.min-slots.ensures)) refl
          w.in-Listed.ensures.frozen)
    ]

pub returns-clause-frozen : goal.returns-clause-frozen
returns-clause-frozen c =
    let sofar = c.loop-passed.invariant in
    let first = c.args.first in
    let all : c.loop-passed.passed ≡ c.min-slots.result =
    omega (arith, c.loop-passed.auto.passed-end, c.loop-passed-test.false) in
    let slots : c.saturating_sub.result ≡ size_of c.args.core.now.map.chain.shape 0 - first =
    c.saturating_sub.ensures
    ∙ ap (λ n. n - first) (c.size_of.ensures.size ∙ ap (λ p. size_of p 0) c.shape.ensures) in
    record {
      few = (omega (arith, sofar.few, all), omega (arith, c.min-slots.ensures));
      room = sofar.room;
      then = c.loop-passed.core.seat;
      frozen = subst (λ n. HasFrozenSlots c.args.core.now.map first (max c.args.tries 1)
          c.args.core.now.seat n (take c.loop-passed.listed c.loop-passed.list)
          c.loop-passed.core.seat) all sofar.frozen;
      ended = inl (c.min-slots.ensures ∙ ap (min (length c.args.list.now)) slots, refl);
    }
