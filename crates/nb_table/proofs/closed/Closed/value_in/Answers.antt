use Rattle.std.proofs.Common.{◌≡◌, ◌∙◌, ◌<◌, ◌⊎◌, ap, sym, subst, Some, arith}
use Rattle.std.proofs.lemmas.Bool.{eqb-false, eqb-true}
use Rattle.nb_core.specs.Plans.{size_of}
use Rattle.nb_core.specs.Tables.{AreOthers, path_slot}
use Rattle.nb_core.specs.declared.states.KeyState.TheVariants.{Claimed, Dead, Empty}
use Rattle.nb_table.specs.Left.{tables_left}
use Rattle.nb_table.proofs.Looking.{AreOnPath, HaveOneSlot, found-end, found-none, found-slot, lawful, law-left, others-more}
use Rattle.nb_table.proofs.closed.Closed.value_in.Goals as goal
use Rattle.nb_core.proofs.Theorems.{on_path, one_slot}

pub loop-distance-init : goal.loop-distance-init
loop-distance-init c = λ e below. absurd (omega arith)

pub key_at-requires : goal.key_at-requires
key_at-requires c = (
  c.requires,
  omega (
    arith,
    c.path_slot-i.ensures.in_table,
    ap (λ v. size_of v.shape c.args.g) c.self.view_is,
  ),
)

pub value_at-requires : goal.value_at-requires
value_at-requires c = (
  c.requires,
  omega (
    arith,
    c.path_slot-i.ensures.in_table,
    ap (λ v. size_of v.shape c.args.g) c.self.view_is,
  ),
)

pub returns-then-eq : goal.returns-then-eq
returns-then-eq c =
    let closed = c.args.self.now in
    let is = lawful c.self.inside closed c.self.invariant c.self.view_is in
    let in_table : c.path_slot-i.result < size_of closed.shape c.args.g
    = omega (
      arith,
      c.path_slot-i.ensures.in_table,
      ap (λ v. size_of v.shape c.args.g) c.self.view_is,
    ) in
    let same : c.in-Claimed.other ≡ c.args.key = eqb-true _ _ (sym c.eq.ensures ∙ c.if-eq.true) in
    ap Some c.value_at.ensures
    ∙ found-slot closed.shape (tables_left closed) c.args.g c.args.key c.requires
    (law-left closed is HaveOneSlot one_slot) c.path_slot-i.result in_table
    (sym c.key_at.ensures ∙ c.in-Claimed.is ∙ ap Claimed same)

pub returns-in-Empty : goal.returns-in-Empty
returns-in-Empty c =
    let closed = c.args.self.now in
    let is = lawful c.self.inside closed c.self.invariant c.self.view_is in
    let at = c.path_slot-i.ensures.slot ∙ ap
    (λ v. path_slot v.shape c.args.g c.args.key c.loop-distance.distance) c.self.view_is in
    found-end closed.shape (tables_left closed) c.args.g c.args.key c.requires
    (law-left closed is AreOnPath on_path)
    c.loop-distance.distance c.path_slot-i.result at c.loop-distance.invariant
    (subst (λ s. (s ≡ Empty) ⊎ (s ≡ Dead)) c.key_at.ensures c.in-Empty.is)

pub loop-distance-preserved : goal.loop-distance-preserved
loop-distance-preserved c =
    let closed = c.args.self.now in
    let at = c.path_slot-i.ensures.slot ∙ ap
    (λ v. path_slot v.shape c.args.g c.args.key c.loop-distance.distance) c.self.view_is in
    others-more closed.shape (tables_left closed)
    c.args.g c.args.key c.loop-distance.distance c.path_slot-i.result
    c.in-Claimed.other c.loop-distance.invariant at (sym c.key_at.ensures ∙ c.in-Claimed.is)
    (eqb-false _ _ (sym c.eq.ensures ∙ c.if-eq.false))

pub returns : goal.returns
returns c =
    let closed = c.args.self.now in
    let is = lawful c.self.inside closed c.self.invariant c.self.view_is in
    let size = c.size_of-distance-end.ensures.size
    ∙ ap (λ v. size_of v.shape c.args.g) c.self.view_is in
    let whole : c.loop-distance.distance ≡ size_of closed.shape c.args.g =
    omega (arith, c.loop-distance.auto.distance-end) in
    found-none closed.shape (tables_left closed) c.args.g c.args.key c.requires
    (law-left closed is AreOnPath on_path)
    (subst (AreOthers closed.shape (tables_left closed) c.args.g c.args.key)
    whole c.loop-distance.invariant)
