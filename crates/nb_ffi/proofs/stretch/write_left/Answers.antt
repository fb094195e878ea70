use Rattle.std.proofs.Common.{◌∙◌, refl, sym}
use Rattle.nb_migration.specs.declared.copying.Copied.TheVariants.{Came}
use Rattle.nb_ffi.proofs.Left.{left-goes, left-stays}
use Rattle.nb_ffi.proofs.stretch.write_left.Goals as goal
use Rattle.nb_ffi.proofs.stretch.write_left.Goals.{then-goes_on, else-goes_on}

pub loop-i-preserved : goal.loop-i-preserved
loop-i-preserved c = elim c.if-goes_on.branch [
  | then-goes_on w ↦ rw w.left-is (rw w.count-is (rw w.get.ensures.number (rw w.get-then-goes_on.ensures.number
      (left-goes c.loop-i-test.true c.requires.answers c.requires.room c.loop-i.invariant _ Came
      (sym c.goes_on.ensures ∙ w.if-goes_on.true) w.index-entries-i.result
      w.index-entries-i.is))))
  | else-goes_on w ↦ rw w.left-is (rw w.count-is (left-stays c.loop-i-test.true c.requires.answers
      c.requires.room c.loop-i.invariant (record { key = 0; number = 0; slot = 0 }) Came
      (sym c.goes_on.ensures ∙ w.if-goes_on.false)))
]
