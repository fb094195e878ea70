use Rattle.std.proofs.Common.{◌≡◌, ◌≤◌, ◌+◌, Err, ap, arith, false, inl, inr, length, refl, subst, true}
use Rattle.std.proofs.lemmas.Bool.Decides.{nat_tests}
use Rattle.std.proofs.lemmas.Result.{err_from_is_err_and}
use Rattle.std.specs.Bool.{OnFalse, OnTrue}
use Rattle.std.specs.Prelude.{min}
use Rattle.nb_core.specs.declared.shapes.TheConstants.{MOST_KEYS}
use Rattle.nb_texts.proofs.Theorems.{no-memory, no-room, past-more}
use Rattle.nb_texts.specs.Memory.{TellsWhetherFits}
use Rattle.nb_texts.specs.declared.memory.Load.{Load}
use Rattle.nb_dedup.proofs.OnceLemmas.{printed-full, printed-left_alone, printed-more, printed-over}
use Rattle.nb_dedup.proofs.lines_once.PrintedTakesLines.take.Goals as goal

pub returns-then-not-branch-clause-left : goal.returns-then-not-branch-clause-left
returns-then-not-branch-clause-left g c = λ ahead first taken has.
    let con = g.W.Write.contents in
    let made = c.make_room_within.new.self in
    let load : Load = record { lines = c.args.lines; bytes = length c.args.block.now } in
    let stopped : c.in_ok-make_room_within.field-0 ≡ false = grind (arith, nat_tests, c.if-not-branch.true) in
    let same : made ≡ c.args.self.catalog
    = subst (λ fits. OnFalse fits (made ≡ c.args.self.catalog)) stopped c.in_ok-make_room_within.ensures.back in (
      (
        has.0,
        printed-left_alone first.plan.limit (con first.writer) (con c.args.self.writer) taken
            c.args.self.catalog made has.1 same,
      ),
      printed-over first.plan.limit made load c.args.block.now c.requires.lines refl
          (subst (λ limit. TellsWhetherFits limit made load false) (ap (λ plan. plan.limit) has.0)
          (subst (TellsWhetherFits c.args.self.plan.limit made load) stopped
          c.in_ok-make_room_within.ensures.fits)),
    )

pub returns-clause-taken : goal.returns-clause-taken
returns-clause-taken g c = λ ahead first taken one has.
    let con = g.W.Write.contents in
    let made = c.make_room_within.new.self in
    let catalog = c.enter.new.self in
    let load : Load = record { lines = c.args.lines; bytes = length c.args.block.now } in
    let fits : c.in_ok-make_room_within.field-0 ≡ true = grind (arith, nat_tests, c.if-not-branch.false) in (
      has.0,
      printed-more first.plan.limit (con first.writer) (con c.args.self.writer)
          (con c.write_from.new.writer) taken c.args.self.catalog made catalog c.args.block.now load
          c.len-known.result has.1 c.make_room_within.ensures.same c.in_ok-enter.ensures.rest
          c.in_ok-enter.ensures.lines c.in_ok-enter.ensures.map c.requires.lines refl
          (subst (λ limit. TellsWhetherFits limit made load true) (ap (λ plan. plan.limit) has.0)
          (subst (TellsWhetherFits c.args.self.plan.limit made load) fits
          c.in_ok-make_room_within.ensures.fits))
          c.len-known.ensures c.in_ok-write_from.ensures.wrote,
    )

pub returns-in_err-make_room_within-clause-refused : goal.returns-in_err-make_room_within-clause-refused
returns-in_err-make_room_within-clause-refused g c =
    let told = c.in_err-make_room_within.field-0.0 in
    let p = err_from_is_err_and c.from_residual.result
    c.from_residual.ensures.1 in
    rw (p.1, p.2) (λ ahead first taken more has.
    inl (no-room told _ c.in_err-make_room_within.ensures.errors
    (λ is. past-more taken _ MOST_KEYS
    (omega (arith, c.in_err-make_room_within.ensures.full (ap Err is), ap length has.1.are)))))

pub returns-in_err-enter-clause-refused : goal.returns-in_err-enter-clause-refused
returns-in_err-enter-clause-refused g c =
    let told = c.in_err-enter.field-0.0 in
    let made = c.make_room_within.new.self in
    let load : Load = record { lines = c.args.lines; bytes = length c.args.block.now } in
    let fits : c.in_ok-make_room_within.field-0 ≡ true = grind (arith, nat_tests, c.if-not-branch.false) in
    let room : min (length made.texts + load.lines) MOST_KEYS ≤ made.room
    = subst (λ fits. OnTrue fits (min (length made.texts + load.lines) MOST_KEYS ≤ made.room)) fits
    c.in_ok-make_room_within.ensures.room in
    let p = err_from_is_err_and c.from_residual-in_err-enter.result
    c.from_residual-in_err-enter.ensures.1 in
    rw (p.1, p.2) (λ ahead first taken more has.
    inl (no-room told _ c.in_err-enter.ensures.errors
    (λ is.
    printed-full first.plan.limit _ _ taken more c.args.self.catalog made c.args.block.now load has.1
    c.make_room_within.ensures.same c.requires.lines room (c.in_err-enter.ensures.full (ap Err is)))))

pub returns-in_err-write_from-clause-refused : goal.returns-in_err-write_from-clause-refused
returns-in_err-write_from-clause-refused g c =
    let told = c.in_err-write_from.field-0.0 in
    let p = err_from_is_err_and c.from_residual-in_err-write_from.result
    c.from_residual-in_err-write_from.ensures.1 in
    rw (p.1, p.2) (λ ahead first taken more has. elim c.in_err-write_from.ensures.errors [
      | inl memory ↦ inl (no-memory told _ memory)
      | inr write ↦ inr write
    ])
