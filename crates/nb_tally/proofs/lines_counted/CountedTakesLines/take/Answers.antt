use Rattle.std.proofs.Common.{◌≡◌, ◌∙◌, ◌+◌, ◌++◌, ℕ, Err, ap, arith, false, inl, inr, length, length-append, refl, subst, sym, true, Option}
use Rattle.std.proofs.lemmas.Bool.Decides.{nat_tests}
use Rattle.std.proofs.lemmas.Result.{err_from_is_err_and}
use Rattle.std.specs.Bool.{OnFalse, OnTrue}
use Rattle.std.specs.Prelude.{IfSome}
use Rattle.nb_texts.proofs.Theorems.{no-count, unlimited}
use Rattle.nb_texts.specs.Forgetting.{FitsAlone}
use Rattle.nb_texts.specs.Lines.{lines_in}
use Rattle.nb_texts.specs.Memory.{TellsWhetherFits}
use Rattle.nb_texts.specs.declared.memory.Load.{Load}
use Rattle.nb_texts.specs.declared.memory.MemoryLimit.{MemoryLimit}
use Rattle.nb_texts.specs.declared.plan.LinePlan.{LinePlan}
use Rattle.nb_tally.specs.Fields.{counted_of}
use Rattle.nb_tally.specs.Forgotten.{HasCutFor, HasRoomForLines, IsAlike, IsNarrow}
use Rattle.nb_tally.specs.declared.lines_forgotten.Missed.{Missed}
use Rattle.nb_tally.proofs.CountedLemmas.{counted-all}
use Rattle.nb_tally.proofs.ForgottenLemmas.{alone-with, over-with, roughly-full, roughly-more, roughly-often, roughly-past, roughly-same}
use Rattle.nb_tally.proofs.lines_counted.CountedTakesLines.take.Goals as goal

pub returns-then-not-fits-clause-left : goal.returns-then-not-fits-clause-left
returns-then-not-fits-clause-left g c = λ ahead first taken has.
    let offer = c.in_ok-made.field-0 in
    let made = offer.made in
    let before = c.args.self.rough in
    let text = c.in_ok-text.text.now in
    let load : Load = record { lines = c.args.lines; bytes = length c.in_ok-text.text.now } in
    let stopped : offer.fits ≡ false = grind (arith, nat_tests, c.if-not-fits.true) in
    let same : made.tally.catalog ≡ before.tally.catalog
    = subst (λ fits. OnFalse fits (made.tally.catalog ≡ before.tally.catalog)) stopped c.in_ok-made.ensures.back in
    let alike : IsAlike before made
    = subst (λ fits. OnFalse fits (IsAlike before made)) stopped c.in_ok-made.ensures.alike in
    let limit = c.args.self.plan.limit in
    let is : limit ≡ first.plan.limit = ap (λ (plan : LinePlan). plan.limit) has.0 in
    let are : lines_in text ≡ counted_of first.column (lines_in c.args.block.now)
    = c.in_ok-text.ensures ∙ ap (λ column. counted_of column (lines_in c.args.block.now)) has.1 in
    let over : TellsWhetherFits limit before.tally.catalog load false
    = elim c.in_ok-made.ensures.needed [
      | inl kept ↦ let wrong : true ≡ false = sym kept.0 ∙ stopped in absurd cc
      | inr over ↦ over
    ] in (
      (
        has.0,
        has.1,
        has.2,
        roughly-same ahead first.column first.plan.limit first.forgets taken before made has.3
            c.in_ok-made.ensures.ready alike same,
      ),
      record {
        counted = text;
        are = are;
        over =
            over-with first.plan.limit first.column made.tally.catalog load c.args.block.now text
            c.requires.lines are refl
            (subst (λ (limit : Option MemoryLimit). TellsWhetherFits limit made.tally.catalog load false) is
            (subst (λ catalog. TellsWhetherFits limit catalog load false) (sym same) over));
        never = λ may.
            alone-with first.plan.limit first.column made.tally.catalog load c.args.block.now text
            c.requires.lines are refl
            (subst (λ (limit : Option MemoryLimit). IfSome limit (λ limit. FitsAlone limit made.tally.catalog load → ⊥)) is
            (subst (λ catalog. IfSome limit (λ limit. FitsAlone limit catalog load → ⊥)) (sym same)
            (subst (λ fits. OnFalse fits (IfSome limit (λ limit. FitsAlone limit before.tally.catalog load → ⊥)))
            stopped (c.in_ok-made.ensures.never (has.2 ∙ may)))));
      },
    )

pub returns-clause-taken : goal.returns-clause-taken
returns-clause-taken g c = λ ahead first taken one has.
    let offer = c.in_ok-made.field-0 in
    let made = offer.made in
    let before = c.args.self.rough in
    let after = c.enter.new.self in
    let text = c.in_ok-text.text.now in
    let load : Load = record { lines = c.args.lines; bytes = length c.in_ok-text.text.now } in
    let fits : offer.fits ≡ true = grind (arith, nat_tests, c.if-not-fits.false) in
    let limit = c.args.self.plan.limit in
    let is : limit ≡ first.plan.limit = ap (λ (plan : LinePlan). plan.limit) has.0 in
    let are : lines_in text ≡ counted_of first.column (lines_in c.args.block.now)
    = c.in_ok-text.ensures ∙ ap (λ column. counted_of column (lines_in c.args.block.now)) has.1 in (
      has.0,
      has.1,
      has.2,
      roughly-more ahead first.column first.plan.limit first.forgets taken before made after
          c.args.block.now text load has.3 one are c.requires.lines refl c.in_ok-made.ensures.told
          (subst (λ (limit : Option MemoryLimit). TellsWhetherFits limit made.tally.catalog load true) is
          (subst (λ fits. OnTrue fits (TellsWhetherFits limit made.tally.catalog load true)) fits
          c.in_ok-made.ensures.fits))
          (subst (λ (limit : Option MemoryLimit). (most : ℕ) → IsNarrow limit most before.tally.catalog
          → HasCutFor limit most load before made) is c.in_ok-made.ensures.made)
          c.in_ok-made.ensures.wide
          (subst (λ fits. OnTrue fits (HasRoomForLines (length made.tally.catalog.texts + load.lines)
          made.tally.catalog)) fits c.in_ok-made.ensures.room)
          (λ none. elim c.in_ok-made.ensures.needed [
            | inl kept ↦ ap (λ (missed : Missed). missed.times) kept.1
            | inr over ↦ absurd (unlimited limit before.tally.catalog load over (is ∙ none))
          ])
          (λ not. c.in_ok-made.ensures.exact (has.2 ∙ not))
          c.in_ok-enter.ensures.ready c.in_ok-enter.ensures.told c.in_ok-enter.ensures.counted
          c.in_ok-enter.ensures.texts c.in_ok-enter.ensures.map c.enter.ensures.room c.enter.ensures.missed,
    )

pub returns-in_err-made-clause-refused : goal.returns-in_err-made-clause-refused
returns-in_err-made-clause-refused g c =
    let told = c.in_err-made.field-0.0 in
    let before = c.args.self.rough in
    let p = err_from_is_err_and c.from_residual-in_err-made.result
    c.from_residual-in_err-made.ensures.1 in
    rw (p.1, p.2) (λ ahead first taken more has.
    let text = lines_in c.args.block.now in
    no-count told _ c.in_err-made.ensures.errors
    (λ is.
    roughly-past ahead first.column first.plan.limit first.forgets taken (text ++ more) before _ has.3
    (c.in_err-made.ensures.full (ap Err is) has.3.room))
    (λ is.
    rw (counted-all first.column taken text more (counted_of first.column text) refl)
    (roughly-often ahead first.column first.plan.limit first.forgets taken (counted_of first.column more) before before
    (counted_of first.column text) has.3 (λ lines tells. tells)
    (λ all tells.
    let often = c.in_err-made.ensures.often (ap Err is) all tells in
    omega (arith, often, length-append all (counted_of first.column text))))))

pub returns-in_err-enter-clause-refused : goal.returns-in_err-enter-clause-refused
returns-in_err-enter-clause-refused g c =
    let told = c.in_err-enter.field-0.0 in
    let offer = c.in_ok-made.field-0 in
    let made = offer.made in
    let before = c.args.self.rough in
    let text = c.in_ok-text.text.now in
    let load : Load = record { lines = c.args.lines; bytes = length c.in_ok-text.text.now } in
    let fits : offer.fits ≡ true = grind (arith, nat_tests, c.if-not-fits.false) in
    let room : HasRoomForLines (length made.tally.catalog.texts + load.lines) made.tally.catalog
    = subst (λ fits. OnTrue fits (HasRoomForLines (length made.tally.catalog.texts + load.lines)
    made.tally.catalog)) fits c.in_ok-made.ensures.room in
    let p = err_from_is_err_and c.from_residual-in_err-enter.result
    c.from_residual-in_err-enter.ensures.1 in
    rw (p.1, p.2) (λ ahead first taken more has.
    let are : lines_in text ≡ counted_of first.column (lines_in c.args.block.now)
    = c.in_ok-text.ensures ∙ ap (λ column. counted_of column (lines_in c.args.block.now)) has.1 in
    no-count told _ c.in_err-enter.ensures.errors
    (λ is.
    roughly-full ahead first.column first.plan.limit first.forgets taken more before made c.args.block.now text
    load has.3
    c.in_ok-made.ensures.told are c.requires.lines room (c.in_err-enter.ensures.full (ap Err is)))
    (λ is.
    rw (counted-all first.column taken (lines_in c.args.block.now) more (lines_in text) are)
    (roughly-often ahead first.column first.plan.limit first.forgets taken (counted_of first.column more) before made
    (lines_in text) has.3 c.in_ok-made.ensures.told (c.in_err-enter.ensures.often (ap Err is)))))
