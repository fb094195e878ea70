use Rattle.std.proofs.Common.{◌≡◌, ◌∙◌, ◌++◌, arith, false, inl, inr, length, refl, subst, sym, true}
use Rattle.std.proofs.lemmas.Bool.{OnFalse_at, OnTrue_at}
use Rattle.std.proofs.lemmas.Bool.Decides.{nat_tests}
use Rattle.std.proofs.lemmas.Result.{err_from_is_err_and}
use Rattle.nb_texts.specs.Lines.{lines_in}
use Rattle.nb_texts.specs.Sources.{IsBlock}
use Rattle.nb_texts.proofs.SourceLemmas.{none-in-line}
use Rattle.nb_texts.proofs.TakingLemmas.{taking-begun, taking-ended, taking-left, taking-many, taking-more, taking-refused, taking-stopped}
use Rattle.nb_texts.proofs.taking.take_from.Goals as goal

pub loop-init : goal.loop-init
loop-init g c =
    let ahead = length c.args.source.now.room.items in
    let taker = c.args.taker in
    record {
      way =
          taking-begun (g.I.Read.remaining c.args.reader.now)
          (g.T.TakesLines.has_taken ahead taker taker) c.args.source.now.rest.items
          c.requires.begun c.requires.rest;
      part = refl;
      rest = none-in-line c.args.source.now.rest.items c.requires.rest;
      room = refl;
    }

pub take-requires-clause-ready : goal.take-requires-clause-ready
take-requires-clause-ready g c =
    let ahead = length c.args.source.now.room.items in
    (ahead, c.args.taker, c.loop.invariant.way.lines, c.loop.invariant.way.held)

pub returns-then-not-branch-clause-taken : goal.returns-then-not-branch-clause-taken
returns-then-not-branch-clause-taken g c =
    let ahead = length c.args.source.now.room.items in
    let rem = g.I.Read.remaining in
    let now = c.loop in
    let ended : c.in_ok-refill.field-0 ≡ false = grind (arith, nat_tests, c.if-not-branch.true) in
    taking-ended (rem c.args.reader.now) (rem now.reader) (rem c.refill.new.reader)
    (g.T.TakesLines.has_taken ahead c.args.taker now.now) now.taken
    (record now.taken { is_whole = true }) now.source.rest.items c.refill.new.self.rest.items
    c.refill.new.self.block.items c.in_ok-refill.field-0 now.invariant.way c.in_ok-refill.ensures.cut ended
    refl

pub returns-then-not-is_taken-clause-taken : goal.returns-then-not-is_taken-clause-taken
returns-then-not-is_taken-clause-taken g c =
    let ahead = length c.args.source.now.room.items in
    let rem = g.I.Read.remaining in
    let has = g.T.TakesLines.has_taken ahead c.args.taker in
    let now = c.loop in
    let stopped : c.in_ok-next.is_taken ≡ false = grind (arith, nat_tests, c.if-not-is_taken.true) in
    let left = OnFalse_at stopped c.in_ok-next.ensures.left in
    taking-stopped (rem c.args.reader.now) (rem now.reader) (has now.now) (has c.in_ok-next.next) now.taken
    now.source.rest.items now.invariant.way now.invariant.part
    (λ lines held. (left ahead c.args.taker lines held).0)

pub returns-then-not-is_taken-clause-left : goal.returns-then-not-is_taken-clause-left
returns-then-not-is_taken-clause-left g c = λ part.
    let ahead = length c.args.source.now.room.items in
    let rem = g.I.Read.remaining in
    let has = g.T.TakesLines.has_taken ahead c.args.taker in
    let now = c.loop in
    let block = c.refill.new.self.block.items in
    let way = now.invariant.way in
    let some : c.in_ok-refill.field-0 ≡ true = grind (arith, nat_tests, c.if-not-branch.false) in
    let stopped : c.in_ok-next.is_taken ≡ false = grind (arith, nat_tests, c.if-not-is_taken.true) in
    let one : IsBlock ahead block
    = subst (λ ahead. IsBlock ahead block) now.invariant.room (OnTrue_at some c.in_ok-refill.ensures.block) in
    let left = OnFalse_at stopped c.in_ok-next.ensures.left in
    taking-left (rem c.args.reader.now) (rem now.reader) (rem c.refill.new.reader) (has now.now)
    now.taken.lines now.source.rest.items c.refill.new.self.rest.items block c.in_ok-refill.field-0 way
    c.in_ok-refill.ensures.cut ahead (g.T.TakesLines.leaves c.args.taker c.in_ok-next.next) one
    (subst (g.T.TakesLines.leaves c.args.taker c.in_ok-next.next) c.block.ensures
    (left ahead c.args.taker way.lines way.held).1)

pub loop-preserved : goal.loop-preserved
loop-preserved g c =
    let ahead = length c.args.source.now.room.items in
    let rem = g.I.Read.remaining in
    let has = g.T.TakesLines.has_taken ahead c.args.taker in
    let now = c.loop in
    let block = c.refill.new.self.block.items in
    let some : c.in_ok-refill.field-0 ≡ true = grind (arith, nat_tests, c.if-not-branch.false) in
    let goes : c.in_ok-next.is_taken ≡ true = grind (arith, nat_tests, c.if-not-is_taken.false) in
    let one : IsBlock ahead c.block.result.now
    = subst (IsBlock ahead) (sym c.block.ensures)
    (subst (λ ahead. IsBlock ahead block) now.invariant.room (OnTrue_at some c.in_ok-refill.ensures.block)) in
    let step = OnTrue_at goes c.in_ok-next.ensures.taken in
    record {
      way =
          taking-more (rem c.args.reader.now) (rem now.reader) (rem c.refill.new.reader) (has now.now)
          now.taken.lines now.source.rest.items c.refill.new.self.rest.items block
          c.in_ok-refill.field-0 now.invariant.way c.in_ok-refill.ensures.cut (has c.in_ok-next.next)
          c.in_ok-taken.taken.lines
          (omega (arith, c.in_ok-taken.ensures.more.0, c.lines-lines.ensures))
          (λ lines held.
          subst (λ block. has c.in_ok-next.next (lines ++ lines_in block)) c.block.ensures
          (step ahead c.args.taker lines one held));
      part = c.in_ok-taken.ensures.more.1 ∙ now.invariant.part;
      rest = c.in_ok-refill.ensures.rest;
      room = c.refill.ensures.room ∙ now.invariant.room;
    }

pub returns-in_err-next-clause-refused : goal.returns-in_err-next-clause-refused
returns-in_err-next-clause-refused g c =
    let ahead = length c.args.source.now.room.items in
    let rem = g.I.Read.remaining in
    let has = g.T.TakesLines.has_taken ahead c.args.taker in
    let now = c.loop in
    let told = c.in_err-next.field-0.0 in
    let refuses = g.T.TakesLines.refuses c.args.taker told in
    let p = err_from_is_err_and c.from_residual-in_err-next.result c.from_residual-in_err-next.ensures.1 in
    rw (p.1, p.2) (inr (inl
    (taking-refused (rem c.args.reader.now) (rem now.reader) (rem c.refill.new.reader) (has now.now)
    now.taken.lines now.source.rest.items c.refill.new.self.rest.items c.refill.new.self.block.items
    c.in_ok-refill.field-0 now.invariant.way c.in_ok-refill.ensures.cut refuses
    (λ lines more held.
    subst (λ block. refuses (lines ++ (lines_in block ++ more))) c.block.ensures
    (c.in_err-next.ensures.refused ahead c.args.taker lines more held)))))

pub returns-in_err-taken-clause-refused : goal.returns-in_err-taken-clause-refused
returns-in_err-taken-clause-refused g c =
    let ahead = length c.args.source.now.room.items in
    let rem = g.I.Read.remaining in
    let now = c.loop in
    let p = err_from_is_err_and c.from_residual-in_err-taken.result c.from_residual-in_err-taken.ensures.1 in
    rw (p.1, p.2) (inr (inr (
      c.in_err-taken.ensures.errors,
      taking-many (rem c.args.reader.now) (rem now.reader) (rem c.refill.new.reader)
          (g.T.TakesLines.has_taken ahead c.args.taker now.now) now.taken.lines
          now.source.rest.items c.refill.new.self.rest.items c.refill.new.self.block.items
          c.in_ok-refill.field-0 now.invariant.way c.in_ok-refill.ensures.cut
          (omega (arith, c.in_err-taken.ensures.range, c.lines-lines.ensures)),
    )))
