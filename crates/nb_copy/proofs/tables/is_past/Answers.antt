use Rattle.std.proofs.Common.{[], cond, ap, subst, sym}
use Rattle.std.proofs.lemmas.Bool.{eq-eqb, ne_eqb}
use Rattle.nb_copy.specs.Copying.{HasCopied}
use Rattle.nb_copy.proofs.Copied.{copied-none, copied-quiet}
use Rattle.nb_copy.proofs.tables.is_past.Goals as goal

pub returns-then-i-eq0-clause-copied : goal.returns-then-i-eq0-clause-copied
returns-then-i-eq0-clause-copied c =
    let p = c.args.chain.now.shape in
    let look = ap (λ b. cond b 1 0) (eq-eqb _ _ c.if-i-eq0.true) in
    subst (HasCopied p c.args.g c.args.seat.now c.load_top.new.seat [] 0 0) (sym look)
    (copied-quiet p c.args.g _ _ c.load_top.ensures.grows)

pub returns-else-i-eq0-clause-copied : goal.returns-else-i-eq0-clause-copied
returns-else-i-eq0-clause-copied c =
    let none = ap (λ b. cond b 1 0) (ne_eqb _ _ c.if-i-eq0.false) in
    subst (HasCopied c.args.chain.now.shape c.args.g c.args.seat.now c.args.seat.now [] 0 0)
    (sym none)
    (copied-none c.args.chain.now c.args.g c.args.seat.now c.requires.own)
