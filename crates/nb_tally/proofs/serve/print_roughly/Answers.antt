use Rattle.std.proofs.Common.{◌∙◌, ℕ, ap, inl, inr, length, subst, sym, take}
use Rattle.std.proofs.lemmas.Bool.{cases_Bool}
use Rattle.std.proofs.lemmas.List.{length-map}
use Rattle.std.proofs.lemmas.Result.{err_from_is_err_and}
use Rattle.nb_texts.proofs.Theorems.{ended-errors, taken-first, taken-whole, unlimited, within-bounds}
use Rattle.nb_texts.specs.Forgetting.{AreBounds}
use Rattle.nb_texts.specs.Lines.{lines_in}
use Rattle.nb_texts.specs.Memory.{KeepsTo}
use Rattle.nb_texts.specs.Tallies.{times}
use Rattle.nb_tally.specs.Fields.{counted_of}
use Rattle.nb_tally.specs.Forgotten.{HasTallied, Tells, TellsFirst, ahead_finer}
use Rattle.nb_tally.proofs.ForgottenLemmas.{roughly-left}
use Rattle.nb_tally.proofs.serve.print_roughly.Goals as goal

pub print_tally-requires : goal.print_tally-requires
print_tally-requires g c =
    let rough = c.in_ok-counted.counted.rough in
    let tally = c.in_ok-counted.ensures.taken.held.ready.tally in
    ap length tally.1.told ∙ length-map rough.tally.catalog.texts (λ line. times line tally.0)

pub returns-clause-bounds : goal.returns-clause-bounds
returns-clause-bounds g c = λ is.
    let rough = c.in_ok-counted.counted.rough in
    let column = c.args.options.column in
    taken-whole (g.I.Read.remaining c.args.reader.now) c.in_ok-counted.taken _
    (λ lines. AreBounds rough.missed.times (counted_of column lines) rough.tally.catalog.texts
    rough.tally.counts.items)
    c.in_ok-counted.ensures.taken
    (λ lines held.
    within-bounds rough.missed.times (counted_of column lines) rough.tally.catalog.texts
    rough.tally.counts.items held.tells)
    is

pub returns-clause-first : goal.returns-clause-first
returns-clause-first g c =
    let rough = c.in_ok-counted.counted.rough in
    let taken = c.in_ok-counted.taken in
    let column = c.args.options.column in
    taken-first (g.I.Read.remaining c.args.reader.now) taken _ (λ lines. Tells rough (counted_of column lines))
    c.in_ok-counted.ensures.taken (λ lines held. held.tells)
    (λ input. TellsFirst column input taken.lines rough)
    (λ input within tells. record { within = within; tells = tells })

pub returns-clause-made : goal.returns-clause-made
returns-clause-made g c =
    let rough = c.in_ok-counted.counted.rough in
    let taken = c.in_ok-counted.taken in
    let column = c.args.options.column in
    let limit = c.args.plan.limit in
    taken-first (g.I.Read.remaining c.args.reader.now) taken _
    (λ lines. (most : ℕ) × HasTallied (ahead_finer limit) limit column lines most rough)
    c.in_ok-counted.ensures.taken (λ lines held. (held.most, held.tallied))
    (λ input. (most : ℕ)
    × HasTallied (ahead_finer limit) limit column (take taken.lines (lines_in input)) most rough)
    (λ input within tallied. tallied)

pub returns-clause-unlimited : goal.returns-clause-unlimited
returns-clause-unlimited g c = λ none. (
  elim (cases_Bool c.in_ok-counted.taken.is_whole) [
    | inl is ↦ is
    | inr part ↦ absurd (unlimited c.args.plan.limit c.in_ok-counted.counted.rough.tally.catalog _
        (c.in_ok-counted.ensures.left part).left.over none)
  ],
  c.in_ok-counted.ensures.taken.held.unlimited none,
)

pub returns-clause-kept : goal.returns-clause-kept
returns-clause-kept g c =
    let has = c.in_ok-counted.ensures.taken in
    subst (λ n. KeepsTo c.args.plan.limit n c.in_ok-counted.counted.rough.tally.catalog) (sym has.many)
    has.held.kept

pub returns-clause-never : goal.returns-clause-never
returns-clause-never g c = λ part.
    roughly-left c.args.options.column c.args.plan.limit (g.I.Read.remaining c.args.reader.now)
    c.in_ok-counted.taken.lines c.in_ok-counted.counted.rough.tally.catalog
    (c.in_ok-counted.ensures.left part)

pub returns-in_err-counted-clause-errors : goal.returns-in_err-counted-clause-errors
returns-in_err-counted-clause-errors g c =
    let p = err_from_is_err_and c.from_residual.result
    c.from_residual.ensures.1 in
    rw (p.1, p.2)
    (elim (ended-errors (counted_of c.args.options.column) (g.I.Read.remaining c.args.reader.now)
    c.in_err-counted.field-0.0 c.in_err-counted.ensures.refused) [
      | inl read ↦ inl read
      | inr (inl room) ↦ inr (inl room)
      | inr (inr often) ↦ inr (inr (inl often))
    ])
