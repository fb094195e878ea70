use Rattle.std.proofs.Common.{◌∙◌, ap, inl, inr, length, refl, subst, sym}
use Rattle.std.proofs.lemmas.Bool.{cases_Bool}
use Rattle.std.proofs.lemmas.List.{length-map}
use Rattle.std.proofs.lemmas.Result.{err_from_is_err_and}
use Rattle.nb_texts.proofs.Theorems.{ended-errors, taken-first, taken-whole, unlimited}
use Rattle.nb_texts.specs.Memory.{KeepsTo, load_of}
use Rattle.nb_texts.specs.Tallies.{IsTally, times}
use Rattle.nb_tally.specs.Fields.{counted_of}
use Rattle.nb_tally.specs.Limits.{IsTallyOfFirst}
use Rattle.nb_tally.proofs.ForgottenLemmas.{counted-left}
use Rattle.nb_tally.proofs.serve.print_exactly.Goals as goal

pub print_tally-requires : goal.print_tally-requires
print_tally-requires g c =
    let has = c.in_ok-counted.ensures.taken in
    let tally = c.in_ok-counted.counted.rough.tally in
    ap length (has.held.exact refl).told
    ∙ length-map tally.catalog.texts (λ line. times line (counted_of c.args.options.column has.lines))

pub returns-clause-whole : goal.returns-clause-whole
returns-clause-whole g c = λ is.
    let tally = c.in_ok-counted.counted.rough.tally in
    taken-whole (g.I.Read.remaining c.args.reader.now) c.in_ok-counted.taken _
    (λ lines. IsTally (counted_of c.args.options.column lines) tally.catalog.texts tally.counts.items)
    c.in_ok-counted.ensures.taken (λ lines held. held.exact refl) is

pub returns-clause-first : goal.returns-clause-first
returns-clause-first g c =
    let tally = c.in_ok-counted.counted.rough.tally in
    let taken = c.in_ok-counted.taken in
    let column = c.args.options.column in
    taken-first (g.I.Read.remaining c.args.reader.now) taken _
    (λ lines. IsTally (counted_of column lines) tally.catalog.texts tally.counts.items)
    c.in_ok-counted.ensures.taken (λ lines held. held.exact refl)
    (λ input. IsTallyOfFirst column input taken.lines tally.catalog.texts tally.counts.items)
    (λ input within tally. record { within = within; tally = tally })

pub returns-clause-unlimited : goal.returns-clause-unlimited
returns-clause-unlimited g c = λ none. elim (cases_Bool c.in_ok-counted.taken.is_whole) [
  | inl is ↦ is
  | inr part ↦
      let left = c.in_ok-counted.ensures.left part in
      absurd (unlimited c.args.plan.limit c.in_ok-counted.counted.rough.tally.catalog (load_of left.left.counted)
      left.left.over none)
]

pub returns-clause-kept : goal.returns-clause-kept
returns-clause-kept g c =
    let has = c.in_ok-counted.ensures.taken in
    subst (λ n. KeepsTo c.args.plan.limit n c.in_ok-counted.counted.rough.tally.catalog) (sym has.many)
    has.held.kept

pub returns-clause-full : goal.returns-clause-full
returns-clause-full g c = λ part.
    counted-left c.args.options.column c.args.plan.limit (g.I.Read.remaining c.args.reader.now)
    c.in_ok-counted.taken.lines c.in_ok-counted.counted.rough.tally.catalog
    (c.in_ok-counted.ensures.left part)

pub returns-in_err-counted-clause-errors : goal.returns-in_err-counted-clause-errors
returns-in_err-counted-clause-errors g c =
    let p = err_from_is_err_and c.from_residual.result
    c.from_residual.ensures.1 in
    rw (p.1, p.2)
    (elim (ended-errors (counted_of c.args.options.column) (g.I.Read.remaining c.args.reader.now)
    c.in_err-counted.field-0.0 c.in_err-counted.ensures.refused) [
      | inl read ↦ inl read
      | inr (inl room) ↦ inr (inl room)
      | inr (inr often) ↦ inr (inr (inl often))
    ])
