use Rattle.std.proofs.Common.{◌≡◌, ℕ, List, Option, inl, inr, refl, subst, sym}
use Rattle.std.proofs.lemmas.Bool.{cases_Bool}
use Rattle.std.proofs.lemmas.Result.{IfErr-at_err, IfErr-weaker, IfOk-weaker}
use Rattle.std.specs.Io.KnownBytes.{Appends}
use Rattle.std.specs.Prelude.{◌⊎◌}
use Rattle.nb_lines.specs.declared.faults.ProgramFault.TheVariants as fault
use Rattle.nb_lines.specs.declared.faults.ProgramFault.{ProgramFault}
use Rattle.nb_texts.proofs.Theorems.{ended-errors, ended-or, ended-too_many, ended-too_often, taken-first, taken-whole, unlimited}
use Rattle.nb_texts.specs.Lines.{distinct, text_of_lines}
use Rattle.nb_texts.specs.Memory.{KeepsTo, load_of}
use Rattle.nb_texts.specs.Taking.{HasLeft, IsEndedBy, IsTooMuch}
use Rattle.nb_dedup.specs.Limits.{HasPrintedFirst, BlockMayNotFit}
use Rattle.nb_dedup.proofs.OnceLemmas.{printed-left, printed-none}
use Rattle.nb_dedup.proofs.lines_once.print_once.Goals as goal

-- lines were refused, or a write has failed
refused :
    (known : Option (List ℕ)) (told : ProgramFault)
    → IsEndedBy known (λ told lines. IsTooMuch told lines ⊎ (told ≡ fault.Write)) told
    → IsEndedBy known IsTooMuch told ⊎ (told ≡ fault.Write)
refused known told ended = ended-or known told IsTooMuch (λ told. told ≡ fault.Write) ended

pub take_lines-requires-clause-begun : goal.take_lines-requires-clause-begun
take_lines-requires-clause-begun g c = λ _ _. (
  refl,
  printed-none c.args.plan.limit (g.W.Write.contents c.args.writer) c.in_ok-catalog.catalog
      c.in_ok-catalog.ensures.rest c.in_ok-catalog.ensures.empty,
)

pub returns-clause-whole : goal.returns-clause-whole
returns-clause-whole g c =
    let con = g.W.Write.contents in
    IfOk-weaker c.take_lines.result _ _
    (λ done has is.
    taken-whole (g.I.Read.remaining c.args.reader.now) done.1 _
    (λ lines. Appends (con c.args.writer) (con done.0.writer) (text_of_lines (distinct lines))) has
    (λ lines held. held.1.wrote) is)
    c.take_lines.ensures.taken

pub returns-clause-first : goal.returns-clause-first
returns-clause-first g c =
    let con = g.W.Write.contents in
    IfOk-weaker c.take_lines.result _ _
    (λ done has.
    taken-first (g.I.Read.remaining c.args.reader.now) done.1 _
    (λ lines. Appends (con c.args.writer) (con done.0.writer) (text_of_lines (distinct lines))) has
    (λ lines held. held.1.wrote)
    (λ input. HasPrintedFirst input done.1.lines (con c.args.writer) (con done.0.writer))
    (λ input within wrote. record { within = within; wrote = wrote }))
    c.take_lines.ensures.taken

pub returns-clause-unlimited : goal.returns-clause-unlimited
returns-clause-unlimited g c = λ none.
    IfOk-weaker c.take_lines.result _ _
    (λ done left. elim (cases_Bool done.1.is_whole) [
      | inl is ↦ is
      | inr part ↦
          absurd (unlimited c.args.plan.limit done.0.catalog (load_of (left part).block) (left part).left none)
    ])
    c.take_lines.ensures.left

pub returns-clause-kept : goal.returns-clause-kept
returns-clause-kept g c =
    IfOk-weaker c.take_lines.result _ _
    (λ done has. subst (λ n. KeepsTo c.args.plan.limit n done.0.catalog) (sym has.many) has.held.1.kept)
    c.take_lines.ensures.taken

pub returns-clause-full : goal.returns-clause-full
returns-clause-full g c =
    let known = g.I.Read.remaining c.args.reader.now in
    let limit = c.args.plan.limit in
    IfOk-weaker c.take_lines.result _ _
    (λ done left part.
    printed-left limit known done.1.lines done.0.catalog
    (subst (λ ahead. HasLeft ahead known done.1.lines (BlockMayNotFit limit done.0.catalog))
    c.ahead.ensures.under (left part)))
    c.take_lines.ensures.left

pub returns-clause-errors : goal.returns-clause-errors
returns-clause-errors g c =
    IfErr-weaker c.take_lines.result _ _
    (λ told ended. elim (refused (g.I.Read.remaining c.args.reader.now) told ended) [
      | inl is ↦ elim (ended-errors (λ lines. lines) (g.I.Read.remaining c.args.reader.now) told is) [
        | inl read ↦ inl read
        | inr (inl room) ↦ inr (inl room)
        | inr (inr often) ↦ inr (inr (inl often))
      ]
      | inr write ↦ inr (inr (inr write))
    ])
    c.take_lines.ensures.refused

pub returns-clause-too_many : goal.returns-clause-too_many
returns-clause-too_many g c = λ is.
    elim (refused (g.I.Read.remaining c.args.reader.now) fault.FullOfLines (IfErr-at_err _ is c.take_lines.ensures.refused)) [
      | inl ended ↦
          ended-too_many (λ lines. lines) (g.I.Read.remaining c.args.reader.now) fault.FullOfLines ended refl
      | inr write ↦ absurd (let wrong : fault.FullOfLines ≡ fault.Write = write in cc)
    ]

pub returns-clause-too_often : goal.returns-clause-too_often
returns-clause-too_often g c = λ is.
    elim (refused (g.I.Read.remaining c.args.reader.now) fault.TooOften (IfErr-at_err _ is c.take_lines.ensures.refused)) [
      | inl ended ↦
          ended-too_often (λ lines. lines) (g.I.Read.remaining c.args.reader.now) fault.TooOften ended
          (λ lines. refl) refl
      | inr write ↦ absurd (let wrong : fault.TooOften ≡ fault.Write = write in cc)
    ]
