use Rattle.std.proofs.Common.{◌≡◌, ◌∙◌, ◌-◌, ◌<◌, ℕ, ap, sym, Some, None, arith}
use Rattle.nb_core.specs.Plans.{generations_of}
use Rattle.nb_core.specs.Meaning.{shown_from}
use Rattle.nb_core.specs.Laws.{AreLinked}
use Rattle.nb_core.specs.Tables.{IsComplete}
use Rattle.nb_core.specs.declared.states.ValueState.TheVariants.{Live, Primed}
use Rattle.nb_table.specs.Left.{tables_left}
use Rattle.nb_table.proofs.Looking.{lawful, law-left, passes-final, passes-primed, primed-next, shown-absent, shown-from-top, shown-value, shows-none, shows-primed}
use Rattle.nb_table.proofs.closed.Closed.shown.Goals as goal
use Rattle.nb_table.proofs.closed.Closed.shown.Goals.{in-Some+in-Primed+else-is_blank_in, in-Some+in-PrimedNull, in_default}
use Rattle.nb_core.proofs.Theorems.{linked, top_complete}

pub loop-g-init : goal.loop-g-init
loop-g-init c =
    let closed = c.args.self.now in
    let is = lawful c.self.inside closed c.self.invariant c.self.view_is in
    let complete = law-left closed is (λ p t. (g : ℕ) → g < t.top → (g < generations_of p)
    × IsComplete p t g) top_complete in
    shown-from-top closed.shape (tables_left closed) c.args.key
    (law-left closed is AreLinked linked) complete c.top-g.result
    (omega (arith, c.top-g.ensures))

pub returns-then-not-is_installed-clause-number : goal.returns-then-not-is_installed-clause-number
returns-then-not-is_installed-clause-number c =
    let closed = c.args.self.now in
    let within : c.loop-g.g < generations_of closed.shape
    = omega (arith, c.generations-g-end.ensures, ap (λ v. generations_of v.shape) c.self.view_is) in
    let absent = sym c.if-not-is_installed.true ∙ c.is_installed.ensures in
    sym (c.loop-g.invariant ∙ shown-absent closed.shape (tables_left closed)
    c.args.key c.loop-g.g within absent)

pub returns-in-Null-clause-number : goal.returns-in-Null-clause-number
returns-in-Null-clause-number c =
    let closed = c.args.self.now in
    let within : c.loop-g.g < generations_of closed.shape
    = omega (arith, c.generations-g-end.ensures, ap (λ v. generations_of v.shape) c.self.view_is) in
    let here = shown-value closed.shape (tables_left closed) c.args.key c.loop-g.g within in
    let installed = sym c.if-not-is_installed.false ∙ c.is_installed.ensures in
    sym (c.loop-g.invariant ∙ here (Some c.in-Some.value) installed c.in-Some.ensures
    ∙ shows-none _ _ c.in-Some.value c.in-Null.is)

pub returns-in-Live-clause-number : goal.returns-in-Live-clause-number
returns-in-Live-clause-number c =
    let closed = c.args.self.now in
    let within : c.loop-g.g < generations_of closed.shape
    = omega (arith, c.generations-g-end.ensures, ap (λ v. generations_of v.shape) c.self.view_is) in
    let here = shown-value closed.shape (tables_left closed) c.args.key c.loop-g.g within in
    let installed = sym c.if-not-is_installed.false ∙ c.is_installed.ensures in
    sym (c.loop-g.invariant ∙ here (Some (Live c.in-Live.number)) installed
    (ap Some (sym c.in-Live.is) ∙ c.in-Some.ensures))

pub is_blank_in-requires : goal.is_blank_in-requires
is_blank_in-requires c =
    let closed = c.args.self.now in
    let within : c.loop-g.g < generations_of closed.shape
    = omega (arith, c.generations-g-end.ensures, ap (λ v. generations_of v.shape) c.self.view_is) in
    let is = lawful c.self.inside closed c.self.invariant c.self.view_is in
    primed-next closed.shape (tables_left closed) c.loop-g.g c.args.key within
    (law-left closed is AreLinked linked)
    c.in-Primed.number (ap Some (sym c.in-Primed.is) ∙ c.in-Some.ensures)

pub returns-then-is_blank_in-clause-number : goal.returns-then-is_blank_in-clause-number
returns-then-is_blank_in-clause-number c =
    let closed = c.args.self.now in
    let within : c.loop-g.g < generations_of closed.shape
    = omega (arith, c.generations-g-end.ensures, ap (λ v. generations_of v.shape) c.self.view_is) in
    let here = shown-value closed.shape (tables_left closed) c.args.key c.loop-g.g within in
    let installed = sym c.if-not-is_installed.false ∙ c.is_installed.ensures in
    sym (c.loop-g.invariant
    ∙ here (Some (Primed c.in-Primed.number)) installed (ap Some (sym c.in-Primed.is)
    ∙ c.in-Some.ensures)
    ∙ shows-primed _ _ c.in-Primed.number (sym c.is_blank_in.ensures ∙ c.if-is_blank_in.true))

pub loop-g-preserved : goal.loop-g-preserved
loop-g-preserved c =
    let closed = c.args.self.now in
    let within : c.loop-g.g < generations_of closed.shape
    = omega (arith, c.generations-g-end.ensures, ap (λ v. generations_of v.shape) c.self.view_is) in
    let here = shown-value closed.shape (tables_left closed) c.args.key c.loop-g.g within in
    let installed = sym c.if-not-is_installed.false ∙ c.is_installed.ensures in
    c.loop-g.invariant ∙ elim c.match-value_in.branch [
      | in-Some+in-Primed+else-is_blank_in w ↦
          here (Some (Primed w.in-Primed.number)) installed (ap Some (sym w.in-Primed.is)
          ∙ w.in-Some.ensures)
          ∙ passes-primed _ _ w.in-Primed.number (sym w.is_blank_in.ensures
          ∙ w.if-is_blank_in.false)
      | in-Some+in-PrimedNull w ↦
          here (Some w.in-Some.value) installed w.in-Some.ensures
          ∙ passes-final _ _ w.in-Some.value w.in-PrimedNull.is
      | in_default w ↦ here None installed w.in_default.ensures
    ]

pub returns-clause-number : goal.returns-clause-number
returns-clause-number c =
    let closed = c.args.self.now in
    let none : generations_of closed.shape - c.loop-g.g ≡ 0
    = omega (arith, c.generations-g-end.ensures, ap (λ v. generations_of v.shape) c.self.view_is) in
    sym (c.loop-g.invariant
    ∙ ap (shown_from closed.shape (tables_left closed) c.args.key c.loop-g.g) none)
