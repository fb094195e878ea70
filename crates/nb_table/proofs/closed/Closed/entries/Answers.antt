use Rattle.std.proofs.Common.{◌≡◌, ◌∙◌, ◌+◌, ◌≤◌, ap, sym, subst, IfOk, arith}
use Rattle.std.specs.FinMap as map
use Rattle.nb_core.specs.Log.{Numbers}
use Rattle.nb_core.specs.Laws.{AreLinked}
use Rattle.nb_core.specs.Plans.{generations_of}
use Rattle.nb_table.specs.Listing.{IsListing}
use Rattle.nb_table.proofs.Looking.{lawful, law-left}
use Rattle.nb_table.proofs.Listing.{listing-all, listing-first, listing-skip}
use Rattle.nb_table.proofs.closed.Closed.entries.Goals as goal
use Rattle.nb_table.proofs.closed.Closed.entries.Goals.{then-is_installed+in_ok-list_table, else-is_installed}
use Rattle.nb_core.proofs.Theorems.{linked}

pub loop-g-init : goal.loop-g-init
loop-g-init c =
    let closed = c.args.self.now in
    subst (λ g. IsListing closed c.new-found.result g 0) (sym c.top-g.ensures)
    (listing-first closed c.new-found.result c.new-found.ensures)

pub loop-g-preserved : goal.loop-g-preserved
loop-g-preserved c =
    let closed = c.args.self.now in
    let next = λ (found : Numbers). IsListing closed found (c.loop-g.g + 1) 0 in
    elim c.if-is_installed.branch [
      | then-is_installed+in_ok-list_table w ↦ subst next (sym w.found-is)
          w.in_ok-list_table.ensures
      | else-is_installed w ↦
          let is = lawful c.self.inside closed c.self.invariant c.self.view_is in
          let absent = sym w.if-is_installed.false ∙ c.is_installed.ensures in
          subst next (sym w.found-is)
          (listing-skip closed (law-left closed is AreLinked linked)
          c.loop-g.found c.loop-g.g absent
          c.loop-g.invariant)
    ]

pub returns : goal.returns
returns c =
    let closed = c.args.self.now in
    let is = lawful c.self.inside closed c.self.invariant c.self.view_is in
    let whole : generations_of closed.shape ≤ c.loop-g.g
    = omega (arith, c.generations-g-end.ensures, ap (λ v. generations_of v.shape) c.self.view_is) in
    let all = listing-all closed is c.loop-g.found c.loop-g.g whole c.loop-g.invariant in
    subst (λ numbers. IfOk c.entries.result (λ entries. entries.items ≡ map.entries numbers))
    all c.entries.ensures
