use Rattle.std.proofs.Common.{◌≡◌, ◌∙◌, ◌*◌, ◌<◌, ap, sym, subst, arith, length}
use mathlib.Core.Option.{none}
use Rattle.atomic_table.specs.Table.{Allows, step}
use Rattle.nb_count.specs.Tallies.{AreSums, HasSummed, served, total, wrapped}
use Rattle.nb_count.specs.declared.tally.TheConstants.{SPREAD}
use Rattle.nb_count.proofs.Settling.{allows-sum}
use Rattle.nb_count.proofs.counter.Counter.look_with_all.Goals as goal

pub load-requires : goal.load-requires
load-requires g c =
    let key = c.self.inside.table.shared.key in
    let slots = c.self.inside.table.shared.table_id.slots in
    let all = c.args.all.now in
    let stripes : c.self.inside.size.stripes ≡ c.args.self.now.stripes
    = ap (λ v. v.stripes) c.self.view_is in
    let key_stripes : key.stripes ≡ c.self.inside.size.stripes
    = ap (λ k. k.stripes) c.self.invariant.key in
    let index = SPREAD * c.args.stripe in
    let below : index < SPREAD * key.stripes
    = omega (arith, c.requires.stripe, key_stripes, stripes) in
    let many : length all.me.0 ≡ key.seats = c.requires.all
    ∙ sym (ap (λ v. v.seats) c.self.view_is) ∙ sym (ap (λ k. k.seats) c.self.invariant.key) in (
      c.requires.table ∙ sym (ap (λ v. v.id) c.self.view_is),
      omega (arith, c.self.invariant.words, c.requires.stripe, stripes),
      subst (λ n. Allows (AreSums key) slots all.id all.me index (λ x. x)
          (HasSummed n (step slots index 0 0 none) all.me))
          (key_stripes ∙ stripes ∙ sym c.requires.stripes)
          (allows-sum key slots all.id all.me index below many),
    )

pub returns-clause-found : goal.returns-clause-found
returns-clause-found g c =
    c.load.ensures.2.1
    ∙ ap (λ n. wrapped (total (served n (SPREAD * c.args.stripe)) c.args.all.now.me.0))
    c.requires.stripes
