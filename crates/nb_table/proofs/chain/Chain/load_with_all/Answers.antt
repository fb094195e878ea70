use Rattle.std.proofs.Common.{◌≡◌, ◌∙◌, ap, subst, sym, arith}
use Rattle.atomic_table.specs.Table.{Allows}
use Rattle.nb_core.specs.Plans.{IsPlan}
use Rattle.nb_table.specs.Together.{Settles}
use Rattle.nb_table.specs.Views.{IsChained}
use Rattle.nb_table.proofs.Opening.{some-words}
use Rattle.nb_table.proofs.Together.{allows-settle}
use Rattle.nb_table.proofs.Tops.{top-few}
use Rattle.nb_table.proofs.chain.Chain.load_with_all.Goals as goal

pub load-requires : goal.load-requires
load-requires g c =
    let slots = c.self.inside.table.shared.table_id.slots in
    let all = c.args.all.now in
    let p = g.B.Told.shape in
    let same : p ≡ c.self.inside.table.shared.key
    = c.requires.shape ∙ sym (ap (λ v. v.shape) c.self.view_is) ∙ sym c.self.invariant.key in (
      c.requires.token.0 ∙ sym (ap (λ v. v.id) c.self.view_is),
      omega (arith, c.self.invariant.words, some-words c.self.inside.shape),
      subst (λ key. Allows (IsChained key) slots all.id all.me 0 (λ n. n) (Settles p all.me)) same
          (allows-settle p slots all.id all.me c.requires.token.1
          (c.requires.all ∙ sym (ap (λ q. q.seats) c.requires.shape))),
    )

-- what it finds is the number of a table
pub overflow_cast-result : goal.overflow_cast-result
overflow_cast-result g c =
    let plan = subst IsPlan (ap (λ v. v.shape) c.self.view_is) c.self.invariant.plan in
    let s = c.load.ensures.2 in
    omega (
      arith,
      top-few g.B.Told.shape (subst IsPlan (sym c.requires.shape) plan) s.history s.legal,
      s.top,
    )
