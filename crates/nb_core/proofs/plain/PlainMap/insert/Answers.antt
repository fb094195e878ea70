use Rattle.std.proofs.Common.{◌∙◌, ap, sym}
use Rattle.std.specs.FinMap.{get, insert}
use Rattle.nb_core.proofs.Entries.{get_number, inserted}
use Rattle.nb_core.proofs.plain.PlainMap.insert.Goals as goal
use Rattle.nb_core.proofs.plain.PlainMap.insert.Goals.{in-Ok, in-Err}

pub returns-clause-map : goal.returns-clause-map
returns-clause-map c = elim c.match-insert.branch [
  | in-Ok w ↦ rw w.result-is (inserted c.self.inside.numbers.entries c.insert.new.self.entries
      c.args.key c.args.number w.in-Ok.ensures.updates.0
      ∙ ap (λ m. insert m c.args.key c.args.number) c.self.view_is)
  | in-Err w ↦ rw w.result-is tt
]

pub returns-clause-absent : goal.returns-clause-absent
returns-clause-absent c = elim c.match-insert.branch [
  | in-Ok w ↦ rw w.result-is tt
  | in-Err w ↦ rw w.result-is (sym (ap (λ m. get m c.args.key) c.self.view_is)
      ∙ get_number c.self.inside.numbers.entries c.args.key ∙ w.in-Err.ensures.absent)
]
