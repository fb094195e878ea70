use Rattle.nb_map.proofs.handle.Handle.for_each.Goals as goal

pub returns-clause-swept : goal.returns-clause-swept
returns-clause-swept g c = rw (← c.self.view_is, ← c.deref.ensures) c.for_each.ensures
