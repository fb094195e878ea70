use Rattle.nb_map.proofs.handle.Handle.retain.Goals as goal

pub returns-clause-swept : goal.returns-clause-swept
returns-clause-swept g c = rw (← c.self.view_is, ← c.deref.ensures) c.retain.ensures
