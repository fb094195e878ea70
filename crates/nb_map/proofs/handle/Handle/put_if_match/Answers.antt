use Rattle.nb_map.proofs.handle.Handle.put_if_match.Goals as goal

pub returns-clause-wrote : goal.returns-clause-wrote
returns-clause-wrote c =
    rw (← c.self.view_is, ← c.deref.ensures, ← c.max.ensures) c.put_if_match.ensures
