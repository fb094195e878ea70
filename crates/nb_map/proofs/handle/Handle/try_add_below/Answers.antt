use Rattle.nb_map.proofs.handle.Handle.try_add_below.Goals as goal

pub returns-clause-wrote : goal.returns-clause-wrote
returns-clause-wrote c =
    rw (← c.self.view_is, ← c.deref.ensures, ← c.max.ensures) c.try_add_below.ensures
