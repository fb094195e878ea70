use Rattle.nb_map_tests.proofs.tests.set.by_handles.apart.Goals as goal

pub returns-in-Ok : goal.returns-in-Ok
returns-in-Ok g c = (_, c.in-Ok.ensures.one)

pub returns-in-Ok-split_all : goal.returns-in-Ok-split_all
returns-in-Ok-split_all g c = (_, c.in-Ok-split_all.ensures.one)
