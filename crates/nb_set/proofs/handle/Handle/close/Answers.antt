use Rattle.std.proofs.Common.{subst}
use Rattle.nb_set.specs.Ending.{EndedWith, HasTablesLeft}
use Rattle.nb_set.specs.Handles.{HandleOf, seats_of}
use Rattle.nb_set.specs.Sets.{shape_of}
use Rattle.nb_set.proofs.Dealt.{ended-with}
use Rattle.nb_set.proofs.handle.Handle.close.Goals as goal

pub returns-in-Ok-clause-ended : goal.returns-in-Ok-clause-ended
returns-in-Ok-clause-ended g c =
    subst (λ handle. EndedWith (seats_of handle) (record { map = c.in-Ok.map })) c.self.view_is
    (ended-with _ (record { map = c.in-Ok.map }) c.in-Ok.ensures.ended)

pub returns-in-Ok-clause-tables : goal.returns-in-Ok-clause-tables
returns-in-Ok-clause-tables g c =
    subst (λ (handle : HandleOf). HasTablesLeft (shape_of handle.set) (seats_of handle)
    (record { map = c.in-Ok.map })) c.self.view_is c.in-Ok.ensures.tables
