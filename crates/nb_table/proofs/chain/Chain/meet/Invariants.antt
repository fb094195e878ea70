use Rattle.std.proofs.Common.{[]}
use Rattle.nb_table.proofs.chain.Chain.meet.Given as goal

abbrev pub ghosts-hears : goal.ghosts-hears
ghosts-hears a = record { shape = a.self.now.shape; events = λ found. [] }
