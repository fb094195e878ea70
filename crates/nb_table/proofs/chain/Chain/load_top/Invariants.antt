use Rattle.std.proofs.Common.{[]}
use Rattle.nb_table.proofs.chain.Chain.load_top.Given as goal

abbrev pub ghosts-loads : goal.ghosts-loads
ghosts-loads a = record { shape = a.self.now.shape; events = λ found. [] }
