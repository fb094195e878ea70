use Rattle.std.proofs.Common.{[]}
use Rattle.nb_table.proofs.chain.Chain.settle_token.Given as goal

abbrev pub ghosts-load_with_all : goal.ghosts-load_with_all
ghosts-load_with_all a = record { shape = a.self.now.shape; events = λ found. [] }
