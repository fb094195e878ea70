use Rattle.std.proofs.Common.{subst, sym}
use Rattle.nb_lasting.specs.Gathered.{IsPartedCounted}
use Rattle.nb_lasting.proofs.gathered.counted.Goals as goal

pub returns : goal.returns
returns g c =
    subst (λ hs. IsPartedCounted c.args.handles.items hs c.join_counted-whole.result.2)
    (sym c.split_handle.ensures) c.join_counted-whole.ensures.counted
