use Rattle.std.proofs.Common.{subst}
use Rattle.nb_texts.specs.Forgetting.{IsMiddle}
use Rattle.nb_texts.proofs.forgetting.kept_of.Goals as goal

pub returns-clause-cut : goal.returns-clause-cut
returns-clause-cut c =
    subst (λ counts. IsMiddle counts c.in_ok-cut.cut) c.as_slice.ensures.value c.in_ok-cut.ensures
