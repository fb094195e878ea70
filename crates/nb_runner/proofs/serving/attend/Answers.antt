use Rattle.std.proofs.Common.{inr, refl, rules}
use Rattle.nb_runner.proofs.serving.attend.Goals as goal

pub returns-clause-fault : goal.returns-clause-fault
returns-clause-fault g c =
    inr (record {
      text = c.in-Err-Help.text;
      asked = search rules;
      untouched = refl;
      told =
          search rules;
    })

pub returns-in-Ok-write_all-clause-ok : goal.returns-in-Ok-write_all-clause-ok
returns-in-Ok-write_all-clause-ok g c = inr
    (record {
      text = c.in-Err-Help.text;
      asked = search rules;
      untouched = search rules;
      told =
          search rules;
    })
