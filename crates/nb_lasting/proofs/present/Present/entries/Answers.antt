use Rattle.nb_lasting.proofs.Alone.{kept-alone, listed-alone}
use Rattle.nb_lasting.proofs.present.Present.entries.Goals as goal

pub returns-in-Ok : goal.returns-in-Ok
returns-in-Ok c =
    let kept = kept-alone c.args.self.now.handle c.entries.new.self c.requires.alone
    c.entries.ensures.kept in
    record {
      alone = kept.0;
      kept = kept.1;
      entries = listed-alone c.args.self.now.handle c.entries.new.self c.in-Ok.entries.items
          c.requires.alone c.in-Ok.ensures.listed;
    }

pub returns-in-Err : goal.returns-in-Err
returns-in-Err c =
    let kept = kept-alone c.args.self.now.handle c.entries.new.self c.requires.alone
    c.entries.ensures.kept in
    record { alone = kept.0; kept = kept.1; entries = tt }
