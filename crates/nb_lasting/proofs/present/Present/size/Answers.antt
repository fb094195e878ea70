use Rattle.nb_lasting.proofs.Alone.{settled-alone}
use Rattle.nb_lasting.proofs.present.Present.size.Goals as goal

pub returns-in-Ok : goal.returns-in-Ok
returns-in-Ok c =
    let done = settled-alone c.args.self.now.handle c.settle.new.self c.in-Ok.size
    c.requires.alone c.settle.ensures.map c.in-Ok.ensures.settled in
    record { alone = done.0; kept = done.1; size = done.2 }
