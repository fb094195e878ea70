use Rattle.nb_core.specs.declared.calls.Call.TheVariants.{Write}
use Rattle.nb_lasting.proofs.Alone.{wrote-alone}
use Rattle.nb_lasting.proofs.present.Present.write_here.Goals as goal

pub returns : goal.returns
returns c =
    let done = wrote-alone c.args.self.now.handle c.put_if_match.new.self
    (Write c.args.key c.args.want.now c.args.change.now) c.put_if_match.result
    c.requires.alone c.put_if_match.ensures.rest c.put_if_match.ensures.wrote in
    record { alone = done.0; wrote = done.1; kept = done.2; refused = done.3 }
