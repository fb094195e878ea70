use Rattle.nb_lasting.proofs.Alone.{got-alone}
use Rattle.nb_lasting.proofs.present.Present.get.Goals as goal

pub returns : goal.returns
returns c =
    let done = got-alone c.args.self.now.handle c.get.new.self c.args.key c.get.result
    c.requires.alone c.get.ensures.rest c.get.ensures.got in
    record { alone = done.0; got = done.1 }
