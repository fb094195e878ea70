use Rattle.std.proofs.Common.{◌≡◌, ◌++◌, codes, decimal, rules, subst}
use Rattle.std.specs.List.{flat_map}
use Rattle.nb_script.specs.Script.{Bytes}
use Rattle.nb_runner.specs.Output.{HasSaid}
use Rattle.nb_runner.specs.Text.{entry_line}
use Rattle.nb_runner.proofs.Saying.{part-failed, said-both}
use Rattle.nb_runner.proofs.output.say_ending.Goals as goal

pub returns-in_err-say_all : goal.returns-in_err-say_all
returns-in_err-say_all g c =
    let number : c.as_bytes-size.result.now ≡ decimal c.args.size = search rules in
    subst (λ (n : Bytes). HasSaid g.W.Sink.contents g.W.Sink.failed c.args.writer.now
    c.say_all.new.writer c.args.waiting.now.items c.say_all.new.waiting.items
    (codes "size " ++ n ++ codes "\n" ++ flat_map entry_line c.args.entries.now)
    c.from_residual.result) number
    (part-failed (flat_map entry_line c.args.entries.now) c.from_residual.result
    c.in_err-say_all.ensures c.from_residual.ensures.0)

pub returns : goal.returns
returns g c =
    let number : c.as_bytes-size.result.now ≡ decimal c.args.size = search rules in
    subst (λ (n : Bytes). HasSaid g.W.Sink.contents g.W.Sink.failed c.args.writer.now
    c.say_entries.new.writer c.args.waiting.now.items c.say_entries.new.waiting.items
    (codes "size " ++ n ++ codes "\n" ++ flat_map entry_line c.args.entries.now)
    c.say_entries.result) number
    (said-both c.in_ok-say_all.ensures c.say_entries.ensures)
