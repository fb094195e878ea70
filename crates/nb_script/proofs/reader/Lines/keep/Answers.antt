use Rattle.std.proofs.Common.{◌≡◌, [], rules}
use Rattle.nb_script.proofs.Reading.{after_push, joined_ended}
use Rattle.nb_script.proofs.reader.Lines.keep.Goals as goal

pub returns-in-PhaseEnd-clause-ok : goal.returns-in-PhaseEnd-clause-ok
returns-in-PhaseEnd-clause-ok c =
    after_push _ c.map_err-in-PhaseEnd.result _ _ _ c.map_err-in-PhaseEnd.ensures.variant
    c.push-pushed-in-PhaseEnd.ensures.items (λ pushed lines.
    let empty : c.replace-phase.new.dest.items ≡ [] = search rules in
    let phase : c.replace-phase.result.items ≡ c.args.self.now.current.items = search rules in
    rw (c.in-PhaseEnd.is, pushed, empty)
    (joined_ended c.args.self.now.over.items c.replace-phase.result
    c.args.self.now.current.items lines phase))
