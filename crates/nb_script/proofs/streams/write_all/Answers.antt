use Rattle.std.proofs.Common.{◌∙◌, ◌++◌, ap, take, append_assoc, take-append-drop}
use Rattle.std.proofs.KnownBytes.{Appends-trans}
use Rattle.nb_script.proofs.streams.write_all.Goals as goal

pub loop-rest-preserved : goal.loop-rest-preserved
loop-rest-preserved g c =
    let before = c.loop-rest.invariant.0 in
    let rest = c.loop-rest.rest.now in
    let n = c.in_ok-count.count in (
      record {
        written = before.written ++ take n rest;
        all = append_assoc before.written (take n rest) c.split_at.result.1.now
            ∙ ap (λ bs. before.written ++ (take n rest ++ bs)) c.split_at.ensures.back
            ∙ ap (λ bs. before.written ++ bs) (take-append-drop n rest) ∙ before.all;
        appended = Appends-trans _ _ _ before.written (take n rest)
            before.appended c.in_ok-count.ensures.bytes;
      },
      c.in_ok-count.ensures.marks,
    )
