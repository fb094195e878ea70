use Rattle.std.proofs.Common.{◌∙◌, Some, ap, refl, subst, sym}
use Rattle.nb_ffi.specs.Closing.{IsHandedBack}
use Rattle.nb_ffi.specs.Telling.IsClose.{Closed, Lacks, Lost}
use Rattle.nb_ffi.proofs.exports.handles.samvolip_close.Goals as goal

pub returns-in-Ok : goal.returns-in-Ok
returns-in-Ok c = Closed refl c.take.result.value c.take.ensures.taken c.take.ensures.empty
    c.in-Ok.left.value c.fill.ensures c.in-Ok.ensures.ended

pub returns-in-Err-NotAllSeats : goal.returns-in-Err-NotAllSeats
returns-in-Err-NotAllSeats c =
    let refused = subst (IsHandedBack c.take.result.value) c.in-Err-NotAllSeats.field-0-is
    c.in-Err-NotAllSeats.ensures.refused in
    Lacks refl c.take.result.value c.take.ensures.taken refused.1
    (c.fill-in-Err-NotAllSeats.ensures ∙ ap Some refused.0 ∙ sym c.take.ensures.taken) refl

pub returns-in-Err-Lost : goal.returns-in-Err-Lost
returns-in-Err-Lost c =
    let refused = subst (IsHandedBack c.take.result.value) c.in-Err-Lost.field-0-is
    c.in-Err-Lost.ensures.refused in
    Lost refl c.take.result.value c.take.ensures.taken refused c.take.ensures.empty refl
