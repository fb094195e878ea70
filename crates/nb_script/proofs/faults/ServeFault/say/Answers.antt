use Rattle.std.proofs.Common.{◌≡◌, ◌++◌, codes, decimal, rules}
use Rattle.std.proofs.KnownBytes.{Appends-trans}
use Rattle.std.proofs.lemmas.Result.{IfErr-weaker}
use Rattle.nb_script.specs.Faults.{cause_text, fault_text}
use Rattle.nb_script.proofs.Begun.{begun_first, begun_second, whole_begun}
use Rattle.nb_script.proofs.faults.ServeFault.say.Goals as goal

pub returns-in_err-write_all-in-Run-Line-clause-begun :
    goal.returns-in_err-write_all-in-Run-Line-clause-begun
returns-in_err-write_all-in-Run-Line-clause-begun g c =
    let digits = decimal c.in-Run-Line.number in
    let cause = cause_text c.in-Run-Line.cause in
    let text : fault_text c.args.self ≡ codes "line " ++ digits ++ codes ": " ++ cause =
    search rules in
    whole_begun _ _ _ _ c.from_residual.result text
    (begun_first _ _ (codes "line " ++ digits ++ codes ": ") cause
    (begun_first _ _ (codes "line " ++ digits) (codes ": ")
    (begun_first _ _ (codes "line ") digits c.in_err-write_all-in-Run-Line.ensures.begun)))

pub returns-in_err-write_all-in-Run-Line-2-clause-begun :
    goal.returns-in_err-write_all-in-Run-Line-2-clause-begun
returns-in_err-write_all-in-Run-Line-2-clause-begun g c =
    let digits = c.as_bytes.result.now in
    let cause = cause_text c.in-Run-Line.cause in
    let text : fault_text c.args.self ≡ codes "line " ++ digits ++ codes ": " ++ cause =
    search rules in
    whole_begun _ _ _ _ c.from_residual-in_err-write_all-in-Run-Line-2.result text
    (begun_first _ _ (codes "line " ++ digits ++ codes ": ") cause
    (begun_first _ _ (codes "line " ++ digits) (codes ": ")
    (begun_second _ _ _ (codes "line ") digits c.in_ok-write_all-in-Run-Line.ensures.written
    c.in_err-write_all-in-Run-Line-2.ensures.begun)))

pub returns-in_err-write_all-in-Run-Line-3-clause-begun :
    goal.returns-in_err-write_all-in-Run-Line-3-clause-begun
returns-in_err-write_all-in-Run-Line-3-clause-begun g c =
    let digits = c.as_bytes.result.now in
    let cause = cause_text c.in-Run-Line.cause in
    let text : fault_text c.args.self ≡ codes "line " ++ digits ++ codes ": " ++ cause =
    search rules in
    whole_begun _ _ _ _ c.from_residual-in_err-write_all-in-Run-Line-3.result text
    (begun_first _ _ (codes "line " ++ digits ++ codes ": ") cause
    (begun_second _ _ _ (codes "line " ++ digits) (codes ": ")
    (Appends-trans _ _ _ (codes "line ") digits c.in_ok-write_all-in-Run-Line.ensures.written
    c.in_ok-write_all-in-Run-Line-2.ensures.written)
    c.in_err-write_all-in-Run-Line-3.ensures.begun))

pub returns-in_ok-write_all-in-Run-Line-3-clause-begun :
    goal.returns-in_ok-write_all-in-Run-Line-3-clause-begun
returns-in_ok-write_all-in-Run-Line-3-clause-begun g c =
    let digits = c.as_bytes.result.now in
    let cause = c.as_bytes-in-Run-Line.result.now in
    let text : fault_text c.args.self ≡ codes "line " ++ digits ++ codes ": " ++ cause =
    search rules in
    rw text
    (IfErr-weaker c.write_all-in-Run-Line-4.result _ _
    (λ _ some. begun_second _ _ _ (codes "line " ++ digits ++ codes ": ") cause
    (Appends-trans _ _ _ (codes "line " ++ digits) (codes ": ")
    (Appends-trans _ _ _ (codes "line ") digits c.in_ok-write_all-in-Run-Line.ensures.written
    c.in_ok-write_all-in-Run-Line-2.ensures.written)
    c.in_ok-write_all-in-Run-Line-3.ensures.written) some)
    c.write_all-in-Run-Line-4.ensures.begun)
