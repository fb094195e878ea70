use Rattle.std.proofs.Common.{◌++◌, codes, refl}
use Rattle.std.proofs.KnownBytes.{Appends-trans}
use Rattle.std.proofs.lemmas.Result.{IfErr-weaker}
use Rattle.nb_script.specs.Faults.{fault_text}
use Rattle.nb_script.proofs.Begun.{begun_first, begun_second, whole_begun}
use Rattle.nb_script.proofs.faults.ServeFault.complain.Goals as goal

pub returns-in_err-write_all-clause-begun : goal.returns-in_err-write_all-clause-begun
returns-in_err-write_all-clause-begun g c =
    whole_begun _ _ (codes "nbrun: " ++ fault_text c.args.self ++ codes "\n") _
    c.from_residual.result refl
    (begun_first _ _ (codes "nbrun: " ++ fault_text c.args.self) (codes "\n")
    (begun_first _ _ (codes "nbrun: ") (fault_text c.args.self) c.in_err-write_all.ensures.begun))

pub returns-in_err-say-clause-begun : goal.returns-in_err-say-clause-begun
returns-in_err-say-clause-begun g c =
    whole_begun _ _ (codes "nbrun: " ++ fault_text c.args.self ++ codes "\n") _
    c.from_residual-in_err-say.result refl
    (begun_first _ _ (codes "nbrun: " ++ fault_text c.args.self) (codes "\n")
    (begun_second _ _ _ (codes "nbrun: ") (fault_text c.args.self)
    c.in_ok-write_all.ensures.written c.in_err-say.ensures.begun))

pub returns-clause-begun : goal.returns-clause-begun
returns-clause-begun g c =
    IfErr-weaker c.write_all-2.result _ _
    (λ _ some. begun_second _ _ _ (codes "nbrun: " ++ fault_text c.args.self) (codes "\n")
    (Appends-trans _ _ _ (codes "nbrun: ") (fault_text c.args.self)
    c.in_ok-write_all.ensures.written c.in_ok-say.ensures.said) some)
    c.write_all-2.ensures.begun
