use Rattle.std.proofs.Common.{◌≡◌, ap, refl, subst, sym, None, Some, IfNone, IfSome}
use Rattle.std.specs.Prelude.{option_map}
use Rattle.clap.specs.Words.{found_of}
use Rattle.nb_script.specs.Options.{plan_asked}
use Rattle.nb_script.proofs.FoundLemmas.{text_is}
use Rattle.nb_script.proofs.PlanLemmas.{by_ok}
use Rattle.nb_script.proofs.options.read_tables.Goals as goal

pub returns-in-Some : goal.returns-in-Some
returns-in-Some c =
    let is = text_is (found_of c.args.matches.now) _ (Some c.in-Some.text.now)
    c.get_str.ensures (ap (option_map (λ s. s.now)) c.in-Some.is) in
    record {
      some = subst (λ t. IfSome c.read_plan.result (λ shape.
          plan_asked t c.args.bits c.args.generations c.args.seats c.args.stripes ≡ Some shape))
          (sym is) c.read_plan.ensures.some;
      none = subst (λ t. IfNone c.read_plan.result
          (plan_asked t c.args.bits c.args.generations c.args.seats c.args.stripes ≡ None))
          (sym is) c.read_plan.ensures.none;
    }

pub returns-in-None : goal.returns-in-None
returns-in-None c =
    let is = text_is (found_of c.args.matches.now) _ None
    c.get_str.ensures (ap (option_map (λ s. s.now)) c.in-None.is) in
    let made = by_ok c.new.result _ c.ok.result _ refl c.ok.ensures.value c.new.ensures in
    record {
      some = subst (λ t. IfSome c.ok.result (λ shape.
          plan_asked t c.args.bits c.args.generations c.args.seats c.args.stripes ≡ Some shape))
          (sym is) made.0;
      none = subst (λ t. IfNone c.ok.result
          (plan_asked t c.args.bits c.args.generations c.args.seats c.args.stripes ≡ None))
          (sym is) made.1;
    }
