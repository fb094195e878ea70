-- Steps add up, and what they saw stays so.
use Rattle.std.proofs.Common.{◌≡◌, ◌≢◌, ◌∙◌, ℕ, List, [], ◌∷◌, ◌++◌, ap, sym, subst, refl, arith}
use Rattle.std.specs.List.{All}
use Rattle.std.proofs.lemmas.Bool.{eq-eqb, ne_eqb}
use Rattle.std.proofs.lemmas.List.{append-nil, append_assoc}
use Rattle.std.proofs.lemmas.List.Elements.{All-head, All-tail, filter-append}
use Rattle.nb_core.specs.History.{IsLegal, seat_of_event}
use Rattle.nb_core.specs.Tables.{tables_at}
use Rattle.nb_core.specs.Laws.{Lasts}
use Rattle.nb_core.proofs.Theorems.{seen_lasts}
use Rattle.nb_core.specs.declared.events.Event.{Event}
use Rattle.nb_table.specs.Chains.{own_events}
use Rattle.nb_table.specs.Laws.{StepsAddUp}

-- the events of one seat alone are all its own
own-all :
    (number : ℕ) (es : List Event) → All (λ e. seat_of_event e ≡ number) es
    → own_events number es ≡ es
own-all number [] all = refl
own-all number (e ∷ es) all =
    let P : Event → Type 0 = λ e. seat_of_event e ≡ number in
    rw (eq-eqb (seat_of_event e) number (All-head P e es all))
    (ap (λ rest. e ∷ rest) (own-all number es (All-tail P e es all)))

-- and of those of others none is
pub own-none :
    (number : ℕ) (es : List Event) → All (λ e. seat_of_event e ≢ number) es
    → own_events number es ≡ []
own-none number [] none = refl
own-none number (e ∷ es) none =
    let P : Event → Type 0 = λ e. seat_of_event e ≢ number in
    rw (ne_eqb (seat_of_event e) number (All-head P e es none))
    (own-none number es (All-tail P e es none))

pub steps_add_up : StepsAddUp
steps_add_up = record {
  none = λ {chain} {seat} is. record {
    chain = refl;
    number = refl;
    later = [];
    seen = refl;
    own_are = refl;
    legal = is.legal;
    steps = omega arith;
    remembers = record { rises = omega arith; known = λ plan known. known };
  };
  one = λ {p} {before} {after} {own} {count} step. record {
    chain = step.chain;
    number = step.number;
    later = own ++ step.others;
    seen = step.seen ∙ sym (append_assoc own step.others before.seen);
    own_are = filter-append _ own step.others
        ∙ ap (λ es. es ++ own_events before.number step.others)
        (own-all before.number own step.mine)
        ∙ ap (λ es. own ++ es) (own-none before.number step.others step.not_own) ∙ append-nil own;
    legal = step.legal;
    steps = step.steps;
    remembers = step.remembers;
  };
  more = λ {p} {before} {then} {after} {own} {own'} {count} {count'} a b. record {
    chain = b.chain ∙ a.chain;
    number = b.number ∙ a.number;
    later = b.later ++ a.later;
    seen = b.seen ∙ ap (λ h. b.later ++ h) a.seen ∙ sym (append_assoc b.later a.later before.seen);
    own_are = filter-append _ b.later a.later
        ∙ ap (λ es. own_events before.number b.later ++ es) a.own_are
        ∙ ap (λ es. es ++ own) (ap (λ n. own_events n b.later) (sym a.number) ∙ b.own_are);
    legal = b.legal;
    steps = omega (arith, a.steps, b.steps);
    remembers = record {
      rises = omega (arith, a.remembers.rises, b.remembers.rises);
      known = λ plan known. b.remembers.known plan (a.remembers.known plan known);
    };
  };
  own = λ {chain} {before} {after} is grown. record {
    at = grown.chain ∙ is.at;
    plan = is.plan;
    legal = grown.legal;
    known = grown.remembers.known is.plan is.known;
  };
  stays = λ {chain} {before} {after} is grown.
      let p = chain.shape in
      subst (λ h. Lasts p (tables_at p before.seen) (tables_at p h)) (sym grown.seen)
      (seen_lasts p is.plan grown.later before.seen (subst (IsLegal p) grown.seen grown.legal));
}
