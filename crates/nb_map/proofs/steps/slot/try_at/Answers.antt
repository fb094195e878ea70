use Rattle.std.proofs.Common.{◌∙◌, ◌-◌, Some, sym, subst, arith}
use Rattle.nb_core.specs.History.{key_of_call}
use Rattle.nb_map.specs.inside.Writing.{IsDecided}
use Rattle.nb_map.proofs.Tried.{HasTried, last-made, last-tried, none-of, on-ok, shown-decided, shown-none, shown-some, tried-as, tried-first, tried-left, tried-lost, tried-none, tried-primed, tried-won}
use Rattle.nb_map.proofs.Made.{made-within}
use Rattle.nb_map.proofs.Rungs.{slot-stays}
use Rattle.nb_map.proofs.Spent.{no-read, spent-later}
use Rattle.nb_map.proofs.steps.slot.try_at.Given.{Over}
use Rattle.nb_map.proofs.steps.slot.try_at.Goals as goal
use Rattle.nb_map.proofs.steps.slot.try_at.Goals.{In-Some-shows}
use Rattle.nb_table.proofs.Theorems.{steps_add_up}

pub loop-number-init : goal.loop-number-init
loop-number-init g c = record {
  tried = tried-first c.args.chain.now c.args.slot c.load_value_word_at-from.result c.args.tries.now
      c.load_value_word_at-from.ensures.grows c.load_value_word_at-from.ensures.found;
  some = c.requires.some;
  looked = omega (arith, c.load_value_word_at-from.ensures.grows.steps);
  serves = c.requires.serves;
}

-- ---- what was found decides the call

pub returns-in-Leave-clause-made : goal.returns-in-Leave-clause-made
returns-in-Leave-clause-made g c =
    let tried = tried-as (sym c.shows.ensures ∙ c.in-Some.is) c.loop-number.invariant.tried in
    let left = subst (IsDecided c.args.call.now c.in-Some.number) c.in-Leave.is c.decide.ensures in
    made-within _ _ (omega arith)
    (tried-left c.args.chain.now c.requires.at tried c.in-Leave.reply left.0 left.1)

pub returns-in-Leave-clause-spent : goal.returns-in-Leave-clause-spent
returns-in-Leave-clause-spent g c = c.loop-number.invariant.tried.spent

pub returns-in-Leave-clause-looked : goal.returns-in-Leave-clause-looked
returns-in-Leave-clause-looked g c = c.loop-number.invariant.looked

pub returns-in-Leave-clause-serves : goal.returns-in-Leave-clause-serves
returns-in-Leave-clause-serves g c = c.loop-number.invariant.serves

pub returns-in-Overflow : goal.returns-in-Overflow
returns-in-Overflow g c =
    let chain = c.args.chain.now in
    let tried = tried-as (sym c.shows.ensures ∙ c.in-Some.is) c.loop-number.invariant.tried in
    let refused = subst (IsDecided c.args.call.now c.in-Some.number) c.in-Overflow.is
    c.decide.ensures in
    let here = slot-stays chain c.requires.at tried.made in
    record {
      made = made-within _ _ (omega arith)
          (tried-none chain c.requires.at tried refused.0);
      tried = (
        refused.1 _
            (shown-decided chain c.loop-number.seat here.own c.args.slot.g c.args.slot.i
            (key_of_call c.args.call.now) here.slot.slot here.reached here.claimed _ c.in-Some.number
            tried.held tried.shows),
        no-read c.args.call.now c.in-Some.number refused.0,
      );
      spent = tried.spent;
      looked = c.loop-number.invariant.looked;
      serves = c.loop-number.invariant.serves;
    }

-- ---- an exchange

pub before_exchange-requires : goal.before_exchange-requires
before_exchange-requires g c = record { serves = c.loop-number.invariant.serves }

pub win_value_at-requires : goal.win_value_at-requires
win_value_at-requires g c =
    let tried = tried-as (sym c.shows.ensures ∙ c.in-Some.is) c.loop-number.invariant.tried in
    let here = slot-stays c.args.chain.now c.requires.at tried.made in
    let value = shown-some _ c.in-Some.number tried.shows in
    let decided = subst (IsDecided c.args.call.now c.in-Some.number) c.in-Exchange.is
    c.decide.ensures in
    record {
      own = here.own;
      slot = here.slot;
      reached = here.reached;
      claimed = here.claimed;
      unprimed = value.0;
      exchange = decided.2 _ value.0 value.1;
    }

pub returns-in_default-win_value_at : goal.returns-in_default-win_value_at
returns-in_default-win_value_at g c =
    let tried = tried-as (sym c.shows.ensures ∙ c.in-Some.is) c.loop-number.invariant.tried in
    let decided = subst (IsDecided c.args.call.now c.in-Some.number) c.in-Exchange.is
    c.decide.ensures in
    let won = (on-ok c.win_value_at.result c.in_default-win_value_at.not-Err c.win_value_at.ensures.won).0 in
    record {
      made = made-within _ _ (omega arith)
          (tried-won c.args.chain.now c.requires.at tried decided.0 won);
      tried = sym decided.1;
      spent = spent-later tried.spent tried.made.grown (steps_add_up.one won);
      looked = omega (arith, c.loop-number.invariant.looked, won.steps);
      serves = c.before_exchange.ensures.serves;
    }

-- ---- an exchange that was lost to another write

-- what was tried then
lost :
    (g : Over) (c : In-Some-shows g)
    → HasTried c.args.chain.now.shape c.args.call.now c.args.seat.now c.win_value_at.new.seat
    c.args.slot c.args.tries.now (c.loop-number.tries - 1) c.in-Err.found (Some c.in-Some-shows.shown)
lost g c =
    let tried = tried-as (sym c.shows.ensures ∙ c.in-Some.is) c.loop-number.invariant.tried in
    let acts = (subst (IsDecided c.args.call.now c.in-Some.number) c.in-Exchange.is
    c.decide.ensures).0 in
    let other = c.in-Err.ensures.lost in
    tried-lost c.args.chain.now c.requires.at tried c.in-Err.found acts other.1 other.2
    c.in-Some-shows.shown other.0 (sym c.shows-in-Exchange.ensures ∙ c.in-Some-shows.is)
    c.loop-number.invariant.some

pub returns-then-tries-eq0 : goal.returns-then-tries-eq0
returns-then-tries-eq0 g c =
    let tried = lost g (goal.at.returns-then-tries-eq0 g c).In-Some-shows in
    record {
      made = last-made c.args.chain.now c.requires.at tried c.without_tries.result
          c.without_tries.ensures;
      tried = last-tried c.args.chain.now c.requires.at tried c.without_tries.result
          c.if-tries-eq0.true c.without_tries.ensures;
      spent = tried.spent;
      looked = omega (arith, c.loop-number.invariant.looked, c.in-Err.ensures.lost.1.steps);
      serves = c.before_exchange.ensures.serves;
    }

pub loop-number-preserved-else-tries-eq0 : goal.loop-number-preserved-else-tries-eq0
loop-number-preserved-else-tries-eq0 g c =
    let shows = sym c.shows-in-Exchange.ensures ∙ c.in-Some-shows.is in
    record {
      tried = tried-as (sym shows)
          (lost g (goal.at.loop-number-preserved-else-tries-eq0 g c).In-Some-shows);
      some = omega (arith, c.if-tries-eq0.false);
      looked = omega (arith, c.loop-number.invariant.looked, c.in-Err.ensures.lost.1.steps);
      serves = c.after_loss.ensures.serves;
    }

pub after_loss-requires : goal.after_loss-requires
after_loss-requires g c = record { serves = c.before_exchange.ensures.serves }

-- ---- or to a copier

pub loop-number-preserved : goal.loop-number-preserved
loop-number-preserved g c =
    let tried = tried-as (sym c.shows.ensures ∙ c.in-Some.is) c.loop-number.invariant.tried in
    let acts = (subst (IsDecided c.args.call.now c.in-Some.number) c.in-Exchange.is
    c.decide.ensures).0 in
    let none = sym c.shows-in-Exchange.ensures
    ∙ none-of c.shows-in-Exchange.result c.in_default-shows.not-Some in
    let other = c.in-Err.ensures.lost in
    record {
      tried = tried-as (sym none)
          (tried-primed c.args.chain.now c.requires.at tried c.in-Err.found acts other.1 other.2
          none);
      some = c.loop-number.invariant.some;
      looked = omega (arith, c.loop-number.invariant.looked, c.in-Err.ensures.lost.1.steps);
      serves = c.before_exchange.ensures.serves;
    }

-- ---- a value that is primed

pub returns : goal.returns
returns g c =
    let tried = c.loop-number.invariant.tried in
    let none = sym c.shows.ensures ∙ none-of c.shows.result c.in_default.not-Some in
    record {
      made = made-within _ _ (omega arith) (tried-as none tried).made;
      tried = (shown-none _ none, tried.held, c.loop-number.invariant.some);
      spent = tried.spent;
      looked = c.loop-number.invariant.looked;
      serves = c.loop-number.invariant.serves;
    }
