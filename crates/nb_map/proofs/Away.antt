-- A write that looked at its key's home slot in vain, and then goes the general way.
use Rattle.std.proofs.Common.{◌≡◌, ◌∙◌, ℕ, ◌+◌, ◌≤◌, List, [], inl, inr, ap, refl, subst, arith, Ok, Err}
use Rattle.nb_core.specs.History.{key_of_call}
use Rattle.nb_core.specs.Meaning.{net_of_call}
use Rattle.nb_core.specs.declared.calls.Call.{Call}
use Rattle.nb_core.specs.declared.calls.Reply.{Reply}
use Rattle.nb_core.specs.declared.events.Event.{Event}
use Rattle.nb_table.specs.Chains.{ChainOf, Grown, SeenBy}
use Rattle.nb_map.proofs.AtHome.{last-before, put-rises, whole-bound}
use Rattle.nb_map.proofs.Counted.{counted-mine, uncounted-mine}
use Rattle.nb_map.proofs.Home.{home-before}
use Rattle.nb_map.proofs.Logged.{logged, logged-then, worked-uncounted}
use Rattle.nb_map.proofs.Made.{made-own, made-stays, made-within}
use Rattle.nb_map.proofs.Searched.{made-then}
use Rattle.nb_map.proofs.Spent.{just-longer, passed-sum}
use Rattle.nb_map.proofs.Straight.{at-known}
use Rattle.nb_map.specs.Calling.{HasMade}
use Rattle.nb_map.specs.Logs.{HasLogged}
use Rattle.nb_map.specs.Maps.{IsMine, MapOf, SeatOf, accounted}
use Rattle.nb_map.specs.Progress.{IsAloneAtHome, IsShortAtHome, Limit, Tries, Unlimited, passed_since, within}
use Rattle.nb_map.specs.Promises.{Found, HasAnswered, HasWritten, Matched, Outcome, Refused, Replied}
use Rattle.nb_map.specs.Refusals.{AreAllTries, HasRefused, IsJust}
use Rattle.nb_map.specs.Steps.{put_steps}
use Rattle.nb_map.specs.declared.faults.PutFault.TheVariants.{ValueRange}
use Rattle.nb_map.specs.declared.faults.PutFault.{PutFault}
use Rattle.nb_map.specs.declared.map.straight.Straight.TheVariants.{GoesOn, Made, Overflow}
use Rattle.nb_map.specs.declared.map.straight.Straight.{Straight}
use Rattle.nb_map.specs.inside.Waiting.{CantOverflow, HasBeenTold, HasClimbed, HasGoneOn, HasGoneStraight, HasLookedInVain, HasYetToWrite, IsStopped, LeavesTries, general_steps}

-- ---- what is left of the tries

-- both ways together lose no more exchanges than the write may
lost-within :
    (limit left : Limit) (lost passed passed' : ℕ) → LeavesTries limit lost left → lost ≤ passed
    → lost + within left passed' ≤ within limit (passed + passed' + 1)
lost-within Unlimited Unlimited lost passed passed' rest few = omega (arith, few)
lost-within Unlimited (Tries left) lost passed passed' rest few = absurd rest
lost-within (Tries tries) Unlimited lost passed passed' rest few = absurd rest
lost-within (Tries tries) (Tries left) lost passed passed' rest few = omega (arith, rest, few)

-- and have lost all tries where the general way has lost those that were left
lost-all :
    (limit left : Limit) (lost passed passed' : ℕ) → LeavesTries limit lost left → lost ≤ passed
    → AreAllTries left passed' → AreAllTries limit (passed + passed')
lost-all Unlimited Unlimited lost passed passed' rest few all = all
lost-all Unlimited (Tries left) lost passed passed' rest few all = absurd rest
lost-all (Tries tries) Unlimited lost passed passed' rest few all = absurd rest
lost-all (Tries tries) (Tries left) lost passed passed' rest few all =
    omega (arith, rest, few, all)

-- ---- on the tables

module _ (chain : ChainOf) {call : Call} {before then : SeenBy} {lost : ℕ}
    (away : HasLookedInVain chain call before then lost) where
  module _ (limit left : Limit) (rest : LeavesTries limit lost left) where
    -- both ways together take no more steps than a write may
    pub made-both :
        {after : SeenBy} {calls : List (Call × Reply)}
        → HasMade chain.shape call then after calls
        (general_steps chain.shape left (passed_since call then after))
        → HasMade chain.shape call before after calls
        (put_steps chain.shape (within limit (passed_since call before after + 1)))
    made-both {after} made =
        made-within _ _
        (whole-bound chain.shape away.own.plan before.top lost
        (within left (passed_since call then after))
        (within limit (passed_since call before after + 1))
        (at-known chain before.top away.own refl call).table
        (subst (λ passed. lost + within left (passed_since call then after)
        ≤ within limit (passed + 1)) (passed-sum call away.made.grown made.grown)
        (lost-within limit left lost _ _ rest away.passed)))
        (made-then away.own away.made made)

    -- what is just for the tries that are left is just for all
    pub just-both :
        {after : SeenBy} {own : List Event} {count : ℕ} → Grown chain.shape then after own count
        → (fault : PutFault)
        → IsJust chain.shape call then after left fault → IsJust chain.shape call before after limit fault
    just-both grown =
        just-longer chain.shape call limit left away.made.grown grown
        (lost-all limit left lost _ _ rest away.passed)

  -- and it wasn't alone at home
  pub short-both :
      {after : SeenBy} {calls : List (Call × Reply)} {most : ℕ}
      → HasMade chain.shape call then after calls most
      → IsShortAtHome chain.shape call before after
  short-both {after} made =
      let p = chain.shape in
      let mine = made-own chain away.own away.made in
      let here : IsAloneAtHome p before.top call before after
      → IsAloneAtHome p before.top call before then = λ alone. record {
        home = home-before p _ _ (made-stays chain mine made) before.top (key_of_call call)
            (at-known chain before.top away.own refl call).table alone.home;
        alone = omega (arith, alone.alone, passed-sum call away.made.grown made.grown);
      } in
      record {
        three_steps = λ alone way. absurd (away.away (here alone) (inl way));
        five_steps = λ alone last.
            absurd (away.away (here alone) (inr (last-before before.top mine made.grown last)));
      }

-- ---- on the map

module _ {map : MapOf} {call : Call} {before after : SeatOf} {limit : Limit} (mine : IsMine map before)
  where
    -- the general way has made the write, and what that did to the number of keys is counted
    pub made_on :
        (reply : Reply)
        → HasClimbed map.chain.shape call before.chain after.chain limit (Ok reply)
        → after.count ≡ accounted (net_of_call call reply) before.count
        → HasGoneOn map call before after limit (Replied reply)
    made_on reply climbed counted = record {
      answered = logged mine climbed.made;
      worked = record { steps = (_, climbed.made); net = net_of_call call reply; count = counted };
      own = counted-mine reply mine climbed.made counted;
    }

    -- or the write is refused there
    pub stopped_on :
        (fault : PutFault)
        → HasClimbed map.chain.shape call before.chain after.chain limit (Err fault)
        → after.count ≡ before.count → HasGoneOn map call before after limit (Refused fault)
    stopped_on fault climbed same = record {
      answered = record { unmade = logged mine climbed.made; just = climbed.refused };
      worked = worked-uncounted climbed.made same;
      own = uncounted-mine mine climbed.made same refl;
    }

-- ---- the straight way

-- with one try at least
module _ {map : MapOf} {call : Call} {before after : SeatOf} (limit : Limit)
    (some : (passed : ℕ) → 1 ≤ within limit (passed + 1)) (mine : IsMine map before) where
  -- it has made the write, and what that did to the number of keys is counted
  pub made_straight :
      (reply : Reply)
      → HasBeenTold map.chain.shape call before.chain after.chain (Ok reply)
      → after.count ≡ accounted (net_of_call call reply) before.count
      → HasWritten map call before after limit (Replied reply)
  made_straight reply told counted = record {
    answered = logged mine told.made;
    non_blocking = record {
      steps = (_, made-within _ _ (put-rises map.chain.shape 1 _ (some _)) told.made);
      net = net_of_call call reply;
      count = counted;
    };
    short = told.short;
    own = counted-mine reply mine told.made counted;
  }

  -- or the write is refused there
  pub stopped_straight :
      HasBeenTold map.chain.shape call before.chain after.chain (Err ValueRange)
      → after.count ≡ before.count → HasWritten map call before after limit (Refused ValueRange)
  stopped_straight told same = record {
    answered = record {
      unmade = logged mine told.made;
      just = told.refused;
      looked = told.looked;
    };
    non_blocking = worked-uncounted
        (made-within _ _ (put-rises map.chain.shape 1 _ (some _)) told.made) same;
    short = told.short;
    own = uncounted-mine mine told.made same refl;
  }

-- or has looked in vain
pub away_straight :
    {map : MapOf} {call : Call} {before after : SeatOf} {lost : ℕ} (limit left : Limit)
    → IsMine map before → HasLookedInVain map.chain call before.chain after.chain lost
    → LeavesTries limit lost left → after.count ≡ before.count
    → HasYetToWrite map call before after limit left
away_straight limit left mine away rest same = record {
  mine = mine;
  lost = _;
  looked = away;
  left_over = rest;
  count = same;
  own = uncounted-mine mine away.made same refl;
}

-- ---- both ways

module _ {map : MapOf} {call : Call} {before then : SeatOf} {limit left : Limit}
    (away : HasYetToWrite map call before then limit left) where
  -- the look in vain is no call
  vain : HasLogged before then []
  vain = logged away.mine away.looked.made

  answered-both :
      (after : SeatOf) {calls : List (Call × Reply)} {most : ℕ}
      → HasMade map.chain.shape call then.chain after.chain calls most → (outcome : Outcome)
      → HasAnswered (IsStopped map call then after left) call then after outcome
      → HasAnswered (HasRefused map call before after limit) call before after outcome
  answered-both after made (Found number) (reply, is, told) = (reply, is, logged-then vain told)
  answered-both after made (Matched held) (reply, is, told) = (reply, is, logged-then vain told)
  answered-both after made (Replied reply) told = logged-then vain told
  answered-both after made (Refused fault) refused = record {
    unmade = logged-then vain refused.unmade;
    just = just-both map.chain away.looked limit left away.left_over made.grown fault refused.just;
    looked = omega (arith, away.looked.looked, made.grown.steps);
  }

  -- so both ways together are the write
  pub gone_on :
      {after : SeatOf} (outcome : Outcome) → HasGoneOn map call then after left outcome
      → HasWritten map call before after limit outcome
  gone_on {after} outcome on =
      let (calls, made) = on.worked.steps in
      record {
        answered = answered-both after made outcome on.answered;
        non_blocking = record {
          steps = (calls, made-both map.chain away.looked limit left away.left_over made);
          net = on.worked.net;
          count = on.worked.count ∙ ap (accounted on.worked.net) away.count;
        };
        short = short-both map.chain away.looked made;
        own = on.own;
      }

-- ---- a write that puts no sum

-- its straight way refuses it nothing: where it isn't made there, it has yet to be made
pub goes_on :
    (map : MapOf) (call : Call) (before after : SeatOf) (limit left : Limit) (told : Straight)
    → CantOverflow call → HasGoneStraight map call before after limit left told
    → ((reply : Reply) → told ≡ Made reply → ⊥) → HasYetToWrite map call before after limit left
goes_on map call before after limit left (Made reply) sumless gone unmade =
    absurd (unmade reply refl)
goes_on map call before after limit left Overflow sumless gone unmade =
    absurd (sumless _ gone.answered.just)
goes_on map call before after limit left GoesOn sumless gone unmade = gone
