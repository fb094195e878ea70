-- What a call of the map promises, as that call of the set which it makes.
use Rattle.std.proofs.Common.{◌≡◌, ℕ, ◌<◌, Bool, not, [], List, ◌∷◌, map, Option, Some, None, Ok, Err, IfSome, is_some, ap, refl}
use Rattle.nb_core.specs.Plans.{Plan}
use Rattle.nb_table.specs.Chains.{Extended}
use Rattle.nb_map.specs.Handles as handles
use Rattle.nb_map.specs.NamedCalls.{put_if_absent_of, remove_of}
use Rattle.nb_map.specs.Progress.{Unlimited}
use Rattle.nb_map.specs.Promises as of_map
use Rattle.nb_map.specs.Promises.{Found, Refused}
use Rattle.nb_map.specs.Walks as walks
use Rattle.nb_map.specs.declared.faults.Full.{Full}
use Rattle.nb_map.specs.declared.faults.PutFault.TheVariants as fault
use Rattle.nb_set.specs.Handles.{as_walk}
use Rattle.nb_set.specs.Log.{Add, Remove}
use Rattle.nb_set.specs.Promises.{HandleHasWalkedOn, HasBegunWalk, HasEstimated, HasLookedUp, HasMet, HasSeenTop, HasWalkedOn, HasWritten}
use Rattle.nb_set.specs.Sets.{HasLookedOnce, SeatOf, SetOf}
use Rattle.nb_set.specs.Walks.{IsLater, WalkOf, with_shown}
use Rattle.nb_set.proofs.Handles.{keeps-rest}
use Rattle.nb_set.proofs.Logged as replies
use Rattle.nb_set.proofs.Logged.{logged-as}
use Rattle.nb_set.proofs.Read.{begins-as}
use Rattle.nb_set.proofs.Walked.{asked, key_of}

-- ---- writes

pub added :
    {set : SetOf} {before after : SeatOf} (k : ℕ) (number : Option ℕ) (came : Bool)
    → is_some number ≡ not came
    → of_map.HasWritten set.map (put_if_absent_of k 0) before after Unlimited (Found number)
    → HasWritten set (Add k) before after (Ok came)
added k number came is wrote = record {
  answered = replies.added k number came is wrote.answered;
  on_map = (wrote.answered.0, wrote.answered.2);
  lock_free = wrote.non_blocking;
  short = wrote.short;
  own = wrote.own;
}

pub refused :
    {set : SetOf} {before after : SeatOf} (k : ℕ) (full : Full)
    → of_map.HasWritten set.map (put_if_absent_of k 0) before after Unlimited (Refused fault.Full)
    → HasWritten set (Add k) before after (Err full)
refused k full wrote = record {
  answered = (logged-as wrote.answered.unmade, wrote.answered.just.1);
  on_map = wrote.answered.unmade;
  lock_free = wrote.non_blocking;
  short = wrote.short;
  own = wrote.own;
}

pub removed :
    {set : SetOf} {before after : SeatOf} (k : ℕ) (number : Option ℕ) (went : Bool)
    → went ≡ is_some number
    → of_map.HasWritten set.map (remove_of k) before after Unlimited (Found number)
    → HasWritten set (Remove k) before after (Ok went)
removed k number went is wrote = record {
  answered = replies.removed k number went is wrote.answered;
  on_map = (wrote.answered.0, wrote.answered.2);
  lock_free = wrote.non_blocking;
  short = wrote.short;
  own = wrote.own;
}

-- ---- reads

pub looked-up :
    {set : SetOf} {before after : SeatOf} (k : ℕ) (number : Option ℕ) (found : Bool)
    → is_some number ≡ found → of_map.HasGot set.map k before after number
    → HasLookedUp set k before after found
looked-up k number found is got = record {
  replied = replies.contained k number found is got.replied;
  worked = got.worked;
  short = got.short;
  own = got.own;
}

-- ---- looks at the set as a whole

-- one step of which nothing came
looked-once :
    {p : Plan} {before after : SeatOf} → Extended p before.chain after.chain [] 1
    → after.count ≡ before.count → HasLookedOnce before after
looked-once grows count = record {
  later = grows.others;
  seen = grows.seen;
  others = grows.not_own;
  step = grows.steps;
  count = count;
}

grown-later :
    {p : Plan} {before after : SeatOf} → Extended p before.chain after.chain [] 1
    → IsLater before after
grown-later grows = record {
  number = grows.number;
  seen = record { later = grows.others; is = grows.seen };
}

pub seen-top :
    {set : SetOf} {before after : SeatOf} {top : ℕ}
    → of_map.HasSeenTop set.map before after top → HasSeenTop set before after top
seen-top {before = before} {after = after} looked = record {
  found = looked.found;
  remembered = looked.remembered;
  complete = looked.complete;
  logged = logged-as looked.logged;
  looked = looked-once {before = before} {after = after} looked.grows looked.count;
  later = grown-later {before = before} {after = after} looked.grows;
  own = looked.own;
}

pub estimated :
    {set : SetOf} {before after : SeatOf} → of_map.HasEstimated set.map before after
    → HasEstimated set before after
estimated looked = record {
  logged = logged-as looked.logged;
  chain = looked.chain;
  count = looked.count;
  later = record {
    number = ap (λ chain. chain.number) looked.chain;
    seen = record { later = []; is = ap (λ chain. chain.seen) looked.chain };
  };
  own = looked.own;
}

pub met :
    {set : SetOf} {other before after : SeatOf}
    → of_map.HasMet set.map other before after → HasMet set other before after
met {before = before} {after = after} here = record {
  logged = logged-as here.logged;
  knows = begins-as here.knows;
  looked = looked-once {before = before} {after = after} here.grows here.count;
  seen = here.seen;
  later = grown-later {before = before} {after = after} here.grows;
  own = here.own;
}

-- ---- walks

pub begun-walk :
    {set : SetOf} {before after : SeatOf} {walk : WalkOf}
    → of_map.HasBegunWalk set.map before after walk.map → HasBegunWalk set before after walk
begun-walk began = record {
  begun = ap (λ (walk : walks.WalkOf). walk.begun) began.begun;
  is_walk = began.is_walk;
  shown = record { pairs = []; keys = refl; is = began.underway };
  top = seen-top began.top;
}

-- the keys of the pairs, with one more
keys-with :
    (found : Option (ℕ × ℕ)) (pairs : List (ℕ × ℕ)) (keys : List ℕ)
    → map (λ pair. pair.0) pairs ≡ keys
    → map (λ pair. pair.0) (walks.with_shown found pairs) ≡ with_shown (key_of found) keys
keys-with None pairs keys are = are
keys-with (Some pair) pairs keys are = ap (λ keys. pair.0 ∷ keys) are

no-key : (found : Option (ℕ × ℕ)) → key_of found ≡ None → found ≡ None
no-key None none = refl
no-key (Some pair) none = cc

key-ahead :
    (less more : ℕ) (found : Option (ℕ × ℕ)) → IfSome found (λ pair. less < more)
    → IfSome (key_of found) (λ key. less < more)
key-ahead less more None ahead = tt
key-ahead less more (Some pair) ahead = ahead

pub walked-on :
    {set : SetOf} {before after : SeatOf} {walk walk' : WalkOf} (found : Option (ℕ × ℕ))
    → of_map.HasWalkedOn set.map before after walk.map walk'.map found
    → HasWalkedOn set before after walk walk' (key_of found)
walked-on found went = record {
  asked = asked found went.read;
  begun = went.walked.begun;
  shown = λ keys has. record {
    pairs = walks.with_shown found has.pairs;
    keys = keys-with found has.pairs keys has.keys;
    is = went.underway has.pairs has.is;
  };
  ended = λ none. went.ended (no-key found none);
  worked = went.worked;
  ahead = key-ahead _ _ found went.ahead;
  is_walk = went.is_walk;
  own = went.own;
}

pub handle-walked-on :
    {before after : handles.HandleWalkOf} (found : Option (ℕ × ℕ))
    → of_map.HandleHasWalkedOn before found after
    → HandleHasWalkedOn (as_walk before) (key_of found) (as_walk after)
handle-walked-on found went = record {
  on = walked-on found went.on;
  rest = keeps-rest went.rest;
}
