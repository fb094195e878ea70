-- Updates by functions whose steps are told otherwise.
use Rattle.std.proofs.Common.{ℕ, List, Option, Some, None, Result}
use Rattle.nb_core.specs.declared.calls.Call.{Call}
use Rattle.nb_core.specs.declared.calls.Reply.{Reply}
use Rattle.nb_map.specs.Maps.{MapOf, SeatOf}
use Rattle.nb_map.specs.Updating.{HasTried, IsComputed, IsUpdate, Lost, Read}
use Rattle.nb_map.specs.declared.faults.PutFault.{PutFault}
use Rattle.std.specs.Option.{IfSome}

-- From a state in which this holds, each step of a function is one of another, and it holds again.
module _ {F G : Type 0} {Step : F → Option ℕ → Option ℕ → F → Type 0}
    (Step' : G → Option ℕ → Option ℕ → G → Type 0) (Holds : F → Type 0) (onto : F → G)
    (steps : (f : F) (was new : Option ℕ) (g : F) → Holds f → Step f was new g
    → Step' (onto f) was new (onto g) × Holds g)
  where
    -- so it has tried
    tried-as :
        {k : ℕ} {first function : F} {calls : List (Call × Reply)} {found : Option ℕ} → Holds first
        → HasTried Step k first calls found function
        → HasTried Step' k (onto first) calls found (onto function) × Holds function
    tried-as holds (Read reply) = (Read reply, holds)
    tried-as holds (Lost {was = was} {f = f} tried new g reply step missed) =
        let before = tried-as holds tried in
        let one = steps f was new g before.1 step in
        (Lost before.0 new (onto g) reply one.0 missed, one.1)

    -- and computed
    computed-as :
        (k : ℕ) (found : Option ℕ) (function : F) → Holds function → (last : Option Call)
        → IfSome last (IsComputed Step k found function)
        → IfSome last (IsComputed Step' k found (onto function))
    computed-as k found function holds None computed = tt
    computed-as k found function holds (Some call) (new, left, step, is) =
        (new, onto left, (steps function found new left holds step).0, is)

    -- and updated
    pub update-as :
        {m : MapOf} {f : F} {k : ℕ} {before after : SeatOf} {tries : ℕ}
        {result : Result (Option ℕ) PutFault} → Holds f
        → IsUpdate m Step f k before after tries result
        → IsUpdate m Step' (onto f) k before after tries result
    update-as {k = k} holds update =
        let tried = tried-as holds update.tried in
        record {
          calls = update.calls;
          found = update.found;
          function = onto update.function;
          tried = tried.0;
          last = update.last;
          computed = computed-as k update.found update.function tried.1 update.last update.computed;
          ended = update.ended;
          call = update.call;
          asked = update.asked;
          worked = update.worked;
        }
