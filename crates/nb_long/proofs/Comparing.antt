-- Writes where the key has an equal value: rounds that have changed nothing, and the last one.
use Rattle.std.proofs.Common.{◌≡◌, ℕ, Bool, true, false, [], ◌∷◌, Option, Some, None, Result, Ok, Err, refl, subst, arith}
use Rattle.std.proofs.lemmas.List.Elements.{All-cons, All-nil}
use Rattle.boxcar.specs.Table.{Shows, Where}
use Rattle.nb_core.specs.declared.calls.Call.{Call}
use Rattle.nb_core.specs.declared.calls.Call.TheVariants as call
use Rattle.nb_core.specs.declared.calls.Change.{Change}
use Rattle.nb_core.specs.declared.calls.Reply.{Reply}
use Rattle.nb_map.proofs.Theorems.{logs_add_up}
use Rattle.nb_map.specs.Maps.{HasWorked, IsMine, MapOf, SeatOf}
use Rattle.nb_map.specs.NamedCalls.{exchange_of}
use Rattle.nb_map.specs.Progress.{Limit, Tries}
use Rattle.nb_map.specs.Promises.{HasGot, HasWritten, Outcome, Refused, Replied}
use Rattle.nb_map.specs.declared.faults.PutFault.TheVariants as put_fault
use Rattle.nb_long.proofs.Rounds.{HasIdled, HasRound, exchange-won, last-then, lost-round, round-worked, worked-then}
use Rattle.nb_long.specs.Promises.{HasAnsweredIf, HasChangedIf, HasGotValue, HasMadeRound}
use Rattle.nb_long.specs.Typed.{HasCompared, IsIdle, LongMapOf, read_that_found, round_steps}
use Rattle.nb_long.specs.Updating.{IsLost}
use Rattle.nb_long.specs.declared.map.Compared.{Compared}
use Rattle.nb_long.specs.declared.map.Unshown.{Unshown}

-- ---- one round

-- an exchange for a number puts none at an absent key, so it is never refused as full
pub never-full :
    {m : MapOf} {key n : ℕ} {limit : Limit} (new : Option ℕ) {before after : SeatOf}
    → HasWritten m (exchange_of key (Some n) new) before after limit (Refused put_fault.Full)
    → ⊥
never-full new tried = let fills : true ≡ false = tried.answered.just.0 in cc

-- the read has shown this
pub round-of :
    {V : Type 0} {m : LongMapOf} {key n : ℕ} {new : Option ℕ} {before read after : SeatOf}
    {shown : Where V} {outcome : Outcome}
    → IsMine m.map before → HasGotValue m key before read (Ok (Some shown)) → n ≡ shown.index
    → HasWritten m.map (exchange_of key (Some n) new) read after (Tries 1) outcome
    → HasRound m key (Some shown.index) new before after outcome
round-of {m = m} {key} {n} {new} {before} {read} {after} {shown} {outcome} own got is wrote =
    record {
      read = read;
      own = own;
      got = subst (HasGot m.map key before read) got.shown.1 got.got;
      wrote = subst (λ n. HasWritten m.map (exchange_of key (Some n) new) read after (Tries 1) outcome) is
          wrote;
    }

module _
    {V : Type 0} {eq : V → V → Bool} {m : LongMapOf} {key : ℕ} {value : V} {new : Option ℕ}
    {before after : SeatOf}
  where
    -- the value that was shown is equal, and the exchange is won
    pub matches :
        (shown : Where V) (reply : Reply)
        → HasRound m key (Some shown.index) new before after (Replied reply)
        → Shows m.store shown → eq shown.value value ≡ true → reply.matched ≡ true
        → HasMadeRound eq m key value new before after
        (Ok (Some (record { found = Some shown; done = true })))
    matches shown reply round shows equal matched =
        let asked : Call × Reply = read_that_found key (Some shown.index) in
        record {
          answered = (
            shows,
            equal,
            record {
              earlier = asked ∷ [];
              idle = All-cons (IsIdle key) asked [] refl (All-nil (IsIdle key));
              logged = logs_add_up.more round.got.replied
                  (exchange-won {found = Some shown.index} new round.wrote matched).answered;
            },
          );
          worked = round-worked round (call.Get key) refl (λ fills. fills);
          own = round.wrote.own;
        }

    -- it is lost
    pub loses :
        {n : ℕ} (outcome : Outcome) → HasRound m key (Some n) new before after outcome
        → IsLost outcome → HasMadeRound eq m key value new before after (Ok None)
    loses outcome round lost = record {
      answered = lost-round outcome round lost;
      worked = round-worked round (call.Get key) refl (λ fills. fills);
      own = round.wrote.own;
    }

-- ---- rounds one after another

-- the answer of the last round is that of the call
module _
    {V : Type 0} (eq : V → V → Bool) {m : LongMapOf} {key : ℕ} (value : V) (change : Change)
    {before now : SeatOf} (after : SeatOf) (mine : IsMine m.map before)
    (idled : HasIdled m (call.Get key) key before now)
  where
    compared-then :
        (found : Option (Where V)) (done : Bool)
        → HasCompared eq m key value change now after found done
        → HasCompared eq m key value change before after found done
    compared-then (Some found) done (shows, equal, last) =
        (shows, equal, last-then mine idled last)
    compared-then None done (none, last) = (none, last-then mine idled last)

    answered-then :
        (answer : Result (Compared V) Unshown)
        → HasAnsweredIf eq m key value change now after answer
        → HasAnsweredIf eq m key value change before after answer
    answered-then (Ok compared) last = compared-then compared.found compared.done last
    answered-then (Err unshown) (n, last) = (n, last-then mine idled last)

    pub changed-then :
        (answer : Result (Compared V) Unshown)
        → HasAnsweredIf eq m key value change now after answer
        → HasWorked m.map (call.Get key) now after (round_steps m.map.chain.shape)
        → IsMine m.map after → HasChangedIf eq m key value change before after answer
    changed-then answer last worked own = record {
      answered = answered-then answer last;
      lock_free = worked-then mine idled (round_steps m.map.chain.shape) (omega arith) worked;
      own = own;
    }
