-- What a write that stores a value has come to.
use Rattle.std.proofs.Common.{◌≡◌, ◌∙◌, ℕ, Bool, true, false, not, Option, Some, None, Ok, is_none, is_some, ap, refl, subst, sym}
use Rattle.nb_core.specs.Log.{holds_of, reply_at}
use Rattle.nb_core.specs.declared.calls.Call.TheVariants as call
use Rattle.nb_core.specs.declared.calls.Change.TheVariants as change
use Rattle.nb_core.specs.declared.calls.Want.{Want}
use Rattle.nb_map.proofs.Theorems.{replies_fit}
use Rattle.nb_map.specs.Logs.{HasReplied}
use Rattle.nb_map.specs.Maps.{MapOf, SeatOf}
use Rattle.nb_map.specs.Progress.{Unlimited}
use Rattle.nb_map.specs.Promises.{Found, HasWritten, Replied}
use Rattle.nb_long.specs.Promises.{HasPutValue}
use Rattle.nb_long.specs.Stores.{HasStored}
use Rattle.nb_long.specs.Typed.{LongMapOf}
use Rattle.nb_long.specs.declared.map.Stored.{Stored}

-- a write that tells what was there tells the reply: it is that of the call
replied :
    {m : MapOf} {key number : ℕ} {want : Want} {before after : SeatOf} {was : Option ℕ}
    {done : Bool} → done ≡ holds_of want was
    → HasWritten m (call.Write key want (change.Put number)) before after Unlimited (Found was)
    → HasWritten m (call.Write key want (change.Put number)) before after Unlimited
    (Replied (record { before = was; matched = done }))
replied {m} {key} {number} {want} {before} {after} {was} {done} holds wrote =
    let write = call.Write key want (change.Put number) in
    let reply = wrote.answered.0 in
    record {
      answered = subst (λ reply. HasReplied write before after reply)
          (replies_fit before after write reply wrote.answered.2
          ∙ ap (reply_at write) wrote.answered.1
          ∙ ap (λ (matched : Bool). record { before = was; matched = matched }) (sym holds))
          wrote.answered.2;
      non_blocking = wrote.non_blocking;
      short = wrote.short;
      own = wrote.own;
    }

-- the value was stored, and the map called with its number
pub put-value :
    {V : Type 0} (m : LongMapOf) (key : ℕ) (want : Want) (value : V) {before after : SeatOf}
    (stored : Stored V) (number : ℕ) → number ≡ stored.receipt.index
    → HasStored m.store value stored.receipt → stored.done ≡ holds_of want stored.before
    → HasWritten m.map (call.Write key want (change.Put number)) before after Unlimited (Found stored.before)
    → HasPutValue m key want value before after (Ok stored)
put-value m key want value {before} {after} stored number is held holds wrote = record {
  kept = held;
  wrote = subst (λ number. HasWritten m.map (call.Write key want (change.Put number)) before
      after Unlimited (Replied (record { before = stored.before; matched = stored.done }))) is
      (replied holds wrote);
  own = wrote.own;
}

-- what wasn't there came, and nothing else
pub is-new : (number : Option ℕ) (came : Bool) → is_some number ≡ not came → came ≡ is_none number
is-new None true some = refl
is-new None false some = some
is-new (Some n) true some = some
is-new (Some n) false some = refl
