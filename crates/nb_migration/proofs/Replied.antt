-- What a write of the map has found, as its reply.
use Rattle.std.proofs.Common.{◌≡◌, ◌∙◌, ℕ, Bool, true, false, Option, Some, Result, Ok, Err, ap, refl, sym, subst}
use Rattle.std.specs.Prelude.{if◌then◌else◌, nat_le}
use Rattle.nb_core.specs.declared.numbers.RangeFault.{RangeFault}
use Rattle.nb_core.specs.Log.{reply_at}
use Rattle.nb_core.specs.declared.calls.Call.{Call}
use Rattle.nb_core.specs.declared.calls.Reply.{Reply}
use Rattle.nb_map.proofs.Theorems.{replies_fit}
use Rattle.nb_map.specs.Logs.{HasReplied}
use Rattle.nb_map.specs.Maps.{MapOf, SeatOf}
use Rattle.nb_map.specs.Progress.{Limit, Tries}
use Rattle.nb_map.specs.Promises.{HasAnswered, HasWritten, Outcome, found_or_refused, replied_or_refused}
use Rattle.nb_map.specs.Refusals.{HasRefused}
use Rattle.nb_map.specs.declared.faults.PutFault.{PutFault}
use Rattle.nb_migration.specs.Writes.{HasWrittenOpen, IsOpenWrite, answer_at, answer_or_fault, answer_to, outcome_of}
use Rattle.nb_migration.specs.declared.numbers.TheConstants.{USER_MAX}
use Rattle.nb_migration.specs.declared.writes.CoreFault.{CoreFault}
use Rattle.nb_migration.specs.declared.writes.Written.{Written}
use Rattle.nb_migration.specs.declared.writes.Written.TheVariants.{Moved}

-- a write that has another answer, too
with_answer :
    {map : MapOf} {call : Call} {before after : SeatOf} {limit : Limit} {outcome : Outcome}
    (outcome' : Outcome) → HasWritten map call before after limit outcome
    → HasAnswered (HasRefused map call before after limit) call before after outcome'
    → HasWritten map call before after limit outcome'
with_answer outcome' written answered = record {
  answered = answered;
  non_blocking = written.non_blocking;
  short = written.short;
  own = written.own;
}

-- what was at the key determines the reply
pub from_found :
    {map : MapOf} {call : Call} {before after : SeatOf} {limit : Limit}
    (found : Result (Option ℕ) PutFault)
    → HasWritten map call before after limit (found_or_refused found)
    → HasWritten map call before after limit (outcome_of call found)
from_found {call = call} {before} {after} (Ok found) written =
    let (reply, at, replied) = written.answered in
    with_answer (outcome_of call (Ok found)) written
    (subst (HasReplied call before after)
    (replies_fit before after call reply replied ∙ ap (reply_at call) at) replied)
from_found (Err refusal) written = written

-- the number of a reply
abbrev pub number_of : Result Reply PutFault → Result (Option ℕ) PutFault
number_of (Ok reply) = Ok reply.before
number_of (Err refusal) = Err refusal

pub from_reply :
    {map : MapOf} {call : Call} {before after : SeatOf} {limit : Limit}
    (reply : Result Reply PutFault)
    → HasWritten map call before after limit (replied_or_refused reply)
    → HasWritten map call before after limit (outcome_of call (number_of reply))
from_reply {call = call} {before} {after} (Ok reply) written =
    with_answer (outcome_of call (Ok reply.before)) written
    (subst (HasReplied call before after) (replies_fit before after call reply written.answered)
    written.answered)
from_reply (Err refusal) written = written

-- a write in one call, which is known by equal calls
pub written_open :
    {map : MapOf} {call : Call} {before after : SeatOf} {tries : ℕ} {result : Result Written CoreFault}
    (made told : Call) (found : Result (Option ℕ) PutFault)
    → made ≡ call → told ≡ call → IsOpenWrite call
    → HasWritten map made before after (Tries tries) (outcome_of made found)
    → result ≡ answer_or_fault told found
    → HasWrittenOpen map call before after tries result
written_open {map} {call} {before} {after} {tries} made told found is is' opens written answered = record {
  only_open = opens;
  found = found;
  written =
      subst (λ call. HasWritten map call before after (Tries tries) (outcome_of call found)) is written;
  answered = answered ∙ ap (λ call. answer_or_fault call found) is';
}

-- ---- answers

-- what made a number of the user shows that it is one
pub new_is :
    (n m : ℕ) (fault : RangeFault) (result : Result ℕ RangeFault)
    → result ≡ (if nat_le n USER_MAX then Ok n else Err fault) → result ≡ Ok m
    → (m ≡ n) × (nat_le n USER_MAX ≡ true)
new_is n m fault result made is = at (nat_le n USER_MAX) refl (sym is ∙ made)
  where
    at :
        (b : Bool) → nat_le n USER_MAX ≡ b
        → ◌≡◌ {A = Result ℕ RangeFault} (Ok m) (if b then Ok n else Err fault)
        → (m ≡ n) × (nat_le n USER_MAX ≡ true)
    at true user same = (cc, user)
    at false user same = absurd cc

-- the answer to what a number of the user is
pub answered_at :
    (call : Call) (result : Result Written CoreFault) (n m : ℕ) → m ≡ n → nat_le n USER_MAX ≡ true
    → result ≡ answer_at call m → result ≡ answer_to call (Some n)
answered_at call result n m same user is =
    is ∙ ap (answer_at call) same
    ∙ sym (ap (λ b. if b then answer_at call n else Ok Moved) user)
