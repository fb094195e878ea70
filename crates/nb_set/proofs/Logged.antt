-- What a seat's map calls say of its log of set calls.
use Rattle.std.proofs.Common.{◌≡◌, ◌∙◌, ℕ, ◌==◌, Bool, true, false, not, if◌then◌else◌, List, [], ◌∷◌, ◌++◌, map, Option, Some, None, is_none, is_some, ap, ap₂, sym, subst, refl}
use Rattle.std.proofs.lemmas.List.{append_assoc, map-append}
use Rattle.nb_core.specs.Log.{reply_at}
use Rattle.nb_core.specs.declared.calls.Call as map_call
use Rattle.nb_core.specs.declared.calls.Reply.{Reply}
use Rattle.nb_map.specs.Logs as of_map
use Rattle.nb_map.proofs.Theorems as theorems
use Rattle.nb_set.specs.Laws.{LogsAddUp}
use Rattle.nb_set.specs.Log.{Add, Call, Contains, Entry, Remove, calls_of}
use Rattle.nb_set.specs.OfMap.{call_as, call_for, entry_as, log_as}
use Rattle.nb_set.specs.Sets.{HasLogged, HasReplied, SeatOf, log, seat_number}
use Rattle.nb_set.proofs.Read.{calls-as, read}

-- the log of a seat after calls of the map
pub logged-as :
    {before after : SeatOf} {made : List (map_call.Call × Reply)}
    → of_map.HasLogged before after made
    → HasLogged before after (map call_as made)
logged-as {before} {after} {made} logged = record {
  number = logged.number;
  later = log_as logged.later;
  grown = ap log_as logged.grown ∙ map-append entry_as logged.later (of_map.log before);
  replayed = (read (of_map.log after) logged.replayed).0;
  own = calls-as (seat_number before) logged.later ∙ ap (map call_as) logged.own;
}

-- after one call, with the reply that the map gives for what was at the key
replied-as :
    {before after : SeatOf} (call : map_call.Call) (reply : Reply)
    → of_map.HasReplied call before after reply
    → HasLogged before after (call_as (call, reply_at call reply.before) ∷ [])
replied-as {before} {after} call reply logged =
    subst (λ r. HasLogged before after (call_as (call, r) ∷ []))
    (theorems.replies_fit before after call reply logged) (logged-as logged)

-- ---- each call of the set

-- what wasn't there came, and nothing else
is-new : (number : Option ℕ) (came : Bool) → is_some number ≡ not came → is_none number ≡ came
is-new None true some = refl
is-new None false some = sym some
is-new (Some n) true some = sym some
is-new (Some n) false some = refl

pub added :
    {before after : SeatOf} (k : ℕ) (number : Option ℕ) (came : Bool) → is_some number ≡ not came
    → of_map.HasFound (call_for (Add k)) before after number
    → HasReplied (Add k) before after came
added {before} {after} k number came new (reply, is, logged) =
    subst (HasReplied (Add k) before after) (is-new number came new)
    (subst (λ at. HasReplied (Add k) before after (is_none at)) is
    (as-add reply.before (replied-as (call_for (Add k)) reply logged)))
  where
    as-add : (at : Option ℕ) → HasLogged before after
        (call_as (call_for (Add k), reply_at (call_for (Add k)) at) ∷ [])
        → HasReplied (Add k) before after (is_none at)
    as-add None logged = logged
    as-add (Some n) logged = logged

pub removed :
    {before after : SeatOf} (k : ℕ) (number : Option ℕ) (gone : Bool) → gone ≡ is_some number
    → of_map.HasFound (call_for (Remove k)) before after number
    → HasReplied (Remove k) before after gone
removed {before} {after} k number gone was (reply, is, logged) =
    subst (HasReplied (Remove k) before after) (sym was)
    (subst (λ at. HasReplied (Remove k) before after (is_some at)) is
    (replied-as (call_for (Remove k)) reply logged))

pub contained :
    {before after : SeatOf} (k : ℕ) (number : Option ℕ) (found : Bool) → is_some number ≡ found
    → of_map.HasReplied (call_for (Contains k)) before after
    (reply_at (call_for (Contains k)) number)
    → HasReplied (Contains k) before after found
contained {before} {after} k number found is logged =
    subst (HasReplied (Contains k) before after) is (logged-as logged)

-- ---- calls add up

calls-append :
    (seat : ℕ) (later first : List Entry)
    → calls_of seat (later ++ first) ≡ calls_of seat later ++ calls_of seat first
calls-append seat [] first = refl
calls-append seat (entry ∷ later) first =
    elim (entry.seat == seat) as (λ b.
    (if b then (entry.call, entry.reply) ∷ calls_of seat (later ++ first) else calls_of seat
    (later ++ first))
    ≡ (if b then (entry.call, entry.reply) ∷ calls_of seat later else calls_of seat later)
    ++ calls_of seat first) [
      | true ↦ ap (λ calls. (entry.call, entry.reply) ∷ calls) (calls-append seat later first)
      | false ↦ calls-append seat later first
    ]

-- some calls after others
logged-then :
    {before between after : SeatOf} {made made' : List (Call × Bool)}
    → HasLogged before between made → HasLogged between after made'
    → HasLogged before after (made' ++ made)
logged-then {before} a b = record {
  number = b.number ∙ a.number;
  later = b.later ++ a.later;
  grown = b.grown ∙ ap (λ log. b.later ++ log) a.grown
      ∙ sym (append_assoc b.later a.later (log before));
  replayed = b.replayed;
  own =
      calls-append (seat_number before) b.later a.later
      ∙ ap₂ (λ xs ys. xs ++ ys) (ap (λ n. calls_of n b.later) (sym a.number) ∙ b.own) a.own;
}

pub logs_add_up : LogsAddUp
logs_add_up = record {
  none = λ mine. logged-as (theorems.logs_add_up.none mine);
  more =
      λ a b. logged-then a b;
}
