-- What a command is answered, by what its call of the map said.
use Rattle.std.proofs.Common.{◌≡◌, ◌∙◌, ℕ, Bool, Option, Some, None, Result, Ok, Err, ap, refl}
use Rattle.nb_core.specs.Log.{reply_at}
use Rattle.nb_core.specs.declared.calls.Call.TheVariants as call
use Rattle.nb_core.specs.declared.calls.Reply.{Reply}
use Rattle.nb_map.specs.Logs.{HasFound, HasMatched, HasReplied}
use Rattle.nb_map.specs.Maps.{MapOf, SeatOf}
use Rattle.nb_map.specs.Progress.{Unlimited}
use Rattle.nb_map.specs.Promises.{HasAnswered, found_or_full, found_or_refused}
use Rattle.nb_map.specs.Refusals.{HasRefused, uncontended}
use Rattle.nb_map.specs.declared.faults.AddFault.{AddFault}
use Rattle.nb_map.specs.declared.faults.AddFault.TheVariants as fault
use Rattle.nb_map.specs.declared.faults.Full.{Full}
use Rattle.nb_runner.specs.Text.{before, call_of, of_add, of_put, shown}
use Rattle.nb_runner.specs.Working.{IsAnswered}
use Rattle.nb_runner.specs.declared.answers.Answer.TheVariants as answer
use Rattle.nb_script.specs.declared.script.Command.{Command}
use Rattle.nb_script.specs.declared.script.Command.TheVariants as command

module _ (m : MapOf) (s t : SeatOf) where
  -- what was found is shown
  pub by-found :
      (c : Command) → ((reply : Reply) → shown c reply ≡ before reply.before) → (number : Option ℕ)
      → HasFound (call_of c) s t number
      → IsAnswered m c (before number) s t
  by-found c is None (reply, found, made) = (reply, is reply ∙ ap before found, made)
  by-found c is (Some n) (reply, found, made) = (reply, is reply ∙ ap before found, made)

  -- whether the condition held is shown
  pub by-matched :
      (c : Command) → ((reply : Reply) → shown c reply ≡ answer.Matched reply.matched) → (b : Bool)
      → HasMatched (call_of c) s t b
      → IsAnswered m c (answer.Matched b) s t
  by-matched c is b (reply, matched, made) = (reply, is reply ∙ ap answer.Matched matched, made)

  pub by-get :
      (k : ℕ) (number : Option ℕ) → HasReplied (call.Get k) s t (reply_at (call.Get k) number)
      → IsAnswered m (command.Get k) (before number) s t
  by-get k number replied = by-found (command.Get k) (λ reply. refl) number
      (reply_at (call.Get k) number, refl, replied)

  pub by-put :
      (c : Command) → ((reply : Reply) → shown c reply ≡ before reply.before)
      → (put : Result (Option ℕ) Full)
      → HasAnswered (HasRefused m (call_of c) s t Unlimited) (call_of c) s t (found_or_full put)
      → IsAnswered m c (of_put put) s t
  by-put c is (Ok number) answered = by-found c is number answered
  by-put c is (Err f) answered = answered

  pub by-add :
      (c : Command) → ((reply : Reply) → shown c reply ≡ before reply.before)
      → (added : Result (Option ℕ) AddFault)
      → HasAnswered (HasRefused m (call_of c) s t Unlimited) (call_of c) s t
      (found_or_refused (uncontended added))
      → IsAnswered m c (of_add added) s t
  by-add c is (Ok number) answered = by-found c is number answered
  by-add c is (Err fault.Full) answered = answered
  by-add c is (Err fault.ValueRange) answered = answered
