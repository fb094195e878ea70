-- A call of the protocol is an event of moving keys.
use Rattle.std.proofs.Common.{◌≡◌, ◌∙◌, ℕ, true, List, ◌∷◌, Option, ap, sym, subst, refl, inl, inr}
use Rattle.std.proofs.lemmas.Bool.{both_ways, cases_Bool, cond-false, cond-true}
use Rattle.std.specs.FinMap.{get}
use Rattle.nb_core.specs.Calls.{leaves_alone}
use Rattle.nb_core.specs.History.{key_of_call}
use Rattle.nb_core.specs.Log.{Entry, Numbers, map_of_log, reply_at, reply_of}
use Rattle.nb_core.specs.declared.calls.Call.{Call}
use Rattle.nb_core.specs.declared.calls.Call.TheVariants.{Get, Write}
use Rattle.nb_core.specs.declared.calls.Reply.{Reply}
use Rattle.nb_migration.specs.CoreCalls.{CoreCall, IsMade, KnowsOthers, acting_event, called_key, entry_by, event_of, idle_event, made_call}
use Rattle.nb_migration.specs.Runs.{CallsAreEvents}
use Rattle.nb_migration.specs.Shown.{ShowsState, number_of_state}
use Rattle.nb_migration.proofs.ActingCalls.{call-acts}
use Rattle.nb_migration.proofs.IdleCalls.{call-idle}
use Rattle.nb_migration.proofs.ShownStates.{shows-left}
use Rattle.nb_moving.specs.Moving.{MayFollow, row_of, state_in}
use Rattle.nb_moving.specs.declared.events.Event.{Event}
use Rattle.nb_moving.specs.declared.events.State.{State}

-- a reply tells the number that was found
before-reply : (c : Call) (number : Option ℕ) → (reply_at c number).before ≡ number
before-reply (Get k) number = refl
before-reply (Write k want change) number = refl

-- a reply that says what the map has at the call's key is the map's
pub reply_at-map : (c : Call) (m : Numbers) → reply_at c (get m (key_of_call c)) ≡ reply_of c m
reply_at-map (Get k) m = refl
reply_at-map (Write k want change) m = refl

module _ (h : List Event) (log : List Entry) (t c seat : ℕ) (call : CoreCall) where
  abbrev key : ℕ
  key = called_key call

  -- this event may follow the history, and the log with the entry shows what the key is then
  abbrev Goes : Reply → Event → Type 0
  Goes reply e = MayFollow h e
      × ShowsState (entry_by seat call reply ∷ log) key (state_in c (row_of (e ∷ h) key))

  abbrev state : State
  state = state_in c (row_of h key)

  abbrev found : Option ℕ
  found = number_of_state state

  abbrev reply : Reply
  reply = reply_at (made_call call) found

  goes :
      IsMade h log t c call reply → ShowsState log key state → Goes reply (event_of t c call reply)
  goes made shows = elim (cases_Bool (leaves_alone (made_call call) found)) [
    | inl alone ↦
        let is : event_of t c call reply ≡ idle_event t c call reply =
        cond-true (leaves_alone (made_call call) reply.before) (idle_event t c call reply)
        (acting_event t c call reply)
        (ap (leaves_alone (made_call call)) (before-reply (made_call call) found) ∙ alone) in
        let idle = call-idle h t c call state log refl shows.past made.users alone
        (subst (KnowsOthers h) is made.knows) in
        let entry = entry_by seat call reply in
        let shown : ShowsState (entry ∷ log) key state = shows-left entry log state
        (subst (λ o. leaves_alone (made_call call) o ≡ true) (sym shows.number) alone) shows in
        subst (Goes reply) (sym is) (
          idle.0,
          subst (λ row. ShowsState (entry ∷ log) key (state_in c row)) (sym (idle.1 key (row_of h key)))
              shown,
        )
    | inr acts ↦
        let same = ap (leaves_alone (made_call call)) (before-reply (made_call call) found) ∙ acts in
        let is : event_of t c call reply ≡ acting_event t c call reply =
        cond-false (leaves_alone (made_call call) reply.before) (idle_event t c call reply)
        (acting_event t c call reply) same in
        subst (Goes reply) (sym is)
        (call-acts h log t c seat call state refl shows made.there made.users (made.found same)
        (λ full. both_ways _ same (made.full full)) acts (subst (KnowsOthers h) is made.knows))
  ]

pub calls_are_events : CallsAreEvents
calls_are_events h log t c seat call reply made shows =
    let key = called_key call in
    let found = number_of_state (state_in c (row_of h key)) in
    let is : reply ≡ reply_at (made_call call) found =
    made.replied ∙ sym (reply_at-map (made_call call) (map_of_log log))
    ∙ ap (reply_at (made_call call)) shows.number in
    subst (λ r. Goes h log t c seat call r (event_of t c call r)) (sym is)
    (goes h log t c seat call (subst (IsMade h log t c call) is made) shows)
