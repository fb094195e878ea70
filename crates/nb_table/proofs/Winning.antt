-- What a seat may put in place of a value for a call, and what it finds there.
use Rattle.std.proofs.Common.{◌≡◌, ◌≢◌, ◌∙◌, ℕ, zero, suc, ◌<◌, Bool, true, false, cond, eqb, List, [], ◌∷◌, ◌++◌, slice_index, Some, ap, sym, subst, refl, arith}
use Rattle.std.proofs.lemmas.Bool.{eq-eqb, eqb-true, ne_eqb}
use Rattle.std.specs.Option.{unwrap_or}
use Rattle.nb_core.specs.Plans.{Plan, IsPlan, generations_of, value_place}
use Rattle.nb_core.specs.States.{IsValueState, shown_by_value, value_in_word, value_state, value_word}
use Rattle.nb_core.specs.Tables.{IsSettledBelow, IsSlot, IsUnprimed, tables_at, words_of}
use Rattle.nb_core.specs.History.{IsCallInRange, IsExchange, IsLegal, MayWin, number_in_value, key_of_call}
use Rattle.nb_core.specs.declared.calls.Call.{Call}
use Rattle.nb_core.specs.declared.events.Event.{Event}
use Rattle.nb_core.specs.declared.events.Event.TheVariants.{Won}
use Rattle.nb_core.specs.declared.states.KeyState.TheVariants.{Claimed}
use Rattle.nb_core.specs.declared.states.ValueState.{ValueState}
use Rattle.nb_core.specs.declared.states.ValueState.TheVariants.{Null}
use Rattle.nb_table.specs.Chains.{Extended, SeenBy, seen_by}
use Rattle.nb_table.specs.Conditions.{IsReached}
use Rattle.nb_table.specs.Events.{read, reads}
use Rattle.nb_table.specs.Steps.{Can, MayStep, Stepped}
use Rattle.nb_table.proofs.Events.{win_events}
use Rattle.nb_table.proofs.Following.{one-follows}
use Rattle.nb_table.proofs.Loading.{can-load_value, load-sees, reached-lasts}
use Rattle.nb_table.proofs.Values.{value-made}
use Rattle.nb_core.proofs.Theorems.{codings, passed_settled, seen_lasts, win_replies}

-- the event of a call that puts a value in place of another
abbrev win : ℕ → ℕ → ℕ → ValueState → ValueState → Call → Event
win number g i from to call = Won number g i from to call
    (record { before = number_in_value from; matched = true })

-- the events by the words of values are those by the values
pub wins-of :
    (number g i old new : ℕ) (from to : ValueState) (call : Call) → value_state old ≡ Some from
    → value_state new ≡ Some to
    → win_events number g i (value_in_word old) (value_in_word new) call
    ≡ win_events number g i from to call
wins-of number g i old new from to call says_old says_new =
    ap (λ a. win_events number g i (unwrap_or a Null) (value_in_word new) call) says_old
    ∙ ap (λ b. win_events number g i from (unwrap_or b Null) call) says_new

-- a step that makes these events where a test holds, and else those
either-follows :
    (p : Plan) (test : Bool) (holding failing : List Event) (number index new found : ℕ)
    (h : List Event)
    → (test ≡ true → MayStep p holding number index new h)
    → (test ≡ false → MayStep p failing number index found h)
    → MayStep p (cond test holding failing) number index (cond test new found) h
either-follows p true holding failing number index new found h yes_it no_it = yes_it refl
either-follows p false holding failing number index new found h yes_it no_it = no_it refl

-- a key that is passed in the tables below has no unfinished slot there
settled-below :
    (p : Plan) → IsPlan p → (h : List Event) → IsLegal p h → (g k : ℕ) → g < generations_of p
    → IsReached p (tables_at p h) g k → IsSettledBelow p (tables_at p h) g k
settled-below p plan h legal zero k table reached = tt
settled-below p plan h legal (suc g) k table reached =
    passed_settled p plan h legal g k (omega (arith, table)) (reached.below g (omega arith))

-- A call may put in place of an unprimed value what it makes of it, in its key's slot, to which the
-- search for the key has come. Another value it may read.
pub can-win :
    (p : Plan) → (number : ℕ) (seen : List Event) (g i : ℕ)
    (from to : ValueState) (call : Call) → IsSlot p g i
    → IsValueState from → IsValueState to → IsCallInRange call
    → (tables_at p seen).key g i ≡ Claimed (key_of_call call) → IsUnprimed from
    → IsReached p (tables_at p seen) g (key_of_call call)
    → IsExchange call (key_of_call call) from to
    → Can p (win_events number g i from to call) number seen (value_place p g i)
    (λ found. cond (eqb found (value_word from)) (value_word to) found)
can-win p number seen g i from to call slot from_in to_in ranges claimed unprimed
    reached exchange plan seated others not_own legal =
    let h = others ++ seen in
    let k = key_of_call call in
    let index = value_place p g i in
    let found = slice_index (words_of p h) index in
    let still = seen_lasts p plan others seen legal in
    let come = reached-lasts p (tables_at p seen) (tables_at p h) g k slot.0 still reached in
    either-follows p (eqb found (value_word from)) (win number g i from to call ∷ [])
    (read number call (shown_by_value (value_in_word found))) number index (value_word to) found h
    (λ same.
    let may : MayWin p (tables_at p h) g i from to call = record {
      key = k;
      claimed = still.claimed g i k slot claimed;
      stands = ap value_in_word (eqb-true found (value_word from) same)
          ∙ ap (λ o. unwrap_or o Null) (codings.state_of_word from from_in);
      unprimed = unprimed;
      settled = settled-below p plan h legal g k slot.0 come;
      exchange = exchange;
    } in
    one-follows p (win number g i from to call) number index (value_word to) h (
      legal,
      (seated, slot, from_in, to_in, ranges),
      may,
      win_replies p plan h legal number g i from to call slot may,
    )
    refl refl)
    (λ other. can-load_value p number seen g slot.0 i (Some call) slot ranges reached claimed plan
    seated others not_own legal)

-- What a step found, and the events that went with that.
abbrev Found : Plan → (index : ℕ) (before : SeenBy) (found : ℕ) (after : SeenBy) → List Event
    → Type 0
Found p index before found after own =
    (grows : Extended p before after own 1)
    × (slice_index (words_of p (grows.others ++ before.seen)) index ≡ found)

-- other events are as good that are the same for the word that was found
as-found :
    (p : Plan) (events events' : ℕ → List Event) (index : ℕ) (before : SeenBy) (found : ℕ)
    (after : SeenBy)
    → events found ≡ events' found → Stepped p events index before found after
    → Stepped p events' index before found after
as-found p events events' index before found after same step =
    let other = subst (Found p index before found after) same (step.grows, step.word) in
    record { grows = other.0; word = other.1 }

-- What putting a value in place of another tells.
module _
    (p : Plan) (plan : IsPlan p) (before : SeenBy)
    (found : ℕ) (after : SeenBy) (g i : ℕ) (from to : ValueState) (call : Call)
    (slot : IsSlot p g i)
    (step : Stepped p (win_events before.number g i from to call) (value_place p g i)
    before found after) where
  pub win-won :
      IsValueState to → found ≡ value_word from
      → Extended p before after (win before.number g i from to call ∷ []) 1
      × ((seen_by p after).value g i ≡ to)
  win-won to_in same =
      let test = eq-eqb found (value_word from) same in
      let e = win before.number g i from to call in
      value-made p plan (λ x. eqb x (value_word from)) e before found after g i slot
      (as-found p (win_events before.number g i from to call)
      (λ x. cond (eqb x (value_word from)) (e ∷ []) [])
      (value_place p g i) before found after
      (ap (λ b. cond b (e ∷ []) (read before.number call (shown_by_value (value_in_word found))))
      test ∙ sym (ap (λ b. cond b (e ∷ []) []) test)) step)
      test (λ x. value_word to) to refl (codings.state_of_word to to_in)

  pub win-lost :
      found ≢ value_word from
      → Extended p before after (read before.number call (shown_by_value (value_in_word found))) 1
      × ((seen_by p after).value g i ≡ value_in_word found)
  win-lost other =
      let shown = λ (word k : ℕ). shown_by_value (value_in_word word) in
      let e = win before.number g i from to call in
      let load = as-found p (win_events before.number g i from to call)
      (λ word. reads before.number (Some call) (shown word)) (value_place p g i) before found after
      (ap (λ b. cond b (e ∷ []) (read before.number call (shown_by_value (value_in_word found))))
      (ne_eqb found (value_word from) other)) step in (
        load.grows,
        ap (λ t. t.value g i) (load-sees p before.number (Some call) shown (value_place p g i)
            found before after load) ∙ ap value_in_word load.word,
      )
