-- What a call does at its key's slot, and what others did meanwhile.
use Rattle.std.proofs.Common.{◌≡◌, ◌≢◌, ◌∙◌, ℕ, suc, zero, Bool, ◌+◌, ◌-◌, ◌≤◌, ◌<◌, true, false, cond, List, [], ◌∷◌, ◌++◌, length, Option, Some, None, Result, Ok, Err, ap, sym, subst, refl, arith}
use Rattle.std.specs.FinMap as map
use Rattle.std.specs.Prelude.{OnOk}
use Rattle.std.specs.List.{All}
use Rattle.std.proofs.lemmas.Bool.{eq-eqb, ne_eqb}
use Rattle.std.proofs.lemmas.List.Elements.{All-head, All-tail}
use Rattle.nb_core.specs.Calls.{leaves_alone}
use Rattle.nb_core.specs.Log.{calls_of, log_of, map_of_log, reply_at}
use Rattle.nb_core.specs.History.{IsLegal, number_in_value, key_of_call, seat_of_event}
use Rattle.nb_core.specs.Laws.{Shows}
use Rattle.nb_core.specs.Meaning.{passed_over}
use Rattle.nb_core.specs.Plans.{IsPlan, Plan, generations_of}
use Rattle.nb_core.specs.Tables.{IsSettledBelow, IsSlot, IsUnprimed, tables_at}
use Rattle.nb_core.specs.States.{shown_by_value}
use Rattle.nb_core.specs.declared.calls.Call.{Call}
use Rattle.nb_core.specs.declared.calls.Call.TheVariants.{Get, Write}
use Rattle.nb_core.specs.declared.calls.Reply.{Reply}
use Rattle.nb_core.specs.declared.slot_paths.Slot.{Slot}
use Rattle.nb_core.specs.declared.events.Event.{Event}
use Rattle.nb_core.specs.declared.events.Event.TheVariants.{Won, Read}
use Rattle.nb_core.specs.declared.states.KeyState.TheVariants.{Claimed}
use Rattle.nb_core.specs.declared.states.ValueState.{ValueState}
use Rattle.nb_core.specs.declared.states.ValueState.TheVariants.{Null, Tombstone, Live, PrimedNull, PrimedTombstone, Primed, Finished}
use Rattle.nb_table.specs.Chains.{ChainOf, Extended, IsOwn, SeenBy, seen_by}
use Rattle.nb_table.specs.Conditions.{IsReached}
use Rattle.nb_table.specs.Events.{only, read}
use Rattle.nb_map.specs.Logs.{as_replied}
use Rattle.nb_map.proofs.Made.{made-more, made-read, made-step, made-within, read_shown}
use Rattle.nb_map.proofs.Rungs.{slot-stays}
use Rattle.nb_map.proofs.Searched.{made-then}
use Rattle.nb_map.proofs.Spent.{no-read, passed-sum, spent-later, spent-none}
use Rattle.nb_map.specs.Calling.{HasMade}
use Rattle.nb_map.specs.inside.Reading.{read_of}
use Rattle.nb_map.specs.inside.Climbing.{GoesAbove, IsAbove, IsAtSlot, IsSpent, IsTried, IsWithoutTries, made_if_tried}
use Rattle.nb_map.specs.inside.Writing.{IsDecided}
use Rattle.nb_map.specs.Progress.{passed_since}
use Rattle.nb_map.specs.declared.steps.rung.Below.TheVariants.{HasKey}
use Rattle.nb_map.specs.declared.steps.slot.Attempt.{Attempt}
use Rattle.nb_map.specs.declared.steps.slot.Attempt.TheVariants.{Made, Left, Overflow, Lost, Copied}
use Rattle.nb_map.specs.declared.steps.slot.Decision.{Decision}
use Rattle.nb_map.specs.declared.steps.slot.Decision.TheVariants as decision
use Rattle.nb_core.proofs.Theorems.{beginnings_are_legal, decided, log_is_replayed, lost_exchange, passed_over_adds, passed_settled}
use Rattle.nb_table.proofs.Theorems.{steps_add_up}

-- ---- what a value shows

-- a value that shows something isn't primed, and shows the number in it
pub shown-some :
    (v : ValueState) (number : Option ℕ) → shown_by_value v ≡ Some number
    → IsUnprimed v × (number_in_value v ≡ number)
shown-some Null number is = let same : ◌≡◌ {A = Option (Option ℕ)} (Some None) (Some number) = is in
    (tt, cc)
shown-some Tombstone number is = let same : ◌≡◌ {A = Option (Option ℕ)} (Some None) (Some number) =
    is in (tt, cc)
shown-some (Live n) number is = let same :
    ◌≡◌ {A = Option (Option ℕ)} (Some (Some n)) (Some number) = is in (tt, cc)
shown-some PrimedNull number is = absurd cc
shown-some PrimedTombstone number is = absurd cc
shown-some (Primed n) number is = absurd cc
shown-some (Finished n) number is = absurd cc

-- one that shows nothing is primed
pub shown-none : (v : ValueState) → shown_by_value v ≡ None → IsUnprimed v → ⊥
shown-none Null is unprimed = let none : ◌≡◌ {A = Option (Option ℕ)} (Some None) None = is in cc
shown-none Tombstone is unprimed = let none : ◌≡◌ {A = Option (Option ℕ)} (Some None) None = is in
    cc
shown-none (Live n) is unprimed = let none : ◌≡◌ {A = Option (Option ℕ)} (Some (Some n)) None =
    is in cc
shown-none PrimedNull is unprimed = unprimed
shown-none PrimedTombstone is unprimed = unprimed
shown-none (Primed n) is unprimed = unprimed
shown-none (Finished n) is unprimed = unprimed

pub none-of : {A : Type 0} (o : Option A) → ((x : A) → o ≡ Some x → ⊥) → o ≡ None
none-of None not_some = refl
none-of (Some x) not_some = absurd (not_some x refl)

-- what holds if a step was won, where it wasn't lost
pub on-ok :
    {A B P : Type 0} (r : Result A B) → ((x : B) → r ≡ Err x → ⊥) → OnOk r P → P
on-ok (Ok x) not_lost holds = holds
on-ok (Err x) not_lost holds = absurd (not_lost x refl)

-- a call that is decided otherwise doesn't leave the number alone
pub acts-unless :
    (call : Call) (number : Option ℕ) (d : Decision) → IsDecided call number d
    → ((reply : Reply) → d ≡ decision.Leave reply → ⊥) → leaves_alone call number ≡ false
acts-unless call number (decision.Leave reply) is other = absurd (other reply refl)
acts-unless call number (decision.Exchange to) is other = is.0
acts-unless call number decision.Overflow is other = is.0

-- a read changes no word
read-tables :
    (p : Plan) (number : ℕ) (call : Call) (shown : Option (Option ℕ)) (h : List Event)
    → tables_at p (read number call shown ++ h) ≡ tables_at p h
read-tables p number call None h = refl
read-tables p number call (Some n) h = one (leaves_alone call n)
  where
    one : (b : Bool)
        → tables_at p (only b (Read number call (reply_at call n)) ++ h) ≡ tables_at p h
    one true = refl
    one false = refl

-- the calls that what was found last has made, and the steps after a load and so many lost
-- exchanges: one more where the last was lost to a copier, by a primed value
abbrev pub tried_calls : Call → Option (Option ℕ) → List (Call × Reply)
tried_calls call None = []
tried_calls call (Some number) = read_of call number

abbrev pub tried_steps : Option (Option ℕ) → (lost : ℕ) → ℕ
tried_steps None lost = lost + 2
tried_steps (Some number) lost = lost + 1

-- how many values it may still find
abbrev pub tries_ahead : Option (Option ℕ) → (left : ℕ) → ℕ
tries_ahead None left = 0
tries_ahead (Some number) left = suc left

-- A call has so many of its tries left at its key's slot, where this value was found last, which
-- shows this.
pub record HasTried (p : Plan) (call : Call) (start now : SeenBy) (slot : Slot) (tries left : ℕ)
    (from : ValueState) (shown : Option (Option ℕ)) : Type 0 where
  pub made : HasMade p call start now (tried_calls call shown) (tried_steps shown (tries - left))
  pub held : (seen_by p now).value slot.g slot.i ≡ from
  pub shows : shown_by_value from ≡ shown
  pub spent : IsSpent call start now tries left

-- what was found shows this, said otherwise
pub tried-as :
    {p : Plan} {call : Call} {start now : SeenBy} {slot : Slot} {tries left : ℕ}
    {from : ValueState} {shown shown' : Option (Option ℕ)} → shown ≡ shown'
    → HasTried p call start now slot tries left from shown
    → HasTried p call start now slot tries left from shown'
tried-as {p} {call} {start} {now} {slot} {tries} {left} {from} is tried =
    subst (HasTried p call start now slot tries left from) is tried

-- a reply tells what the call found, and is the call's for that
found-before : (call : Call) (number : Option ℕ) → (reply_at call number).before ≡ number
found-before (Get k) number = refl
found-before (Write k want change) number = refl

pub reply-fits :
    (call : Call) (number : Option ℕ) (reply : Reply) → reply ≡ reply_at call number
    → reply ≡ reply_at call reply.before
reply-fits call number reply is =
    is ∙ ap (reply_at call) (sym (ap (λ (r : Reply). r.before) is ∙ found-before call number))

-- what it leaves as it is, it leaves as its reply tells it
pub alone-before :
    (call : Call) (number : Option ℕ) (reply : Reply) → leaves_alone call number ≡ true
    → reply ≡ reply_at call number → leaves_alone call reply.before ≡ true
alone-before call number reply alone is =
    ap (leaves_alone call) (ap (λ (r : Reply). r.before) is ∙ found-before call number) ∙ alone

-- ---- the exchanges that others won

-- events of others are no calls of the seat
pub calls-others :
    (s : ℕ) (es : List Event) → All (λ e. seat_of_event e ≢ s) es → calls_of s (log_of es) ≡ []
calls-others s [] others = refl
calls-others s (e ∷ es) others =
    one e (All-head (λ e. seat_of_event e ≢ s) e es others)
    (calls-others s es (All-tail (λ e. seat_of_event e ≢ s) e es others))
  where
    one : (e : Event) → seat_of_event e ≢ s → calls_of s (log_of es) ≡ []
        → calls_of s (log_of (e ∷ es)) ≡ []
    one (Won r g i a b c reply) differs none =
        ap (λ b. cond b ((c, reply) ∷ calls_of s (log_of es)) (calls_of s (log_of es)))
        (ne_eqb r s differs) ∙ none
    one (Read r c reply) differs none = ap
        (λ b. cond b ((c, reply) ∷ calls_of s (log_of es)) (calls_of s (log_of es)))
        (ne_eqb r s differs) ∙ none
    one e differs none = none

-- another seat won an exchange between a load and an exchange that found another value
lost-at :
    (p : Plan) → IsPlan p → (later h after : List Event) → after ≡ later ++ h → (g i k s : ℕ)
    → IsSlot p g i
    → calls_of s (log_of later) ≡ [] → IsLegal p after → (tables_at p h).key g i ≡ Claimed k
    → IsSettledBelow p (tables_at p h) g k
    → IsUnprimed ((tables_at p after).value g i)
    → (tables_at p after).value g i ≢ (tables_at p h).value g i
    → 1 ≤ passed_over after (length h) k s
lost-at p plan later h after is g i k s slot none =
    subst IsLost (sym is)
    (λ legal claimed settled unprimed differs.
    lost_exchange p plan later h legal g i k s slot claimed settled unprimed differs none)
  where
    IsLost : List Event → Type 0
    IsLost a =
        IsLegal p a → (tables_at p h).key g i ≡ Claimed k → IsSettledBelow p (tables_at p h) g k
        → IsUnprimed ((tables_at p a).value g i)
        → (tables_at p a).value g i ≢ (tables_at p h).value g i → 1 ≤ passed_over a (length h) k s

-- ---- a key that was searched for

-- a key that is passed in the tables below has no unfinished slot there
pub reached-settled :
    (chain : ChainOf) (seat : SeenBy) → IsOwn chain seat → (g k : ℕ)
    → g < generations_of chain.shape → IsReached chain.shape (seen_by chain.shape seat) g k
    → IsSettledBelow chain.shape (seen_by chain.shape seat) g k
reached-settled chain seat own zero k table reached = tt
reached-settled chain seat own (suc g) k table reached =
    passed_settled chain.shape own.plan seat.seen own.legal g k
    (omega (arith, table))
    (reached.below g (omega arith))

-- and what its slot here shows is what the map has
pub shown-decided :
    (chain : ChainOf) (seat : SeenBy) → IsOwn chain seat → (g i k : ℕ)
    → IsSlot chain.shape g i → IsReached chain.shape (seen_by chain.shape seat) g k
    → (seen_by chain.shape seat).key g i ≡ Claimed k
    → (v : ValueState) (number : Option ℕ) → (seen_by chain.shape seat).value g i ≡ v
    → shown_by_value v ≡ Some number
    → map.get (map_of_log (log_of seat.seen)) k ≡ number
shown-decided chain seat own g i k slot reached claimed v number held shows =
    let value = shown-some v number shows in
    ap (λ m. map.get m k) (log_is_replayed chain.shape own.plan seat.seen own.legal).map
    ∙ decided chain.shape own.plan seat.seen own.legal g k slot.0 reached.installed reached.below
    number
    (Shows.AtValue i slot.1 claimed (subst IsUnprimed (sym held) value.0)
    (sym value.1 ∙ ap number_in_value (sym held)))

module _ (chain : ChainOf) where
  abbrev p : Plan
  p = chain.shape

  -- an exchange that was won
  pub made-won :
      {call : Call} {before after : SeenBy} {g i : ℕ} {from to : ValueState} (number : Option ℕ)
      → number_in_value from ≡ number
      → Extended p before after (Won before.number g i from to call
      (record { before = number_in_value from; matched = true }) ∷ []) 1
      → HasMade p call before after ((call, record { before = number; matched = true }) ∷ []) 1
  made-won {call} {before} {after} {g} {i} {from} {to} number is step =
      let reply : Reply = record { before = number_in_value from; matched = true } in
      made-step p call step
      (ap (λ b. cond b ((call, reply) ∷ []) []) (eq-eqb before.number before.number refl)
      ∙ ap (λ n. (call, record { before = n; matched = true }) ∷ []) is)
      tt (λ h. refl) (λ f. refl)

  -- One that was lost to another unprimed value: another seat won one. What was found may have been
  -- the call's read.
  lost-one :
      (call : Call) {before after : SeenBy} (g i : ℕ) (v : ValueState)
      → IsOwn chain before → Extended p before after (read before.number call (shown_by_value v)) 1
      → IsSlot p g i → (seen_by p before).key g i ≡ Claimed (key_of_call call)
      → IsSettledBelow p (seen_by p before) g (key_of_call call)
      → (seen_by p after).value g i ≡ v → IsUnprimed v → v ≢ (seen_by p before).value g i
      → 1 ≤ passed_since call before after
  lost-one call {before} {after} g i v own step slot claimed settled held unprimed differs =
      let k = key_of_call call in
      let mine = read before.number call (shown_by_value v) in
      let met = step.others ++ before.seen in
      let then : (tables_at p met).value g i ≡ v =
      ap (λ t. t.value g i) (sym (ap (tables_at p) step.seen
      ∙ read-tables p before.number call (shown_by_value v) met)) ∙ held in
      let one = lost-at p own.plan step.others before.seen met refl g i k before.number slot
      (calls-others before.number step.others step.not_own)
      (beginnings_are_legal p mine met (subst (IsLegal p) step.seen step.legal)) claimed settled
      (subst IsUnprimed (sym then) unprimed) (λ same. differs (sym then ∙ same)) in
      let both = ap (λ h. passed_over h (length before.seen) k before.number) step.seen
      ∙ passed_over_adds mine step.others before.seen k before.number in
      omega (arith, one, both)

  -- ---- the tries of a call

  -- a load comes first
  pub tried-first :
      {call : Call} {start after : SeenBy} (slot : Slot) (v : ValueState) (tries : ℕ)
      → Extended p start after (read start.number call (shown_by_value v)) 1
      → (seen_by p after).value slot.g slot.i ≡ v
      → HasTried p call start after slot tries tries v (shown_by_value v)
  tried-first {call} {start} {after} slot v tries load held =
      at (shown_by_value v) refl (made-read p call (shown_by_value v) load)
    where
      at : (shown : Option (Option ℕ)) → shown_by_value v ≡ shown
          → HasMade p call start after (read_shown call shown) 1
          → HasTried p call start after slot tries tries v shown
      at None is made = record {
        made = made-within 1 _ (omega arith) made;
        held = held;
        shows = is;
        spent = spent-none call start after tries;
      }
      at (Some number) is made = record {
        made = made-within 1 _ (omega arith) made;
        held = held;
        shows = is;
        spent = spent-none call start after tries;
      }

  module _ {call : Call} {start now : SeenBy} {slot : Slot} {tries left : ℕ} {from : ValueState}
      {number : Option ℕ} (at : IsAtSlot chain call start slot)
      (tried : HasTried p call start now slot tries left from (Some number)) where
    -- what was found last was the call's read, if the call leaves it as it is
    pub tried-left :
        (reply : Reply) → leaves_alone call number ≡ true → reply ≡ reply_at call number
        → HasMade p call start now ((call, reply) ∷ []) (tries - left + 1)
    tried-left reply alone is =
        subst (λ made. HasMade p call start now made (tries - left + 1))
        (ap (λ b. cond b (as_replied call number) []) alone ∙ ap (λ r. (call, r) ∷ []) (sym is))
        tried.made

    -- and else there was no call yet
    pub tried-none :
        leaves_alone call number ≡ false → HasMade p call start now [] (tries - left + 1)
    tried-none acts =
        subst (λ made. HasMade p call start now made (tries - left + 1))
        (ap (λ b. cond b (as_replied call number) []) acts) tried.made

    -- an exchange of it is won
    pub tried-won :
        {after : SeenBy} {to : ValueState} → leaves_alone call number ≡ false
        → Extended p now after (Won now.number slot.g slot.i from to call
        (record { before = number_in_value from; matched = true }) ∷ []) 1
        → HasMade p call start after ((call, record { before = number; matched = true }) ∷ [])
        (tries - left + 1 + 1)
    tried-won acts won =
        made-more chain at.own (tried-none acts)
        (made-won number (shown-some from number tried.shows).1 won)

    module _ (found : ValueState) {after : SeenBy} (acts : leaves_alone call number ≡ false)
        (step : Extended p now after (read now.number call (shown_by_value found)) 1)
        (held : (seen_by p after).value slot.g slot.i ≡ found) where
      -- or lost to a copier
      pub tried-primed :
          shown_by_value found ≡ None → HasTried p call start after slot tries left found None
      tried-primed shows = record {
        made = made-within _ _ (omega arith)
            (made-then at.own (tried-none acts)
            (made-read p call None
            (subst (λ shown. Extended p now after (read now.number call shown) 1) shows step)));
        held = held;
        shows = shows;
        spent = spent-later tried.spent tried.made.grown (steps_add_up.one step);
      }

      -- or to another write, and what was found shows another number
      pub tried-lost :
          (other : Option ℕ) → found ≢ from → shown_by_value found ≡ Some other → 1 ≤ left
          → HasTried p call start after slot tries (left - 1) found (Some other)
      tried-lost other differs shows some =
          let here = slot-stays chain at tried.made in
          let settled = reached-settled chain now here.own slot.g (key_of_call call) here.slot.slot.0
          here.reached in
          let one = lost-one call slot.g slot.i found here.own step here.slot.slot here.claimed settled
          held (shown-some found other shows).0 (λ same. differs (same ∙ tried.held)) in
          record {
            made = made-within _ _ (omega (arith, tried.spent.fewer, some))
                (made-then at.own (tried-none acts)
                (made-read p call (Some other)
                (subst (λ shown. Extended p now after (read now.number call shown) 1) shows
                step)));
            held = held;
            shows = shows;
            spent = record {
              fewer = omega (arith, tried.spent.fewer);
              lost = omega (
                arith,
                tried.spent.lost,
                passed-sum call tried.made.grown (steps_add_up.one step),
                one,
              );
              read = λ read. absurd (no-read call number acts read);
            };
          }

  -- what it comes to that has lost its last try
  module _ {call : Call} {start now : SeenBy} {slot : Slot} {tries left : ℕ} {from : ValueState}
      {number : Option ℕ} (at : IsAtSlot chain call start slot)
      (tried : HasTried p call start now slot tries left from (Some number)) where
    pub last-made :
        (last : Attempt) → IsWithoutTries call number last
        → HasMade p call start now (made_if_tried call last) (2 + (tries - left))
    last-made (Made reply) is = absurd is
    last-made (Left reply) is =
        made-within _ _ (omega arith) (tried-left at tried reply is.0 is.1)
    last-made Overflow is = absurd is
    last-made Lost is = made-within _ _ (omega arith) (tried-none at tried is)
    last-made (Copied word) is = absurd is

    pub last-tried :
        (last : Attempt) → left ≡ 0 → IsWithoutTries call number last
        → IsTried p call start now slot tries left last
    last-tried (Made reply) none is = absurd is
    last-tried (Left reply) none is =
        (reply-fits call number reply is.1, alone-before call number reply is.0 is.1)
    last-tried Overflow none is = absurd is
    last-tried Lost none is =
        (omega (arith, tried.spent.lost, none), no-read call number is)
    last-tried (Copied word) none is = absurd is

  -- it goes on in the next table, once the slot is finished
  pub tried-above :
      {call : Call} {start now after : SeenBy} {slot : Slot} {most pass : ℕ}
      → IsAtSlot chain call start slot → HasMade p call start now [] most
      → HasMade p call now after [] pass
      → ((k : ℕ) → (seen_by p now).key slot.g slot.i ≡ Claimed k
      → IsAbove p (seen_by p after) slot.g k)
      → GoesAbove p call after slot.g HasKey
  tried-above {call = call} {slot = slot} at tried made above =
      let here = slot-stays chain at tried in
      let still = slot-stays chain here made in (
        above (key_of_call call) here.claimed,
        record { slot = slot.i; in_table = still.slot.slot.1; is = still.claimed },
      )
