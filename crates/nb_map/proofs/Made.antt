-- What the steps of a call add up to.
use Rattle.std.proofs.Common.{◌≡◌, ◌∙◌, ℕ, suc, zero, ◌+◌, ◌≤◌, ◌<◌, Bool, true, false, cond, List, [], ◌∷◌, ◌++◌, length, Option, Some, None, ap, sym, subst, refl, inl, inr, arith}
use Rattle.std.specs.List.{All}
use Rattle.std.proofs.lemmas.Bool.{eq-eqb}
use Rattle.std.proofs.lemmas.List.{append_assoc}
use Rattle.std.proofs.lemmas.List.Elements.{All-append, All-cons, All-head, All-nil, All-tail, All-weaker, filter_map-append}
use Rattle.nb_core.specs.Calls.{leaves_alone}
use Rattle.nb_core.specs.Log.{calls_of, entry_of, log_of, reply_at}
use Rattle.nb_core.specs.History.{counts, turned_slot}
use Rattle.nb_core.specs.Laws.{Lasts}
use Rattle.nb_core.specs.Plans.{Plan, generations_of}
use Rattle.nb_core.specs.Tables.{HasSlotBelow, Tables, tables_at}
use Rattle.nb_core.specs.declared.calls.Call.{Call}
use Rattle.nb_core.specs.declared.calls.Reply.{Reply}
use Rattle.nb_core.specs.declared.events.Event.{Event}
use Rattle.nb_core.specs.declared.events.Event.TheVariants.{Claim, Won, Install, Read}
use Rattle.nb_table.specs.Chains.{ChainOf, Extended, Grown, IsOwn, SeenBy, seen_by}
use Rattle.nb_table.specs.Events.{only, read}
use Rattle.nb_core.specs.Log.{IsBeginning}
use Rattle.nb_copy.specs.Copying.{HasCopied, IsCopying}
use Rattle.nb_map.specs.Calling.{HasCountedTurned, HasMade, IsBeforeNext, MayMake}
use Rattle.nb_map.specs.inside.Reading.{read_of}
use Rattle.nb_core.proofs.Theorems.{calls_append}
use Rattle.nb_map.proofs.Turned.{counted-apart, counted-copied, counted-more, counted-quiet}
use Rattle.nb_table.proofs.Theorems.{steps_add_up}

-- ---- calls of logs

-- the calls among some events and others
pub calls-append :
    (later h : List Event) (s : ℕ) → calls_of s (log_of (later ++ h)) ≡ calls_of s (log_of later)
    ++ calls_of s (log_of h)
calls-append later h s = ap (calls_of s) (filter_map-append entry_of later h)
    ∙ calls_append s (log_of later) (log_of h)

-- copying is no call
calls-copying :
    (p : Plan) (t : Tables) (g s : ℕ) (own : List Event) → All (IsCopying p t g) own
    → calls_of s (log_of own) ≡ []
calls-copying p t g s [] copying = refl
calls-copying p t g s (e ∷ own) copying =
    one e (All-head (IsCopying p t g) e own copying)
    (calls-copying p t g s own (All-tail (IsCopying p t g) e own copying))
  where
    one : (e : Event) → IsCopying p t g e → calls_of s (log_of own) ≡ []
        → calls_of s (log_of (e ∷ own)) ≡ []
    one (Won s' f i a b c r) may none = absurd may
    one (Read s' c r) may none = absurd may
    one e may none = none

-- and every call may copy
copying-may :
    (p : Plan) (before after : List Event) (g : ℕ) (call : Call) → suc g < generations_of p
    → (e : Event) → IsCopying p (tables_at p after) g e
    → MayMake p before after call e
copying-may p before after g call next (Claim s f i k) may =
    let below = subst (λ n. (n < generations_of p) × HasSlotBelow p (tables_at p after) n k)
    (sym may.0) (next, may.1) in (below.0, inl below.1)
copying-may p before after g call next (Install s f k) may = absurd may
copying-may p before after g call next e may = tt

-- ---- what a call may make it may make in more steps

-- beginnings of a history
pub begins-itself : {A : Type 0} (h : List A) → IsBeginning h h
begins-itself h = record { later = []; is = refl }

pub begins-more :
    {A : Type 0} {x y z : List A} → IsBeginning x y → IsBeginning y z → IsBeginning x z
begins-more {x} a b = record {
  later = b.later ++ a.later;
  is = b.is ∙ ap (λ h. b.later ++ h) a.is
      ∙ sym (append_assoc b.later a.later x);
}

pub begins :
    {p : Plan} {before after : SeenBy} {own : List Event} {count : ℕ}
    → Grown p before after own count → IsBeginning before.seen after.seen
begins grown = record { later = grown.later; is = grown.seen }

pub slot-below-lasts :
    (p : Plan) (t u : Tables) → Lasts p t u → (g k : ℕ) → g < generations_of p
    → HasSlotBelow p t g k → HasSlotBelow p u g k
slot-below-lasts p t u lasting zero k table below = below
slot-below-lasts p t u lasting (suc g) k table below =
    lasting.has_slot g k (omega (arith, table)) below

-- from an earlier moment on, and up to a later one
before-next-lasts :
    (p : Plan) (before begun after ended : List Event) (g : ℕ) (claim : Event)
    → IsBeginning before begun → IsBeginning after ended
    → IsBeforeNext p begun after g claim → IsBeforeNext p before ended g claim
before-next-lasts p before begun after ended g claim more later first = record {
  seen = first.seen;
  begun = begins-more more first.begun;
  no_next = first.no_next;
  met = first.met;
  rested = first.rested;
  claimed = begins-more first.claimed later;
}

may-lasts :
    (p : Plan) (before begun after ended : List Event) (call : Call) → IsBeginning before begun
    → IsBeginning after ended
    → Lasts p (tables_at p after) (tables_at p ended) → (e : Event) → MayMake p begun after call e
    → MayMake p before ended call e
may-lasts p before begun after ended call more later lasting (Claim s g i k) may = (
  may.0,
  elim may.1 [
    | inl below ↦ inl (slot-below-lasts p (tables_at p after) (tables_at p ended)
        lasting g k may.0 below)
    | inr own ↦ inr (
      own.0,
      own.1,
      before-next-lasts p before begun after ended g (Claim s g i k)
          more later own.2,
    )
  ],
)
may-lasts p before begun after ended call more later lasting (Install s f k) may = may
may-lasts p before begun after ended call more later lasting e may = tt

-- ---- one step

-- the read of a call, by what is shown of its key
abbrev pub read_shown : Call → Option (Option ℕ) → List (Call × Reply)
read_shown call None = []
read_shown call (Some number) = read_of call number

-- no step
pub made-none :
    (chain : ChainOf) (call : Call) (seat : SeenBy) → IsOwn chain seat
    → HasMade chain.shape call seat seat [] 0
made-none chain call seat own = record {
  own = [];
  count = 0;
  grown = steps_add_up.none own;
  calls = refl;
  may = All-nil (MayMake chain.shape seat.seen seat.seen call);
  counted = λ g. refl;
  few = omega arith;
}

module _ (p : Plan) (call : Call) where
  -- a step without an event
  pub made-quiet : {before after : SeenBy} → Extended p before after [] 1
      → HasMade p call before after [] 1
  made-quiet {before} {after} step = record {
    own = [];
    count = 1;
    grown = steps_add_up.one step;
    calls = refl;
    may = All-nil (MayMake p before.seen after.seen call);
    counted = counted-quiet step;
    few = omega arith;
  }

  -- a step with an event that isn't one of copying
  pub made-step :
      {before after : SeenBy} {e : Event} {made : List (Call × Reply)}
      → Extended p before after (e ∷ []) 1
      → calls_of before.number (log_of (e ∷ [])) ≡ made → MayMake p before.seen after.seen call e
      → ((h : List Event) → turned_slot p h e ≡ None)
      → ((g : ℕ) → counts e before.number g ≡ 0) → HasMade p call before after made 1
  made-step {before} {after} {e} step calls may turned counted = record {
    own = e ∷ [];
    count = 1;
    grown = steps_add_up.one step;
    calls = calls;
    may = All-cons (MayMake p before.seen after.seen call) e [] may
        (All-nil (MayMake p before.seen after.seen call));
    counted = counted-apart step turned counted;
    few = omega arith;
  }

  -- a load that is told the call
  pub made-read :
      {before after : SeenBy} (shown : Option (Option ℕ))
      → Extended p before after (read before.number call shown) 1
      → HasMade p call before after (read_shown call shown) 1
  made-read None step = made-quiet step
  made-read {before} {after} (Some number) step = one (leaves_alone call number) step
    where
      reply : Reply
      reply = reply_at call number

      one : (b : Bool) → Extended p before after (only b (Read before.number call reply)) 1
          → HasMade p call before after (cond b ((call, reply) ∷ []) []) 1
      one true step =
          made-step step (ap (λ b. cond b ((call, reply) ∷ []) [])
          (eq-eqb before.number before.number refl)) tt (λ h. refl) (λ g. refl)
      one false step = made-quiet step

-- ---- more steps

-- more steps may be allowed than were made
pub made-within :
    {p : Plan} {call : Call} {before after : SeenBy} {made : List (Call × Reply)} (most most' : ℕ)
    → most ≤ most'
    → HasMade p call before after made most → HasMade p call before after made most'
made-within most most' below made = record {
  own = made.own;
  count = made.count;
  grown = made.grown;
  calls = made.calls;
  may = made.may;
  counted = made.counted;
  few = omega (arith, made.few, below);
}

module _ (chain : ChainOf) where
  abbrev p : Plan
  p = chain.shape

  -- what the seat has seen is so still
  pub made-stays :
      {call : Call} {before after : SeenBy} {made : List (Call × Reply)} {most : ℕ}
      → IsOwn chain before → HasMade p call before after made most
      → Lasts p (seen_by p before) (seen_by p after)
  made-stays own made = steps_add_up.stays own made.grown

  -- and it is the chain's
  pub made-own :
      {call : Call} {before after : SeenBy} {made : List (Call × Reply)} {most : ℕ}
      → IsOwn chain before → HasMade p call before after made most
      → IsOwn chain after
  made-own own made = steps_add_up.own own made.grown

  -- some steps after others
  pub made-more :
      {call : Call} {before then after : SeenBy} {made made' : List (Call × Reply)} {most most' : ℕ}
      → IsOwn chain before
      → HasMade p call before then made most → HasMade p call then after made' most'
      → HasMade p call before after (made' ++ made) (most + most')
  made-more {call} {before} {then} {after} {made} {made'} own a b =
      let own' = steps_add_up.own own a.grown in
      let lasting = steps_add_up.stays own' b.grown in
      let same = steps_add_up.stays (steps_add_up.own own' b.grown)
      (steps_add_up.none (steps_add_up.own own' b.grown)) in
      record {
        own = b.own ++ a.own;
        count = a.count + b.count;
        grown = steps_add_up.more a.grown b.grown;
        calls =
            calls-append b.own a.own before.number
            ∙ ap (λ n. calls_of n (log_of b.own) ++ calls_of before.number (log_of a.own))
            (sym a.grown.number)
            ∙ ap (λ calls. calls ++ calls_of before.number (log_of a.own)) b.calls
            ∙ ap (λ calls. made' ++ calls) a.calls;
        may = All-append (MayMake p before.seen after.seen call) b.own a.own
            (All-weaker (MayMake p then.seen after.seen call)
            (MayMake p before.seen after.seen call)
            (may-lasts p before.seen then.seen after.seen after.seen call (begins a.grown)
            (begins-itself after.seen) same) b.own b.may)
            (All-weaker (MayMake p before.seen then.seen call)
            (MayMake p before.seen after.seen call)
            (may-lasts p before.seen before.seen then.seen after.seen call
            (begins-itself before.seen) (begins b.grown) lasting) a.own a.may);
        counted = counted-more p before.number before.seen then.seen after.seen a.counted
            (subst (λ n. HasCountedTurned p n then.seen after.seen) a.grown.number b.counted);
        few = omega (arith, a.few, b.few);
      }

  -- copying that counted what it turned
  pub made-copied :
      (call : Call) {before after : SeenBy} {g : ℕ} {slots : List ℕ} {chunks adding most : ℕ}
      → suc g < generations_of p
      → adding ≡ length slots → HasCopied p g before after slots chunks adding most
      → HasMade p call before after [] most
  made-copied call {before} {after} {g} next all copied = record {
    own = copied.own;
    count = copied.count;
    grown = copied.grown;
    calls = calls-copying p (seen_by p after) g before.number copied.own copied.copying;
    may = All-weaker (IsCopying p (seen_by p after) g) (MayMake p before.seen after.seen call)
        (copying-may p before.seen after.seen g call next)
        copied.own copied.copying;
    counted = counted-copied all copied;
    few = copied.few;
  }
