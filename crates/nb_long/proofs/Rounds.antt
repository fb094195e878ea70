-- The rounds of a call that reads a key and exchanges what it found: what their steps add up to,
-- and what they count.
use Rattle.std.proofs.Common.{◌≡◌, ◌∙◌, ◌+◌, ◌*◌, ◌≤◌, ◌<◌, ℕ, suc, zero, true, false, min, pos, List, [], ◌∷◌, ◌++◌, length, Option, Some, None, ap, ap₂, refl, subst, subst₂, sym, inl, inr, arith}
use Rattle.std.specs.List.{All}
use Rattle.std.proofs.Math.IntN.{◌+ℤ◌}
use Rattle.std.proofs.Math.Nat.{mul-le-mul_right}
use Rattle.std.proofs.lemmas.Bool.{eq-eqb, eqb-true}
use Rattle.std.proofs.lemmas.Int.{ints}
use Rattle.std.proofs.lemmas.List.{append_assoc}
use Rattle.std.proofs.lemmas.List.Elements.{All-append, All-cons, All-nil, All-weaker}
use Rattle.nb_core.proofs.Theorems.{calls_append, passed_over_adds}
use Rattle.nb_core.specs.Calls.{Fills}
use Rattle.nb_core.specs.History.{key_of_call}
use Rattle.nb_core.specs.Laws.{Lasts}
use Rattle.nb_core.specs.Log.{IsBeginning, calls_of, holds_of}
use Rattle.nb_core.specs.Meaning.{net_of, passed_over}
use Rattle.nb_core.specs.Plans.{Plan, generations_of}
use Rattle.nb_core.specs.Tables.{HasSlotBelow, Tables, tables_at}
use Rattle.nb_core.specs.declared.calls.Call.{Call}
use Rattle.nb_core.specs.declared.calls.Call.TheVariants as call
use Rattle.nb_core.specs.declared.calls.Change.{Change}
use Rattle.nb_core.specs.declared.calls.Reply.{Reply}
use Rattle.nb_core.specs.declared.calls.Want.{Want}
use Rattle.nb_core.specs.declared.events.Event.{Event}
use Rattle.nb_core.specs.declared.events.Event.TheVariants.{Claim, Install}
use Rattle.nb_count.specs.Counts.{CountSeatOf}
use Rattle.nb_table.proofs.Theorems.{steps_add_up}
use Rattle.nb_table.specs.Chains.{ChainOf, Grown, IsOwn, SeenBy}
use Rattle.nb_map.proofs.Theorems.{logs_add_up, replies_fit}
use Rattle.nb_map.specs.Calling.{HasCountedTurned, HasMadeSome, MayMake}
use Rattle.nb_map.specs.Logs.{HasLogged, log}
use Rattle.nb_map.specs.Maps.{HasWorked, IsMine, MapOf, SeatOf, accounted}
use Rattle.nb_map.specs.NamedCalls.{change_to, exchange_of, want_of}
use Rattle.nb_map.specs.Progress.{Limit, Tries, passed_since}
use Rattle.nb_map.specs.Promises.{Found, HasGot, HasWritten, Matched, Outcome, Refused, Replied}
use Rattle.nb_map.specs.Refusals.{IsJust}
use Rattle.nb_map.specs.Steps.{put_steps}
use Rattle.nb_long.proofs.Passed.{others-won}
use Rattle.nb_long.specs.Typed.{HasLostRound, HasMadeLast, IsIdle, IsLockFreeIf, LongMapOf, passed_on, read_that_found, round_steps}
use Rattle.nb_long.specs.Updating.{IsLost}

-- ---- steps as of another call of the key

-- a call may make what one of the same key may that fills no more
may-as :
    (p : Plan) (before after : List Event) (c c' : Call) → key_of_call c' ≡ key_of_call c
    → (Fills c → Fills c') → (e : Event) → MayMake p before after c e
    → MayMake p before after c' e
may-as p before after c c' same fills (Claim s g i k) may = (
  may.0,
  elim may.1 [
    | inl below ↦ inl below
    | inr own ↦ inr (own.0 ∙ sym same, fills own.1, own.2)
  ],
)
may-as p before after c c' same fills (Install s g k) may = (may.0 ∙ sym same, fills may.1)
may-as p before after c c' same fills e may = may

pub made_some-as :
    {p : Plan} {c : Call} {before after : SeenBy} {most : ℕ} (c' : Call)
    → key_of_call c' ≡ key_of_call c → (Fills c → Fills c') → HasMadeSome p c before after most
    → HasMadeSome p c' before after most
made_some-as {p} {c} {before} {after} c' same fills (made, steps) = (
  made,
  record {
    own = steps.own;
    count = steps.count;
    grown = steps.grown;
    calls = steps.calls;
    may = All-weaker (MayMake p before.seen after.seen c) (MayMake p before.seen after.seen c')
        (may-as p before.seen after.seen c c' same fills) steps.own steps.may;
    counted = steps.counted;
    few = steps.few;
  },
)

-- more steps may be allowed than were made
pub made_some-within :
    {p : Plan} {c : Call} {before after : SeenBy} (most most' : ℕ) → most ≤ most'
    → HasMadeSome p c before after most → HasMadeSome p c before after most'
made_some-within most most' below (made, steps) = (
  made,
  record {
    own = steps.own;
    count = steps.count;
    grown = steps.grown;
    calls = steps.calls;
    may = steps.may;
    counted = steps.counted;
    few = omega (arith, steps.few, below);
  },
)

-- no step
pub made_some-none :
    (chain : ChainOf) (c : Call) (seat : SeenBy) → IsOwn chain seat
    → HasMadeSome chain.shape c seat seat 0
made_some-none chain c seat own = (
  [],
  record {
    own = [];
    count = 0;
    grown = steps_add_up.none own;
    calls = refl;
    may = All-nil (MayMake chain.shape seat.seen seat.seen c);
    counted = λ g. refl;
    few = omega arith;
  },
)

slot-below-lasts :
    (p : Plan) (t u : Tables) → Lasts p t u → (g k : ℕ) → g < generations_of p
    → HasSlotBelow p t g k → HasSlotBelow p u g k
slot-below-lasts p t u lasting zero k table below = below
slot-below-lasts p t u lasting (suc g) k table below =
    lasting.has_slot g k (omega (arith, table)) below

-- beginnings of a history
begins-itself : {A : Type 0} (h : List A) → IsBeginning h h
begins-itself h = record { later = []; is = refl }

begins-more :
    {A : Type 0} {x y z : List A} → IsBeginning x y → IsBeginning y z → IsBeginning x z
begins-more {x = x} a b = record {
  later = b.later ++ a.later;
  is = b.is ∙ ap (λ h. b.later ++ h) a.is ∙ sym (append_assoc b.later a.later x);
}

begins :
    {p : Plan} {before after : SeenBy} {own : List Event} {count : ℕ}
    → Grown p before after own count → IsBeginning before.seen after.seen
begins grown = record { later = grown.later; is = grown.seen }

-- what a call may make, it may make in more steps
may-lasts :
    (p : Plan) (before begun after ended : List Event) (c : Call) → IsBeginning before begun
    → IsBeginning after ended → Lasts p (tables_at p after) (tables_at p ended) → (e : Event)
    → MayMake p begun after c e → MayMake p before ended c e
may-lasts p before begun after ended c more later lasting (Claim s g i k) may = (
  may.0,
  elim may.1 [
    | inl below ↦ inl (slot-below-lasts p (tables_at p after) (tables_at p ended) lasting g k
        may.0 below)
    | inr own ↦ inr (
      own.0,
      own.1,
      record {
        seen = own.2.seen;
        begun = begins-more more own.2.begun;
        no_next = own.2.no_next;
        met = own.2.met;
        rested = own.2.rested;
        claimed = begins-more own.2.claimed later;
      },
    )
  ],
)
may-lasts p before begun after ended c more later lasting (Install s g k) may = may
may-lasts p before begun after ended c more later lasting e may = tt

-- some steps after others
pub made_some-then :
    (chain : ChainOf) {c : Call} {most most' : ℕ} {before then' after : SeenBy}
    → IsOwn chain before → HasMadeSome chain.shape c before then' most
    → HasMadeSome chain.shape c then' after most'
    → HasMadeSome chain.shape c before after (most + most')
made_some-then chain {c} {before = before} {then'} {after} own (_, a) (_, b) =
    let p = chain.shape in
    let own' = steps_add_up.own own a.grown in
    let last = steps_add_up.own own' b.grown in
    let May = λ (first last : List Event). MayMake p first last c in (
      _,
      record {
        own = b.own ++ a.own;
        count = a.count + b.count;
        grown = steps_add_up.more a.grown b.grown;
        calls = refl;
        may = All-append (May before.seen after.seen) b.own a.own
            (All-weaker (May then'.seen after.seen) (May before.seen after.seen)
            (may-lasts p before.seen then'.seen after.seen after.seen c (begins a.grown)
            (begins-itself after.seen)
            (steps_add_up.stays last (steps_add_up.none last))) b.own b.may)
            (All-weaker (May before.seen then'.seen) (May before.seen after.seen)
            (may-lasts p before.seen before.seen then'.seen after.seen c
            (begins-itself before.seen) (begins b.grown)
            (steps_add_up.stays own' b.grown)) a.own a.may);
        counted = counted-then p before.number before.seen then'.seen after.seen a.counted
            (subst (λ n. HasCountedTurned p n then'.seen after.seen) a.grown.number b.counted);
        few = omega (arith, a.few, b.few);
      },
    )
  where
    counted-then : (p : Plan) (n : ℕ) (before then' after : List Event)
        → HasCountedTurned p n before then' → HasCountedTurned p n then' after
        → HasCountedTurned p n before after
    counted-then p n before then' after a b = λ g. omega (arith, a g, b g)

-- ---- what is counted

-- the net of more calls
net-append : (a b : List (Call × Reply)) → net_of (a ++ b) ≡ net_of a +ℤ net_of b
net-append [] b = omega (arith, ints)
net-append (c ∷ a) b = let rest = net-append a b in omega (arith, ints, rest)

-- the same seat of the counter, where nothing is counted
pub counted-none : (count : CountSeatOf) → accounted (pos 0) count ≡ count
counted-none count =
    let same : (n : ℕ) → n + 0 ≡ n = λ n. omega arith in
    ap₂ (λ added adds. record count { added = added; adds = adds; steps = count.steps + 0 })
    (omega (arith, ints)) (same count.adds)
    ∙ ap (λ steps. record count { steps = steps }) (same count.steps)

-- where its calls did nothing to the number of keys, a seat has counted nothing
pub uncounted :
    {m : MapOf} {c : Call} {before after : SeatOf} {made : List (Call × Reply)} {most : ℕ}
    → IsMine m before → IsMine m after → HasLogged before after made → net_of made ≡ pos 0
    → HasWorked m c before after most → after.count ≡ before.count
uncounted {before = before} {after} {made} mine mine' logged none worked =
    let s = before.chain.number in
    let calls : calls_of after.chain.number (log after) ≡ made ++ calls_of s (log before) =
    ap (λ n. calls_of n (log after)) logged.number ∙ ap (calls_of s) logged.grown
    ∙ calls_append s logged.later (log before)
    ∙ ap (λ made. made ++ calls_of s (log before)) logged.own in
    let nets : net_of (calls_of after.chain.number (log after))
    ≡ net_of made +ℤ net_of (calls_of s (log before)) =
    ap net_of calls ∙ net-append made (calls_of s (log before)) in
    let was = mine.counted in
    let is = mine'.counted in
    let added : after.count.added ≡ before.count.added +ℤ worked.net =
    ap (λ (count : CountSeatOf). count.added) worked.count in
    let zero : worked.net ≡ pos 0 = omega (arith, ints, nets, was, is, added, none) in
    worked.count ∙ ap (λ net. accounted net before.count) zero ∙ counted-none before.count

-- ---- exchanges of others

-- up to a moment and since then
pub passed-sum :
    (key : ℕ) (start mid after : SeatOf) {p : Plan} {own own' : List Event} {count count' : ℕ}
    → Grown p start.chain mid.chain own count → Grown p mid.chain after.chain own' count'
    → passed_on key start mid + passed_on key mid after ≡ passed_on key start after
passed-sum key start mid after a b =
    let x = start.chain in
    let y = mid.chain in
    let z = after.chain in
    subst (λ s. passed_on key start mid + passed_over z.seen (length y.seen) key s
    ≡ passed_on key start after) (sym a.number)
    (omega (arith, at y.seen z.seen a.later b.later a.seen b.seen key x.number))
  where
    at : (m a later later' : List Event) → m ≡ later ++ start.chain.seen → a ≡ later' ++ m
        → (k s : ℕ)
        → passed_over a (length start.chain.seen) k s ≡ passed_over a (length m) k s
        + passed_over m (length start.chain.seen) k s
    at m a later later' is is' k s =
        subst₂ (λ m a. passed_over a (length start.chain.seen) k s ≡ passed_over a (length m) k s
        + passed_over m (length start.chain.seen) k s) (sym is)
        (sym (is' ∙ ap (λ h. later' ++ h) is)) (passed_over_adds later' later start.chain.seen k s)

-- ---- one round

-- the condition of an exchange holds of the number that it is to find, and of nothing else
holds-there : (found : Option ℕ) → holds_of (want_of found) found ≡ true
holds-there None = refl
holds-there (Some n) = eq-eqb n n refl

there-is : (was found : Option ℕ) → holds_of (want_of was) found ≡ true → found ≡ was
there-is None None holds = refl
there-is None (Some n) holds = absurd cc
there-is (Some n) None holds = absurd cc
there-is (Some n) (Some f) holds = ap Some (eqb-true f n holds)

-- an exchange that matched found this number
pub exchange-won :
    {m : MapOf} {key : ℕ} {limit : Limit} {found : Option ℕ} (new : Option ℕ)
    {before after : SeatOf} {reply : Reply}
    → HasWritten m (exchange_of key found new) before after limit (Replied reply)
    → reply.matched ≡ true
    → HasWritten m (exchange_of key found new) before after limit
    (Replied (record { before = found; matched = true }))
exchange-won {m} {key} {limit} {found} new {before} {after} {reply} tried matched =
    let exchange : Call = exchange_of key found new in
    let fits = replies_fit before after exchange reply tried.answered in
    let there : reply.before ≡ found = there-is found reply.before
    (sym (ap (λ (r : Reply). r.matched) fits) ∙ matched) in
    subst (λ reply. HasWritten m exchange before after limit (Replied reply))
    (ap₂ (λ b m. record { before = b; matched = m }) there matched) tried

-- a write that didn't match does nothing to the number of keys
uncounted-missed :
    (key : ℕ) (want : Want) (change : Change) (reply : Reply) → reply.matched ≡ false
    → net_of ((call.Write key want change, reply) ∷ []) ≡ pos 0
uncounted-missed key want change reply missed = rw missed

-- A read, and an exchange, with one try, of the number that it found.
pub record HasRound (m : LongMapOf) (key : ℕ) (found new : Option ℕ) (before after : SeatOf)
    (outcome : Outcome) : Type 0 where
  pub read : SeatOf
  pub own : IsMine m.map before
  pub got : HasGot m.map key before read found
  pub wrote : HasWritten m.map (exchange_of key found new) read after (Tries 1) outcome

module _
    {m : LongMapOf} {key : ℕ} {found new : Option ℕ} {before after : SeatOf}
    {outcome : Outcome} (round : HasRound m key found new before after outcome)
  where
    abbrev p : Plan
    p = m.map.chain.shape

    abbrev exchange : Call
    exchange = exchange_of key found new

    read-count : round.read.count ≡ before.count
    read-count = uncounted round.own round.got.own round.got.replied refl round.got.worked

    one-try : (t : ℕ) → min 1 (t + 1) ≡ 1
    one-try t = omega arith

    -- to the tables it has done what a call of the key may that fills it if the exchange does
    pub round-worked :
        (c : Call) → key_of_call c ≡ key → (Fills exchange → Fills c)
        → HasWorked m.map c before after (round_steps p)
    round-worked c same fills = record {
      steps = made_some-as c same fills (made_some-then m.map.chain round.own.chain
          (made_some-as {c = call.Get key} exchange refl (λ fills. absurd cc)
          round.got.worked.steps)
          (subst (λ t. HasMadeSome p exchange round.read.chain after.chain (put_steps p t))
          (one-try (passed_since exchange round.read.chain after.chain))
          round.wrote.non_blocking.steps));
      net = round.wrote.non_blocking.net;
      count = round.wrote.non_blocking.count ∙ ap (accounted round.wrote.non_blocking.net) read-count;
    }

-- where its exchange is lost, it has changed nothing
pub lost-round :
    {m : LongMapOf} {key : ℕ} {found new : Option ℕ} {before after : SeatOf}
    (outcome : Outcome) → HasRound m key found new before after outcome → IsLost outcome
    → HasLostRound key before after
lost-round {key = key} {found} {new} {before} {after} (Replied reply) round missed =
    let exchange : Call = exchange_of key found new in
    let asked : Call × Reply = read_that_found key found in
    let both = logs_add_up.more round.got.replied round.wrote.answered in
    record {
      made = (exchange, reply) ∷ asked ∷ [];
      idle = All-cons (IsIdle key) (exchange, reply) (asked ∷ []) (refl, missed)
          (All-cons (IsIdle key) asked [] refl (All-nil (IsIdle key)));
      logged = both;
      count = uncounted round.got.own round.wrote.own round.wrote.answered
          (uncounted-missed key (want_of found) (change_to new) reply missed)
          round.wrote.non_blocking ∙ read-count round;
      won = others-won round.own.chain.plan (holds-there found)
          (round-worked round exchange refl (λ fills. fills)).steps.1.grown both
          (replies_fit round.read after exchange reply round.wrote.answered) missed;
    }
lost-round {m = m} {key} {found} {new} {before} {after} (Refused refusal) round lost =
    let exchange : Call = exchange_of key found new in
    let asked : Call × Reply = read_that_found key found in
    let just : 1 ≤ passed_on key round.read after =
    subst (IsJust m.map.chain.shape exchange round.read.chain after.chain (Tries 1)) lost
    round.wrote.answered.just in
    let sum = passed-sum key before round.read after round.got.worked.steps.1.grown
    round.wrote.non_blocking.steps.1.grown in
    record {
      made = asked ∷ [];
      idle = All-cons (IsIdle key) asked [] refl (All-nil (IsIdle key));
      logged = logs_add_up.more round.got.replied round.wrote.answered.unmade;
      count = uncounted round.got.own round.wrote.own round.wrote.answered.unmade refl
          round.wrote.non_blocking ∙ read-count round;
      won = omega (arith, just, sum);
    }
lost-round (Found number) round lost = absurd lost
lost-round (Matched held) round lost = absurd lost

-- ---- rounds one after another

-- The seat has made calls alone that changed nothing, or none, and counted nothing. Its steps were
-- such as this call of the key may make, and no more than a round takes for each exchange that
-- other seats have won on the key meanwhile.
pub record HasIdled (m : LongMapOf) (c : Call) (key : ℕ) (before after : SeatOf) : Type 0 where
  pub calls : List (Call × Reply)
  pub idle : All (IsIdle key) calls
  pub logged : HasLogged before after calls
  pub steps : HasMadeSome m.map.chain.shape c before.chain after.chain
      (passed_on key before after * round_steps m.map.chain.shape)
  pub count : after.count ≡ before.count

pub idled-none :
    {m : LongMapOf} {key : ℕ} {seat : SeatOf} (c : Call) → IsMine m.map seat
    → HasIdled m c key seat seat
idled-none {m} {key} {seat} c mine = record {
  calls = [];
  idle = All-nil (IsIdle key);
  logged = logs_add_up.none mine;
  steps = made_some-within 0 (passed_on key seat seat * round_steps m.map.chain.shape)
      (omega arith) (made_some-none m.map.chain c seat.chain mine.chain);
  count = refl;
}

module _
    {m : LongMapOf} {c : Call} {key : ℕ} {before now : SeatOf} (mine : IsMine m.map before)
    (idled : HasIdled m c key before now)
  where
    abbrev most : ℕ
    most = round_steps m.map.chain.shape

    -- as of another call
    pub idled-as :
        (c' : Call) → key_of_call c' ≡ key_of_call c → (Fills c → Fills c')
        → HasIdled m c' key before now
    idled-as c' same fills = record {
      calls = idled.calls;
      idle = idled.idle;
      logged = idled.logged;
      steps = made_some-as c' same fills idled.steps;
      count = idled.count;
    }

    -- one more is lost
    pub idled-more :
        {after : SeatOf} → HasLostRound key now after → HasWorked m.map c now after most
        → HasIdled m c key before after
    idled-more {after} lost worked =
        let sum = passed-sum key before now after idled.steps.1.grown worked.steps.1.grown in
        record {
          calls = lost.made ++ idled.calls;
          idle = All-append (IsIdle key) lost.made idled.calls lost.idle idled.idle;
          logged = logs_add_up.more idled.logged lost.logged;
          steps = made_some-within (passed_on key before now * most + most)
              (passed_on key before after * most)
              (one-more (passed_on key before now) (passed_on key before after) most
              (omega (arith, lost.won, sum)))
              (made_some-then m.map.chain mine.chain idled.steps worked.steps);
          count = lost.count ∙ idled.count;
        }
      where
        one-more : (a b r : ℕ) → a + 1 ≤ b → a * r + r ≤ b * r
        one-more a b r less =
            let more : (a + 1) * r ≤ b * r = mul-le-mul_right r less in omega (arith, more)

    -- the last one, or a part of it
    pub worked-then :
        {after : SeatOf} (most' : ℕ) → most' ≤ most → HasWorked m.map c now after most'
        → HasWorked m.map c before after ((passed_on key before after + 1) * most)
    worked-then {after} most' within worked =
        let sum = passed-sum key before now after idled.steps.1.grown worked.steps.1.grown in
        record {
          steps = made_some-within (passed_on key before now * most + most')
              ((passed_on key before after + 1) * most)
              (one-more (passed_on key before now) (passed_on key before after) most most'
              (omega (arith, sum)) within)
              (made_some-then m.map.chain mine.chain idled.steps worked.steps);
          net = worked.net;
          count = worked.count ∙ ap (accounted worked.net) idled.count;
        }
      where
        one-more : (a b r most : ℕ) → a ≤ b → most ≤ r → a * r + most ≤ (b + 1) * r
        one-more a b r most less within =
            let more : a * r ≤ b * r = mul-le-mul_right r less in omega (arith, more)

    pub last-then :
        {after : SeatOf} {made : Call × Reply} → HasMadeLast key made now after
        → HasMadeLast key made before after
    last-then last = record {
      earlier = last.earlier ++ idled.calls;
      idle = All-append (IsIdle key) last.earlier idled.calls last.idle idled.idle;
      logged = logs_add_up.more idled.logged last.logged;
    }

-- no round at all
pub free-none :
    (m : LongMapOf) (key : ℕ) (seat : SeatOf) → IsMine m.map seat → IsLockFreeIf m key seat seat
free-none m key seat mine = record {
  steps = made_some-within 0 ((passed_on key seat seat + 1) * round_steps m.map.chain.shape)
      (omega arith) (made_some-none m.map.chain (call.Get key) seat.chain mine.chain);
  net = pos 0;
  count = sym (counted-none seat.count);
}
