-- Walks that show their entries to a function, and take out what it refuses: what they have done so
-- far, and in the end.
use Rattle.std.proofs.Common.{◌≡◌, ◌∙◌, ◌==◌, ℕ, ◌+◌, ◌-◌, ◌*◌, ◌≤◌, ◌<◌, Bool, true, false, List, [], ◌∷◌, ◌++◌, ℤ, pos, Option, Some, None, count_by, sum_by, cond, inl, inr, ap, ap₂, refl, sym, subst, arith}
use Rattle.std.specs.List.{All, Contains}
use Rattle.std.specs.Option.{IfSome}
use Rattle.std.proofs.Math.IntN.{◌+ℤ◌}
use Rattle.std.proofs.Math.Nat.{mul-le-mul_right}
use Rattle.std.proofs.lemmas.Int.{ints}
use Rattle.std.proofs.lemmas.List.{append-nil}
use Rattle.std.proofs.lemmas.List.Sums.{sum_by-cons}
use Rattle.std.proofs.lemmas.List.Elements.{All-cons, All-head, All-nil, All-tail, All-weaker, Contains-append_right}
use Rattle.nb_core.specs.Calls.{Fills}
use Rattle.nb_core.specs.Log.{IsBeginning, reply_at}
use Rattle.nb_core.specs.Meaning.{net_of, net_of_call}
use Rattle.nb_core.specs.Plans.{Plan, generations_of}
use Rattle.nb_core.specs.declared.calls.Call.{Call}
use Rattle.nb_core.specs.declared.calls.Call.TheVariants.{Get, Write}
use Rattle.nb_core.specs.declared.calls.Reply.{Reply}
use Rattle.nb_core.specs.declared.events.Event.{Event}
use Rattle.nb_core.specs.declared.events.Event.TheVariants.{Claim, Install}
use Rattle.nb_count.specs.Counts.{CountSeatOf}
use Rattle.nb_table.specs.Chains.{Grown, SeenBy}
use Rattle.nb_map.specs.Bulk.{Begun, HasSwept, HasSweptAll, Kept, Missed, Unwanted, counted_after, has_changed, read_as, removal_steps, whole_walk_steps}
use Rattle.nb_map.specs.Calling.{HasMade, HasMadeSome, MayMake}
use Rattle.nb_map.specs.Logs.{HasLogged, log}
use Rattle.nb_map.specs.Maps.{IsMine, MapOf, SeatOf, accounted}
use Rattle.nb_map.specs.NamedCalls.{remove_if_of}
use Rattle.nb_map.specs.Progress.{Unlimited, passed_since}
use Rattle.nb_map.specs.Promises.{HasBegunWalk, HasWalkedOn, HasWritten, Matched}
use Rattle.nb_map.specs.Entries.{IsRead}
use Rattle.nb_map.specs.Steps.{get_steps, passing_steps, put_steps, slots_ahead, slots_below}
use Rattle.nb_map.specs.Walks.{IsMiss, IsUnderway, IsWalkOf, Rested, WalkOf, hit, with_shown}
use Rattle.nb_map.specs.declared.steps.walk.Place.{Place}
use Rattle.nb_map.specs.declared.steps.walk.Place.TheVariants.{Slot, End}
use Rattle.nb_map.proofs.AtHome.{put-rises}
use Rattle.nb_map.proofs.Counted.{net-made}
use Rattle.nb_map.proofs.Logged.{counted-none, logged-then}
use Rattle.nb_map.proofs.Made.{made-more, made-quiet, made-within}
use Rattle.nb_map.proofs.Replied.{replies_fit}
use Rattle.nb_map.proofs.Spent.{passed-sum}
use Rattle.nb_map.proofs.Updated.{made-logged, worked-same}
use Rattle.nb_map.proofs.Walked.{held-since}
use Rattle.nb_map.proofs.WholeWalk.{hit-net, walk_lasts, whole_walk}

-- ---- reads among the calls

-- the call is a read, with its reply
IsReadCall : Call × Reply → Type 0
IsReadCall made = (k : ℕ) × (number : Option ℕ) × (made ≡ read_as k number)

misses-reads : (misses : List (Call × Reply)) → All IsMiss misses → All IsReadCall misses
unfolding IsReadCall
misses-reads misses missed =
    All-weaker IsMiss IsReadCall (λ made miss. (miss.0, None, miss.1)) misses missed

reads-of :
    (found : Option (ℕ × ℕ)) (misses : List (Call × Reply)) → All IsMiss misses
    → All IsReadCall (hit found ++ misses)
unfolding IsReadCall
reads-of None misses missed = misses-reads misses missed
reads-of (Some pair) misses missed =
    All-cons IsReadCall (read_as pair.0 (Some pair.1)) misses (pair.0, Some pair.1, refl)
    (misses-reads misses missed)

-- how many calls changed something, one more beside these
changed-more :
    (made : Call × Reply) (calls : List (Call × Reply))
    → count_by has_changed (made ∷ calls) ≡ cond (has_changed made) 1 0 + count_by has_changed calls
changed-more made calls = sum_by-cons (λ made. cond (has_changed made) 1 0) made calls

-- the bound of the removals, one more beside these
removals-more :
    (p : Plan) (before after : SeenBy) (made : Call × Reply) (calls : List (Call × Reply))
    → sum_by (λ (made : Call × Reply). removal_steps p before after made.0) (made ∷ calls)
    ≡ removal_steps p before after made.0
    + sum_by (λ (made : Call × Reply). removal_steps p before after made.0) calls
removals-more p before after made calls =
    sum_by-cons (λ (made : Call × Reply). removal_steps p before after made.0) made calls

-- they change nothing,
reads-changed :
    (reads calls : List (Call × Reply)) → All IsReadCall reads
    → count_by has_changed (reads ++ calls) ≡ count_by has_changed calls
unfolding IsReadCall
reads-changed [] calls are = refl
reads-changed (made ∷ reads) calls are =
    let read = All-head IsReadCall made reads are in
    let none = ap {A = Call × Reply} (λ made. cond {A = ℕ} (has_changed made) 1 0) read.2 in
    let rest = reads-changed reads calls (All-tail IsReadCall made reads are) in
    omega (arith, none, rest, changed-more made (reads ++ calls))

-- nor the number of keys,
reads-net :
    (reads calls : List (Call × Reply)) → All IsReadCall reads
    → net_of (reads ++ calls) ≡ net_of calls
unfolding IsReadCall
reads-net [] calls are = refl
reads-net (made ∷ reads) calls are =
    let read = All-head IsReadCall made reads are in
    let none : net_of_call made.0 made.1 ≡ pos 0 =
    ap (λ (made : Call × Reply). net_of_call made.0 made.1) read.2 in
    let rest = reads-net reads calls (All-tail IsReadCall made reads are) in
    omega (arith, ints, none, rest)

-- and are no removal
reads-removals :
    (p : Plan) (before after : SeenBy) (reads calls : List (Call × Reply)) → All IsReadCall reads
    → sum_by (λ (made : Call × Reply). removal_steps p before after made.0) (reads ++ calls)
    ≡ sum_by (λ (made : Call × Reply). removal_steps p before after made.0) calls
unfolding IsReadCall
reads-removals p before after [] calls are = refl
reads-removals p before after (made ∷ reads) calls are =
    let read = All-head IsReadCall made reads are in
    let none : removal_steps p before after made.0 ≡ 0 =
    ap (λ (made : Call × Reply). removal_steps p before after made.0) read.2 in
    let rest =
    reads-removals p before after reads calls (All-tail IsReadCall made reads are) in
    omega (arith, none, rest, removals-more p before after made (reads ++ calls))

-- ---- steps

-- a call that fills no key may make what a read of any key may
made-unfilled :
    {p : Plan} {call : Call} {before after : SeenBy} {made : List (Call × Reply)} {most : ℕ}
    (key : ℕ) → (Fills call → ⊥)
    → HasMade p call before after made most → HasMade p (Get key) before after made most
made-unfilled {p} {call} {before} {after} key never made = record {
  own = made.own;
  count = made.count;
  grown = made.grown;
  calls = made.calls;
  may = All-weaker (MayMake p before.seen after.seen call)
      (MayMake p before.seen after.seen (Get key)) may made.own made.may;
  counted = made.counted;
  few = made.few;
}
  where
    may : (e : Event) → MayMake p before.seen after.seen call e
        → MayMake p before.seen after.seen (Get key) e
    may (Claim s g i q) claimed = (
      claimed.0,
      elim claimed.1 [
        | inl below ↦ inl below
        | inr own ↦ absurd (never own.1)
      ],
    )
    may (Install s g q) installed = absurd (never installed.1)
    may e made = tt

-- steps of some calls after others
pub made_some-more :
    {m : MapOf} {call : Call} {before : SeatOf} (mid after : SeatOf) {most most' : ℕ} (all : ℕ)
    → IsMine m before → most + most' ≤ all
    → HasMadeSome m.chain.shape call before.chain mid.chain most
    → HasMadeSome m.chain.shape call mid.chain after.chain most'
    → HasMadeSome m.chain.shape call before.chain after.chain all
made_some-more {m} mid after all mine fits a b =
    (b.0 ++ a.0, made-within _ all fits (made-more m.chain mine.chain a.1 b.1))

-- the bound of removals grows with what the seat sees
removals-grow :
    {p : Plan} {before now after : SeenBy} {own own' : List Event} {count count' : ℕ}
    → Grown p before now own count → Grown p now after own' count'
    → (calls : List (Call × Reply))
    → sum_by (λ (made : Call × Reply). removal_steps p before now made.0) calls
    ≤ sum_by (λ (made : Call × Reply). removal_steps p before after made.0) calls
removals-grow a b [] = omega arith
removals-grow {p} {before} {now} {after} a b (made ∷ calls) =
    let one = grows made.0 in
    let rest = removals-grow a b calls in
    omega (
      arith,
      one,
      rest,
      removals-more p before now made calls,
      removals-more p before after made calls,
    )
  where
    grows : (call : Call)
        → removal_steps p before now call ≤ removal_steps p before after call
    grows (Get k) = omega arith
    grows (Write k want change) =
        let sum = passed-sum (Get k) a b in
        put-rises p (passed_since (Get k) before now + 1) (passed_since (Get k) before after + 1)
        (omega (arith, sum))

-- no more slots are ahead than there are
ahead-within : (p : Plan) (place : Place) → slots_ahead p place ≤ slots_below p (generations_of p)
ahead-within p (Slot g i) = omega arith
ahead-within p End = omega arith

-- and a walk that goes on has fewer
ahead-falls :
    (p : Plan) (from to : Place) (found : Option (ℕ × ℕ))
    → IfSome found (λ pair. slots_ahead p to < slots_ahead p from) → (found ≡ None → to ≡ End)
    → slots_ahead p to ≤ slots_ahead p from
ahead-falls p from to None ahead ended =
    subst (λ place. slots_ahead p place ≤ slots_ahead p from) (sym (ended refl)) (omega arith)
ahead-falls p from to (Some pair) ahead ended = omega (arith, ahead)

-- ---- the counter

-- after a removal: one step where it took the key out, else none
counted-removal :
    (k n : ℕ) (reply : Reply) → reply ≡ reply_at (remove_if_of k n) reply.before
    → (net : ℤ) → net ≡ net_of_call (remove_if_of k n) reply → (calls : List (Call × Reply))
    → (count : CountSeatOf)
    → accounted net (counted_after calls count)
    ≡ counted_after ((remove_if_of k n, reply) ∷ calls) count
counted-removal k n reply fits net is calls count =
    subst (λ net. accounted net (counted_after calls count)
    ≡ counted_after ((remove_if_of k n, reply) ∷ calls) count) (sym is)
    (subst (λ reply. accounted (net_of_call (remove_if_of k n) reply) (counted_after calls count)
    ≡ counted_after ((remove_if_of k n, reply) ∷ calls) count) (sym fits)
    (at reply.before))
  where
    same : {added added' : ℤ} {adds adds' steps steps' : ℕ} → added ≡ added' → adds ≡ adds'
        → steps ≡ steps'
        → ◌≡◌ {A = CountSeatOf} (record count { added = added; adds = adds; steps = steps })
        (record count { added = added'; adds = adds'; steps = steps' })
    same a b c = cc

    one : (m : ℕ) (b : Bool) → (m == n) ≡ b
        → let reply : Reply = record { before = Some m; matched = b } in
        accounted (net_of_call (remove_if_of k n) reply) (counted_after calls count)
        ≡ counted_after ((remove_if_of k n, reply) ∷ calls) count
    one m true e =
        let more = changed-more (remove_if_of k n, record { before = Some m; matched = true }) calls in
        same (omega (arith, ints)) (omega (arith, more)) (omega (arith, more))
    one m false e =
        let more = changed-more (remove_if_of k n, record { before = Some m; matched = false }) calls in
        same (omega (arith, ints)) (omega (arith, more)) (omega (arith, more))

    at : (before : Option ℕ)
        → accounted (net_of_call (remove_if_of k n) (reply_at (remove_if_of k n) before))
        (counted_after calls count)
        ≡ counted_after ((remove_if_of k n, reply_at (remove_if_of k n) before) ∷ calls) count
    at None =
        let more = changed-more (remove_if_of k n, record { before = None; matched = false }) calls in
        same (omega (arith, ints)) (omega (arith, more)) (omega (arith, more))
    at (Some m) = one m (m == n) refl

-- ---- so far

module _ (m : MapOf) (before : SeatOf) where
  abbrev p : Plan
  p = m.chain.shape

  -- the most steps until a walk has come to a place, with these calls
  abbrev far_steps : SeatOf → Place → List (Call × Reply) → ℕ
  far_steps now place calls =
      1 + (slots_below p (generations_of p) - slots_ahead p place)
      * (slots_below p (generations_of p) + get_steps p + 4)
      + sum_by (λ (made : Call × Reply). removal_steps p before.chain now.chain made.0) calls

  -- The walk has come to its place, has shown these entries, and made these calls.
  pub record HasComeTo (now : SeatOf) (walk : WalkOf) (shown : List (ℕ × ℕ))
      (calls : List (Call × Reply)) : Type 0 where
    pub mine : IsMine m now
    pub is_walk : IsWalkOf m now walk
    pub begun : IsBeginning (log before) (log walk.begun)
    pub underway : IsUnderway m now walk shown
    pub logged : HasLogged before now calls
    pub steps : (key : ℕ)
        → HasMadeSome p (Get key) before.chain now.chain (far_steps now walk.place calls)
    pub count : now.count ≡ counted_after calls before.count

  -- and the function was called at each of them
  pub record HasSweptTo {F : Type 0} (Step : F → (k n : ℕ) → Bool → F → Type 0) (first : F)
      (now : SeatOf) (walk : WalkOf) (function : F) : Type 0 where
    pub shown : List (ℕ × ℕ)
    pub calls : List (Call × Reply)
    pub swept : HasSwept Step first calls shown function
    pub come : HasComeTo now walk shown calls

-- nothing was counted yet
counted-begun : (count : CountSeatOf) → counted_after [] count ≡ count
counted-begun count = counted-none count

module _ {m : MapOf} {before : SeatOf} (mine : IsMine m before) where
  -- as the walk begins
  pub come-begun :
      {now : SeatOf} {walk : WalkOf} → HasBegunWalk m before now walk
      → HasComeTo m before now walk [] []
  come-begun {now} {walk} begun = record {
    mine = begun.top.own;
    is_walk = begun.is_walk;
    begun = subst (λ (walk : WalkOf). IsBeginning (log before) (log walk.begun))
        (sym begun.begun)
        (record { later = begun.top.logged.later; is = begun.top.logged.grown });
    underway = begun.underway;
    logged = begun.top.logged;
    steps = λ key. ([], made-within 1 _ (omega arith) (made-quiet m.chain.shape (Get key) begun.top.grows));
    count = begun.top.count ∙ sym (counted-begun before.count);
  }

  -- it has gone on
  pub come-walked :
      {now after : SeatOf} {walk walk' : WalkOf} {shown : List (ℕ × ℕ)}
      {calls : List (Call × Reply)} (found : Option (ℕ × ℕ)) → HasComeTo m before now walk shown calls
      → (on : HasWalkedOn m now after walk walk' found)
      → HasComeTo m before after walk' (with_shown found shown)
      ((hit found ++ on.read.misses) ++ calls)
  come-walked {now} {after} {walk} {walk'} {shown} {calls} found come on =
      let reads = reads-of found on.read.misses on.read.missed in
      let told = made-logged (on.worked 0).steps.1 on.read.logged in
      let same : after.count ≡ now.count =
      worked-same come.mine on.own told (hit-net found on.read.misses on.read.missed) (on.worked 0)
      in
      record {
        mine = on.own;
        is_walk = on.is_walk;
        begun = subst (λ (begun : SeatOf). IsBeginning (log before) (log begun))
            (sym on.walked.begun) come.begun;
        underway = on.underway shown come.underway;
        logged = logged-then come.logged on.read.logged;
        steps = λ key. made_some-more now after _ mine (fits reads) (come.steps key)
            (on.worked key).steps;
        count = same ∙ come.count
            ∙ ap₂ (λ net changed. record before.count {
              added = before.count.added +ℤ net;
              adds = before.count.adds + changed;
              steps = before.count.steps + changed;
            }) (sym (reads-net _ calls reads)) (sym (reads-changed _ calls reads));
      }
    where
      way : (all from to c : ℕ) → to ≤ from → from ≤ all
          → (all - from) * c + (from - to) * c ≤ (all - to) * c
      way all from to c down within =
          let sum : (all - from) + (from - to) ≡ all - to = omega (arith, down, within) in
          let both : ((all - from) + (from - to)) * c ≡ (all - from) * c + (from - to) * c =
          omega arith in
          omega (arith, both, ap (λ n. n * c) sum)

      fits : All IsReadCall (hit found ++ on.read.misses)
          → far_steps m before now walk.place calls + passing_steps m.chain.shape walk.place walk'.place
          ≤ far_steps m before after walk'.place ((hit found ++ on.read.misses) ++ calls)
      fits reads =
          let down = ahead-falls m.chain.shape walk.place walk'.place found on.ahead on.ended in
          let all = ahead-within m.chain.shape walk.place in
          let ways = way (slots_below m.chain.shape (generations_of m.chain.shape))
          (slots_ahead m.chain.shape walk.place) (slots_ahead m.chain.shape walk'.place)
          (slots_below m.chain.shape (generations_of m.chain.shape) + get_steps m.chain.shape + 4)
          down all in
          let removals =
          removals-grow (come.steps 0).1.grown (on.worked 0).steps.1.grown calls in
          let none = reads-removals m.chain.shape before.chain after.chain
          (hit found ++ on.read.misses) calls reads in
          omega (arith, ways, removals, none)

  -- it has taken an entry out, or the key had another number by then
  pub come-removed :
      {now after : SeatOf} {walk : WalkOf} {shown : List (ℕ × ℕ)} {calls : List (Call × Reply)}
      (k n : ℕ) {removed : Bool} → HasComeTo m before now walk shown calls
      → (wrote : HasWritten m (remove_if_of k n) now after Unlimited (Matched removed))
      → HasComeTo m before after walk shown ((remove_if_of k n, wrote.answered.0) ∷ calls)
  come-removed {now} {after} {walk} {shown} {calls} k n come wrote =
      let reply = wrote.answered.0 in
      let logged : HasLogged now after ((remove_if_of k n, reply) ∷ []) = wrote.answered.2 in
      let later = walk_lasts.later wrote.non_blocking in
      record {
        mine = wrote.own;
        is_walk = walk_lasts.lasts come.is_walk wrote.own later;
        begun = come.begun;
        underway = Rested come.underway wrote.own later;
        logged = logged-then come.logged logged;
        steps = λ key. made_some-more now after _ mine fits (come.steps key)
            (_, made-unfilled key (λ fills. absurd cc) wrote.non_blocking.steps.1);
        count = wrote.non_blocking.count ∙ ap (accounted wrote.non_blocking.net) come.count
            ∙ counted-removal k n reply (replies_fit now after (remove_if_of k n) reply logged)
            wrote.non_blocking.net (nets logged) calls before.count;
      }
    where
      nets : {reply : Reply} → HasLogged now after ((remove_if_of k n, reply) ∷ [])
          → wrote.non_blocking.net ≡ net_of_call (remove_if_of k n) reply
      nets logged =
          let steps = made-logged wrote.non_blocking.steps.1 logged in
          let added = ap (λ count. count.added) wrote.non_blocking.count in
          omega (arith, ints, net-made steps, added, come.mine.counted, wrote.own.counted)

      fits : far_steps m before now walk.place calls
          + put_steps m.chain.shape (passed_since (remove_if_of k n) now.chain after.chain + 1)
          ≤ far_steps m before after walk.place ((remove_if_of k n, wrote.answered.0) ∷ calls)
      fits =
          let a = (come.steps 0).1.grown in
          let b = wrote.non_blocking.steps.1.grown in
          let sum = passed-sum (Get k) a b in
          let one = put-rises m.chain.shape
          (passed_since (Get k) now.chain after.chain + 1)
          (passed_since (Get k) before.chain after.chain + 1) (omega (arith, sum)) in
          let rest = removals-grow a b calls in
          let more = removals-more m.chain.shape before.chain after.chain
          (remove_if_of k n, wrote.answered.0) calls in
          omega (arith, one, rest, more)

-- ---- with the function

module _ {F : Type 0} {Step : F → (k n : ℕ) → Bool → F → Type 0} {first : F} where
  -- reads that found nothing
  pub swept-missed :
      {calls : List (Call × Reply)} {shown : List (ℕ × ℕ)} {f : F} (misses : List (Call × Reply))
      → All IsMiss misses → HasSwept Step first calls shown f
      → HasSwept Step first (misses ++ calls) shown f
  swept-missed [] missed swept = swept
  swept-missed {calls} {shown} {f} (made ∷ misses) missed swept =
      let miss = All-head IsMiss made misses missed in
      subst (λ made. HasSwept Step first (made ∷ (misses ++ calls)) shown f) (sym miss.1)
      (Missed (swept-missed misses (All-tail IsMiss made misses missed) swept) miss.0)

  -- each entry was read
  pub swept-read :
      {calls : List (Call × Reply)} {shown : List (ℕ × ℕ)} {f : F}
      → HasSwept Step first calls shown f
      → All (λ pair. Contains calls (Get pair.0, reply_at (Get pair.0) (Some pair.1))) shown
  swept-read Begun = All-nil _
  swept-read (Missed {calls} {shown} swept k) =
      All-weaker (λ pair. Contains calls (read_as pair.0 (Some pair.1))) _
      (λ pair. Contains-append_right (read_as k None ∷ []) calls (read_as pair.0 (Some pair.1)))
      shown (swept-read swept)
  swept-read (Kept {calls} {shown} swept k n g step) =
      All-cons (λ pair. Contains (read_as k (Some n) ∷ calls) (read_as pair.0 (Some pair.1))) (k, n) shown
      (0, omega arith, refl)
      (All-weaker (λ pair. Contains calls (read_as pair.0 (Some pair.1))) _
      (λ pair. Contains-append_right (read_as k (Some n) ∷ []) calls
      (read_as pair.0 (Some pair.1))) shown (swept-read swept))
  swept-read (Unwanted {calls} {shown} swept k n g step reply) =
      All-cons (λ pair. Contains ((remove_if_of k n, reply) ∷ read_as k (Some n) ∷ calls)
      (read_as pair.0 (Some pair.1))) (k, n) shown
      (1, omega arith, refl)
      (All-weaker (λ pair. Contains calls (read_as pair.0 (Some pair.1))) _
      (λ pair. Contains-append_right ((remove_if_of k n, reply) ∷ read_as k (Some n) ∷ []) calls
      (read_as pair.0 (Some pair.1))) shown (swept-read swept))

  module _ {m : MapOf} {before : SeatOf} (mine : IsMine m before) where
    -- as the walk begins
    pub sweep-begun :
        {now : SeatOf} {walk : WalkOf} → HasBegunWalk m before now walk
        → HasSweptTo m before Step first now walk first
    sweep-begun begun =
        record { shown = []; calls = []; swept = Begun; come = come-begun mine begun }

    -- an entry is to stay
    pub sweep-kept :
        {now after : SeatOf} {walk walk' : WalkOf} {f : F} (k n : ℕ) (g : F)
        → HasSweptTo m before Step first now walk f
        → HasWalkedOn m now after walk walk' (Some (k, n)) → Step f k n true g
        → HasSweptTo m before Step first after walk' g
    sweep-kept k n g sweep on step = record {
      shown = (k, n) ∷ sweep.shown;
      calls = read_as k (Some n) ∷ (on.read.misses ++ sweep.calls);
      swept = Kept (swept-missed on.read.misses on.read.missed sweep.swept) k n g step;
      come = come-walked mine (Some (k, n)) sweep.come on;
    }

    -- an entry is to go
    pub sweep-refused :
        {now mid after : SeatOf} {walk walk' : WalkOf} {f : F} (k n : ℕ) (g : F) {removed : Bool}
        → HasSweptTo m before Step first now walk f
        → HasWalkedOn m now mid walk walk' (Some (k, n)) → Step f k n false g
        → HasWritten m (remove_if_of k n) mid after Unlimited (Matched removed)
        → HasSweptTo m before Step first after walk' g
    sweep-refused k n g sweep on step wrote = record {
      shown = (k, n) ∷ sweep.shown;
      calls = (remove_if_of k n, wrote.answered.0)
          ∷ read_as k (Some n) ∷ (on.read.misses ++ sweep.calls);
      swept = Unwanted (swept-missed on.read.misses on.read.missed sweep.swept) k n g step
          wrote.answered.0;
      come = come-removed mine k n (come-walked mine (Some (k, n)) sweep.come on) wrote;
    }

    -- the walk is at its end
    pub sweep-all :
        {now after : SeatOf} {walk walk' : WalkOf} {f : F}
        → HasSweptTo m before Step first now walk f
        → HasWalkedOn m now after walk walk' None
        → HasSweptAll m Step first before after
    sweep-all {after = after} {walk' = walk'} {f} sweep on =
        let come = come-walked mine None sweep.come on in
        let swept = swept-missed on.read.misses on.read.missed sweep.swept in
        let whole = whole_walk m after walk' sweep.shown come.underway (on.ended refl) in
        record {
          shown = sweep.shown;
          all = record {
            once = whole.once;
            made = on.read.misses ++ sweep.calls;
            logged = come.logged;
            read = swept-read swept;
            held = λ k held. whole.held k (held-since k held come.begun);
          };
          function = f;
          swept = swept;
          steps = λ key. (
            (come.steps key).0,
            made-within _ _
                (within (slots_below m.chain.shape (generations_of m.chain.shape))
                (slots_ahead m.chain.shape walk'.place) _ _) (come.steps key).1,
          );
          count = come.count;
          own = come.mine;
        }
      where
        within : (all ahead c removals : ℕ)
            → 1 + (all - ahead) * c + removals ≤ 1 + all * c + removals
        within all ahead c removals =
            let less : (all - ahead) * c ≤ all * c = mul-le-mul_right c (omega arith) in
            omega (arith, less)

-- ---- calls that are all reads

as-read-calls : (calls : List (Call × Reply)) → All IsRead calls → All IsReadCall calls
unfolding IsReadCall
as-read-calls calls reads = reads

-- they leave what is counted,
pub counted-reads :
    (calls : List (Call × Reply)) (count : CountSeatOf) → All IsRead calls
    → counted_after calls count ≡ count
counted-reads calls count reads =
    let are = as-read-calls calls reads in
    ap (λ all. counted_after all count) (sym (append-nil calls))
    ∙ ap₂ (λ net changed. record count {
      added = count.added +ℤ net;
      adds = count.adds + changed;
      steps = count.steps + changed;
    }) (reads-net calls [] are) (reads-changed calls [] are)
    ∙ counted-none count

-- and take no more steps than their walk
pub far-reads :
    (m : MapOf) (before now : SeatOf) (place : Place) (calls : List (Call × Reply))
    → All IsRead calls → far_steps m before now place calls ≤ whole_walk_steps m.chain.shape
far-reads m before now place calls reads =
    let none : sum_by (λ (made : Call × Reply). removal_steps m.chain.shape before.chain now.chain made.0)
    calls ≡ 0
    = ap (sum_by (λ (made : Call × Reply). removal_steps m.chain.shape before.chain now.chain made.0))
    (sym (append-nil calls))
    ∙ reads-removals m.chain.shape before.chain now.chain calls [] (as-read-calls calls reads) in
    within (slots_below m.chain.shape (generations_of m.chain.shape))
    (slots_ahead m.chain.shape place)
    (slots_below m.chain.shape (generations_of m.chain.shape) + get_steps m.chain.shape + 4) _ none
  where
    within : (all ahead c removals : ℕ) → removals ≡ 0
        → 1 + (all - ahead) * c + removals ≤ 1 + all * c
    within all ahead c removals none =
        let less : (all - ahead) * c ≤ all * c = mul-le-mul_right c (omega arith) in
        omega (arith, less, none)

-- ---- other functions

-- each step of a function is one of another
module _ {F G : Type 0} {Step : F → (k n : ℕ) → Bool → F → Type 0}
    (Step' : G → (k n : ℕ) → Bool → G → Type 0) (onto : F → G)
    (steps : (f : F) (k n : ℕ) (keep : Bool) (g : F) → Step f k n keep g
    → Step' (onto f) k n keep (onto g))
  where
    swept-as :
        {first function : F} {calls : List (Call × Reply)} {shown : List (ℕ × ℕ)}
        → HasSwept Step first calls shown function
        → HasSwept Step' (onto first) calls shown (onto function)
    swept-as Begun = Begun
    swept-as (Missed swept k) = Missed (swept-as swept) k
    swept-as (Kept {f = f} swept k n g step) =
        Kept (swept-as swept) k n (onto g) (steps f k n true g step)
    swept-as (Unwanted {f = f} swept k n g step reply) =
        Unwanted (swept-as swept) k n (onto g) (steps f k n false g step) reply

    pub sweep-as :
        {m : MapOf} {f : F} {before after : SeatOf} → HasSweptAll m Step f before after
        → HasSweptAll m Step' (onto f) before after
    sweep-as sweep = record {
      shown = sweep.shown;
      all = sweep.all;
      function = onto sweep.function;
      swept = swept-as sweep.swept;
      steps = sweep.steps;
      count = sweep.count;
      own = sweep.own;
    }
