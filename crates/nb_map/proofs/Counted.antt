-- What a seat's calls did to the number of keys.
use Rattle.std.proofs.Common.{◌≡◌, ◌∙◌, ◌==◌, ◌||◌, Bool, true, false, cond, not, ℕ, List, [], ◌∷◌, ◌++◌, Option, None, Some, pos, ap, sym, refl, arith}
use Rattle.std.proofs.Math.IntN.{◌+ℤ◌}
use Rattle.std.proofs.lemmas.Int.{ints}
use Rattle.nb_core.specs.History.{seat_of_event}
use Rattle.nb_core.specs.Calls.{leaves_alone, same_number}
use Rattle.nb_core.specs.Log.{calls_of, changed, holds_of, log_of, reply_at}
use Rattle.nb_core.specs.Meaning.{net_of, net_of_call, net_of_change}
use Rattle.nb_core.specs.Plans.{Plan}
use Rattle.nb_core.specs.declared.calls.Call.{Call}
use Rattle.nb_core.specs.declared.calls.Call.TheVariants.{Get, Write}
use Rattle.nb_core.specs.declared.calls.Change.{Change}
use Rattle.nb_core.specs.declared.calls.Change.TheVariants.{Put, Remove, Add}
use Rattle.nb_core.specs.declared.calls.Reply.{Reply}
use Rattle.nb_core.specs.declared.events.Event.{Event}
use Rattle.nb_core.specs.declared.events.Event.TheVariants.{Claim, Kill, Won, CopyIn, Prime, Finish, Install, Take, Count, Promote, Read}
use Rattle.nb_table.specs.Chains.{Extended, SeenBy, own_events}
use Rattle.nb_map.proofs.Made.{calls-append, made-own, made-quiet}
use Rattle.nb_map.specs.Calling.{HasMade}
use Rattle.nb_map.specs.Maps.{IsMine, MapOf, SeatOf, accounted}

-- a seat's calls are those of its own events
calls-own :
    (s : ℕ) (es : List Event) → calls_of s (log_of es) ≡ calls_of s (log_of (own_events s es))
calls-own s [] = refl
calls-own s (e ∷ es) = one e (calls-own s es)
  where
    calls : List (Call × Reply)
    calls = calls_of s (log_of es)

    own : List Event
    own = own_events s es

    kept : (e : Event) (c : Call × Reply) (b : Bool) → (seat_of_event e == s) ≡ b
        → calls ≡ calls_of s (log_of own)
        → ((x : List Event) → calls_of s (log_of (e ∷ x))
        ≡ cond (seat_of_event e == s) (c ∷ calls_of s (log_of x)) (calls_of s (log_of x)))
        → calls_of s (log_of (e ∷ es)) ≡ calls_of s (log_of (cond b (e ∷ own) own))
    kept e c true mine same is =
        is es ∙ ap (λ b. cond b (c ∷ calls) calls) mine ∙ ap (λ x. c ∷ x) same
        ∙ sym (is own ∙ ap (λ b. cond b (c ∷ calls_of s (log_of own)) (calls_of s (log_of own)))
        mine)
    kept e c false mine same is = is es ∙ ap (λ b. cond b (c ∷ calls) calls) mine ∙ same

    none : (e : Event) (b : Bool) → calls ≡ calls_of s (log_of own)
        → ((x : List Event) → calls_of s (log_of (e ∷ x)) ≡ calls_of s (log_of x))
        → calls_of s (log_of (e ∷ es)) ≡ calls_of s (log_of (cond b (e ∷ own) own))
    none e true same is = is es ∙ same ∙ sym (is own)
    none e false same is = is es ∙ same

    one : (e : Event) → calls ≡ calls_of s (log_of own)
        → calls_of s (log_of (e ∷ es)) ≡ calls_of s (log_of (own_events s (e ∷ es)))
    one (Claim r g i k) same = none (Claim r g i k) (r == s) same (λ x. refl)
    one (Kill r g i) same = none (Kill r g i) (r == s) same (λ x. refl)
    one (Won r g i a b c reply) same = kept (Won r g i a b c reply) (c, reply) (r == s) refl same
        (λ x. refl)
    one (CopyIn r g i k n) same = none (CopyIn r g i k n) (r == s) same (λ x. refl)
    one (Prime r g i) same = none (Prime r g i) (r == s) same (λ x. refl)
    one (Finish r g i) same = none (Finish r g i) (r == s) same (λ x. refl)
    one (Install r g k) same = none (Install r g k) (r == s) same (λ x. refl)
    one (Take r g) same = none (Take r g) (r == s) same (λ x. refl)
    one (Count r g c) same = none (Count r g c) (r == s) same (λ x. refl)
    one (Promote r g) same = none (Promote r g) (r == s) same (λ x. refl)
    one (Read r c reply) same = kept (Read r c reply) (c, reply) (r == s) refl same (λ x. refl)

-- the calls that were made are the seat's among what is new
pub calls-later :
    {p : Plan} {call : Call} {before after : SeenBy} {made : List (Call × Reply)} {most : ℕ}
    (steps : HasMade p call before after made most)
    → calls_of before.number (log_of steps.grown.later) ≡ made
calls-later {before = before} made =
    calls-own before.number made.grown.later
    ∙ ap (λ own. calls_of before.number (log_of own)) made.grown.own_are ∙ made.calls

-- what a seat has called after more calls
calls-made :
    {p : Plan} {call : Call} {before after : SeenBy} {made : List (Call × Reply)} {most : ℕ}
    → HasMade p call before after made most
    → calls_of after.number (log_of after.seen)
    ≡ made ++ calls_of before.number (log_of before.seen)
calls-made {before = before} {after} {made} steps =
    let grown = steps.grown in
    ap (λ n. calls_of n (log_of after.seen)) grown.number
    ∙ ap (λ h. calls_of before.number (log_of h)) grown.seen
    ∙ calls-append grown.later before.seen before.number
    ∙ ap (λ calls. calls ++ calls_of before.number (log_of before.seen)) (calls-later steps)

-- the net of more calls
net-append : (a b : List (Call × Reply)) → net_of (a ++ b) ≡ net_of a +ℤ net_of b
net-append [] b = omega (arith, ints)
net-append (c ∷ a) b = let rest = net-append a b in omega (arith, ints, rest)

pub net-made :
    {p : Plan} {call : Call} {before after : SeenBy} {made : List (Call × Reply)} {most : ℕ}
    → HasMade p call before after made most
    → net_of (calls_of after.number (log_of after.seen))
    ≡ net_of made +ℤ net_of (calls_of before.number (log_of before.seen))
net-made {before = before} {made = made} steps =
    ap net_of (calls-made steps) ∙ net-append made (calls_of before.number (log_of before.seen))

-- a call that leaves its key alone changes nothing in the number of keys
pub net-alone :
    (call : Call) (reply : Reply) → reply ≡ reply_at call reply.before
    → leaves_alone call reply.before ≡ true → net_of_call call reply ≡ pos 0
net-alone (Get k) reply is alone = refl
net-alone (Write k want change) reply is alone =
    ap (λ (r : Reply). cond r.matched (net_of_change change reply.before) (pos 0)) is
    ∙ net-if (holds_of want reply.before) change reply.before alone
  where
    net-if : (b : Bool) (change : Change) (before : Option ℕ)
        → (not b || same_number (changed change before) before) ≡ true
        → cond b (net_of_change change before) (pos 0) ≡ pos 0
    net-if false change before alone = refl
    net-if true (Put n) None alone = absurd cc
    net-if true (Put n) (Some m) alone = refl
    net-if true (Add n) None alone = absurd cc
    net-if true (Add n) (Some m) alone = refl
    net-if true Remove None alone = refl
    net-if true Remove (Some m) alone = absurd cc

-- ---- the seat stays the map's

-- after steps of a call, where it has counted what it made
pub kept-mine :
    {map : MapOf} {call : Call} {before after : SeatOf} {made : List (Call × Reply)} {most : ℕ}
    → IsMine map before
    → HasMade map.chain.shape call before.chain after.chain made most
    → after.count.counter ≡ before.count.counter
    → after.count.added ≡ before.count.added +ℤ net_of made → IsMine map after
kept-mine {map} mine steps counter added =
    let net = net-made steps in
    let was = mine.counted in
    record {
      chain = made-own map.chain mine.chain steps;
      counter = counter ∙ mine.counter;
      counted = omega (arith, ints, net, added, was);
    }

-- after a call that has counted what it did
pub counted-mine :
    {map : MapOf} {call : Call} {before after : SeatOf} (reply : Reply) {most : ℕ}
    → IsMine map before
    → HasMade map.chain.shape call before.chain after.chain ((call, reply) ∷ []) most
    → after.count ≡ accounted (net_of_call call reply) before.count → IsMine map after
counted-mine reply mine steps counted =
    let added = ap (λ count. count.added) counted in
    kept-mine mine steps (ap (λ count. count.counter) counted) (omega (arith, ints, added))

-- after steps of a call that counted nothing, and made none that would count
pub uncounted-mine :
    {map : MapOf} {call : Call} {before after : SeatOf} {made : List (Call × Reply)} {most : ℕ}
    → IsMine map before
    → HasMade map.chain.shape call before.chain after.chain made most → after.count ≡ before.count
    → net_of made ≡ pos 0
    → IsMine map after
uncounted-mine mine steps same none =
    let added = ap (λ count. count.added) same in
    kept-mine mine steps (ap (λ count. count.counter) same) (omega (arith, ints, added, none))

-- after a step without an event
pub quiet-mine :
    {map : MapOf} {before after : SeatOf} → IsMine map before
    → Extended map.chain.shape before.chain after.chain [] 1
    → after.count ≡ before.count → IsMine map after
quiet-mine {map} mine step same = uncounted-mine mine (made-quiet map.chain.shape (Get 0) step)
    same refl
