-- A key's number stays while no other seat wins an exchange on the key.
use Rattle.std.proofs.Common.{◌≡◌, ◌≢◌, ◌∙◌, ◌-◌, ◌≤◌, ◌&&◌, ◌==◌, ℕ, Bool, true, false, not, cond, eqb, List, [], ◌∷◌, ◌++◌, length, take, Option, Some, None, ap, refl, subst, sym, inl, inr, arith, length-append}
use Rattle.std.specs.Cmp.{nat_cmp_total, unsigned_tied}
use Rattle.std.specs.FinMap.{get, get-insert, get-remove}
use Rattle.std.specs.List.{All, count_by}
use Rattle.std.proofs.Math.Seq.{take-append_seam}
use Rattle.std.proofs.lemmas.Bool.{cases_Bool, cases_lt, eq-eqb, ne_eqb}
use Rattle.std.proofs.lemmas.List.{append_cancel_right}
use Rattle.std.proofs.lemmas.List.Elements.{All-cons, All-head, All-nil, All-tail, filter_map-append}
use Rattle.std.proofs.lemmas.List.Sums.{sum_by-cons}
use Rattle.nb_core.proofs.Theorems.{log_is_replayed}
use Rattle.nb_core.specs.History.{IsLegal, after_win, key_of_call, map_of}
use Rattle.nb_core.specs.Log.{Numbers, calls_of, entry_of, holds_of, log_of, map_after, reply_at, reply_of}
use Rattle.nb_core.specs.Meaning.{is_win_of_another, passed_over}
use Rattle.nb_core.specs.Plans.{IsPlan, Plan}
use Rattle.nb_core.specs.declared.calls.Call.{Call}
use Rattle.nb_core.specs.declared.calls.Call.TheVariants as call
use Rattle.nb_core.specs.declared.calls.Change.{Change}
use Rattle.nb_core.specs.declared.calls.Reply.{Reply}
use Rattle.nb_core.specs.declared.calls.Want.{Want}
use Rattle.nb_core.specs.declared.events.Event.{Event}
use Rattle.nb_core.specs.declared.events.Event.TheVariants.{Won, Read}
use Rattle.nb_core.specs.declared.states.ValueState.{ValueState}
use Rattle.nb_core.specs.declared.states.ValueState.TheVariants.{Tombstone, Live}
use Rattle.nb_table.specs.Chains.{Grown}
use Rattle.nb_map.specs.Logs.{HasLogged, log}
use Rattle.nb_map.specs.Maps.{SeatOf}
use Rattle.nb_long.specs.Typed.{IsIdle, passed_on}

-- ---- one event

-- an exchange on another key leaves this one's number
other-key :
    (m : Numbers) (j k : ℕ) (b : ValueState) → j ≢ k → get (after_win m j b) k ≡ get m k
other-key m j k b differs = of b
  where
    apart : (o : Option ℕ) → cond (eqb k j) o (get m k) ≡ get m k
    apart o = ap (λ t. cond t o (get m k)) (ne_eqb k j (λ same. differs (sym same)))

    of : (b : ValueState) → get (after_win m j b) k ≡ get m k
    of (Live n) = get-insert nat_cmp_total m j n k
        ∙ ap (λ t. cond t (Some n) (get m k)) (unsigned_tied k j) ∙ apart (Some n)
    of Tombstone = get-remove nat_cmp_total m j k
        ∙ ap (λ t. cond t None (get m k)) (unsigned_tied k j) ∙ apart None
    of _ = refl

-- a call that has changed nothing leaves the map
idle-leaves :
    (k : ℕ) (c : Call) (r : Reply) (m : Numbers) → IsIdle k (c, r) → r ≡ reply_of c m
    → map_after c m ≡ m
idle-leaves k (call.Get j) r m idle is = refl
idle-leaves k (call.Write j want change) r m idle is =
    let missed : holds_of want (get m j) ≡ false = sym (ap (λ (r : Reply). r.matched) is)
    ∙ idle.1 in
    rw missed

-- and it replies what the map has at the key
idle-replies :
    (k : ℕ) (c : Call) (r : Reply) (m : Numbers) → IsIdle k (c, r) → r ≡ reply_of c m
    → r.before ≡ get m k
idle-replies k (call.Get j) r m idle is =
    ap (λ (r : Reply). r.before) is ∙ ap (get m) idle
idle-replies k (call.Write j want change) r m idle is =
    ap (λ (r : Reply). r.before) is ∙ ap (get m) idle.0

-- the map of an exchange is that of its call
win-is-call :
    (p : Plan) → IsPlan p → (h : List Event) (s g i : ℕ) (a b : ValueState) (c : Call) (r : Reply)
    → IsLegal p (Won s g i a b c r ∷ h)
    → map_of (Won s g i a b c r ∷ h) ≡ map_after c (map_of h)
win-is-call p plan h s g i a b c r legal =
    sym (log_is_replayed p plan (Won s g i a b c r ∷ h) legal).map
    ∙ ap (map_after c) (log_is_replayed p plan h legal.0).map

-- ---- some events

-- the wins of others in these events
abbrev pub wins : (k s : ℕ) → List Event → ℕ
wins k s events = count_by (is_win_of_another k s) events

no-wins :
    (k s : ℕ) (e : Event) (later : List Event) → wins k s (e ∷ later) ≡ 0
    → (is_win_of_another k s e ≡ false) × (wins k s later ≡ 0)
no-wins k s e later none =
    let more = sum_by-cons (λ e. cond (is_win_of_another k s e) 1 0) e later in
    (of (is_win_of_another k s e) (omega (arith, more, none)), omega (arith, more, none))
  where
    of : (b : Bool) → cond {A = ℕ} b 1 0 ≡ 0 → b ≡ false
    of true is = absurd (omega (arith, is))
    of false is = refl

-- one call more or less
past :
    (P : Call × Reply → Type 0) (b : Bool) (made : Call × Reply) (calls : List (Call × Reply))
    → All P (cond b (made ∷ calls) calls) → All P calls
past P true made calls all = All-tail P made calls all
past P false made calls all = all

-- what holds of all calls of a seat holds of the earlier ones
earlier-calls :
    (P : Call × Reply → Type 0) (s : ℕ) (e : Event) (later : List Event)
    → All P (calls_of s (log_of (e ∷ later))) → All P (calls_of s (log_of later))
earlier-calls P s (Won r g i a b c reply) later all =
    past P (r == s) (c, reply) (calls_of s (log_of later)) all
earlier-calls P s (Read r c reply) later all =
    past P (r == s) (c, reply) (calls_of s (log_of later)) all
earlier-calls P s _ later all = all

-- Where other seats have won no exchange on the key, and the seat's own calls have changed nothing,
-- the key's number stays, and is all that the seat's calls found at the key.
number-stays :
    (p : Plan) → IsPlan p → (later h : List Event) → IsLegal p (later ++ h) → (k s : ℕ)
    → All (IsIdle k) (calls_of s (log_of later)) → wins k s later ≡ 0
    → (get (map_of (later ++ h)) k ≡ get (map_of h) k)
    × All (λ made. made.1.before ≡ get (map_of h) k) (calls_of s (log_of later))
number-stays p plan [] h legal k s idle none =
    (refl, All-nil (λ made. made.1.before ≡ get (map_of h) k))
number-stays p plan (e ∷ later) h legal k s idle none =
    let (other, none') = no-wins k s e later none in
    let (stays, rest) = number-stays p plan later h legal.0 k s
    (earlier-calls (IsIdle k) s e later idle) none' in
    (one e legal idle other ∙ stays, replies e legal idle stays rest)
  where
    m : Numbers
    m = map_of (later ++ h)

    Same : Call × Reply → Type 0
    Same made = made.1.before ≡ get (map_of h) k

    calls : List (Call × Reply)
    calls = calls_of s (log_of later)

    one : (e : Event) → IsLegal p (e ∷ later ++ h)
        → All (IsIdle k) (calls_of s (log_of (e ∷ later))) → is_win_of_another k s e ≡ false
        → get (map_of (e ∷ later ++ h)) k ≡ get m k
    one (Won r g i a b c reply) legal idle other =
        elim (cases_Bool (r == s)) [
          | inl mine ↦
              ap (λ m. get m k) (win-is-call p plan (later ++ h) r g i a b c reply legal
              ∙ idle-leaves k c reply m (All-head (IsIdle k) (c, reply) calls
              (subst (λ b. All (IsIdle k) (cond b ((c, reply) ∷ calls) calls)) mine idle))
              legal.3.0)
          | inr not_mine ↦ other-key m (key_of_call c) k b
              (λ same. absurd (never (key_of_call c == k) (r == s) (eq-eqb (key_of_call c) k same)
              not_mine other))
        ]
      where
        never : (a b : Bool) → a ≡ true → b ≡ false → (a && not b) ≡ false → ⊥
        never true false is is' other = cc
        never true true is is' other = cc
        never false b is is' other = cc
    one _ legal idle other = refl

    more : (c : Call) (r : Reply) (b : Bool) → r ≡ reply_of c m
        → All (IsIdle k) (cond b ((c, r) ∷ calls) calls) → get m k ≡ get (map_of h) k
        → All Same calls → All Same (cond b ((c, r) ∷ calls) calls)
    more c r true is idle stays rest = All-cons Same (c, r) calls
        (idle-replies k c r m (All-head (IsIdle k) (c, r) calls idle) is ∙ stays) rest
    more c r false is idle stays rest = rest

    replies : (e : Event) → IsLegal p (e ∷ later ++ h)
        → All (IsIdle k) (calls_of s (log_of (e ∷ later))) → get m k ≡ get (map_of h) k
        → All Same calls → All Same (calls_of s (log_of (e ∷ later)))
    replies (Won r g i a b c reply) legal idle stays rest =
        more c reply (r == s) legal.3.0 idle stays rest
    replies (Read r c reply) legal idle stays rest =
        more c reply (r == s) legal.3.0 idle stays rest
    replies _ legal idle stays rest = rest

-- ---- a read, and a write on what it found

-- what passed over a seat since a history is in the events after it
passed-is :
    (later h : List Event) (k s : ℕ) → passed_over (later ++ h) (length h) k s ≡ wins k s later
passed-is later h k s =
    let few : length (later ++ h) - length h ≡ length later =
    omega (arith, length-append later h) in
    ap (wins k s) (ap (λ n. take n (later ++ h)) few ∙ take-append_seam later h)

-- A write whose condition holds of what the seat has read found that it doesn't hold: another seat
-- has won an exchange on the key meanwhile.
pub others-won :
    {p : Plan} {key : ℕ} {wanted : Want} {found : Option ℕ} {change : Change}
    {before after : SeatOf} {own : List Event} {count : ℕ} {reply : Reply} → IsPlan p
    → holds_of wanted found ≡ true → Grown p before.chain after.chain own count
    → HasLogged before after ((call.Write key wanted change, reply)
    ∷ (call.Get key, reply_at (call.Get key) found) ∷ [])
    → reply ≡ reply_at (call.Write key wanted change) reply.before
    → reply.matched ≡ false → 1 ≤ passed_on key before after
others-won {p} {key} {wanted} {found} {change} {before} {after} {reply = reply} plan holds grown logged
    fits missed =
    subst (λ h. 1 ≤ passed_over h (length before.chain.seen) key before.chain.number)
    (sym grown.seen)
    (subst (λ t. 1 ≤ t) (sym (passed-is grown.later before.chain.seen key before.chain.number))
    some)
  where
    write : Call
    write = call.Write key wanted change

    read : Call × Reply
    read = (call.Get key, reply_at (call.Get key) found)

    made : List (Call × Reply)
    made = (write, reply) ∷ read ∷ []

    same-log : log_of grown.later ≡ logged.later
    same-log = append_cancel_right (log_of grown.later) logged.later (log before)
        (sym (filter_map-append entry_of grown.later before.chain.seen)
        ∙ ap log_of (sym grown.seen) ∙ logged.grown)

    calls : calls_of before.chain.number (log_of grown.later) ≡ made
    calls = ap (calls_of before.chain.number) same-log ∙ logged.own

    idle : All (IsIdle key) made
    idle = All-cons (IsIdle key) (write, reply) (read ∷ []) (refl, missed)
        (All-cons (IsIdle key) read [] refl (All-nil (IsIdle key)))

    never : wins key before.chain.number grown.later ≡ 0 → ⊥
    never none =
        let h = before.chain.seen in
        let Same : Call × Reply → Type 0 = λ made. made.1.before ≡ get (map_of h) key in
        let all : All Same made = subst (All Same) calls
        (number-stays p plan grown.later h (subst (IsLegal p) grown.seen grown.legal) key
        before.chain.number (subst (All (IsIdle key)) (sym calls) idle) none).1 in
        let here : reply.before ≡ get (map_of h) key =
        All-head Same (write, reply) (read ∷ []) all in
        let there : found ≡ get (map_of h) key =
        All-head Same read [] (All-tail Same (write, reply) (read ∷ []) all) in
        let matched : reply.matched ≡ true = ap (λ (r : Reply). r.matched) fits
        ∙ ap (holds_of wanted) (here ∙ sym there) ∙ holds in
        let never : false ≡ true = sym missed ∙ matched in
        cc

    some : 1 ≤ wins key before.chain.number grown.later
    some = elim (cases_lt (wins key before.chain.number grown.later) 1) [
      | inl less ↦ absurd (never (omega (arith, less)))
      | inr more ↦ more
    ]
