-- Where an update found one thing at its key and then another, another seat has won an exchange on
-- the key in between.
use Rattle.std.proofs.Common.{◌≡◌, ◌∙◌, ◌==◌, ◌&&◌, ◌-◌, ◌+◌, ◌≤◌, ℕ, suc, Bool, true, false, not, cond, eqb, ltb, List, [], ◌∷◌, ◌++◌, length, take, Option, Some, None, ap, ap₂, sym, subst, refl, arith, length-append}
use Rattle.std.specs.FinMap.{get, get-insert, get-remove}
use Rattle.std.specs.List.{count_by}
use Rattle.std.specs.Cmp.{nat_cmp_total}
use Rattle.std.specs.Ordering.{nat_cmp, eq_by_cmp, is_eq}
use Rattle.std.specs.declared.cmp.Ordering.TheVariants.{Less, Equal, Greater}
use Rattle.std.proofs.Math.Seq.{take-append_seam}
use Rattle.std.proofs.lemmas.Bool.{eq-eqb, eqb-false, ne_eqb}
use Rattle.std.proofs.lemmas.List.Sums.{sum_by-cons}
use Rattle.nb_core.proofs.Theorems.{win_replies}
use Rattle.nb_core.specs.History.{IsExchange, IsLegal, after_win, key_of_call, map_of}
use Rattle.nb_core.specs.Log.{Numbers, calls_of, holds_of, log_of, reply_of}
use Rattle.nb_core.specs.Meaning.{is_win_of_another, passed_over}
use Rattle.nb_core.specs.Plans.{IsPlan, Plan}
use Rattle.nb_core.specs.declared.calls.Call.{Call}
use Rattle.nb_core.specs.declared.calls.Call.TheVariants.{Get}
use Rattle.nb_core.specs.declared.calls.Reply.{Reply}
use Rattle.nb_core.specs.declared.events.Event.{Event}
use Rattle.nb_core.specs.declared.events.Event.TheVariants.{Won, Read}
use Rattle.nb_core.specs.declared.states.ValueState.{ValueState}
use Rattle.nb_core.specs.declared.states.ValueState.TheVariants.{Tombstone, Live}
use Rattle.nb_map.specs.NamedCalls.{exchange_of, want_of}
use Rattle.nb_map.specs.Updating.{HasTried}
use Rattle.nb_map.specs.Updating as updating

-- numbers that differ don't compare as equal
compares-other : (a b : ℕ) → (b == a) ≡ false → eq_by_cmp nat_cmp a b ≡ false
compares-other a b other =
    let differs : eqb a b ≡ false = ne_eqb a b (λ same. eqb-false b a other (sym same)) in
    elim (ltb a b) as (λ t. is_eq (cond t Less (cond (eqb a b) Equal Greater)) ≡ false) [
      | true ↦ refl
      | false ↦ ap (λ t. is_eq (cond t Equal Greater)) differs
    ]

-- an exchange leaves what the map has at other keys
get-after_win :
    (m : Numbers) (k q : ℕ) (v : ValueState) → (k == q) ≡ false → get (after_win m k v) q ≡ get m q
get-after_win m k q (Live n) other =
    get-insert nat_cmp_total m k n q
    ∙ ap (λ t. cond t (Some n) (get m q)) (compares-other q k other)
get-after_win m k q Tombstone other =
    get-remove nat_cmp_total m k q ∙ ap (λ t. cond t None (get m q)) (compares-other q k other)
get-after_win m k q _ other = refl

-- the condition that a key is at this holds of just this
holds-of-itself : (found : Option ℕ) → holds_of (want_of found) found ≡ true
holds-of-itself None = refl
holds-of-itself (Some n) = eq-eqb n n refl

-- the first call of some, and the others
abbrev first-or : Call × Reply → List (Call × Reply) → Call × Reply
first-or call [] = call
first-or call (made ∷ calls) = made

abbrev others-of : List (Call × Reply) → List (Call × Reply)
others-of [] = []
others-of (made ∷ calls) = calls

-- no test is true and false
false-true : false ≡ true → ⊥
false-true same = cc

module _ {F : Type 0} (Step : F → Option ℕ → Option ℕ → F → Type 0) (k : ℕ) (first : F) where
  -- the newest call of an update was this, with this reply, after others, and found this at the key
  data IsNewest (call : Call) (reply : Reply) (calls : List (Call × Reply)) (found : Option ℕ) :
      Type 0 where
    IsTheRead : call ≡ Get k → reply.before ≡ found → calls ≡ [] → IsNewest call reply calls found
    IsLost :
        (was new : Option ℕ) (f : F) → HasTried Step k first calls was f
        → call ≡ exchange_of k was new → reply.matched ≡ false → reply.before ≡ found
        → IsNewest call reply calls found

  newest :
      {made : List (Call × Reply)} {found : Option ℕ} {f : F}
      → HasTried Step k first made found f → (call : Call) (reply : Reply)
      → (calls : List (Call × Reply)) → made ≡ (call, reply) ∷ calls
      → IsNewest call reply calls found
  newest (updating.Read read) call reply calls is =
      let pair = ap (first-or (call, reply)) is in
      IsTheRead (sym (ap (λ (made : Call × Reply). made.0) pair))
      (sym (ap (λ (made : Call × Reply). made.1.before) pair)) (sym (ap others-of is))
  newest (updating.Lost {calls = earlier} {was = was} {f = f} tried new g lost step missed)
      call reply calls is =
      let pair = ap (first-or (call, reply)) is in
      IsLost was new f
      (subst (λ calls. HasTried Step k first calls was f) (ap others-of is) tried)
      (sym (ap (λ (made : Call × Reply). made.0) pair))
      (sym (ap (λ (made : Call × Reply). made.1.matched) pair) ∙ missed)
      (sym (ap (λ (made : Call × Reply). made.1.before) pair))

  -- there is one
  some-call :
      {made : List (Call × Reply)} {found : Option ℕ} {f : F}
      → HasTried Step k first made found f → 1 ≤ length made
  some-call (updating.Read read) = omega arith
  some-call (updating.Lost tried new g lost step missed) = omega arith

  module _ (p : Plan) (plan : IsPlan p) (s : ℕ) (h : List Event) where
    abbrev wins : List Event → ℕ
    wins later = count_by (is_win_of_another k s) later

    -- Other seats have won as many exchanges as the update has lost, and one more if the map has
    -- something else at the key than the update found there last.
    record IsPassed (calls : List (Call × Reply)) (found : Option ℕ) (later : List Event) : Type 0
      where
        fewer : length calls ≤ suc (wins later)
        changed : (get (map_of (later ++ h)) k ≡ found → ⊥) → length calls ≤ wins later

    -- it is so for each update that made the seat's calls among these events
    abbrev ArePassed : List Event → Type 0
    ArePassed later = (calls : List (Call × Reply)) (found : Option ℕ) (f : F)
        → HasTried Step k first calls found f → calls_of s (log_of later) ≡ calls
        → IsPassed calls found later

    -- the count with one event more
    wins-more : (e : Event) (later : List Event)
        → wins (e ∷ later) ≡ cond (is_win_of_another k s e) 1 0 + wins later
    wins-more e later = sum_by-cons (λ e. cond (is_win_of_another k s e) 1 0) e later

    -- an event that leaves what the map has at the key
    passed-quiet :
        (calls : List (Call × Reply)) (found : Option ℕ) (e : Event) (later : List Event)
        → get (map_of (e ∷ (later ++ h))) k ≡ get (map_of (later ++ h)) k
        → IsPassed calls found later → IsPassed calls found (e ∷ later)
    passed-quiet calls found e later same passed = record {
      fewer = omega (arith, passed.fewer, wins-more e later);
      changed = λ differs.
          let less = passed.changed (λ is. differs (same ∙ is)) in
          omega (arith, less, wins-more e later);
    }

    -- an exchange of another on the key
    passed-over :
        (calls : List (Call × Reply)) (found : Option ℕ) (e : Event) (later : List Event)
        → is_win_of_another k s e ≡ true → IsPassed calls found later
        → IsPassed calls found (e ∷ later)
    passed-over calls found e later won passed =
        record {
          fewer = omega (arith, passed.fewer, wins-more e later);
          changed = λ differs. omega (arith, passed.fewer, wins-more e later, one won);
        }
      where
        one : is_win_of_another k s e ≡ true → cond {A = ℕ} (is_win_of_another k s e) 1 0 ≡ suc 0
        one won = ap (λ b. cond {A = ℕ} b 1 0) won

    -- an exchange that was won
    passed-won :
        (r g i : ℕ) (a b : ValueState) (c : Call) (reply : Reply) (later : List Event)
        → IsLegal p (Won r g i a b c reply ∷ (later ++ h)) → ArePassed later
        → ArePassed (Won r g i a b c reply ∷ later)
    passed-won r g i a b c reply later legal before calls found f tried is = one (r == s) refl is
      where
        event : Event
        event = Won r g i a b c reply

        earlier : List (Call × Reply)
        earlier = calls_of s (log_of later)

        Made : Bool → Type 0
        Made own = cond own ((c, reply) ∷ earlier) earlier ≡ calls

        matched : reply.matched ≡ true
        matched =
            ap (λ (r : Reply). r.matched) (legal.3.0
            ∙ sym (win_replies p plan (later ++ h) legal.0 r g i a b c legal.1.1 legal.2).0)

        none : IsNewest c reply earlier found → ⊥
        none (IsTheRead read found-is none-before) =
            subst (λ c. IsExchange c legal.2.key a b) read legal.2.exchange
        none (IsLost was new f tried exchange missed found-is) =
            false-true (sym missed ∙ matched)

        at-key : (here : Bool) → (key_of_call c == k) ≡ here → (r == s) ≡ false
            → IsPassed calls found later → IsPassed calls found (event ∷ later)
        at-key true here other passed =
            passed-over calls found event later (ap₂ (λ x y. x && not y) here other) passed
        at-key false here other passed =
            passed-quiet calls found event later
            (get-after_win (map_of (later ++ h)) (key_of_call c) k b here) passed

        one : (own : Bool) → (r == s) ≡ own → Made own → IsPassed calls found (event ∷ later)
        one true own made = absurd (none (newest tried c reply earlier (sym made)))
        one false other made =
            at-key (key_of_call c == k) refl other (before calls found f tried made)

    -- a read
    passed-read :
        (r : ℕ) (c : Call) (reply : Reply) (later : List Event)
        → IsLegal p (Read r c reply ∷ (later ++ h)) → ArePassed later
        → ArePassed (Read r c reply ∷ later)
    passed-read r c reply later legal before calls found f tried is = one (r == s) refl is
      where
        event : Event
        event = Read r c reply

        earlier : List (Call × Reply)
        earlier = calls_of s (log_of later)

        m : Numbers
        m = map_of (later ++ h)

        Made : Bool → Type 0
        Made own = cond own ((c, reply) ∷ earlier) earlier ≡ calls

        -- what the newest call found is at the key still
        own-read : length calls ≤ suc (wins later) → get m k ≡ found
            → IsPassed calls found (event ∷ later)
        own-read few there = record {
          fewer = omega (arith, few, wins-more event later);
          changed = λ differs. absurd (differs there);
        }

        mine : calls ≡ (c, reply) ∷ earlier → IsNewest c reply earlier found
            → IsPassed calls found (event ∷ later)
        mine made (IsTheRead read found-is none-before) =
            let there : reply.before ≡ get m k =
            ap (λ (r : Reply). r.before) (legal.3.0 ∙ ap (λ c. reply_of c m) read) in
            own-read (omega (arith, ap length made, ap length none-before)) (sym there ∙ found-is)
        mine made (IsLost was new f tried exchange missed found-is) =
            let is = legal.3.0 ∙ ap (λ c. reply_of c m) exchange in
            let there : reply.before ≡ get m k = ap (λ (r : Reply). r.before) is in
            let holds : reply.matched ≡ holds_of (want_of was) (get m k) =
            ap (λ (r : Reply). r.matched) is in
            let other = λ (same : get m k ≡ was). false-true
            (sym missed ∙ holds ∙ ap (holds_of (want_of was)) same ∙ holds-of-itself was) in
            let lost = (before earlier was f tried refl).changed other in
            own-read (omega (arith, ap length made, lost)) (sym there ∙ found-is)

        one : (own : Bool) → (r == s) ≡ own → Made own → IsPassed calls found (event ∷ later)
        one true own made = mine (sym made) (newest tried c reply earlier (sym made))
        one false own made =
            passed-quiet calls found event later refl (before calls found f tried made)

    passed : (later : List Event) → IsLegal p (later ++ h) → ArePassed later
    passed [] legal calls found f tried is = absurd (omega (arith, some-call tried, ap length is))
    passed (Won r g i a b c reply ∷ later) legal calls found f tried is =
        passed-won r g i a b c reply later legal (passed later legal.0) calls found f tried is
    passed (Read r c reply ∷ later) legal calls found f tried is =
        passed-read r c reply later legal (passed later legal.0) calls found f tried is
    passed (e ∷ later) legal calls found f tried is =
        passed-quiet calls found e later refl (passed later legal.0 calls found f tried is)

    passed-wins : (later : List Event) → passed_over (later ++ h) (length h) k s ≡ wins later
    passed-wins later =
        let few : length (later ++ h) - length h ≡ length later =
        omega (arith, length-append later h) in
        ap (count_by (is_win_of_another k s))
        (ap (λ n. take n (later ++ h)) few ∙ take-append_seam later h)

    -- so it is in a history that goes on from another
    pub passed-lost :
        (later after : List Event) → after ≡ later ++ h → IsLegal p after
        → {calls : List (Call × Reply)} {found : Option ℕ} {f : F}
        → HasTried Step k first calls found f → calls_of s (log_of later) ≡ calls
        → length calls ≤ suc (passed_over after (length h) k s)
    passed-lost later after is legal {calls} {found} {f} tried made =
        let few = (passed later (subst (IsLegal p) is legal) calls found f tried made).fewer in
        let all : passed_over after (length h) k s ≡ wins later =
        ap (λ whole. passed_over whole (length h) k s) is ∙ passed-wins later in
        omega (arith, few, all)
