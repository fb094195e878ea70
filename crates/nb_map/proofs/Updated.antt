-- What the exchanges of an update add up to.
use Rattle.std.proofs.Common.{◌≡◌, ◌∙◌, ◌+◌, ◌-◌, ◌*◌, ◌≤◌, ◌<◌, ◌⊎◌, ℕ, suc, Bool, true, false, if◌then◌else◌, min, List, [], ◌∷◌, ◌++◌, length, pos, Option, Some, None, Ok, Err, add-one, ap, ap₂, refl, sym, subst, inl, inr, arith}
use Rattle.std.specs.List.{Contains}
use Rattle.std.proofs.Math.Nat.{mul-le-mul_right}
use Rattle.std.proofs.lemmas.Bool.{eqb-true}
use Rattle.std.proofs.lemmas.Int.{ints}
use Rattle.std.proofs.lemmas.List.{append_cancel_right}
use Rattle.std.proofs.lemmas.List.Elements.{All-weaker, Contains-append_right, filter_map-append}
use Rattle.nb_core.specs.Calls.{Fills, leaves_alone}
use Rattle.nb_core.specs.History.{key_of_call}
use Rattle.nb_core.specs.Log.{calls_of, entry_of, holds_of, log_of, reply_at}
use Rattle.nb_core.specs.Meaning.{net_of, net_of_call, net_of_change}
use Rattle.nb_core.specs.Plans.{Plan, generations_of, size_of}
use Rattle.nb_core.specs.declared.calls.Call.{Call}
use Rattle.nb_core.specs.declared.calls.Call.TheVariants.{Get}
use Rattle.nb_core.specs.declared.calls.Reply.{Reply}
use Rattle.nb_core.specs.declared.events.Event.{Event}
use Rattle.nb_core.specs.declared.events.Event.TheVariants.{Claim, Install}
use Rattle.nb_table.specs.Chains.{SeenBy}
use Rattle.nb_map.proofs.Counted.{calls-later, net-made}
use Rattle.nb_map.proofs.Spent.{just-longer}
use Rattle.nb_map.proofs.Logged.{counted-none, logged}
use Rattle.nb_map.proofs.Made.{made-more, made-within}
use Rattle.nb_map.proofs.Passed.{passed-lost}
use Rattle.nb_map.proofs.Replied.{replies_fit}
use Rattle.nb_map.specs.Calling.{HasMade, MayMake}
use Rattle.nb_map.specs.Logs.{HasLogged, HasReplied, log}
use Rattle.nb_map.specs.Steps.{get_steps}
use Rattle.nb_map.specs.Promises.{HasGot}
use Rattle.nb_map.specs.Maps.{HasWorked, IsMine, MapOf, SeatOf, accounted}
use Rattle.nb_map.specs.Steps.{put_steps}
use Rattle.nb_map.specs.Steps.{slots_below}
use Rattle.nb_map.specs.Refusals.{HasRefused}
use Rattle.nb_map.specs.Progress.{IsNonBlocking, Tries}
use Rattle.nb_map.specs.NamedCalls.{change_to, exchange_of, want_of}
use Rattle.nb_map.specs.Updating.{HasTried, IsUpdate, Lost, Read, asked_for}
use Rattle.nb_map.specs.Steps.{update_steps}
use Rattle.nb_map.specs.Progress.{passed_since}
use Rattle.nb_map.specs.declared.faults.PutFault.{PutFault}
use Rattle.nb_map.specs.declared.faults.PutFault.TheVariants as fault

-- ---- steps of several calls at one key

-- a call may make what one of the same key may that fills no more
may-as :
    (p : Plan) (before after : List Event) (call call' : Call) → key_of_call call' ≡ key_of_call call
    → (Fills call → Fills call') → (e : Event) → MayMake p before after call e
    → MayMake p before after call' e
may-as p before after call call' same fills (Claim s g i k) may = (
  may.0,
  elim may.1 [
    | inl below ↦ inl below
    | inr own ↦ inr (own.0 ∙ sym same, fills own.1, own.2)
  ],
)
may-as p before after call call' same fills (Install s g k) may = (may.0 ∙ sym same, fills may.1)
may-as p before after call call' same fills e may = may

pub made-as :
    {p : Plan} {call : Call} {before after : SeenBy} {made : List (Call × Reply)} {most : ℕ}
    (call' : Call) → key_of_call call' ≡ key_of_call call → (Fills call → Fills call')
    → HasMade p call before after made most → HasMade p call' before after made most
made-as {p} {call} {before} {after} call' same fills made = record {
  own = made.own;
  count = made.count;
  grown = made.grown;
  calls = made.calls;
  may = All-weaker (MayMake p before.seen after.seen call) (MayMake p before.seen after.seen call')
      (may-as p before.seen after.seen call call' same fills) made.own made.may;
  counted = made.counted;
  few = made.few;
}

-- one of two calls at a key, such that it fills the key if either does
record IsEither (a b call : Call) : Type 0 where
  is : (call ≡ a) ⊎ (call ≡ b)
  key : key_of_call call ≡ key_of_call a
  first : Fills a → Fills call
  second : Fills b → Fills call

either-call : (a b : Call) → key_of_call b ≡ key_of_call a → (call : Call) × IsEither a b call
either-call a b same = one (leaves_alone b None) refl
  where
    one : (alone : Bool) → leaves_alone b None ≡ alone → (call : Call) × IsEither a b call
    one true alone = (
      a,
      record {
        is = inl refl;
        key = refl;
        first = λ fills. fills;
        second = λ fills. absurd cc;
      },
    )
    one false fills =
        (b, record { is = inr refl; key = same; first = λ _. fills; second = λ fills. fills })

-- ---- one call

-- the calls that steps made are those that the log tells
pub made-logged :
    {p : Plan} {call : Call} {before after : SeatOf} {made told : List (Call × Reply)} {most : ℕ}
    → HasMade p call before.chain after.chain made most → HasLogged before after told
    → HasMade p call before.chain after.chain told most
made-logged {p} {call} {before} {after} {most = most} steps logged =
    subst (λ made. HasMade p call before.chain after.chain made most)
    (sym (calls-later steps) ∙ ap (calls_of before.chain.number) same ∙ logged.own) steps
  where
    same : log_of steps.grown.later ≡ logged.later
    same = append_cancel_right (log_of steps.grown.later) logged.later (log before)
        (sym (ap log_of steps.grown.seen
        ∙ filter_map-append entry_of steps.grown.later before.chain.seen) ∙ logged.grown)

-- steps whose calls did nothing to the number of keys counted nothing
pub worked-same :
    {m : MapOf} {call : Call} {before after : SeatOf} {made : List (Call × Reply)} {most : ℕ}
    → IsMine m before → IsMine m after
    → HasMade m.chain.shape call before.chain after.chain made most → net_of made ≡ pos 0
    → HasWorked m call before after most → after.count ≡ before.count
worked-same {before = before} {after = after} mine mine' steps none worked =
    let added = ap (λ count. count.added) worked.count in
    let net : worked.net ≡ pos 0 =
    omega (arith, ints, net-made steps, none, added, mine.counted, mine'.counted) in
    worked.count ∙ ap (λ net. accounted net before.count) net ∙ counted-none before.count

-- a write of fewer tries has a smaller bound
tries-most : (p : Plan) (tries passed : ℕ) → put_steps p (min tries passed) ≤ put_steps p tries
tries-most p tries passed =
    let slots = slots_below p (generations_of p) in
    let n = size_of p (generations_of p - 1) in
    mul-le-mul_right (n + 8) (more slots (generations_of p) (min tries passed) tries (omega arith))
  where
    more : (a b x y : ℕ) → x ≤ y → 8 * (a + x + b) ≤ 8 * (a + y + b)
    more a b x y below = omega (arith, below)

-- ---- an update so far

module _ {F : Type 0} (m : MapOf) (Step : F → Option ℕ → Option ℕ → F → Type 0) (first : F) (k : ℕ)
    (before : SeatOf) (tries : ℕ) where
  abbrev p : Plan
  p = m.chain.shape

  -- The update has read its key and lost so many exchanges since.
  pub record HasCome (now : SeatOf) (function : F) (found : Option ℕ) (rounds : ℕ) : Type 0 where
    pub mine : IsMine m now
    pub calls : List (Call × Reply)
    pub tried : HasTried Step k first calls found function
    pub lost : length calls ≡ suc rounds
    pub call : Call
    pub asked : Contains (asked_for None calls) call
    pub key : key_of_call call ≡ k
    pub made : HasMade p call before.chain now.chain calls (get_steps p + rounds * put_steps p tries)
    pub count : now.count ≡ before.count

-- after the read
pub come-first :
    {F : Type 0} {m : MapOf} {Step : F → Option ℕ → Option ℕ → F → Type 0} (f : F) {k : ℕ}
    {before now : SeatOf} (tries : ℕ) (found : Option ℕ) → IsMine m before
    → HasGot m k before now found → HasCome m Step f k before tries now f found 0
come-first {m = m} f {k} tries found mine got =
    let steps = made-logged got.worked.steps.1 got.replied in
    record {
      mine = got.own;
      calls = (Get k, reply_at (Get k) found) ∷ [];
      tried = Read (reply_at (Get k) found);
      lost = refl;
      call = Get k;
      asked = (0, omega arith, refl);
      key = refl;
      made = made-within (get_steps m.chain.shape) _ (omega arith) steps;
      count = worked-same mine got.own steps (omega (arith, ints)) got.worked;
    }

module _ {F : Type 0} {m : MapOf} {Step : F → Option ℕ → Option ℕ → F → Type 0} {first : F} {k : ℕ}
    {before : SeatOf} {tries : ℕ} {now : SeatOf} {f : F} {found : Option ℕ} {rounds : ℕ}
    (mine : IsMine m before) (come : HasCome m Step first k before tries now f found rounds)
  where
    abbrev shape : Plan
    shape = m.chain.shape

    -- it has lost as many as it has tries
    pub come-all : rounds ≡ tries → IsUpdate m Step first k before now tries (Err fault.Contended)
    come-all all = record {
      calls = come.calls;
      found = found;
      function = f;
      tried = come.tried;
      last = None;
      computed = tt;
      ended = (logged mine come.made, refl, come.lost ∙ ap suc all, passed);
      call = come.call;
      asked = come.asked;
      worked = record {
        steps = (
          come.calls,
          made-within _ _ (within (get_steps shape) (put_steps shape tries) rounds all) come.made,
        );
        net = pos 0;
        count = come.count ∙ sym (counted-none before.count);
      };
    }
      where
        passed : tries ≤ passed_since (Get k) before.chain now.chain
        passed =
            let grown = come.made.grown in
            let few = passed-lost Step k first shape mine.chain.plan before.chain.number before.chain.seen
            grown.later now.chain.seen grown.seen grown.legal come.tried (calls-later come.made) in
            omega (arith, few, come.lost, all)

        within : (a b n : ℕ) → n ≡ tries → a + n * b ≤ a + tries * b
        within a b n same = omega (arith, ap (λ n. n * b) same)

    -- one more exchange
    module _ (new : Option ℕ) (g : F) (step : Step f found new g) {after : SeatOf}
        (mine' : IsMine m after) (worked : IsNonBlocking m (exchange_of k found new) now after (Tries tries))
      where
        abbrev call : Call
        call = exchange_of k found new

        -- the call whose steps these may be
        chosen : (one : Call) × IsEither come.call call one
        chosen = either-call come.call call (sym come.key)

        -- all steps until its end
        fewer : get_steps shape + rounds * put_steps shape tries
            + put_steps shape (min tries (passed_since call now.chain after.chain + 1))
            ≤ get_steps shape + suc rounds * put_steps shape tries
        fewer = add (get_steps shape) rounds (put_steps shape tries) _
            (tries-most shape tries (passed_since call now.chain after.chain + 1))
          where
            add : (a r most some : ℕ) → some ≤ most → a + r * most + some ≤ a + suc r * most
            add a r most some less = omega (arith, less)

        both :
            {made : List (Call × Reply)}
            → HasLogged now after made → HasMade shape chosen.0 before.chain after.chain
            (made ++ come.calls) (get_steps shape + suc rounds * put_steps shape tries)
        both {made} logged =
            made-within _ _ fewer
            (made-more m.chain mine.chain
            (made-as chosen.0 chosen.1.key chosen.1.first come.made)
            (made-as chosen.0 (chosen.1.key ∙ come.key) chosen.1.second
            (made-logged worked.steps.1 logged)))

        -- it is among the calls
        chosen-asked : Contains (asked_for (Some call) come.calls) chosen.0
        chosen-asked = elim chosen.1.is [
          | inl is ↦ subst (Contains (asked_for (Some call) come.calls)) (sym is)
              (Contains-append_right (call ∷ []) (asked_for None come.calls) come.call come.asked)
          | inr is ↦ subst (Contains (asked_for (Some call) come.calls)) (sym is) (0, omega arith, refl)
        ]

        -- the counter, where the exchange did nothing to the number of keys
        still : {made : List (Call × Reply)} → HasLogged now after made → net_of made ≡ pos 0
            → after.count ≡ before.count
        still logged none =
            worked-same come.mine mine' (made-logged worked.steps.1 logged) none worked ∙ come.count

        all-steps : rounds < tries → get_steps shape + suc rounds * put_steps shape tries
            ≤ update_steps shape tries
        all-steps less = within (get_steps shape) (put_steps shape tries)
            (mul-le-mul_right (put_steps shape tries) less)
          where
            within : (a most : ℕ) → suc rounds * most ≤ tries * most
                → a + suc rounds * most ≤ a + tries * most
            within a most more = omega (arith, more)

        -- it found something else
        pub come-more :
            (reply : Reply) → HasReplied call now after reply → reply.matched ≡ false
            → HasCome m Step first k before tries after g reply.before (rounds + 1)
        come-more reply replied missed =
            subst (HasCome m Step first k before tries after g reply.before) (sym (add-one rounds))
            (record {
              mine = mine';
              calls = (call, reply) ∷ come.calls;
              tried = Lost come.tried new g reply step missed;
              lost = ap suc come.lost;
              call = chosen.0;
              asked = chosen-asked;
              key = chosen.1.key ∙ come.key;
              made = both replied;
              count = still replied none;
            })
          where
            lost : net_of_call call reply ≡ pos 0
            lost = ap (λ b. if b then net_of_change (change_to new) reply.before else pos 0) missed

            none : net_of ((call, reply) ∷ []) ≡ pos 0
            none = omega (arith, ints, lost)

        -- it found what it was to
        pub come-end :
            (reply : Reply) → rounds < tries → HasReplied call now after reply → reply.matched ≡ true
            → IsUpdate m Step first k before after tries (Ok reply.before)
        come-end reply less replied matched = record {
          calls = come.calls;
          found = found;
          function = f;
          tried = come.tried;
          last = Some call;
          computed = (new, g, step, refl);
          ended = (there, omega (arith, come.lost, less), logged mine (both is-replied));
          call = chosen.0;
          asked = chosen-asked;
          worked = record {
            steps = (_, made-within _ _ (all-steps less) (both is-replied));
            net = worked.net;
            count = worked.count ∙ ap (accounted worked.net) come.count;
          };
        }
          where
            at : (was found : Option ℕ) → holds_of (want_of was) found ≡ true → found ≡ was
            at None None holds = refl
            at None (Some n) holds = absurd cc
            at (Some n) None holds = absurd cc
            at (Some n) (Some f) holds = ap Some (eqb-true f n holds)

            fits : reply ≡ reply_at call reply.before
            fits = replies_fit now after call reply replied

            there : reply.before ≡ found
            there = at found reply.before (sym (ap (λ (r : Reply). r.matched) fits) ∙ matched)

            is : reply ≡ record { before = found; matched = true }
            is = ap₂ (λ before matched. record { before = before; matched = matched }) there matched

            is-replied : HasReplied call now after (record { before = found; matched = true })
            is-replied = subst (HasReplied call now after) is replied

        -- it was refused
        pub come-refused :
            (refusal : PutFault) → rounds < tries → HasRefused m call now after (Tries tries) refusal
            → IsUpdate m Step first k before after tries (Err refusal)
        come-refused refusal less given = record {
          calls = come.calls;
          found = found;
          function = f;
          tried = come.tried;
          last = Some call;
          computed = (new, g, step, refl);
          ended = (
            omega (arith, come.lost, less),
            logged mine (both given.unmade),
            just-longer shape call (Tries tries) (Tries tries) come.made.grown
                worked.steps.1.grown (λ all. omega (arith, all)) refusal given.just,
          );
          call = chosen.0;
          asked = chosen-asked;
          worked = record {
            steps = (_, made-within _ _ (all-steps less) (both given.unmade));
            net = pos 0;
            count = still given.unmade refl ∙ sym (counted-none before.count);
          };
        }
