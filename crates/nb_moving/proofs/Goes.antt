-- How the state of a key in a core goes on.
use Rattle.std.proofs.Common.{◌≡◌, ◌∙◌, ℕ, Bool, true, false, ◌||◌, ◌==◌, cond, List, [], ◌∷◌, ◌++◌, Option, None, ap, sym, subst, refl}
use Rattle.std.specs.Option.{option_map_or}
use Rattle.std.proofs.lemmas.Bool.{both_ways, cond-false, cond-true, cond_both, eqb-true}
use Rattle.nb_core.specs.History.{key_of_call}
use Rattle.nb_core.specs.Log.{changed}
use Rattle.nb_core.specs.declared.calls.Call.{Call}
use Rattle.nb_core.specs.declared.calls.Call.TheVariants as call
use Rattle.nb_core.specs.declared.calls.Reply.{Reply}
use Rattle.nb_moving.specs.Moving.{MayFollow, KeyPlace, becomes, change_at, followed, has_core, is_open, left_by, new_place, row_of, state_in}
use Rattle.nb_moving.specs.declared.events.Event.{Event}
use Rattle.nb_moving.specs.declared.events.Event.TheVariants.{Begin, Seal, Look, Read, Write, Freeze, Copy, Mark, Close, Fill}
use Rattle.nb_moving.specs.declared.events.State.{State}
use Rattle.nb_moving.specs.declared.events.State.TheVariants.{Never, Number, Gone, Frozen, Closed, Full}
use Rattle.nb_moving.proofs.Places.{put, seal}

abbrev left : Option ℕ → State
left o = option_map_or Number o Gone

-- how an event may change the state of a key in a core
pub data Goes : State → State → Type 0 where
  same : {s : State} → Goes s s
  written : {s : State} → is_open s ≡ true → (o : Option ℕ) → Goes s (left o)
  frozen : {n : ℕ} → Goes (Number n) (Frozen n)
  copied_in : {n : ℕ} → Goes Never (Number n)
  marked : {n : ℕ} → Goes (Frozen n) (Closed true)
  closed : {had : Bool} → Goes (cond had Gone Never) (Closed had)
  filled : Goes Never Full

-- the state in a core after an event, and how it came from the one before
pub record Went (c : ℕ) (s : State) (row : List KeyPlace) : Type 0 where
  pub state : State
  pub stands : state_in c row ≡ state
  pub goes : Goes s state

stood : (c : ℕ) (s : State) (row : List KeyPlace) → state_in c row ≡ s → Went c s row
stood c s row at = record { state = s; stands = at; goes = same }

-- a core that isn't in the row has the state that says so
pub state-absent : (c : ℕ) (row : List KeyPlace) → has_core c row ≡ false → state_in c row ≡ Closed false
state-absent c [] none = refl
state-absent c (q ∷ r) none = here (q.core == c) none (state-absent c r)
  where
    here : (b : Bool) → (b || has_core c r) ≡ false
        → (has_core c r ≡ false → state_in c r ≡ Closed false)
        → cond b q.state (state_in c r) ≡ Closed false
    here true a more = absurd (both_ways true a refl)
    here false a more = more a

-- the same core's state is the one that was put
pub state-put :
    (c : ℕ) (u : State) (row : List KeyPlace) → has_core c row ≡ true
    → state_in c (change_at c (put u) row) ≡ u
state-put c u [] there = absurd (both_ways false refl there)
state-put c u (q ∷ r) there =
    here (q.core == c) refl there (state-put c u r)
  where
    here : (b : Bool) → (q.core == c) ≡ b → (b || has_core c r) ≡ true
        → (has_core c r ≡ true → state_in c (change_at c (put u) r) ≡ u)
        → state_in c (cond b (put u q ∷ r) (q ∷ change_at c (put u) r)) ≡ u
    here true e a more = cond-true (q.core == c) u (state_in c r) e
    here false e a more =
        cond-false (q.core == c) q.state (state_in c (change_at c (put u) r)) e
        ∙ more a

-- another core's state is as it was
state-other :
    (d c : ℕ) (f : KeyPlace → KeyPlace) (row : List KeyPlace) → ((p : KeyPlace) → (f p).core ≡ p.core)
    → (d == c) ≡ false → state_in c (change_at d f row) ≡ state_in c row
state-other d c f [] keeps other = refl
state-other d c f (q ∷ r) keeps other =
    here (q.core == d) refl (state-other d c f r keeps other)
  where
    here : (b : Bool) → (q.core == d) ≡ b → state_in c (change_at d f r) ≡ state_in c r
        → state_in c (cond b (f q ∷ r) (q ∷ change_at d f r))
        ≡ cond (q.core == c) q.state (state_in c r)
    here true e more =
        let at_d = eqb-true q.core d e in
        let apart : (q.core == c) ≡ false = ap (λ x. x == c) at_d ∙ other in
        let apart_too : ((f q).core == c) ≡ false = ap (λ x. x == c) (keeps q) ∙ apart in
        cond-false ((f q).core == c) (f q).state (state_in c r) apart_too
        ∙ sym (cond-false (q.core == c) q.state (state_in c r) apart)
    here false e more = ap (cond (q.core == c) q.state) more

-- a seal leaves all states
state-seal :
    (d c : ℕ) (row : List KeyPlace) → state_in c (change_at d seal row) ≡ state_in c row
state-seal d c [] = refl
state-seal d c (q ∷ r) = here (q.core == d) (state-seal d c r)
  where
    here : (b : Bool) → state_in c (change_at d seal r) ≡ state_in c r → state_in c (cond b (seal q ∷ r) (q ∷ change_at d seal r))
        ≡ cond (q.core == c) q.state (state_in c r)
    here true more = refl
    here false more = ap (cond (q.core == c) q.state) more

-- a new core at the end leaves the others
state-append :
    (c d : ℕ) (row : List KeyPlace) → has_core c row ≡ true
    → state_in c (row ++ new_place d) ≡ state_in c row
state-append c d [] there = absurd (both_ways false refl there)
state-append c d (q ∷ r) there = here (q.core == c) there (state-append c d r)
  where
    here : (b : Bool) → (b || has_core c r) ≡ true
        → (has_core c r ≡ true → state_in c (r ++ new_place d) ≡ state_in c r)
        → cond b q.state (state_in c (r ++ new_place d)) ≡ cond b q.state (state_in c r)
    here true a more = refl
    here false a more = more a

-- where the state goes on in its own core, it does in the row of each key
becomes-went :
    (k key d c : ℕ) (u s : State) (row : List KeyPlace) → has_core c row ≡ true → state_in c row ≡ s
    → (k ≡ key → d ≡ c → Goes s u) → Went c s (becomes k key d u row)
becomes-went k key d c u s row there at goes =
    cond_both (k == key) (change_at d (put u) row) row (Went c s) (λ own. here own (d == c) refl)
    (λ other. stood c s row at)
  where
    here : (k == key) ≡ true → (b : Bool) → (d == c) ≡ b → Went c s (change_at d (put u) row)
    here own true e =
        let core = eqb-true d c e in
        subst (λ x. Went c s (change_at x (put u) row)) (sym core) (record {
          state = u;
          stands = state-put c u row there;
          goes = goes (eqb-true k key own) core;
        })
    here own false e =
        stood c s (change_at d (put u) row) (state-other d c (put u) row (λ p. refl) e ∙ at)

-- what a legal event finds in its own core, of its own key
found : (c d : ℕ) (h : List Event) (k key : ℕ) (s u : State) → state_in c (row_of h key) ≡ s
    → state_in d (row_of h k) ≡ u → k ≡ key → d ≡ c → s ≡ u
found c d h k key s u at there own core =
    sym at ∙ ap (λ q. state_in c (row_of h q)) (sym own)
    ∙ ap (λ x. state_in x (row_of h k)) (sym core) ∙ there

write-goes :
    (c : Call) (reply : Reply) (s : State) → is_open s ≡ true → Goes s (left_by c reply.before)
write-goes (call.Get k) reply s e = written e None
write-goes (call.Write k want change) reply s e = written e (changed change reply.before)

goes-from : (s u v : State) → s ≡ u → Goes u v → Goes s v
goes-from s u v e g = subst (λ t. Goes t v) (sym e) g

-- a legal event changes the state of a key in a core in one of these ways
pub went :
    (e : Event) (h : List Event) (c key : ℕ) (s : State) → MayFollow h e
    → has_core c (row_of h key) ≡ true → state_in c (row_of h key) ≡ s → Went c s (row_of (e ∷ h) key)
went (Begin t d link) h c key s may there at =
    cond_both (has_core d (row_of h key)) (row_of h key ++ new_place (followed link key)) (row_of h key)
    (Went c s)
    (λ is. stood c s (row_of h key ++ new_place (followed link key))
    (state-append c (followed link key) (row_of h key) there ∙ at))
    (λ other. stood c s (row_of h key) at)
went (Seal t d) h c key s may there at =
    stood c s (change_at d seal (row_of h key)) (state-seal d c (row_of h key) ∙ at)
went (Look t d k) h c key s may there at = stood c s (row_of h key) at
went (Read t d call reply) h c key s may there at = stood c s (row_of h key) at
went (Write t d call reply) h c key s may there at =
    becomes-went (key_of_call call) key d c (left_by call reply.before) s (row_of h key) there at
    (λ own core. write-goes call reply s
    (ap is_open (found c d h (key_of_call call) key s (state_in d (row_of h (key_of_call call))) at refl own core)
    ∙ may.unfrozen))
went (Freeze t d k n) h c key s may there at =
    becomes-went k key d c (Frozen n) s (row_of h key) there at
    (λ own core. goes-from s (Number n) (Frozen n) (found c d h k key s (Number n) at may own core)
    frozen)
went (Copy t i d k n) h c key s may there at =
    becomes-went k key d c (Number n) s (row_of h key) there at
    (λ own core. goes-from s Never (Number n) (found c d h k key s Never at may.1 own core)
    copied_in)
went (Mark t d j k n) h c key s may there at =
    becomes-went k key d c (Closed true) s (row_of h key) there at
    (λ own core. goes-from s (Frozen n) (Closed true)
    (found c d h k key s (Frozen n) at may.1 own core) marked)
went (Close t d k had) h c key s may there at =
    becomes-went k key d c (Closed had) s (row_of h key) there at
    (λ own core. goes-from s (cond had Gone Never) (Closed had)
    (found c d h k key s (cond had Gone Never) at may own core) closed)
went (Fill t d k) h c key s may there at =
    becomes-went k key d c Full s (row_of h key) there at
    (λ own core. goes-from s Never Full (found c d h k key s Never at may.1 own core) filled)
