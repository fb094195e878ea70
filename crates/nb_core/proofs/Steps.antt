-- What may have happened to each word of the tables in one step of a legal history, and why.
use Rattle.std.proofs.Common.{◌≡◌, ℕ, ◌<◌, ◌≤◌, max, suc, cond, List, ◌∷◌, ap, sym, subst, refl, arith}
use Rattle.nb_core.specs.Plans.{Plan, IsPlan, Top, Header, generations_of}
use Rattle.nb_core.specs.Tables.{IsSlot, Tables, tables_at}
use Rattle.nb_core.specs.History.{IsLegal, MayClaim, MayCopyIn, MayFinish, MayInstall, MayKill, MayPrime, MayPromote, MayWin}
use Rattle.nb_core.specs.States.{primed}
use Rattle.nb_core.proofs.Frames.{finished, key_after, key-frame, next-frame, value_after, value-frame}
use Rattle.nb_core.proofs.Words.{at_slot, at_table, word_after, word-frame}
use Rattle.nb_core.specs.declared.numbers.TheConstants.{KEY_MAX}
use Rattle.nb_core.specs.declared.calls.Call.{Call}
use Rattle.nb_core.specs.declared.events.Event.{Event}
use Rattle.nb_core.specs.declared.events.Event.TheVariants.{Claim, Kill, Won, CopyIn, Prime, Finish, Install, Promote}
use Rattle.nb_core.specs.declared.states.KeyState.{KeyState}
use Rattle.nb_core.specs.declared.states.KeyState.TheVariants.{Dead, Claimed}
use Rattle.nb_core.specs.declared.states.ValueState.{ValueState}
use Rattle.nb_core.specs.declared.states.ValueState.TheVariants.{Live, Finished}

-- a slot's key after a step
pub data KeyStep (p : Plan) (t : Tables) (g i : ℕ) (to : KeyState) : Type 0 where
  KeyKept : to ≡ t.key g i → KeyStep p t g i to
  Claims : (k : ℕ) → k ≤ KEY_MAX → MayClaim p t g i k → to ≡ Claimed k → KeyStep p t g i to
  Kills : MayKill t g i → to ≡ Dead → KeyStep p t g i to

-- a slot's value after a step
pub data ValueStep (p : Plan) (t : Tables) (g i : ℕ) (to : ValueState) : Type 0 where
  ValueKept : to ≡ t.value g i → ValueStep p t g i to
  Wins : (a b : ValueState) (c : Call) → MayWin p t g i a b c → to ≡ b → ValueStep p t g i to
  Copies : (k n : ℕ) → MayCopyIn p t g i k n → to ≡ Live n → ValueStep p t g i to
  Primes : MayPrime t g i → to ≡ primed (t.value g i) → ValueStep p t g i to
  Finishes : (may : MayFinish p t g i) → to ≡ Finished may.number → ValueStep p t g i to

-- a table's next word after a step
pub data NextStep (p : Plan) (t : Tables) (g to : ℕ) : Type 0 where
  NextKept : to ≡ t.next g → NextStep p t g to
  Installs : (k : ℕ) → MayInstall p t g k → to ≡ 1 → NextStep p t g to

-- the top word after a step
pub data TopStep (p : Plan) (t : Tables) (to : ℕ) : Type 0 where
  TopKept : to ≡ t.top → TopStep p t to
  Promotes : (g : ℕ) → g < generations_of p → MayPromote p t g → to ≡ suc g → TopStep p t to

-- the tables before and after a step
pub record Step (p : Plan) (t u : Tables) : Type 0 where
  pub key : (g i : ℕ) → IsSlot p g i → KeyStep p t g i (u.key g i)
  pub value : (g i : ℕ) → IsSlot p g i → ValueStep p t g i (u.value g i)
  pub next : (g : ℕ) → NextStep p t g (u.next g)
  pub top : TopStep p t u.top

-- what an event does to a key is a step
key-step :
    (p : Plan) (e : Event) (h : List Event) → IsLegal p (e ∷ h) → (g i : ℕ)
    → let t = tables_at p h in KeyStep p t g i (key_after e g i (t.key g i))
key-step p (Claim s f j k) h legal g i =
    let t = tables_at p h in
    at_slot (λ g i here. KeyStep p t g i (cond here (Claimed k) (t.key g i))) f j g i
    (Claims k legal.1.2 legal.2 refl) (KeyKept refl)
key-step p (Kill s f j) h legal g i =
    let t = tables_at p h in
    at_slot (λ g i here. KeyStep p t g i (cond here Dead (t.key g i))) f j g i (Kills legal.2 refl)
    (KeyKept refl)
key-step p _ h legal g i = KeyKept refl

-- so is what it does to a value
value-step :
    (p : Plan) (e : Event) (h : List Event) → IsLegal p (e ∷ h) → (g i : ℕ)
    → let t = tables_at p h in ValueStep p t g i (value_after e g i (t.value g i))
value-step p (Won s f j a b c r) h legal g i =
    let t = tables_at p h in
    at_slot (λ g i here. ValueStep p t g i (cond here b (t.value g i))) f j g i
    (Wins a b c legal.2 refl) (ValueKept refl)
value-step p (CopyIn s f j k n) h legal g i =
    let t = tables_at p h in
    at_slot (λ g i here. ValueStep p t g i (cond here (Live n) (t.value g i))) f j g i
    (Copies k n legal.2 refl) (ValueKept refl)
value-step p (Prime s f j) h legal g i =
    let t = tables_at p h in
    at_slot (λ g i here. ValueStep p t g i (cond here (primed (t.value g i)) (t.value g i))) f j g i
    (Primes legal.2 refl) (ValueKept refl)
value-step p (Finish s f j) h legal g i =
    let t = tables_at p h in
    at_slot (λ g i here. ValueStep p t g i (cond here (finished (t.value g i)) (t.value g i)))
    f j g i
    (Finishes legal.2 (ap finished legal.2.primed)) (ValueKept refl)
value-step p _ h legal g i = ValueKept refl

-- to a next word
next-step :
    (p : Plan) (e : Event) (h : List Event) → IsLegal p (e ∷ h) → (g : ℕ)
    → let t = tables_at p h in NextStep p t g (word_after p e (Header g 0) (t.next g))
next-step p (Install s f k) h legal g =
    let t = tables_at p h in
    at_table (λ g here. NextStep p t g (cond here 1 (t.next g))) f g (Installs k legal.2 refl)
    (NextKept refl)
next-step p _ h legal g = NextKept refl

-- and to the top word
top-step : (p : Plan) (e : Event) (h : List Event) → IsLegal p (e ∷ h) → let t = tables_at p h in
    TopStep p t (word_after p e Top t.top)
top-step p (Promote s f) h legal = Promotes f legal.1.1 legal.2
    (rises ((tables_at p h).top) f legal.2.higher)
  where
    rises : (top g : ℕ) → top ≤ g → max top (suc g) ≡ suc g
    rises top g low = omega arith
top-step p _ h legal = TopKept refl

-- each event of a legal history is a step
pub step_of :
    (p : Plan) (e : Event) (h : List Event) → IsPlan p → IsLegal p (e ∷ h)
    → Step p (tables_at p h) (tables_at p (e ∷ h))
step_of p e h plan legal =
    let t = tables_at p h in
    record {
      key = λ g i slot. subst (KeyStep p t g i) (sym (key-frame p e h plan legal.1 g i slot))
          (key-step p e h legal g i);
      value = λ g i slot. subst (ValueStep p t g i) (sym (value-frame p e h plan legal g i slot))
          (value-step p e h legal g i);
      next = λ g. subst (NextStep p t g) (sym (next-frame p e h plan legal.1 g))
          (next-step p e h legal g);
      top = subst (TopStep p t) (sym (word-frame p plan h Top tt e legal.1)) (top-step p e h legal);
    }
