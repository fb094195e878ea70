-- What is so at a moment, and still is at every later one.
use Rattle.std.proofs.Common.{◌≡◌, ◌≢◌, ◌∙◌, ℕ, ◌<◌, ◌≤◌, zero, suc, [], ◌∷◌, ◌++◌, sym, subst, refl, inl, inr, arith}
use Rattle.nb_core.specs.Plans.{Plan, IsPlan, generations_of, size_of}
use Rattle.nb_core.specs.Tables.{HasSlot, IsFinishedValue, IsReady, IsSettledBelow, IsSlot, Tables, path_slot, tables_at, IsPassed, AtSlot, UpToDead, Whole}
use Rattle.nb_core.specs.History.{HasValue}
use Rattle.nb_core.specs.Laws.{BeginningsAreLegal, ContentOnce, Lasts, SeenLasts, SlotsStay, Stays}
use Rattle.nb_core.proofs.Keeping.{claim-not_late, sound}
use Rattle.nb_core.proofs.Lasting.{complete-stays, finished-stays, installed-stays, key-claimed, key-dead, key-was, others-stay, slot-stays, value-content, value-final, value-primed_or_finished, value-some, value-still_final}
use Rattle.nb_core.proofs.Sound.{IsSound, dead-null, finished-not_empty, path_slot-is_slot}
use Rattle.nb_core.proofs.Steps.{Step, TopKept, Promotes, step_of}
use Rattle.nb_core.specs.declared.states.KeyState.{KeyState}
use Rattle.nb_core.specs.declared.states.KeyState.TheVariants.{Empty, Dead, Claimed}

-- ---- one step

module _ (p : Plan) (t u : Tables) (plan : IsPlan p) (s : IsSound p t) (step : Step p t u) where
  -- a passed key stays passed,
  passed-stays : (g k : ℕ) → g < generations_of p → IsPassed p t g k → IsPassed p u g k
  passed-stays g k within (AtSlot i below is final) =
      AtSlot i below (key-claimed (step.key g i (within, below)) is)
      (value-still_final (step.value g i (within, below)) final)
  passed-stays g k within (UpToDead d below others dead) =
      let slot = path_slot-is_slot p plan g k d within in
      UpToDead d below (others-stay p t u step plan g k d within others)
      (key-dead (step.key g (path_slot p g k d) slot) dead)
  passed-stays g k within (Whole others) =
      Whole (others-stay p t u step plan g k (size_of p g) within others)

  -- a key with a value keeps one,
  value-stays : (g k : ℕ) → g < generations_of p → HasValue p t g k → HasValue p u g k
  value-stays g k within has = record {
    slot = has.slot;
    in_table = has.in_table;
    is = key-claimed (step.key g has.slot (within, has.in_table)) has.is;
    some = value-some (step.value g has.slot (within, has.in_table)) has.some;
  }

  -- a ready table stays ready,
  ready-stays : (g : ℕ) → g < generations_of p → IsReady p t g → IsReady p u g
  ready-stays zero within ready = tt
  ready-stays (suc g) within ready = complete-stays p t u step g (omega arith) ready

  -- a key with a slot above gets none below, so what is settled is so for ever
  settled-stays : (g k : ℕ) → g < generations_of p → HasSlot p t g k → IsSettledBelow p t g k
      → IsSettledBelow p u g k
  settled-stays zero k within has settled = tt
  settled-stays (suc g) k within has settled = λ i below is.
      let slot : IsSlot p g i = (omega arith, below) in
      elim (key-was (step.key g i slot) is) [
        | inl was ↦ value-still_final (step.value g i slot) (settled i below was)
        | inr claims ↦ absurd (claim-not_late p t s g i k within slot claims.1 has)
      ]

  -- and the top word never falls
  top-rises : t.top ≤ u.top
  top-rises =
      elim (step.top) [
        | TopKept e ↦ omega arith
        | Promotes g within may e ↦ (let higher = may.higher in omega arith)
      ]

  -- all that, of one step
  lasts-step : Lasts p t u
  lasts-step = record {
    installed = installed-stays p t u step;
    claimed = λ g i k slot is. key-claimed (step.key g i slot) is;
    dead = λ g i slot is. key-dead (step.key g i slot) is;
    others = others-stay p t u step plan;
    passed = passed-stays;
    has_slot = slot-stays p t u step;
    has_value = value-stays;
    not_null = λ g i slot some. value-some (step.value g i slot) some;
    content = λ g i slot content. value-content (step.value g i slot) content;
    primed_or_finished = λ g i n slot is. value-primed_or_finished (step.value g i slot) is;
    final = λ g i slot final. value-final (step.value g i slot) final;
    finished = finished-stays p t u step;
    complete = complete-stays p t u step;
    ready = ready-stays;
    settled = settled-stays;
    top = top-rises;
  }

-- ---- many steps

-- of no step
lasts-none : (p : Plan) (t : Tables) → Lasts p t t
lasts-none p t = record {
  installed = λ g is. is;
  claimed = λ g i k slot is. is;
  dead = λ g i slot is. is;
  others = λ g k d within is. is;
  passed = λ g k within is. is;
  has_slot = λ g k within is. is;
  has_value = λ g k within is. is;
  not_null = λ g i slot is. is;
  content = λ g i slot is. is;
  primed_or_finished = λ g i n slot is. is;
  final = λ g i slot is. refl;
  finished = λ g i slot is. is;
  complete = λ g within is. is;
  ready = λ g within is. is;
  settled = λ g k within has is. is;
  top = omega arith;
}

-- and of one step after others
lasts-then : (p : Plan) (t u v : Tables) → Lasts p t u → Lasts p u v → Lasts p t v
lasts-then p t u v a b = record {
  installed = λ g is. b.installed g (a.installed g is);
  claimed = λ g i k slot is. b.claimed g i k slot (a.claimed g i k slot is);
  dead = λ g i slot is. b.dead g i slot (a.dead g i slot is);
  others = λ g k d within is. b.others g k d within (a.others g k d within is);
  passed = λ g k within is. b.passed g k within (a.passed g k within is);
  has_slot = λ g k within is. b.has_slot g k within (a.has_slot g k within is);
  has_value = λ g k within is. b.has_value g k within (a.has_value g k within is);
  not_null = λ g i slot is. b.not_null g i slot (a.not_null g i slot is);
  content = λ g i slot is. b.content g i slot (a.content g i slot is);
  primed_or_finished = λ g i n slot is. b.primed_or_finished g i n slot
      (a.primed_or_finished g i n slot is);
  final = λ g i slot is. let first = a.final g i slot is in
      b.final g i slot (subst IsFinishedValue (sym first) is) ∙ first;
  finished = λ g i slot is. b.finished g i slot (a.finished g i slot is);
  complete = λ g within is. b.complete g within (a.complete g within is);
  ready = λ g within is. b.ready g within (a.ready g within is);
  settled = λ g k within has is. b.settled g k within (a.has_slot g k within has)
      (a.settled g k within has is);
  top = omega (arith, a.top, b.top);
}

pub beginnings_are_legal : BeginningsAreLegal
beginnings_are_legal p [] h legal = legal
beginnings_are_legal p (e ∷ later) h legal = beginnings_are_legal p later h legal.0

pub seen_lasts : SeenLasts
seen_lasts p plan [] h legal = lasts-none p (tables_at p h)
seen_lasts p plan (e ∷ later) h legal =
    let t = tables_at p (later ++ h) in
    let u = tables_at p (e ∷ later ++ h) in
    lasts-then p (tables_at p h) t u (seen_lasts p plan later h legal.0)
    (lasts-step p t u plan (sound p (later ++ h) plan legal.0)
    (step_of p e (later ++ h) plan legal))

pub content_once : ContentOnce
content_once p plan later h legal g i slot content =
    (seen_lasts p plan later h legal).content g i slot content

-- ---- what stays in a slot

-- a key that isn't empty is the same in later tables
key-same :
    (p : Plan) (t u : Tables) → Lasts p t u → (g i : ℕ) → IsSlot p g i → (s : KeyState)
    → t.key g i ≡ s → s ≢ Empty → u.key g i ≡ s
key-same p t u a g i slot Empty is some = absurd (some refl)
key-same p t u a g i slot Dead is some = a.dead g i slot is
key-same p t u a g i slot (Claimed k) is some = a.claimed g i k slot is

-- a slot's key stays, and a finished slot's value
stays :
    (p : Plan) (t u : Tables) → IsSound p t → IsSound p u → Lasts p t u → (g i : ℕ) → IsSlot p g i
    → Stays t u g i
stays p t u s r a g i slot = record {
  key = key-same p t u a g i slot (t.key g i) refl;
  finished = λ finished. elim finished [
    | inl dead ↦
        let still = a.dead g i slot dead in
        (still ∙ sym dead, dead-null p u r g i slot still ∙ sym (dead-null p t s g i slot dead))
    | inr final ↦ (
      key-same p t u a g i slot (t.key g i) refl (finished-not_empty p t s g i slot (inr final)),
      a.final g i slot final,
    )
  ];
}

pub slots_stay : SlotsStay
slots_stay p plan later h legal g i slot =
    stays p (tables_at p h) (tables_at p (later ++ h))
    (sound p h plan (beginnings_are_legal p later h legal))
    (sound p (later ++ h) plan legal) (seen_lasts p plan later h legal) g i slot
