-- The steps of a walk that shows its keys to a function, and of the removals of what this refuses,
-- all together.
use Rattle.std.proofs.Common.{◌≡◌, ◌∙◌, ℕ, ◌+◌, ◌-◌, ◌*◌, ◌≤◌, Bool, true, List, [], ◌∷◌, ◌++◌, Ok, Option, Some, None, length, sum_by, ap, refl, sym, subst, subst₂, arith}
use Rattle.std.specs.List.{All}
use Rattle.std.proofs.Math.Nat.{mul-le-mul_right}
use Rattle.std.proofs.lemmas.List.Sums.{sum_by-cons}
use Rattle.std.proofs.lemmas.List.Elements.{All-head, All-tail}
use Rattle.nb_core.proofs.Theorems.{passed_over_adds}
use Rattle.nb_core.specs.History.{key_of_call}
use Rattle.nb_core.specs.Meaning.{passed_over}
use Rattle.nb_core.specs.Plans.{Plan, generations_of, size_of}
use Rattle.nb_core.specs.declared.calls.Call as map_call
use Rattle.nb_core.specs.declared.events.Event.{Event}
use Rattle.nb_map.specs.Progress.{passed_since}
use Rattle.nb_map.specs.Steps.{get_steps, put_steps, slots_ahead, slots_below}
use Rattle.nb_map.specs.declared.steps.walk.Place.{Place}
use Rattle.nb_map.specs.declared.steps.walk.Place.TheVariants.{End, Slot}
use Rattle.nb_set.specs.Bulk.{removal_steps, sweep_steps}
use Rattle.nb_set.specs.Log.{Add, Call, Contains, Remove}
use Rattle.nb_set.specs.OfMap.{call_for}
use Rattle.nb_set.specs.Promises.{HasBegunWalk, HasWalkedOn, HasWritten}
use Rattle.nb_set.specs.Sets.{HasWorked, SeatOf, SetOf, shape_of, steps_of}
use Rattle.nb_set.specs.Walks.{IsLater, IsMiss, WalkOf, slots_before}

-- ---- one call

-- it has made no more steps than it may
worked-steps :
    (set : SetOf) (call : Call) {before after : SeatOf} {most : ℕ}
    → HasWorked set call before after most → steps_of after ≤ steps_of before + most
worked-steps set call worked =
    let made = worked.steps.1 in
    omega (arith, made.grown.steps, made.few)

-- ---- the exchanges that others won

-- up to a moment and since then
passed-sum :
    (call : map_call.Call) {start mid after : SeatOf} → IsLater start mid → IsLater mid after
    → passed_since call start.chain mid.chain
    + passed_since call mid.chain after.chain
    ≡ passed_since call start.chain after.chain
passed-sum call {start} {mid} {after} a b =
    subst (λ s. passed_since call start.chain mid.chain
    + passed_over after.chain.seen (length mid.chain.seen) (key_of_call call) s
    ≡ passed_since call start.chain after.chain) (sym a.number)
    (omega (
      arith,
      at mid.chain.seen after.chain.seen a.seen.later b.seen.later a.seen.is b.seen.is
          (key_of_call call) start.chain.number,
    ))
  where
    at : (m a later later' : List Event) → m ≡ later ++ start.chain.seen → a ≡ later' ++ m
        → (k s : ℕ)
        → passed_over a (length start.chain.seen) k s ≡ passed_over a (length m) k s
        + passed_over m (length start.chain.seen) k s
    at m a later later' is is' k s =
        subst₂ (λ m a. passed_over a (length start.chain.seen) k s
        ≡ passed_over a (length m) k s + passed_over m (length start.chain.seen) k s) (sym is)
        (sym (is' ∙ ap (λ h. later' ++ h) is))
        (passed_over_adds later' later start.chain.seen k s)

-- a write of more tries has a greater bound
put-more : (p : Plan) (a b : ℕ) → a ≤ b → put_steps p a ≤ put_steps p b
put-more p a b less =
    let slots = slots_below p (generations_of p) in
    let n = size_of p (generations_of p - 1) in
    mul-le-mul_right (n + 8) (more slots (generations_of p) a b less)
  where
    more : (s g x y : ℕ) → x ≤ y → 8 * (s + x + g) ≤ 8 * (s + y + g)
    more s g x y below = omega (arith, below)

-- ---- the removals among calls

abbrev removals : SetOf → (before after : SeatOf) → List (Call × Bool) → ℕ
removals set before after calls =
    sum_by (λ (made : Call × Bool). removal_steps set before after made.0) calls

module _ (set : SetOf) (before : SeatOf) where
  -- one call more beside these
  removals-more :
      (after : SeatOf) (made : Call × Bool) (calls : List (Call × Bool))
      → removals set before after (made ∷ calls) ≡ removal_steps set before after made.0
      + removals set before after calls
  removals-more after made calls =
      sum_by-cons (λ (made : Call × Bool). removal_steps set before after made.0) made calls

  -- those that only asked add nothing
  removals-missed :
      (after : SeatOf) (misses calls : List (Call × Bool)) → All IsMiss misses
      → removals set before after (misses ++ calls) ≡ removals set before after calls
  removals-missed after [] calls missed = refl
  removals-missed after (made ∷ misses) calls missed =
      let miss = All-head IsMiss made misses missed in
      let none : removal_steps set before after made.0 ≡ 0 =
      ap (λ (made : Call × Bool). removal_steps set before after made.0) miss.1 in
      let rest = removals-missed after misses calls (All-tail IsMiss made misses missed) in
      omega (arith, none, rest, removals-more after made (misses ++ calls))

  -- the bound grows with what the seat sees
  removals-grow :
      {now after : SeatOf} → IsLater before now → IsLater now after → (calls : List (Call × Bool))
      → removals set before now calls ≤ removals set before after calls
  removals-grow a b [] = omega arith
  removals-grow {now} {after} a b (made ∷ calls) =
      let one = grows made.0 in
      let rest = removals-grow a b calls in
      omega (arith, one, rest, removals-more now made calls, removals-more after made calls)
    where
      grows : (call : Call)
          → removal_steps set before now call ≤ removal_steps set before after call
      grows (Add k) = omega arith
      grows (Contains k) = omega arith
      grows (Remove k) =
          let sum = passed-sum (call_for (Remove k)) a b in
          put-more (shape_of set)
          (passed_since (call_for (Remove k)) before.chain now.chain + 1)
          (passed_since (call_for (Remove k)) before.chain after.chain + 1)
          (omega (arith, sum))

  -- ---- the way of a walk

  abbrev slots : ℕ
  slots = slots_below (shape_of set) (generations_of (shape_of set))

  -- the most steps of a walk for each slot
  abbrev each : ℕ
  each = slots + get_steps (shape_of set) + 4

  -- the most steps until a walk has come here, with these calls
  abbrev pub far_steps : SeatOf → WalkOf → List (Call × Bool) → ℕ
  far_steps now walk calls =
      1 + (slots - slots_before set walk) * each + removals set before now calls

  way : (all from to c : ℕ) → to ≤ from → from ≤ all
      → (all - from) * c + (from - to) * c ≤ (all - to) * c
  way all from to c down within =
      let sum : (all - from) + (from - to) ≡ all - to = omega (arith, down, within) in
      let both : ((all - from) + (from - to)) * c ≡ (all - from) * c + (from - to) * c =
      omega arith in
      omega (arith, both, ap (λ n. n * c) sum)

  -- no more slots are ahead than there are
  ahead-within : (p : Plan) (place : Place) → slots_ahead p place ≤ slots_below p (generations_of p)
  ahead-within p (Slot g i) = omega arith
  ahead-within p End = omega arith

  -- as the walk begins
  pub far-begun :
      {now : SeatOf} {walk : WalkOf} → HasBegunWalk set before now walk
      → steps_of now ≤ steps_of before + far_steps now walk []
  far-begun began = omega (arith, began.top.looked.step)

  -- it goes on
  far-walked :
      {now after : SeatOf} {walk walk' : WalkOf} {next : Option ℕ} (calls : List (Call × Bool))
      → IsLater before now → IsLater now after → slots_before set walk' ≤ slots_before set walk
      → (on : HasWalkedOn set now after walk walk' next)
      → steps_of now ≤ steps_of before + far_steps now walk calls
      → steps_of after ≤ steps_of before + far_steps after walk' (on.asked.misses ++ calls)
  far-walked {now} {after} {walk} {walk'} calls a b down on short =
      omega (
        arith,
        short,
        worked-steps set (Contains 0) (on.worked 0),
        way slots (slots_before set walk) (slots_before set walk') each down
            (ahead-within (shape_of set) walk.map.place),
        removals-grow a b calls,
        removals-missed after on.asked.misses calls on.asked.missed,
      )

  -- it has shown a key,
  pub far-shown :
      {now after : SeatOf} {walk walk' : WalkOf} {k : ℕ} (calls : List (Call × Bool))
      → IsLater before now → IsLater now after
      → (on : HasWalkedOn set now after walk walk' (Some k))
      → steps_of now ≤ steps_of before + far_steps now walk calls
      → steps_of after
      ≤ steps_of before + far_steps after walk' ((Contains k, true) ∷ (on.asked.misses ++ calls))
  far-shown {after = after} {walk = walk} {walk'} {k} calls a b on short =
      let down : slots_before set walk' ≤ slots_before set walk = omega (arith, on.ahead) in
      omega (
        arith,
        far-walked calls a b down on short,
        removals-more after (Contains k, true) (on.asked.misses ++ calls),
      )

  -- and taken it out
  pub far-removed :
      {now after : SeatOf} {k : ℕ} {went : Bool} (walk : WalkOf) (calls : List (Call × Bool))
      → IsLater before now → IsLater now after → HasWritten set (Remove k) now after (Ok went)
      → steps_of now ≤ steps_of before + far_steps now walk calls
      → steps_of after ≤ steps_of before + far_steps after walk ((Remove k, went) ∷ calls)
  far-removed {now} {after} {k} {went} walk calls a b wrote short =
      let sum = passed-sum (call_for (Remove k)) a b in
      omega (
        arith,
        short,
        worked-steps set (Remove k) wrote.lock_free,
        put-more (shape_of set)
            (passed_since (call_for (Remove k)) now.chain after.chain + 1)
            (passed_since (call_for (Remove k)) before.chain after.chain + 1)
            (omega (arith, sum)),
        removals-grow a b calls,
        removals-more after (Remove k, went) calls,
      )

  -- it is at its end
  pub far-ended :
      {now after : SeatOf} {walk walk' : WalkOf} (calls : List (Call × Bool))
      → IsLater before now → IsLater now after
      → (on : HasWalkedOn set now after walk walk' None)
      → steps_of now ≤ steps_of before + far_steps now walk calls
      → steps_of after
      ≤ steps_of before + sweep_steps set before after (on.asked.misses ++ calls)
  far-ended {now} {after} {walk} {walk'} calls a b on short =
      let end : slots_before set walk' ≡ 0 = ap (slots_ahead (shape_of set)) (on.ended refl) in
      let same : slots - slots_before set walk' ≡ slots = omega (arith, end) in
      let all : (slots - slots_before set walk') * each ≡ slots * each = ap (λ n. n * each) same in
      let down : slots_before set walk' ≤ slots_before set walk = omega (arith, end) in
      omega (arith, far-walked calls a b down on short, all)
