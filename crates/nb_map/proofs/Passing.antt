-- A walk's way over one slot, and how many steps it takes.
use Rattle.std.proofs.Common.{◌≡◌, ℕ, suc, ◌+◌, ◌-◌, ◌*◌, ◌≤◌, ◌<◌, [], Option, Some, None, sym, subst, refl, arith}
use Rattle.std.specs.Option.{IfSome}
use Rattle.std.proofs.Math.Nat.{mul-le-mul_right}
use Rattle.std.proofs.lemmas.List.Elements.{All-cons, All-nil}
use Rattle.nb_core.specs.Log.{reply_at}
use Rattle.nb_core.specs.Meaning.{place_of}
use Rattle.nb_core.specs.Plans.{Plan, generations_of, size_of}
use Rattle.nb_core.specs.declared.calls.Call.TheVariants.{Get}
use Rattle.nb_table.specs.Chains.{ChainOf, IsOwn, SeenBy}
use Rattle.nb_map.specs.Logs.{as_replied}
use Rattle.nb_map.specs.Calling.{HasMade}
use Rattle.nb_map.specs.Steps.{get_steps}
use Rattle.nb_map.specs.Steps.{slots_below}
use Rattle.nb_map.specs.inside.Walking.{HasGone}
use Rattle.nb_map.specs.Walks.{IsFirstTable, IsMiss}
use Rattle.nb_map.specs.Steps.{passing_steps, meeting_steps, slots_ahead}
use Rattle.nb_map.specs.declared.steps.walk.Place.{Place}
use Rattle.nb_map.specs.declared.steps.walk.Place.TheVariants.{Slot}
use Rattle.nb_map.proofs.Bounds.{slots-more}
use Rattle.nb_map.proofs.Made.{begins, made-more, made-own, made-within}
use Rattle.nb_map.proofs.Walked.{first-still, gone-more, gone-unread, gone-within, made-as, passed-found, passed-missed, passed-more, passed-slot, passed-still, placed-later}

-- one slot more
slots-add : (from i s : ℕ) → from ≤ i → (i - from) * s + s ≤ (i + 1 - from) * s
slots-add from i s ahead =
    let more : i + 1 - from ≡ suc (i - from) = omega (arith, ahead) in
    let most : (i - from) * s + s ≤ suc (i - from) * s = omega arith in
    subst (λ n. (i - from) * s + s ≤ n * s) (sym more) most

-- ---- one slot

module _ (chain : ChainOf) (first g i : ℕ) (table : g < generations_of chain.shape) where
  abbrev p : Plan
  p = chain.shape

  look-fits : 1 + slots_below p g + get_steps p ≤ meeting_steps p
  look-fits = let below = slots-more p (generations_of p) g (omega (arith, table)) in
      omega (arith, below)

  -- the slot is no key's first place
  pub gone-skipped :
      {before after : SeenBy} → ((k : ℕ) → HasMade p (Get k) before after [] (1 + slots_below p g))
      → ((k : ℕ) → place_of p after.seen first k ≡ Some (g, i) → ⊥)
      → HasGone p before after first (Slot g i) (Slot g (i + 1)) None (meeting_steps p)
  gone-skipped made none =
      gone-within chain (1 + slots_below p g) (meeting_steps p) (omega (arith, look-fits))
      (gone-unread chain made (passed-slot chain first g i none))

  -- its key was read, and found
  pub gone-found :
      {before mid after : SeenBy} {k n : ℕ} → IsOwn chain before
      → ((k : ℕ) → HasMade p (Get k) before mid [] (1 + slots_below p g))
      → place_of p mid.seen first k ≡ Some (g, i)
      → HasMade p (Get k) mid after (as_replied (Get k) (Some n)) (get_steps p)
      → HasGone p before after first (Slot g i) (Slot g (i + 1)) (Some (k, n)) (meeting_steps p)
  gone-found {before} {mid} {after} {k} {n} own made placed read =
      let own' = made-own chain own (made k) in
      let own'' = made-own chain own' read in
      record {
        misses = [];
        missed = All-nil IsMiss;
        made = λ j. made-within (1 + slots_below p g + get_steps p) (meeting_steps p) look-fits
            (made-more chain own (made j) (made-as chain k j read));
        passed = passed-found chain own'' first g i k n
            (placed-later chain mid after own'' (begins read.grown) first k (g, i) placed);
      }

  -- or not found
  pub gone-missed :
      {before mid after : SeenBy} {k : ℕ} → IsOwn chain before → IsFirstTable p before first
      → ((k : ℕ) → HasMade p (Get k) before mid [] (1 + slots_below p g))
      → place_of p mid.seen first k ≡ Some (g, i)
      → HasMade p (Get k) mid after (as_replied (Get k) None) (get_steps p)
      → HasGone p before after first (Slot g i) (Slot g (i + 1)) None (meeting_steps p)
  gone-missed {before} {mid} {after} {k} own is_first made placed read =
      let own' = made-own chain own (made k) in
      let own'' = made-own chain own' read in
      let later = placed-later chain mid after own'' (begins read.grown) first k (g, i) placed in
      record {
        misses = as_replied (Get k) None;
        missed = All-cons IsMiss (Get k, reply_at (Get k) None) [] (k, refl) (All-nil IsMiss);
        made = λ j. made-within (1 + slots_below p g + get_steps p) (meeting_steps p) look-fits
            (made-more chain own (made j) (made-as chain k j read));
        passed = passed-more chain own' own'' (begins (made k).grown) (begins read.grown) first
            (first-still chain own is_first (made k)) (Slot g i) (Slot g i)
            (Slot g (i + 1)) None (passed-still p first (Slot g i))
            (passed-missed chain own' own'' first g i k later read);
      }

  -- the slot after those before it in its table
  pub gone-on :
      {start before after : SeenBy} {shown : Option (ℕ × ℕ)} (from : ℕ) → from ≤ i
      → IsOwn chain start → IsFirstTable p start first
      → HasGone p start before first (Slot g from) (Slot g i) None ((i - from) * meeting_steps p)
      → HasGone p before after first (Slot g i) (Slot g (i + 1)) shown (meeting_steps p)
      → HasGone p start after first (Slot g from) (Slot g (i + 1)) shown
      ((i + 1 - from) * meeting_steps p)
  gone-on from ahead own is_first so_far gone =
      gone-within chain ((i - from) * meeting_steps p + meeting_steps p)
      ((i + 1 - from) * meeting_steps p) (slots-add from i (meeting_steps p) ahead)
      (gone-more chain own is_first so_far gone)

-- what holds anyway holds where something is shown
pub if-shown : {P : Type 0} (shown : Option (ℕ × ℕ)) → P → IfSome shown (λ pair. P)
if-shown None holds = tt
if-shown (Some pair) holds = holds

-- ---- steps

-- a place of a table is one of so many slots
pub slots-within :
    (p : Plan) (g i : ℕ) → g < generations_of p → i ≤ size_of p g
    → slots_below p g + i ≤ slots_below p (generations_of p)
slots-within p g i table within = let most = slots-more p (generations_of p) (suc g) table in
    omega (arith, most, within)

-- there are fewer slots from a later place of a table on
pub slots-fall :
    (p : Plan) (g from to : ℕ) → g < generations_of p → from < to → to ≤ size_of p g
    → slots_ahead p (Slot g to) < slots_ahead p (Slot g from)
slots-fall p g from to table ahead within = let most = slots-within p g to table within in
    omega (arith, most, ahead)

-- The steps along a stretch of a table, and one to its end, are within the bound of a way that
-- leaves it behind.
pub stretch-steps :
    (p : Plan) (g from to : ℕ) (place : Place) → g < generations_of p → from < to → to ≤ size_of p g
    → slots_ahead p place ≤ slots_ahead p (Slot g to)
    → (to - from) * meeting_steps p + 1 ≤ passing_steps p (Slot g from) place
stretch-steps p g from to place table ahead within behind =
    let most = slots-within p g to table within in
    let way : to - from ≤ slots_ahead p (Slot g from) - slots_ahead p place =
    omega (arith, most, ahead, behind) in
    fits (to - from) (slots_ahead p (Slot g from) - slots_ahead p place)
    (slots_below p (generations_of p)) (get_steps p) way (omega (arith, ahead))
  where
    fits : (n m t b : ℕ) → n ≤ m → 1 ≤ n → n * (t + b + 1) + 1 ≤ m * (t + b + 4)
    fits n m t b less some =
        let more = mul-le-mul_right (t + b + 4) less in omega (arith, more, some)

-- ways add up
pub ways-add :
    (p : Plan) (from mid to : Place) → slots_ahead p mid ≤ slots_ahead p from
    → slots_ahead p to ≤ slots_ahead p mid
    → passing_steps p from mid + passing_steps p mid to ≤ passing_steps p from to
ways-add p from mid to first then =
    let c = slots_below p (generations_of p) + get_steps p + 4 in
    let all : slots_ahead p from - slots_ahead p to ≡ (slots_ahead p from - slots_ahead p mid)
    + (slots_ahead p mid - slots_ahead p to) = omega (arith, first, then) in
    subst (λ n. passing_steps p from mid + passing_steps p mid to ≤ n * c) (sym all)
    (sum (slots_ahead p from - slots_ahead p mid) (slots_ahead p mid - slots_ahead p to) c)
  where
    sum : (a b c : ℕ) → a * c + b * c ≤ (a + b) * c
    sum a b c = omega arith
