-- A sample of a table's slots.
use Rattle.std.proofs.Common.{◌≡◌, ℕ, zero, suc, ◌+◌, ◌*◌, ◌%◌, ◌<◌, ◌≤◌, cond, [], refl, subst, sym, arith}
use Rattle.std.proofs.Math.Nat.{le_refl}
use Rattle.std.proofs.lemmas.Nat.{div-add-mod', le-div, mul-add-lt, pow_pos}
use Rattle.nb_core.specs.Laws.{Lasts}
use Rattle.nb_core.specs.Plans.{Plan, generations_of, size_of}
use Rattle.nb_core.specs.Tables.{IsSlot, Tables}
use Rattle.nb_core.specs.declared.states.KeyState.{KeyState}
use Rattle.nb_core.specs.declared.states.KeyState.TheVariants.{Empty, Dead, Claimed}
use Rattle.nb_table.specs.Chains.{ChainOf, Extended, Grown, IsOwn, SeenBy, seen_by}
use Rattle.nb_table.proofs.Theorems.{steps_add_up}
use Rattle.nb_map.specs.Fullness.{SampleIsSpread, block_size, is_taken, sample_size, sampled, taken_among}
use Rattle.nb_map.specs.declared.occupancy.TheConstants.{SPREAD}

-- ---- places

-- a table's sample isn't empty, and has no more slots than the table
pub some-looked : (p : Plan) (g : ℕ) → (0 < sample_size p g) × (sample_size p g ≤ size_of p g)
some-looked p g = let some : 0 < size_of p g = pow_pos _ in (omega (arith, some), omega arith)

-- nor is a block
some-block : (p : Plan) (g : ℕ) → 0 < block_size p g
some-block p g =
    let some = some-looked p g in
    le-div 1 (size_of p g) (sample_size p g) some.0 (omega (arith, some.1))

-- the place in block j is one of the table
pub sampled-within :
    (p : Plan) (g j : ℕ) → j < sample_size p g → sampled p g j < size_of p g
sampled-within p g j within =
    let block = some-block p g in
    let inside : sampled p g j < block_size p g * sample_size p g =
    mul-add-lt j (block_size p g) ((j * SPREAD) % block_size p g) (sample_size p g) within
    (omega (arith, block)) in
    let all = div-add-mod' (size_of p g) (sample_size p g) in
    omega (arith, inside, all)

pub sample_is_spread : SampleIsSpread
sample_is_spread p g j within =
    let block = some-block p g in
    (omega arith, omega (arith, block), sampled-within p g j within)

-- ---- what was taken is so still

-- whether a slot is taken, as a number
abbrev pub mark : KeyState → ℕ
mark state = cond (is_taken state) 1 0

pub mark-lasts :
    (p : Plan) (t u : Tables) → Lasts p t u → (g i : ℕ) → IsSlot p g i
    → mark (t.key g i) ≤ mark (u.key g i)
mark-lasts p t u lasting g i slot = of (t.key g i) refl
  where
    of : (state : KeyState) → t.key g i ≡ state → mark (t.key g i) ≤ mark (u.key g i)
    of Empty is = subst (λ s. mark s ≤ mark (u.key g i)) (sym is) (omega arith)
    of Dead is =
        let still = lasting.dead g i slot is in
        subst (λ s. mark (t.key g i) ≤ mark s) (sym still)
        (subst (λ s. mark s ≤ 1) (sym is) (le_refl 1))
    of (Claimed k) is =
        let still = lasting.claimed g i k slot is in
        subst (λ s. mark (t.key g i) ≤ mark s) (sym still)
        (subst (λ s. mark s ≤ 1) (sym is) (le_refl 1))

pub among-lasts :
    (p : Plan) (t u : Tables) → Lasts p t u → (g : ℕ) → g < generations_of p → (n : ℕ)
    → n ≤ sample_size p g
    → taken_among p t g n ≤ taken_among p u g n
among-lasts p t u lasting g table zero within = le_refl 0
among-lasts p t u lasting g table (suc n) within =
    let rest = among-lasts p t u lasting g table n (omega (arith, within)) in
    let one = mark-lasts p t u lasting g (sampled p g n)
    (table, sampled-within p g n (omega (arith, within))) in
    omega (arith, rest, one)

-- ---- one more slot

pub record IsCounting (p : Plan) (before now : SeenBy) (g n taken : ℕ) : Type 0 where
  pub grown : Grown p before now [] n
  pub least : taken_among p (seen_by p before) g n ≤ taken
  pub most : taken ≤ taken_among p (seen_by p now) g n
  pub few : taken ≤ n

-- after one more
pub counting-more :
    (chain : ChainOf) {before now after : SeenBy} (g n taken more : ℕ) → IsOwn chain before
    → g < generations_of chain.shape → n < sample_size chain.shape g
    → IsCounting chain.shape before now g n taken → Extended chain.shape now after [] 1
    → more ≡ mark ((seen_by chain.shape after).key g (sampled chain.shape g n))
    → IsCounting chain.shape before after g (n + 1) (taken + more)
counting-more chain {before} {now} {after} g n taken more own table within counted step is =
    subst (λ m. IsCounting p before after g m (taken + more)) one (record {
      grown = subst (λ m. Grown p before after [] m) (sym one) grown;
      least =
          let first = mark-lasts p (seen_by p before) (seen_by p after) from_first g
          (sampled p g n) slot in
          let so_far = counted.least in
          omega (arith, first, so_far, is);
      most =
          let rest = among-lasts p (seen_by p now) (seen_by p after) from_now g table n
          (omega (arith, within)) in
          let so_far = counted.most in
          omega (arith, rest, so_far, is);
      few =
          let so_far = counted.few in
          let low = mark-low ((seen_by p after).key g (sampled p g n)) in
          omega (arith, so_far, low, is);
    })
  where
    p : Plan
    p = chain.shape

    one : suc n ≡ n + 1
    one = omega arith

    slot : IsSlot p g (sampled p g n)
    slot = (table, sampled-within p g n within)

    grown : Grown p before after [] (n + 1)
    grown = steps_add_up.more counted.grown (steps_add_up.one step)

    from_first : Lasts p (seen_by p before) (seen_by p after)
    from_first = steps_add_up.stays own grown

    from_now : Lasts p (seen_by p now) (seen_by p after)
    from_now = steps_add_up.stays (steps_add_up.own own counted.grown) (steps_add_up.one step)

    mark-low : (state : KeyState) → mark state ≤ 1
    mark-low Empty = omega arith
    mark-low Dead = le_refl 1
    mark-low (Claimed k) = le_refl 1
