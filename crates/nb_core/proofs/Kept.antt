-- What the fields of a shape say of its plan.
use Rattle.std.proofs.Common.{◌≡◌, ◌∙◌, ℕ, ◌-◌, ◌^◌, ◌<◌, ◌≤◌, ap, sym, subst, cond, ltb, slice_index, arith}
use Rattle.std.proofs.lemmas.Bool.{lt-ltb}
use Rattle.std.proofs.lemmas.List.{get_or-take, length-take}
use Rattle.std.proofs.lemmas.List.Elements.{All-get_or}
use Rattle.std.proofs.lemmas.List.FromFn.{get_or-map-range_with_len}
use Rattle.nb_core.specs.declared.shapes.Shape.TheInside.{Inside}
use Rattle.nb_core.specs.declared.shapes.TheConstants.{MAX_SEATS, MAX_STRIPES}
use Rattle.nb_core.specs.Plans.{Plan, IsChunk, IsPlan, base_of, generations_of, size_of}
use Rattle.nb_core.specs.Layout.{IsInside, inside_of, kept_bases, kept_exponents, kept_lasts, plan_of}

pub plan-kept : (a : Inside) (p : Plan) → IsInside a → plan_of a ≡ p → IsPlan p
plan-kept a p h e = subst IsPlan e h.plan

-- the fields of a shape with another reprobe limit and chunk are those of a shape
pub inside-tuned :
    (a : Inside) (reprobes chunk : ℕ) → IsInside a → (1 ≤ reprobes) × (reprobes < 2 ^ 32)
    → IsChunk chunk
    → IsInside (record a { reprobes = reprobes; chunk = chunk })
unfolding kept_exponents kept_lasts kept_bases
inside-tuned a reprobes chunk h some is = record {
  plan = record {
    tables = h.plan.tables;
    sizes = h.plan.sizes;
    never_fall = h.plan.never_fall;
    slots = h.plan.slots;
    seats = h.plan.seats;
    stripes = h.plan.stripes;
    reprobes = some;
    chunk = is;
  };
  fields = ap (λ (b : Inside). record b { reprobes = reprobes; chunk = chunk }) h.fields;
}

-- and so are those of one with other numbers of seats and stripes
pub inside-seated :
    (a : Inside) (seats stripes : ℕ) → IsInside a → (1 ≤ seats) × (seats ≤ MAX_SEATS)
    → (1 ≤ stripes) × (stripes ≤ MAX_STRIPES)
    → IsInside (record a { seats = seats; stripes = stripes })
unfolding kept_exponents kept_lasts kept_bases
inside-seated a seats stripes h some striped = record {
  plan = record {
    tables = h.plan.tables;
    sizes = h.plan.sizes;
    never_fall = h.plan.never_fall;
    slots = h.plan.slots;
    seats = some;
    stripes = striped;
    reprobes = h.plan.reprobes;
    chunk = h.plan.chunk;
  };
  fields = ap (λ (b : Inside). record b { seats = seats; stripes = stripes }) h.fields;
}

-- a table's exponent stands where the plan has it
pub exponents-at :
    (a : Inside) (p : Plan) (g : ℕ) → plan_of a ≡ p → g < generations_of p
    → slice_index p.exponents g ≡ slice_index a.exponents g
exponents-at a p g e within =
    let in_table : g < a.generations = omega
    (arith, length-take a.generations a.exponents, ap (λ q. generations_of q) e) in
    ap (λ q. slice_index q.exponents g) (sym e) ∙ get_or-take a.generations a.exponents g 0 in_table

-- and is a small one
pub exponents-few :
    (a : Inside) (p : Plan) (g : ℕ) → IsInside a → plan_of a ≡ p → g < generations_of p
    → slice_index a.exponents g ≤ 28
exponents-few a p g h e within =
    let all = (plan-kept a p h e).sizes in
    subst (λ n. n ≤ 28) (exponents-at a p g e within)
    (All-get_or (λ n. (2 ≤ n) × (n ≤ 28)) p.exponents g 0 within all).1

kept_lasts-at :
    (p : Plan) (g : ℕ) → IsPlan p → g < generations_of p
    → slice_index (kept_lasts p) g ≡ size_of p g - 1
unfolding kept_lasts
kept_lasts-at p g plan within =
    get_or-map-range_with_len (λ k. cond (ltb k (generations_of p)) (size_of p k - 1) 0) 0 16 g g 0
    (omega (arith, plan.tables.1)) (omega arith)
    ∙ ap (λ b. cond b (size_of p g - 1) 0) (lt-ltb g (generations_of p) within)

-- a table's last slot stands where the shape keeps it
pub lasts-at :
    (a : Inside) (p : Plan) (g : ℕ) → IsInside a → plan_of a ≡ p → g < generations_of p
    → slice_index a.lasts g ≡ size_of p g - 1
lasts-at a p g h e within =
    ap (λ (b : Inside). slice_index b.lasts g) (h.fields ∙ ap inside_of e)
    ∙ kept_lasts-at p g (plan-kept a p h e) within

kept_bases-at :
    (p : Plan) (g : ℕ) → IsPlan p → g < generations_of p
    → slice_index (kept_bases p) g ≡ base_of p g
unfolding kept_bases
kept_bases-at p g plan within =
    get_or-map-range_with_len (λ k. cond (ltb k (generations_of p)) (base_of p k) 0) 0 16 g g 0
    (omega (arith, plan.tables.1)) (omega arith)
    ∙ ap (λ b. cond b (base_of p g) 0) (lt-ltb g (generations_of p) within)

-- a table begins where the shape keeps that it does
pub bases-at :
    (a : Inside) (p : Plan) (g : ℕ) → IsInside a → plan_of a ≡ p → g < generations_of p
    → slice_index a.bases g ≡ base_of p g
bases-at a p g h e within =
    ap (λ (b : Inside). slice_index b.bases g) (h.fields ∙ ap inside_of e)
    ∙ kept_bases-at p g (plan-kept a p h e) within
