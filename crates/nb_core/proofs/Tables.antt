-- The tables of a chain: how large they are, and where they lie, one after another.
use Rattle.std.proofs.Common.{◌≡◌, ℕ, ◌+◌, ◌*◌, ◌/◌, ◌^◌, ◌<◌, ◌≤◌, min, suc, take, ap, refl, arith, inl, inr, eqb, cond, Bool, true, false, add-one}
use Rattle.std.specs.List.{sum_by}
use Rattle.std.proofs.Math.Nat.{le-min, le_trans, min-le_right}
use Rattle.std.proofs.Math.Pow.{pow_mono}
use Rattle.std.proofs.lemmas.Bool.{cases_order}
use Rattle.std.proofs.lemmas.List.{take-take}
use Rattle.std.proofs.lemmas.List.Sums.{sum_by_more, sum_by-take-le}
use Rattle.nb_core.specs.Plans.{Plan, IsPlan, Word, Top, Header, Key, Value, IsWord, LimitsFit, IndicesAreDistinct, SizesNeverFall, index_of_word, base_of, generations_of, size_of, table_words, word_count}

-- a table begins where the one before it ends
base_of-suc :
    (p : Plan) (g : ℕ) → g < generations_of p
    → base_of p (suc g) ≡ base_of p g + 3 + 2 * size_of p g
base_of-suc p g within =
    rw (← add-one g) (omega (arith, sum_by_more table_words p.exponents g 0 within))

-- no table begins before an earlier one
pub base_of-le : (p : Plan) (g h : ℕ) → g ≤ h → base_of p g ≤ base_of p h
base_of-le p g h below =
    omega (
      arith,
      sum_by-take-le table_words (take h p.exponents) g,
      ap (sum_by table_words) (take-take g h p.exponents below),
    )

-- a table ends before a later one begins
base_of-end :
    (p : Plan) (g h : ℕ) → g < generations_of p → g < h
    → base_of p g + 3 + 2 * size_of p g ≤ base_of p h
base_of-end p g h within below = omega (
  arith,
  base_of-suc p g within,
  base_of-le p (suc g) h (omega arith),
)

-- words in one place are in one table, and in one place of it
same_table :
    (p : Plan) (g h m n : ℕ) → g < generations_of p → h < generations_of p → m < 3 + 2 * size_of p g
    → n < 3 + 2 * size_of p h → base_of p g + m ≡ base_of p h + n → (g ≡ h) × (m ≡ n)
same_table p g h m n g_within h_within m_within n_within same =
    elim (cases_order g h) [
      | inl e ↦ (e, omega (arith, ap (base_of p) e))
      | inr (inl below) ↦ absurd (omega (arith, base_of-end p g h g_within below))
      | inr (inr above) ↦ absurd (omega (arith, base_of-end p h g h_within above))
    ]

distinct :
    (p : Plan) (a b : Word) → IsWord p a → IsWord p b → index_of_word p a ≡ index_of_word p b
    → a ≡ b
distinct p Top Top _ _ _ = refl
distinct p Top (Header g h) _ _ same = absurd (omega arith)
distinct p Top (Key g i) _ _ same = absurd (omega arith)
distinct p Top (Value g i) _ _ same = absurd (omega arith)
distinct p (Header g h) Top _ _ same = absurd (omega arith)
distinct p (Key g i) Top _ _ same = absurd (omega arith)
distinct p (Value g i) Top _ _ same = absurd (omega arith)
distinct p (Header g h) (Header k j) v w same =
    let t = same_table p g k h j v.0 w.0 (omega arith) (omega arith) same in cc
distinct p (Header g h) (Key k j) v w same =
    let t = same_table p g k h (3 + 2 * j) v.0 w.0 (omega arith) (omega arith) (omega arith) in
    absurd (omega arith)
distinct p (Header g h) (Value k j) v w same =
    let t = same_table p g k h (4 + 2 * j) v.0 w.0 (omega arith) (omega arith) (omega arith) in
    absurd (omega arith)
distinct p (Key g i) (Header k j) v w same =
    let t = same_table p g k (3 + 2 * i) j v.0 w.0 (omega arith) (omega arith) (omega arith) in
    absurd (omega arith)
distinct p (Key g i) (Key k j) v w same =
    let t = same_table p g k (3 + 2 * i) (3 + 2 * j) v.0 w.0 (omega arith) (omega arith)
    (omega arith) in
    let e : i ≡ j = omega arith in cc
distinct p (Key g i) (Value k j) v w same =
    let t = same_table p g k (3 + 2 * i) (4 + 2 * j) v.0 w.0 (omega arith) (omega arith)
    (omega arith) in absurd (omega arith)
distinct p (Value g i) (Header k j) v w same =
    let t = same_table p g k (4 + 2 * i) j v.0 w.0 (omega arith) (omega arith) (omega arith) in
    absurd (omega arith)
distinct p (Value g i) (Key k j) v w same =
    let t = same_table p g k (4 + 2 * i) (3 + 2 * j) v.0 w.0 (omega arith) (omega arith)
    (omega arith) in absurd (omega arith)
distinct p (Value g i) (Value k j) v w same =
    let t = same_table p g k (4 + 2 * i) (4 + 2 * j) v.0 w.0 (omega arith) (omega arith)
    (omega arith) in
    let e : i ≡ j = omega arith in cc

below : (p : Plan) (a : Word) → IsWord p a → index_of_word p a < word_count p
below p Top _ = omega arith
below p (Header g h) w = omega (arith, base_of-end p g (generations_of p) w.0 w.0)
below p (Key g i) w = omega (arith, base_of-end p g (generations_of p) w.0 w.0)
below p (Value g i) w = omega (arith, base_of-end p g (generations_of p) w.0 w.0)

pub indices_are_distinct : IndicesAreDistinct
indices_are_distinct p _ = record { distinct = distinct p; below = below p }

pub sizes_never_fall : SizesNeverFall
sizes_never_fall p plan g within = pow_mono (plan.never_fall g (suc g) 0 (omega arith) within)

-- a table has four slots at least
pub four-le-size_of : (p : Plan) (g : ℕ) → IsPlan p → g < generations_of p → 4 ≤ size_of p g
four-le-size_of p g plan within =
    let sizes = plan.sizes g 0 within in
    let least : 2 ^ 2 ≤ size_of p g = pow_mono sizes.0 in omega arith

limit-fits :
    (last : Bool) (reprobes n : ℕ) → 1 ≤ reprobes → 4 ≤ n
    → (1 ≤ cond last n (min reprobes (2 + n / 4))) × (cond last n (min reprobes (2 + n / 4)) ≤ n)
limit-fits true reprobes n some least = (omega arith, omega arith)
limit-fits false reprobes n some least = (
  le-min some (omega arith),
  le_trans (min-le_right reprobes (2 + n / 4)) (omega (arith, least)),
)

pub limits_fit : LimitsFit
limits_fit p plan g within =
    limit-fits (eqb (suc g) (generations_of p)) p.reprobes (size_of p g) plan.reprobes.0
    (four-le-size_of p g plan within)
