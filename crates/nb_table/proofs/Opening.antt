-- The rule of a chain at its start, and where one token's view changes while the words don't.
use Rattle.std.proofs.Common.{◌≡◌, ◌∙◌, ℕ, zero, suc, ◌+◌, ◌<◌, ◌≤◌, ap, sym, subst, refl, cond, eqb, List, [], ◌∷◌, ◌++◌, length, map, replicate, slice_set, All, arith}
use Rattle.std.specs.List.{Contains, range_with_len}
use Rattle.std.specs.List.Sorted.{IsPermutation}
use Rattle.std.proofs.lemmas.List.{append-nil, length-replicate, take-append-drop}
use Rattle.std.proofs.lemmas.List.Elements.{All-cons, All-nil, All-push, All-same, All-set}
use Rattle.std.proofs.lemmas.List.FromFn.{length-map-range_with_len}
use Rattle.std.proofs.lemmas.List.Sorted.{All-permutation, Contains-permutation, length_permutation, sum_by-IsPermutation}
use Rattle.std.proofs.lemmas.List.Sums.{sum_by-cons}
use Rattle.atomic_table.specs.Table.{Splits, opening}
use Rattle.nb_core.proofs.Seating.{All-at, All-numbered, All-of-one, all-split, numbered-once}
use Rattle.nb_core.specs.Plans.{Plan, word_count}
use Rattle.nb_core.specs.declared.events.Event.{Event}
use Rattle.nb_core.specs.Log.{IsBeginning}
use Rattle.nb_table.specs.Views.{IsChained, Moment, all_parts, all_steps, first_part, first_view, new_part, new_parts, other_parts, parts_at, steps_at}
use Rattle.nb_table.specs.declared.view.Part.{Part}
use Rattle.nb_table.specs.declared.view.View.{View}
use Rattle.nb_table.proofs.Parted.{Fits, IsTold, times_among}

-- ---- the start

-- a seat that has seen nothing fits the empty history
fits-none : (n : ℕ) → Fits [] (new_part n)
fits-none n = record { later = []; is = refl; others = All-nil _ }

-- none of them has made a step
none-made : (first count : ℕ) → all_steps (map new_part (range_with_len first count)) ≡ 0
none-made first zero = refl
none-made first (suc count) =
    omega (
      arith,
      sum_by-cons (λ part. part.steps) (new_part first)
          (map new_part (range_with_len (first + 1) count)),
      none-made (first + 1) count,
    )

-- one of them is the first
has-first : (count : ℕ) → 1 ≤ count → Contains (new_parts count) (new_part 0)
has-first zero some = absurd (omega arith)
has-first (suc count) some = (0, omega arith, refl)

-- all words 0, and nothing seen
pub opens :
    (p : Plan) (words : List ℕ) → 1 ≤ p.seats → words ≡ replicate (word_count p) 0
    → IsChained p (opening words [] (first_view p.seats))
opens p words some zeros =
    let parts : all_parts (first_view p.seats ∷ []) ≡ new_parts p.seats
    = append-nil (new_parts p.seats) in
    let made : all_steps (all_parts (first_view p.seats ∷ [])) ≡ 0 = ap all_steps parts
    ∙ none-made 0 p.seats in
    let all : (P : Part → Type 0) → ((n : ℕ) → n < p.seats → P (new_part n))
    → All P (all_parts (first_view p.seats ∷ []))
    = λ P each. All-same P _ _ parts
    (All-numbered P new_part 0 p.seats (λ n low high. each n (omega arith))) in
    record {
      history = [];
      legal = tt;
      words = zeros;
      seen = all (Fits []) (λ n within. fits-none n);
      told = All-cons (IsTold []) (first_view p.seats) [] (All-nil (λ seen. IsBeginning seen []))
          (All-nil (IsTold []));
      steps = all (λ part. part.last_step ≤ all_steps (all_parts (first_view p.seats ∷ [])))
          (λ n within. omega arith);
      last = (
        new_part 0,
        subst (λ all. Contains all (new_part 0)) (sym parts)
            (has-first p.seats some),
        sym made,
        refl,
      );
      numbers = all (λ part. part.number < p.seats) (λ n within. within);
      once = λ n within.
          ap (times_among n) parts
          ∙ numbered-once new_part (λ part. part.number) (λ m. refl) n p.seats within;
      count = ap length parts ∙ length-map-range_with_len new_part 0 p.seats;
    }

-- as many words as the chain has, which are some
pub count-words :
    (p : Plan) (words : List ℕ) → words ≡ replicate (word_count p) 0 → length words ≡ word_count p
count-words p words zeros = ap length zeros ∙ length-replicate (word_count p) 0

pub some-words : (p : Plan) → 0 < word_count p
some-words p = omega arith

-- ---- a view cut in two

-- The rule doesn't see which token has a part: it is kept where all tokens together have the same
-- parts, and were told of beginnings.
pub kept :
    (p : Plan) (s : Moment) (views : List View) → (rule : IsChained p s)
    → IsPermutation (parts_at s) (all_parts views)
    → All (IsTold rule.history) views → IsChained p record {
      words = s.words;
      homes =
          s.homes;
      views = views;
    }
kept p s views rule are told = record {
  history = rule.history;
  legal = rule.legal;
  words = rule.words;
  seen = All-permutation (Fits rule.history) (parts_at s) (all_parts views) are rule.seen;
  told = told;
  steps =
      subst (λ n. All (λ part. part.last_step ≤ n) (all_parts views)) made
      (All-permutation (λ part. part.last_step ≤ steps_at s) (parts_at s) (all_parts views)
      are rule.steps);
  last =
      let last = rule.last in (
        last.0,
        Contains-permutation (parts_at s) (all_parts views) last.0 are last.1,
        last.2
            ∙ made,
        last.3,
      );
  numbers = All-permutation (λ part. part.number < p.seats) (parts_at s) (all_parts views)
      are rule.numbers;
  once = λ n within.
      sum_by-IsPermutation (λ part. cond (eqb part.number n) 1 0) (parts_at s) (all_parts views) are
      ∙ rule.once n within;
  count = length_permutation (parts_at s) (all_parts views) are ∙ rule.count;
}
  where
    made : steps_at s ≡ all_steps (all_parts views)
    made = sym (sum_by-IsPermutation (λ part. part.steps) (parts_at s) (all_parts views) are)

-- A token gives some of its parts away, and tells of lists that are beginnings.
pub split-keeps :
    (p : Plan) (id : ℕ) (v left right : View) → v.parts ≡ right.parts ++ left.parts
    → ((h : List Event) → All (Fits h) v.parts → IsTold h v → IsTold h left × IsTold h right)
    → Splits (IsChained p) id v left right
split-keeps p id v left right parts hears s rule at =
    let views = slice_set s.views id left in
    let told = hears rule.history
    (All-of-one (λ view. view.parts) (Fits rule.history) s.views id v at rule.seen)
    (All-at (IsTold rule.history) s.views id v at rule.told) in
    kept p s (views ++ right ∷ []) rule
    (all-split (λ view. view.parts) s.views id v left right at parts)
    (All-push (IsTold rule.history) views right
    (All-set (IsTold rule.history) s.views id left told.0 rule.told) told.1)

-- the first part goes to a new token
pub deals :
    (p : Plan) (id : ℕ) (v : View) → Splits (IsChained p) id v (other_parts v) (first_part v)
deals p id v =
    split-keeps p id v (other_parts v) (first_part v) (sym (take-append-drop 1 v.parts))
    (λ h fits told. (told, All-nil _))
