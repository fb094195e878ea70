-- Each step keeps the rule of the words.
use Rattle.std.proofs.Common.{◌≡◌, ◌≢◌, ◌∙◌, ℕ, ◌+◌, ◌<◌, ◌≤◌, ap, sym, subst, refl, cond, eqb, List, [], ◌∷◌, ◌++◌, slice_index, slice_index_or, slice_set, arith}
use mathlib.Core.Option.{some}
use lib.ListN.{get_elem?}
use Rattle.std.specs.List.{All}
use Rattle.std.specs.List.Sorted.{IsPermutation}
use Rattle.std.proofs.lemmas.Bool.{eq-eqb}
use Rattle.std.proofs.lemmas.List.{append_assoc}
use Rattle.std.proofs.lemmas.List.Elements.{All-append, All-cons, All-head, All-nil, All-set, All-tail, All-weaker}
use Rattle.std.proofs.lemmas.List.Sorted.{All-permutation, Contains-permutation, length_permutation, sum_by-IsPermutation}
use Rattle.std.proofs.lemmas.List.Sums.{sum_by-cons}
use Rattle.atomic_table.specs.Table.{Allows, Me, keeps, stepped}
use Rattle.nb_core.proofs.Seating.{All-at, Apart, apart, back}
use Rattle.nb_core.specs.Plans.{Plan, IsPlan}
use Rattle.nb_core.specs.Tables.{words_of}
use Rattle.nb_core.specs.History.{IsLegal, seat_of_event}
use Rattle.nb_core.specs.declared.events.Event.{Event}
use Rattle.nb_table.specs.Inside.{part_of}
use Rattle.nb_table.specs.Steps.{Can, MayStep}
use Rattle.nb_core.specs.Log.{IsBeginning}
use Rattle.nb_table.specs.Views.{HasMoved, IsChained, Moment, Moves, all_parts, all_steps, moved, parts_at, steps_at}
use Rattle.nb_table.specs.declared.view.Part.{Part}
use Rattle.nb_table.specs.declared.view.View.{View}
use Rattle.nb_table.proofs.Parted.{Fits, IsTold, times-cons, times_among}

-- ---- one part among others

-- a seat's own part counts one
counted-once : (m n : ℕ) → m ≡ n → ◌≡◌ {A = ℕ} (cond (eqb m n) 1 0) 1
counted-once m n same = ap (λ b. cond b 1 0) (eq-eqb m n same)

-- a number that isn't counted among parts is none of theirs
all-differ :
    (n : ℕ) (parts : List Part) → times_among n parts ≡ 0 → All (λ part. part.number ≢ n) parts
all-differ n [] never = All-nil (λ part. part.number ≢ n)
all-differ n (part ∷ parts) never =
    let first = times-cons n part parts in
    let differs : part.number ≢ n = λ same. absurd
    (omega (arith, never, first, counted-once part.number n same)) in
    All-cons (λ q. q.number ≢ n) part parts differs
    (all-differ n parts (omega (arith, never, first)))

-- a token knows one part alone
first-same : (part other : Part) → part ∷ [] ≡ other ∷ [] → part ≡ other
first-same part other is = ap part_of is

-- ---- a longer history

-- a seat that made none of the new events fits the longer history
fits-more :
    (history own : List Event) (part : Part) → All (λ e. seat_of_event e ≢ part.number) own
    → Fits history part
    → Fits (own ++ history) part
fits-more history own part others f = record {
  later = own ++ f.later;
  is = ap (λ h. own ++ h) f.is ∙ sym (append_assoc own f.later part.seen);
  others = All-append (λ e. seat_of_event e ≢ part.number) own f.later others f.others;
}

-- what were beginnings still are
beginnings-more :
    (history own : List Event) (v : View) → IsTold history v → IsTold (own ++ history) v
beginnings-more history own v =
    All-weaker (λ seen. IsBeginning seen history) (λ seen. IsBeginning seen (own ++ history))
    (λ seen b. record {
      later = own ++ b.later;
      is = ap (λ h. own ++ h) b.is ∙ sym (append_assoc own b.later seen);
    }) v.told

-- ---- a step

abbrev HasNumber : Plan → Part → Type 0
HasNumber p part = part.number < p.seats

module _
    (p : Plan) (s : Moment) (rule : IsChained p s) (id : ℕ) (v : View) (part : Part)
    (at : get_elem? s.views id ≡ some v) (one : v.parts ≡ part ∷ []) where
  -- the token's part, and all others
  there : Apart (λ view. view.parts) s.views id v
  there = apart (λ view. view.parts) s.views id v at

  are : IsPermutation (parts_at s) (part ∷ there.rest)
  are = subst (λ parts. IsPermutation (parts_at s) (parts ++ there.rest)) one there.is

  every : (P : Part → Type 0) → All P (parts_at s) → All P (part ∷ there.rest)
  every P = All-permutation P (parts_at s) (part ∷ there.rest) are

  -- what the rule says of the token's part
  fit : Fits rule.history part
  fit = All-head (Fits rule.history) part there.rest (every (Fits rule.history) rule.seen)

  number : HasNumber p part
  number = All-head (HasNumber p) part there.rest (every (HasNumber p) rule.numbers)

  stepped-before : part.last_step ≤ steps_at s
  stepped-before =
      let P : Part → Type 0 = λ part. part.last_step ≤ steps_at s in
      All-head P part there.rest (every P rule.steps)

  -- no other part is of the same seat
  others-differ : All (λ other. other.number ≢ part.number) there.rest
  others-differ =
      let all = sum_by-IsPermutation (λ q. cond (eqb q.number part.number) 1 0) (parts_at s)
      (part ∷ there.rest) are in
      let first = times-cons part.number part there.rest in
      all-differ part.number there.rest
      (omega (
        arith,
        all,
        first,
        counted-once part.number part.number refl,
        rule.once part.number number,
      ))

  module _ (own : List Event) (index new : ℕ)
      (may : MayStep p own part.number index new (fit.later ++ part.seen)) where
    -- the history after the step, seen from the seat
    longer : own ++ rule.history ≡ own ++ (fit.later ++ part.seen)
    longer = ap (λ h. own ++ h) fit.is

    -- the part and the views after the step
    abbrev part' : Part
    part' = moved part fit.later own (steps_at s + 1)

    abbrev views' : List View
    views' = slice_set s.views id (record { parts = part' ∷ []; told = [] })

    are' : IsPermutation (part' ∷ there.rest) (all_parts views')
    are' = back (there.after (record { parts = part' ∷ []; told = [] }))

    -- it is one step more
    one-more : all_steps (all_parts views') ≡ steps_at s + 1
    one-more =
        let made = λ (q : Part). q.steps in
        omega (
          arith,
          sum_by-IsPermutation made (part' ∷ there.rest) (all_parts views') are',
          sum_by-cons made part' there.rest,
          sum_by-cons made part there.rest,
          sum_by-IsPermutation made (parts_at s) (part ∷ there.rest) are,
        )

    -- what holds of the part now, and held of all parts but for it, holds of all
    every' : (P : Part → Type 0) → P part' → All P there.rest → All P (all_parts views')
    every' P here others =
        All-permutation P (part' ∷ there.rest) (all_parts views') are'
        (All-cons P part' there.rest here others)

    others : (P : Part → Type 0) → All P (parts_at s) → All P there.rest
    others P all = All-tail P part there.rest (every P all)

    -- the seat has seen all of the history
    part-fits : Fits (own ++ rule.history) part'
    part-fits = record {
      later = [];
      is = longer;
      others =
          All-nil (λ e. seat_of_event e ≢ part.number);
    }

    -- and the others fit it as before
    others-fit : All (Fits (own ++ rule.history)) there.rest
    others-fit k d below =
        let other = slice_index_or there.rest k d in
        fits-more rule.history own other (λ j e within same. others-differ k d below
        (sym same ∙ may.mine j e within))
        (others (Fits rule.history) rule.seen k d below)

    -- a seat's events, which make of the words what the step makes of its word, keep the rule
    step-keeps : IsChained p (stepped s index new id [] (record { parts = part' ∷ []; told = [] })
        keeps)
    step-keeps = record {
      history = own ++ rule.history;
      legal = subst (IsLegal p) (sym longer) may.legal;
      words =
          ap (λ w. slice_set w index new) (rule.words ∙ ap (words_of p) fit.is) ∙ sym may.words
          ∙ ap (words_of p) (sym longer);
      seen = every' (Fits (own ++ rule.history)) part-fits others-fit;
      told =
          All-set (IsTold (own ++ rule.history)) s.views id
          (record { parts = part' ∷ []; told = [] })
          (All-nil (λ seen. IsBeginning seen (own ++ rule.history)))
          (All-weaker (IsTold rule.history) (IsTold (own ++ rule.history))
          (beginnings-more rule.history own) s.views rule.told);
      steps =
          let within = λ (n : ℕ) (q : Part). q.last_step ≤ n in
          subst (λ n. All (within n) (all_parts views')) (sym one-more)
          (every' (within (steps_at s + 1)) (omega arith)
          (All-weaker (within (steps_at s)) (within (steps_at s + 1))
          (λ q less. omega (arith, less)) there.rest
          (others (within (steps_at s)) rule.steps)));
      last = (
        part',
        Contains-permutation (part' ∷ there.rest) (all_parts views') part' are'
            (0, omega arith, refl),
        sym one-more,
        sym longer,
      );
      numbers = every' (HasNumber p) number (others (HasNumber p) rule.numbers);
      once = λ n below.
          let is = λ (q : Part). cond {A = ℕ} (eqb q.number n) 1 0 in
          omega (
            arith,
            sum_by-IsPermutation is (part' ∷ there.rest) (all_parts views') are',
            times-cons n part' there.rest,
            times-cons n part there.rest,
            sum_by-IsPermutation is (parts_at s) (part ∷ there.rest) are,
            rule.once n below,
          );
      count = omega (
        arith,
        length_permutation (part' ∷ there.rest) (all_parts views') are',
        length_permutation (parts_at s) (part ∷ there.rest) are,
        rule.count,
      );
    }

-- what each step asks: whatever others do first, its events may follow, and make of the words what
-- the step makes of its word
pub allows-step :
    (p : Plan) → IsPlan p
    → (events : ℕ → List Event) (slots id : ℕ) (me : Me (Unit {0}) View) (part : Part) (index : ℕ)
    (f : ℕ → ℕ)
    → me.0.parts ≡ part ∷ [] → Can p events part.number part.seen index f
    → Allows (IsChained p) slots id me index f (Moves p events index me)
allows-step p plan events slots id me part index f one can s rule homes at word =
    let found = slice_index s.words index in
    let seen = fit p s rule id me.0 part at one in
    let later = seen.later in
    let same : slice_index (words_of p (later ++ part.seen)) index ≡ found
    = ap (λ w. slice_index w index) (sym (rule.words ∙ ap (words_of p) seen.is)) in
    let may = subst (λ n. MayStep p (events n) part.number index (f n) (later ++ part.seen)) same
    (can plan (number p s rule id me.0 part at one) later seen.others
    (subst (IsLegal p) seen.is rule.legal)) in
    let after = moved part later (events found) (steps_at s + 1) in
    let tells : HasMoved p events index found part after
    = record {
      others = later;
      not_own = seen.others;
      mine = may.mine;
      legal = may.legal;
      word = same;
      step = steps_at s + 1;
      later = omega (arith, stepped-before p s rule id me.0 part at one);
      is = refl;
    } in (
      record { parts = after ∷ []; told = [] },
      keeps,
      tt,
      step-keeps p s rule id me.0 part at one (events found) index (f found) may,
      record {
        after = after;
        is = refl;
        moves = λ q is. subst (λ r. HasMoved p events index found r after)
            (first-same part q (sym one ∙ is)) tells;
        heard =
            subst (λ h. All (λ seen. IsBeginning seen h) me.0.told)
            (longer p s rule id me.0 part at one (events found) index (f found) may)
            (beginnings-more rule.history (events found) me.0
            (All-at (IsTold rule.history) s.views id me.0 at rule.told));
      },
    )
