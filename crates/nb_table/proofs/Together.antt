-- All seats see one history: a load by a token that has all parts, which are given back one after
-- another.
use Rattle.std.proofs.Common.{◌≡◌, ◌∙◌, ℕ, zero, suc, ◌<◌, ◌≤◌, cond, eqb, ap, sym, subst, refl, List, [], ◌∷◌, ◌++◌, length, length-append, map, slice_index, slice_index_or, slice_set, take, All, arith}
use mathlib.Core.Option.{some}
use lib.ListN.{get_elem?}
use Rattle.std.specs.List.{Contains, count_by}
use Rattle.std.specs.List.Sorted.{IsPermutation}
use Rattle.std.proofs.lemmas.List.{append-nil, length-map, map-append, nil_from_length, set-get_or}
use Rattle.std.proofs.lemmas.List.Elements.{All-head, All-map, All-nil, All-push, All-same, All-set, All-tail, All-weaker}
use Rattle.std.proofs.lemmas.List.Sorted.{All-permutation, Contains-permutation, IsPermutation-map, length_permutation, sum_by-IsPermutation}
use Rattle.std.proofs.lemmas.List.Sums.{sum_by-append, sum_by-cons}
use Rattle.atomic_table.specs.Table.{Allows, Me, keeps, stepped}
use Rattle.nb_core.proofs.Seating.{all-there, and_then, apart, back, count-map}
use Rattle.nb_core.specs.Plans.{Plan}
use Rattle.nb_core.specs.Log.{IsBeginning}
use Rattle.nb_core.specs.declared.events.Event.{Event}
use Rattle.nb_table.specs.Chains.{AreOwn, ChainOf, IsOwn, SeenBy}
use Rattle.nb_table.specs.Inside.{IsSeat, part_of, seat_of, seat_with}
use Rattle.nb_table.specs.Settling.{Settled, caught_up}
use Rattle.nb_table.specs.Together.{HaveSettled, Settles, knowing, with_seen}
use Rattle.nb_table.specs.Views.{HasSeen, IsChained, Moment, all_parts, all_steps, first_part, joined_views, other_parts, parts_at, spent_view, steps_at}
use Rattle.nb_table.specs.declared.chain.ChainSeat.TheInside as seat
use Rattle.nb_table.specs.declared.view.Part.{Part}
use Rattle.nb_table.specs.declared.view.View.{View}
use Rattle.nb_table.proofs.Parted.{Fits, IsTold, times-cons, times_among}

-- ---- the load

-- no seat makes a step by it
steps-stay : (h : List Event) (parts : List Part)
    → all_steps (map (with_seen h) parts) ≡ all_steps parts
steps-stay h [] = refl
steps-stay h (part ∷ parts) =
    omega (
      arith,
      sum_by-cons (λ (q : Part). q.steps) (with_seen h part) (map (with_seen h) parts),
      sum_by-cons (λ (q : Part). q.steps) part parts,
      steps-stay h parts,
    )

-- a list's element is mapped with it
contains-map :
    {X Y : Type 0} (f : X → Y) (xs : List X) (x : X) → Contains xs x → Contains (map f xs) (f x)
contains-map f [] x has = absurd (omega (arith, has.1))
contains-map f (y ∷ ys) x (zero, below, same) = (0, omega arith, ap f same)
contains-map f (y ∷ ys) x (suc k, below, same) =
    let there = contains-map f ys x (k, omega (arith, below), same) in
    (suc there.0, omega (arith, there.1), there.2)

-- the rule, where one token has all parts and each of them now has seen the history
module _
    (p : Plan) (s : Moment) (rule : IsChained p s) (id : ℕ) (v : View)
    (at : get_elem? s.views id ≡ some v) (all : length v.parts ≡ p.seats) where
  -- it has all parts
  are : IsPermutation (parts_at s) v.parts
  are = all-there (λ view. view.parts) s.views id v at (rule.count ∙ sym all)

  abbrev view' : View
  view' = record { parts = map (with_seen rule.history) v.parts; told = [] }

  abbrev views' : List View
  views' = slice_set s.views id view'

  -- and all but it have none, then too
  are' : IsPermutation (map (with_seen rule.history) (parts_at s)) (all_parts views')
  are' =
      let f = with_seen rule.history in
      let there = apart (λ view. view.parts) s.views id v at in
      let none = nil_from_length there.rest (omega (
        arith,
        length_permutation (parts_at s) (v.parts ++ there.rest) there.is,
        length-append v.parts there.rest,
        rule.count,
        all,
      )) in
      let alone : map f v.parts ++ there.rest ≡ map f v.parts
      = ap (λ rest. map f v.parts ++ rest) none ∙ append-nil (map f v.parts) in
      and_then (IsPermutation-map f (parts_at s) v.parts are)
      (back (subst (IsPermutation (all_parts views')) alone (there.after view')))

  settle-keeps : IsChained p (stepped s 0 (slice_index s.words 0) id [] view' keeps)
  settle-keeps = record {
    history = rule.history;
    legal = rule.legal;
    words = set-get_or s.words 0 0 ∙ rule.words;
    seen = every (Fits rule.history)
        (λ part. record { later = []; is = refl; others = All-nil _ });
    told =
        All-set (IsTold rule.history) s.views id view'
        (All-nil (λ seen. IsBeginning seen rule.history)) rule.told;
    steps =
        subst (λ n. All (λ part. part.last_step ≤ n) (all_parts views')) made
        (over (λ part. part.last_step ≤ steps_at s) rule.steps);
    last =
        let last = rule.last in (
          with_seen rule.history last.0,
          Contains-permutation (map (with_seen rule.history) (parts_at s)) (all_parts views')
              (with_seen rule.history last.0) are'
              (contains-map (with_seen rule.history) (parts_at s) last.0 last.1),
          last.2 ∙ made,
          refl,
        );
    numbers = over (λ part. part.number < p.seats) rule.numbers;
    once = λ n below.
        sum_by-IsPermutation (λ (part : Part). cond (eqb part.number n) 1 0)
        (map (with_seen rule.history) (parts_at s)) (all_parts views') are'
        ∙ count-map (λ (part : Part). eqb part.number n) (with_seen rule.history) (parts_at s)
        ∙ rule.once n below;
    count =
        length_permutation (map (with_seen rule.history) (parts_at s)) (all_parts views') are'
        ∙ length-map (parts_at s) (with_seen rule.history) ∙ rule.count;
  }
    where
      made : steps_at s ≡ all_steps (all_parts views')
      made =
          sym (steps-stay rule.history (parts_at s))
          ∙ sym (sum_by-IsPermutation (λ (part : Part). part.steps)
          (map (with_seen rule.history) (parts_at s)) (all_parts views') are')

      -- what holds of each part that has seen all
      over : (P : Part → Type 0) → All (λ part. P (with_seen rule.history part)) (parts_at s)
          → All P (all_parts views')
      over P each =
          All-permutation P (map (with_seen rule.history) (parts_at s)) (all_parts views') are'
          (All-map P (with_seen rule.history) (parts_at s) each)

      every : (P : Part → Type 0) → ((part : Part) → P (with_seen rule.history part))
          → All P (all_parts views')
      every P each = over P (λ k d below. each (slice_index_or (parts_at s) k d))

-- what the load asks
pub allows-settle :
    (p : Plan) (slots id : ℕ) (me : Me (Unit {0}) View) → me.1 ≡ []
    → length me.0.parts ≡ p.seats
    → Allows (IsChained p) slots id me 0 (λ n. n) (Settles p me)
allows-settle p slots id me free all s rule homes at word = (
  record { parts = map (with_seen rule.history) me.0.parts; told = [] },
  keeps,
  tt,
  subst (λ (c : List (ℕ × Unit {0})). IsChained p (stepped s 0 (slice_index s.words 0) id c
      (record { parts = map (with_seen rule.history) me.0.parts; told = [] }) keeps)) (sym free)
      (settle-keeps p s rule id me.0 at all),
  record {
    history = rule.history;
    legal = rule.legal;
    top = sym (ap (λ ws. slice_index ws 0) rule.words);
    seen = All-nil _;
    heard =
        All-permutation (Fits rule.history) (parts_at s) me.0.parts
        (are p s rule id me.0 at all) rule.seen;
    once = λ n below.
        let all_there : count_by (λ (part : Part). eqb part.number n) me.0.parts ≡ 1 =
        sum_by-IsPermutation (λ (part : Part). cond (eqb part.number n) 1 0) (parts_at s)
        me.0.parts (are p s rule id me.0 at all)
        ∙ rule.once n below in
        omega (arith, all_there);
    are = refl;
    is = ap (λ c. (record { parts = map (with_seen rule.history) me.0.parts; told = [] }, c)) free;
  },
)

-- ---- one seat after another

-- The part of the last seat went to the token, and all saw one history. Then the first part of the
-- token is that seat's again.
module _
    (p : Plan) (left left' : List SeenBy) (old new : seat.Inside)
    (others all all' : Me (Unit {0}) View) (top : ℕ) (is_seat : IsSeat old)
    (s : HaveSettled p left left' (joined_views old.seat.me.0 others.0, old.seat.me.1) all top)
    (dealt : new.seat.me ≡ (first_part all.0, []))
    (rest : all' ≡ (other_parts all.0, all.1))
    (table : new.seat.table_id ≡ old.seat.table_id) (topped : new.top ≡ top) where
  -- the seat's own part
  abbrev own : Part
  own = part_of old.seat.me.0.parts

  all-is : all ≡ knowing (with_seen s.history own ∷ map (with_seen s.history) others.0.parts)
  all-is = s.is
      ∙ ap (λ ps. knowing (map (with_seen s.history) (ps ++ others.0.parts))) is_seat.one

  new-part : new.seat.me.0.parts ≡ with_seen s.history own ∷ []
  new-part = ap (λ m. m.0.parts) dealt ∙ ap (λ m. take 1 m.0.parts) all-is

  pub again-seat : IsSeat new
  again-seat = record {
    one = new-part ∙ ap (λ ps. part_of ps ∷ []) (sym new-part);
    free = ap (λ m. m.1) dealt;
  }

  -- which has caught up
  again-seen : seat_of new ≡ caught_up p s.history (seat_of old)
  again-seen = λ i. seat_with (table i) ((topped ∙ sym s.top) i) (part_of (new-part i))

  -- each of the parts
  parts-heard : All (Fits s.history) (own ∷ others.0.parts)
  parts-heard =
      subst (λ ps. All (Fits s.history) (ps ++ others.0.parts)) is_seat.one s.heard

  pub settled-more :
      HaveSettled p (left ++ seat_of old ∷ []) (left' ++ seat_of new ∷ []) others all' top
  settled-more = record {
    history = s.history;
    legal = s.legal;
    top = s.top;
    seen = All-push (λ (seat : SeenBy). HasSeen s.history seat.number seat.seen) left (seat_of old)
        s.seen (All-head (Fits s.history) own others.0.parts parts-heard);
    heard = All-tail (Fits s.history) own others.0.parts parts-heard;
    once = λ n below. omega (
      arith,
      s.once n below,
      ap (λ ps. times_among n (ps ++ others.0.parts)) is_seat.one,
      times-cons n own others.0.parts,
      sum_by-append (λ (seat : SeenBy). cond (eqb seat.number n) 1 0) left (seat_of old ∷ []),
      sum_by-cons (λ (seat : SeenBy). cond (eqb seat.number n) 1 0) (seat_of old) [],
    );
    are = (λ i. s.are i ++ again-seen i ∷ [])
        ∙ sym (map-append (caught_up p s.history) left (seat_of old ∷ []));
    is = rest ∙ ap (λ (m : Me (Unit {0}) View). (other_parts m.0, m.1)) all-is;
  }

-- where the token has no other parts, all seats are settled
pub all-settled :
    (p : Plan) (before after : List SeenBy) (me me' : Me (Unit {0}) View) (top : ℕ)
    → me.0.parts ≡ [] → HaveSettled p before after me me' top → Settled p before after
all-settled p before after me me' top none s = record {
  history = s.history;
  legal = s.legal;
  seen = s.seen;
  once = λ n below. omega (arith, s.once n below, ap (times_among n) none);
  is = s.are;
}

-- the last seat's own token is one that took in a token that knows nothing
pub with-none :
    (p : Plan) (left left' : List SeenBy) (me all : Me (Unit {0}) View) (top : ℕ)
    → HaveSettled p left left' me all top
    → HaveSettled p left left' (joined_views me.0 spent_view, me.1) all top
with-none p left left' me all top s =
    let is : me ≡ (joined_views me.0 spent_view, me.1) =
    λ i. (
      record { parts = sym (append-nil me.0.parts) i; told = sym (append-nil me.0.told) i },
      me.1,
    ) in
    subst (λ m. HaveSettled p left left' m all top) is s

-- and has its own part alone
pub one-part :
    (p : Plan) (left left' : List SeenBy) (old : seat.Inside) (all : Me (Unit {0}) View) (top : ℕ)
    → IsSeat old → HaveSettled p left left' old.seat.me all top → all ≡ (first_part all.0, [])
one-part p left left' old all top is_seat s =
    let is = s.is ∙ ap (λ ps. knowing (map (with_seen s.history) ps)) is_seat.one in
    is ∙ sym (ap (λ (m : Me (Unit {0}) View). (first_part m.0, [])) is)

-- the seats are the chain's still
pub settled-own :
    (chain : ChainOf) (before after : List SeenBy) → AreOwn chain before
    → Settled chain.shape before after → AreOwn chain after
settled-own chain before after own s =
    All-same (IsOwn chain) after (map (caught_up chain.shape s.history) before) s.is
    (All-map (IsOwn chain) (caught_up chain.shape s.history) before
    (All-weaker (IsOwn chain) (λ seat. IsOwn chain (caught_up chain.shape s.history seat))
    (λ seat is. record { at = is.at; plan = is.plan; legal = s.legal; known = omega arith })
    before own))
