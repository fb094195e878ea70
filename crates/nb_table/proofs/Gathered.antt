-- One token gathers the parts of all seats, and what it knows fits the words that are left.
use Rattle.std.proofs.Common.{◌≡◌, ◌∙◌, ◌⊎◌, ℕ, ◌<◌, ◌≤◌, ◌==◌, cond, ap, sym, subst, inl, inr, List, [], ◌∷◌, ◌++◌, length, length-append, map, nat_lt, refl, All, arith}
use mathlib.Core.Option.{some}
use lib.ListN.{get_elem?}
use Rattle.std.specs.List.{count_by}
use Rattle.std.specs.List.Sorted.{IsPermutation}
use Rattle.std.proofs.lemmas.Bool.{cases_lt, le-ltb, lt-ltb}
use Rattle.std.proofs.lemmas.List.{append-nil, length-map, map-append, nil_from_length}
use Rattle.std.proofs.lemmas.List.Elements.{All-cons, All-contains, All-head, All-map, All-nil, All-tail, All-weaker}
use Rattle.std.proofs.lemmas.List.Sorted.{All-permutation, IsPermutation-map, length_permutation, sum_by-IsPermutation}
use Rattle.atomic_table.specs.Seated.{TableId}
use Rattle.atomic_table.specs.Table.{Final, Seen, State}
use Rattle.atomic_table.specs.declared.shared.Seat.{Seat}
use Rattle.nb_core.specs.History.{IsLegal}
use Rattle.nb_core.specs.Plans.{IsPlan, Plan}
use Rattle.nb_core.specs.Tables.{words_of}
use Rattle.nb_core.specs.declared.events.Event.{Event}
use Rattle.nb_table.specs.Chains.{SeenBy}
use Rattle.nb_table.specs.Closing.{most_seen}
use Rattle.nb_table.specs.Gathered.{ClosedWith}
use Rattle.nb_table.specs.Inside.{IsSeat, forgotten, part_of, seat_of, seat_with}
use Rattle.nb_table.specs.Left.{ClosedOf}
use Rattle.nb_core.specs.Log.{IsBeginning}
use Rattle.nb_table.specs.Views.{HasSeen, IsChained, all_parts}
use Rattle.nb_table.specs.declared.chain.ChainSeat.TheInside as seat
use Rattle.nb_table.specs.declared.view.Part.{Part}
use Rattle.nb_table.specs.declared.view.View.{View}
use Rattle.nb_core.proofs.Seating.{All-unmap, all-there as has-all, and_then, back, count-map}

-- ---- gathering

-- what a token of a chain's seat knows is the seat, but for what it remembers
pub one-seat :
    (chain : TableId) (s : seat.Inside) (next : SeenBy) → IsSeat s → seat_of s ≡ next
    → next.chain ≡ chain
    → map (seat_with chain 0) s.seat.me.0.parts ≡ forgotten next ∷ []
one-seat chain s next is_seat view own =
    let part = part_of s.seat.me.0.parts in
    let table : chain ≡ s.seat.table_id = sym (ap (λ v. v.chain) view ∙ own) in
    ap (map (seat_with chain 0)) is_seat.one ∙ ap (λ id. seat_with id 0 part ∷ []) table
    ∙ ap (λ v. forgotten v ∷ []) view

-- the seat that is taken, and those that are left
pub forgotten-pop :
    (left : List SeenBy) (last : SeenBy) (seats : List SeenBy) → seats ≡ left ++ last ∷ []
    → map forgotten seats ≡ map forgotten left ++ forgotten last ∷ []
forgotten-pop left last seats is =
    ap (map forgotten) is ∙ map-append forgotten left (last ∷ [])

-- the most that was seen doesn't hang on what they remember
most-forgotten : (seats : List SeenBy) → most_seen (map forgotten seats) ≡ most_seen seats
most-forgotten [] = refl
most-forgotten (seat ∷ seats) =
    ap (λ rest. cond (nat_lt (length rest) (length seat.seen)) seat.seen rest) (most-forgotten seats)

-- ---- the history

-- the seat has seen a beginning of the history, and made no event since
abbrev FitsSeat : List Event → SeenBy → Type 0
FitsSeat history seat = HasSeen history seat.number seat.seen

-- a seat adds to the most that was seen, or sees no more
most-cases :
    (seat : SeenBy) (seats : List SeenBy) → let rest = most_seen seats in
    ((length rest < length seat.seen) × (most_seen (seat ∷ seats) ≡ seat.seen))
    ⊎ ((length seat.seen ≤ length rest) × (most_seen (seat ∷ seats) ≡ rest))
most-cases seat seats =
    let rest = most_seen seats in
    elim (cases_lt (length rest) (length seat.seen)) [
      | inl more ↦ inl (
        more,
        ap (λ b. cond b seat.seen rest)
            (lt-ltb (length rest) (length seat.seen) more),
      )
      | inr less ↦ inr (
        less,
        ap (λ b. cond b seat.seen rest)
            (le-ltb (length rest) (length seat.seen) less),
      )
    ]

-- no seat has seen more than the most
most : (seats : List SeenBy) → All (λ seat. length seat.seen ≤ length (most_seen seats)) seats
most [] = All-nil (λ seat. length seat.seen ≤ 0)
most (seat ∷ seats) =
    let within = λ (n : ℕ) (s : SeenBy). length s.seen ≤ n in
    let all = most seats in
    elim (most-cases seat seats) [
      | inl more ↦
          subst (λ (seen : List Event). All (within (length seen)) (seat ∷ seats)) (sym more.1)
          (All-cons (within (length seat.seen)) seat seats (omega arith)
          (All-weaker (within (length (most_seen seats))) (within (length seat.seen))
          (λ s less. omega (arith, more.0, less)) seats all))
      | inr less ↦
          subst (λ (seen : List Event). All (within (length seen)) (seat ∷ seats)) (sym less.1)
          (All-cons (within (length (most_seen seats))) seat seats less.0 all)
    ]

-- where each has seen a beginning, the most is one too
most-begins :
    (h : List Event) (seats : List SeenBy) → All (FitsSeat h) seats
    → IsBeginning (most_seen seats) h
most-begins h [] all = record { later = h; is = sym (append-nil h) }
most-begins h (seat ∷ seats) all =
    let fits = All-head (FitsSeat h) seat seats all in
    elim (most-cases seat seats) [
      | inl more ↦ subst (λ seen. IsBeginning seen h) (sym more.1)
          (record { later = fits.later; is = fits.is })
      | inr less ↦ subst (λ seen. IsBeginning seen h) (sym less.1)
          (most-begins h seats (All-tail (FitsSeat h) seat seats all))
    ]

-- a beginning that is as long is the whole
whole-beginning : (seen h : List Event) → IsBeginning seen h → length h ≤ length seen → seen ≡ h
whole-beginning seen h b long =
    let none = nil_from_length b.later (omega (
      arith,
      ap length b.is,
      length-append b.later seen,
      long,
    )) in
    sym (b.is ∙ ap (λ later. later ++ seen) none)

-- ---- the words

module _ (p : Plan) (s : State (Unit {0}) View) (rule : IsChained p s)
    (token : Seat (Unit {0}) View)
    (at : get_elem? s.views token.id ≡ some token.me.0) (chain : TableId) (seats : List SeenBy)
    (known : IsPermutation (map (seat_with chain 0) token.me.0.parts) seats)
    (all : length seats ≡ p.seats) where
  abbrev knows : Part → SeenBy
  knows = seat_with chain 0

  -- the token has all parts
  all-there : IsPermutation (map knows (all_parts s.views)) seats
  all-there =
      let parts = token.me.0.parts in
      let many : length (all_parts s.views) ≡ length parts
      = rule.count ∙ sym all ∙ length_permutation (map knows parts) seats known
      ∙ length-map parts knows in
      let are = has-all (λ view. view.parts) s.views token.id token.me.0 at many in
      and_then (IsPermutation-map knows (all_parts s.views) parts are) known

  -- each seat fits the history
  all-fit : All (FitsSeat rule.history) seats
  all-fit =
      All-permutation (FitsSeat rule.history) (map knows (all_parts s.views)) seats all-there
      (All-map (FitsSeat rule.history) knows (all_parts s.views) rule.seen)

  -- and what a part has seen, one of them has
  no-more : All (λ part. length part.seen ≤ length (most_seen seats)) (all_parts s.views)
  no-more =
      let P : SeenBy → Type 0 = λ seat. length seat.seen ≤ length (most_seen seats) in
      All-unmap P knows (all_parts s.views)
      (All-permutation P seats (map knows (all_parts s.views))
      (back all-there) (most seats))

  -- who made the last step has seen all
  length-most : length rule.history ≤ length (most_seen seats)
  length-most =
      let last = rule.last in
      let less = All-contains (λ part. length part.seen ≤ length (most_seen seats))
      (all_parts s.views) last.0 no-more last.1 in
      omega (arith, less, ap length last.3)

  most-is : most_seen seats ≡ rule.history
  most-is = whole-beginning (most_seen seats) rule.history (most-begins rule.history seats all-fit)
      length-most

  times-there : (n : ℕ) → n < p.seats → count_by (λ seat. seat.number == n) seats ≡ 1
  times-there n below =
      sum_by-IsPermutation (λ (seat : SeenBy). cond (seat.number == n) 1 0)
      (map knows (all_parts s.views)) seats all-there
      ∙ count-map (λ seat. seat.number == n) knows (all_parts s.views) ∙ rule.once n below

-- what is left of a chain, where one token has gathered all seats
pub closed-with :
    (closed : ClosedOf) → IsPlan closed.shape → (key : Plan) → key ≡ closed.shape
    → (chain : TableId) (token : Seat (Unit {0}) View)
    (seats : List SeenBy) (slots : List (Unit {0}))
    → IsPermutation (map (seat_with chain 0) token.me.0.parts) (map forgotten seats)
    → length seats ≡ closed.shape.seats → closed.history ≡ most_seen seats
    → Final (Seen (IsChained key) token.id token.me.0) closed.words slots → ClosedWith seats closed
closed-with closed plan key same chain token seats slots g all history final =
    let p = closed.shape in
    let s = final.0 in
    let rule : IsChained p s = subst (λ k. IsChained k s) same final.1.0 in
    let at = final.1.1 in
    let bare = map forgotten seats in
    let all' = length-map seats forgotten ∙ all in
    let is : rule.history ≡ closed.history =
    sym (history ∙ sym (most-forgotten seats) ∙ most-is p s rule token at chain bare g all') in
    record {
      left = record {
        plan = plan;
        legal = subst (IsLegal p) is rule.legal;
        is = sym final.2 ∙ rule.words ∙ ap (words_of p) is;
      };
      seen = All-unmap (FitsSeat closed.history) forgotten seats
          (subst (λ h. All (FitsSeat h) bare) is (all-fit p s rule token at chain bare g all'));
      once = λ n below. sym (count-map (λ seat. seat.number == n) forgotten seats)
          ∙ times-there p s rule token at chain bare g all' n below;
    }
