-- What follows where all seats have seen one history.
use Rattle.std.proofs.Common.{◌≡◌, ◌≢◌, ◌∙◌, ℕ, suc, ◌<◌, cond, eqb, ap, sym, subst, subst₂, refl, inl, inr, List, [], ◌∷◌, ◌++◌, map, All, arith}
use mathlib.Core.List.{map-map}
use Rattle.std.specs.List.{Contains, count_by}
use Rattle.std.proofs.lemmas.Bool.{cases_eq, ne_eqb}
use Rattle.std.proofs.lemmas.List.{append_cancel_right}
use Rattle.std.proofs.lemmas.List.Elements.{All-contains, All-map, All-same}
use Rattle.std.proofs.lemmas.List.Sums.{sum_by-cons}
use Rattle.nb_core.proofs.Theorems.{nothing_is_missing}
use Rattle.nb_core.specs.Plans.{IsPlan, Plan}
use Rattle.nb_core.specs.Tables.{words_of}
use Rattle.nb_core.specs.History.{IsLegal, seat_of_event}
use Rattle.nb_core.specs.declared.events.Event.{Event}
use Rattle.nb_table.specs.Chains.{SeenBy}
use Rattle.nb_table.specs.Settling.{Settled, SettledAsClosed, SettledIsAll, SettledIsLeft, SettledTwice, caught_up}
use Rattle.nb_table.specs.Views.{HasSeen, parts_at}
use Rattle.nb_table.specs.declared.view.Part.{Part}

-- where all seats have seen the same, this is the history
pub settled_is_all : SettledIsAll
settled_is_all p s rule history same =
    let last = rule.last in
    let is : rule.history ≡ history =
    sym last.3 ∙ All-contains (λ (part : Part). part.seen ≡ history) (parts_at s) last.0 same last.1
    in
    (is, rule.words ∙ ap (words_of p) is)

-- what settled seats know is what seats know that close their chain
pub settled_as_closed : SettledAsClosed
settled_as_closed p plan before after s = record {
  left = record { plan = plan; legal = s.legal; is = refl };
  seen = s.seen;
  once = s.once;
}

-- some seat has a number that is counted
counted-there :
    (n : ℕ) (seats : List SeenBy) → count_by (λ seat. eqb seat.number n) seats ≡ 1
    → (seat : SeenBy) × Contains seats seat × (seat.number ≡ n)
counted-there n [] one = absurd (omega (arith, one))
counted-there n (seat ∷ seats) one = elim (cases_eq seat.number n) [
  | inl same ↦ (seat, (0, omega arith, refl), same)
  | inr differs ↦
      let no = ne_eqb seat.number n differs in
      let rest : count_by (λ (s : SeenBy). eqb s.number n) seats ≡ 1 = omega (
        arith,
        sum_by-cons (λ (s : SeenBy). cond (eqb s.number n) 1 0) seat seats,
        ap {B = ℕ} (λ b. cond b 1 0) no,
        one,
      ) in
      let there = counted-there n seats rest in
      let at = there.1 in
      (there.0, (suc at.0, omega (arith, at.1), at.2), there.2)
]

-- Seats that have all seen this history have seen a later one but for the events of others. So no
-- event came.
none-came :
    (p : Plan) → IsPlan p → (seen h : List Event) (seats : List SeenBy) → IsLegal p h
    → All (λ seat. seat.seen ≡ seen) seats → All (λ seat. HasSeen h seat.number seat.seen) seats
    → ((n : ℕ) → n < p.seats → count_by (λ seat. eqb seat.number n) seats ≡ 1)
    → h ≡ seen
none-came p plan seen h seats legal same has once =
    let first = each 0 (omega (arith, plan.seats.0)) in
    first.is ∙ ap (λ later. later ++ seen)
    (nothing_is_missing p seen first.later (subst (IsLegal p) first.is legal)
    (λ n below. same-others n below first.later first.is))
  where
    each : (n : ℕ) → n < p.seats → HasSeen h n seen
    each n below =
        let there = counted-there n seats (once n below) in
        subst₂ (HasSeen h) there.2
        (All-contains (λ (seat : SeenBy). seat.seen ≡ seen) seats there.0 same there.1)
        (All-contains (λ (seat : SeenBy). HasSeen h seat.number seat.seen) seats there.0 has
        there.1)

    same-others : (n : ℕ) → n < p.seats → (later : List Event) → h ≡ later ++ seen
        → All (λ e. seat_of_event e ≢ n) later
    same-others n below later is =
        let has = each n below in
        subst (All (λ e. seat_of_event e ≢ n))
        (append_cancel_right has.later later seen (sym has.is ∙ is)) has.others

-- settled seats have all seen the history
all-seen :
    (p : Plan) (before after : List SeenBy) → (s : Settled p before after)
    → All (λ seat. seat.seen ≡ s.history) after
all-seen p before after s =
    All-same (λ (seat : SeenBy). seat.seen ≡ s.history) after (map (caught_up p s.history) before)
    s.is
    (All-map (λ (seat : SeenBy). seat.seen ≡ s.history) (caught_up p s.history) before
    (λ k d below. refl))

-- the second time changes nothing
pub settled_twice : SettledTwice
settled_twice p plan before after again s t =
    let same : t.history ≡ s.history
    = none-came p plan s.history t.history after t.legal (all-seen p before after s) t.seen t.once in
    t.is ∙ ap (λ h. map (caught_up p h) after) same
    ∙ ap (map (caught_up p s.history)) s.is
    ∙ map-map (caught_up p s.history) (caught_up p s.history) before ∙ sym s.is

-- what is left of a chain that settled seats close is what they had seen
pub settled_is_left : SettledIsLeft
settled_is_left before after closed s left =
    none-came closed.shape left.left.plan s.history closed.history after left.left.legal
    (all-seen closed.shape before after s) left.seen left.once
