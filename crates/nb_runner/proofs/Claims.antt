-- What the claims until a moment are of, where each seat's are known of a later moment.
use Rattle.std.proofs.Common.{◌≡◌, ◌≢◌, ◌∙◌, ◌==◌, ◌<◌, ◌≤◌, ◌-◌, ℕ, zero, suc, List, [], ◌∷◌, ◌++◌, ap, sym, subst, refl, inl, inr, arith}
use Rattle.std.specs.List.{All}
use Rattle.std.proofs.lemmas.List.Elements.{All-cons, All-filter, All-head, All-nil, All-same, All-tail, All-weaker, filter-append}
use Rattle.nb_core.proofs.Seating.{All-right}
use Rattle.nb_core.proofs.Theorems.{beginnings_are_legal, seen_lasts, stays}
use Rattle.nb_core.specs.History.{IsLegal, seat_of_event}
use Rattle.nb_core.specs.Laws.{Lasts}
use Rattle.nb_core.specs.Log.{IsBeginning}
use Rattle.nb_core.specs.Meaning.{IsCrowded}
use Rattle.nb_core.specs.Plans.{IsPlan, Plan, generations_of, size_of}
use Rattle.nb_core.specs.Tables.{HasSlot, HasSlotBelow, IsReady, Tables, tables_at}
use Rattle.nb_core.specs.declared.calls.Call.{Call}
use Rattle.nb_core.specs.declared.events.Event.{Event}
use Rattle.nb_core.specs.declared.events.Event.TheVariants.{Claim}
use Rattle.nb_table.specs.Chains.{SeenBy, own_events}
use Rattle.nb_map.proofs.Theorems.{crowded_by_calls, each-own, seats-below}
use Rattle.nb_map.specs.Crowding.{HasAskedFor, HasAskedIn, IsClaimOf, IsFilled, others_filled}
use Rattle.nb_runner.proofs.CallLemmas.{beginning-itself, beginning-more}

-- ---- more calls

-- a claim is so of more calls
claim-more :
    (p : Plan) (t : Tables) (cs cs' : List Call) → ((k : ℕ) → IsFilled cs k → IsFilled cs' k)
    → (e : Event) → IsClaimOf p t cs e → IsClaimOf p t cs' e
claim-more p t cs cs' more (Claim s g i k) is =
    (is.0, elim is.1 [ inl below ↦ inl below | inr put ↦ inr (more k put) ])
claim-more p t cs cs' more _ is = tt

-- and so is what the seat was asked to do
pub asked-more :
    (p : Plan) (cs cs' : List Call) (seat : SeenBy) → ((k : ℕ) → IsFilled cs k → IsFilled cs' k)
    → HasAskedFor p cs seat → HasAskedFor p cs' seat
asked-more p cs cs' seat more asked = record {
  own =
      All-weaker (IsClaimOf p (tables_at p seat.seen) cs) (IsClaimOf p (tables_at p seat.seen) cs')
      (claim-more p (tables_at p seat.seen) cs cs' more) _ asked.own;
}

-- The seat of this number has seen all of the one history, and a beginning of the other; and of its
-- claims these calls fill each key that is new to the tables.
pub record Claimant (p : Plan) (whole h : List Event) (cs : List Call) (n : ℕ) : Type 0 where
  pub seat : SeenBy
  pub number : seat.number ≡ n
  pub asked : HasAskedFor p cs seat
  pub above : IsBeginning h seat.seen
  pub begun : IsBeginning seat.seen whole

-- so it is of more calls, until an earlier moment
pub claimant-less :
    (p : Plan) (whole h x : List Event) (cs cs' : List Call) (n : ℕ) → IsBeginning x h
    → ((k : ℕ) → IsFilled cs k → IsFilled cs' k)
    → Claimant p whole h cs n → Claimant p whole x cs' n
claimant-less p whole h x cs cs' n begun more is = record {
  seat = is.seat;
  number = is.number;
  asked = asked-more p cs cs' is.seat more is.asked;
  above = beginning-more begun is.above;
  begun = is.begun;
}

module _ (p : Plan) (plan : IsPlan p) (whole : List Event) (legal : IsLegal p whole) where
  begun-legal : (h : List Event) → IsBeginning h whole → IsLegal p h
  begun-legal h begun =
      beginnings_are_legal p begun.later h (subst (IsLegal p) begun.is legal)

  -- what is claimed stays so in later histories
  begun-lasts : (h x : List Event) → IsBeginning h whole → IsBeginning x h
      → Lasts p (tables_at p x) (tables_at p h)
  begun-lasts h x begun first =
      subst (λ y. Lasts p (tables_at p x) (tables_at p y)) (sym first.is)
      (seen_lasts p plan first.later x (subst (IsLegal p) first.is (begun-legal h begun)))

  below-lasts :
      (t u : Tables) → Lasts p t u → (g k : ℕ) → g < generations_of p → HasSlotBelow p t g k
      → HasSlotBelow p u g k
  below-lasts t u lasting zero k table below = below
  below-lasts t u lasting (suc g) k table below =
      lasting.has_slot g k (omega (arith, table)) below

  -- Where the table below is complete, a key that has a slot there later has it already.
  below-before :
      (x : List Event) → IsBeginning x whole → (g k : ℕ) → g < generations_of p
      → IsReady p (tables_at p x) g → HasSlotBelow p (tables_at p whole) g k
      → HasSlotBelow p (tables_at p x) g k
  below-before x begun zero k table ready below = absurd below
  below-before x begun (suc g) k table ready below =
      let later = subst (λ h. HasSlot p (tables_at p h) g k) begun.is below in
      record {
        slot = later.slot;
        in_table = later.in_table;
        is =
            sym ((stays p plan begun.later x (subst (IsLegal p) begun.is legal) g later.slot
            (omega (arith, table), later.in_table)).finished (ready later.slot later.in_table)).0
            ∙ later.is;
      }

  module _ (cs : List Call) (h : List Event) (begun : IsBeginning h whole) where
    abbrev Later : Event → Type 0
    Later = IsClaimOf p (tables_at p whole) cs

    abbrev Now : Event → Type 0
    Now = IsClaimOf p (tables_at p h) cs

    -- A claim of a key that has a slot below at the end was made when it had it.
    claim-then : (e : Event) (x : List Event) → IsBeginning (e ∷ x) h → IsBeginning x h
        → Later e → Now e
    claim-then (Claim s g i k) x first rest is = (
      is.0,
      elim is.1 [
        | inr put ↦ inr put
        | inl below ↦
            let may = (begun-legal (Claim s g i k ∷ x) (beginning-more first begun)).2 in
            inl (below-lasts (tables_at p x) (tables_at p h) (begun-lasts h x begun rest) g k is.0
            (elim may.way.reason [
              | inl here ↦ here
              | inr ready ↦ below-before x (beginning-more rest begun) g k is.0 ready.0 below
            ]))
      ],
    )
    claim-then _ x first rest is = tt

    claims-then : (x : List Event) → IsBeginning x h → All Later x → All Now x
    claims-then [] first all = All-nil Now
    claims-then (e ∷ x) first all =
        let rest : IsBeginning x h =
        beginning-more (record { later = e ∷ []; is = refl }) first in
        All-cons Now e x (claim-then e x first rest (All-head Later e x all))
        (claims-then x rest (All-tail Later e x all))

    -- a seat's own claims until the moment
    own-later : (n : ℕ) → Claimant p whole h cs n → All Later (own_events n h)
    own-later n is =
        All-right Later (own_events n is.above.later) (own_events n h)
        (All-same Later _ _ parts
        (All-weaker (IsClaimOf p (tables_at p is.seat.seen) cs) Later lasts _ is.asked.own))
      where
        lasts : (e : Event) → IsClaimOf p (tables_at p is.seat.seen) cs e → Later e
        lasts (Claim s g i k) claim = (
          claim.0,
          elim claim.1 [
            | inl below ↦ inl (below-lasts (tables_at p is.seat.seen) (tables_at p whole)
                (begun-lasts whole is.seat.seen (beginning-itself whole) is.begun) g k claim.0
                below)
            | inr put ↦ inr put
          ],
        )
        lasts _ claim = tt

        parts : own_events n is.above.later ++ own_events n h
            ≡ own_events is.seat.number is.seat.seen
        parts =
            sym (filter-append _ is.above.later h) ∙ ap (own_events n) (sym is.above.is)
            ∙ ap (λ s. own_events s is.seat.seen) (sym is.number)

    -- so of all claims
    pub claims-of : ((n : ℕ) → n < p.seats → Claimant p whole h cs n) → All Now h
    claims-of each =
        claims-then h (beginning-itself h)
        (each-own Later p.seats h (seats-below p h (begun-legal h begun))
        (λ s less. own-later s (each s less)))

    -- and where a key is crowded, the calls fill as many others
    pub claims-crowd :
        (seat : SeenBy) (k : ℕ) → All Now h → IsCrowded p h k
        → size_of p (generations_of p - 1) ≤ others_filled k cs
    claims-crowd seat k all crowded =
        crowded_by_calls p plan cs h (begun-legal h begun) asked h (beginning-itself h) k crowded
      where
        asked : (n : ℕ) → n < p.seats → HasAskedIn p cs h n
        asked n less = record {
          seat = record seat { number = n; seen = h };
          number = refl;
          asked = record { own = All-filter (λ e. seat_of_event e == n) Now h all };
          seen = record { later = []; is = refl; others = All-nil (λ (e : Event). seat_of_event e ≢ n) };
        }
