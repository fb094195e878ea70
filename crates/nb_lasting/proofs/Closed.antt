-- All lanes are gathered, and the map is closed.
use Rattle.std.proofs.Common.{◌≡◌, ◌∙◌, ◌++◌, ◌≤◌, ◌⊎◌, ℕ, List, [], ◌∷◌, All, Some, ap, inl, inr, length, length-append, refl, slice_get, subst, sym, arith}
use Rattle.std.specs.Prelude.{Option}
use Rattle.std.proofs.lemmas.List.{append-nil, append_assoc}
use Rattle.std.proofs.lemmas.Option.{slice_get_within}
use Rattle.atomic_table.specs.Table.{Me, rest}
use Rattle.nb_core.specs.Log.{Entry, log_of}
use Rattle.nb_core.specs.declared.events.Event.{Event}
use Rattle.nb_map.specs.Ending.{EndedOf, EndedWith}
use Rattle.nb_map.specs.Handles.{HandleOf, seats_of}
use Rattle.nb_map.specs.Maps.{MapOf}
use Rattle.nb_lasting.proofs.Dealt.{snoc_cases, there_is}
use Rattle.nb_lasting.proofs.Epochs.{goes_on, one_log_for_all}
use Rattle.nb_lasting.proofs.Renewed.{all-from, at-all, handle-at, length-each, logs-of, seat-at, whole-made}
use Rattle.nb_lasting.specs.Closing.{HasGathered, HaveComeTo, HaveGathered}
use Rattle.nb_lasting.specs.Epochs.{HasGoneOnBy, HaveMetIn, IsOfEpoch, Knows}
use Rattle.nb_lasting.specs.Gathered.{seats_of_each}
use Rattle.nb_lasting.specs.Guests.{GoesOnTo, GuestOf, HaveEnded}
use Rattle.nb_lasting.specs.Renewal.{AreHeld, HoldsBelow}
use Rattle.nb_lasting.specs.Shared.{IsOfGuest, FitsLanes}
use Rattle.nb_lasting.specs.declared.shared.LaneView.{LaneView}

-- one more guest's handle is gathered
pub more-gathered :
    (n : ℕ) (guests : List GuestOf) (guest : GuestOf) (seen : List Event)
    (me new : Me (Option HandleOf) LaneView) (handles more : List HandleOf)
    (have : HaveGathered n guests me handles) → length guests ≡ n → guest.number ≡ n
    → log_of seen ≡ guest.log → HasGathered n seen have.holds.knew new more
    → HaveGathered (length (guests ++ guest ∷ [])) (guests ++ guest ∷ []) new more
more-gathered n guests guest seen me new handles more have many number is has =
    subst (λ k. HaveGathered k (guests ++ guest ∷ []) new more)
    (let long = length-append guests (guest ∷ []) in omega (arith, long, many))
    (record { holds = has.holds; current = current })
  where
    Goal : ℕ → GuestOf → Type 0
    Goal i g = (g.number ≡ i) × GoesOnTo g (log_of (has.holds.knew i)) []

    current : (i : ℕ) (g : GuestOf) → slice_get (guests ++ guest ∷ []) i ≡ Some g
        → (g.number ≡ i) × GoesOnTo g (log_of (has.holds.knew i)) []
    current i g at = by (snoc_cases guests guest i g at)
      where
        by : (slice_get guests i ≡ Some g) ⊎ ((i ≡ length guests) × (guest ≡ g)) → Goal i g
        by (inl old) =
            let below = slice_get_within guests i g old in
            let was = have.current i g old in (
              was.0,
              subst (λ (l : List Event). GoesOnTo g (log_of l) [])
                  (sym (has.below i (omega (arith, below, many)))) was.1,
            )
        by (inr (last, same)) =
            subst (λ k. Goal k g) (sym (last ∙ many)) (subst (Goal n) same (
              number,
              subst (λ k. HasGoneOnBy k guest.log (log_of (has.holds.knew n)) []) (sym number)
                  (subst (λ l. HasGoneOnBy n l (log_of (has.holds.knew n)) []) is has.here),
            ))

-- at the beginning
pub none-gathered :
    (me : Me (Option HandleOf) LaneView) (handles : List HandleOf) → HoldsBelow 0 me handles
    → HaveGathered 0 [] me handles
none-gathered me handles holds =
    record { holds = holds; current = λ i g at. absurd (omega (arith, slice_get_within [] i g at)) }

-- ---- the end

module _
    (n : ℕ) (guests : List GuestOf) (me : Me (Option HandleOf) LaneView) (handles : List HandleOf)
    (whole : HandleOf) (ended : EndedOf) (have : HaveGathered n guests me handles)
    (seated : FitsLanes n me.0) (some : 1 ≤ n) (many : length guests ≡ n)
    (seats : seats_of whole ≡ seats_of_each handles) (left : EndedWith (seats_of whole) ended) where
  holds : HoldsBelow n me handles
  holds = have.holds

  begun : (me.0.filled ≡ have.holds.epoch.filled) × (me.0.past ≡ have.holds.epoch.past)
  begun = have.holds.begun (omega (arith, some))

  held : AreHeld me.0.map have.holds.epoch.filled have.holds.epoch.past n have.holds.knew handles
  held =
      subst (λ (f : List Event). AreHeld me.0.map f have.holds.epoch.past n have.holds.knew handles)
      begun.0
      (subst (λ (l : List Event). AreHeld me.0.map me.0.filled l n have.holds.knew handles) begun.1
      have.holds.held)

  knows-at : (i : ℕ) (h : HandleOf) → slice_get handles i ≡ Some h
      → Knows (logs-of have.holds.epoch) h.seat (log_of (have.holds.knew i))
  knows-at i h at =
      let knows = (held.each i h at).1 in
      record { later = knows.later; here = knows.here; is = knows.is; replayed = knows.replayed }

  all : All (IsOfEpoch (logs-of have.holds.epoch)) (seats_of whole)
  all =
      subst (All (IsOfEpoch (logs-of have.holds.epoch))) (sym seats)
      (all-from (IsOfEpoch (logs-of have.holds.epoch)) (seats_of_each handles)
      (λ i s at.
      let h = handle-at handles i s at in (
        log_of (have.holds.knew i),
        subst (λ s. Knows (logs-of have.holds.epoch) s (log_of (have.holds.knew i))) h.2
            (knows-at i h.0 h.1),
      )))

  step : (whole-log : List Entry) × HaveMetIn (logs-of have.holds.epoch)
      (seats_of whole) ended whole-log
  step = one_log_for_all.ended {e = logs-of have.holds.epoch} {ended = ended} whole all left

  pub have-ended : HaveEnded guests ended
  have-ended = record {
    whole = step.0;
    replayed = step.1.replayed;
    leaves = sym step.1.leaves;
    each = each;
    made = subst (λ k. All (IsOfGuest k) step.0) (sym many)
        (whole-made (logs-of have.holds.epoch) n (seats_of whole) ended step.0
        (ap length seats ∙ (length-each handles ∙ held.count))
        (subst (λ (l : List Event). All (IsOfGuest n) (log_of l)) begun.1 seated.made) left step.1);
  }
    where
      each : (i : ℕ) (guest : GuestOf) → slice_get guests i ≡ Some guest
          → GoesOnTo guest step.0 []
      each i guest at =
          let below = slice_get_within guests i guest at in
          let one = there_is handles i (omega (arith, below, many, held.count)) in
          let seat : slice_get (seats_of whole) i ≡ Some one.0.seat =
          ap (λ xs. slice_get xs i) seats ∙ seat-at handles i one.0 one.1 in
          let met = at-all (λ seat. (known : List Entry)
          → Knows (logs-of have.holds.epoch) seat known
          → HasGoneOnBy seat.chain.number known step.0 [])
          (seats_of whole) i one.0.seat step.1.each seat
          (log_of (have.holds.knew i)) (knows-at i one.0 one.1) in
          let was = have.current i guest at in
          let number : one.0.seat.chain.number ≡ guest.number =
          (held.each i one.0 one.1).0.number ∙ sym was.0 in
          goes_on guest.number guest.log (log_of (have.holds.knew i)) step.0 [] [] was.1
          (subst (λ k. HasGoneOnBy k (log_of (have.holds.knew i)) step.0 []) number met)

-- the handle has all seats of its map
pub whole-seats :
    (n : ℕ) (me : Me (Option HandleOf) LaneView) (handles : List HandleOf) (whole : HandleOf)
    → HoldsBelow n me handles → FitsLanes n me.0 → seats_of whole ≡ seats_of_each handles
    → whole.map ≡ me.0.map
    → length (seats_of whole) ≡ whole.map.chain.shape.seats
whole-seats n me handles whole holds seated seats is =
    ap length seats ∙ (length-each handles ∙ (holds.held.count ∙ (sym seated.fits
    ∙ sym (ap (λ (m : MapOf). m.chain.shape.seats) is))))

-- ---- the guests, one after another

middle-at : (first : List GuestOf) (guest : GuestOf) (rest : List GuestOf)
    → slice_get (first ++ guest ∷ rest) (length first) ≡ Some guest
middle-at [] guest rest = refl
middle-at (g ∷ first) guest rest = middle-at first guest rest

pub next-number :
    (every left rest : List GuestOf) (guest : GuestOf) (me : Me (Option HandleOf) LaneView)
    (handles : List HandleOf) → HaveComeTo every left me handles → left ≡ guest ∷ rest
    → ((i : ℕ) (g : GuestOf) → slice_get every i ≡ Some g → g.number ≡ i)
    → guest.number ≡ length handles
next-number every left rest guest me handles come is numbered =
    numbered (length come.done) guest
    (ap (λ l. slice_get l (length come.done)) (come.parts ∙ ap (λ l. come.done ++ l) is)
    ∙ middle-at come.done guest rest)
    ∙ sym come.count

pub more-come :
    (every left rest : List GuestOf) (guest : GuestOf) (seen : List Event) (lane : ℕ)
    (me new : Me (Option HandleOf) LaneView) (handles more : List HandleOf)
    → HaveComeTo every left me handles → left ≡ guest ∷ rest → lane ≡ length handles
    → guest.number ≡ length handles → log_of seen ≡ guest.log
    → ((holds : HoldsBelow lane me handles) → HasGathered lane seen holds.knew new more)
    → HaveComeTo every rest new more
more-come every left rest guest seen lane me new handles more come is here number same step =
    let has : HasGathered (length come.done) seen come.gathered.holds.knew new more =
    subst (λ n. (holds : HoldsBelow n me handles) → HasGathered n seen holds.knew new more)
    (here ∙ come.count) step come.gathered.holds in
    record {
      done = come.done ++ guest ∷ [];
      parts = come.parts ∙ (ap (λ l. come.done ++ l) is
          ∙ sym (append_assoc come.done (guest ∷ []) rest));
      count = (let long = length-append come.done (guest ∷ []) in
          omega (arith, long, has.holds.held.count));
      gathered = more-gathered (length come.done) come.done guest seen me new handles more
          come.gathered
          refl (number ∙ come.count) same has;
    }

pub all-come :
    (every left : List GuestOf) (me : Me (Option HandleOf) LaneView) (handles : List HandleOf)
    → HaveComeTo every left me handles → left ≡ []
    → HaveGathered (length every) every me handles
all-come every left me handles come none =
    subst (λ l. HaveGathered (length l) l me handles)
    (sym (come.parts ∙ (ap (λ l. come.done ++ l) none ∙ append-nil come.done))) come.gathered
