-- Each step of the shared lanes keeps their rule.
use Rattle.std.proofs.Common.{◌≡◌, ◌∙◌, ◌≢◌, ◌+◌, ◌*◌, ◌<◌, ◌≤◌, ◌==◌, ◌++◌, ℕ, zero, suc, Bool, true, false, if◌then◌else◌, List, [], ◌∷◌, All, Some, length, slice_index, slice_set, inl, inr, ◌⊎◌, ap, refl, subst, sym, arith}
use mathlib.Core.Option as maths
use mathlib.Core.Option.{none, some, some-injective, some-ne-none}
use lib.ListN.{get_elem?}
use prog.Atomic.{either}
use Rattle.std.specs.Prelude.{◌-◌, None, Option, map, replicate, slice_get, take, unwrap_or}
use Rattle.std.proofs.lemmas.Bool.Decides.{nat_tests}
use Rattle.std.proofs.lemmas.List.{append_cancel_right, get_or-set_other, get_or-set_same, length-append, length-map, length-replicate, length-set, set-get_or}
use Rattle.std.proofs.lemmas.List.Elements.{All-nil}
use Rattle.atomic_table.proofs.Lists.{at_set, exchanged, set_again, set_else, set_here}
use Rattle.atomic_table.specs.Table.{Act, Allows, Me, Splits, Valid, carried_after, gives, keeps, opening, rest, step, stepped, takes}
use Rattle.nb_core.specs.Log.{Entry, IsReplayed, log_of}
use Rattle.nb_core.specs.declared.events.Event.{Event}
use Rattle.nb_map.specs.Handles.{HandleOf}
use Rattle.nb_map.specs.Logs.{log}
use Rattle.nb_map.specs.Maps.{MapOf, SeatOf}
use Rattle.nb_lasting.proofs.Epochs.{goes_on}
use Rattle.nb_lasting.proofs.Sizes.{slots_fewer}
use Rattle.nb_lasting.specs.Epochs.{HasGoneOnBy}
use Rattle.nb_lasting.specs.Lasting.{HasSlots}
use Rattle.nb_lasting.specs.declared.shared.Account.{Account}
use Rattle.nb_lasting.specs.declared.shared.Out.{Out}
use Rattle.nb_lasting.specs.declared.shared.LaneView.{LaneView}
use Rattle.nb_lasting.specs.declared.shared.Opened.{Opened}
use Rattle.nb_lasting.specs.Visits.{began, gave, took}
use Rattle.nb_lasting.specs.Shared.{Deals, EpochIn, Gives, IsOfGuest, Marks, FitsLanes, Renews, as_events, dealer_left, first_lane_view, new_guest, next_dealer, known_of, rest_outs, Has, HasTaken, Holds, HoldsAnew, IsOfMap, IsCurrent, IsKnownOrHasSlots, IsLane, IsOneLog, KnowsIn, LaneMoment, Takes, absent, all_knew, given, given_anew, holders, times_out, word_of}

abbrev Homes : Type 0
Homes = List (maths.Option (Option HandleOf))

-- ---- lists

abbrev pub Same : ℕ → ℕ → Type 0
Same i k = ((i ≡ k) × ((i == k) ≡ true)) ⊎ ((i ≢ k) × ((i == k) ≡ false))

-- by cases on whether two numbers are equal
pub decided : (i k : ℕ) → Same i k
decided i k = split (i == k) refl
  where
    split : (b : Bool) → (i == k) ≡ b → Same i k
    split true is = inl (grind (arith, nat_tests, is), is)
    split false is = inr (grind (arith, nat_tests, is), is)

-- words of two lanes are two
apart : (i k : ℕ) → i ≢ k → word_of i ≢ word_of k
apart i k other same = other (omega (arith, same))

holders_set :
    (i : ℕ) (views : List LaneView) (id : ℕ) (v w : LaneView) → get_elem? views id ≡ some v
    → holders i (slice_set views id w) + times_out i v.outs ≡ holders i views + times_out i w.outs
holders_set i [] id v w at = absurd (some-ne-none v (sym at))
holders_set i (x ∷ xs) zero v w at =
    let same : times_out i x.outs ≡ times_out i v.outs =
    ap (λ (u : LaneView). times_out i u.outs) (some-injective x v at) in
    omega (arith, same)
holders_set i (x ∷ xs) (suc id) v w at = omega (arith, holders_set i xs id v w at)

pub times_here : (out : Out) (outs : List Out) → times_out out.lane (out ∷ outs)
    ≡ 1 + times_out out.lane outs
times_here out outs = here (decided out.lane out.lane)
  where
    here : Same out.lane out.lane → times_out out.lane (out ∷ outs) ≡ 1 + times_out out.lane outs
    here (inl (_, is)) =
        ap (λ b. if b then 1 + times_out out.lane outs else times_out out.lane outs) is
    here (inr (not, _)) = absurd (not refl)

pub times_else : (i : ℕ) (out : Out) (outs : List Out) → (i == out.lane) ≡ false
    → times_out i (out ∷ outs) ≡ times_out i outs
times_else i out outs is = ap (λ b. if b then 1 + times_out i outs else times_out i outs) is

-- a lane is out that is in the list
has_times : (out : Out) (outs : List Out) → Has out outs → 1 ≤ times_out out.lane outs
has_times out [] has = absurd has
has_times out (o ∷ outs) (inl is) =
    subst (λ (x : Out). 1 ≤ times_out x.lane (o ∷ outs)) is (omega (arith, times_here o outs))
has_times out (o ∷ outs) (inr has) = by (decided out.lane o.lane) (has_times out outs has)
  where
    by : Same out.lane o.lane → 1 ≤ times_out out.lane outs → 1 ≤ times_out out.lane (o ∷ outs)
    by (inl (is, same)) some-time =
        let e = ap (λ b. if b then 1 + times_out out.lane outs else times_out out.lane outs) same in
        omega (arith, e)
    by (inr (other, no-it)) some-time = omega (arith, times_else out.lane o outs no-it, some-time)

-- and one that is out is in the list
times_has : (i : ℕ) (outs : List Out) → 1 ≤ times_out i outs
    → (out : Out) × Has out outs × (out.lane ≡ i)
times_has i [] some-time = absurd (omega (arith, some-time))
times_has i (o ∷ outs) some-time = by (decided i o.lane) (times_has i outs)
  where
    by : Same i o.lane → (1 ≤ times_out i outs → (out : Out) × Has out outs × (out.lane ≡ i))
        → (out : Out) × Has out (o ∷ outs) × (out.lane ≡ i)
    by (inl (is, _)) later = (o, inl refl, sym is)
    by (inr (other, differ)) later =
        let found = later (omega (arith, times_else i o outs differ, some-time)) in
        (found.0, inr found.1, found.2)

times_all_knew : (i : ℕ) (whole : List Event) (outs : List Out)
    → times_out i (all_knew whole outs) ≡ times_out i outs
times_all_knew i whole [] = refl
times_all_knew i whole (o ∷ outs) =
    ap (λ n. if i == o.lane then 1 + n else n) (times_all_knew i whole outs)

has_all_knew : (out : Out) (whole : List Event) (outs : List Out) → Has out (all_knew whole outs)
    → whole ≡ out.knew
has_all_knew out whole [] has = absurd has
has_all_knew out whole (o ∷ outs) (inl is) = ap (λ (x : Out). x.knew) is
has_all_knew out whole (o ∷ outs) (inr has) = has_all_knew out whole outs has

holders_have :
    (i : ℕ) (views : List LaneView) (id : ℕ) (v : LaneView) → get_elem? views id ≡ some v
    → times_out i v.outs ≤ holders i views
holders_have i [] id v at = absurd (some-ne-none v (sym at))
holders_have i (x ∷ xs) zero v at =
    let same : times_out i x.outs ≡ times_out i v.outs =
    ap (λ (u : LaneView). times_out i u.outs) (some-injective x v at) in
    omega (arith, same)
holders_have i (x ∷ xs) (suc id) v at = omega (arith, holders_have i xs id v at)

holders_two :
    (i : ℕ) (views : List LaneView) (id other : ℕ) (v u : LaneView) → other ≢ id
    → get_elem? views id ≡ some v
    → get_elem? views other ≡ some u
    → times_out i v.outs + times_out i u.outs ≤ holders i views
holders_two i [] id other v u differ at at' = absurd (some-ne-none v (sym at))
holders_two i (x ∷ xs) zero zero v u differ at at' = absurd (differ refl)
holders_two i (x ∷ xs) zero (suc other) v u differ at at' =
    let same : times_out i x.outs ≡ times_out i v.outs =
    ap (λ (z : LaneView). times_out i z.outs) (some-injective x v at) in
    omega (arith, same, holders_have i xs other u at')
holders_two i (x ∷ xs) (suc id) zero v u differ at at' =
    let same : times_out i x.outs ≡ times_out i u.outs =
    ap (λ (z : LaneView). times_out i z.outs) (some-injective x u at') in
    omega (arith, same, holders_have i xs id v at)
holders_two i (x ∷ xs) (suc id) (suc other) v u differ at at' =
    omega (arith, holders_two i xs id other v u (λ e. differ (ap suc e)) at at')

present :
    (homes : Homes) (i : ℕ) → i < length homes → absent (get_elem? homes i) ≡ 0
    → (y : Option HandleOf) × (get_elem? homes i ≡ some (some y))
present [] i within e = absurd (omega (arith, within))
present (none ∷ hs) zero within e = absurd (omega (arith, e))
present (some y ∷ hs) zero within e = (y, refl)
present (x ∷ hs) (suc i) within e = present hs i (omega (arith, within)) e

at_most : (x : maths.Option (maths.Option (Option HandleOf))) → absent x ≤ 1
at_most (some none) = omega arith
at_most (some (some y)) = omega arith
at_most none = omega arith

at_within : {X : Type 0} (xs : List X) (i : ℕ) (x : X) → get_elem? xs i ≡ some x → i < length xs
at_within [] i x at = absurd (some-ne-none x (sym at))
at_within (y ∷ ys) zero x at = omega arith
at_within (y ∷ ys) (suc i) x at = omega (arith, at_within ys i x at)

there : (homes : Homes) (i : ℕ) → 1 ≤ absent (get_elem? homes i) → i < length homes
there [] i e = absurd (omega (arith, e))
there (x ∷ hs) zero e = omega arith
there (x ∷ hs) (suc i) e = omega (arith, there hs i e)

-- ---- logs

pub current_here : (i : ℕ) (seen : List Event) → IsReplayed (log_of seen) → IsCurrent i seen seen
current_here i seen replayed =
    record { later = []; grown = refl; replayed = replayed; own = refl }

-- ---- a lane is taken

module _
    (p : Opened) (s : LaneMoment) (rule : IsOneLog p s) (id : ℕ) (me : Me (Option HandleOf) LaneView)
    (at : get_elem? s.views id ≡ some me.0) (lane : ℕ) (within : lane < p.seats) (out : ℕ)
    (is-out : out ≢ 0) (handle : HandleOf) where
  out-taken : Out
  out-taken = record { lane = lane; knew = rule.current lane }

  abbrev taken : LaneView
  taken = record {
    guest = me.0.guest;
    dealer = me.0.dealer;
    seen = me.0.seen;
    map = rule.shared;
    filled = rule.epoch.filled;
    past = rule.epoch.past;
    outs = record { lane = lane; knew = rule.current lane } ∷ me.0.outs;
    account = took handle me.0.account;
  }

  take-keeps :
      absent (get_elem? s.homes lane) ≡ 0
      → IsOneLog p (stepped s (word_of lane) out id me.1 taken (takes lane (Some handle)))
  take-keeps home = record {
    shared = rule.shared;
    epoch = rule.epoch;
    current = rule.current;
    fits = rule.fits;
    room = rule.room;
    asked = asked;
    made = rule.made;
    count = length-set s.homes lane none ∙ rule.count;
    long = length-set s.words (word_of lane) out ∙ rule.long;
    homes = homes;
    words = λ i below. words i below (decided i lane);
    once = λ i. once i (decided i lane);
    held = held;
    knew = knew;
    seen = rule.seen;
    dealt = rule.dealt;
    goes = rule.goes;
    guests = guests;
    one_guest = one-guest;
    fresh = rule.fresh;
    few = rule.few;
    dealer = dealer;
    one_dealer = one-dealer;
  }
    where
      asked :
          (id' : ℕ) (v : LaneView) → get_elem? (slice_set s.views id taken) id' ≡ some v
          → v.account.keys ≤ p.keys
      asked id' v found = by (at_set s.views id id' taken v found)
        where
          by : ((id' ≡ id) × (taken ≡ v)) ⊎ ((id' ≢ id) × (get_elem? s.views id' ≡ some v))
              → v.account.keys ≤ p.keys
          by (inl (_, is)) =
              subst (λ (x : LaneView). x.account.keys ≤ p.keys) is (rule.asked id me.0 at)
          by (inr (_, old)) = rule.asked id' v old

      here : get_elem? (slice_set s.homes lane none) lane ≡ some none
      here = set_here s.homes lane none (omega (arith, within, rule.count))

      homes :
          (i : ℕ) (y : Option HandleOf) → get_elem? (slice_set s.homes lane none) i ≡ some (some y)
          → (handle : HandleOf) × (y ≡ Some handle) × IsLane rule.shared i handle
          × KnowsIn rule.epoch.filled rule.epoch.past handle.seat (rule.current i)
      homes i y found = by (at_set s.homes lane i none (some y) found)
        where
          by : ((i ≡ lane) × (none ≡ some y)) ⊎ ((i ≢ lane) × (get_elem? s.homes i ≡ some (some y)))
              → (handle : HandleOf) × (y ≡ Some handle) × IsLane rule.shared i handle
              × KnowsIn rule.epoch.filled rule.epoch.past handle.seat (rule.current i)
          by (inl (_, never)) = absurd (some-ne-none y (sym never))
          by (inr (_, old)) = rule.homes i y old

      words :
          (i : ℕ) → i < p.seats → Same i lane
          → slice_index (slice_set s.words (word_of lane) out) (word_of i) ≡ 0
          → absent (get_elem? (slice_set s.homes lane none) i) ≡ 0
      words i below (inl (is, _)) home =
          absurd (is-out (sym (get_or-set_same s.words (word_of lane) out 0
          (omega (arith, within, rule.long)))
          ∙ (ap (λ n. slice_index (slice_set s.words (word_of lane) out) (word_of n)) (sym is)
          ∙ home)))
      words i below (inr (other, _)) home =
          ap absent (set_else s.homes lane i none other)
          ∙ rule.words i below (sym (get_or-set_other s.words (word_of lane) (word_of i) out 0
          (apart i lane other)) ∙ home)

      once :
          (i : ℕ) → Same i lane
          → holders i (slice_set s.views id taken)
          ≡ absent (get_elem? (slice_set s.homes lane none) i)
      once i (inl (is, _)) =
          subst (λ n. holders n (slice_set s.views id taken)
          ≡ absent (get_elem? (slice_set s.homes lane none) n)) (sym is)
          (let moved = holders_set lane s.views id me.0 taken at in
          let now : absent (get_elem? (slice_set s.homes lane none) lane) ≡ 1 = ap absent here in
          let more : times_out lane taken.outs ≡ 1 + times_out lane me.0.outs =
          times_here (record { lane = lane; knew = rule.current lane }) me.0.outs in
          omega (arith, moved, more, rule.once lane, home, now))
      once i (inr (other, differ)) =
          let moved = holders_set i s.views id me.0 taken at in
          let same : absent (get_elem? (slice_set s.homes lane none) i)
          ≡ absent (get_elem? s.homes i) = ap absent (set_else s.homes lane i none other) in
          let more : times_out i taken.outs ≡ times_out i me.0.outs =
          times_else i (record { lane = lane; knew = rule.current lane }) me.0.outs differ in
          omega (arith, moved, more, rule.once i, same)

      held :
          (id' : ℕ) (v : LaneView) → get_elem? (slice_set s.views id taken) id' ≡ some v
          → v.outs ≢ []
          → IsOfMap rule.shared rule.epoch v
      held id' v found some-lane = by (at_set s.views id id' taken v found)
        where
          by : ((id' ≡ id) × (taken ≡ v)) ⊎ ((id' ≢ id) × (get_elem? s.views id' ≡ some v))
              → IsOfMap rule.shared rule.epoch v
          by (inl (_, is)) =
              subst (IsOfMap rule.shared rule.epoch) is
              (record { map = refl; filled = refl; past = refl })
          by (inr (_, old)) = rule.held id' v old some-lane

      knew :
          (id' : ℕ) (v : LaneView) (out : Out) → get_elem? (slice_set s.views id taken) id' ≡ some v
          → Has out v.outs → rule.current out.lane ≡ out.knew
      knew id' v out found has = by (at_set s.views id id' taken v found)
        where
          mine : Has out taken.outs → rule.current out.lane ≡ out.knew
          mine (inl is) =
              subst (λ (x : Out). rule.current x.lane ≡ x.knew) is refl
          mine (inr old) = rule.knew id me.0 out at old

          by : ((id' ≡ id) × (taken ≡ v)) ⊎ ((id' ≢ id) × (get_elem? s.views id' ≡ some v))
              → rule.current out.lane ≡ out.knew
          by (inl (_, is)) = mine (subst (λ (x : LaneView). Has out x.outs) (sym is) has)
          by (inr (_, old)) = rule.knew id' v out old has

      -- a token before the step
      was :
          (id' : ℕ) (v : LaneView) → get_elem? (slice_set s.views id taken) id' ≡ some v
          → (x : LaneView) × (get_elem? s.views id' ≡ some x) × (x.guest ≡ v.guest)
          × (x.dealer ≡ v.dealer) × (x.seen ≡ v.seen)
      was id' v found = by (at_set s.views id id' taken v found)
        where
          by : ((id' ≡ id) × (taken ≡ v)) ⊎ ((id' ≢ id) × (get_elem? s.views id' ≡ some v))
              → (x : LaneView) × (get_elem? s.views id' ≡ some x) × (x.guest ≡ v.guest)
              × (x.dealer ≡ v.dealer) × (x.seen ≡ v.seen)
          by (inl (here, is)) = (
            me.0,
            ap (get_elem? s.views) here ∙ at,
            ap (λ (x : LaneView). x.guest) is,
            ap (λ (x : LaneView). x.dealer) is,
            ap (λ (x : LaneView). x.seen) is,
          )
          by (inr (_, old)) = (v, old, refl, refl, refl)

      guests :
          (id' : ℕ) (v : LaneView) (i : ℕ) → get_elem? (slice_set s.views id taken) id' ≡ some v
          → v.guest ≡ Some i → (i < rule.dealt) × (v.seen ≡ rule.seen i)
      guests id' v i found is-guest =
          let x = was id' v found in
          let old = rule.guests id' x.0 i x.1 (x.2 ∙ is-guest) in
          (old.0, sym x.4 ∙ old.1)

      one-guest :
          (id' other : ℕ) (v u : LaneView) (i : ℕ)
          → get_elem? (slice_set s.views id taken) id' ≡ some v
          → get_elem? (slice_set s.views id taken) other ≡ some u → v.guest ≡ Some i
          → u.guest ≡ Some i → id' ≡ other
      one-guest id' other v u i found found' is-guest is-guest' =
          let x = was id' v found in
          let y = was other u found' in
          rule.one_guest id' other x.0 y.0 i x.1 y.1 (x.2 ∙ is-guest) (y.2 ∙ is-guest')

      dealer :
          (id' : ℕ) (v : LaneView) (d : ℕ) → get_elem? (slice_set s.views id taken) id' ≡ some v
          → v.dealer ≡ Some d → d ≡ rule.dealt
      dealer id' v d found deals =
          let x = was id' v found in
          rule.dealer id' x.0 d x.1 (x.3 ∙ deals)

      one-dealer :
          (id' other : ℕ) (v u : LaneView) (d d' : ℕ)
          → get_elem? (slice_set s.views id taken) id' ≡ some v
          → get_elem? (slice_set s.views id taken) other ≡ some u → v.dealer ≡ Some d
          → u.dealer ≡ Some d' → id' ≡ other
      one-dealer id' other v u d d' found found' deals deals' =
          let x = was id' v found in
          let y = was other u found' in
          rule.one_dealer id' other x.0 y.0 d d' x.1 y.1 (x.3 ∙ deals) (y.3 ∙ deals')

module _
    (p : Opened) (s : LaneMoment) (rule : IsOneLog p s) (id : ℕ) (me : Me (Option HandleOf) LaneView)
    (at : get_elem? s.views id ≡ some me.0) (lane : ℕ) (within : lane < p.seats) (out : ℕ)
    (is-out : out ≢ 0) where
  same-state : IsOneLog p (stepped s (word_of lane) (slice_index s.words
      (word_of lane)) id me.1 me.0 keeps)
  same-state =
      subst (λ ws. IsOneLog p (record {
        words = ws;
        homes = s.homes;
        views = slice_set s.views id me.0;
      }))
      (sym (set-get_or s.words (word_of lane) 0))
      (subst (λ vs. IsOneLog p (record { words = s.words; homes = s.homes; views = vs }))
      (sym (set_again s.views id me.0 at)) rule)

  abbrev has-taken : HandleOf → LaneView
  has-taken = taken p s rule id me at lane within out is-out

  abbrev Goes : ℕ → ℕ → Type 0
  Goes slots k = (w : LaneView) × (a : Act (Option HandleOf)) × Valid s.homes me.1 a
      × IsOneLog p (stepped s (word_of lane) k id me.1 w a)
      × Takes (step slots (word_of lane) 0 out none) me (slice_index s.words (word_of lane))
      (w, carried_after me.1 a)

  hit : (slots : ℕ) → length s.homes ≡ slots → slice_index s.words (word_of lane) ≡ 0
      → Goes slots out
  hit slots homes is =
      let home : absent (get_elem? s.homes lane) ≡ 0 = rule.words lane within is in
      let y = present s.homes lane (omega (arith, within, rule.count)) home in
      let lies = rule.homes lane y.0 y.1 in (
        has-taken lies.0,
        takes lane (Some lies.0),
        y.1 ∙ ap (λ z. some (some z)) lies.1,
        take-keeps p s rule id me at lane within out is-out lies.0 home,
        (
          (λ _ other same-word.
              let e : lane ≡ other = omega (arith, same-word) in
              subst (λ l. HasTaken l me (
                has-taken lies.0,
                carried_after me.1 (takes lane (Some lies.0)),
              )
              × FitsLanes slots (has-taken lies.0)) e (
                record {
                  handle = lies.0;
                  knew = rule.current lane;
                  outs = refl;
                  slots = refl;
                  one = lies.2;
                  knows = lies.3;
                  epoch = rule.epoch;
                  begun = (refl, refl);
                  guest = (refl, refl, refl);
                  account = refl;
                  room = slots_fewer rule.shared.chain.shape me.0.account.keys p.keys
                      (rule.asked id me.0 at) rule.room;
                  mine = λ own. subst (λ l. IsCurrent lane l (rule.current lane))
                      (sym (rule.guests id me.0 lane at own).1) (rule.goes lane within);
                  same = λ some-lane.
                      let there-at = rule.held id me.0 at some-lane in
                      (sym there-at.map, sym there-at.filled, sym there-at.past);
                },
                seated lies.0 (sym rule.count ∙ homes),
              )),
          (λ not. absurd (not is)),
        ),
      )
    where
      seated : (handle : HandleOf) → p.seats ≡ slots → FitsLanes slots (has-taken handle)
      seated handle many = record {
        fits = rule.fits ∙ many;
        made = subst (λ n. All (IsOfGuest n) (log_of rule.epoch.past)) many rule.made;
      }

  miss : (slots : ℕ) → slice_index s.words (word_of lane) ≢ 0
      → Goes slots (slice_index s.words (word_of lane))
  miss slots not = (me.0, keeps, tt, same-state, ((λ is. absurd (not is)), (λ _. refl)))

pub take_allowed :
    (p : Opened) (slots id : ℕ) (me : Me (Option HandleOf) LaneView) (lane : ℕ) → lane < p.seats
    → (out : ℕ) → out ≢ 0
    → Allows (IsOneLog p) slots id me (word_of lane) (λ n. either (n == 0) out n)
    (Takes (step slots (word_of lane) 0 out none) me)
take_allowed p slots id me lane within out is-out s rule homes at fits =
    exchanged (slice_index s.words (word_of lane)) 0 out
    (Goes p s rule id me at lane within out is-out slots)
    (hit p s rule id me at lane within out is-out slots homes)
    (miss p s rule id me at lane within out is-out slots)

-- ---- a lane is marked

module _
    (p : Opened) (s : LaneMoment) (rule : IsOneLog p s) (id : ℕ) (v : LaneView)
    (at : get_elem? s.views id ≡ some v) (lane : ℕ) (within : lane < p.seats) where
  with-word : (out : ℕ) → out ≢ 0
      → IsOneLog p (record {
        words = slice_set s.words (word_of lane) out;
        homes = s.homes;
        views = s.views;
      })
  with-word out is-out = record {
    shared = rule.shared;
    epoch = rule.epoch;
    current = rule.current;
    seen = rule.seen;
    dealt = rule.dealt;
    fits = rule.fits;
    room = rule.room;
    asked = rule.asked;
    made = rule.made;
    count = rule.count;
    long = length-set s.words (word_of lane) out ∙ rule.long;
    homes = rule.homes;
    words = λ i below. words i below (decided i lane);
    once = rule.once;
    held = rule.held;
    knew = rule.knew;
    goes = rule.goes;
    guests = rule.guests;
    one_guest = rule.one_guest;
    fresh = rule.fresh;
    few = rule.few;
    dealer = rule.dealer;
    one_dealer = rule.one_dealer;
  }
    where
      words : (i : ℕ) → i < p.seats → Same i lane
          → slice_index (slice_set s.words (word_of lane) out) (word_of i) ≡ 0
          → absent (get_elem? s.homes i) ≡ 0
      words i below (inl (is, _)) home =
          absurd (is-out (sym (get_or-set_same s.words (word_of lane) out 0
          (omega (arith, within, rule.long)))
          ∙ (ap (λ n. slice_index (slice_set s.words (word_of lane) out) (word_of n)) (sym is)
          ∙ home)))
      words i below (inr (other, _)) home =
          rule.words i below (sym (get_or-set_other s.words (word_of lane) (word_of i) out 0
          (apart i lane other)) ∙ home)

  with-view : (out : ℕ)
      → IsOneLog p (record {
        words = slice_set s.words (word_of lane) out;
        homes = s.homes;
        views = s.views;
      })
      → IsOneLog p (record {
        words = slice_set s.words (word_of lane) out;
        homes = s.homes;
        views = slice_set s.views id v;
      })
  with-view out keeps-rule =
      subst (λ vs. IsOneLog p (record {
        words = slice_set s.words (word_of lane) out;
        homes = s.homes;
        views = vs;
      }))
      (sym (set_again s.views id v at)) keeps-rule

pub mark_allowed :
    (p : Opened) (slots id : ℕ) (me : Me (Option HandleOf) LaneView) (lane old new : ℕ)
    → lane < p.seats → new ≢ 0
    → Allows (IsOneLog p) slots id me (word_of lane) (λ n. either (n == old) new n)
    (Marks (step slots (word_of lane) old new none) me)
mark_allowed p slots id me lane old new within is-new s rule homes at fits =
    exchanged (slice_index s.words (word_of lane)) old new Goal
    (λ is. (
      me.0,
      keeps,
      tt,
      with-view p s rule id me.0 at lane within new
          (with-word p s rule id me.0 at lane within new is-new),
      refl,
    ))
    (λ not. (me.0, keeps, tt, same, refl))
  where
    Goal : ℕ → Type 0
    Goal k = (w : LaneView) × (a : Act (Option HandleOf)) × Valid s.homes me.1 a
        × IsOneLog p (stepped s (word_of lane) k id me.1 w a)
        × Marks (step slots (word_of lane) old new none) me (slice_index s.words (word_of lane))
        (w, carried_after me.1 a)

    same : IsOneLog p (stepped s (word_of lane)
        (slice_index s.words (word_of lane)) id me.1 me.0 keeps)
    same = with-view p s rule id me.0 at lane within (slice_index s.words (word_of lane))
        (subst (λ ws. IsOneLog p (record { words = ws; homes = s.homes; views = s.views }))
        (sym (set-get_or s.words (word_of lane) 0)) rule)

-- ---- a lane is given back

-- The structure of the rule lasts, where a lane's handle comes home. What is left to say is what is
-- known then: of the handles that are at home, and of the views.
module _
    (p : Opened) (s : LaneMoment) (rule : IsOneLog p s) (id : ℕ) (v w : LaneView) (lane : ℕ)
    (knew : List Event)
    (handle : HandleOf) (more : List (ℕ × Option HandleOf)) (at : get_elem? s.views id ≡ some v)
    (within : lane < p.seats) (guest : w.guest ≡ v.guest) (deals : w.dealer ≡ v.dealer)
    (keys : w.account.keys ≡ v.account.keys)
    (one-less : (i : ℕ) → times_out i v.outs
    ≡ times_out i (record { lane = lane; knew = knew } ∷ w.outs)) where
  after : LaneMoment
  after = stepped s (word_of lane) 0 id ((lane, Some handle) ∷ more) w gives

  lane-out : Out
  lane-out = record { lane = lane; knew = knew }

  more-here : times_out lane v.outs ≡ 1 + times_out lane w.outs
  more-here = one-less lane ∙ times_here (record { lane = lane; knew = knew }) w.outs

  back-here : get_elem? (slice_set s.homes lane (some (Some handle))) lane
      ≡ some (some (Some handle))
  back-here = set_here s.homes lane (some (Some handle)) (omega (arith, within, rule.count))

  back-words :
      (i : ℕ) → i < p.seats → Same i lane → slice_index (slice_set s.words (word_of lane) 0)
      (word_of i) ≡ 0
      → absent (get_elem? (slice_set s.homes lane (some (Some handle))) i) ≡ 0
  back-words i below (inl (is, _)) home =
      ap (λ n. absent (get_elem? (slice_set s.homes lane (some (Some handle))) n)) is
      ∙ ap absent back-here
  back-words i below (inr (other, _)) home =
      ap absent (set_else s.homes lane i (some (Some handle)) other)
      ∙ rule.words i below (sym (get_or-set_other s.words (word_of lane) (word_of i) 0 0
      (apart i lane other)) ∙ home)

  back-once :
      (i : ℕ) → Same i lane
      → holders i (slice_set s.views id w)
      ≡ absent (get_elem? (slice_set s.homes lane (some (Some handle))) i)
  back-once i (inl (is, _)) =
      subst (λ n. holders n (slice_set s.views id w)
      ≡ absent (get_elem? (slice_set s.homes lane (some (Some handle))) n)) (sym is)
      (let moved = holders_set lane s.views id v w at in
      let now : absent (get_elem? (slice_set s.homes lane (some (Some handle))) lane) ≡ 0 =
      ap absent back-here in
      omega (arith, moved, more-here, rule.once lane, at_most (get_elem? s.homes lane), now))
  back-once i (inr (other, differ)) =
      let moved = holders_set i s.views id v w at in
      let same : absent (get_elem? (slice_set s.homes lane (some (Some handle))) i)
      ≡ absent (get_elem? s.homes i) =
      ap absent (set_else s.homes lane i (some (Some handle)) other) in
      let less = one-less i ∙ times_else i (record { lane = lane; knew = knew }) w.outs differ in
      omega (arith, moved, less, rule.once i, same)

  -- a token before the step
  back-was :
      (id' : ℕ) (u : LaneView) → get_elem? (slice_set s.views id w) id' ≡ some u
      → (x : LaneView) × (get_elem? s.views id' ≡ some x) × (x.guest ≡ u.guest)
      × (x.dealer ≡ u.dealer)
  back-was id' u found = by (at_set s.views id id' w u found)
    where
      by : ((id' ≡ id) × (w ≡ u)) ⊎ ((id' ≢ id) × (get_elem? s.views id' ≡ some u))
          → (x : LaneView) × (get_elem? s.views id' ≡ some x) × (x.guest ≡ u.guest)
          × (x.dealer ≡ u.dealer)
      by (inl (here, is)) = (
        v,
        ap (get_elem? s.views) here ∙ at,
        sym guest ∙ ap (λ (x : LaneView). x.guest) is,
        sym deals ∙ ap (λ (x : LaneView). x.dealer) is,
      )
      by (inr (_, old)) = (u, old, refl, refl)

  back-keeps :
      (m : MapOf) (e : EpochIn) (current seen : ℕ → List Event)
      → m.chain.shape.seats ≡ p.seats → HasSlots p.keys m.chain.shape
      → All (IsOfGuest p.seats) (log_of e.past)
      → IsLane m lane handle → KnowsIn e.filled e.past handle.seat (current lane)
      → ((i : ℕ) (y : Option HandleOf) → i ≢ lane → get_elem? s.homes i ≡ some (some y)
      → (h : HandleOf) × (y ≡ Some h) × IsLane m i h
      × KnowsIn e.filled e.past h.seat (current i))
      → (w.outs ≢ [] → IsOfMap m e w)
      → ((other : ℕ) (u : LaneView) → other ≢ id → get_elem? s.views other ≡ some u → u.outs ≢ []
      → IsOfMap m e u)
      → ((out : Out) → Has out w.outs → current out.lane ≡ out.knew)
      → ((other : ℕ) (u : LaneView) (out : Out) → other ≢ id → get_elem? s.views other ≡ some u
      → Has out u.outs → current out.lane ≡ out.knew)
      → ((i : ℕ) → i < p.seats → IsCurrent i (seen i) (current i))
      → ((i : ℕ) → w.guest ≡ Some i → w.seen ≡ seen i)
      → ((other : ℕ) (u : LaneView) (i : ℕ) → other ≢ id → get_elem? s.views other ≡ some u
      → u.guest ≡ Some i → u.seen ≡ seen i)
      → ((i : ℕ) → rule.dealt ≤ i → seen i ≡ [])
      → IsOneLog p (stepped s (word_of lane) 0 id ((lane, Some handle) ∷ more) w gives)
  back-keeps m e current seen fits room made one knows elsewhere mine-at away-at mine-knew away-knew goes
      mine-seen
      away-seen fresh =
      record {
        shared = m;
        epoch = e;
        current = current;
        fits = fits;
        room = room;
        asked = asked;
        made = made;
        count = length-set s.homes lane (some (Some handle)) ∙ rule.count;
        long = length-set s.words (word_of lane) 0 ∙ rule.long;
        homes = homes;
        words = λ i below. back-words i below (decided i lane);
        once = λ i. back-once i (decided i lane);
        held = held;
        knew = knew-of;
        seen = seen;
        dealt = rule.dealt;
        goes = goes;
        fresh = fresh;
        few = rule.few;
        dealer = λ id' u d found deals'.
            let x = back-was id' u found in
            rule.dealer id' x.0 d x.1 (x.3 ∙ deals');
        one_dealer = λ id' other u x d d' found found' deals' deals''.
            let a = back-was id' u found in
            let b = back-was other x found' in
            rule.one_dealer id' other a.0 b.0 d d' a.1 b.1 (a.3 ∙ deals') (b.3 ∙ deals'');
        guests = guests;
        one_guest = λ id' other u x i found found' is-guest is-guest'.
            let a = back-was id' u found in
            let b = back-was other x found' in
            rule.one_guest id' other a.0 b.0 i a.1 b.1 (a.2 ∙ is-guest) (b.2 ∙ is-guest');
      }
    where
      asked : (id' : ℕ) (u : LaneView) → get_elem? (slice_set s.views id w) id' ≡ some u
          → u.account.keys ≤ p.keys
      asked id' u found = by (at_set s.views id id' w u found)
        where
          by : ((id' ≡ id) × (w ≡ u)) ⊎ ((id' ≢ id) × (get_elem? s.views id' ≡ some u))
              → u.account.keys ≤ p.keys
          by (inl (_, is)) =
              subst (λ (x : LaneView). x.account.keys ≤ p.keys) is
              (subst (λ n. n ≤ p.keys) (sym keys) (rule.asked id v at))
          by (inr (_, old)) = rule.asked id' u old

      Home : ℕ → Option HandleOf → Type 0
      Home i y = (h : HandleOf) × (y ≡ Some h) × IsLane m i h
          × KnowsIn e.filled e.past h.seat (current i)

      homes :
          (i : ℕ) (y : Option HandleOf)
          → get_elem? (slice_set s.homes lane (some (Some handle))) i ≡ some (some y) → Home i y
      homes i y found = by (at_set s.homes lane i (some (Some handle)) (some y) found)
        where
          by : ((i ≡ lane) × (some (Some handle) ≡ some y))
              ⊎ ((i ≢ lane) × (get_elem? s.homes i ≡ some (some y)))
              → Home i y
          by (inl (is, same)) =
              subst (λ n. Home n y) (sym is)
              (handle, sym (some-injective (Some handle) y same), one, knows)
          by (inr (other, old)) = elsewhere i y other old

      held : (id' : ℕ) (u : LaneView) → get_elem? (slice_set s.views id w) id' ≡ some u
          → u.outs ≢ []
          → IsOfMap m e u
      held id' u found some-lane = by (at_set s.views id id' w u found)
        where
          by : ((id' ≡ id) × (w ≡ u)) ⊎ ((id' ≢ id) × (get_elem? s.views id' ≡ some u))
              → IsOfMap m e u
          by (inl (_, is)) =
              subst (IsOfMap m e) is
              (mine-at (λ none-left. some-lane
              (ap (λ (x : LaneView). x.outs) (sym is) ∙ none-left)))
          by (inr (other, old)) = away-at id' u other old some-lane

      knew-of : (id' : ℕ) (u : LaneView) (out : Out) → get_elem? (slice_set s.views id w) id'
          ≡ some u
          → Has out u.outs → current out.lane ≡ out.knew
      knew-of id' u out found has = by (at_set s.views id id' w u found)
        where
          by : ((id' ≡ id) × (w ≡ u)) ⊎ ((id' ≢ id) × (get_elem? s.views id' ≡ some u))
              → current out.lane ≡ out.knew
          by (inl (_, is)) = mine-knew out (subst (λ (x : LaneView). Has out x.outs) (sym is) has)
          by (inr (other, old)) = away-knew id' u out other old has

      guests : (id' : ℕ) (u : LaneView) (i : ℕ) → get_elem? (slice_set s.views id w) id' ≡ some u
          → u.guest ≡ Some i → (i < rule.dealt) × (u.seen ≡ seen i)
      guests id' u i found is-guest =
          let x = back-was id' u found in (
            (rule.guests id' x.0 i x.1 (x.2 ∙ is-guest)).0,
            by (at_set s.views id id' w u found),
          )
        where
          by : ((id' ≡ id) × (w ≡ u)) ⊎ ((id' ≢ id) × (get_elem? s.views id' ≡ some u))
              → u.seen ≡ seen i
          by (inl (_, is)) =
              ap (λ (x : LaneView). x.seen) (sym is)
              ∙ mine-seen i (ap (λ (x : LaneView). x.guest) is ∙ is-guest)
          by (inr (other, old)) = away-seen id' u i other old is-guest

-- ---- what is current in the lanes

-- the logs, of which one lane's is another
abbrev pub with_current : (ℕ → List Event) → ℕ → List Event → ℕ → List Event
with_current current lane whole i = if i == lane then whole else current i

pub with-here :
    (current : ℕ → List Event) (lane : ℕ) (whole : List Event)
    → with_current current lane whole lane ≡ whole
with-here current lane whole = by (decided lane lane)
  where
    by : Same lane lane → with_current current lane whole lane ≡ whole
    by (inl (_, is)) = ap (λ b. if b then whole else current lane) is
    by (inr (not, _)) = absurd (not refl)

pub with-else :
    (current : ℕ → List Event) (lane i : ℕ) (whole : List Event) → i ≢ lane
    → with_current current lane whole i ≡ current i
with-else current lane i whole other = by (decided i lane)
  where
    by : Same i lane → with_current current lane whole i ≡ current i
    by (inl (is, _)) = absurd (other is)
    by (inr (_, differ)) = ap (λ b. if b then whole else current i) differ

pub some-is : (i j : ℕ) → ◌≡◌ {A = Option ℕ} (Some i) (Some j) → i ≡ j
some-is i j e = ap (λ o. unwrap_or o i) e

-- ---- a handle of the same map comes home

module _
    (p : Opened) (s : LaneMoment) (rule : IsOneLog p s) (id : ℕ) (v : LaneView) (lane : ℕ)
    (knew whole : List Event) (outs : List Out) (handle : HandleOf)
    (more : List (ℕ × Option HandleOf)) (at : get_elem? s.views id ≡ some v)
    (within : lane < p.seats) (view : v.outs ≡ record { lane = lane; knew = knew } ∷ outs)
    (one : IsLane v.map lane handle) (knows : KnowsIn v.filled v.past handle.seat whole) where
  is-at : IsOfMap rule.shared rule.epoch v
  is-at = rule.held id v at (λ none-left. absurd (omega (arith, ap length (sym view ∙ none-left))))

  had : Has (record { lane = lane; knew = knew }) v.outs
  had = subst (Has (record { lane = lane; knew = knew })) (sym view) (inl refl)

  was-current : rule.current lane ≡ knew
  was-current = rule.knew id v (record { lane = lane; knew = knew }) at had

  times_out-lane : times_out lane v.outs ≡ 1 + times_out lane outs
  times_out-lane = ap (times_out lane) view ∙ times_here (record { lane = lane; knew = knew }) outs

  few : times_out lane v.outs ≤ 1
  few =
      let have = holders_have lane s.views id v at in
      omega (arith, have, rule.once lane, at_most (get_elem? s.homes lane))

  elsewhere-mine : (out : Out) → Has out outs → out.lane ≢ lane
  elsewhere-mine out has is =
      let again : 1 ≤ times_out lane outs = subst (λ n. 1 ≤ times_out n outs) is
      (has_times out outs has) in
      omega (arith, again, few, times_out-lane)

  elsewhere-away :
      (other : ℕ) (u : LaneView) (out : Out) → other ≢ id → get_elem? s.views other ≡ some u
      → Has out u.outs → out.lane ≢ lane
  elsewhere-away other u out differ at' has is =
      let again : 1 ≤ times_out lane u.outs =
      subst (λ n. 1 ≤ times_out n u.outs) is (has_times out u.outs has) in
      let two = holders_two lane s.views id other v u differ at at' in
      omega (arith, again, two, times_out-lane, rule.once lane, at_most (get_elem? s.homes lane))

  home-keeps :
      (w-seen : List Event) (seen : ℕ → List Event)
      → ((i : ℕ) → i < p.seats → IsCurrent i (seen i) (with_current rule.current lane whole i))
      → ((i : ℕ) → v.guest ≡ Some i → w-seen ≡ seen i)
      → ((other : ℕ) (u : LaneView) (i : ℕ) → other ≢ id → get_elem? s.views other ≡ some u
      → u.guest ≡ Some i → u.seen ≡ seen i)
      → ((i : ℕ) → rule.dealt ≤ i → seen i ≡ [])
      → (account : Account) → account.keys ≡ v.account.keys
      → IsOneLog p
      (stepped s (word_of lane) 0 id ((lane, Some handle) ∷ more)
      (given v outs w-seen account) gives)
  home-keeps w-seen seen goes mine away fresh account keys =
      back-keeps p s rule id v
      (given v outs w-seen account) lane knew handle more at within refl refl keys
      (λ i. ap (times_out i) view) rule.shared rule.epoch
      (with_current rule.current lane whole) seen
      rule.fits rule.room rule.made (record {
        map = one.map ∙ is-at.map;
        number = one.number;
        alone = one.alone;
      })
      (subst (KnowsIn rule.epoch.filled rule.epoch.past handle.seat)
      (sym (with-here rule.current lane whole)) (record {
        later = knows.later;
        here = knows.here ∙ ap (λ (l : List Event). knows.later ++ log_of l) is-at.filled;
        is = knows.is ∙ ap (λ (l : List Event). knows.later ++ log_of l) is-at.past;
        replayed = knows.replayed;
      }))
      (λ i y other old. subst (λ l. (h : HandleOf) × (y ≡ Some h) × IsLane rule.shared i h
      × KnowsIn rule.epoch.filled rule.epoch.past h.seat l)
      (sym (with-else rule.current lane i whole other)) (rule.homes i y old))
      (λ _. record { map = is-at.map; filled = is-at.filled; past = is-at.past })
      (λ other u differ old some-lane. rule.held other u old some-lane)
      (λ out has. with-else rule.current lane out.lane whole (elsewhere-mine out has)
      ∙ rule.knew id v out at (subst (Has out) (sym view) (inr has)))
      (λ other u out differ old has.
      with-else rule.current lane out.lane whole (elsewhere-away other u out differ old has)
      ∙ rule.knew other u out old has)
      goes mine away fresh

  -- by its guest, which has seen all that the handle knows
  give-keeps :
      v.guest ≡ Some lane
      → IsOneLog p
      (stepped s (word_of lane) 0 id ((lane, Some handle) ∷ more)
      (given v outs whole (gave handle v.account)) gives)
  give-keeps is-guest =
      home-keeps whole (with_current rule.seen lane whole) goes mine away fresh
      (gave handle v.account) refl
    where
      dealt : lane < rule.dealt
      dealt = (rule.guests id v lane at is-guest).0

      goes : (i : ℕ) → i < p.seats
          → IsCurrent i (with_current rule.seen lane whole i)
          (with_current rule.current lane whole i)
      goes i below = by (decided i lane)
        where
          by : Same i lane
              → IsCurrent i (with_current rule.seen lane whole i)
              (with_current rule.current lane whole i)
          by (inl (same, _)) =
              subst (λ n. IsCurrent n (with_current rule.seen lane whole n)
              (with_current rule.current lane whole n)) (sym same)
              (subst (λ l. IsCurrent lane l (with_current rule.current lane whole lane))
              (sym (with-here rule.seen lane whole))
              (subst (IsCurrent lane whole) (sym (with-here rule.current lane whole))
              (current_here lane whole knows.replayed)))
          by (inr (other, _)) =
              subst (λ l. IsCurrent i l (with_current rule.current lane whole i))
              (sym (with-else rule.seen lane i whole other))
              (subst (IsCurrent i (rule.seen i)) (sym (with-else rule.current lane i whole other))
              (rule.goes i below))

      mine : (i : ℕ) → v.guest ≡ Some i → whole ≡ with_current rule.seen lane whole i
      mine i is =
          let same : lane ≡ i = some-is lane i (sym is-guest ∙ is) in
          subst (λ n. whole ≡ with_current rule.seen lane whole n) same
          (sym (with-here rule.seen lane whole))

      away : (other : ℕ) (u : LaneView) (i : ℕ) → other ≢ id → get_elem? s.views other ≡ some u
          → u.guest ≡ Some i → u.seen ≡ with_current rule.seen lane whole i
      away other u i differ at' is =
          let elsewhere : i ≢ lane = λ same. differ (rule.one_guest other id u v i at' at is
          (is-guest ∙ ap Some (sym same))) in
          (rule.guests other u i at' is).1 ∙ sym (with-else rule.seen lane i whole elsewhere)

      fresh : (i : ℕ) → rule.dealt ≤ i → with_current rule.seen lane whole i ≡ []
      fresh i past =
          with-else rule.seen lane i whole (λ same. absurd (omega (arith, same, past, dealt)))
          ∙ rule.fresh i past

  -- by who has taken it, and called nothing
  deal-keeps :
      IsCurrent lane knew whole
      → IsOneLog p
      (stepped s (word_of lane) 0 id ((lane, Some handle) ∷ more)
      (given v outs v.seen v.account) gives)
  deal-keeps gone =
      home-keeps v.seen rule.seen goes (λ i is. (rule.guests id v i at is).1)
      (λ other u i differ at' is. (rule.guests other u i at' is).1) rule.fresh v.account refl
    where
      goes : (i : ℕ) → i < p.seats
          → IsCurrent i (rule.seen i) (with_current rule.current lane whole i)
      goes i below = by (decided i lane)
        where
          by : Same i lane → IsCurrent i (rule.seen i) (with_current rule.current lane whole i)
          by (inl (same, _)) =
              subst (IsCurrent i (rule.seen i))
              (sym (ap (with_current rule.current lane whole) same
              ∙ with-here rule.current lane whole))
              (goes_on i (log_of (rule.seen i)) (log_of (rule.current i)) (log_of whole) [] []
              (rule.goes i below)
              (subst (λ n. IsCurrent n (rule.current n) whole) (sym same)
              (subst (λ l. IsCurrent lane l whole) (sym was-current) gone)))
          by (inr (elsewhere, _)) =
              subst (IsCurrent i (rule.seen i))
              (sym (with-else rule.current lane i whole elsewhere))
              (rule.goes i below)

-- ---- a handle of a new map comes home

some_time : (outs : List Out) → outs ≢ [] → (out : Out) × Has out outs
some_time [] not = absurd (not refl)
some_time (out ∷ outs) not = (out, inl refl)

module _
    (p : Opened) (s : LaneMoment) (rule : IsOneLog p s) (id : ℕ) (v : LaneView) (lane : ℕ)
    (knew : List Event)
    (outs : List Out) (handle : HandleOf) (next : EpochIn) (more : List (ℕ × Option HandleOf))
    (at : get_elem? s.views id ≡ some v) (within : lane < p.seats)
    (view : v.outs ≡ record { lane = lane; knew = knew } ∷ outs)
    (number : handle.seat.chain.number ≡ lane) (alone : handle.reserve ≡ [])
    (fits : handle.map.chain.shape.seats ≡ p.seats)
    (room : IsKnownOrHasSlots p.keys v.map handle.map)
    (made : All (IsOfGuest p.seats) (log_of next.past))
    (knows : KnowsIn next.filled next.past handle.seat next.past)
    (all : (i : ℕ) → i < p.seats → 1 ≤ times_out i v.outs)
    (met : (out : Out) → Has out v.outs → HasGoneOnBy out.lane (log_of out.knew)
    (log_of next.past) []) where
  none-home : (i : ℕ) (y : Option HandleOf) → get_elem? s.homes i ≡ some (some y) → ⊥
  none-home i y old =
      let below : i < p.seats = omega (arith, at_within s.homes i (some y) old, rule.count) in
      let none-out : absent (get_elem? s.homes i) ≡ 0 = ap absent old in
      let mine = holders_have i s.views id v at in
      omega (arith, rule.once i, all i below, mine, none-out)

  none-away :
      (other : ℕ) (u : LaneView) (out : Out) → other ≢ id → get_elem? s.views other ≡ some u
      → Has out u.outs → ⊥
  none-away other u out differ old has =
      let again = has_times out u.outs has in
      let two = holders_two out.lane s.views id other v u differ at old in
      let below : out.lane < p.seats =
      omega (
        arith,
        there s.homes out.lane (omega (arith, again, two, rule.once out.lane)),
        rule.count,
      ) in
      omega (
        arith,
        two,
        again,
        all out.lane below,
        rule.once out.lane,
        at_most (get_elem? s.homes out.lane),
      )

  met-by : (i : ℕ) → i < p.seats → IsCurrent i (rule.seen i) next.past
  met-by i below =
      let found = times_has i v.outs (all i below) in
      let current : rule.current i ≡ found.0.knew =
      ap rule.current (sym found.2) ∙ rule.knew id v found.0 at found.1 in
      goes_on i (log_of (rule.seen i)) (log_of (rule.current i)) (log_of next.past) [] []
      (rule.goes i below)
      (subst (λ l. IsCurrent i l next.past) (sym current)
      (subst (λ n. HasGoneOnBy n (log_of found.0.knew) (log_of next.past) []) found.2
      (met found.0 found.1)))

  has-slots : HasSlots p.keys handle.map.chain.shape
  has-slots =
      elim room [
        | inl same ↦
            let was = rule.held id v at (λ none-left. absurd (omega (
              arith,
              ap length (sym view ∙ none-left),
            ))) in
            subst (λ (m : MapOf). HasSlots p.keys m.chain.shape) (sym was.map ∙ sym same) rule.room
        | inr slots ↦ slots
      ]

  anew-keeps :
      IsOneLog p
      (stepped s (word_of lane) 0 id ((lane, Some handle) ∷ more)
      (given_anew v outs handle.map next.filled next.past (began handle v.account)) gives)
  anew-keeps =
      back-keeps p s rule id v (given_anew v outs handle.map next.filled next.past (began handle v.account)) lane knew handle
      more at within refl refl refl
      (λ i. ap (times_out i) view ∙ ap (λ n. if i == lane then 1 + n else n)
      (sym (times_all_knew i next.past outs)))
      handle.map next (λ _. next.past) rule.seen fits has-slots made
      (record { map = refl; number = number; alone = alone })
      knows
      (λ i y other old. absurd (none-home i y old))
      (λ _. record { map = refl; filled = refl; past = refl })
      (λ other u differ old some-lane.
      let out = some_time u.outs some-lane in absurd (none-away other u out.0 differ old out.1))
      (λ out has. has_all_knew out next.past outs has)
      (λ other u out differ old has. absurd (none-away other u out differ old has))
      met-by (λ i is. (rule.guests id v i at is).1)
      (λ other u i differ old is. (rule.guests other u i old is).1) rule.fresh

-- ---- the steps

-- a log as events
pub log-as-events : (entries : List Entry) → log_of (as_events entries) ≡ entries
log-as-events [] = refl
log-as-events (entry ∷ entries) = ap (λ l. entry ∷ l) (log-as-events entries)

take-all : (xs ys : List Entry) → take (length xs) (xs ++ ys) ≡ xs
take-all [] ys = refl
take-all (x ∷ xs) ys = ap (λ l. x ∷ l) (take-all xs ys)

take-first : (later filled : List Entry)
    → take (length (later ++ filled) - length filled) (later ++ filled) ≡ later
take-first later filled =
    ap (λ n. take n (later ++ filled))
    (let long = length-append later filled in
    let is : length (later ++ filled) - length filled ≡ length later = omega (arith, long) in is)
    ∙ take-all later filled

-- what a handle knows is told by its log
pub known-of :
    (filled past : List Event) (seat : SeatOf) (whole : List Event)
    → KnowsIn filled past seat whole
    → (log_of (known_of filled past seat) ≡ log_of whole)
    × KnowsIn filled past seat (known_of filled past seat)
known-of filled past seat whole knows =
    let first : take (length (log seat) - length (log_of filled)) (log seat) ≡ knows.later =
    ap (λ l. take (length l - length (log_of filled)) l) knows.here
    ∙ take-first knows.later (log_of filled) in
    let is : log_of (known_of filled past seat) ≡ knows.later ++ log_of past =
    log-as-events (take (length (log seat) - length (log_of filled)) (log seat) ++ log_of past)
    ∙ ap (λ l. l ++ log_of past) first in (
      is ∙ sym knows.is,
      record {
        later = knows.later;
        here = knows.here;
        is = is;
        replayed = subst IsReplayed (knows.is ∙ sym is) knows.replayed;
      },
    )

pub give_allowed :
    (p : Opened) (slots id : ℕ) (me : Me (Option HandleOf) LaneView) (lane : ℕ)
    (knew whole : List Event)
    (handle : HandleOf) → lane < p.seats → Holds lane knew whole handle me
    → me.0.guest ≡ Some lane
    → Allows (IsOneLog p) slots id me (word_of lane) (λ _. 0)
    (λ _. Gives (step slots (word_of lane) 0 0 none) me 0)
give_allowed p slots id me lane knew whole handle within holds is-guest =
    subst (λ (c : List (ℕ × Option HandleOf)). Allows (IsOneLog p) slots id (me.0, c) (word_of lane)
    (λ _. 0)
    (λ _. Gives (step slots (word_of lane) 0 0 none) (me.0, c) 0)) (sym holds.slot)
    (λ s rule homes at fits. (
      given me.0 holds.outs (known_of me.0.filled me.0.past handle.seat) (gave handle me.0.account),
      gives,
      tt,
      give-keeps p s rule id me.0 lane knew (known_of me.0.filled me.0.past handle.seat) holds.outs
          handle (rest me.1) at within holds.view holds.one
          (known-of me.0.filled me.0.past handle.seat whole holds.knows).1 is-guest,
      (
        ap (λ outs. given me.0 (rest_outs outs) (known_of me.0.filled me.0.past handle.seat)
            (gave handle me.0.account))
            (sym holds.view),
        refl,
      ),
    ))

pub deal_allowed :
    (p : Opened) (slots id : ℕ) (me : Me (Option HandleOf) LaneView) (lane : ℕ)
    (knew whole : List Event)
    (handle : HandleOf) → lane < p.seats → Holds lane knew whole handle me
    → IsCurrent lane knew whole
    → Allows (IsOneLog p) slots id me (word_of lane) (λ _. 0)
    (λ _. Deals (step slots (word_of lane) 0 0 none) me 0)
deal_allowed p slots id me lane knew whole handle within holds gone =
    subst (λ (c : List (ℕ × Option HandleOf)). Allows (IsOneLog p) slots id (me.0, c) (word_of lane)
    (λ _. 0)
    (λ _. Deals (step slots (word_of lane) 0 0 none) (me.0, c) 0)) (sym holds.slot)
    (λ s rule homes at fits. (
      given me.0 holds.outs me.0.seen me.0.account,
      gives,
      tt,
      deal-keeps p s rule id me.0 lane knew whole holds.outs handle (rest me.1) at within holds.view
          holds.one holds.knows gone,
      (ap (λ outs. given me.0 (rest_outs outs) me.0.seen me.0.account) (sym holds.view), refl),
    ))

-- who knows just what its map went on from has the log that filled it
pub anew-log :
    (next : EpochIn) (seat : SeatOf) → KnowsIn next.filled next.past seat next.past
    → log seat ≡ log_of next.filled
anew-log next seat knows =
    let none-later : knows.later ≡ [] =
    append_cancel_right knows.later [] (log_of next.past) (sym knows.is) in
    knows.here ∙ ap (λ l. l ++ log_of next.filled) none-later

pub anew_allowed :
    (p : Opened) (slots id : ℕ) (me : Me (Option HandleOf) LaneView) (lane : ℕ) (knew : List Event)
    (handle : HandleOf) (next : EpochIn) → lane < p.seats → HoldsAnew p lane knew handle next me
    → Allows (IsOneLog p) slots id me (word_of lane) (λ _. 0)
    (λ _. Renews (step slots (word_of lane) 0 0 none) me 0)
anew_allowed p slots id me lane knew handle next within holds =
    subst (λ (c : List (ℕ × Option HandleOf)). Allows (IsOneLog p) slots id (me.0, c) (word_of lane)
    (λ _. 0)
    (λ _. Renews (step slots (word_of lane) 0 0 none) (me.0, c) 0)) (sym holds.slot)
    (λ s rule homes at fits. (
      given_anew me.0 holds.outs handle.map next.filled next.past (began handle me.0.account),
      gives,
      tt,
      anew-keeps p s rule id me.0 lane knew holds.outs handle next (rest me.1) at within holds.view
          holds.number holds.alone holds.fits holds.room holds.made holds.knows holds.all holds.met,
      (
        next,
        anew-log next handle.seat holds.knows,
        holds.met,
        ap (λ outs. given_anew me.0 (rest_outs outs) handle.map next.filled next.past
            (began handle me.0.account))
            (sym holds.view),
        refl,
      ),
    ))

-- ---- at the start

none_out : (handles : List HandleOf) (i : ℕ) → absent (get_elem? (map some (map Some handles)) i)
    ≡ 0
none_out [] i = refl
none_out (h ∷ hs) zero = refl
none_out (h ∷ hs) (suc i) = none_out hs i

house_at :
    (handles : List HandleOf) (i : ℕ) (y : Option HandleOf)
    → get_elem? (map some (map Some handles)) i ≡ some (some y)
    → (h : HandleOf) × (y ≡ Some h) × (slice_get handles i ≡ Some h)
house_at [] i y at = absurd (some-ne-none (some y) (sym at))
house_at (h ∷ hs) zero y at =
    (h, sym (some-injective (Some h) y (some-injective (some (Some h)) (some y) at)), refl)
house_at (h ∷ hs) (suc i) y at = house_at hs i y at

one_view : (v : LaneView) (id : ℕ) (u : LaneView) → get_elem? (v ∷ []) id ≡ some u → (id ≡ 0)
    × (v ≡ u)
one_view v zero u at = (refl, some-injective v u at)
one_view v (suc id) u at = absurd (some-ne-none u (sym at))

pub opens :
    (p : Opened) (m : MapOf) (handles : List HandleOf) (slots : List (Option HandleOf))
    (words : List ℕ) → m.chain.shape.seats ≡ p.seats → HasSlots p.keys m.chain.shape
    → length handles ≡ p.seats
    → ((i : ℕ) (h : HandleOf) → slice_get handles i ≡ Some h → IsLane m i h × (log h.seat ≡ []))
    → slots ≡ map Some handles → words ≡ replicate (8 * p.seats) 0
    → IsOneLog p (opening words slots (first_lane_view p))
opens p m handles slots words fits room count each is zeros =
    subst (λ xs. IsOneLog p (opening words xs (first_lane_view p))) (sym is)
    (subst (λ ws. IsOneLog p (opening ws (map Some handles) (first_lane_view p))) (sym zeros)
    (record {
      shared = m;
      epoch = record { filled = []; past = []; replayed = tt; same = refl };
      current = λ _. [];
      seen = λ _. [];
      dealt = 0;
      fits = fits;
      room = room;
      asked = λ id v at. subst (λ (u : LaneView). u.account.keys ≤ p.keys)
          (one_view (first_lane_view p) id v at).1 (omega arith);
      made = All-nil (IsOfGuest p.seats);
      count = omega (arith, length-map (map Some handles) some, length-map handles Some, count);
      long = length-replicate (8 * p.seats) 0;
      homes = λ i y at.
          let h = house_at handles i y at in
          let lane = each i h.0 h.2 in
          (h.0, h.1, lane.0, record { later = []; here = lane.1; is = refl; replayed = tt });
      words = λ i below home. none_out handles i;
      once = λ i. sym (none_out handles i);
      held = λ id v at some-lane. absurd (some-lane (sym (ap (λ (u : LaneView). u.outs)
          (one_view (first_lane_view p) id v at).1)));
      knew = λ id v out at has. absurd (subst (λ (u : LaneView). Has out u.outs)
          (sym (one_view (first_lane_view p) id v at).1) has);
      goes = λ i below. current_here i [] tt;
      guests = λ id v i at is-guest.
          let none-is : ◌≡◌ {A = Option ℕ} None (Some i) =
          ap (λ (u : LaneView). u.guest) (one_view (first_lane_view p) id v at).1 ∙ is-guest in
          absurd cc;
      one_guest = λ id other v u i at at' is-guest is-guest'.
          (one_view (first_lane_view p) id v at).0
          ∙ sym (one_view (first_lane_view p) other u at').0;
      fresh = λ i past. refl;
      few = omega arith;
      dealer = λ id v d at deals.
          some-is d 0 (sym deals ∙ sym (ap (λ (u : LaneView). u.dealer)
          (one_view (first_lane_view p) id v at).1));
      one_dealer = λ id other v u d d' at at' deals deals'.
          (one_view (first_lane_view p) id v at).0
          ∙ sym (one_view (first_lane_view p) other u at').0;
    }))

-- ---- another token

pub holders_more :
    (i : ℕ) (views : List LaneView) (v : LaneView) → v.outs ≡ []
    → holders i (views ++ v ∷ []) ≡ holders i views
holders_more i [] v none-held = let e = ap (times_out i) none-held in omega (arith, e)
holders_more i (x ∷ xs) v none-held = omega (arith, holders_more i xs v none-held)

pub holders_same :
    (i : ℕ) (views : List LaneView) (id : ℕ) (v w : LaneView) → get_elem? views id ≡ some v
    → w.outs ≡ v.outs → holders i (slice_set views id w) ≡ holders i views
holders_same i views id v w at same =
    let moved = holders_set i views id v w at in
    let e = ap (times_out i) same in
    omega (arith, moved, e)

module _
    (p : Opened) (id : ℕ) (v : LaneView) (d : ℕ) (deals : v.dealer ≡ Some d) (room : d < p.seats)
    (s : LaneMoment) (rule : IsOneLog p s) (at : get_elem? s.views id ≡ some v) where
  abbrev views-then : List LaneView
  views-then = slice_set s.views id (dealer_left v) ++ new_guest v ∷ []

  d-is : d ≡ rule.dealt
  d-is = rule.dealer id v d at deals

  -- a view then is a former one, but for what it deals, or the new guest's
  was-view :
      (other : ℕ) (u : LaneView) → get_elem? views-then other ≡ some u
      → ((x : LaneView) × (get_elem? s.views other ≡ some x) × (x.guest ≡ u.guest)
      × (x.seen ≡ u.seen) × (x.outs ≡ u.outs)
      × ((x.map ≡ u.map) × (x.filled ≡ u.filled) × (x.past ≡ u.past))
      × (((other ≡ id) × (u.dealer ≡ Some (suc d))) ⊎ ((other ≢ id) × (x.dealer ≡ u.dealer)))
      × (x.account ≡ u.account))
      ⊎ ((other ≡ length s.views) × (new_guest v ≡ u))
  was-view other u found = by (at_end (slice_set s.views id (dealer_left v))
      (new_guest v) u other found)
    where
      at_end :
          (views : List LaneView) (w u : LaneView) (i : ℕ) → get_elem? (views ++ w ∷ []) i ≡ some u
          → (get_elem? views i ≡ some u) ⊎ ((i ≡ length views) × (w ≡ u))
      at_end [] w u zero found = inr (refl, some-injective w u found)
      at_end [] w u (suc i) found = absurd (some-ne-none u (sym found))
      at_end (x ∷ xs) w u zero found = inl found
      at_end (x ∷ xs) w u (suc i) found = later (at_end xs w u i found)
        where
          later : (get_elem? xs i ≡ some u) ⊎ ((i ≡ length xs) × (w ≡ u))
              → (get_elem? xs i ≡ some u) ⊎ ((suc i ≡ suc (length xs)) × (w ≡ u))
          later (inl old) = inl old
          later (inr (is, same)) = inr (ap suc is, same)

      Old : Type 0
      Old = (x : LaneView) × (get_elem? s.views other ≡ some x) × (x.guest ≡ u.guest)
          × (x.seen ≡ u.seen) × (x.outs ≡ u.outs)
          × ((x.map ≡ u.map) × (x.filled ≡ u.filled) × (x.past ≡ u.past))
          × (((other ≡ id) × (u.dealer ≡ Some (suc d))) ⊎ ((other ≢ id) × (x.dealer ≡ u.dealer)))
          × (x.account ≡ u.account)

      old : ((other ≡ id) × (dealer_left v ≡ u))
          ⊎ ((other ≢ id) × (get_elem? s.views other ≡ some u))
          → Old
      old (inl (here, is)) = (
        v,
        ap (get_elem? s.views) here ∙ at,
        ap (λ (x : LaneView). x.guest) is,
        ap (λ (x : LaneView). x.seen) is,
        ap (λ (x : LaneView). x.outs) is,
        (
          ap (λ (x : LaneView). x.map) is,
          ap (λ (x : LaneView). x.filled) is,
          ap (λ (x : LaneView). x.past) is,
        ),
        inl (here, sym (ap (λ (x : LaneView). x.dealer) is) ∙ ap next_dealer deals),
        ap (λ (x : LaneView). x.account) is,
      )
      old (inr (differ, is)) = (u, is, refl, refl, refl, (refl, refl, refl), inr (differ, refl), refl)

      by : (get_elem? (slice_set s.views id (dealer_left v)) other ≡ some u)
          ⊎ ((other ≡ length (slice_set s.views id (dealer_left v))) × (new_guest v ≡ u))
          → Old ⊎ ((other ≡ length s.views) × (new_guest v ≡ u))
      by (inl found) = inl (old (at_set s.views id other (dealer_left v) u found))
      by (inr (last, is)) = inr (last ∙ length-set s.views id (dealer_left v), is)

  fork-keeps :
      IsOneLog p (record {
        words = s.words;
        homes = s.homes;
        views = slice_set s.views id (dealer_left v) ++ new_guest v ∷ [];
      })
  fork-keeps = record {
    shared = rule.shared;
    epoch = rule.epoch;
    current = rule.current;
    seen = rule.seen;
    dealt = suc d;
    fits = rule.fits;
    room = rule.room;
    asked = asked;
    made = rule.made;
    count = rule.count;
    long = rule.long;
    homes = rule.homes;
    words = rule.words;
    once = λ i.
        holders_more i (slice_set s.views id (dealer_left v)) (new_guest v) refl
        ∙ holders_same i s.views id v (dealer_left v) at refl ∙ rule.once i;
    held = held;
    knew = knew-of;
    goes = rule.goes;
    guests = guests;
    one_guest = one-guest;
    fresh = λ i past. rule.fresh i (omega (arith, past, d-is));
    few = omega (arith, room);
    dealer = dealer;
    one_dealer = one-dealer;
  }
    where
      asked : (other : ℕ) (u : LaneView) → get_elem? views-then other ≡ some u
          → u.account.keys ≤ p.keys
      asked other u found =
          elim (was-view other u found) [
            | inl x ↦
                subst (λ (a : Account). a.keys ≤ p.keys) x.7 (rule.asked other x.0 x.1)
            | inr new ↦
                subst (λ (x : LaneView). x.account.keys ≤ p.keys) new.1 (rule.asked id v at)
          ]

      held : (other : ℕ) (u : LaneView) → get_elem? views-then other ≡ some u → u.outs ≢ []
          → IsOfMap rule.shared rule.epoch u
      held other u found some-lane =
          elim (was-view other u found) [
            | inl x ↦
                let was = rule.held other x.0 x.1 (λ none-left. some-lane (sym x.4 ∙ none-left)) in
                record {
                  map = sym x.5.0 ∙ was.map;
                  filled = sym x.5.1 ∙ was.filled;
                  past = sym x.5.2 ∙ was.past;
                }
            | inr new ↦ absurd (some-lane (sym (ap (λ (x : LaneView). x.outs) new.1)))
          ]

      knew-of : (other : ℕ) (u : LaneView) (out : Out) → get_elem? views-then other ≡ some u
          → Has out u.outs → rule.current out.lane ≡ out.knew
      knew-of other u out found has =
          elim (was-view other u found) [
            | inl x ↦ rule.knew other x.0 out x.1 (subst (Has out) (sym x.4) has)
            | inr new ↦ absurd (subst (Has out) (sym (ap (λ (x : LaneView). x.outs) new.1)) has)
          ]

      guests : (other : ℕ) (u : LaneView) (i : ℕ) → get_elem? views-then other ≡ some u
          → u.guest ≡ Some i → (i < suc d) × (u.seen ≡ rule.seen i)
      guests other u i found is-guest =
          elim (was-view other u found) [
            | inl x ↦
                let was = rule.guests other x.0 i x.1 (x.2 ∙ is-guest) in
                (omega (arith, was.0, d-is), sym x.3 ∙ was.1)
            | inr new ↦
                let is : d ≡ i =
                some-is d i (sym deals ∙ (ap (λ (x : LaneView). x.guest) new.1 ∙ is-guest)) in (
                  omega (arith, is),
                  sym (ap (λ (x : LaneView). x.seen) new.1)
                      ∙ sym (rule.fresh i (omega (arith, is, d-is))),
                )
          ]

      -- a former guest is below the new one
      below : (other : ℕ) (x : LaneView) (i : ℕ) → get_elem? s.views other ≡ some x → x.guest
          ≡ Some i
          → i < d
      below other x i found is-guest =
          let was = (rule.guests other x i found is-guest).0 in omega (arith, was, d-is)

      new-is : (u : LaneView) (i : ℕ) → new_guest v ≡ u → u.guest ≡ Some i → d ≡ i
      new-is u i is is-guest =
          some-is d i (sym deals ∙ (ap (λ (x : LaneView). x.guest) is ∙ is-guest))

      one-guest :
          (one other : ℕ) (u w : LaneView) (i : ℕ) → get_elem? views-then one ≡ some u
          → get_elem? views-then other ≡ some w → u.guest ≡ Some i → w.guest ≡ Some i
          → one ≡ other
      one-guest one other u w i found found' is-guest is-guest' =
          elim (was-view one u found) [
            | inl x ↦ elim (was-view other w found') [
              | inl y ↦ rule.one_guest one other x.0 y.0 i x.1 y.1 (x.2 ∙ is-guest)
                  (y.2 ∙ is-guest')
              | inr new ↦
                  let less = below one x.0 i x.1 (x.2 ∙ is-guest) in
                  let is = new-is w i new.1 is-guest' in
                  absurd (omega (arith, less, is))
            ]
            | inr new ↦ elim (was-view other w found') [
              | inl y ↦
                  let less = below other y.0 i y.1 (y.2 ∙ is-guest') in
                  let is = new-is u i new.1 is-guest in
                  absurd (omega (arith, less, is))
              | inr new' ↦ new.0 ∙ sym new'.0
            ]
          ]

      -- who deals is the one who dealt
      who : (other : ℕ) (u : LaneView) (e : ℕ) → get_elem? views-then other ≡ some u
          → u.dealer ≡ Some e → (other ≡ id) × (e ≡ suc d)
      who other u e found deals' =
          elim (was-view other u found) [
            | inl x ↦ elim x.6 [
              | inl here ↦ (here.0, some-is e (suc d) (sym deals' ∙ here.1))
              | inr away ↦ absurd (away.0 (rule.one_dealer other id x.0 v e d x.1 at
                  (away.1 ∙ deals') deals))
            ]
            | inr new ↦
                let none-is : ◌≡◌ {A = Option ℕ} None (Some e) =
                ap (λ (x : LaneView). x.dealer) new.1 ∙ deals' in
                absurd cc
          ]

      dealer : (other : ℕ) (u : LaneView) (e : ℕ) → get_elem? views-then other ≡ some u
          → u.dealer ≡ Some e → e ≡ suc d
      dealer other u e found deals' = (who other u e found deals').1

      one-dealer :
          (one other : ℕ) (u w : LaneView) (e e' : ℕ) → get_elem? views-then one ≡ some u
          → get_elem? views-then other ≡ some w → u.dealer ≡ Some e → w.dealer ≡ Some e'
          → one ≡ other
      one-dealer one other u w e e' found found' deals' deals'' =
          (who one u e found deals').0 ∙ sym (who other w e' found' deals'').0

pub forks :
    (p : Opened) (id : ℕ) (v : LaneView) (d : ℕ) → v.dealer ≡ Some d → d < p.seats
    → Splits (IsOneLog p) id v (dealer_left v) (new_guest v)
forks p id v d deals room s rule at = fork-keeps p id v d deals room s rule at
