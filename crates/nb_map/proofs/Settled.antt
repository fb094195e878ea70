-- The seats of a map are settled: what they know, and how they are put together again.
use Rattle.std.proofs.Common.{◌≡◌, ◌∙◌, ℕ, ◌≤◌, ◌<◌, ◌==◌, ap, sym, subst, subst₂, refl, List, [], ◌∷◌, ◌++◌, All, drop, length, map, reverse, arith}
use Rattle.std.specs.List.{AllZip, count_by}
use Rattle.std.proofs.lemmas.List.Elements.{All-cons, All-head, All-map, All-nil, All-tail, All-weaker, filter_map-append}
use Rattle.nb_core.proofs.Seating.{AreMoved, count-map}
use Rattle.nb_core.proofs.Theorems.{calls_append, log_is_replayed, seen_lasts}
use Rattle.nb_core.specs.Log.{Entry, calls_of, entry_of, log_of}
use Rattle.nb_core.specs.Meaning.{net_of}
use Rattle.nb_core.specs.Plans.{IsPlan, Plan}
use Rattle.nb_core.specs.Tables.{tables_at, words_of}
use Rattle.nb_core.specs.History.{IsLegal}
use Rattle.nb_core.specs.declared.events.Event.{Event}
use Rattle.nb_count.specs.Counts.{CountSeatOf, total_of}
use Rattle.nb_count.specs.Tallies.{wrapped}
use Rattle.nb_table.specs.Chains.{SeenBy}
use Rattle.nb_table.specs.Gathered.{ClosedWith}
use Rattle.nb_table.specs.Left.{ClosedOf}
use Rattle.nb_table.specs.Settling.{Settled, at_rest, caught_up}
use Rattle.nb_table.specs.Views.{HasSeen}
use Rattle.nb_table.proofs.Theorems.{own-none, settled_as_closed}
use Rattle.nb_table.proofs.Theorems as chain
use Rattle.std.proofs.lemmas.Int.{ints}
use Rattle.nb_map.specs.inside.Models.{IsParted}
use Rattle.nb_map.specs.Logs.{log}
use Rattle.nb_map.specs.Maps.{AreMine, HasCounted, IsMine, MapOf, SeatOf}
use Rattle.nb_map.specs.Settling.{HasCaughtUp, HaveSettled, SettledIsEnded, SettledTwice}
use Rattle.nb_map.proofs.Sizes.{AreGathered, ended-with, is-ended, seen}
use Rattle.nb_map.proofs.Tried.{calls-others}

-- ---- putting together

-- With what is left of the chain's and of the counter's seats, those that are put together so far
-- are all of them.
pub record ArePairing (chains : List SeenBy) (counts : List CountSeatOf)
    (chains' : List SeenBy) (counts' : List CountSeatOf) (seats : List SeatOf) : Type 0 where
  pub in_chain : AreMoved (λ seat. seat.chain) chains chains' (reverse seats)
  pub in_counter : AreMoved (λ seat. seat.count) counts counts' (reverse seats)

-- ---- what is known

-- a seat that has seen all is the map's still
one-caught_up :
    (m : MapOf) (h : List Event) (s s' : SeatOf) → IsPlan m.chain.shape → IsLegal m.chain.shape h
    → s'.chain ≡ caught_up m.chain.shape h s.chain → s'.count ≡ s.count
    → HasSeen h s.chain.number s.chain.seen → IsMine m s → HasCaughtUp m (log_of h) s s'
one-caught_up m h s s' plan legal chain count has mine =
    subst₂ (λ (c : SeenBy) (k : CountSeatOf).
    HasCaughtUp m (log_of h) s (record { chain = c; count = k }))
    (sym chain) (sym count) (record {
      knows = refl;
      logged = record {
        number = refl;
        later = log_of has.later;
        grown = grown;
        replayed = (log_is_replayed m.chain.shape plan h legal).replayed;
        own = none;
      };
      grows = record {
        chain = refl;
        number = refl;
        later = has.later;
        seen = has.is;
        own_are = own-none s.chain.number has.later has.others;
        legal = legal;
        steps = omega arith;
        remembers = record {
          rises = omega (arith, mine.chain.known, rises);
          known = λ _ _. omega arith;
        };
      };
      count = refl;
      own = record {
        chain = record {
          at = mine.chain.at;
          plan = plan;
          legal = legal;
          known = omega arith;
        };
        counter = mine.counter;
        counted = mine.counted ∙ ap net_of (sym same);
      };
    })
  where
    rises : (tables_at m.chain.shape s.chain.seen).top ≤ (tables_at m.chain.shape h).top
    rises =
        subst (λ x. (tables_at m.chain.shape s.chain.seen).top ≤ (tables_at m.chain.shape x).top)
        (sym has.is)
        ((seen_lasts m.chain.shape plan has.later s.chain.seen
        (subst (IsLegal m.chain.shape) has.is legal)).top)

    none : calls_of s.chain.number (log_of has.later) ≡ []
    none = calls-others s.chain.number has.later has.others

    grown : log_of h ≡ log_of has.later ++ log s
    grown = ap log_of has.is ∙ filter_map-append entry_of has.later s.chain.seen

    same : calls_of s.chain.number (log_of h) ≡ calls_of s.chain.number (log s)
    same = ap (calls_of s.chain.number) grown
        ∙ calls_append s.chain.number (log_of has.later) (log s)
        ∙ ap (λ calls. calls ++ calls_of s.chain.number (log s)) none

-- and so are all
all-caught_up :
    (m : MapOf) (h : List Event) (before after : List SeatOf) → IsPlan m.chain.shape
    → IsLegal m.chain.shape h
    → map (λ seat. seat.chain) after
    ≡ map (caught_up m.chain.shape h) (map (λ seat. seat.chain) before)
    → map (λ seat. seat.count) after ≡ map (λ seat. seat.count) before
    → All (λ seat. HasSeen h seat.chain.number seat.chain.seen) before
    → AreMine m before → AllZip (HasCaughtUp m (log_of h)) before after
all-caught_up m h [] [] plan legal chains counts has mine = tt
all-caught_up m h [] (s' ∷ after) plan legal chains counts has mine =
    absurd (omega (arith, ap length chains))
all-caught_up m h (s ∷ before) [] plan legal chains counts has mine =
    absurd (omega (arith, ap length chains))
all-caught_up m h (s ∷ before) (s' ∷ after) plan legal chains counts has mine =
    let P : SeatOf → Type 0 = λ seat. HasSeen h seat.chain.number seat.chain.seen in
    let chain : s'.chain ≡ caught_up m.chain.shape h s.chain = cc in
    let count : s'.count ≡ s.count = cc in (
      one-caught_up m h s s' plan legal chain count (All-head P s before has)
          (All-head (IsMine m) s before mine),
      all-caught_up m h before after plan legal (ap (drop 1) chains) (ap (drop 1) counts)
          (All-tail P s before has) (All-tail (IsMine m) s before mine),
    )

-- so they are the map's still
pub each-mine :
    (m : MapOf) (whole : List Entry) (before after : List SeatOf)
    → AllZip (HasCaughtUp m whole) before after → AreMine m after
each-mine m whole [] [] each = All-nil (IsMine m)
each-mine m whole [] (s' ∷ after) each = absurd each
each-mine m whole (s ∷ before) [] each = absurd each
each-mine m whole (s ∷ before) (s' ∷ after) each =
    All-cons (IsMine m) s' after each.0.own (each-mine m whole before after each.1)

-- the seats of the chain were settled, and put together again with those of the counter
pub have-settled :
    (m : MapOf) → IsPlan m.chain.shape → (before after : List SeatOf) (chains chains' : List SeenBy)
    (counts : List CountSeatOf) (size : ℕ)
    → IsParted before chains counts → IsParted after chains' counts
    → Settled m.chain.shape chains chains' → length before ≡ m.chain.shape.seats
    → AreMine m before → size ≡ wrapped (total_of counts) → HaveSettled m before after size
have-settled m plan before after chains chains' counts size parted parted' s all mine sum =
    let p = m.chain.shape in
    let closed = settled_as_closed p plan chains chains' s in
    let gathered : AreGathered p before chains counts (at_rest p s.history) = record {
      parted = parted;
      shape = refl;
      closed_with = closed;
      all = all;
      counted = All-weaker (IsMine m) HasCounted (λ seat is. is.counted) before mine;
    } in
    let all_seen = seen p before chains counts (at_rest p s.history) gathered in
    let are : map (λ (seat : SeatOf). seat.chain) after
    ≡ map (caught_up p s.history) (map (λ (seat : SeatOf). seat.chain) before)
    = sym parted'.of_chain ∙ s.is ∙ ap (map (caught_up p s.history)) parted.of_chain in
    let same = sym parted'.of_counter ∙ parted.of_counter in
    record {
      tables = record {
        history = s.history;
        legal = s.legal;
        seen = subst (All (λ seat. HasSeen s.history seat.number seat.seen)) parted.of_chain s.seen;
        is = are;
        once = λ n below. subst (λ (xs : List SeenBy). count_by (λ seat. seat.number == n) xs ≡ 1)
            parted.of_chain (s.once n below);
      };
      ended = ended-with p before chains counts (at_rest p s.history) gathered size sum;
      left = record { shape = refl; left = closed.left; seen = all_seen };
      keys = is-ended p before chains counts (at_rest p s.history) gathered size sum;
      each = all-caught_up m s.history before after plan s.legal are same all_seen mine;
    }

-- ---- twice

-- what the seats have counted stays
same-counts :
    (m : MapOf) (whole : List Entry) (before after : List SeatOf)
    → AllZip (HasCaughtUp m whole) before after
    → map (λ seat. seat.count) after ≡ map (λ seat. seat.count) before
same-counts m whole [] [] each = refl
same-counts m whole [] (s' ∷ after) each = absurd each
same-counts m whole (s ∷ before) [] each = absurd each
same-counts m whole (s ∷ before) (s' ∷ after) each =
    λ i. each.0.count i ∷ same-counts m whole before after each.1 i

-- seats with the same seats of the chain and of the counter are the same
same-seats :
    (xs ys : List SeatOf) → map (λ seat. seat.chain) xs ≡ map (λ seat. seat.chain) ys
    → map (λ seat. seat.count) xs ≡ map (λ seat. seat.count) ys → xs ≡ ys
same-seats [] [] chains counts = refl
same-seats [] (y ∷ ys) chains counts = absurd (omega (arith, ap length chains))
same-seats (x ∷ xs) [] chains counts = absurd (omega (arith, ap length chains))
same-seats (x ∷ xs) (y ∷ ys) chains counts =
    let chain : x.chain ≡ y.chain = cc in
    let count : x.count ≡ y.count = cc in
    let rest = same-seats xs ys (ap (drop 1) chains) (ap (drop 1) counts) in
    λ i. record { chain = chain i; count = count i } ∷ rest i

-- the second time changes nothing
pub settled_twice : SettledTwice
settled_twice m before after again size size' s t =
    let p = m.chain.shape in
    let chains = chain.settled_twice p s.left.left.plan _ _ _ s.tables t.tables in
    let first = same-counts m _ before after s.each in (
      same-seats again after chains (same-counts m _ after again t.each),
      omega (arith, ints, s.ended.counted, t.ended.counted, ap total_of first),
    )

-- ---- and then finished

-- the history that is left is the one that they settled on
settled-history :
    (p : Plan) (before after : List SeenBy) (closed : ClosedOf) → closed.shape ≡ p
    → (s : Settled p before after) → ClosedWith after closed → closed.history ≡ s.history
settled-history p before after closed shape =
    let P : Plan → Type 0 = λ p. (s : Settled p before after) → ClosedWith after closed
    → closed.history ≡ s.history in
    subst P shape (λ s left. chain.settled_is_left before after closed s left)

-- so are the words, and the number of keys
pub settled_is_ended : SettledIsEnded
settled_is_ended m before after size ended s all with left =
    let p = m.chain.shape in
    let closed : ClosedWith (map (λ seat. seat.chain) after) ended.tables = record {
      left = left.left;
      seen = All-map (λ seat. HasSeen ended.tables.history seat.number seat.seen)
          (λ seat. seat.chain) after left.seen;
      once = λ n below. count-map (λ seat. seat.number == n) (λ seat. seat.chain) after
          ∙ with.once n (subst (λ seats. n < seats) (sym all)
          (subst (λ (p : Plan). n < p.seats) left.shape below));
    } in
    let history : ended.tables.history ≡ s.tables.history
    = settled-history p _ _ ended.tables left.shape s.tables closed in
    let words : ended.tables.words ≡ words_of p s.tables.history
    = left.left.is ∙ ap (λ p. words_of p ended.tables.history) left.shape ∙ ap (words_of p) history in
    let first = same-counts m _ before after s.each in
    let same : ended.size ≡ size
    = omega (arith, ints, s.ended.counted, with.counted, ap total_of first) in
    λ i. record {
      tables = record { shape = left.shape i; words = words i; history = history i };
      size = same i;
    }
