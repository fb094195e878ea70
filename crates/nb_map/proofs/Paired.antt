-- The seats of a map are put together from those of its chain and of its counter, the last first,
-- and parted again.
use Rattle.std.proofs.Common.{◌≡◌, ◌∙◌, ℕ, ◌+◌, ap, sym, subst, refl, List, [], ◌∷◌, ◌++◌, drop, length, map, reverse, arith}
use Rattle.std.specs.List.{range_with_len}
use Rattle.std.proofs.lemmas.List.{append-nil, length-reverse, nil_from_length, reverse-append}
use Rattle.std.proofs.lemmas.List.Elements.{All-map, All-same}
use Rattle.std.proofs.lemmas.List.FromFn.{length-map-range_with_len}
use Rattle.nb_core.proofs.Seating.{All-numbered, AreMoved, moved-back, moved-count}
use Rattle.nb_core.specs.Plans.{IsPlan}
use Rattle.nb_count.specs.Counts.{CountSeatOf}
use Rattle.nb_count.specs.Counts as counted
use Rattle.nb_table.specs.Chains.{SeenBy}
use Rattle.nb_table.specs.Chains as chained
use Rattle.nb_map.specs.inside.Models.{IsParted}
use Rattle.nb_map.specs.Logs.{HaveEmptyLogs, log}
use Rattle.nb_map.specs.Maps.{AreMine, IsMine, MapOf, SeatOf, new_seat, new_seats}

-- ---- dealing

-- where each seat's parts are new ones, the seats are new
paired-new :
    (m : MapOf) (seats : List SeatOf) (numbers : List ℕ)
    → map (chained.new_seat m.chain.id) numbers ≡ map (λ seat. seat.chain) seats
    → map (counted.new_seat m.counter.id) numbers ≡ map (λ seat. seat.count) seats
    → seats ≡ map (new_seat m) numbers
paired-new m [] [] chains counts = refl
paired-new m [] (n ∷ numbers) chains counts = absurd (omega (arith, ap length chains))
paired-new m (s ∷ seats) [] chains counts = absurd (omega (arith, ap length chains))
paired-new m (s ∷ seats) (n ∷ numbers) chains counts =
    let chain : s.chain ≡ chained.new_seat m.chain.id n = cc in
    let count : s.count ≡ counted.new_seat m.counter.id n = cc in
    let rest = paired-new m seats numbers (ap (drop 1) chains) (ap (drop 1) counts) in
    λ i. record { chain = chain i; count = count i } ∷ rest i

-- With what is left of the chain's and of the counter's seats, those that are put together so far
-- are all new ones.
pub record IsDealing (m : MapOf) (chains : List SeenBy) (counts : List CountSeatOf)
    (seats : List SeatOf) : Type 0 where
  pub in_chain :
      let all = chained.new_seats m.chain.id m.chain.shape.seats in
      AreMoved (λ seat. seat.chain) all chains (reverse seats)
  pub in_counter :
      let all = counted.new_seats m.counter.id m.chain.shape.seats in
      AreMoved (λ seat. seat.count) all counts (reverse seats)

pub dealing-first :
    (m : MapOf) (chains : List SeenBy) (counts : List CountSeatOf) (seats : List SeatOf)
    → chains ≡ chained.new_seats m.chain.id m.chain.shape.seats
    → counts ≡ counted.new_seats m.counter.id m.chain.shape.seats
    → seats ≡ [] → IsDealing m chains counts seats
dealing-first m chains counts seats chains_are counts_are none = record {
  in_chain = record {
    is = sym chains_are ∙ sym (append-nil chains)
        ∙ ap (λ ss. chains ++ map (λ seat. seat.chain) (reverse ss)) (sym none);
  };
  in_counter = record {
    is = sym counts_are ∙ sym (append-nil counts)
        ∙ ap (λ ss. counts ++ map (λ seat. seat.count) (reverse ss)) (sym none);
  };
}

module _
    {m : MapOf} {chains : List SeenBy} {counts : List CountSeatOf} {seats : List SeatOf}
    (d : IsDealing m chains counts seats) where
  -- one seat more
  pub dealing-more :
      (chains' : List SeenBy) (counts' : List CountSeatOf) (seats' : List SeatOf) (chain : SeenBy)
      (count : CountSeatOf)
      → chains ≡ chains' ++ chain ∷ [] → counts ≡ counts' ++ count ∷ []
      → seats' ≡ seats ++ record { chain = chain; count = count } ∷ []
      → IsDealing m chains' counts' seats'
  dealing-more chains' counts' seats' chain count chains_are counts_are is =
      let s : SeatOf = record { chain = chain; count = count } in
      let more = sym (ap reverse is ∙ reverse-append seats (s ∷ [])) in
      record {
        in_chain = subst (AreMoved (λ seat. seat.chain) _ chains') more
            (moved-back d.in_chain chains_are);
        in_counter = subst (AreMoved (λ seat. seat.count) _ counts') more
            (moved-back d.in_counter counts_are);
      }

  -- as many of the counter's seats are left as of the chain's, and the dealt ones are the others
  pub dealing-count : (length counts ≡ length chains)
      × (length chains + length seats ≡ m.chain.shape.seats)
  dealing-count =
      let n = m.chain.shape.seats in
      let in_chain = moved-count d.in_chain
      ∙ length-map-range_with_len (chained.new_seat m.chain.id) 0 n in
      let in_counter = moved-count d.in_counter
      ∙ length-map-range_with_len (counted.new_seat m.counter.id) 0 n in
      (omega (arith, in_chain, in_counter), omega (arith, in_chain, length-reverse seats))

  -- where none is left, all are dealt
  pub dealing-done : chains ≡ [] → reverse seats ≡ new_seats m m.chain.shape.seats
  dealing-done none =
      let none' = nil_from_length counts (omega (arith, dealing-count, ap length none)) in
      paired-new m (reverse seats) (range_with_len 0 m.chain.shape.seats)
      (d.in_chain.is ∙ ap (λ cs. cs ++ map (λ seat. seat.chain) (reverse seats)) none)
      (d.in_counter.is ∙ ap (λ cs. cs ++ map (λ seat. seat.count) (reverse seats)) none')

-- ---- whose they are

-- new seats are the map's
pub new-mine :
    (m : MapOf) → IsPlan m.chain.shape → (seats : List SeatOf) (count : ℕ)
    → seats ≡ new_seats m count → AreMine m seats
new-mine m plan seats count are =
    All-same (IsMine m) seats (new_seats m count) are
    (All-numbered (IsMine m) (new_seat m) 0 count
    (λ n low high. record {
      chain = record { at = refl; plan = plan; legal = tt; known = omega arith };
      counter = refl;
      counted = refl;
    }))

-- and they know of no call
pub new-logs :
    (m : MapOf) (seats : List SeatOf) (count : ℕ) → seats ≡ new_seats m count → HaveEmptyLogs seats
new-logs m seats count are =
    All-same (λ seat. log seat ≡ []) seats (new_seats m count) are
    (All-numbered (λ seat. log seat ≡ []) (new_seat m) 0 count (λ n low high. refl))

-- the parts of a map's seats are its chain's and its counter's
module _
    (m : MapOf) (seats : List SeatOf) (of_chain : List SeenBy) (of_counter : List CountSeatOf)
    (parted : IsParted seats of_chain of_counter) (mine : AreMine m seats) where
  pub own-chains : chained.AreOwn m.chain of_chain
  own-chains =
      All-same (chained.IsOwn m.chain) of_chain (map (λ seat. seat.chain) seats) parted.of_chain
      (All-map (chained.IsOwn m.chain) (λ seat. seat.chain) seats
      (λ k d within. (mine k d within).chain))

  pub own-counts : counted.AreOwn m.counter of_counter
  own-counts =
      All-same (counted.IsOwn m.counter) of_counter (map (λ seat. seat.count) seats)
      parted.of_counter
      (All-map (counted.IsOwn m.counter) (λ seat. seat.count) seats
      (λ k d within. (mine k d within).counter))
