-- The size of a map whose seats are gathered is what they have counted.
use Rattle.std.proofs.Common.{◌≡◌, ◌∙◌, ℕ, zero, suc, ◌+◌, ◌<◌, ◌≤◌, ◌==◌, Bool, true, false, cond, List, [], ◌∷◌, ◌++◌, length, length-append, map, All, get_or, ap, ap₂, sym, subst, refl, arith}
use Rattle.std.specs.FinMap.{entries}
use Rattle.std.specs.List.{count_by}
use Rattle.std.specs.Prelude.{ℤ, pos}
use Rattle.std.proofs.Math.IntN.{◌+ℤ◌}
use Rattle.std.proofs.Math.Nat.{mod-eq_of_lt}
use Rattle.std.proofs.lemmas.Bool.{eqb-true, ne_eqb}
use Rattle.std.proofs.lemmas.Int.{ints}
use Rattle.std.proofs.lemmas.List.Elements.{All-cons, All-head, All-nil, All-tail, filter_map-append}
use Rattle.std.proofs.lemmas.List.Sums.{sum_by-append, sum_by-cons}
use Rattle.nb_core.proofs.Seating.{count-map}
use Rattle.nb_core.proofs.Theorems.{calls_append, few_keys, log_is_replayed, size_is_net}
use Rattle.nb_core.specs.History.{map_of}
use Rattle.nb_core.specs.Laws.{HasLog}
use Rattle.nb_core.specs.Log.{Entry, calls_of, entry_of, log_of, map_of_log}
use Rattle.nb_core.specs.Meaning.{net_of, net_of_seats}
use Rattle.nb_core.specs.Plans.{Plan}
use Rattle.nb_core.specs.declared.numbers.TheConstants.{KEY_MAX}
use Rattle.nb_count.specs.Counts.{CountSeatOf, total_of}
use Rattle.nb_count.specs.Tallies.{wrapped}
use Rattle.nb_table.specs.Chains.{SeenBy}
use Rattle.nb_table.specs.Gathered.{ClosedWith}
use Rattle.nb_table.specs.Left.{ClosedOf, IsLeft}
use Rattle.nb_table.specs.Views.{HasSeen}
use Rattle.nb_map.specs.Ending.{EndedWith, HasAll}
use Rattle.nb_map.specs.inside.Models.{IsParted}
use Rattle.nb_map.specs.Logs.{log}
use Rattle.nb_map.specs.Maps.{HasCounted, SeatOf}
use Rattle.nb_map.proofs.Tried.{calls-others}

-- ---- each number is one seat's, so a sum over the seats is one over the numbers

-- how many of these seats have this number
abbrev times : ℕ → List SeatOf → ℕ
times n = count_by (λ seat. seat.chain.number == n)

times-cons :
    (n : ℕ) (s : SeatOf) (seats : List SeatOf)
    → times n (s ∷ seats) ≡ cond (s.chain.number == n) 1 0 + times n seats
times-cons n = sum_by-cons (λ seat. cond (seat.chain.number == n) 1 0)

times-middle :
    (n : ℕ) (front : List SeatOf) (s : SeatOf) (back : List SeatOf)
    → times n (front ++ s ∷ back) ≡ cond (s.chain.number == n) 1 0 + times n (front ++ back)
times-middle n front s back =
    let f : SeatOf → ℕ = λ seat. cond (seat.chain.number == n) 1 0 in
    omega (arith, times-cons n s back, sum_by-append f front (s ∷ back), sum_by-append f front back)

-- as many of their seats of the chain have it
times-chains :
    (n : ℕ) (seats : List SeatOf) → count_by (λ seat. seat.number == n)
    (map (λ seat. seat.chain) seats) ≡ times n seats
times-chains n = count-map (λ seat. seat.number == n) (λ seat. seat.chain)

-- a seat of this number, and those before and behind it
record IsAmong (n : ℕ) (seats : List SeatOf) : Type 0 where
  front : List SeatOf
  seat : SeatOf
  back : List SeatOf
  is : seats ≡ front ++ seat ∷ back
  number : seat.chain.number ≡ n

among : (n : ℕ) (seats : List SeatOf) → 1 ≤ times n seats → IsAmong n seats
among n [] some = absurd (omega (arith, some))
among n (s ∷ seats) some = of (s.chain.number == n) refl (among n seats)
  where
    of : (b : Bool) → (s.chain.number == n) ≡ b → (1 ≤ times n seats → IsAmong n seats)
        → IsAmong n (s ∷ seats)
    of true here rest = record {
      front = [];
      seat = s;
      back = seats;
      is = refl;
      number =
          eqb-true s.chain.number n here;
    }
    of false away rest =
        let there = rest (omega (
          arith,
          some,
          times-cons n s seats,
          ap {B = ℕ} (λ b. cond b 1 0) away,
        )) in
        record {
          front = s ∷ there.front;
          seat = there.seat;
          back = there.back;
          is =
              ap (λ xs. s ∷ xs) there.is;
          number = there.number;
        }

-- what the calls of these seats in a log did to the number of keys
abbrev net_in : List Entry → List SeatOf → ℤ
net_in whole [] = pos 0
net_in whole (s ∷ seats) = net_of (calls_of s.chain.number whole) +ℤ net_in whole seats

net-middle :
    (whole : List Entry) (front : List SeatOf) (s : SeatOf) (back : List SeatOf)
    → net_in whole (front ++ s ∷ back) ≡ net_of (calls_of s.chain.number whole) +ℤ net_in whole
    (front ++ back)
net-middle whole [] s back = refl
net-middle whole (x ∷ front) s back = let rest = net-middle whole front s back in
    omega (arith, ints, rest)

-- the law takes the sum over the numbers
net-numbers :
    (whole : List Entry) (n : ℕ) (seats : List SeatOf) → length seats ≡ n
    → ((i : ℕ) → i < n → times i seats ≡ 1)
    → net_in whole seats ≡ net_of_seats whole n
net-numbers whole zero [] all once = refl
net-numbers whole zero (s ∷ seats) all once = absurd (omega (arith, all))
net-numbers whole (suc n) seats all once =
    let last = among n seats (omega (arith, once n (omega arith))) in
    let others = last.front ++ last.back in
    let fewer : length others ≡ n = omega (
      arith,
      all,
      ap length last.is,
      length-append last.front (last.seat ∷ last.back),
      length-append last.front last.back,
    ) in
    let rest = net-numbers whole n others fewer (λ i less.
    let differs = ap {B = ℕ} (λ b. cond b 1 0)
    (ne_eqb last.seat.chain.number i (λ same. absurd (let number = last.number in
    omega (arith, less, same, number)))) in
    omega (
      arith,
      once i (omega (arith, less)),
      ap (times i) last.is,
      times-middle i last.front last.seat last.back,
      differs,
    )) in
    ap (net_in whole) last.is ∙ net-middle whole last.front last.seat last.back
    ∙ ap₂ (λ m z. net_of (calls_of m whole) +ℤ z) last.number rest

-- ---- what the seats have counted

-- all calls of a seat are in its own log
same-calls :
    (whole : List Entry) (s : SeatOf) → HasAll whole s
    → calls_of s.chain.number whole ≡ calls_of s.chain.number (log s)
same-calls whole s has =
    ap (calls_of s.chain.number) has.is ∙ calls_append s.chain.number has.later (log s)
    ∙ ap (λ calls. calls ++ calls_of s.chain.number (log s)) has.others

-- what each seat has counted is the net of its calls, so all have counted the net of all calls
counted-net :
    (whole : List Entry) (seats : List SeatOf) → All HasCounted seats → All (HasAll whole) seats
    → total_of (map (λ seat. seat.count) seats) ≡ net_in whole seats
counted-net whole [] counted all = refl
counted-net whole (s ∷ seats) counted all =
    let one = All-head HasCounted s seats counted in
    let calls = ap net_of (same-calls whole s (All-head (HasAll whole) s seats all)) in
    let rest = counted-net whole seats (All-tail HasCounted s seats counted)
    (All-tail (HasAll whole) s seats all) in
    omega (arith, ints, one, calls, rest)

-- ---- the end

-- what the seats of a chain know, each for itself
seen-chains :
    (P : SeenBy → Type 0) (seats : List SeatOf) → All P (map (λ seat. seat.chain) seats)
    → All (λ seat. P seat.chain) seats
seen-chains P [] all = All-nil (λ (seat : SeatOf). P seat.chain)
seen-chains P (s ∷ seats) all =
    All-cons (λ (seat : SeatOf). P seat.chain) s seats
    (All-head P s.chain (map (λ seat. seat.chain) seats) all)
    (seen-chains P seats (All-tail P s.chain (map (λ seat. seat.chain) seats) all))

-- a small number is itself modulo 2^64
wrapped-small : (n : ℕ) → n ≤ KEY_MAX + 1 → wrapped (pos n) ≡ n
wrapped-small n small = mod-eq_of_lt (omega (arith, small))

-- the log of what is left leaves the map of its history
pub left-map :
    (closed : ClosedOf) → IsLeft closed → map_of closed.history ≡ map_of_log (log_of closed.history)
left-map closed left = sym (log_is_replayed closed.shape left.plan closed.history left.legal).map

-- What is known of the seats of a map when all of them are gathered.
pub record AreGathered (p : Plan) (seats : List SeatOf) (chains : List SeenBy)
    (counts : List CountSeatOf) (closed : ClosedOf) : Type 0 where
  pub parted : IsParted seats chains counts
  pub shape : closed.shape ≡ p
  pub closed_with : ClosedWith chains closed
  pub all : length seats ≡ p.seats
  pub counted : All HasCounted seats

module _ (p : Plan) (seats : List SeatOf) (chains : List SeenBy) (counts : List CountSeatOf)
    (closed : ClosedOf) (gathered : AreGathered p seats chains counts closed) where
  abbrev whole : List Entry
  whole = log_of closed.history

  left : IsLeft closed
  left = gathered.closed_with.left

  replayed : HasLog closed.shape closed.history
  replayed = log_is_replayed closed.shape left.plan closed.history left.legal

  number : closed.shape.seats ≡ length seats
  number = ap (λ p. p.seats) gathered.shape ∙ sym gathered.all

  pub seen : All (λ seat. HasSeen closed.history seat.chain.number seat.chain.seen) seats
  seen =
      let P : SeenBy → Type 0 = λ seat. HasSeen closed.history seat.number seat.seen in
      seen-chains P seats (subst (All P) gathered.parted.of_chain gathered.closed_with.seen)

  logs : All (HasAll whole) seats
  logs k d within =
      let s = get_or seats k d in
      let is = seen k d within in
      record {
        later = log_of is.later;
        is = ap log_of is.is ∙ filter_map-append entry_of is.later s.chain.seen;
        others = calls-others s.chain.number is.later is.others;
      }

  -- each number is one seat's
  once : (n : ℕ) → n < length seats → times n seats ≡ 1
  once n less =
      sym (times-chains n seats) ∙ ap (count_by (λ seat. seat.number == n))
      (sym gathered.parted.of_chain)
      ∙ gathered.closed_with.once n (omega (arith, less, number))

  -- what the seats have counted is the net of all calls
  total-net : total_of (map (λ seat. seat.count) seats) ≡ net_of_seats whole (length seats)
  total-net = counted-net whole seats gathered.counted logs
      ∙ net-numbers whole (length seats) seats refl once

  -- and that is the number of keys
  net-keys : net_of_seats whole (length seats) ≡ pos (length (entries (map_of_log whole)))
  net-keys =
      ap (net_of_seats whole) (sym number)
      ∙ size_is_net closed.shape left.plan closed.history left.legal
      ∙ ap (λ m. pos (length (entries m))) (sym replayed.map)

  few : length (entries (map_of_log whole)) ≤ KEY_MAX + 1
  few = subst (λ m. length (entries m) ≤ KEY_MAX + 1) (sym replayed.map)
      (few_keys closed.shape left.plan closed.history left.legal)

  size-keys : wrapped (total_of counts) ≡ length (entries (map_of_log whole))
  size-keys =
      ap (λ xs. wrapped (total_of xs)) gathered.parted.of_counter
      ∙ ap wrapped (total-net ∙ net-keys) ∙ wrapped-small _ few

  pub ended-with : (size : ℕ) → size ≡ wrapped (total_of counts)
      → EndedWith seats (record { tables = closed; size = size })
  ended-with size sum =
      let is_net = ap pos (sum ∙ size-keys) ∙ sym net-keys in
      record {
        replayed = replayed.replayed;
        logs = logs;
        once = once;
        made = subst (λ n. All (λ entry. entry.seat < n) whole) number replayed.seats;
        counted = is_net ∙ sym total-net;
        size = is_net;
      }

  pub is-ended : (size : ℕ) → size ≡ wrapped (total_of counts)
      → size ≡ length (entries (map_of_log whole))
  is-ended size sum = sum ∙ size-keys
