-- A look at how full a map is.
use Rattle.std.proofs.Common.{◌≡◌, ◌∙◌, ℕ, suc, ◌==◌, ◌<◌, ◌≤◌, [], subst, sym}
use Rattle.nb_core.proofs.Theorems.{linked}
use Rattle.nb_core.specs.Plans.{generations_of}
use Rattle.nb_table.specs.Chains.{Grown, seen_by}
use Rattle.nb_map.specs.Fullness.{HasSampled, sample_size, taken_in}
use Rattle.nb_map.specs.Maps.{IsMine, MapOf, SeatOf}
use Rattle.nb_map.specs.Promises.{HasSeenTop}
use Rattle.nb_map.specs.declared.occupancy.Occupancy.{Occupancy}
use Rattle.nb_map.proofs.Logged.{logs_add_up}
use Rattle.nb_map.proofs.Rested.{logged-rested, mine-rested}
use Rattle.nb_map.proofs.Searched.{table-within}

-- the top table is one of the map's
pub top-within :
    (m : MapOf) {seat : SeatOf} (top : ℕ) → IsMine m seat
    → (seen_by m.chain.shape seat.chain).top ≡ top → top < generations_of m.chain.shape
top-within m {seat} top mine is =
    let own = mine.chain in
    let there = (linked m.chain.shape own.plan seat.chain.seen own.legal).top in
    subst (λ g. g < generations_of m.chain.shape) is
    (table-within m.chain seat.chain own (seen_by m.chain.shape seat.chain).top there)

-- what the look found, the seat remembers
pub top-kept :
    {m : MapOf} {before after : SeatOf} {top : ℕ} → HasSeenTop m before after top
    → HasSeenTop m before after after.chain.top
top-kept {m} {before} {after} looked =
    subst (HasSeenTop m before after) (sym looked.remembered) looked

-- the top table first, and then the slots
pub sampled-all :
    {m : MapOf} {before begun after : SeatOf} (found : Occupancy)
    → HasSeenTop m before begun found.table
    → found.is_last ≡ (suc found.table == generations_of m.chain.shape)
    → found.looked ≡ sample_size m.chain.shape found.table
    → Grown m.chain.shape begun.chain after.chain [] found.looked
    → taken_in m.chain.shape (seen_by m.chain.shape begun.chain) found.table ≤ found.taken
    → found.taken ≤ taken_in m.chain.shape (seen_by m.chain.shape after.chain) found.table
    → after.count ≡ begun.count → HasSampled m before after found
sampled-all {m} {before} {begun} {after} found top last looked grown least most same = record {
  begun = begun;
  top = top;
  is_last = last;
  looked = looked;
  grown = grown;
  least = least;
  most = most;
  logged = logs_add_up.more top.logged
      (logged-rested {map = m} {before = begun} {after = after} top.own grown);
  count = same ∙ top.count;
  own = mine-rested {map = m} {before = begun} {after = after} top.own grown same;
}
