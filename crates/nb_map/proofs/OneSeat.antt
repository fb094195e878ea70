-- A map with one seat replies as a plain map does.
use Rattle.std.proofs.Common.{◌≡◌, ◌∙◌, ◌<◌, List, [], ◌∷◌, ◌++◌, map, ap, ap₂, refl, sym, subst, arith}
use Rattle.std.specs.FinMap.{get}
use Rattle.std.specs.List.{All}
use Rattle.std.proofs.lemmas.Bool.{eq-eqb}
use Rattle.std.proofs.lemmas.List.Elements.{All-cons, All-head, All-nil, All-tail}
use Rattle.nb_core.proofs.Theorems.{crowded_absent, log_is_replayed}
use Rattle.nb_core.specs.Laws.{HasLog}
use Rattle.nb_core.specs.Log.{Entry, IsReplayed, calls_of, map_after, map_of_log, reply_of}
use Rattle.nb_core.specs.declared.calls.Call.{Call}
use Rattle.nb_core.specs.declared.calls.Reply.{Reply}
use Rattle.nb_map.specs.Logs.{HasLogged, HasReplied, log}
use Rattle.nb_map.specs.Maps.{IsMine, MapOf, SeatOf}
use Rattle.nb_map.specs.OneSeat.{IsOnly, OneSeat, entry_of_first, held}

abbrev IsFirstEntry : Entry → Type 0
IsFirstEntry entry = entry.seat < 1

all-first : (later first : List Entry) → All IsFirstEntry (later ++ first) → All IsFirstEntry later
all-first [] first all = All-nil IsFirstEntry
all-first (entry ∷ later) first all =
    All-cons IsFirstEntry entry later (All-head IsFirstEntry entry (later ++ first) all)
    (all-first later first (All-tail IsFirstEntry entry (later ++ first) all))

-- where all entries are the first seat's, they are its calls
first-entries :
    (entries : List Entry) → All IsFirstEntry entries
    → entries ≡ map entry_of_first (calls_of 0 entries)
first-entries [] all = refl
first-entries (entry ∷ entries) all =
    let zero : entry.seat ≡ 0 = omega (arith, All-head IsFirstEntry entry entries all) in
    rw (eq-eqb entry.seat 0 zero)
    (ap₂ (λ s rest. record { seat = s; call = entry.call; reply = entry.reply } ∷ rest) zero
    (first-entries entries (All-tail IsFirstEntry entry entries all)))

module _
    {m : MapOf} {before after : SeatOf} {made : List (Call × Reply)} (only : IsOnly m before)
    (mine : IsMine m after) (logged : HasLogged before after made)
  where
    has : HasLog m.chain.shape after.chain.seen
    has = log_is_replayed m.chain.shape mine.chain.plan after.chain.seen mine.chain.legal

    only-new : log after ≡ map entry_of_first made ++ log before
    only-new =
        let first : All IsFirstEntry (log after) =
        subst (λ n. All (λ (entry : Entry). entry.seat < n) (log after)) only.seats has.seats in
        logged.grown
        ∙ ap (λ later. later ++ log before)
        (first-entries logged.later (all-first logged.later (log before)
        (subst (All IsFirstEntry) logged.grown first))
        ∙ ap (map entry_of_first) (ap (λ n. calls_of n logged.later) (sym only.first)
        ∙ logged.own))

    only-then : IsOnly m after
    only-then = record {
      seats = only.seats;
      first = logged.number ∙ only.first;
      mine = mine;
    }

only-replied :
    {m : MapOf} {before after : SeatOf} {call : Call} {reply : Reply} → IsOnly m before
    → IsMine m after → HasReplied call before after reply
    → (reply ≡ reply_of call (held before)) × (held after ≡ map_after call (held before))
only-replied {m} {before} {after} {call} {reply} only mine replied =
    let new : log after ≡ record { seat = 0; call = call; reply = reply } ∷ log before =
    only-new only mine replied in
    let replies : IsReplayed (record { seat = 0; call = call; reply = reply } ∷ log before) =
    subst IsReplayed new replied.replayed in
    (replies.0, ap map_of_log new)

pub one_seat : OneSeat
one_seat = record {
  logged = λ only mine logged. (only-new only mine logged, only-then only mine logged);
  replied = only-replied;
  found = λ only mine found.
      let replied = only-replied only mine found.2 in
      (sym found.1 ∙ ap (λ (reply : Reply). reply.before) replied.0, replied.1);
  quiet = λ only mine logged. ap map_of_log (only-new only mine logged);
  full = λ {m} {before} {after} only mine logged k crowded.
      ap (λ numbers. get numbers k) (sym (ap map_of_log (only-new only mine logged))
      ∙ (has only mine logged).map)
      ∙ crowded_absent m.chain.shape mine.chain.plan after.chain.seen mine.chain.legal k crowded;
}
