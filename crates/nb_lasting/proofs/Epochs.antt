-- The one log over maps that follow one another.
use Rattle.std.proofs.Common.{◌≡◌, ◌∙◌, ℕ, List, [], ◌∷◌, ◌++◌, All, ap, refl, subst, sym}
use Rattle.std.proofs.lemmas.List.Elements.{All-head, All-weaker}
use Rattle.std.proofs.lemmas.List.{append_assoc, append_cancel_right}
use Rattle.nb_core.proofs.Theorems.{calls_append}
use Rattle.nb_core.specs.Log.{Entry, IsReplayed, calls_of, map_after, map_of_log, reply_of}
use Rattle.nb_core.specs.Plans.{Plan}
use Rattle.nb_core.specs.declared.calls.Call.{Call}
use Rattle.nb_core.specs.declared.calls.Reply.{Reply}
use Rattle.nb_map.specs.Ending.{EndedOf, EndedWith, HasAll, log_left}
use Rattle.nb_map.specs.Handles.{HandleOf, seats_of}
use Rattle.nb_map.specs.Logs.{HasLogged, log}
use Rattle.nb_map.specs.Maps.{SeatOf}
use Rattle.nb_map.specs.Renewing.{HasRenewed}
use Rattle.nb_lasting.specs.Epochs.{AllKnow, EpochOf, HasGoneOnBy, HaveMetIn, IsOfEpoch, Knows, OneLogForAll}

-- the same calls after two logs that leave one map leave one map
pub leaves :
    (later first first' : List Entry) → map_of_log first ≡ map_of_log first'
    → map_of_log (later ++ first) ≡ map_of_log (later ++ first')
leaves [] first first' same = same
leaves (entry ∷ later) first first' same =
    ap (map_after entry.call) (leaves later first first' same)

-- and they reply the same
pub replays :
    (later first first' : List Entry) → map_of_log first ≡ map_of_log first'
    → IsReplayed first' → IsReplayed (later ++ first)
    → IsReplayed (later ++ first')
replays [] first first' same replayed' replayed = replayed'
replays (entry ∷ later) first first' same replayed' (is, replayed) = (
  is ∙ ap (reply_of entry.call) (leaves later first first' same),
  replays later first first' same replayed' replayed,
)

-- what a seat knows after its calls
called :
    (e : EpochOf) (before after : SeatOf) (whole : List Entry) (made : List (Call × Reply))
    → Knows e before whole → HasLogged before after made
    → (longer : List Entry) × HasGoneOnBy before.chain.number whole longer made
    × Knows e after longer
called e before after whole made knows logged =
    let here : log after ≡ (logged.later ++ knows.later) ++ e.filled =
    logged.grown
    ∙ (ap (λ l. logged.later ++ l) knows.here
    ∙ sym (append_assoc logged.later knows.later e.filled)) in
    let replayed : IsReplayed ((logged.later ++ knows.later) ++ e.past) =
    replays (logged.later ++ knows.later) e.filled e.past e.same e.replayed
    (subst IsReplayed here logged.replayed) in (
      (logged.later ++ knows.later) ++ e.past,
      record {
        later = logged.later;
        grown = append_assoc logged.later knows.later e.past
            ∙ ap (λ l. logged.later ++ l) (sym knows.is);
        replayed = replayed;
        own = logged.own;
      },
      record {
        later = logged.later ++ knows.later;
        here = here;
        is = refl;
        replayed = replayed;
      },
    )

-- a seat's log goes on to that of all calls
meets :
    (e : EpochOf) (later ended : List Entry) → ended ≡ later ++ e.filled
    → IsReplayed (later ++ e.past) → (seat : SeatOf) → HasAll ended seat
    → (known : List Entry) → Knows e seat known
    → HasGoneOnBy seat.chain.number known (later ++ e.past) []
meets e later ended is replayed seat all known knows =
    let own : ended ≡ (all.later ++ knows.later) ++ e.filled =
    all.is
    ∙ (ap (λ l. all.later ++ l) knows.here ∙ sym (append_assoc all.later knows.later e.filled)) in
    let same : later ≡ all.later ++ knows.later =
    append_cancel_right later (all.later ++ knows.later) e.filled (sym is ∙ own) in
    record {
      later = all.later;
      grown = ap (λ l. l ++ e.past) same
          ∙ (append_assoc all.later knows.later e.past ∙ ap (λ l. all.later ++ l) (sym knows.is));
      replayed = replayed;
      own = all.others;
    }

-- all seats meet at the map's end
met :
    (e : EpochOf) (first : SeatOf) (seats : List SeatOf) (ended : EndedOf)
    → All (IsOfEpoch e) (first ∷ seats) → EndedWith (first ∷ seats) ended
    → (whole : List Entry) × HaveMetIn e (first ∷ seats) ended whole
met e first seats ended of left =
    let all : HasAll (log_left ended) first = All-head
    (HasAll (log_left ended)) first seats left.logs in
    let knows = (All-head (IsOfEpoch e) first seats of).1 in
    let later : List Entry = all.later ++ knows.later in
    let is : log_left ended ≡ later ++ e.filled =
    all.is
    ∙ (ap (λ l. all.later ++ l) knows.here ∙ sym (append_assoc all.later knows.later e.filled)) in
    let replayed : IsReplayed (later ++ e.past) =
    replays later e.filled e.past e.same e.replayed (subst IsReplayed is left.replayed) in (
      later ++ e.past,
      record {
        later = later;
        left = is;
        is = refl;
        replayed = replayed;
        leaves = sym (leaves later e.filled e.past e.same) ∙ sym (ap map_of_log is);
        each = All-weaker (HasAll (log_left ended)) (λ seat. (known : List Entry)
            → Knows e seat known
            → HasGoneOnBy seat.chain.number known (later ++ e.past) [])
            (meets e later (log_left ended) is replayed) (first ∷ seats) left.logs;
      },
    )

-- the next map goes on from there
renewed :
    (e : EpochOf) (p : Plan) (before after : HandleOf) → All (IsOfEpoch e) (seats_of before)
    → (is : HasRenewed p before after)
    → (next : EpochOf) × HaveMetIn e (seats_of before) is.ended next.past
    × AllKnow next after next.past
renewed e p before after of is =
    let begun = is.begun.begun in
    let all = met e before.seat before.reserve is.ended of is.left in
    let next : EpochOf = record {
      filled = begun.whole;
      past = all.0;
      replayed = all.1.replayed;
      same = begun.leaves ∙ sym all.1.leaves;
    } in (
      next,
      all.1,
      All-weaker (λ (seat : SeatOf). log seat ≡ begun.whole) (λ seat. Knows next seat next.past)
          (λ seat same. record { later = []; here = same; is = refl; replayed = all.1.replayed })
          (seats_of after) begun.logs,
    )

pub goes_on :
    (number : ℕ) (first middle last : List Entry) (made made' : List (Call × Reply))
    → HasGoneOnBy number first middle made → HasGoneOnBy number middle last made'
    → HasGoneOnBy number first last (made' ++ made)
goes_on number first middle last made made' one two = record {
  later = two.later ++ one.later;
  grown = two.grown
      ∙ (ap (λ l. two.later ++ l) one.grown ∙ sym (append_assoc two.later one.later first));
  replayed = two.replayed;
  own = calls_append number two.later one.later
      ∙ (ap (λ c. c ++ calls_of number one.later) two.own ∙ ap (λ c. made' ++ c) one.own);
}

pub one_log_for_all : OneLogForAll
one_log_for_all = record {
  none = λ empty. record { later = []; here = empty; is = refl; replayed = tt };
  called = λ {e} {before} {after} {whole} {made} knows logged.
      called e before after whole made knows logged;
  renewed = λ {e} {p} {before} {after} of is. renewed e p before after of is;
  ended = λ {e} {ended} handle of left. met e handle.seat handle.reserve ended of left;
  more = λ {number} {first} {middle} {last} {made} {made'} one two.
      goes_on number first middle last made made' one two;
}
