-- The log of a seat after its calls, and what the tries of a write that waits add up to.
use Rattle.std.proofs.Common.{◌≡◌, ◌∙◌, ◌+◌, ℕ, ℤ, List, [], ◌++◌, pos, ap, ap₂, refl, subst, sym, arith}
use Rattle.std.proofs.lemmas.Int.{ints}
use Rattle.std.proofs.lemmas.List.{append_assoc}
use Rattle.std.proofs.lemmas.List.Elements.{filter_map-append}
use Rattle.nb_core.proofs.Theorems.{calls_append, log_is_replayed}
use Rattle.nb_core.specs.Log.{IsBeginning, calls_of, entry_of, log_of}
use Rattle.nb_core.specs.declared.calls.Call.{Call}
use Rattle.nb_core.specs.declared.calls.Call.TheVariants.{Get}
use Rattle.nb_core.specs.declared.calls.Reply.{Reply}
use Rattle.nb_count.specs.Counts.{CountSeatOf}
use Rattle.nb_table.specs.Chains.{Extended}
use Rattle.nb_map.specs.Calling.{HasMade}
use Rattle.nb_map.specs.Laws.{LogsAddUp}
use Rattle.nb_map.specs.Logs.{HasLogged, log}
use Rattle.nb_map.specs.Maps.{HasWorked, IsMine, MapOf, SeatOf, accounted}
use Rattle.nb_map.proofs.Counted.{calls-later}
use Rattle.nb_map.proofs.Made.{made-none, made-quiet}

-- after the steps of a call
pub logged :
    {map : MapOf} {call : Call} {before after : SeatOf} {made : List (Call × Reply)} {most : ℕ}
    → IsMine map before
    → HasMade map.chain.shape call before.chain after.chain made most → HasLogged before after made
logged {map} {after = after} mine made =
    let grown = made.grown in
    record {
      number = grown.number;
      later = log_of grown.later;
      grown = ap log_of grown.seen ∙ filter_map-append entry_of grown.later _;
      replayed = (log_is_replayed map.chain.shape mine.chain.plan after.chain.seen
          grown.legal).replayed;
      own = calls-later made;
    }

-- after a step without an event
pub logged-quiet :
    {map : MapOf} {before after : SeatOf} → IsMine map before
    → Extended map.chain.shape before.chain after.chain [] 1 → HasLogged before after []
logged-quiet {map} mine step = logged mine (made-quiet map.chain.shape (Get 0) step)

-- after no step on the chain
pub logged-same :
    {map : MapOf} {before after : SeatOf} → IsMine map before → after.chain ≡ before.chain
    → HasLogged before after []
logged-same {map} {before} {after} mine same =
    logged mine (subst (λ seat. HasMade map.chain.shape (Get 0) before.chain seat [] 0) (sym same)
    (made-none map.chain (Get 0) before.chain mine.chain))

-- some calls after others
pub logged-then :
    {before then after : SeatOf} {made made' : List (Call × Reply)} → HasLogged before then made
    → HasLogged then after made'
    → HasLogged before after (made' ++ made)
logged-then {before} a b = record {
  number = b.number ∙ a.number;
  later = b.later ++ a.later;
  grown = b.grown ∙ ap (λ log. b.later ++ log) a.grown
      ∙ sym (append_assoc b.later a.later (log before));
  replayed = b.replayed;
  own =
      calls_append before.chain.number b.later a.later
      ∙ ap₂ (λ xs ys. xs ++ ys) (ap (λ n. calls_of n b.later) (sym a.number) ∙ b.own) a.own;
}

pub logs_add_up : LogsAddUp
logs_add_up = record { none = λ mine. logged-same mine refl; more = λ a b. logged-then a b }

-- ---- the tries of a write that waits

-- the same seat of the counter, where nothing is counted
pub counted-none : (count : CountSeatOf) → accounted (pos 0) count ≡ count
counted-none count =
    let same : (n : ℕ) → n + 0 ≡ n = λ n. omega arith in
    ap₂ (λ added adds. record count { added = added; adds = adds; steps = count.steps + 0 })
    (omega (arith, ints)) (same count.adds)
    ∙ ap (λ steps. record count { steps = steps }) (same count.steps)

-- so nothing was counted of what changed nothing
pub uncounted :
    (net : ℤ) (before after : CountSeatOf) → net ≡ pos 0 → after ≡ before
    → after ≡ accounted net before
uncounted net before after none same =
    same ∙ sym (counted-none before) ∙ ap (λ net. accounted net before) (sym none)

-- steps of a call that counted nothing
pub worked-uncounted :
    {map : MapOf} {call : Call} {before after : SeatOf} {made : List (Call × Reply)} {most : ℕ}
    → HasMade map.chain.shape call before.chain after.chain made most → after.count ≡ before.count
    → HasWorked map call before after most
worked-uncounted {before = before} made same =
    record { steps = (_, made); net = pos 0; count = same ∙ sym (counted-none before.count) }

-- ---- two seats that meet

-- what is a beginning of a history has a beginning of its log
pub log-begins :
    (before after : SeatOf) → IsBeginning before.chain.seen after.chain.seen
    → IsBeginning (log before) (log after)
log-begins before after begun = record {
  later = log_of begun.later;
  is = ap log_of begun.is
      ∙ filter_map-append entry_of begun.later _;
}
