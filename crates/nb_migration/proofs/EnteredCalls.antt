-- A call that a seat has made is one entry of its core's log.
use Rattle.std.proofs.Common.{◌≡◌, ◌∙◌, ℕ, ◌==◌, List, [], ◌∷◌, ◌++◌, ap, sym, subst, refl, inl, inr}
use Rattle.std.proofs.lemmas.Bool.{cases_Bool, cond-false, cond-true, eqb-true}
use Rattle.nb_core.specs.Log.{Entry, IsReplayed, calls_of, map_of_log, reply_of}
use Rattle.nb_core.specs.declared.calls.Call.{Call}
use Rattle.nb_core.specs.declared.calls.Reply.{Reply}
use Rattle.nb_map.specs.Logs.{log}
use Rattle.nb_migration.specs.CoreCalls.{CallsAreEntries, made_call}

-- the entry of a call, and what comes before and after it
record IsIn (entry : Entry) (whole : List Entry) : Type 0 where
  later : List Entry
  earlier : List Entry
  is : whole ≡ later ++ entry ∷ earlier

-- where a seat has made one call, it is one of the entries
made-in :
    (seat : ℕ) (call : Call) (reply : Reply) (whole : List Entry)
    → ◌≡◌ {A = List (Call × Reply)} (calls_of seat whole) ((call, reply) ∷ [])
    → IsIn (record { seat = seat; call = call; reply = reply }) whole
made-in seat call reply [] made = absurd cc
made-in seat call reply (e ∷ rest) made = elim (cases_Bool (e.seat == seat)) [
  | inl own ↦
      let here : ◌≡◌ {A = List (Call × Reply)} ((e.call, e.reply) ∷ calls_of seat rest)
      ((call, reply) ∷ []) =
      sym (cond-true {A = List (Call × Reply)} (e.seat == seat) ((e.call, e.reply) ∷ calls_of seat rest) (calls_of seat rest) own)
      ∙ made in
      let first : ◌≡◌ {A = Call × Reply} (e.call, e.reply) (call, reply) = cc in
      let same : e ≡ record { seat = seat; call = call; reply = reply } =
      same-entry e seat call reply (eqb-true e.seat seat own) first in
      record { later = []; earlier = rest; is = ap (λ e. e ∷ rest) same }
  | inr other ↦
      let there = made-in seat call reply rest
      (sym (cond-false {A = List (Call × Reply)} (e.seat == seat) ((e.call, e.reply) ∷ calls_of seat rest) (calls_of seat rest) other)
      ∙ made) in
      record { later = e ∷ there.later; earlier = there.earlier; is = ap (λ l. e ∷ l) there.is }
]
  where
    same-entry : (e : Entry) (seat : ℕ) (call : Call) (reply : Reply) → e.seat ≡ seat
        → ◌≡◌ {A = Call × Reply} (e.call, e.reply) (call, reply) → e ≡ record { seat = seat; call = call; reply = reply }
    same-entry e seat call reply own first =
        ap (λ n. record { seat = n; call = e.call; reply = e.reply }) own
        ∙ ap (λ (p : Call × Reply). record { seat = seat; call = p.0; reply = p.1 }) first

-- an entry of a replayed log replies as the map does before it
replied-in :
    (later : List Entry) (entry : Entry) (earlier : List Entry)
    → IsReplayed (later ++ entry ∷ earlier) → entry.reply ≡ reply_of entry.call (map_of_log earlier)
replied-in [] entry earlier replayed = replayed.0
replied-in (e ∷ later) entry earlier replayed = replied-in later entry earlier replayed.1

append-more : (a b c : List Entry) → (a ++ b) ++ c ≡ a ++ (b ++ c)
append-more [] b c = refl
append-more (x ∷ a) b c = ap (λ l. x ∷ l) (append-more a b c)

pub calls_are_entries : CallsAreEntries
calls_are_entries call before after reply has =
    let seat = before.chain.number in
    let there = made-in seat (made_call call) reply has.later has.own in
    let entry : Entry = record { seat = seat; call = made_call call; reply = reply } in
    let is : log after ≡ there.later ++ entry ∷ (there.earlier ++ log before) =
    has.grown ∙ ap (λ l. l ++ log before) there.is
    ∙ append-more there.later (entry ∷ there.earlier) (log before) in
    record {
      later = there.later;
      earlier = there.earlier ++ log before;
      entered = is;
      fresh = record { later = there.earlier; is = refl };
      replied =
          replied-in there.later entry (there.earlier ++ log before) (subst IsReplayed is has.replayed);
    }
