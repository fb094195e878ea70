-- The reply of a call that a seat made.
use Rattle.std.proofs.Common.{◌≡◌, ◌==◌, ℕ, Bool, true, false, if◌then◌else◌, List, [], ◌∷◌, ◌++◌, length, ap, refl, subst, sym, arith}
use Rattle.nb_core.specs.Log.{Entry, IsReplayed, Numbers, calls_of, map_of_log, reply_at, reply_of}
use Rattle.nb_core.specs.declared.calls.Call.{Call}
use Rattle.nb_core.specs.declared.calls.Call.TheVariants.{Get, Write}
use Rattle.nb_core.specs.declared.calls.Reply.{Reply}
use Rattle.nb_map.specs.Laws.{RepliesFit}
use Rattle.nb_map.specs.Logs.{log}

abbrev head-or : {A : Type 0} → A → List A → A
head-or a [] = a
head-or a (x ∷ xs) = x

-- where a seat made one call, its reply is the call's for what was at its key
replies-at :
    (later first : List Entry) (seat : ℕ) (call : Call) (reply : Reply)
    → IsReplayed (later ++ first)
    → calls_of seat later ≡ (call, reply) ∷ [] → reply ≡ reply_at call reply.before
replies-at [] first seat call reply replayed made = absurd (omega (arith, ap length made))
replies-at (entry ∷ later) first seat call reply (is, replayed) made =
    own (entry.seat == seat) refl (replies-at later first seat call reply replayed)
  where
    -- what a call replies on a map it replies for what is there at its key
    replied-at : (call : Call) (m : Numbers)
        → reply_of call m ≡ reply_at call (reply_of call m).before
    replied-at (Get k) m = refl
    replied-at (Write k want change) m = refl

    at-entry : entry.reply ≡ reply_at entry.call entry.reply.before
    at-entry = subst (λ r. r ≡ reply_at entry.call r.before) (sym is)
        (replied-at entry.call (map_of_log (later ++ first)))

    Calls : Bool → Type 0
    Calls b = (if b then (entry.call, entry.reply) ∷ calls_of seat later else calls_of seat later)
        ≡ (call, reply) ∷ []

    own : (b : Bool) → (entry.seat == seat) ≡ b
        → (calls_of seat later ≡ (call, reply) ∷ [] → reply ≡ reply_at call reply.before)
        → reply ≡ reply_at call reply.before
    own true mine before =
        let same : ◌≡◌ {A = Call × Reply} (entry.call, entry.reply) (call, reply) =
        ap (head-or (call, reply)) (subst Calls mine made) in
        subst (λ made. made.1 ≡ reply_at made.0 made.1.before) same at-entry
    own false other before = before (subst Calls other made)

pub replies_fit : RepliesFit
replies_fit before after call reply logged =
    replies-at logged.later (log before) before.chain.number call reply
    (subst IsReplayed logged.grown logged.replayed) logged.own
