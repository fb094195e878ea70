-- What a call of the map does, told by the log of all calls.
use Rattle.std.specs.Prelude.{List, ◌≡◌, [], All, ◌++◌, ◌∷◌, ℕ, Option, Bool, Result, Ok, Err}
use Rattle.nb_core.specs.Log.{Entry, log_of, IsReplayed, calls_of, reply_at}
use Rattle.nb_core.specs.declared.calls.Call.{Call}
use Rattle.nb_core.specs.declared.calls.Reply.{Reply}
use Rattle.nb_map.specs.Maps.{SeatOf}

-- the log that a seat knows: the calls of all seats until its last step
abbrev pub log : SeatOf → List Entry
log seat = log_of seat.chain.seen

-- no call is in the log of any of these seats: neither its own nor another's
abbrev pub HaveEmptyLogs : List SeatOf → Type 0
HaveEmptyLogs seats = All (λ seat. log seat ≡ []) seats

-- The log has gone on. All of it is replayed, and of what is new just these calls are the seat's,
-- the newest first.
pub record HasLogged (before after : SeatOf) (made : List (Call × Reply)) : Type 0 where
  pub number : after.chain.number ≡ before.chain.number
  pub later : List Entry
  pub grown : log after ≡ later ++ log before
  pub replayed : IsReplayed (log after)
  pub own : calls_of before.chain.number later ≡ made

-- the seat has made this one call, with this reply
abbrev pub HasReplied : Call → (before after : SeatOf) → Reply → Type 0
HasReplied call before after reply = HasLogged before after ((call, reply) ∷ [])

-- the call with its reply, where its key has this number, or none
abbrev pub as_replied : Call → Option ℕ → List (Call × Reply)
as_replied call number = (call, reply_at call number) ∷ []

-- the call with its reply, if it was made and not refused
abbrev pub made_in : {E : Type 0} → Call → Result Reply E → List (Call × Reply)
made_in call (Ok reply) = (call, reply) ∷ []
made_in call (Err fault) = []

-- it has made this one call, which found this number at its key, or none
abbrev pub HasFound : Call → (before after : SeatOf) → Option ℕ → Type 0
HasFound call before after number =
    (reply : Reply) × (reply.before ≡ number) × HasReplied call before after reply

-- it has made this one call, and this is whether its condition held
abbrev pub HasMatched : Call → (before after : SeatOf) → Bool → Type 0
HasMatched call before after matched =
    (reply : Reply) × (reply.matched ≡ matched) × HasReplied call before after reply
