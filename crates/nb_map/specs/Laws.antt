-- What follows of the calls that a seat made.
use Rattle.std.specs.Prelude.{◌≡◌, List, [], ◌++◌}
use Rattle.nb_core.specs.Log.{reply_at}
use Rattle.nb_core.specs.declared.calls.Call.{Call}
use Rattle.nb_core.specs.declared.calls.Reply.{Reply}
use Rattle.nb_map.specs.Logs.{HasReplied, HasLogged}
use Rattle.nb_map.specs.Maps.{SeatOf, MapOf, IsMine}

-- The reply of a call that a seat made is the call's for what was at its key.
abbrev pub RepliesFit : Type 0
RepliesFit =
    (before after : SeatOf) (call : Call) (reply : Reply) → HasReplied call before after reply
    → reply ≡ reply_at call reply.before

-- Calls add up: none, and some after others.
pub record LogsAddUp : Type 0 where
  pub none : {map : MapOf} {seat : SeatOf} → IsMine map seat → HasLogged seat seat []
  pub more :
      {before then after : SeatOf} {made made' : List (Call × Reply)} → HasLogged before then made
      → HasLogged then after made'
      → HasLogged before after (made' ++ made)
