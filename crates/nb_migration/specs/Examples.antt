-- Examples: a run of the protocol, and which events calls are. Nobody has to believe them.
use Rattle.std.specs.Prelude.{ℕ, true, false, List, [], ◌∷◌, Option, Some, None, map}
use Rattle.nb_core.specs.declared.calls.Call.TheVariants.{Get}
use Rattle.nb_core.specs.declared.calls.Reply.{Reply}
use Rattle.nb_map.specs.NamedCalls.{add_of, put_if_absent_of, put_of}
use Rattle.nb_migration.specs.CoreCalls.{CoreCall, Copies, Closes, Freezes, Looks, Marks, Writes, event_of}
use Rattle.nb_migration.specs.Numbers.{frozen_of}
use Rattle.nb_migration.specs.Runs.{Calls, Links, Move, Turn}
use Rattle.nb_migration.specs.declared.numbers.TheConstants.{CLOSED, USER_MAX}
use Rattle.nb_moving.specs.declared.events.Event.{Event}
use Rattle.nb_moving.specs.declared.events.Event.TheVariants.{Begin, Look, Read, Write, Freeze, Copy, Mark}
use Rattle.nb_moving.specs.declared.events.Link.TheVariants.{One}

-- the reply of a call whose condition holds, and of one whose condition doesn't
abbrev pub met : Option ℕ → Reply
met before = record { before = before; matched = true }

abbrev pub unmet : Option ℕ → Reply
unmet before = record { before = before; matched = false }

abbrev pub turn : (thread core : ℕ) → Move → Turn
turn t c move = record { thread = t; core = c; move = move }

-- Key 5 moves from core 0 to core 1. Thread 1, by its seat 1 in each, finds it frozen when it puts 11,
-- and so goes on to core 1. The newest turn is first.
abbrev pub a_key_moves : List Turn
a_key_moves =
    turn 1 1 (Calls 1 (Writes true (put_of 5 11)) (met (Some 10)))
    ∷ turn 1 0 (Calls 1 (Looks false 5) (met (Some CLOSED)))
    ∷ turn 0 0 (Calls 0 (Marks 1 5 10) (met (Some (frozen_of 10))))
    ∷ turn 0 1 (Calls 0 (Copies 0 5 10) (met None))
    ∷ turn 1 0 (Calls 1 (Writes true (put_of 5 11)) (unmet (Some (frozen_of 10))))
    ∷ turn 0 0 (Calls 0 (Freezes 5 10) (met (Some 10)))
    ∷ turn 0 0 (Links (One 1))
    ∷ turn 0 0 (Calls 0 (Writes true (put_of 5 10)) (met None))
    ∷ []

-- its history
abbrev pub moves_of_a_key : List Event
moves_of_a_key =
    Write 1 1 (put_of 5 11) (met (Some 10))
    ∷ Look 1 0 5
    ∷ Mark 0 0 1 5 10
    ∷ Copy 0 0 1 5 10
    ∷ Look 1 0 5
    ∷ Freeze 0 0 5 10
    ∷ Begin 0 0 (One 1)
    ∷ Write 0 0 (put_of 5 10) (met None)
    ∷ []

-- a call with its reply
pub record CallWithReply : Type 0 where
  pub call : CoreCall
  pub reply : Reply

abbrev pub with_reply : CoreCall → Reply → CallWithReply
with_reply call reply = record { call = call; reply = reply }

-- calls that change nothing, by thread 0 in core 0, and their events
abbrev pub idle_calls : List CallWithReply
idle_calls =
    with_reply (Freezes 5 10) (unmet None)
    ∷ with_reply (Freezes 5 10) (unmet (Some 11))
    ∷ with_reply (Marks 1 5 10) (unmet (Some CLOSED))
    ∷ with_reply (Closes 5 true) (unmet (Some 10))
    ∷ with_reply (Copies 0 5 10) (unmet (Some 11))
    ∷ with_reply (Writes true (put_of 5 11)) (unmet (Some (frozen_of 10)))
    ∷ with_reply (Writes true (add_of 5 1)) (unmet (Some USER_MAX))
    ∷ with_reply (Writes true (put_if_absent_of 5 11)) (unmet (Some 10))
    ∷ with_reply (Writes true (put_of 5 10)) (met (Some 10))
    ∷ with_reply (Looks true 5) (met (Some CLOSED))
    ∷ with_reply (Looks true 5) (met (Some (frozen_of 10)))
    ∷ with_reply (Looks false 5) (met (Some 10))
    ∷ []

abbrev pub events_of : List CallWithReply → List Event
events_of = map (λ (r : CallWithReply). event_of 0 0 r.call r.reply)

abbrev pub idle_events : List Event
idle_events =
    Look 0 0 5
    ∷ Look 0 0 5
    ∷ Look 0 0 5
    ∷ Look 0 0 5
    ∷ Look 0 0 5
    ∷ Look 0 0 5
    ∷ Look 0 0 5
    ∷ Read 0 0 (put_if_absent_of 5 11) (unmet (Some 10))
    ∷ Read 0 0 (put_of 5 10) (met (Some 10))
    ∷ Look 0 0 5
    ∷ Read 0 0 (Get 5) (met (Some 10))
    ∷ Look 0 0 5
    ∷ []
