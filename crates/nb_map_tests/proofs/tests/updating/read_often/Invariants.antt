use Rattle.std.proofs.Common.{◌≡◌, List, length}
use Rattle.nb_core.specs.declared.calls.Call.{Call}
use Rattle.nb_core.specs.declared.calls.Reply.{Reply}
use Rattle.nb_map.specs.Handles.{KeepsRest}
use Rattle.nb_map.specs.Logs.{HasLogged}
use Rattle.nb_map_tests.proofs.tests.updating.read_often.Given as goal

abbrev pub invariant-loop-round : goal.invariant-loop-round
invariant-loop-round l =
    KeepsRest l.fn.handle l.handle
    × (made : List (Call × Reply)) × (length made ≡ l._round)
    × HasLogged l.fn.handle.seat l.handle.seat made
