-- Calls at a slot that is known to be its key's, on the tables.
use Rattle.std.specs.Prelude.{◌≡◌, ◌<◌, ◌≤◌, ◌+◌, ◌-◌, ℕ, IfErr, Option, Some, None, Result}
use Rattle.nb_core.specs.Plans.{Plan}
use Rattle.nb_core.specs.declared.calls.Call.{Call}
use Rattle.nb_core.specs.declared.calls.Reply.{Reply}
use Rattle.nb_core.specs.declared.states.KeyState.{KeyState}
use Rattle.nb_core.specs.declared.states.KeyState.TheVariants.{Claimed, Dead, Empty}
use Rattle.nb_table.specs.Chains.{SeenBy}
use Rattle.nb_map.specs.Calling.{HasMade}
use Rattle.nb_map.specs.Logs.{made_in}
use Rattle.nb_map.specs.Progress.{Tries}
use Rattle.nb_map.specs.Refusals.{IsJust}
use Rattle.nb_map.specs.declared.faults.PutFault.{PutFault}
use Rattle.nb_map.specs.inside.Climbing.{IsSpent}

-- the key that has a slot
abbrev pub key_in : KeyState → Option ℕ
key_in Empty = None
key_in Dead = None
key_in (Claimed key) = Some key

-- What a write comes to at its key's slot, with so many tries: it is made with this reply, or refused
-- for a just reason. It has so many of its tries left.
pub record HasCalledThere (p : Plan) (call : Call) (before after : SeenBy) (tries : ℕ)
    (told : Result Reply PutFault) : Type 0 where
  pub left : ℕ
  pub spent : IsSpent call before after tries left
  pub made : HasMade p call before after (made_in call told) (2 + (tries - left))
  pub refused : IfErr told (IsJust p call before after (Tries tries))
  pub looked : before.steps < after.steps
