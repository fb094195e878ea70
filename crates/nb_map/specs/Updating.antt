-- Updates of what is at a key by a function.
--
-- The function of an update may change as it is called. It is told by its steps: `Step f was new g`
-- says that a call of `f` at `was` may answer `new`, and leave the function as `g`.
use Rattle.std.specs.Prelude.{◌≡◌, ℕ, false, List, [], ◌∷◌, Option, suc, ◌≤◌, true, Some, None, length, Result, Ok, Err, map, Contains, IfSome}
use Rattle.nb_core.specs.declared.calls.Call.TheVariants.{Get}
use Rattle.nb_core.specs.declared.calls.Call.{Call}
use Rattle.nb_core.specs.declared.calls.Reply.{Reply}
use Rattle.nb_map.specs.Logs.{HasLogged}
use Rattle.nb_map.specs.Maps.{MapOf, SeatOf, HasWorked}
use Rattle.nb_map.specs.NamedCalls.{exchange_of}
use Rattle.nb_map.specs.Progress.{Tries, passed_since}
use Rattle.nb_map.specs.Refusals.{IsJust}
use Rattle.nb_map.specs.Steps.{update_steps}
use Rattle.nb_map.specs.declared.faults.PutFault.TheVariants as fault
use Rattle.nb_map.specs.declared.faults.PutFault.{PutFault}

-- What an update that hasn't ended has called: its calls, the newest first; what the newest found
-- at the key; and the function, as these calls left it. It has read the key. Each exchange after
-- that was of what the call before it found, for what the function made of that, in one call of it;
-- and it was lost, since something else was at the key by then.
pub data HasTried {F : Type 0} (Step : F → Option ℕ → Option ℕ → F → Type 0) (k : ℕ) (first : F) :
    List (Call × Reply) → Option ℕ → F → Type 0 where
  Read : (reply : Reply) → HasTried Step k first ((Get k, reply) ∷ []) reply.before first
  Lost :
      {calls : List (Call × Reply)} {was : Option ℕ} {f : F} → HasTried Step k first calls was f
      → (new : Option ℕ) (g : F) (reply : Reply) → Step f was new g → reply.matched ≡ false
      → HasTried Step k first ((exchange_of k was new, reply) ∷ calls) reply.before g

-- an exchange of what was found for what the function makes of it, in one call of the function
abbrev pub IsComputed :
    {F : Type 0} → (F → Option ℕ → Option ℕ → F → Type 0) → (k : ℕ) → (found : Option ℕ)
    → (function : F) → Call → Type 0
IsComputed {F} Step k found function call =
    (new : Option ℕ) × (left : F) × Step function found new left
    × (call ≡ exchange_of k found new)

-- How an update ends after these calls, the last of which found this. It has lost fewer exchanges
-- than it has tries, and makes one more. That is won; or it is refused for a just reason, and the
-- map is as it was. Or there is no further one: it has lost as many as it has tries, and others
-- have won as many exchanges on the key. (Its calls have the read as well, so they are one more
-- than the exchanges that it lost.)
abbrev pub IsEnd :
    (m : MapOf) → (k : ℕ) → (before after : SeatOf) → (tries : ℕ) → (calls : List (Call × Reply))
    → (found : Option ℕ) → (last : Option Call) → Result (Option ℕ) PutFault → Type 0
IsEnd m k before after tries calls found (Some call) (Ok was) =
    (was ≡ found) × (length calls ≤ tries)
    × HasLogged before after ((call, record { before = found; matched = true }) ∷ calls)
IsEnd m k before after tries calls found (Some call) (Err refusal) =
    (length calls ≤ tries) × HasLogged before after calls
    × IsJust m.chain.shape call before.chain after.chain (Tries tries) refusal
IsEnd m k before after tries calls found None (Ok was) = ⊥
IsEnd m k before after tries calls found None (Err refusal) =
    HasLogged before after calls × (refusal ≡ fault.Contended) × (length calls ≡ suc tries)
    × (tries ≤ passed_since (Get k) before.chain after.chain)

-- the calls that were asked for: these, and the last exchange
abbrev pub asked_for : Option Call → List (Call × Reply) → List Call
asked_for None calls = map (λ made. made.0) calls
asked_for (Some call) calls = call ∷ map (λ made. made.0) calls

-- An update with so many tries has come to this.
pub record IsUpdate {F : Type 0} (m : MapOf) (Step : F → Option ℕ → Option ℕ → F → Type 0) (f : F)
    (k : ℕ) (before after : SeatOf) (tries : ℕ) (result : Result (Option ℕ) PutFault) : Type 0 where
  -- it has read the key and lost some exchanges, if any
  pub calls : List (Call × Reply)
  pub found : Option ℕ
  pub function : F
  pub tried : HasTried Step k f calls found function
  -- then it has made one more exchange, or none
  pub last : Option Call
  pub computed : IfSome last (IsComputed Step k found function)
  pub ended : IsEnd m k before after tries calls found last result
  -- All that its steps did one of these calls may do. So a slot is claimed for a key that has none
  -- in the table below only if this call puts a number at an absent key.
  pub call : Call
  pub asked : Contains (asked_for last calls) call
  pub worked : HasWorked m call before after (update_steps m.chain.shape tries)
