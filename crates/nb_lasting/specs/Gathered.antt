-- All handles of a map, each with one seat, are made one, which is counted or made anew, and parted
-- again.
use Rattle.std.specs.Prelude.{◌≡◌, ◌≤◌, ℕ, List, [], All, IfErr, IfOk, Result, Some, length, map, slice_get, slice_set}
use Rattle.std.specs.declared.alloc.AllocError.{AllocError as OutOfMemory}
use Rattle.nb_core.specs.declared.calls.Call.{Call}
use Rattle.nb_core.specs.declared.calls.Reply.{Reply}
use Rattle.nb_map.specs.Handles.{HandleOf, IsSameMap, KeepsRest, handle_on, seats_of}
use Rattle.nb_map.specs.Maps.{MapOf, SeatOf}
use Rattle.nb_map.specs.Renewing.{IsKept}
use Rattle.nb_map.specs.Settling.{HaveSettled}
use Rattle.nb_map.specs.declared.faults.PutFault.{PutFault}
use Rattle.nb_lasting.specs.Tries.{IsTry}

-- a handle for each seat of this one
abbrev pub parts_of : HandleOf → List HandleOf
parts_of whole = map (handle_on whole.map) (seats_of whole)

-- each handle's own seat
abbrev pub seats_of_each : List HandleOf → List SeatOf
seats_of_each handles = map (λ handle. handle.seat) handles

-- a handle of this map, with no seat in reserve
pub record IsSingle (m : MapOf) (handle : HandleOf) : Type 0 where
  pub map : handle.map ≡ m
  pub alone : handle.reserve ≡ []

-- some handles of a map, not too many, each with one seat
pub record AreSingle (handles : List HandleOf) : Type 0 where
  pub shared : MapOf
  pub each : All (IsSingle shared) handles
  pub some : 1 ≤ length handles
  pub few : length handles ≤ 256

-- The handle was to be made anew, which was refused; then all its seats have settled.
pub record IsRested (before after : HandleOf) : Type 0 where
  pub tried : HandleOf
  pub kept : IsKept before tried
  pub size : ℕ
  pub settled : HaveSettled tried.map (seats_of tried) (seats_of after) size
  pub same : IsSameMap tried after

-- The handles were one, with all their seats in order; its keys were counted, or memory for that
-- was refused; and it was parted again.
pub record IsPartedCounted (before after : List HandleOf) (result : Result ℕ OutOfMemory) :
    Type 0 where
  pub joined : HandleOf
  pub whole : HandleOf
  pub one_map : (single : AreSingle before) → joined.map ≡ single.shared
  pub seats : seats_of joined ≡ seats_of_each before
  pub parted : after ≡ parts_of whole
  pub same : IsSameMap joined whole
  pub settled : IfOk result (HaveSettled joined.map (seats_of joined) (seats_of whole))
  pub kept : IfErr result (λ refused. whole ≡ joined)

-- the handle of this lane has made this write, or was refused it; the others are as they were
pub record HasWrittenBy (lane : ℕ) (call : Call) (before after : List HandleOf)
    (result : Result Reply PutFault) : Type 0 where
  pub old : HandleOf
  pub new : HandleOf
  pub was : slice_get before lane ≡ Some old
  pub is : after ≡ slice_set before lane new
  pub rest : KeepsRest old new
  pub wrote : IsTry call result old new
