-- Worked histories, the newest event first. They are examples: each is proved legal.
use Rattle.std.specs.Prelude.{◌≡◌, ℕ, suc, zero, Bool, true, false, if◌then◌else◌, List, [], ◌∷◌, All, Option, Some, None}
use Rattle.std.specs.FinMap as map
use Rattle.nb_core.specs.Plans.{Plan, plan, size_of}
use Rattle.nb_core.specs.Tables.{Tables, tables_at}
use Rattle.nb_core.specs.History.{map_of}
use Rattle.nb_core.specs.declared.calls.Call.TheVariants as call
use Rattle.nb_core.specs.declared.calls.Change.TheVariants as change
use Rattle.nb_core.specs.declared.calls.Want.TheVariants.{Any}
use Rattle.nb_core.specs.declared.calls.Reply.{Reply}
use Rattle.nb_core.specs.declared.events.Event.{Event}
use Rattle.nb_core.specs.declared.events.Event.TheVariants.{Claim, Kill, Won, CopyIn, Prime, Finish, Install, Take, Count, Promote, Read}
use Rattle.nb_core.specs.declared.states.ValueState.TheVariants.{Null, Tombstone, Live}
use Rattle.nb_core.specs.declared.states.KeyState.{KeyState}
use Rattle.nb_core.specs.declared.states.KeyState.TheVariants.{Empty, Dead, Claimed}
use Rattle.nb_core.specs.declared.states.ValueState.{ValueState}

-- a plan and a history over it
pub record Worked : Type 0 where
  pub plan : Plan
  pub events : List Event

-- the reply with this earlier number, which says whether the condition held
abbrev pub replied : Option ℕ → Bool → Reply
replied before matched = record { before = before; matched = matched }

-- whether the slot has no key and isn't closed to keys
abbrev pub is_empty : KeyState → Bool
is_empty Empty = true
is_empty Dead = false
is_empty (Claimed k) = false

-- the slots of a table that aren't empty, from slot i on, of which there are so many: the slot, its
-- key and its value
abbrev pub slots_from : Tables → ℕ → ℕ → ℕ → List (ℕ × KeyState × ValueState)
slots_from t g i zero = []
slots_from t g i (suc n) =
    if is_empty (t.key g i) then slots_from t g (suc i) n else (i, t.key g i, t.value g i)
    ∷ slots_from t g (suc i) n

-- what the slots of a table hold after the history; a slot that isn't listed is empty
abbrev pub slots_at : Worked → ℕ → List (ℕ × KeyState × ValueState)
slots_at w g = slots_from (tables_at w.plan w.events) g 0 (size_of w.plan g)

-- a table's header words: next, take and done
abbrev pub headers_at : Worked → ℕ → ℕ × ℕ × ℕ
headers_at w g = let t = tables_at w.plan w.events in (t.next g, t.taken g, t.counted g)

-- the top word
abbrev pub top_at : Worked → ℕ
top_at w = (tables_at w.plan w.events).top

-- the map of the history has these numbers at these keys, or none
abbrev pub HasNumbers : Worked → List (ℕ × Option ℕ) → Type 0
HasNumbers w entries = All (λ e. map.get (map_of w.events) e.0 ≡ e.1) entries

-- grows when a path is crowded
abbrev pub grows_when_a_path_is_crowded : Worked
grows_when_a_path_is_crowded = record {
  plan = plan (2 ∷ 3 ∷ 4 ∷ []) 1 1;
  events =
      Won 0 1 5 Null (Live 22) (call.Write 12 Any (change.Put 22)) (replied None true)
      ∷ Claim 0 1 5 12
      ∷ Promote 0 0
      ∷ Count 0 0 4
      ∷ Kill 0 0 3
      ∷ Finish 0 0 2
      ∷ CopyIn 0 1 1 8 18
      ∷ Claim 0 1 1 8
      ∷ Prime 0 0 2
      ∷ Finish 0 0 1
      ∷ CopyIn 0 1 4 4 14
      ∷ Claim 0 1 4 4
      ∷ Prime 0 0 1
      ∷ Finish 0 0 0
      ∷ CopyIn 0 1 0 0 10
      ∷ Claim 0 1 0 0
      ∷ Prime 0 0 0
      ∷ Take 0 0
      ∷ Install 0 0 12
      ∷ Won 0 0 2 Null (Live 18) (call.Write 8 Any (change.Put 18)) (replied None true)
      ∷ Claim 0 0 2 8
      ∷ Won 0 0 1 Null (Live 14) (call.Write 4 Any (change.Put 14)) (replied None true)
      ∷ Claim 0 0 1 4
      ∷ Won 0 0 0 Null (Live 10) (call.Write 0 Any (change.Put 10)) (replied None true)
      ∷ Claim 0 0 0 0
      ∷ [];
}

-- a removal is not copied
abbrev pub a_removal_is_not_copied : Worked
a_removal_is_not_copied = record {
  plan = plan (2 ∷ 3 ∷ 4 ∷ []) 1 1;
  events =
      Won 0 1 4 Null (Live 22) (call.Write 12 Any (change.Put 22)) (replied None true)
      ∷ Claim 0 1 4 12
      ∷ Promote 0 0
      ∷ Count 0 0 4
      ∷ Kill 0 0 3
      ∷ Finish 0 0 2
      ∷ CopyIn 0 1 1 8 18
      ∷ Claim 0 1 1 8
      ∷ Prime 0 0 2
      ∷ Prime 0 0 1
      ∷ Finish 0 0 0
      ∷ CopyIn 0 1 0 0 10
      ∷ Claim 0 1 0 0
      ∷ Prime 0 0 0
      ∷ Take 0 0
      ∷ Install 0 0 12
      ∷ Won 0 0 1 (Live 14) Tombstone (call.Write 4 Any change.Remove) (replied (Some 14) true)
      ∷ Won 0 0 2 Null (Live 18) (call.Write 8 Any (change.Put 18)) (replied None true)
      ∷ Claim 0 0 2 8
      ∷ Won 0 0 1 Null (Live 14) (call.Write 4 Any (change.Put 14)) (replied None true)
      ∷ Claim 0 0 1 4
      ∷ Won 0 0 0 Null (Live 10) (call.Write 0 Any (change.Put 10)) (replied None true)
      ∷ Claim 0 0 0 0
      ∷ [];
}

-- copy of one slot
abbrev pub copy_of_one_slot : Worked
copy_of_one_slot = record {
  plan = plan (2 ∷ 3 ∷ []) 2 1;
  events =
      Read 1 (call.Get 0) (replied (Some 10) true)
      ∷ Count 1 0 1
      ∷ Finish 1 0 0
      ∷ CopyIn 1 1 0 0 10
      ∷ Claim 1 1 0 0
      ∷ Prime 0 0 0
      ∷ Install 0 0 12
      ∷ Won 0 0 2 Null (Live 18) (call.Write 8 Any (change.Put 18)) (replied None true)
      ∷ Claim 0 0 2 8
      ∷ Won 0 0 1 Null (Live 14) (call.Write 4 Any (change.Put 14)) (replied None true)
      ∷ Claim 0 0 1 4
      ∷ Won 0 0 0 Null (Live 10) (call.Write 0 Any (change.Put 10)) (replied None true)
      ∷ Claim 0 0 0 0
      ∷ [];
}

-- stopped copier
abbrev pub stopped_copier : Worked
stopped_copier = record {
  plan = plan (2 ∷ 3 ∷ 4 ∷ []) 2 1;
  events =
      Read 0 (call.Get 0) (replied None true)
      ∷ Won 1 2 1 Null (Live 42) (call.Write 32 Any (change.Put 42)) (replied None true)
      ∷ Claim 1 2 1 32
      ∷ Promote 1 1
      ∷ Count 1 1 8
      ∷ Kill 1 1 7
      ∷ Kill 1 1 6
      ∷ Kill 1 1 5
      ∷ Finish 1 1 4
      ∷ CopyIn 1 2 4 4 14
      ∷ Claim 1 2 4 4
      ∷ Prime 1 1 4
      ∷ Finish 1 1 3
      ∷ CopyIn 1 2 9 24 34
      ∷ Claim 1 2 9 24
      ∷ Prime 1 1 3
      ∷ Finish 1 1 2
      ∷ CopyIn 1 2 0 16 26
      ∷ Claim 1 2 0 16
      ∷ Prime 1 1 2
      ∷ Finish 1 1 1
      ∷ CopyIn 1 2 8 8 18
      ∷ Claim 1 2 8 8
      ∷ Prime 1 1 1
      ∷ Prime 1 1 0
      ∷ Take 1 1
      ∷ Install 1 1 32
      ∷ Won 1 1 3 Null (Live 34) (call.Write 24 Any (change.Put 34)) (replied None true)
      ∷ Claim 1 1 3 24
      ∷ Won 1 1 2 Null (Live 26) (call.Write 16 Any (change.Put 26)) (replied None true)
      ∷ Claim 1 1 2 16
      ∷ Won 1 1 0 (Live 10) Tombstone (call.Write 0 Any change.Remove) (replied (Some 10) true)
      ∷ Promote 1 0
      ∷ Count 1 0 4
      ∷ Kill 1 0 3
      ∷ Finish 1 0 2
      ∷ CopyIn 1 1 1 8 18
      ∷ Claim 1 1 1 8
      ∷ Prime 1 0 2
      ∷ Finish 1 0 1
      ∷ CopyIn 1 1 4 4 14
      ∷ Claim 1 1 4 4
      ∷ Prime 1 0 1
      ∷ Finish 1 0 0
      ∷ CopyIn 1 1 0 0 10
      ∷ Claim 1 1 0 0
      ∷ Take 1 0
      ∷ Prime 0 0 0
      ∷ Install 0 0 12
      ∷ Won 0 0 2 Null (Live 18) (call.Write 8 Any (change.Put 18)) (replied None true)
      ∷ Claim 0 0 2 8
      ∷ Won 0 0 1 Null (Live 14) (call.Write 4 Any (change.Put 14)) (replied None true)
      ∷ Claim 0 0 1 4
      ∷ Won 0 0 0 Null (Live 10) (call.Write 0 Any (change.Put 10)) (replied None true)
      ∷ Claim 0 0 0 0
      ∷ [];
}

-- three helpers
abbrev pub three_helpers : Worked
three_helpers = record {
  plan = plan (4 ∷ 5 ∷ []) 3 1;
  events =
      Take 2 0
      ∷ Promote 1 0
      ∷ Count 1 0 8
      ∷ Kill 1 0 15
      ∷ Kill 1 0 14
      ∷ Kill 1 0 13
      ∷ Kill 1 0 12
      ∷ Kill 1 0 11
      ∷ Kill 1 0 10
      ∷ Kill 1 0 9
      ∷ Kill 1 0 8
      ∷ Take 1 0
      ∷ Count 0 0 8
      ∷ Kill 0 0 7
      ∷ Kill 0 0 6
      ∷ Finish 0 0 5
      ∷ CopyIn 0 1 18 80 90
      ∷ Claim 0 1 18 80
      ∷ Prime 0 0 5
      ∷ Finish 0 0 4
      ∷ CopyIn 0 1 2 64 74
      ∷ Claim 0 1 2 64
      ∷ Prime 0 0 4
      ∷ Finish 0 0 3
      ∷ CopyIn 0 1 17 48 58
      ∷ Claim 0 1 17 48
      ∷ Prime 0 0 3
      ∷ Finish 0 0 2
      ∷ CopyIn 0 1 1 32 42
      ∷ Claim 0 1 1 32
      ∷ Prime 0 0 2
      ∷ Finish 0 0 1
      ∷ CopyIn 0 1 16 16 26
      ∷ Claim 0 1 16 16
      ∷ Prime 0 0 1
      ∷ Finish 0 0 0
      ∷ CopyIn 0 1 0 0 10
      ∷ Claim 0 1 0 0
      ∷ Prime 0 0 0
      ∷ Take 0 0
      ∷ Install 0 0 96
      ∷ Won 0 0 5 Null (Live 90) (call.Write 80 Any (change.Put 90)) (replied None true)
      ∷ Claim 0 0 5 80
      ∷ Won 0 0 4 Null (Live 74) (call.Write 64 Any (change.Put 74)) (replied None true)
      ∷ Claim 0 0 4 64
      ∷ Won 0 0 3 Null (Live 58) (call.Write 48 Any (change.Put 58)) (replied None true)
      ∷ Claim 0 0 3 48
      ∷ Won 0 0 2 Null (Live 42) (call.Write 32 Any (change.Put 42)) (replied None true)
      ∷ Claim 0 0 2 32
      ∷ Won 0 0 1 Null (Live 26) (call.Write 16 Any (change.Put 26)) (replied None true)
      ∷ Claim 0 0 1 16
      ∷ Won 0 0 0 Null (Live 10) (call.Write 0 Any (change.Put 10)) (replied None true)
      ∷ Claim 0 0 0 0
      ∷ [];
}

-- contended once, with one try
abbrev pub contended_once : Worked
contended_once = record {
  plan = plan (2 ∷ []) 2 1;
  events =
      Read 0 (call.Get 7) (replied (Some 6) true)
      ∷ Won 1 0 3 Null (Live 6) (call.Write 7 Any (change.Put 6)) (replied None true)
      ∷ Claim 0 0 3 7
      ∷ [];
}

-- contended once, with two tries
abbrev pub contended_once_with_two_tries : Worked
contended_once_with_two_tries = record {
  plan = plan (2 ∷ []) 2 1;
  events =
      Read 0 (call.Get 7) (replied (Some 5) true)
      ∷ Won 0 0 3 (Live 6) (Live 5) (call.Write 7 Any (change.Put 5)) (replied (Some 6) true)
      ∷ Won 1 0 3 Null (Live 6) (call.Write 7 Any (change.Put 6)) (replied None true)
      ∷ Claim 0 0 3 7
      ∷ [];
}

-- filled, removed, refilled
abbrev pub filled_removed_refilled : Worked
filled_removed_refilled = record {
  plan = plan (2 ∷ 3 ∷ []) 1 1;
  events =
      Won 0 1 3 Null (Live 23) (call.Write 3 Any (change.Put 23)) (replied None true)
      ∷ Claim 0 1 3 3
      ∷ Won 0 1 2 Null (Live 22) (call.Write 2 Any (change.Put 22)) (replied None true)
      ∷ Claim 0 1 2 2
      ∷ Won 0 1 1 Null (Live 21) (call.Write 1 Any (change.Put 21)) (replied None true)
      ∷ Claim 0 1 1 1
      ∷ Won 0 1 0 Null (Live 20) (call.Write 0 Any (change.Put 20)) (replied None true)
      ∷ Claim 0 1 0 0
      ∷ Won 0 1 7 Null (Live 17) (call.Write 7 Any (change.Put 17)) (replied None true)
      ∷ Claim 0 1 7 7
      ∷ Won 0 1 6 Null (Live 16) (call.Write 6 Any (change.Put 16)) (replied None true)
      ∷ Claim 0 1 6 6
      ∷ Won 0 1 5 Null (Live 15) (call.Write 5 Any (change.Put 15)) (replied None true)
      ∷ Claim 0 1 5 5
      ∷ Won 0 1 4 Null (Live 14) (call.Write 4 Any (change.Put 14)) (replied None true)
      ∷ Claim 0 1 4 4
      ∷ Promote 0 0
      ∷ Count 0 0 4
      ∷ Prime 0 0 3
      ∷ Prime 0 0 2
      ∷ Prime 0 0 1
      ∷ Prime 0 0 0
      ∷ Take 0 0
      ∷ Install 0 0 4
      ∷ Won 0 0 3 (Live 13) Tombstone (call.Write 3 Any change.Remove) (replied (Some 13) true)
      ∷ Won 0 0 2 (Live 12) Tombstone (call.Write 2 Any change.Remove) (replied (Some 12) true)
      ∷ Won 0 0 1 (Live 11) Tombstone (call.Write 1 Any change.Remove) (replied (Some 11) true)
      ∷ Won 0 0 0 (Live 10) Tombstone (call.Write 0 Any change.Remove) (replied (Some 10) true)
      ∷ Won 0 0 3 Null (Live 13) (call.Write 3 Any (change.Put 13)) (replied None true)
      ∷ Claim 0 0 3 3
      ∷ Won 0 0 2 Null (Live 12) (call.Write 2 Any (change.Put 12)) (replied None true)
      ∷ Claim 0 0 2 2
      ∷ Won 0 0 1 Null (Live 11) (call.Write 1 Any (change.Put 11)) (replied None true)
      ∷ Claim 0 0 1 1
      ∷ Won 0 0 0 Null (Live 10) (call.Write 0 Any (change.Put 10)) (replied None true)
      ∷ Claim 0 0 0 0
      ∷ [];
}

-- plan of three tables, two of one size
abbrev pub plan_of_three : Worked
plan_of_three = record {
  plan = plan (2 ∷ 2 ∷ 3 ∷ []) 1 1;
  events =
      Won 0 2 5 Null (Live 22) (call.Write 12 Any (change.Put 22)) (replied None true)
      ∷ Claim 0 2 5 12
      ∷ Promote 0 1
      ∷ Count 0 1 4
      ∷ Kill 0 1 3
      ∷ Finish 0 1 2
      ∷ CopyIn 0 2 1 8 18
      ∷ Claim 0 2 1 8
      ∷ Prime 0 1 2
      ∷ Finish 0 1 1
      ∷ CopyIn 0 2 4 4 14
      ∷ Claim 0 2 4 4
      ∷ Prime 0 1 1
      ∷ Finish 0 1 0
      ∷ CopyIn 0 2 0 0 10
      ∷ Claim 0 2 0 0
      ∷ Prime 0 1 0
      ∷ Take 0 1
      ∷ Install 0 1 12
      ∷ Promote 0 0
      ∷ Count 0 0 4
      ∷ Kill 0 0 3
      ∷ Finish 0 0 2
      ∷ CopyIn 0 1 2 8 18
      ∷ Claim 0 1 2 8
      ∷ Prime 0 0 2
      ∷ Finish 0 0 1
      ∷ CopyIn 0 1 1 4 14
      ∷ Claim 0 1 1 4
      ∷ Prime 0 0 1
      ∷ Finish 0 0 0
      ∷ CopyIn 0 1 0 0 10
      ∷ Claim 0 1 0 0
      ∷ Prime 0 0 0
      ∷ Take 0 0
      ∷ Install 0 0 12
      ∷ Won 0 0 2 Null (Live 18) (call.Write 8 Any (change.Put 18)) (replied None true)
      ∷ Claim 0 0 2 8
      ∷ Won 0 0 1 Null (Live 14) (call.Write 4 Any (change.Put 14)) (replied None true)
      ∷ Claim 0 0 1 4
      ∷ Won 0 0 0 Null (Live 10) (call.Write 0 Any (change.Put 10)) (replied None true)
      ∷ Claim 0 0 0 0
      ∷ [];
}

-- a successor of the same size
abbrev pub same_size_successor : Worked
same_size_successor = record {
  plan = plan (2 ∷ 2 ∷ []) 1 1;
  events =
      Won 0 1 3 Null (Live 34) (call.Write 24 Any (change.Put 34)) (replied None true)
      ∷ Claim 0 1 3 24
      ∷ Won 0 1 2 Null (Live 30) (call.Write 20 Any (change.Put 30)) (replied None true)
      ∷ Claim 0 1 2 20
      ∷ Won 0 1 1 Null (Live 26) (call.Write 16 Any (change.Put 26)) (replied None true)
      ∷ Claim 0 1 1 16
      ∷ Won 0 1 0 Null (Live 22) (call.Write 12 Any (change.Put 22)) (replied None true)
      ∷ Claim 0 1 0 12
      ∷ Promote 0 0
      ∷ Count 0 0 4
      ∷ Kill 0 0 3
      ∷ Prime 0 0 2
      ∷ Prime 0 0 1
      ∷ Prime 0 0 0
      ∷ Take 0 0
      ∷ Install 0 0 12
      ∷ Won 0 0 2 (Live 18) Tombstone (call.Write 8 Any change.Remove) (replied (Some 18) true)
      ∷ Won 0 0 1 (Live 14) Tombstone (call.Write 4 Any change.Remove) (replied (Some 14) true)
      ∷ Won 0 0 0 (Live 10) Tombstone (call.Write 0 Any change.Remove) (replied (Some 10) true)
      ∷ Won 0 0 2 Null (Live 18) (call.Write 8 Any (change.Put 18)) (replied None true)
      ∷ Claim 0 0 2 8
      ∷ Won 0 0 1 Null (Live 14) (call.Write 4 Any (change.Put 14)) (replied None true)
      ∷ Claim 0 0 1 4
      ∷ Won 0 0 0 Null (Live 10) (call.Write 0 Any (change.Put 10)) (replied None true)
      ∷ Claim 0 0 0 0
      ∷ [];
}

-- an add, contended once
abbrev pub add_contended_once : Worked
add_contended_once = record {
  plan = plan (2 ∷ []) 2 1;
  events =
      Read 0 (call.Get 7) (replied (Some 11) true)
      ∷ Won 0 0 3 (Live 6) (Live 11) (call.Write 7 Any (change.Add 5)) (replied (Some 6) true)
      ∷ Won 1 0 3 Null (Live 6) (call.Write 7 Any (change.Put 6)) (replied None true)
      ∷ Claim 0 0 3 7
      ∷ [];
}

-- adds, up to the greatest number
abbrev pub adds : Worked
adds = record {
  plan = plan (2 ∷ []) 1 1;
  events =
      Won 0 0 2 Null (Live 0) (call.Write 2 Any (change.Add 0)) (replied None true)
      ∷ Claim 0 0 2 2
      ∷ Read 0 (call.Write 1 Any (change.Add 0)) (replied (Some 1152921504606846975) true)
      ∷ Won 0 0 1 (Live 11) (Live 1152921504606846975)
      (call.Write 1 Any (change.Add 1152921504606846964)) (replied (Some 11) true)
      ∷ Read 0 (call.Get 1) (replied (Some 11) true)
      ∷ Won 0 0 1 (Live 5) (Live 11) (call.Write 1 Any (change.Add 6)) (replied (Some 5) true)
      ∷ Won 0 0 1 Null (Live 5) (call.Write 1 Any (change.Add 5)) (replied None true)
      ∷ Claim 0 0 1 1
      ∷ [];
}

-- full in the middle: a table whose slots are all claimed, and which has no next one yet
abbrev pub full_in_the_middle : Worked
full_in_the_middle = record {
  plan = plan (2 ∷ 2 ∷ 2 ∷ []) 1 1;
  events =
      Read 0 (call.Get 1) (replied None true)
      ∷ Read 0 (call.Get 5) (replied None true)
      ∷ Claim 0 1 3 3
      ∷ Claim 0 1 2 2
      ∷ Claim 0 1 1 1
      ∷ Claim 0 1 0 0
      ∷ Kill 0 0 3
      ∷ Prime 0 0 2
      ∷ Prime 0 0 1
      ∷ Prime 0 0 0
      ∷ Install 0 0 12
      ∷ Claim 0 0 2 8
      ∷ Claim 0 0 1 4
      ∷ Claim 0 0 0 0
      ∷ [];
}

-- half copied: a table and the next one are of the same size
abbrev pub half_copied : Worked
half_copied = record {
  plan = plan (2 ∷ 2 ∷ []) 1 1;
  events =
      Finish 0 0 0
      ∷ CopyIn 0 1 0 0 10
      ∷ Claim 0 1 0 0
      ∷ Prime 0 0 0
      ∷ Install 0 0 12
      ∷ Won 0 0 2 Null (Live 18) (call.Write 8 Any (change.Put 18)) (replied None true)
      ∷ Claim 0 0 2 8
      ∷ Won 0 0 1 Null (Live 14) (call.Write 4 Any (change.Put 14)) (replied None true)
      ∷ Claim 0 0 1 4
      ∷ Won 0 0 0 Null (Live 10) (call.Write 0 Any (change.Put 10)) (replied None true)
      ∷ Claim 0 0 0 0
      ∷ [];
}
