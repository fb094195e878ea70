-- Events that may not follow a legal history: what wrong code would do. They are examples: each is
-- proved refused.
use Rattle.std.specs.Prelude.{List, [], ◌∷◌, true, Some, None}
use Rattle.nb_core.specs.Plans.{Plan, plan}
use Rattle.nb_core.specs.declared.calls.Call.TheVariants as call
use Rattle.nb_core.specs.declared.calls.Change.TheVariants as change
use Rattle.nb_core.specs.declared.calls.Want.TheVariants.{Any}
use Rattle.nb_core.specs.declared.events.Event.{Event}
use Rattle.nb_core.specs.declared.events.Event.TheVariants.{Claim, Kill, Won, CopyIn, Prime, Finish, Install, Take, Count, Promote, Read}
use Rattle.nb_core.specs.declared.states.ValueState.TheVariants.{Null, Tombstone, Live}
use Rattle.nb_core.specs.History.{MayFollow, Replies, map_of}
use Rattle.nb_histories.specs.Histories.{replied}

-- a legal history, and an event that may not follow it
pub record Wrong : Type 0 where
  pub plan : Plan
  pub before : List Event
  pub event : Event

-- the event would break a rule for events
abbrev pub MayNotFollow : Wrong → Type 0
MayNotFollow w = MayFollow w.plan w.before w.event → ⊥

-- the event's reply would be wrong, or its call would overflow
abbrev pub MayNotReply : Wrong → Type 0
MayNotReply w = Replies (map_of w.before) w.event → ⊥

-- a second copier stores over the number that is there already
abbrev pub overwriting_copy : Wrong
overwriting_copy = record {
  plan = plan (2 ∷ 3 ∷ []) 2 1;
  before =
      CopyIn 0 1 0 0 10
      ∷ Claim 0 1 0 0
      ∷ Prime 0 0 0
      ∷ Install 0 0 12
      ∷ Won 0 0 0 Null (Live 10) (call.Write 0 Any (change.Put 10)) (replied None true)
      ∷ Claim 0 0 2 8
      ∷ Claim 0 0 1 4
      ∷ Claim 0 0 0 0
      ∷ [];
  event = CopyIn 1 1 0 0 10;
}

-- a second copier stores the old number over a newer one
abbrev pub overwriting_copy_of_a_newer_number : Wrong
overwriting_copy_of_a_newer_number = record {
  plan = plan (2 ∷ 3 ∷ []) 2 1;
  before =
      Won 0 1 0 (Live 10) (Live 11) (call.Write 0 Any (change.Put 11)) (replied (Some 10) true)
      ∷ Finish 0 0 0
      ∷ CopyIn 0 1 0 0 10
      ∷ Claim 0 1 0 0
      ∷ Prime 0 0 0
      ∷ Install 0 0 12
      ∷ Won 0 0 0 Null (Live 10) (call.Write 0 Any (change.Put 10)) (replied None true)
      ∷ Claim 0 0 2 8
      ∷ Claim 0 0 1 4
      ∷ Claim 0 0 0 0
      ∷ [];
  event = CopyIn 1 1 0 0 10;
}

-- a slot is finished before its key has a slot in the next table
abbrev pub early_finish : Wrong
early_finish = record {
  plan = plan (2 ∷ 3 ∷ []) 1 1;
  before =
      Prime 0 0 0
      ∷ Install 0 0 12
      ∷ Won 0 0 0 Null (Live 10) (call.Write 0 Any (change.Put 10)) (replied None true)
      ∷ Claim 0 0 2 8
      ∷ Claim 0 0 1 4
      ∷ Claim 0 0 0 0
      ∷ [];
  event = Finish 0 0 0;
}

-- a slot is finished before its number stands in the next table
abbrev pub early_finish_at_a_null : Wrong
early_finish_at_a_null = record {
  plan = plan (2 ∷ 3 ∷ []) 1 1;
  before =
      Claim 0 1 0 0
      ∷ Prime 0 0 0
      ∷ Install 0 0 12
      ∷ Won 0 0 0 Null (Live 10) (call.Write 0 Any (change.Put 10)) (replied None true)
      ∷ Claim 0 0 2 8
      ∷ Claim 0 0 1 4
      ∷ Claim 0 0 0 0
      ∷ [];
  event = Finish 0 0 0;
}

-- a writer in the next table whose slot below is not finished
abbrev pub hasty_writer : Wrong
hasty_writer = record {
  plan = plan (2 ∷ 3 ∷ []) 1 1;
  before =
      Claim 0 1 0 0
      ∷ Install 0 0 12
      ∷ Claim 0 0 2 8
      ∷ Claim 0 0 1 4
      ∷ Claim 0 0 0 0
      ∷ [];
  event = Won 0 1 0 Null (Live 11) (call.Write 0 Any (change.Put 11)) (replied None true);
}

-- a slot is counted by a second seat, which met it finished
abbrev pub double_count : Wrong
double_count = record {
  plan = plan (2 ∷ 3 ∷ []) 2 1;
  before =
      Count 0 0 1
      ∷ Kill 0 0 3
      ∷ Install 0 0 12
      ∷ Claim 0 0 2 8
      ∷ Claim 0 0 1 4
      ∷ Claim 0 0 0 0
      ∷ [];
  event = Count 1 0 1;
}

-- a slot is counted twice by the seat that finished it
abbrev pub double_count_by_one_seat : Wrong
double_count_by_one_seat = record {
  plan = plan (2 ∷ 3 ∷ []) 1 1;
  before =
      Count 0 0 1
      ∷ Kill 0 0 3
      ∷ Install 0 0 12
      ∷ Claim 0 0 2 8
      ∷ Claim 0 0 1 4
      ∷ Claim 0 0 0 0
      ∷ [];
  event = Count 0 0 1;
}

-- a promotion when all slots were handed out and none is finished
abbrev pub early_promotion : Wrong
early_promotion = record {
  plan = plan (2 ∷ 3 ∷ []) 1 1;
  before =
      Take 0 0
      ∷ Install 0 0 12
      ∷ Claim 0 0 2 8
      ∷ Claim 0 0 1 4
      ∷ Claim 0 0 0 0
      ∷ [];
  event = Promote 0 0;
}

-- a late copier goes on one table too far and brings back a number that was removed
abbrev pub late_copier : Wrong
late_copier = record {
  plan = plan (2 ∷ 2 ∷ 2 ∷ []) 2 1;
  before =
      Claim 1 2 0 0
      ∷ Won 1 1 0 (Live 10) Tombstone (call.Write 0 Any change.Remove) (replied (Some 10) true)
      ∷ Install 1 1 12
      ∷ Claim 1 1 2 8
      ∷ Claim 1 1 1 4
      ∷ Kill 1 0 3
      ∷ Prime 1 0 2
      ∷ Prime 1 0 1
      ∷ Finish 1 0 0
      ∷ CopyIn 1 1 0 0 10
      ∷ Claim 1 1 0 0
      ∷ Prime 0 0 0
      ∷ Install 0 0 12
      ∷ Won 0 0 0 Null (Live 10) (call.Write 0 Any (change.Put 10)) (replied None true)
      ∷ Claim 0 0 2 8
      ∷ Claim 0 0 1 4
      ∷ Claim 0 0 0 0
      ∷ [];
  event = CopyIn 0 2 0 0 10;
}

-- a late copier goes on past a primed tombstone, and the removed key is shown again at once
abbrev pub late_copier_past_a_primed_tombstone : Wrong
late_copier_past_a_primed_tombstone = record {
  plan = plan (2 ∷ 2 ∷ 2 ∷ []) 2 1;
  before =
      Prime 1 1 0
      ∷ Claim 1 2 0 0
      ∷ Won 1 1 0 (Live 10) Tombstone (call.Write 0 Any change.Remove) (replied (Some 10) true)
      ∷ Install 1 1 12
      ∷ Claim 1 1 2 8
      ∷ Claim 1 1 1 4
      ∷ Kill 1 0 3
      ∷ Prime 1 0 2
      ∷ Prime 1 0 1
      ∷ Finish 1 0 0
      ∷ CopyIn 1 1 0 0 10
      ∷ Claim 1 1 0 0
      ∷ Prime 0 0 0
      ∷ Install 0 0 12
      ∷ Won 0 0 0 Null (Live 10) (call.Write 0 Any (change.Put 10)) (replied None true)
      ∷ Claim 0 0 2 8
      ∷ Claim 0 0 1 4
      ∷ Claim 0 0 0 0
      ∷ [];
  event = CopyIn 0 2 0 0 10;
}

-- the key word of a removed key is given to another key
abbrev pub reused_key : Wrong
reused_key = record {
  plan = plan (2 ∷ []) 1 1;
  before =
      Won 0 0 0 (Live 10) Tombstone (call.Write 0 Any change.Remove) (replied (Some 10) true)
      ∷ Won 0 0 0 Null (Live 10) (call.Write 0 Any (change.Put 10)) (replied None true)
      ∷ Claim 0 0 0 0
      ∷ [];
  event = Claim 0 0 0 4;
}

-- an add exchanges a number that no longer stands there for its sum
abbrev pub stale_sum : Wrong
stale_sum = record {
  plan = plan (2 ∷ []) 2 1;
  before =
      Won 1 0 0 (Live 5) (Live 8) (call.Write 0 Any (change.Add 3)) (replied (Some 5) true)
      ∷ Won 0 0 0 Null (Live 5) (call.Write 0 Any (change.Add 5)) (replied None true)
      ∷ Claim 0 0 0 0
      ∷ [];
  event = Won 0 0 0 (Live 5) (Live 7) (call.Write 0 Any (change.Add 2)) (replied (Some 8) true);
}

-- an add replaces the number that stands there by the sum of an older one
abbrev pub stale_sum_replacing_what_stands : Wrong
stale_sum_replacing_what_stands = record {
  plan = plan (2 ∷ []) 2 1;
  before =
      Won 1 0 0 (Live 5) (Live 8) (call.Write 0 Any (change.Add 3)) (replied (Some 5) true)
      ∷ Won 0 0 0 Null (Live 5) (call.Write 0 Any (change.Add 5)) (replied None true)
      ∷ Claim 0 0 0 0
      ∷ [];
  event = Won 0 0 0 (Live 8) (Live 7) (call.Write 0 Any (change.Add 2)) (replied (Some 8) true);
}

-- an add past the greatest number answers and changes nothing
abbrev pub silent_overflow : Wrong
silent_overflow = record {
  plan = plan (2 ∷ []) 1 1;
  before =
      Won 0 0 0 Null (Live 1152921504606846975) (call.Write 0 Any (change.Put 1152921504606846975))
      (replied None true)
      ∷ Claim 0 0 0 0
      ∷ [];
  event = Read 0 (call.Write 0 Any (change.Add 1)) (replied (Some 1152921504606846975) true);
}
