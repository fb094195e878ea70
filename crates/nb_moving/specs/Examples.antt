-- Examples: histories of moving keys, and events that may not follow. Nobody has to believe them.
use Rattle.std.specs.Prelude.{Bool, ℕ, true, List, [], ◌∷◌, Option, Some, None, map}
use Rattle.nb_core.specs.declared.calls.Call.{Call}
use Rattle.nb_core.specs.declared.calls.Call.TheVariants as call
use Rattle.nb_core.specs.declared.calls.Change.TheVariants as change
use Rattle.nb_core.specs.declared.calls.Reply.{Reply}
use Rattle.nb_core.specs.declared.calls.Want.TheVariants as want
use Rattle.nb_moving.specs.Moving.{MayFollow, KeyPlace, SealsHold, row_of}
use Rattle.nb_moving.specs.declared.events.Event.{Event}
use Rattle.nb_moving.specs.declared.events.Event.TheVariants.{Begin, Seal, Look, Read, Write, Freeze, Copy, Mark, Close, Fill}
use Rattle.nb_moving.specs.declared.events.Link.TheVariants.{One, Two}
use Rattle.nb_moving.specs.declared.events.State.{State}

abbrev pub get : ℕ → Call
get key = call.Get key

abbrev pub put : (key number : ℕ) → Call
put key number = call.Write key want.Any (change.Put number)

abbrev pub remove : ℕ → Call
remove key = call.Write key want.Any change.Remove

-- a reply to a call whose condition holds
abbrev pub found : Option ℕ → Reply
found before = record { before = before; matched = true }

-- what a key is in the cores of its row
abbrev pub states_of : List Event → ℕ → List (ℕ × State)
states_of h key = map (λ (p : KeyPlace). (p.core, p.state)) (row_of h key)

-- which cores of its row are sealed
abbrev pub seals_of : List Event → ℕ → List (ℕ × Bool)
seals_of h key = map (λ (p : KeyPlace). (p.core, p.sealed)) (row_of h key)

-- ---- histories, the newest event first

-- Key 5 moves over three cores, while threads 0 and 1 write it.
abbrev pub over_three_cores : List Event
over_three_cores =
    Read 0 2 (get 5) (found None)
    ∷ Write 1 2 (remove 5) (found (Some 13))
    ∷ Mark 0 1 2 5 13
    ∷ Copy 0 1 2 5 13
    ∷ Freeze 1 1 5 13
    ∷ Write 0 1 (put 5 13) (found (Some 12))
    ∷ Begin 1 1 (One 2)
    ∷ Write 1 1 (put 5 12) (found (Some 11))
    ∷ Mark 0 0 1 5 11
    ∷ Read 1 0 (get 5) (found (Some 11))
    ∷ Copy 0 0 1 5 11
    ∷ Freeze 0 0 5 11
    ∷ Write 1 0 (put 5 11) (found (Some 10))
    ∷ Begin 0 0 (One 1)
    ∷ Write 0 0 (put 5 10) (found None)
    ∷ []

-- Thread 1 has seen key 5 frozen in core 0. Meanwhile thread 0 moves it to core 1, removes it there,
-- and closes it. Where thread 1 meets the mark in core 1, it looks at core 0 again, finds it closed
-- too, and copies nothing; it puts its number into core 2.
abbrev pub late_copy : List Event
late_copy =
    Write 1 2 (put 5 11) (found None)
    ∷ Look 1 0 5
    ∷ Look 1 1 5
    ∷ Close 0 1 5 true
    ∷ Begin 0 1 (One 2)
    ∷ Write 0 1 (remove 5) (found (Some 10))
    ∷ Mark 0 0 1 5 10
    ∷ Copy 0 0 1 5 10
    ∷ Look 1 0 5
    ∷ Freeze 0 0 5 10
    ∷ Begin 0 0 (One 1)
    ∷ Write 0 0 (put 5 10) (found None)
    ∷ []

-- Core 0 is left for cores 1 and 2, by the lowest bit of the key, and sealed. It has no slot for key
-- 7, which comes into core 2.
abbrev pub left_for_two : List Event
left_for_two =
    Seal 0 0
    ∷ Write 1 2 (put 7 17) (found None)
    ∷ Fill 1 0 7
    ∷ Mark 1 0 2 5 15
    ∷ Copy 1 0 2 5 15
    ∷ Mark 0 0 1 4 14
    ∷ Copy 0 0 1 4 14
    ∷ Freeze 1 0 5 15
    ∷ Freeze 0 0 4 14
    ∷ Begin 0 0 (Two 0 1 2)
    ∷ Write 1 0 (put 5 15) (found None)
    ∷ Write 0 0 (put 4 14) (found None)
    ∷ []

-- Cores 0 and 1 are sealed, one after the other.
abbrev pub sealed_in_order : List Event
sealed_in_order =
    Seal 1 1
    ∷ Seal 0 0
    ∷ Begin 0 1 (One 2)
    ∷ Begin 0 0 (One 1)
    ∷ []

-- ---- events that may not follow

-- a legal history, and an event that may not follow it
pub record Wrong : Type 0 where
  pub before : List Event
  pub event : Event

abbrev pub MayNotFollow : Wrong → Type 0
MayNotFollow w = MayFollow w.before w.event → ⊥

-- the event may follow, but not by the premise on seals
abbrev pub BreaksSeals : Wrong → Type 0
BreaksSeals w = MayFollow w.before w.event × (SealsHold (w.event ∷ w.before) → ⊥)

-- key 5 has number 10 in core 0, whose link leads to core 1
abbrev pub is_begun : List Event
is_begun = Begin 0 0 (One 1) ∷ Write 0 0 (put 5 10) (found None) ∷ []

-- it is frozen in core 0
abbrev pub is_frozen : List Event
is_frozen = Freeze 0 0 5 10 ∷ is_begun

-- it was moved to core 1
abbrev pub is_moved : List Event
is_moved = Mark 0 0 1 5 10 ∷ Copy 0 0 1 5 10 ∷ is_frozen

-- it was removed there
abbrev pub is_gone : List Event
is_gone = Write 0 1 (remove 5) (found (Some 10)) ∷ is_moved

-- a copy over a key that was removed brings it back
abbrev pub copy_over_gone : Wrong
copy_over_gone = record { before = is_gone; event = Copy 1 0 1 5 10 }

-- a copy over another one
abbrev pub copy_twice : Wrong
copy_twice = record { before = Copy 0 0 1 5 10 ∷ is_frozen; event = Copy 1 0 1 5 10 }

-- a copy past a closed core, without a second look at the source
abbrev pub no_second_look : Wrong
no_second_look = record {
  before =
      Close 0 1 5 true
      ∷ Write 0 1 (remove 5) (found (Some 10))
      ∷ Mark 0 0 1 5 10
      ∷ Copy 0 0 1 5 10
      ∷ Begin 0 1 (One 2)
      ∷ is_frozen;
  event = Copy 1 0 2 5 10;
}

-- a copy of another number than the one that is frozen
abbrev pub copy_of_another : Wrong
copy_of_another = record { before = is_frozen; event = Copy 1 0 1 5 11 }

-- a copy past a core that isn't closed to the key
abbrev pub copy_too_far : Wrong
copy_too_far = record { before = Begin 0 1 (One 2) ∷ is_frozen; event = Copy 1 0 2 5 10 }

-- a mark before the copy
abbrev pub mark_before_copy : Wrong
mark_before_copy = record { before = is_frozen; event = Mark 0 0 1 5 10 }

-- a put over a frozen number
abbrev pub put_over_frozen : Wrong
put_over_frozen = record { before = is_frozen; event = Write 1 0 (put 5 11) (found (Some 10)) }

-- a put into the next core, while the key isn't closed in the first one
abbrev pub hasty_write : Wrong
hasty_write = record { before = is_frozen; event = Write 1 1 (put 5 11) (found None) }

-- a put into the next core, while the key, which has no number, isn't closed in the first one
abbrev pub put_without_close : Wrong
put_without_close = record {
  before = Begin 0 0 (One 1) ∷ [];
  event = Write 1 1 (put 5 10) (found None);
}

-- a put that replies another number than the one that it replaces
abbrev pub stale_reply : Wrong
stale_reply = record { before = is_begun; event = Write 1 0 (put 5 11) (found (Some 9)) }

-- a read that finds none where the mark is
abbrev pub none_at_closed : Wrong
none_at_closed = record { before = is_moved; event = Read 1 0 (get 5) (found None) }

-- a read that finds none where a frozen number is
abbrev pub none_at_frozen : Wrong
none_at_frozen = record { before = is_frozen; event = Read 1 0 (get 5) (found None) }

-- a read that finds none, in a core that has no slot for the key, and doesn't look at the link
abbrev pub miss_in_full : Wrong
miss_in_full = record {
  before = Write 0 1 (put 7 17) (found None) ∷ Fill 0 0 7 ∷ is_begun;
  event = Read 1 0 (get 7) (found None);
}

-- a read that begins behind a core that isn't closed to the key
abbrev pub read_too_far : Wrong
read_too_far = record { before = is_begun; event = Read 1 1 (get 5) (found None) }

-- a close over a number
abbrev pub close_over_number : Wrong
close_over_number = record { before = is_begun; event = Close 0 0 5 true }

-- a core that has no link is closed for want of a slot
abbrev pub full_before_begin : Wrong
full_before_begin = record { before = []; event = Fill 0 0 5 }

-- a core that has no link is sealed
abbrev pub seal_before_begin : Wrong
seal_before_begin = record { before = []; event = Seal 0 0 }

-- a core is sealed in which a frozen number stands
abbrev pub seal_over_frozen : Wrong
seal_over_frozen = record { before = is_frozen; event = Seal 0 0 }

-- a core is sealed before the one that leads to it, from which a copy is still to come
abbrev pub seal_out_of_order : Wrong
seal_out_of_order = record { before = Begin 0 1 (One 2) ∷ is_frozen; event = Seal 0 1 }

-- a link is set twice
abbrev pub second_link : Wrong
second_link = record { before = is_begun; event = Begin 1 0 (One 2) }

-- a link leads back
abbrev pub link_back : Wrong
link_back = record { before = is_begun; event = Begin 1 1 (One 0) }

-- a core is left that no link leads to
abbrev pub link_from_nowhere : Wrong
link_from_nowhere = record { before = is_begun; event = Begin 1 2 (One 3) }

-- a late writer puts a number into a sealed core
abbrev pub write_in_sealed : Wrong
write_in_sealed = record {
  before = Seal 0 0 ∷ Begin 0 0 (One 1) ∷ [];
  event = Write 1 0 (put 5 10) (found None);
}
