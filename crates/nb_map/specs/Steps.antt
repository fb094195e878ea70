-- The most steps that calls make, from single slots up to whole calls.
use Rattle.std.specs.Prelude.{ℕ, zero, suc, ◌+◌, ◌-◌, ◌*◌}
use Rattle.nb_core.specs.Plans.{Plan, size_of, generations_of}
use Rattle.nb_copy.specs.Handing.{slot_steps, table_steps}
use Rattle.nb_map.specs.declared.steps.rung.Below.TheVariants as below
use Rattle.nb_map.specs.declared.steps.rung.Below.{Below}
use Rattle.nb_map.specs.declared.steps.rung.Visit.TheVariants.{Told, Refused, Above}
use Rattle.nb_map.specs.declared.steps.rung.Visit.{Visit}
use Rattle.nb_map.specs.declared.steps.search.PathEnd.TheVariants as ends
use Rattle.nb_map.specs.declared.steps.search.PathEnd.{PathEnd}
use Rattle.nb_map.specs.declared.steps.walk.Place.TheVariants.{Slot, End}
use Rattle.nb_map.specs.declared.steps.walk.Place.{Place}

-- ---- slots

-- how many slots the tables below one have, all together
abbrev pub slots_below : Plan → ℕ → ℕ
slots_below p zero = 0
slots_below p (suc g) = size_of p g + slots_below p g

-- how many slots there are from a place on
abbrev pub slots_ahead : Plan → Place → ℕ
slots_ahead p (Slot g i) = slots_below p (generations_of p) - (slots_below p g + i)
slots_ahead p End = 0

-- the most steps to finish a slot and to count it
abbrev pub pass_steps : Plan → ℕ → ℕ
pass_steps p g = slot_steps p g + 2

-- ---- a read

-- the most steps of a probe from a distance on: a load for each slot
abbrev pub probe_steps : Plan → (g from : ℕ) → PathEnd → ℕ
probe_steps p g from (ends.Slot i) = size_of p g - from
probe_steps p g from (ends.Empty d) = d + 1 - from
probe_steps p g from ends.Closed = size_of p g - from
probe_steps p g from ends.Whole = size_of p g - from

-- the most steps of a read, with T slots in all tables, G tables, and N slots in the last one: 8 (T
-- + G) (N + 8)
abbrev pub get_steps : Plan → ℕ
get_steps p = 8 * (slots_below p (generations_of p) + generations_of p)
    * (size_of p (generations_of p - 1) + 8)

-- ---- a call on its way up the tables

-- the most steps to complete the table below one, if there is one
abbrev pub steps_below : Plan → ℕ → ℕ
steps_below p zero = 0
steps_below p (suc g) = table_steps p g

-- the same, where it isn't known to be complete
abbrev pub owed_below : Plan → ℕ → Below → ℕ
owed_below p g below.Complete = 0
owed_below p g below.HasKey = steps_below p g
owed_below p g below.Passed = steps_below p g

-- the most steps to go on in a next table that may have to be installed: the table below is
-- completed, and then this one
abbrev pub grow_steps : Plan → ℕ → Below → ℕ
grow_steps p g below = owed_below p g below + 2 + table_steps p g

-- the most steps to find or to claim a slot along a path: for each slot of the table a load, one of
-- the next word and a claim; and, it may be, the table below and this one are completed
abbrev pub search_steps : Plan → ℕ → ℕ
search_steps p g = 3 * size_of p g + steps_below p g + 4 + table_steps p g

-- The most steps of a call at its key's slot, besides one for each exchange that it lost: a load,
-- and an exchange. Where it goes on in the next table, there is the end of a copy.
abbrev pub slot_visit_steps : Plan → ℕ → Visit → ℕ
slot_visit_steps p g (Told reply) = 2
slot_visit_steps p g (Refused fault) = 2
slot_visit_steps p g (Above below) = 2 + pass_steps p g

-- the most steps of a write at its key's home slot, besides one for each exchange that it lost: loads
-- of the key, of the next word and of the value, a claim and an exchange
abbrev pub home_steps : ℕ
home_steps = 5

-- the most steps of a call in table g, besides one for each exchange that it lost: the search for
-- its key's slot, and the call at it
abbrev pub rung_steps : Plan → ℕ → ℕ
rung_steps p g = search_steps p g + 2 + pass_steps p g

-- the same in all tables below one
abbrev pub rungs_below : Plan → ℕ → ℕ
rungs_below p zero = 0
rungs_below p (suc g) = rung_steps p g + rungs_below p g

-- and in all tables of the plan
abbrev pub climb_steps : Plan → ℕ
climb_steps p = rungs_below p (generations_of p)

-- ---- a write

-- the most steps for exchanges that were lost, with N slots in the last table: 8 (N + 8) for each,
-- which pays for a further round too, where so many were lost that there is one
abbrev pub lost_steps : Plan → (lost : ℕ) → ℕ
lost_steps p lost = 8 * lost * (size_of p (generations_of p - 1) + 8)

-- the most steps of a write, with T slots in all tables, G tables, and N slots in the last one: 8
-- (T + tries + G) (N + 8)
abbrev pub put_steps : Plan → (tries : ℕ) → ℕ
put_steps p tries = 8 * (slots_below p (generations_of p) + tries + generations_of p)
    * (size_of p (generations_of p - 1) + 8)

-- the most steps of a put at a key that never had a number, in a map of one table: a load of its home
-- slot and a claim, a search for its slot, a load of the value and an exchange, and a read
abbrev pub first_put_steps : Plan → ℕ
first_put_steps p = 4 + search_steps p 0 + get_steps p

-- the most steps of an update: a read, and so many exchanges with so many tries
abbrev pub update_steps : Plan → (tries : ℕ) → ℕ
update_steps p tries = get_steps p + tries * put_steps p tries

-- ---- a walk

-- the most steps where a walk meets a slot: its key, a search for the key in the tables before, and
-- a read of it
abbrev pub meeting_steps : Plan → ℕ
meeting_steps p = slots_below p (generations_of p) + get_steps p + 1

-- the most steps from one place of a walk to another, with T slots in all tables and B the bound of
-- a read: T + B + 4 for each slot, so T (T + B + 4) for all calls of a walk together
abbrev pub passing_steps : Plan → (from to : Place) → ℕ
passing_steps p from to =
    (slots_ahead p from - slots_ahead p to) * (slots_below p (generations_of p) + get_steps p + 4)
