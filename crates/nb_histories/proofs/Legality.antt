-- A test of histories that computes: what passes it is legal (`passes_legal` in Replies.antt).
-- Nobody has to believe it.
use Rattle.std.specs.Prelude.{ℕ, suc, zero, ◌+◌, ◌-◌, ◌%◌, ◌==◌, ◌&&◌, ◌||◌, not, nat_lt, nat_le, Bool, true, false, if◌then◌else◌, List, [], ◌∷◌, Option, Some, None, is_some}
use Rattle.nb_core.specs.Calls.{is_past_max, leaves_alone, same_number}
use Rattle.nb_core.specs.Log.{changed, holds_of}
use Rattle.nb_core.specs.Plans.{Plan, generations_of, limit_of, size_of}
use Rattle.nb_core.specs.Tables.{Tables, is_finished_value, path_slot, tables_at}
use Rattle.nb_core.proofs.Computed.{is_finished, number_at}
use Rattle.nb_histories.specs.Histories.{is_empty}
use Rattle.nb_core.specs.History.{number_in_value, counted_by, key_of_call, turned_by}
use Rattle.nb_core.specs.Meaning.{is_claimed_by, is_installed, slot_among}
use Rattle.nb_core.specs.declared.numbers.TheConstants.{KEY_MAX, VALUE_MAX}
use Rattle.nb_core.specs.declared.calls.Call.{Call}
use Rattle.nb_core.specs.declared.calls.Call.TheVariants as call
use Rattle.nb_core.specs.declared.calls.Change.{Change}
use Rattle.nb_core.specs.declared.calls.Change.TheVariants as change
use Rattle.nb_core.specs.declared.calls.Want.{Want}
use Rattle.nb_core.specs.declared.calls.Want.TheVariants as want
use Rattle.nb_core.specs.declared.calls.Reply.{Reply}
use Rattle.nb_core.specs.declared.events.Event.{Event}
use Rattle.nb_core.specs.declared.events.Event.TheVariants.{Claim, Kill, Won, CopyIn, Prime, Finish, Install, Take, Count, Promote, Read}
use Rattle.nb_core.specs.declared.states.KeyState.{KeyState}
use Rattle.nb_core.specs.declared.states.KeyState.TheVariants.{Empty, Dead, Claimed}
use Rattle.nb_core.specs.declared.states.ValueState.{ValueState}
use Rattle.nb_core.specs.declared.states.ValueState.TheVariants.{Null, Tombstone, Live, PrimedNull, PrimedTombstone, Primed, Finished}

-- ---- states

abbrev pub is_other : ℕ → KeyState → Bool
is_other k Empty = false
is_other k Dead = false
is_other k (Claimed j) = not (j == k)

abbrev pub claimed_key : KeyState → Option ℕ
claimed_key Empty = None
claimed_key Dead = None
claimed_key (Claimed k) = Some k

abbrev pub is_unprimed : ValueState → Bool
is_unprimed Null = true
is_unprimed Tombstone = true
is_unprimed (Live n) = true
is_unprimed _ = false

abbrev pub is_null : ValueState → Bool
is_null Null = true
is_null _ = false

abbrev pub same_value : ValueState → ValueState → Bool
same_value Null Null = true
same_value Tombstone Tombstone = true
same_value (Live n) (Live m) = n == m
same_value PrimedNull PrimedNull = true
same_value PrimedTombstone PrimedTombstone = true
same_value (Primed n) (Primed m) = n == m
same_value (Finished n) (Finished m) = n == m
same_value _ _ = false

abbrev pub is_live : ValueState → Bool
is_live (Live n) = true
is_live _ = false

abbrev pub primed_number : ValueState → Option ℕ
primed_number (Primed n) = Some n
primed_number _ = None

-- ---- tables

abbrev pub all_finished : Tables → ℕ → ℕ → Bool
all_finished t g zero = true
all_finished t g (suc n) = is_finished t g n && all_finished t g n

abbrev pub is_complete : Plan → Tables → ℕ → Bool
is_complete p t g = all_finished t g (size_of p g)

abbrev pub is_ready : Plan → Tables → ℕ → Bool
is_ready p t zero = true
is_ready p t (suc g) = is_complete p t g

abbrev pub are_others : Plan → Tables → ℕ → ℕ → ℕ → Bool
are_others p t g k zero = true
are_others p t g k (suc d) = is_other k (t.key g (path_slot p g k d)) && are_others p t g k d

abbrev pub has_slot_below : Plan → Tables → ℕ → ℕ → Bool
has_slot_below p t zero k = false
has_slot_below p t (suc g) k = is_some (slot_among t g k (size_of p g))

abbrev pub settled_among : Tables → ℕ → ℕ → ℕ → Bool
settled_among t g k zero = true
settled_among t g k (suc n) = (not (is_claimed_by k (t.key g n)) || is_finished_value (t.value g n))
    && settled_among t g k n

abbrev pub is_settled_below : Plan → Tables → ℕ → ℕ → Bool
is_settled_below p t zero k = true
is_settled_below p t (suc g) k = settled_among t g k (size_of p g)

-- ---- events

-- the distance of a slot on the path of a key
abbrev pub distance_of : Plan → ℕ → ℕ → ℕ → ℕ
distance_of p g k i = (i + size_of p g - k % size_of p g) % size_of p g

abbrev pub may_claim_at : Plan → Tables → ℕ → ℕ → ℕ → ℕ → Bool
may_claim_at p t g i k d =
    is_installed t g && (is_empty (t.key g i) &&
    (nat_lt d (size_of p g) && ((path_slot p g k d == i) && (are_others p t g k d
    && (has_slot_below p t g k || (is_ready p t g && nat_lt d (limit_of p g)))))))

abbrev pub exchanges_to : Option ℕ → ValueState → ValueState → Bool
exchanges_to None a b = same_value b Tombstone && is_live a
exchanges_to (Some n) a b = same_value b (Live n) && (not (same_value b a) && nat_le n VALUE_MAX)

abbrev pub is_exchange : Call → ValueState → ValueState → Bool
is_exchange (call.Get k) a b = false
is_exchange (call.Write k want change) a b =
    holds_of want (number_in_value a) && exchanges_to (changed change (number_in_value a)) a b

abbrev pub may_win : Plan → Tables → ℕ → ℕ → ValueState → ValueState → Call → Bool
may_win p t g i a b c =
    is_claimed_by (key_of_call c) (t.key g i) &&
    (same_value (t.value g i) a && (is_unprimed a &&
    (is_settled_below p t g (key_of_call c) && is_exchange c a b)))

abbrev pub is_primed_at : Tables → ℕ → ℕ → Option ℕ → Bool
is_primed_at t g n None = false
is_primed_at t g n (Some j) = same_value (t.value g j) (Primed n)

abbrev pub is_primed_below : Plan → Tables → ℕ → ℕ → ℕ → Bool
is_primed_below p t zero k n = false
is_primed_below p t (suc g) k n = is_primed_at t g n (slot_among t g k (size_of p g))

abbrev pub has_value_at : Tables → ℕ → Option ℕ → Bool
has_value_at t g None = false
has_value_at t g (Some j) = not (is_null (t.value g j))

abbrev pub may_finish_of : Plan → Tables → ℕ → Option ℕ → Option ℕ → Bool
may_finish_of p t g None n = false
may_finish_of p t g (Some k) None = false
may_finish_of p t g (Some k) (Some n) = has_value_at t (suc g)
    (slot_among t (suc g) k (size_of p (suc g)))

abbrev pub may_follow : Plan → List Event → Tables → Event → Bool
may_follow p h t (Claim s g i k) = may_claim_at p t g i k (distance_of p g k i)
may_follow p h t (Kill s g i) = (t.next g == 1) && is_empty (t.key g i)
may_follow p h t (Won s g i a b c r) = may_win p t g i a b c
may_follow p h t (CopyIn s g i k n) = is_claimed_by k (t.key g i) &&
    (is_null (t.value g i) && is_primed_below p t g k n)
may_follow p h t (Prime s g i) = (t.next g == 1) &&
    (is_some (claimed_key (t.key g i)) && is_unprimed (t.value g i))
may_follow p h t (Finish s g i) = may_finish_of p t g (claimed_key (t.key g i))
    (primed_number (t.value g i))
may_follow p h t (Install s g k) = nat_lt (suc g) (generations_of p) &&
    ((t.next g == 0) && (is_ready p t g && are_others p t g k (limit_of p g)))
may_follow p h t (Take s g) = t.next g == 1
may_follow p h t (Count s g c) = nat_le 1 c && nat_le (counted_by h s g + c) (turned_by p h s g)
may_follow p h t (Promote s g) = is_complete p t g && nat_le t.top g
may_follow p h t (Read s c r) = true

-- ---- ranges

abbrev pub is_value_in_range : ValueState → Bool
is_value_in_range Null = true
is_value_in_range Tombstone = true
is_value_in_range (Live n) = nat_le n VALUE_MAX
is_value_in_range PrimedNull = true
is_value_in_range PrimedTombstone = true
is_value_in_range (Primed n) = nat_le n VALUE_MAX
is_value_in_range (Finished n) = nat_le n VALUE_MAX

abbrev pub is_want_in_range : Want → Bool
is_want_in_range want.Any = true
is_want_in_range want.Absent = true
is_want_in_range want.Present = true
is_want_in_range (want.Equal n) = nat_le n VALUE_MAX
is_want_in_range (want.Below n) = nat_le n VALUE_MAX

abbrev pub is_change_in_range : Change → Bool
is_change_in_range (change.Put n) = nat_le n VALUE_MAX
is_change_in_range change.Remove = true
is_change_in_range (change.Add n) = nat_le n VALUE_MAX

abbrev pub is_call_in_range : Call → Bool
is_call_in_range (call.Get k) = nat_le k KEY_MAX
is_call_in_range (call.Write k want change) =
    nat_le k KEY_MAX && (is_want_in_range want && is_change_in_range change)

abbrev pub is_slot : Plan → ℕ → ℕ → Bool
is_slot p g i = nat_lt g (generations_of p) && nat_lt i (size_of p g)

abbrev pub is_in_range : Plan → Event → Bool
is_in_range p (Claim s g i k) = nat_lt s p.seats && (is_slot p g i && nat_le k KEY_MAX)
is_in_range p (Kill s g i) = nat_lt s p.seats && is_slot p g i
is_in_range p (Won s g i a b c r) = nat_lt s p.seats &&
    (is_slot p g i && (is_value_in_range a && (is_value_in_range b && is_call_in_range c)))
is_in_range p (CopyIn s g i k n) = nat_lt s p.seats &&
    (is_slot p g i && (nat_le k KEY_MAX && nat_le n VALUE_MAX))
is_in_range p (Prime s g i) = nat_lt s p.seats && is_slot p g i
is_in_range p (Finish s g i) = nat_lt s p.seats && is_slot p g i
is_in_range p (Install s g k) = nat_lt s p.seats &&
    (nat_lt g (generations_of p) && nat_le k KEY_MAX)
is_in_range p (Take s g) = nat_lt s p.seats && nat_lt g (generations_of p)
is_in_range p (Count s g c) = nat_lt s p.seats && nat_lt g (generations_of p)
is_in_range p (Promote s g) = nat_lt s p.seats && nat_lt g (generations_of p)
is_in_range p (Read s c r) = nat_lt s p.seats && is_call_in_range c

-- ---- replies

-- the reply is the map's where this number stands at the key, and the call doesn't overflow
abbrev pub is_reply : Call → Reply → Option ℕ → Bool
is_reply (call.Get k) r now = same_number r.before now && r.matched
is_reply (call.Write k want change) r now =
    same_number r.before now && ((if holds_of want now then r.matched else not r.matched)
    && (not (holds_of want now) || not (is_past_max (changed change now))))

abbrev pub replies : List Event → Event → Bool
replies h (Won s g i a b c r) = is_reply c r (number_at h (key_of_call c))
replies h (Read s c r) = is_reply c r (number_at h (key_of_call c)) && leaves_alone c
    (number_at h (key_of_call c))
replies h _ = true

abbrev pub passes : Plan → List Event → Bool
passes p [] = true
passes p (e ∷ h) = is_in_range p e && (may_follow p h (tables_at p h) e &&
    (replies h e && passes p h))
