-- Keys that move from core to core: the row of a key, and when an event may follow.
use Rattle.std.specs.Prelude.{◌≡◌, ◌≢◌, ℕ, ◌/◌, ◌%◌, ◌^◌, ◌==◌, ◌&&◌, ◌||◌, Bool, true, false, not, if◌then◌else◌, List, [], ◌∷◌, ◌++◌, Option, Some, None, is_some}
use Rattle.std.specs.List.{filter_map}
use Rattle.std.specs.Option.{option_map_or}
use Rattle.nb_core.specs.Calls.{leaves_alone}
use Rattle.nb_core.specs.History.{key_of_call}
use Rattle.nb_core.specs.Log.{Entry, IsBeginning, changed, reply_at}
use Rattle.nb_core.specs.declared.calls.Call.{Call}
use Rattle.nb_core.specs.declared.calls.Call.TheVariants as call
use Rattle.nb_core.specs.declared.calls.Reply.{Reply}
use Rattle.nb_moving.specs.declared.events.Event.{Event}
use Rattle.nb_moving.specs.declared.events.Event.TheVariants.{Begin, Seal, Look, Read, Write, Freeze, Copy, Mark, Close, Fill}
use Rattle.nb_moving.specs.declared.events.Link.{Link}
use Rattle.nb_moving.specs.declared.events.Link.TheVariants.{One, Two}
use Rattle.nb_moving.specs.declared.events.State.{State}
use Rattle.nb_moving.specs.declared.events.State.TheVariants.{Never, Number, Gone, Frozen, Closed, Full}

-- ---- what a key is in a core

-- the number that stands there, frozen or not
abbrev pub number_in_state : State → Option ℕ
number_in_state (Number n) = Some n
number_in_state (Frozen n) = Some n
number_in_state _ = None

-- the key is closed by a mark, or for want of a slot
abbrev pub is_closed : State → Bool
is_closed (Closed had) = true
is_closed Full = true
is_closed _ = false

-- the key has a number there, or had one
abbrev pub had_number : State → Bool
had_number Never = false
had_number (Closed had) = had
had_number Full = false
had_number _ = true

-- A user's write may act on a number that isn't frozen, or where there is none.
abbrev pub is_open : State → Bool
is_open (Frozen n) = false
is_open s = not (is_closed s)

-- what a user's write leaves there, where it found this number, or none
abbrev pub left_by : Call → Option ℕ → State
left_by (call.Get key) before = Gone
left_by (call.Write key want change) before = option_map_or Number (changed change before) Gone

-- ---- the row of a key

-- a core on the way of a key: what the key is there, and whether the core is sealed
pub record KeyPlace : Type 0 where
  pub core : ℕ
  pub state : State
  pub sealed : Bool

-- the core is closed to the key
abbrev pub is_passed : KeyPlace → Bool
is_passed p = p.sealed || is_closed p.state

-- the core to which a link leads a key
abbrev pub followed : Link → ℕ → ℕ
followed (One core) key = core
followed (Two bit zero one) key = if key / 2 ^ bit % 2 == 0 then zero else one

-- the row has the core
abbrev pub has_core : ℕ → List KeyPlace → Bool
has_core c [] = false
has_core c (p ∷ row) = p.core == c || has_core c row

-- what the key is in a core: in one that isn't in its row, nothing can be done with it
abbrev pub state_in : ℕ → List KeyPlace → State
state_in c [] = Closed false
state_in c (p ∷ row) = if p.core == c then p.state else state_in c row

-- the core is one of the row, and sealed
abbrev pub is_sealed : ℕ → List KeyPlace → Bool
is_sealed c [] = false
is_sealed c (p ∷ row) = if p.core == c then p.sealed else is_sealed c row

-- the row has the core, and all cores before it are closed to the key
abbrev pub is_reached : ℕ → List KeyPlace → Bool
is_reached c [] = false
is_reached c (p ∷ row) = p.core == c || (is_passed p && is_reached c row)

-- the places behind a core
abbrev pub behind : ℕ → List KeyPlace → List KeyPlace
behind c [] = []
behind c (p ∷ row) = if p.core == c then row else behind c row

-- The key's home is the first core that isn't closed to it. Its number is what stands there.
abbrev pub number_at_home : List KeyPlace → Option ℕ
number_at_home [] = None
number_at_home (p ∷ row) = if is_passed p then number_at_home row else number_in_state p.state

-- the row with another place in that of a core
abbrev pub change_at : ℕ → (KeyPlace → KeyPlace) → List KeyPlace → List KeyPlace
change_at c f [] = []
change_at c f (p ∷ row) = if p.core == c then f p ∷ row else p ∷ change_at c f row

-- a new place at the end of a row
abbrev pub new_place : ℕ → List KeyPlace
new_place c = record { core = c; state = Never; sealed = false } ∷ []

-- the row of `key`, where the key `of` is now this in a core
abbrev pub becomes : (of key core : ℕ) → State → List KeyPlace → List KeyPlace
becomes of key c s row = if of == key then change_at c (λ p. record p { state = s }) row else row

-- what an event makes of the row of a key
abbrev pub row_after : Event → ℕ → List KeyPlace → List KeyPlace
row_after (Begin t c l) key row = if has_core c row then row ++ new_place (followed l key) else row
row_after (Seal t c) key row = change_at c (λ p. record p { sealed = true }) row
row_after (Write t c a r) key row = becomes (key_of_call a) key c (left_by a r.before) row
row_after (Freeze t c k n) key row = becomes k key c (Frozen n) row
row_after (Copy t i c k n) key row = becomes k key c (Number n) row
row_after (Mark t c j k n) key row = becomes k key c (Closed true) row
row_after (Close t c k had) key row = becomes k key c (Closed had) row
row_after (Fill t c k) key row = becomes k key c Full row
row_after _ key row = row

-- the cores on the way of a key, from core 0 on, with which the map begins
abbrev pub row_of : List Event → ℕ → List KeyPlace
row_of [] key = new_place 0
row_of (e ∷ h) key = row_after e key (row_of h key)

-- the core's link, if it is set
abbrev pub link_of : List Event → ℕ → Option Link
link_of [] c = None
link_of (Begin t d link ∷ h) c = if d == c then Some link else link_of h c
link_of (_ ∷ h) c = link_of h c

-- ---- when an event may follow: what its author knows, which stays true

-- In one moment the key's number stood frozen in one core, and those of its row between that and
-- another were closed to it.
pub record HasSeenFrozen (h : List Event) (key from to n : ℕ) : Type 0 where
  pub moment : List Event
  pub earlier : IsBeginning moment h
  pub frozen : state_in from (row_of moment key) ≡ Frozen n
  pub reached : is_reached to (behind from (row_of moment key)) ≡ true

-- A core's link is set once, to cores to which none led before.
pub record MayBegin (h : List Event) (c : ℕ) (link : Link) : Type 0 where
  pub there : (key : ℕ) × (has_core c (row_of h key) ≡ true)
  pub once : link_of h c ≡ None
  pub new : (q key : ℕ) → has_core (followed link q) (row_of h key) ≡ false

-- A core is sealed once its link is set, where those before it are closed to all keys, and no key has
-- a number in it.
pub record MaySeal (h : List Event) (c : ℕ) : Type 0 where
  pub begun : is_some (link_of h c) ≡ true
  pub first : (key : ℕ) → has_core c (row_of h key) ≡ true → is_reached c (row_of h key) ≡ true
  pub empty : (key : ℕ) → number_in_state (state_in c (row_of h key)) ≡ None

-- A call that changes nothing is decided in a core if those before are closed to its key: by the
-- number that it finds there; or where it finds neither a number nor the mark, and then no link.
pub record MayRead (h : List Event) (c : ℕ) (s : State) (call : Call) (reply : Reply) : Type 0 where
  pub reached : is_reached c (row_of h (key_of_call call)) ≡ true
  pub unmarked : (had : Bool) → s ≢ Closed had
  pub last : number_in_state s ≡ None → link_of h c ≡ None
  pub alone : leaves_alone call (number_in_state s) ≡ true
  pub answers : reply ≡ reply_at call (number_in_state s)

-- A call that changes something acts in a core if those before are closed to its key, in one step
-- that finds a number which isn't frozen, or none.
pub record MayWrite (h : List Event) (c : ℕ) (s : State) (call : Call) (reply : Reply) : Type 0 where
  pub home : is_reached c (row_of h (key_of_call call)) ≡ true
  pub unfrozen : is_open s ≡ true
  pub acts : leaves_alone call (number_in_state s) ≡ false
  pub replies : reply ≡ reply_at call (number_in_state s)

-- The event may come next after the history. A number is copied only to where its key never had one,
-- and marked only once its key has had one where it goes to. A key is marked as closed where it has
-- no number, and closed for want of a slot only once the core's link is set.
abbrev pub MayFollow : List Event → Event → Type 0
MayFollow h (Begin t c link) = MayBegin h c link
MayFollow h (Seal t c) = MaySeal h c
MayFollow h (Look t c k) = Unit {0}
MayFollow h (Read t c a r) = MayRead h c (state_in c (row_of h (key_of_call a))) a r
MayFollow h (Write t c a r) = MayWrite h c (state_in c (row_of h (key_of_call a))) a r
MayFollow h (Freeze t c k n) = state_in c (row_of h k) ≡ Number n
MayFollow h (Copy t i c k n) = HasSeenFrozen h k i c n × (state_in c (row_of h k) ≡ Never)
MayFollow h (Mark t c j k n) = HasSeenFrozen h k c j n × (state_in c (row_of h k) ≡ Frozen n)
    × (had_number (state_in j (row_of h k)) ≡ true)
MayFollow h (Close t c k had) = state_in c (row_of h k) ≡ (if had then Gone else Never)
MayFollow h (Fill t c k) = (is_some (link_of h c) ≡ true) × (state_in c (row_of h k) ≡ Never)

-- each event was one that might come next
abbrev pub IsLegal : List Event → Type 0
IsLegal [] = Unit {0}
IsLegal (e ∷ h) = IsLegal h × MayFollow h e

-- The premise on seals, which no thread can see in a core's words: no user's write acts in a core
-- that is sealed.
abbrev pub SealsHold : List Event → Type 0
SealsHold [] = Unit {0}
SealsHold (Write t c a r ∷ h) = SealsHold h × (is_sealed c (row_of h (key_of_call a)) ≡ false)
SealsHold (_ ∷ h) = SealsHold h

-- ---- the log

-- the user's call that an event decided, if it did
abbrev pub entry_of : Event → Option Entry
entry_of (Read t c call reply) = Some (record { seat = t; call = call; reply = reply })
entry_of (Write t c call reply) = Some (record { seat = t; call = call; reply = reply })
entry_of _ = None

-- the log of a history, which has its newest event first too
abbrev pub log_of : List Event → List Entry
log_of = filter_map entry_of
