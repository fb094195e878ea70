-- Each event keeps the invariant.
use Rattle.std.proofs.Common.{◌≡◌, ◌∙◌, ℕ, Bool, true, false, ◌||◌, ◌==◌, cond, List, ◌∷◌, ◌++◌, Option, Some, None, ap, sym, subst, refl}
use Rattle.std.specs.FinMap.{get}
use Rattle.std.specs.Option.{is_some, option_map_or}
use Rattle.std.proofs.lemmas.Bool.{both_ways, cond_both, false_from_ne_true, or_left, or_right}
use Rattle.nb_core.specs.Calls.{leaves_alone}
use Rattle.nb_core.specs.History.{key_of_call}
use Rattle.nb_core.specs.Log.{changed, map_after, map_of_log, reply_at, reply_of}
use Rattle.nb_core.specs.declared.calls.Call.{Call}
use Rattle.nb_core.specs.declared.calls.Call.TheVariants as call
use Rattle.nb_core.specs.declared.calls.Reply.{Reply}
use Rattle.nb_core.proofs.Computed.{map_after-left}
use Rattle.nb_moving.specs.Moving.{HasSeenFrozen, MayBegin, MayFollow, MayRead, MaySeal, MayWrite, KeyPlace, is_reached, becomes, change_at, followed, has_core, is_closed, is_open, is_sealed, left_by, link_of, log_of, new_place, number_in_state, row_of, state_in}
use Rattle.nb_moving.specs.declared.events.Event.{Event}
use Rattle.nb_moving.specs.declared.events.Event.TheVariants.{Begin, Seal, Read, Write, Freeze, Copy, Mark, Close, Fill}
use Rattle.nb_moving.specs.declared.events.Link.{Link}
use Rattle.nb_moving.specs.declared.events.State.{State}
use Rattle.nb_moving.specs.declared.events.State.TheVariants.{Never, Number, Gone, Frozen, Closed, Full}
use Rattle.nb_moving.proofs.Cells.{IsOpenCell, IsRow, IsWritten, Moves, Writes, cell_number, moves-row, moves-saw, row-are, writes-row, writes-saw}
use Rattle.nb_moving.proofs.Maps.{before-reply, get-changed, get-other, reply_at-map}
use Rattle.nb_moving.proofs.Places.{AreAt, IsDistinct, append-are_at, append-distinct, append-moves, cell_of, cells, change-moves, change-writes, closed-moves, cores, cores-append, cores-put, cores-seal, frozen-moves, full-moves, has_core-mem, home-number, put, row-home, seal, sealed-moves}
use Rattle.nb_moving.proofs.Seen.{AllPlaces, all-append, all-change, all-map, copy-moves, mark-moves}
use Rattle.nb_moving.proofs.Sound.{IsRight, IsSound, Stepped, becomes-step, emptied-in, hidden-in, is_full, kept, moved, right-emptied, right-put}

-- the key's row, and what the log's map has at it
abbrev number_now : List Event → ℕ → Option ℕ
number_now h key = get (map_of_log (log_of h)) key

-- ---- begin

begun-more :
    (b : Bool) (link : Link) (o : Option Link) → is_some o ≡ true → is_some (cond b (Some link) o) ≡ true
begun-more true link o is = refl
begun-more false link o is = is

pub begin-step :
    (h : List Event) (t c : ℕ) (link : Link) → IsSound h → MayBegin h c link → (key : ℕ)
    → Stepped h (Begin t c link ∷ h) key
    (cond (has_core c (row_of h key)) (row_of h key ++ new_place (followed link key)) (row_of h key))
begin-step h t c link sound may key =
    let g = Begin t c link ∷ h in
    let row = row_of h key in
    let to = followed link key in
    let right : AllPlaces (IsRight g) row = all-map (IsRight h) (IsRight g) row
    (λ p r. (r.0, λ hid. begun-more (c == p.core) link (link_of h p.core) (r.1 hid)))
    (sound.right key) in
    let new_core = sym (has_core-mem to row) ∙ may.new key key in
    let new_right : IsRight g (record { core = to; state = Never; sealed = false }) =
    (λ is. refl, λ hid. absurd (cc)) in
    let appended : Stepped h g key (row ++ new_place to) = record {
      row = moves-row (cells row) (cells (row ++ new_place to)) (number_now h key) (append-moves row to)
          (sound.row key);
      right = all-append (IsRight g) row to right new_right;
      distinct = subst IsDistinct (sym (cores-append row to))
          (append-distinct (cores row) to (sound.distinct key) new_core);
      at = λ p d i j a. subst (λ cs. AreAt cs p d i j) (sym (cores-append row to))
          (append-are_at (cores row) to p d i j a);
      saw = λ p d n s. moves-saw (cells row) (cells (row ++ new_place to)) p d n (append-moves row to)
          (row-are (cells row) (number_now h key) (sound.row key)) s;
    } in
    cond_both (has_core c row) (row ++ new_place to) row (Stepped h g key) (λ is. appended)
    (λ other. kept h g key sound refl right)

-- ---- seal

seal-right :
    (h : List Event) (c : ℕ) (row : List KeyPlace) → AllPlaces (IsRight h) row
    → is_some (link_of h c) ≡ true → number_in_state (state_in c row) ≡ None
    → AllPlaces (IsRight h) (change_at c seal row)
seal-right h c row all begun empty =
    all-change (IsRight h) (IsRight h) c seal row all (λ p r. r)
    (λ p core state sealed r. (
      λ is. ap number_in_state state ∙ empty,
      λ hid. subst (λ d. is_some (link_of h d) ≡ true) (sym core) begun,
    ))

pub seal-step :
    (h : List Event) (t c : ℕ) → IsSound h → MaySeal h c → (key : ℕ)
    → Stepped h (Seal t c ∷ h) key (change_at c seal (row_of h key))
seal-step h t c sound may key =
    let row = row_of h key in
    moved h (Seal t c ∷ h) key (change_at c seal row) sound refl
    (change-moves c seal row (state_in c row) refl
    (λ p e a. sealed-moves p.sealed p.state a (ap number_in_state e ∙ may.empty key)))
    (cores-seal c row) (seal-right h c row (sound.right key) may.begun (may.empty key))

-- ---- freeze, copy, mark, close, fill

-- a step of the key k, from a state to another one, that leaves the map as it is
put-step :
    (h : List Event) (e : Event) (k c : ℕ) (s : State) → IsSound h
    → ((key : ℕ) → number_now (e ∷ h) key ≡ number_now h key)
    → ((key : ℕ) (row : List KeyPlace) → AllPlaces (IsRight h) row → AllPlaces (IsRight (e ∷ h)) row)
    → Moves (cells (row_of h k)) (cells (change_at c (put s) (row_of h k)))
    → AllPlaces (IsRight h) (change_at c (put s) (row_of h k)) → (key : ℕ)
    → Stepped h (e ∷ h) key (becomes k key c s (row_of h key))
put-step h e k c s sound number links moves right =
    becomes-step h (e ∷ h) k c s
    (moved h (e ∷ h) k (change_at c (put s) (row_of h k)) sound (number k) moves
    (cores-put c s (row_of h k)) (links k (change_at c (put s) (row_of h k)) right))
    (λ key other. kept h (e ∷ h) key sound (number key) (links key (row_of h key) (sound.right key)))

pub freeze-step :
    (h : List Event) (t c k n : ℕ) → IsSound h → state_in c (row_of h k) ≡ Number n
    → (key : ℕ) → Stepped h (Freeze t c k n ∷ h) key (becomes k key c (Frozen n) (row_of h key))
freeze-step h t c k n sound may =
    let row = row_of h k in
    put-step h (Freeze t c k n) k c (Frozen n) sound (λ key. refl) (λ key r all. all)
    (change-moves c (put (Frozen n)) row (Number n) may
    (λ p e a. frozen-moves p.sealed p.state n a e))
    (right-put h c (Frozen n) row (sound.right k) refl
    (λ is. emptied-in c row (Number n) (right-emptied h row (sound.right k)) is may))

pub close-step :
    (h : List Event) (t c k : ℕ) (had : Bool) → IsSound h
    → state_in c (row_of h k) ≡ cond had Gone Never → (key : ℕ)
    → Stepped h (Close t c k had ∷ h) key (becomes k key c (Closed had) (row_of h key))
close-step h t c k had sound may =
    let row = row_of h k in
    put-step h (Close t c k had) k c (Closed had) sound (λ key. refl) (λ key r all. all)
    (change-moves c (put (Closed had)) row (cond had Gone Never) may
    (λ p e a. subst (λ s. Moves (cell_of p.sealed s ∷ a) (cell_of p.sealed (Closed had) ∷ a)) (sym e)
    (closed-moves p.sealed had a)))
    (right-put h c (Closed had) row (sound.right k) refl (λ is. refl))

fill-right :
    (h : List Event) (c : ℕ) (row : List KeyPlace) → AllPlaces (IsRight h) row
    → is_some (link_of h c) ≡ true → AllPlaces (IsRight h) (change_at c (put Full) row)
fill-right h c row all begun =
    all-change (IsRight h) (IsRight h) c (put Full) row all (λ p r. r)
    (λ p core state sealed r. (
      λ is. refl,
      λ hid. subst (λ d. is_some (link_of h d) ≡ true) (sym core) begun,
    ))

pub fill-step :
    (h : List Event) (t c k : ℕ) → IsSound h → is_some (link_of h c) ≡ true
    → state_in c (row_of h k) ≡ Never → (key : ℕ)
    → Stepped h (Fill t c k ∷ h) key (becomes k key c Full (row_of h key))
fill-step h t c k sound begun may =
    let row = row_of h k in
    put-step h (Fill t c k) k c Full sound (λ key. refl) (λ key r all. all)
    (change-moves c (put Full) row Never may (λ p e a. full-moves p.sealed p.state a e))
    (fill-right h c row (sound.right k) begun)

pub copy-step :
    (h : List Event) (t i c k n : ℕ) → IsSound h → HasSeenFrozen h k i c n
    → state_in c (row_of h k) ≡ Never → (key : ℕ)
    → Stepped h (Copy t i c k n ∷ h) key (becomes k key c (Number n) (row_of h key))
copy-step h t i c k n sound has never =
    let row = row_of h k in
    let seen = sound.seen k i c n has in
    let waits : is_sealed c row ≡ false = false_from_ne_true (is_sealed c row)
    (λ is. sound.unsealed k i c n has is never) in
    put-step h (Copy t i c k n) k c (Number n) sound (λ key. refl) (λ key r all. all)
    (copy-moves seen.place seen.distance i c n row (sound.distinct k) seen.at seen.saw never waits)
    (right-put h c (Number n) row (sound.right k) refl
    (λ is. absurd (both_ways (is_sealed c row) waits is)))

pub mark-step :
    (h : List Event) (t c j k n : ℕ) → IsSound h
    → MayFollow h (Mark t c j k n) → (key : ℕ)
    → Stepped h (Mark t c j k n ∷ h) key (becomes k key c (Closed true) (row_of h key))
mark-step h t c j k n sound may =
    let row = row_of h k in
    let seen = sound.seen k c j n may.0 in
    put-step h (Mark t c j k n) k c (Closed true) sound (λ key. refl) (λ key r all. all)
    (mark-moves seen.place seen.distance c j n row (state_in j row) (sound.distinct k) seen.at
    (right-emptied h row (sound.right k)) seen.saw may.1 refl may.2)
    (right-put h c (Closed true) row (sound.right k) refl (λ is. refl))

-- ---- a read

unmarked-unclosed :
    (s : State) → ((had : Bool) → s ≡ Closed had → ⊥) → (is_full s ≡ true → ⊥) → is_closed s ≡ false
unmarked-unclosed Never unmarked full = refl
unmarked-unclosed (Number n) unmarked full = refl
unmarked-unclosed Gone unmarked full = refl
unmarked-unclosed (Frozen n) unmarked full = refl
unmarked-unclosed (Closed had) unmarked full = absurd (unmarked had refl)
unmarked-unclosed Full unmarked full = absurd (full refl)

full-none : (s : State) → is_full s ≡ true → number_in_state s ≡ None
full-none Never e = absurd (cc)
full-none (Number n) e = absurd (cc)
full-none Gone e = absurd (cc)
full-none (Frozen n) e = absurd (cc)
full-none (Closed had) e = absurd (cc)
full-none Full e = refl

some-none : (o : Option Link) → is_some o ≡ true → o ≡ None → ⊥
some-none None is none = cc
some-none (Some link) is none = cc

-- what the key of a call is in a core
abbrev pub found_by : List Event → ℕ → Call → State
found_by h c call = state_in c (row_of h (key_of_call call))

-- a read that is decided was at home, and found what the map has at its key
pub read-number :
    (h : List Event) (c : ℕ) (call : Call) (reply : Reply) → IsSound h
    → MayRead h c (found_by h c call) call reply
    → number_in_state (found_by h c call) ≡ number_now h (key_of_call call)
read-number h c call reply sound may =
    let key = key_of_call call in
    let row = row_of h key in
    let s = state_in c row in
    let hidden : (is_sealed c row || is_full s) ≡ true → number_in_state s ≡ None → ⊥ =
    λ hid none. some-none (link_of h c) (hidden-in h c row s (sound.right key) refl hid)
    (may.last none) in
    let unsealed : is_sealed c row ≡ false = false_from_ne_true (is_sealed c row)
    (λ is. hidden (or_left (is_sealed c row) (is_full s) is)
    (emptied-in c row s (right-emptied h row (sound.right key)) is refl)) in
    let unclosed = unmarked-unclosed s may.unmarked
    (λ full. hidden (or_right (is_sealed c row) (is_full s) full) (full-none s full)) in
    sym (home-number c row s may.reached refl unsealed unclosed)
    ∙ row-home row (number_now h key) (sound.row key)

pub read-leaves :
    (h : List Event) (c : ℕ) (call : Call) (reply : Reply) → IsSound h → MayRead h c (found_by h c call) call reply
    → map_after call (map_of_log (log_of h)) ≡ map_of_log (log_of h)
read-leaves h c call reply sound may =
    map_after-left call (map_of_log (log_of h))
    (subst (λ o. leaves_alone call o ≡ true) (read-number h c call reply sound may) may.alone)

pub read-replies :
    (h : List Event) (c : ℕ) (call : Call) (reply : Reply) → IsSound h → MayRead h c (found_by h c call) call reply
    → reply ≡ reply_of call (map_of_log (log_of h))
read-replies h c call reply sound may =
    may.answers ∙ ap (reply_at call) (read-number h c call reply sound may)
    ∙ reply_at-map call (map_of_log (log_of h))

pub read-step :
    (h : List Event) (t c : ℕ) (call : Call) (reply : Reply) → IsSound h → MayRead h c (found_by h c call) call reply
    → (key : ℕ) → Stepped h (Read t c call reply ∷ h) key (row_of h key)
read-step h t c call reply sound may key =
    kept h (Read t c call reply ∷ h) key sound
    (ap (λ m. get m key) (read-leaves h c call reply sound may)) (sound.right key)

-- ---- a write

open-unclosed : (s : State) → is_open s ≡ true → is_closed s ≡ false
open-unclosed Never e = refl
open-unclosed (Number n) e = refl
open-unclosed Gone e = refl
open-unclosed (Frozen n) e = refl
open-unclosed (Closed had) e = absurd (cc)
open-unclosed Full e = absurd (cc)

open-cell : (s : State) → is_open s ≡ true → IsOpenCell (cell_of false s)
open-cell Never e = tt
open-cell (Number n) e = tt
open-cell Gone e = tt
open-cell (Frozen n) e = absurd (cc)
open-cell (Closed had) e = absurd (cc)
open-cell Full e = absurd (cc)

-- what a change leaves
abbrev pub left : Option ℕ → State
left o = option_map_or Number o Gone

left-cell : (o : Option ℕ) → IsWritten (cell_of false (left o))
left-cell None = tt
left-cell (Some n) = tt

left-number : (o : Option ℕ) → cell_number (cell_of false (left o)) ≡ o
left-number None = refl
left-number (Some n) = refl

left-full : (o : Option ℕ) → is_full (left o) ≡ false
left-full None = refl
left-full (Some n) = refl

pub write-number :
    (h : List Event) (c : ℕ) (call : Call) (reply : Reply) → IsSound h
    → MayWrite h c (found_by h c call) call reply → is_sealed c (row_of h (key_of_call call)) ≡ false
    → number_in_state (found_by h c call) ≡ number_now h (key_of_call call)
write-number h c call reply sound may waits =
    let key = key_of_call call in
    let row = row_of h key in
    sym (home-number c row (state_in c row) may.home refl waits
    (open-unclosed (state_in c row) may.unfrozen))
    ∙ row-home row (number_now h key) (sound.row key)

pub write-replies :
    (h : List Event) (c : ℕ) (call : Call) (reply : Reply) → IsSound h → MayWrite h c (found_by h c call) call reply
    → is_sealed c (row_of h (key_of_call call)) ≡ false
    → reply ≡ reply_of call (map_of_log (log_of h))
write-replies h c call reply sound may waits =
    may.replies ∙ ap (reply_at call) (write-number h c call reply sound may waits)
    ∙ reply_at-map call (map_of_log (log_of h))

-- the row of the key that a write changed, which leaves this there
write-here :
    (h : List Event) (e : Event) (k c : ℕ) (s : State) (o : Option ℕ) → IsSound h
    → is_reached c (row_of h k) ≡ true → state_in c (row_of h k) ≡ s → is_open s ≡ true
    → is_sealed c (row_of h k) ≡ false → number_now (e ∷ h) k ≡ o
    → ((row : List KeyPlace) → AllPlaces (IsRight h) row → AllPlaces (IsRight (e ∷ h)) row)
    → Stepped h (e ∷ h) k (change_at c (put (left o)) (row_of h k))
write-here h e k c s o sound first stands unfrozen waits number links =
    let row = row_of h k in
    let next = change_at c (put (left o)) row in
    let x = cell_of false s in
    let y = cell_of false (left o) in
    let writes : Writes x y (cells row) (cells next) = change-writes c row s (left o) first stands waits unfrozen in
    let opened = open-cell s unfrozen in
    let written = left-cell o in
    let same = cores-put c (left o) row in
    record {
      row = subst (IsRow (cells next)) (left-number o ∙ sym number)
          (writes-row x y (cells row) (cells next) (number_now h k) opened written writes
          (sound.row k)).1;
      right = links next (right-put h c (left o) row (sound.right k) (left-full o)
          (λ is. absurd (both_ways (is_sealed c row) waits is)));
      distinct = subst IsDistinct (sym same) (sound.distinct k);
      at = λ p d i j a. subst (λ cs. AreAt cs p d i j) (sym same) a;
      saw = λ p d n v. writes-saw x y (cells row) (cells next) p d n opened written writes v;
    }

pub write-step :
    (h : List Event) (t c : ℕ) (call : Call) (reply : Reply) → IsSound h → MayWrite h c (found_by h c call) call reply
    → is_sealed c (row_of h (key_of_call call)) ≡ false → (key : ℕ)
    → Stepped h (Write t c call reply ∷ h) key
    (becomes (key_of_call call) key c (left_by call reply.before) (row_of h key))
write-step h t c (call.Get k) reply sound may waits = absurd (true-false may.acts)
  where
    true-false : true ≡ false → ⊥
    true-false e = cc
write-step h t c (call.Write k want change) reply sound may waits =
    let the_call = call.Write k want change in
    let number = write-number h c the_call reply sound may waits in
    let before : reply.before ≡ number_now h k =
    ap (λ (r : Reply). r.before) may.replies ∙ before-reply the_call (number_in_state (state_in c (row_of h k))) ∙ number in
    let m = map_of_log (log_of h) in
    let acts : leaves_alone the_call (get m k) ≡ false =
    subst (λ o. leaves_alone the_call o ≡ false) number may.acts in
    becomes-step h (Write t c the_call reply ∷ h) k c (left (changed change reply.before))
    (write-here h (Write t c the_call reply) k c (state_in c (row_of h k)) (changed change reply.before) sound
    may.home refl may.unfrozen waits
    (get-changed k want change m acts ∙ ap (changed change) (sym before)) (λ row all. all))
    (λ key other. kept h (Write t c the_call reply ∷ h) key sound
    (get-other k want change m key acts other) (sound.right key))
