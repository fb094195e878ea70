-- The invariant holds after each legal history in which seals hold, so all cores are one map.
use Rattle.std.proofs.Common.{◌≡◌, ◌∙◌, ℕ, true, List, [], ◌∷◌, ◌++◌, None, ap, sym, subst, refl, Bool, false, cond, ◌==◌}
use Rattle.std.proofs.lemmas.Bool.{both_ways}
use Rattle.std.specs.FinMap.{get, get-empty}
use Rattle.std.specs.Ordering.{nat_cmp}
use Rattle.nb_core.specs.Log.{IsReplayed, map_of_log}
use Rattle.nb_moving.specs.Laws.{CoresAreOneMap, StepsLeaveNumbers}
use Rattle.nb_moving.specs.Moving.{HasSeenFrozen, IsLegal, SealsHold, is_reached, behind, entry_of, log_of, new_place, row_of, state_in}
use Rattle.nb_moving.specs.declared.events.Event.{Event}
use Rattle.nb_moving.specs.declared.events.Event.TheVariants.{Begin, Seal, Look, Read, Write, Freeze, Copy, Mark, Close, Fill}
use Rattle.nb_moving.specs.declared.events.State.TheVariants.{Frozen}
use Rattle.nb_moving.proofs.Places.{row-home}
use Rattle.nb_moving.proofs.Seen.{Seen, see}
use Rattle.nb_moving.proofs.Sound.{IsSound, kept, sound-step}
use Rattle.nb_moving.proofs.Steps.{begin-step, close-step, copy-step, fill-step, freeze-step, mark-step, read-replies, read-step, seal-step, write-replies, write-step}

-- what was seen in a history without events is seen in it now
seen-first : (key i j n : ℕ) → HasSeenFrozen [] key i j n → Seen (new_place 0) i j n
seen-first key i j n s = first s.moment s.earlier.later s.earlier.is s.frozen s.reached
  where
    first : (moment later : List Event) → [] ≡ later ++ moment
        → state_in i (row_of moment key) ≡ Frozen n
        → is_reached j (behind i (row_of moment key)) ≡ true → Seen (new_place 0) i j n
    first moment [] is frozen reached =
        see i j n (new_place 0) ((λ e. refl), tt)
        (subst (λ l. state_in i (row_of l key) ≡ Frozen n) (sym is) frozen)
        (subst (λ l. is_reached j (behind i (row_of l key)) ≡ true) (sym is) reached)
    first moment (x ∷ later) is frozen reached = absurd (cc)

first-unsealed : (b : Bool) → cond b false false ≡ true → ⊥
first-unsealed true is = both_ways false refl is
first-unsealed false is = both_ways false refl is

first-sound : IsSound []
first-sound = record {
  row = λ key. (get-empty nat_cmp key, tt);
  right = λ key. ((λ is. refl, λ hid. absurd (cc)), tt);
  distinct = λ key. (refl, tt);
  seen = seen-first;
  unsealed = λ key i j n s is. absurd (first-unsealed (0 == j) is);
}

pub sound : (h : List Event) → IsLegal h → SealsHold h → IsSound h
sound [] legal holds = first-sound
sound (Begin t c link ∷ h) legal holds =
    let before = sound h legal.0 holds in
    sound-step (Begin t c link) h before legal (begin-step h t c link before legal.1)
sound (Seal t c ∷ h) legal holds =
    let before = sound h legal.0 holds in
    sound-step (Seal t c) h before legal (seal-step h t c before legal.1)
sound (Look t c k ∷ h) legal holds =
    let before = sound h legal.0 holds in
    sound-step (Look t c k) h before legal
    (λ key. kept h (Look t c k ∷ h) key before refl (before.right key))
sound (Read t c call reply ∷ h) legal holds =
    let before = sound h legal.0 holds in
    sound-step (Read t c call reply) h before legal (read-step h t c call reply before legal.1)
sound (Write t c call reply ∷ h) legal holds =
    let before = sound h legal.0 holds.0 in
    sound-step (Write t c call reply) h before legal (write-step h t c call reply before legal.1 holds.1)
sound (Freeze t c k n ∷ h) legal holds =
    let before = sound h legal.0 holds in
    sound-step (Freeze t c k n) h before legal (freeze-step h t c k n before legal.1)
sound (Copy t i c k n ∷ h) legal holds =
    let before = sound h legal.0 holds in
    sound-step (Copy t i c k n) h before legal (copy-step h t i c k n before legal.1.0 legal.1.1)
sound (Mark t c j k n ∷ h) legal holds =
    let before = sound h legal.0 holds in
    sound-step (Mark t c j k n) h before legal (mark-step h t c j k n before legal.1)
sound (Close t c k had ∷ h) legal holds =
    let before = sound h legal.0 holds in
    sound-step (Close t c k had) h before legal (close-step h t c k had before legal.1)
sound (Fill t c k ∷ h) legal holds =
    let before = sound h legal.0 holds in
    sound-step (Fill t c k) h before legal (fill-step h t c k before legal.1.0 legal.1.1)

replayed : (h : List Event) → IsLegal h → SealsHold h → IsReplayed (log_of h)
replayed [] legal holds = tt
replayed (Read t c call reply ∷ h) legal holds =
    (read-replies h c call reply (sound h legal.0 holds) legal.1, replayed h legal.0 holds)
replayed (Write t c call reply ∷ h) legal holds =
    (write-replies h c call reply (sound h legal.0 holds.0) legal.1 holds.1, replayed h legal.0 holds.0)
replayed (Copy t i c k n ∷ h) legal holds = replayed h legal.0 holds
replayed (Begin t c link ∷ h) legal holds = replayed h legal.0 holds
replayed (Seal t c ∷ h) legal holds = replayed h legal.0 holds
replayed (Look t c k ∷ h) legal holds = replayed h legal.0 holds
replayed (Freeze t c k n ∷ h) legal holds = replayed h legal.0 holds
replayed (Mark t c j k n ∷ h) legal holds = replayed h legal.0 holds
replayed (Close t c k had ∷ h) legal holds = replayed h legal.0 holds
replayed (Fill t c k ∷ h) legal holds = replayed h legal.0 holds

pub cores_are_one_map : CoresAreOneMap
cores_are_one_map h legal holds = record {
  replayed = replayed h legal holds;
  numbers = λ key. row-home (row_of h key) (get (map_of_log (log_of h)) key)
      ((sound h legal holds).row key);
}

-- what decides no user's call is not in the log
log-same : (e : Event) (h : List Event) → entry_of e ≡ None → log_of (e ∷ h) ≡ log_of h
log-same (Read t c call reply) h none = absurd (cc)
log-same (Write t c call reply) h none = absurd (cc)
log-same _ h none = refl

before : (e : Event) (h : List Event) → SealsHold (e ∷ h) → SealsHold h
before (Write t c call reply) h holds = holds.0
before (Copy t i c k n) h holds = holds
before (Begin t c link) h holds = holds
before (Seal t c) h holds = holds
before (Look t c k) h holds = holds
before (Read t c call reply) h holds = holds
before (Freeze t c k n) h holds = holds
before (Mark t c j k n) h holds = holds
before (Close t c k had) h holds = holds
before (Fill t c k) h holds = holds

pub steps_leave_numbers : StepsLeaveNumbers
steps_leave_numbers e h legal holds none key =
    (cores_are_one_map (e ∷ h) legal holds).numbers key
    ∙ ap (λ log. get (map_of_log log) key) (log-same e h none)
    ∙ sym ((cores_are_one_map h legal.0 (before e h holds)).numbers key)
