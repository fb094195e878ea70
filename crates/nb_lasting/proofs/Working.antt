-- How often a guest's write takes its handle.
use Rattle.std.proofs.Common.{◌≡◌, ◌∙◌, ◌*◌, ◌<◌, ◌≢◌, ◌∷◌, ℕ, List, [], Some, ap, inl, inr, refl, subst, sym}
use Rattle.std.specs.Prelude.{Err, IsTrue, None, Ok, Option, Result}
use Rattle.std.proofs.lemmas.List.{append_cancel_right}
use Rattle.nb_core.specs.Log.{calls_of}
use Rattle.nb_core.specs.declared.calls.Call.{Call}
use Rattle.nb_core.specs.declared.calls.Reply.{Reply}
use Rattle.nb_map.specs.Logs.{made_in}
use Rattle.nb_map.specs.Fullness.{HasSampled}
use Rattle.nb_map.specs.Handles.{HandleOf}
use Rattle.nb_map.specs.declared.faults.PutFault.TheVariants as put_fault
use Rattle.nb_map.specs.declared.faults.PutFault.{PutFault}
use Rattle.nb_map.specs.declared.occupancy.Occupancy.{Occupancy}
use Rattle.nb_lasting.proofs.Visiting.{then-first}
use Rattle.nb_lasting.specs.Guests.{GuestHasCalled, GuestHasWorked, GuestOf, HasLookedBy, HasLookedInTime, HasTriedUntilDone, calls_left, left_after, left_with}
use Rattle.nb_lasting.specs.Holding.{HasTriedOnAs}
use Rattle.nb_lasting.specs.Tries.{Again, Done, HasTriedOn, HasTriedAlone, IsUndone}
use Rattle.nb_lasting.specs.Visits.{AreBack, HasGoneRound, HasVisited, SharedOf}
use Rattle.nb_lasting.specs.declared.faults.WriteFault.{WriteFault}
use Rattle.nb_lasting.specs.declared.shared.Account.{Account}
use Rattle.nb_lasting.specs.inside.Guests.{GuestHasBegun, GuestHasTried, HasTriedFirst, HasWrittenHere, with_calls_left}

-- ---- tries, one after another

-- by one try
pub once-by :
    (call : Call) (before after : GuestOf) (outcome : Result Reply PutFault)
    → (IsUndone outcome → ⊥) → HasTriedAlone call before.number before.account after.account outcome
    → HasWrittenHere call before after outcome → HasTriedUntilDone call before after
once-by call before after outcome done try wrote = record {
  outcome = outcome;
  then = after.account;
  made = made_in call outcome;
  first = try;
  on = Done done;
  called = called outcome wrote;
}
  where
    called : (outcome : Result Reply PutFault) → HasWrittenHere call before after outcome
        → GuestHasCalled before after (made_in call outcome)
    called (Ok reply) wrote = wrote
    called (Err fault) wrote = wrote.0

-- others came first
pub again-by :
    (call : Call) (before after : GuestOf)
    → HasTriedAlone call before.number before.account after.account (Err put_fault.Contended)
    → GuestHasBegun call before after
again-by call before after try = record {
  outcome = Err put_fault.Contended;
  then = after.account;
  first = try;
  on = λ outcome then last made next on. Again next on;
}

-- it found the map full, and went on with all handles
pub full-by :
    (call : Call) (before middle after : GuestOf) (result : Result (Option Reply) WriteFault)
    → HasTriedAlone call before.number before.account middle.account (Err put_fault.Full)
    → GuestHasCalled before middle [] → GuestHasTried call middle after result
    → HasTriedOnAs call middle.number middle.of middle.account after.account result
    → HasTriedFirst call before after result
full-by call before middle after result try none tried on =
    by result tried
    (subst (λ n. HasTriedOnAs call n before.of middle.account after.account result) none.number
    (subst (λ (of : SharedOf).
    HasTriedOnAs call middle.number of middle.account after.account result) none.of on))
  where
    by :
        (result : Result (Option Reply) WriteFault) → GuestHasTried call middle after result
        → HasTriedOnAs call before.number before.of middle.account after.account result
        → HasTriedFirst call before after result
    by (Ok None) tried on =
        record { outcome = Err put_fault.Full; then = middle.account; first = try; on = on }
    by (Ok (Some reply)) tried on = record {
      outcome = Err put_fault.Full;
      then = middle.account;
      made = (call, reply) ∷ [];
      first = try;
      on = on;
      called = then-first before middle after ((call, reply) ∷ []) none tried;
    }
    by (Err fault) tried on = record {
      outcome = Err put_fault.Full;
      then = middle.account;
      made = [];
      first = try;
      on = on;
      called = then-first before middle after [] none tried.unmade;
    }

-- it goes on
pub then-once :
    (call : Call) (before middle after : GuestOf) → GuestHasBegun call before middle
    → GuestHasCalled before middle [] → HasTriedUntilDone call middle after
    → HasTriedUntilDone call before after
then-once call before middle after begun none once = record {
  outcome = begun.outcome;
  then = begun.then;
  made = once.made;
  first = begun.first;
  on = begun.on once.outcome once.then after.account once.made
      (subst (λ n. HasTriedAlone call n middle.account once.then once.outcome) none.number
      once.first)
      (subst (λ n. HasTriedOn call n before.of once.outcome once.then after.account once.made)
      none.number
      (subst (λ (of : SharedOf).
      HasTriedOn call middle.number of once.outcome once.then after.account once.made)
      none.of once.on));
  called = then-first before middle after once.made none once.called;
}

-- ---- a look that is due

looked-by :
    (before set : GuestOf) (then : Account) (found : Occupancy) → set.number ≡ before.number
    → set.account ≡ before.account → HasLookedBy set then found → HasLookedBy before then found
looked-by before set then found number account look =
    let did = λ (there back : HandleOf). HasSampled there.map there.seat back.seat found in
    subst (λ n. HasVisited n did before.account then) number
    (subst (λ (a : Account). HasVisited set.number did a then) account look)

-- it is all that is done
pub looked-only :
    (before set then : GuestOf) (found : Occupancy) → set.number ≡ before.number
    → set.account ≡ before.account → HasLookedBy set then.account found
    → HasLookedInTime before then
looked-only before set then found number account look = record {
  found = found;
  then = then.account;
  look = looked-by before set then.account found number account look;
  only = inl refl;
}

-- it finds the map crowded
pub looked-more :
    (before set then after : GuestOf) (found : Occupancy) → set.number ≡ before.number
    → set.account ≡ before.account → HasLookedBy set then.account found
    → IsTrue found.is_last × (2 * found.looked < 3 * found.taken) → then.of ≡ before.of
    → then.number ≡ before.number
    → HasGoneRound then.of (AreBack then.of then.number) then.account after.account
    → HasLookedInTime before after
looked-more before set then after found number account look crowded of same round = record {
  found = found;
  then = then.account;
  look = looked-by before set then.account found number account look;
  only = inr (
    crowded.0,
    crowded.1,
    subst (λ n. HasGoneRound before.of (AreBack before.of n) then.account after.account) same
        (subst (λ (of : SharedOf). HasGoneRound of (AreBack of then.number) then.account
        after.account) of round),
  );
}

-- ---- a write, after the look that was due

-- what a guest has called from one moment to another is determined
only-called :
    (before after : GuestOf) (made other : List (Call × Reply)) → GuestHasCalled before after made
    → GuestHasCalled before after other → made ≡ other
only-called before after made other one two =
    sym one.log.own
    ∙ ap (calls_of before.number)
    (append_cancel_right one.log.later two.log.later before.log
    (sym one.log.grown ∙ two.log.grown))
    ∙ two.log.own

counted-by :
    (before after : GuestOf) (made : List (Call × Reply)) → GuestHasCalled before after made
    → after.left ≡ left_after made (calls_left before.left) → (other : List (Call × Reply))
    → GuestHasCalled before after other → after.left ≡ left_after other (calls_left before.left)
counted-by before after made called is other also =
    is
    ∙ ap (λ (l : List (Call × Reply)). left_after l (calls_left before.left))
    (only-called before after made other called also)

pub counted-replied :
    (first middle last : GuestOf) (left : ℕ) (made : List (Call × Reply))
    → last ≡ with_calls_left left middle → GuestHasCalled first middle made
    → GuestHasCalled first last made
counted-replied first middle last left made is called =
    subst (λ (guest : GuestOf). GuestHasCalled first guest made) (sym is)
    (record { of = called.of; number = called.number; log = called.log })

pub worked-once :
    (call : Call) (first middle last : GuestOf) → GuestHasCalled first middle []
    → (first.left ≢ 0 → middle ≡ first) → (first.left ≡ 0 → HasLookedInTime first middle)
    → middle.left ≡ calls_left first.left → HasTriedUntilDone call middle last
    → last.left ≡ middle.left → GuestHasCalled middle last [] → GuestHasWorked call first last
worked-once call first middle last unmade same due left once kept none = record {
  looked = middle;
  unmade = unmade;
  none = same;
  due = due;
  once = once;
  counted = counted-by first last [] (then-first first middle last [] unmade none) (kept ∙ left);
}

pub worked-counted :
    (call : Call) (first middle last counted : GuestOf) (reply : Reply)
    → GuestHasCalled first middle [] → (first.left ≢ 0 → middle ≡ first)
    → (first.left ≡ 0 → HasLookedInTime first middle) → middle.left ≡ calls_left first.left
    → HasTriedUntilDone call middle last → last.left ≡ middle.left
    → GuestHasCalled middle last ((call, reply) ∷ [])
    → counted ≡ with_calls_left (left_with reply last.left) last → GuestHasWorked call first counted
worked-counted call first middle last counted reply unmade same due left once kept called count =
    record {
      looked = middle;
      unmade = unmade;
      none = same;
      due = due;
      once = record {
        outcome = once.outcome;
        then = once.then;
        made = once.made;
        first = once.first;
        on = subst (λ (a : Account).
            HasTriedOn call middle.number middle.of once.outcome once.then a once.made)
            (sym account) once.on;
        called = counted-replied middle last counted (left_with reply last.left) once.made count
            once.called;
      };
      counted = counted-by first counted made
          (counted-replied first last counted (left_with reply last.left) made count
          (then-first first middle last made unmade called))
          (is ∙ ap (left_with reply) (kept ∙ left));
    }
  where
    made : List (Call × Reply)
    made = (call, reply) ∷ []

    account : counted.account ≡ last.account
    account = ap (λ (guest : GuestOf). guest.account) count

    is : counted.left ≡ left_with reply last.left
    is = ap (λ (guest : GuestOf). guest.left) count
