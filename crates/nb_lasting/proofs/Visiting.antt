-- A guest's calls, one after another.
use Rattle.std.proofs.Common.{◌≡◌, ◌∙◌, ◌++◌, ◌∷◌, arith, [], ℕ, List, All, ap, refl, subst, sym}
use Rattle.std.specs.Prelude.{Err, IfErr, IfOk, None, Ok, Option, Result, Some}
use Rattle.std.specs.Result.{IsErrAnd}
use Rattle.std.proofs.lemmas.List.{append-nil}
use Rattle.nb_core.specs.Log.{Entry, IsReplayed, calls_of, log_of, map_of_log}
use Rattle.nb_core.specs.declared.calls.Call.{Call}
use Rattle.nb_core.specs.declared.calls.Reply.{Reply}
use Rattle.nb_map.specs.Ending.{EndedOf, map_left}
use Rattle.nb_lasting.proofs.Dealt.{there_is}
use Rattle.nb_lasting.proofs.Epochs.{goes_on}
use Rattle.nb_lasting.specs.Epochs.{HasGoneOnBy}
use Rattle.nb_lasting.specs.Guests.{GoesOnTo, GuestHasCalled, GuestHasReplied, GuestIsRefused, GuestOf, HaveCalled, HaveCome, HaveEnded, IsOneLogOf, OneLogOfGuests}
use Rattle.nb_lasting.specs.Visits.{SharedOf}
use Rattle.nb_lasting.specs.Shared.{IsOfGuest}
use Rattle.nb_lasting.specs.Lasting.{IsRefusedFor}
use Rattle.nb_lasting.specs.declared.faults.WriteFault.{WriteFault}
use Rattle.nb_map.specs.declared.faults.PutFault.{PutFault}
use Rattle.nb_lasting.specs.Holding.{HasCalledIn, HasTriedIn, HasWrittenIn, IsJustIn}
use Rattle.nb_lasting.specs.inside.Guests.{GuestHasTried, HasWrittenHere}
use Rattle.nb_lasting.specs.declared.shared.LaneView.{LaneView}

-- ---- a guest's calls

-- no call
pub none-called : (guest : GuestOf) → IsReplayed guest.log → GuestHasCalled guest guest []
none-called guest replayed = record {
  of = refl;
  number = refl;
  log = record { later = []; grown = refl; replayed = replayed; own = refl };
}

-- calls through its lane
pub called_through :
    (before after : GuestOf) (old new : LaneView) (made : List (Call × Reply)) → after.of
    ≡ before.of
    → after.number ≡ before.number → before.log ≡ log_of old.seen → after.log ≡ log_of new.seen
    → HasCalledIn before.number old new made → GuestHasCalled before after made
called_through before after old new made of number is-old is-new called = record {
  of = of;
  number = number;
  log = subst (λ l. HasGoneOnBy before.number l after.log made) (sym is-old)
      (subst (λ l. HasGoneOnBy before.number (log_of old.seen) l made) (sym is-new) called);
}

pub written-through :
    (call : Call) (before after : GuestOf) (old new : LaneView) (result : Result Reply PutFault)
    → after.of ≡ before.of → after.number ≡ before.number → before.log ≡ log_of old.seen
    → after.log ≡ log_of new.seen → HasWrittenIn before.number old new call result
    → HasWrittenHere call before after result
written-through call before after old new (Ok reply) of number is-old is-new called =
    called_through before after old new ((call, reply) ∷ []) of number is-old is-new called
written-through call before after old new (Err fault) of number is-old is-new called = (
  called_through before after old new [] of number is-old is-new called.0,
  subst (λ l. IsJustIn call l fault) (sym is-new) called.1,
)

-- what a write with all handles came to
pub tried-through :
    (call : Call) (before after : GuestOf) (old new : LaneView)
    (result : Result (Option Reply) WriteFault)
    → after.of ≡ before.of → after.number ≡ before.number → before.log ≡ log_of old.seen
    → after.log ≡ log_of new.seen → HasTriedIn before.number old new call result
    → GuestHasTried call before after result
tried-through call before after old new (Ok None) of number is-old is-new called =
    called_through before after old new [] of number is-old is-new called
tried-through call before after old new (Ok (Some reply)) of number is-old is-new called =
    called_through before after old new ((call, reply) ∷ []) of number is-old is-new called
tried-through call before after old new (Err fault) of number is-old is-new called = record {
  unmade = called_through before after old new [] of number is-old is-new called.0;
  why = subst (λ l. IsRefusedFor call (map_of_log l) fault) (sym is-new) called.1;
}

-- one after another
pub goes-on-to :
    (first middle : GuestOf) (whole : List Entry) (made later : List (Call × Reply))
    → GuestHasCalled first middle made → GoesOnTo middle whole later
    → GoesOnTo first whole (later ++ made)
goes-on-to first middle whole made later one two =
    goes_on first.number first.log middle.log whole made later one.log
    (subst (λ k. HasGoneOnBy k middle.log whole later) one.number two)

pub then-called :
    (first middle last : GuestOf) (made later : List (Call × Reply))
    → GuestHasCalled first middle made
    → GuestHasCalled middle last later → GuestHasCalled first last (later ++ made)
then-called first middle last made later one two = record {
  of = two.of ∙ one.of;
  number = two.number ∙ one.number;
  log = goes-on-to first middle last.log made later one two.log;
}

-- nothing, and then calls
pub then-first :
    (first middle last : GuestOf) (made : List (Call × Reply)) → GuestHasCalled first middle []
    → GuestHasCalled middle last made → GuestHasCalled first last made
then-first first middle last made one two =
    subst (GuestHasCalled first last) (append-nil made)
    (then-called first middle last [] made one two)

-- what a write came to after that
pub then-refused :
    (call : Call) (first middle last : GuestOf) (fault : WriteFault)
    → GuestHasCalled first middle []
    → GuestIsRefused call middle last fault → GuestIsRefused call first last fault
then-refused call first middle last fault one two =
    record { unmade = then-first first middle last [] one two.unmade; why = two.why }

pub then-tried :
    (call : Call) (first middle last : GuestOf) (result : Result (Option Reply) WriteFault)
    → GuestHasCalled first middle [] → GuestHasTried call middle last result
    → GuestHasTried call first last result
then-tried call first middle last (Ok None) one two = then-first first middle last [] one two
then-tried call first middle last (Ok (Some reply)) one two =
    then-first first middle last ((call, reply) ∷ []) one two
then-tried call first middle last (Err fault) one two =
    then-refused call first middle last fault one two

-- the same of an answer
pub then-wrote-if :
    (call : Call) (first middle last : GuestOf) (result : Result Reply WriteFault)
    → GuestHasCalled first middle [] → IfOk result (GuestHasReplied call middle last)
    → IfOk result (GuestHasReplied call first last)
then-wrote-if call first middle last (Ok reply) one two =
    then-first first middle last ((call, reply) ∷ []) one two
then-wrote-if call first middle last (Err fault) one two = tt

pub then-refused-if :
    (call : Call) (first middle last : GuestOf) (result : Result Reply WriteFault)
    → GuestHasCalled first middle [] → IfErr result (GuestIsRefused call middle last)
    → IfErr result (GuestIsRefused call first last)
then-refused-if call first middle last (Ok reply) one two = tt
then-refused-if call first middle last (Err fault) one two =
    then-refused call first middle last fault one two

pub if-err : {A B : Type 0} (result : Result A B) (fault : B) (P : B → Type 0)
    → IsErrAnd result (λ e. e ≡ fault) → P fault → IfErr result P
if-err (Ok x) fault P is holds = tt
if-err (Err e) fault P is holds = subst P (sym is) holds

-- ---- the one log

-- whatever guests have called from the beginning to the end
pub one_log_of_guests : OneLogOfGuests
one_log_of_guests = λ n shared new last ended made come called end.
    one n shared new last ended made come called end
  where
    one : (n : ℕ) (shared : SharedOf) (new last : List GuestOf) (ended : EndedOf)
        (made : ℕ → List (Call × Reply))
        → HaveCome n shared new → HaveCalled n new last made → HaveEnded last ended
        → IsOneLogOf n made (map_left ended)
    one n shared new last ended made come called end = (
      end.whole,
      end.replayed,
      end.leaves,
      (λ i below.
          let first = there_is new i (omega (arith, below, come.count)) in
          let guest = there_is last i (omega (arith, below, called.count)) in
          let all = goes-on-to first.0 guest.0 end.whole (made i) []
          (called.each i first.0 guest.0 first.1 guest.1) (end.each i guest.0 guest.1) in
          let is-new = come.each i first.0 first.1 in
          let grown : end.whole ≡ all.later =
          all.grown ∙ (ap (λ (g : GuestOf). all.later ++ g.log) is-new ∙ append-nil all.later) in
          ap (calls_of i) grown
          ∙ ap (λ (k : ℕ). calls_of k all.later) (sym (ap (λ (g : GuestOf). g.number) is-new))
          ∙ all.own),
      subst (λ k. All (IsOfGuest k) end.whole) called.count end.made,
    )
