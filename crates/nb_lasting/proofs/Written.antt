-- A guest writes by its own handle while it has all of them.
use Rattle.std.proofs.Common.{◌≡◌, ◌≢◌, ◌∙◌, ◌<◌, ◌≤◌, ◌⊎◌, ℕ, zero, suc, List, [], ◌∷◌, Some, ap, inl, inr, length, refl, slice_get, slice_set, subst, sym, arith}
use Rattle.std.specs.Prelude.{◌-◌, ◌^◌, Err, Ok, Option, Result, unwrap_or}
use Rattle.std.specs.Result.{IsErrAnd}
use Rattle.std.proofs.lemmas.List.{append-nil, length-set}
use Rattle.std.proofs.lemmas.Option.{slice_get_within}
use Rattle.atomic_table.specs.Table.{Me}
use Rattle.nb_core.specs.Calls.{Fills}
use Rattle.nb_core.specs.History.{key_of_call}
use Rattle.nb_core.specs.Log.{Entry, log_of, map_of_log}
use Rattle.nb_core.specs.Meaning.{IsCrowded}
use Rattle.nb_core.specs.declared.calls.Call.{Call}
use Rattle.nb_core.specs.declared.calls.Reply.{Reply}
use Rattle.nb_core.specs.declared.events.Event.{Event}
use Rattle.nb_map.specs.Handles.{HandleOf}
use Rattle.nb_map.specs.Logs.{HasLogged, log, made_in}
use Rattle.nb_map.specs.Maps.{MapOf, SeatOf}
use Rattle.nb_map.specs.Progress.{Limit, Tries}
use Rattle.nb_map.specs.Promises.{HasWritten, Refused, replied_or_refused}
use Rattle.nb_map.specs.declared.faults.PutFault.TheVariants as put_fault
use Rattle.nb_map.specs.declared.faults.PutFault.{PutFault}
use Rattle.nb_lasting.proofs.Calling.{known-then, write-logged}
use Rattle.nb_lasting.proofs.Counted.{called-from}
use Rattle.nb_lasting.proofs.Dealt.{there_is}
use Rattle.nb_lasting.proofs.Epochs.{goes_on}
use Rattle.nb_lasting.proofs.Renewed.{seen-map}
use Rattle.nb_lasting.proofs.Sharing.{Same, current_here, decided, with-else, with-here, with_current}
use Rattle.nb_lasting.specs.Epochs.{HasGoneOnBy}
use Rattle.nb_lasting.specs.Gathered.{HasWrittenBy}
use Rattle.nb_lasting.specs.Holding.{HasCalledIn, HasTriedIn, HasWrittenIn, tried_of}
use Rattle.nb_lasting.specs.Lasting.{IsNewKey, as_write_fault}
use Rattle.nb_lasting.specs.Renewal.{AreHeld, CanComeHome, HoldsBelow, HoldsStill, IsCrowdedAt, IsFullAt}
use Rattle.nb_lasting.specs.Shared.{IsCurrent, IsLane, KnowsIn, known_of}
use Rattle.nb_lasting.specs.declared.faults.GrowFault.TheVariants as grow_fault
use Rattle.nb_lasting.specs.declared.faults.GrowFault.{GrowFault}
use Rattle.nb_lasting.specs.declared.shared.LaneView.{LaneView}

-- ---- lists

pub same-in : {X : Type 0} (x y : X) → ◌≡◌ {A = Option X} (Some x) (Some y) → x ≡ y
same-in x y is = ap (λ o. unwrap_or o x) is

pub set-cases :
    {X : Type 0} (xs : List X) (n : ℕ) (y : X) (i : ℕ) (x : X) → slice_get (slice_set xs n y) i
    ≡ Some x
    → ((i ≡ n) × (y ≡ x)) ⊎ ((i ≢ n) × (slice_get xs i ≡ Some x))
set-cases [] n y i x at = absurd (omega (arith, slice_get_within [] i x at))
set-cases (z ∷ xs) zero y zero x at = inl (refl, same-in y x at)
set-cases (z ∷ xs) zero y (suc i) x at = inr ((λ is. omega (arith, is)), at)
set-cases (z ∷ xs) (suc n) y zero x at = inr ((λ is. omega (arith, is)), at)
set-cases (z ∷ xs) (suc n) y (suc i) x at = later (set-cases xs n y i x at)
  where
    later : ((i ≡ n) × (y ≡ x)) ⊎ ((i ≢ n) × (slice_get xs i ≡ Some x))
        → ((suc i ≡ suc n) × (y ≡ x)) ⊎ ((suc i ≢ suc n) × (slice_get xs i ≡ Some x))
    later (inl (is, same)) = inl (ap suc is, same)
    later (inr (other, old)) = inr ((λ is. other (omega (arith, is))), old)

pub set-at : {X : Type 0} (xs : List X) (n : ℕ) (y x : X) → slice_get xs n ≡ Some x
    → slice_get (slice_set xs n y) n ≡ Some y
set-at [] n y x at = absurd (omega (arith, slice_get_within [] n x at))
set-at (z ∷ xs) zero y x at = refl
set-at (z ∷ xs) (suc n) y x at = set-at xs n y x at

just-full :
    (m : MapOf) (call : Call) (before after : SeatOf) (limit : Limit)
    → HasWritten m call before after limit (Refused put_fault.Full)
    → Fills call × IsCrowded m.chain.shape after.chain.seen (key_of_call call)
just-full m call before after limit wrote = wrote.answered.just

-- what a token had seen before it gathered
written-from :
    (lane : ℕ) (before me then : LaneView) (call : Call) (result : Result Reply PutFault)
    → me.seen ≡ before.seen → HasWrittenIn lane me then call result
    → HasWrittenIn lane before then call result
written-from lane before me then call (Ok reply) same wrote =
    called-from lane before me then ((call, reply) ∷ []) same wrote
written-from lane before me then call (Err fault) same wrote =
    (called-from lane before me then [] same wrote.0, wrote.1)

-- ---- a write by the guest's own handle

module _
    (n own : ℕ) (me : Me (Option HandleOf) LaneView) (before after : List HandleOf) (call : Call)
    (result : Result Reply PutFault) (holds : HoldsBelow n me before) (some : 1 ≤ n)
    (guest : me.0.guest ≡ Some own) (below : own < n)
    (wrote : HasWrittenBy own call before after result) where
  logged : HasLogged wrote.old.seat wrote.new.seat (made_in call result)
      × ((lane : ℕ) (old new : LaneView) → HasCalledIn lane old new (made_in call result)
      → map_of_log (log_of new.seen) ≡ map_of_log (log wrote.new.seat)
      → HasWrittenIn lane old new call result)
  logged = write-logged wrote.old.map call wrote.old.seat wrote.new.seat (Tries (2 ^ 32 - 1)) result
      wrote.wrote

  old-lane : IsLane me.0.map own wrote.old × KnowsIn me.0.filled me.0.past wrote.old.seat
      (holds.knew own)
  old-lane = holds.held.each own wrote.old wrote.was

  goes :
      KnowsIn me.0.filled me.0.past wrote.new.seat (known_of me.0.filled me.0.past wrote.new.seat)
      × HasGoneOnBy own (log_of (holds.knew own))
      (log_of (known_of me.0.filled me.0.past wrote.new.seat))
      (made_in call result)
  goes =
      let begun = holds.begun (omega (arith, some)) in
      subst (λ k. KnowsIn me.0.filled me.0.past wrote.new.seat
      (known_of me.0.filled me.0.past wrote.new.seat)
      × HasGoneOnBy k (log_of (holds.knew own))
      (log_of (known_of me.0.filled me.0.past wrote.new.seat))
      (made_in call result)) old-lane.0.number
      (subst (λ (f : List Event). KnowsIn f me.0.past wrote.new.seat
      (known_of f me.0.past wrote.new.seat)
      × HasGoneOnBy wrote.old.seat.chain.number (log_of (holds.knew own))
      (log_of (known_of f me.0.past wrote.new.seat)) (made_in call result)) (sym begun.0)
      (subst (λ (l : List Event). KnowsIn holds.epoch.filled l wrote.new.seat
      (known_of holds.epoch.filled l wrote.new.seat)
      × HasGoneOnBy wrote.old.seat.chain.number (log_of (holds.knew own))
      (log_of (known_of holds.epoch.filled l wrote.new.seat)) (made_in call result)) (sym begun.1)
      (known-then holds.epoch wrote.old.seat wrote.new.seat (holds.knew own) (made_in call result)
      (subst (λ (f : List Event). KnowsIn f holds.epoch.past wrote.old.seat
      (holds.knew own)) begun.0
      (subst (λ (l : List Event). KnowsIn me.0.filled l wrote.old.seat (holds.knew own)) begun.1
      old-lane.1)) logged.0)))

  -- it leaves the map that its seat's log leaves
  leaves-map :
      map_of_log (log_of (known_of me.0.filled me.0.past wrote.new.seat))
      ≡ map_of_log (log wrote.new.seat)
  leaves-map =
      let begun = holds.begun (omega (arith, some)) in
      seen-map holds.epoch wrote.new.seat (known_of me.0.filled me.0.past wrote.new.seat)
      (subst (λ (f : List Event). KnowsIn f holds.epoch.past wrote.new.seat
      (known_of me.0.filled me.0.past wrote.new.seat)) begun.0
      (subst (λ (l : List Event). KnowsIn me.0.filled l wrote.new.seat
      (known_of me.0.filled me.0.past wrote.new.seat)) begun.1 goes.0))

  abbrev know-then : ℕ → List Event
  know-then = with_current holds.knew own (known_of me.0.filled me.0.past wrote.new.seat)

  held-then : AreHeld me.0.map me.0.filled me.0.past n know-then after
  held-then = record {
    count = ap length wrote.is ∙ length-set before own wrote.new ∙ holds.held.count;
    each = λ i h at.
        by i h (set-cases before own wrote.new i h (ap (λ xs. slice_get xs i) (sym wrote.is) ∙ at));
  }
    where
      Goal : ℕ → HandleOf → Type 0
      Goal i h = IsLane me.0.map i h × KnowsIn me.0.filled me.0.past h.seat (know-then i)

      by : (i : ℕ) (h : HandleOf)
          → ((i ≡ own) × (wrote.new ≡ h)) ⊎ ((i ≢ own) × (slice_get before i ≡ Some h)) → Goal i h
      by i h (inl (here, same)) =
          subst (λ k. Goal k h) (sym here) (subst (Goal own) same (
            record {
              map = wrote.rest.map ∙ old-lane.0.map;
              number = logged.0.number ∙ old-lane.0.number;
              alone = wrote.rest.reserve ∙ old-lane.0.alone;
            },
            subst (KnowsIn me.0.filled me.0.past wrote.new.seat)
                (sym (with-here holds.knew own
                (known_of me.0.filled me.0.past wrote.new.seat))) goes.0,
          ))
      by i h (inr (other, old)) =
          let each = holds.held.each i h old in (
            each.0,
            subst (KnowsIn me.0.filled me.0.past h.seat)
                (sym (with-else holds.knew own i
                (known_of me.0.filled me.0.past wrote.new.seat) other))
                each.1,
          )

  stays-so : (i : ℕ) → i < n → i ≢ own → HasGoneOnBy i (log_of (holds.knew i))
      (log_of (know-then i)) []
  stays-so i less other =
      let one = there_is before i (omega (arith, less, holds.held.count)) in
      subst (λ (l : List Event). HasGoneOnBy i (log_of (holds.knew i)) (log_of l) [])
      (sym (with-else holds.knew own i (known_of me.0.filled me.0.past wrote.new.seat) other))
      (record {
        later = [];
        grown = refl;
        replayed = (holds.held.each i one.0 one.1).1.replayed;
        own = refl;
      })

  -- all go home
  pub wrote-home :
      CanComeHome own (log_of (known_of me.0.filled me.0.past wrote.new.seat))
      (length after) me after
  wrote-home =
      subst (λ k. CanComeHome own
      (log_of (known_of me.0.filled me.0.past wrote.new.seat)) k me after)
      (sym held-then.count) (record {
        knew = holds.knew;
        know = know-then;
        outs = holds.outs;
        slots = holds.slots;
        held = held-then;
        current = λ i less other.
            let one = there_is before i (omega (arith, less, holds.held.count)) in
            subst (λ (l : List Event). IsCurrent i (holds.knew i) l)
            (sym (with-else holds.knew own i (known_of me.0.filled me.0.past wrote.new.seat) other))
            (current_here i (holds.knew i) (holds.held.each i one.0 one.1).1.replayed);
        guest = guest;
        due = λ _. ap log_of (with-here holds.knew own
            (known_of me.0.filled me.0.past wrote.new.seat));
        seen = λ more. absurd (omega (arith, more, below));
      })

  -- and the guest has written
  wrote-in :
      (then : LaneView)
      → log_of then.seen ≡ log_of (known_of me.0.filled me.0.past wrote.new.seat)
      → HasWrittenIn own me.0 then call result
  wrote-in then is =
      logged.1 own me.0 then
      (subst (λ l. HasGoneOnBy own (log_of me.0.seen) l (made_in call result)) (sym is)
      (subst (HasGoneOnBy own (log_of me.0.seen)
      (log_of (known_of me.0.filled me.0.past wrote.new.seat))) (append-nil (made_in call result))
      (goes_on own (log_of me.0.seen) (log_of (holds.knew own))
      (log_of (known_of me.0.filled me.0.past wrote.new.seat)) [] (made_in call result)
      (holds.mine own below guest) goes.1)))
      (ap map_of_log is ∙ leaves-map)

  pub wrote-since :
      (old : LaneView) → me.0.seen ≡ old.seen → (then : LaneView)
      → ((whole : List Entry) → CanComeHome own whole (length after) me after
      → log_of then.seen ≡ whole)
      → HasWrittenIn own old then call result
  wrote-since old same then home =
      written-from own old me.0 then call result same
      (wrote-in then
      (home (log_of (known_of me.0.filled me.0.past wrote.new.seat)) wrote-home))

  -- one that found the map full has called nothing
  pub full-still : result ≡ Err put_fault.Full → HoldsStill n me after
  full-still full = record {
    knew = holds.knew;
    epoch = holds.epoch;
    outs = holds.outs;
    slots = holds.slots;
    begun = holds.begun;
    still = record {
      know = know-then;
      held = held-then;
      gone = λ i less. by i less (decided i own);
    };
    mine = holds.mine;
  }
    where
      by : (i : ℕ) → i < n → Same i own
          → HasGoneOnBy i (log_of (holds.knew i)) (log_of (know-then i)) []
      by i less (inl (here, _)) =
          subst (λ k. HasGoneOnBy k (log_of (holds.knew k)) (log_of (know-then k)) []) (sym here)
          (subst (λ (l : List Event). HasGoneOnBy own (log_of (holds.knew own)) (log_of l) [])
          (sym (with-here holds.knew own (known_of me.0.filled me.0.past wrote.new.seat)))
          (subst (HasGoneOnBy own (log_of (holds.knew own))
          (log_of (known_of me.0.filled me.0.past wrote.new.seat)))
          (ap (made_in call) full) goes.1))
      by i less (inr (other, _)) = stays-so i less other

  -- and found all slots of the last table taken
  pub full-crowded :
      result ≡ Err put_fault.Full → Fills call × IsCrowdedAt own after (key_of_call call)
  full-crowded full =
      let just = just-full wrote.old.map call wrote.old.seat wrote.new.seat (Tries (2 ^ 32 - 1))
      (subst (λ r. HasWritten wrote.old.map call wrote.old.seat wrote.new.seat (Tries (2 ^ 32 - 1))
      (replied_or_refused r)) full wrote.wrote) in (
        just.0,
        (
          wrote.new,
          ap (λ xs. slice_get xs own) wrote.is ∙ set-at before own wrote.new wrote.old wrote.was,
          subst (λ (m : MapOf). IsCrowded m.chain.shape wrote.new.seat.chain.seen
              (key_of_call call))
              (sym wrote.rest.map) just.1,
        ),
      )

-- ---- what a write with all handles comes to

-- it was made or not, and nothing more is to be done
pub tried-so :
    (own : ℕ) (before then : LaneView) (call : Call) (result : Result Reply PutFault)
    → HasWrittenIn own before then call result
    → HasTriedIn own before then call (tried_of result)
tried-so own before then call (Ok reply) is = is
tried-so own before then call (Err put_fault.Full) is = is.0
tried-so own before then call (Err put_fault.Contended) is = is.0
tried-so own before then call (Err put_fault.ValueRange) is = is

-- there is no room for it, or no memory
pub refused-so :
    (own : ℕ) (before then : LaneView) (call : Call) (handles : List HandleOf) (fault : GrowFault)
    → HasCalledIn own before then [] → IsNewKey call (map_of_log (log_of before.seen))
    → Fills call × IsCrowdedAt own handles (key_of_call call)
    → (fault ≡ grow_fault.OutOfMemory → then.seen ≡ before.seen)
    → (fault ≡ grow_fault.Full → IsFullAt own handles (map_of_log (log_of then.seen)))
    → HasTriedIn own before then call (Err (as_write_fault fault))
refused-so own before then call handles grow_fault.Full called new crowded kept full =
    let is = full refl in (called, ((crowded.0, is.absent (key_of_call call) crowded.1), is.great))
refused-so own before then call handles grow_fault.OutOfMemory called new crowded kept full = (
  called,
  subst (λ (l : List Event). IsNewKey call (map_of_log (log_of l))) (sym (kept refl)) new,
)

pub is-err : {A B : Type 0} (result : Result A B) (fault : B) → IsErrAnd result (λ e. e ≡ fault)
    → result ≡ Err fault
is-err (Ok x) fault is = absurd is
is-err (Err e) fault is = ap Err is
