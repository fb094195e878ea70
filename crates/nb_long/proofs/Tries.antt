-- What the tries of an update add up to.
use Rattle.std.proofs.Common.{◌≡◌, ◌∙◌, ◌+◌, ◌≤◌, ◌⊎◌, ℕ, Bool, true, false, List, [], ◌∷◌, length, Option, Some, None, Result, Ok, Err, Bor, ap, refl, subst, subst₂, sym, inl, inr, IfSome, arith}
use Rattle.std.specs.List.{Contains}
use Rattle.std.proofs.lemmas.List.Elements.{All-cons, All-nil, Contains-append_right}
use Rattle.boxcar.specs.Table.{Shelves, Shows, Where}
use Rattle.nb_core.specs.Calls.{Fills, leaves_alone}
use Rattle.nb_core.specs.History.{key_of_call}
use Rattle.nb_core.specs.declared.calls.Call.{Call}
use Rattle.nb_core.specs.declared.calls.Call.TheVariants.{Get}
use Rattle.nb_map.proofs.Theorems.{logs_add_up}
use Rattle.nb_map.specs.Maps.{HasWorked, IsMine, SeatOf}
use Rattle.nb_map.specs.Progress.{Tries}
use Rattle.nb_map.specs.Promises.{HasGot, HasWritten, Outcome, Refused}
use Rattle.nb_map.specs.Steps.{get_steps}
use Rattle.nb_map.specs.declared.faults.PutFault.TheVariants as put_fault
use Rattle.nb_long.proofs.Rounds.{HasIdled, HasRound, idled-as, idled-more, idled-none, last-then, lost-round, made_some-as, passed-sum, round-worked, worked-then}
use Rattle.nb_long.specs.Promises.{HasGotValue}
use Rattle.nb_long.specs.Stores.{GivesBack}
use Rattle.nb_long.specs.Typed.{HasMadeLast, IsIdle, IsValueShown, LongMapOf, number_of, passed_on, read_that_found, round_steps}
use Rattle.nb_long.specs.Updating.{AreShown, Begun, HasBegunTry, HasEndedTry, HasExchanged, HasLost, HasTriedOnce, HasUpdated, IsLastTry, IsLockFreeAs, IsLost, IsStored, Lost, as_update_fault, calls_asked, exchange_for}
use Rattle.nb_long.specs.declared.store.StoreFault.{StoreFault}
use Rattle.nb_long.specs.declared.store.StoreFault.TheVariants as store_fault
use Rattle.nb_long.specs.declared.map.updating.UpdateFault.{UpdateFault}
use Rattle.nb_long.specs.declared.map.updating.UpdateFault.TheVariants as fault
use Rattle.nb_long.specs.declared.map.updating.Updated.{Updated}

-- ---- small facts

-- a number that is shown is that of its token
number-shown :
    {V : Type 0} (store : Shelves) (number : Option ℕ) (found : Option (Where V))
    → IsValueShown store number (Ok found) → number ≡ number_of found
number-shown store number None is = is
number-shown store number (Some token) is = is.1

-- one of two calls at a key, such that it fills the key if either does
record IsEither (a b c : Call) : Type 0 where
  is : (c ≡ a) ⊎ (c ≡ b)
  key : key_of_call c ≡ key_of_call a
  first : Fills a → Fills c
  second : Fills b → Fills c

either-call : (a b : Call) → key_of_call b ≡ key_of_call a → (c : Call) × IsEither a b c
either-call a b same = one (leaves_alone b None) refl
  where
    one : (alone : Bool) → leaves_alone b None ≡ alone → (c : Call) × IsEither a b c
    one true alone = (
      a,
      record {
        is = inl refl;
        key = refl;
        first = λ fills. fills;
        second = λ fills. absurd cc;
      },
    )
    one false fills =
        (b, record { is = inr refl; key = same; first = λ _. fills; second = λ fills. fills })

-- ---- one try

-- the map's read, by what is shown
pub got-of :
    {V : Type 0} {m : LongMapOf} {key : ℕ} {before after : SeatOf} {found : Option (Where V)}
    → HasGotValue m key before after (Ok found) → HasGot m.map key before after (number_of found)
got-of {m = m} {key} {before} {after} {found} got =
    subst (HasGot m.map key before after) (number-shown m.store got.number found got.shown) got.got

-- a try is a round on the numbers of its tokens
round-of :
    {F V : Type 0} {m : LongMapOf} {Step : F → Option (Bor V) → Option V → F → Type 0} {key : ℕ}
    {before after : SeatOf} {function left : F} {found new : Option (Where V)}
    {outcome : Outcome} → IsMine m.map before
    → HasTriedOnce m Step key before function found new after left outcome
    → HasRound m key (number_of found) (number_of new) before after outcome
round-of mine tried = record {
  read = tried.read;
  own = mine;
  got = got-of tried.asked.got;
  wrote = tried.wrote;
}

-- ---- the end of a try

module _
    {F V : Type 0} {m : LongMapOf} {Step : F → Option (Bor V) → Option V → F → Type 0} {key : ℕ}
    {before read : SeatOf} {function left : F} {found : Option (Where V)} {value : Option V}
    (asked : HasBegunTry m Step key before function found value read left)
  where
    read-last : HasMadeLast key (read_that_found key (number_of found)) before read
    read-last = record {
      earlier = [];
      idle = All-nil (IsIdle key);
      logged = (got-of asked.got).replied;
    }

    -- what the function answers isn't stored
    pub unstored :
        {v : V} → value ≡ Some v → (refusal : StoreFault V) → GivesBack m.store v refusal
        → HasEndedTry m Step key before function read left (Err (as_update_fault refusal))
    unstored some (store_fault.OutOfMemory back) same = (
      found,
      read-last,
      subst (λ value. HasBegunTry m Step key before function found value read left)
          (some ∙ ap Some (sym same)) asked,
    )
    unstored some (store_fault.ValueRange placed) ((shows, same), past) = (
      found,
      read-last,
      subst (λ value. HasBegunTry m Step key before function found value read left)
          (some ∙ ap Some (sym same)) asked,
      shows,
      past,
    )

    -- it is stored, and exchanged for what was found
    module _ (after : SeatOf) (new : Option (Where V)) (stored : IsStored m.store value new) where
      once :
          {outcome : Outcome}
          → HasWritten m.map (exchange_for key found new) read after (Tries 1) outcome
          → HasTriedOnce m Step key before function found new after left outcome
      once wrote =
          record { read = read; value = value; asked = asked; stored = stored; wrote = wrote }

      pub exchanged-so :
          (result : Result (Option (Updated V)) (UpdateFault V))
          → HasExchanged m key found new read after result
          → HasEndedTry m Step key before function after left result
      exchanged-so (Ok (Some updated)) (is, wrote) =
          subst (λ (updated : Updated V). IsLastTry m Step key before before function after left
          (Ok updated)) (sym is) (
            record {
              earlier = read_that_found key (number_of found) ∷ [];
              idle = All-cons (IsIdle key) (read_that_found key (number_of found)) [] refl
                  (All-nil (IsIdle key));
              logged = logs_add_up.more (got-of asked.got).replied wrote.answered;
            },
            once wrote,
          )
      exchanged-so (Ok None) (outcome, wrote, lost) = (found, new, outcome, once wrote, lost)
      exchanged-so (Err (fault.Full receipt)) (none, some, wrote) = (
        subst (λ found. HasMadeLast key (read_that_found key (number_of found)) before after) none
            (record {
              earlier = [];
              idle = All-nil (IsIdle key);
              logged = logs_add_up.more (got-of asked.got).replied wrote.answered.unmade;
            }),
        subst₂ (λ found new. HasTriedOnce m Step key before function found new after left
            (Refused put_fault.Full)) none some (once wrote),
      )
      exchanged-so (Err (fault.OutOfMemory back)) never = absurd never
      exchanged-so (Err (fault.ValueRange placed)) never = absurd never
      exchanged-so (Err fault.Unshown) never = absurd never

-- ---- tries one after another

module _ {F V : Type 0} (m : LongMapOf) (Step : F → Option (Bor V) → Option V → F → Type 0) (key : ℕ)
    (before : SeatOf) (first : F) where
  -- The update has lost some tries.
  pub record HasCome (now : SeatOf) (function : F) : Type 0 where
    pub own : IsMine m.map now
    pub calls : List Call
    pub lost : HasLost m Step key before first calls now function
    pub few : length calls ≤ passed_on key before now + 1
    pub one : Call
    pub asked : Contains calls one
    pub about : key_of_call one ≡ key
    pub idled : HasIdled m one key before now

-- before the first
pub come-none :
    {F V : Type 0} {m : LongMapOf} {Step : F → Option (Bor V) → Option V → F → Type 0} {key : ℕ}
    {seat : SeatOf} (function : F) → IsMine m.map seat → HasCome m Step key seat function seat function
come-none {m = m} {key = key} {seat} function mine = record {
  own = mine;
  calls = Get key ∷ [];
  lost = Begun;
  few = omega arith;
  one = Get key;
  asked = (0, omega arith, refl);
  about = refl;
  idled = idled-none (Get key) mine;
}

module _ {F V : Type 0} {m : LongMapOf} {Step : F → Option (Bor V) → Option V → F → Type 0} {key : ℕ}
    {before now : SeatOf} {first function : F} (mine : IsMine m.map before)
    (come : HasCome m Step key before first now function) where
  -- ---- one try more

  module _ {after : SeatOf} {left : F} {found new : Option (Where V)} {outcome : Outcome}
      (tried : HasTriedOnce m Step key now function found new after left outcome) where
    abbrev ask : Call
    ask = exchange_for key found new

    -- the call whose steps these may be
    chosen : (c : Call) × IsEither come.one ask c
    chosen = either-call come.one ask (sym come.about)

    before-chosen : HasIdled m chosen.0 key before now
    before-chosen = idled-as mine come.idled chosen.0 chosen.1.key chosen.1.first

    worked-chosen : HasWorked m.map chosen.0 now after (round_steps m.map.chain.shape)
    worked-chosen =
        round-worked (round-of come.own tried) chosen.0 (chosen.1.key ∙ come.about) chosen.1.second

    -- it is among the calls
    chosen-asked : Contains (ask ∷ come.calls) chosen.0
    chosen-asked = elim chosen.1.is [
      | inl is ↦ subst (Contains (ask ∷ come.calls)) (sym is)
          (Contains-append_right (ask ∷ []) come.calls come.one come.asked)
      | inr is ↦ subst (Contains (ask ∷ come.calls)) (sym is) (0, omega arith, refl)
    ]

    -- it is lost
    pub come-more : IsLost outcome → HasCome m Step key before first after left
    come-more lost =
        let lost_round = lost-round outcome (round-of come.own tried) lost in
        let sum = passed-sum key before now after come.idled.steps.1.grown
        worked-chosen.steps.1.grown in
        record {
          own = tried.wrote.own;
          calls = ask ∷ come.calls;
          lost = Lost come.lost found new after left outcome tried lost;
          few = omega (arith, come.few, lost_round.won, sum);
          one = chosen.0;
          asked = chosen-asked;
          about = chosen.1.key ∙ come.about;
          idled = idled-more mine before-chosen lost_round worked-chosen;
        }

    -- it is the last
    free-exchange : IsLockFreeAs m key (ask ∷ come.calls) before after
    free-exchange = record {
      call = chosen.0;
      asked = chosen-asked;
      worked = worked-then mine before-chosen (round_steps m.map.chain.shape) (omega arith)
          worked-chosen;
    }

  -- the last try has only read
  free-read :
      {after : SeatOf} {number : Option ℕ} → HasGot m.map key now after number
      → IsLockFreeAs m key come.calls before after
  free-read {after} got = record {
    call = come.one;
    asked = come.asked;
    worked = worked-then mine come.idled (get_steps m.map.chain.shape) (omega arith) (record {
      steps = made_some-as {c = Get key} come.one come.about (λ fills. absurd cc)
          got.worked.steps;
      net = got.worked.net;
      count = got.worked.count;
    });
  }

  -- ---- the end

  shown-found :
      (number : Option ℕ) (found : Option (Where V)) → IsValueShown m.store number (Ok found)
      → IfSome found (λ (token : Where V). Shows m.store token)
  shown-found number None is = tt
  shown-found number (Some token) is = is.0

  shown-new :
      (value : Option V) (new : Option (Where V)) → IsStored m.store value new
      → IfSome new (λ (token : Where V). Shows m.store token)
  shown-new value None is = tt
  shown-new value (Some token) is = is.0

  module _ {after : SeatOf} (left : F) (own : IsMine m.map after) where
    updated-so :
        (result : Result (Updated V) (UpdateFault V))
        → IsLastTry m Step key before now function after left result → AreShown m.store result
        → IsLockFreeAs m key (calls_asked key come.calls result) before after
        → HasUpdated m Step first key before after result
    updated-so result end shown free = record {
      calls = come.calls;
      begun = now;
      function = function;
      lost = come.lost;
      few = come.few;
      left = left;
      ended = end;
      shown = shown;
      lock_free = free;
      own = own;
    }

    pub come-end :
        (result : Result (Updated V) (UpdateFault V))
        → IsLastTry m Step key now now function after left result
        → HasUpdated m Step first key before after result
    come-end (Ok updated) (last, tried) =
        updated-so (Ok updated) (last-then mine come.idled last, tried) (
          shown-found tried.asked.got.number updated.found tried.asked.got.shown,
          shown-new tried.value updated.new tried.stored,
        )
        (free-exchange tried)
    come-end (Err (fault.OutOfMemory value)) (found, last, asked) =
        updated-so (Err (fault.OutOfMemory value)) (found, last-then mine come.idled last, asked) tt
        (free-read (got-of asked.got))
    come-end (Err (fault.ValueRange placed)) (found, last, asked, shows, past) =
        updated-so (Err (fault.ValueRange placed)) (
          found,
          last-then mine come.idled last,
          asked,
          shows,
          past,
        )
        shows (free-read (got-of asked.got))
    come-end (Err (fault.Full receipt)) (last, tried) =
        updated-so (Err (fault.Full receipt)) (last-then mine come.idled last, tried) tried.stored.0
        (free-exchange tried)
    come-end (Err fault.Unshown) (n, last, (unshown, got)) =
        updated-so (Err fault.Unshown) (n, last-then mine come.idled last, (unshown, got)) tt
        (free-read got.got)

-- the same, of the map and the seat by other names
pub updated-on :
    {F V : Type 0} {m m' : LongMapOf} {Step : F → Option (Bor V) → Option V → F → Type 0} {first : F}
    {key : ℕ} {before before' after : SeatOf} {result : Result (Updated V) (UpdateFault V)}
    → m ≡ m' → before ≡ before' → HasUpdated m Step first key before after result
    → HasUpdated m' Step first key before' after result
updated-on {Step = Step} {first} {key} {after = after} {result} map seat updated =
    subst₂ (λ m before. HasUpdated m Step first key before after result) map seat updated
