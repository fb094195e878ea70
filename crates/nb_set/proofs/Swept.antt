-- Walks that show their keys to a function, and take out what it refuses; and adds of many keys.
use Rattle.std.proofs.Common.{◌≡◌, ◌∙◌, ℕ, ◌+◌, ◌≤◌, Bool, true, false, List, [], ◌∷◌, ◌++◌, Result, Ok, Err, Some, None, is_err, length, length-append, ap, arith, refl, subst, sym, append_assoc}
use Rattle.std.specs.List.{All}
use Rattle.std.specs.List as std
use Rattle.std.proofs.lemmas.List.Elements.{All-cons, All-nil, All-weaker, Contains-append_right}
use Rattle.nb_core.specs.Log.{IsBeginning}
use Rattle.nb_map.specs.declared.faults.Full.{Full}
use Rattle.nb_set.specs.Bulk.{Again, Begun, HasAddedAll, HasSwept, HasSweptAll, Kept, Unwanted}
use Rattle.nb_set.specs.Log.{Add, Call, Contains, Remove}
use Rattle.nb_set.specs.Promises.{HasBegunWalk, HasWalkedOn, HasWritten}
use Rattle.nb_set.specs.Sets.{HasLogged, IsMine, SeatOf, SetOf, log, steps_of}
use Rattle.nb_set.specs.Walks.{HasShown, IsLater, IsWalkOf, WalkOf, begun}
use Rattle.nb_set.proofs.Bounded.{far-begun, far-ended, far-removed, far-shown, far_steps}
use Rattle.nb_set.proofs.Logged.{logs_add_up}
use Rattle.nb_set.proofs.Walked.{walk_lasts, whole_walk}

-- ---- what holds of it so far

later-more : {a b c : SeatOf} → IsLater a b → IsLater b c → IsLater a c
later-more {a} first next = record {
  number = next.number ∙ first.number;
  seen = record {
    later = next.seen.later ++ first.seen.later;
    is = next.seen.is ∙ ap (λ seen. next.seen.later ++ seen) first.seen.is
        ∙ sym (append_assoc next.seen.later first.seen.later a.chain.seen);
  };
}

walked-later :
    {set : SetOf} {before after : SeatOf} {walk walk' : WalkOf} {k : ℕ}
    → HasWalkedOn set before after walk walk' (Some k) → IsLater before after
walked-later {set} on = walk_lasts.later set (Contains 0) (on.worked 0)

removed-later :
    {set : SetOf} {before after : SeatOf} {k : ℕ} {went : Bool}
    → HasWritten set (Remove k) before after (Ok went) → IsLater before after
removed-later {set} {k = k} wrote = walk_lasts.later set (Remove k) wrote.lock_free

module _ {F : Type 0} {set : SetOf} {Step : F → (k : ℕ) → Bool → F → Type 0} {before : SeatOf}
    {first : F} where
  -- the seat has forgotten nothing
  swept-later :
      {now : SeatOf} {walk : WalkOf} {calls : List (Call × Bool)} {shown : List ℕ} {f : F}
      → HasSwept set Step before first now walk calls shown f → IsLater before now
  swept-later (Begun began) = began.top.later
  swept-later (Kept swept k g on step) = later-more (swept-later swept) (walked-later on)
  swept-later (Unwanted swept k g on step went wrote) =
      later-more (swept-later swept) (later-more (walked-later on) (removed-later wrote))

  -- it has made these calls
  swept-logged :
      {now : SeatOf} {walk : WalkOf} {calls : List (Call × Bool)} {shown : List ℕ} {f : F}
      → HasSwept set Step before first now walk calls shown f → HasLogged before now calls
  swept-logged (Begun began) = began.top.logged
  swept-logged (Kept swept k g on step) = logs_add_up.more (swept-logged swept) on.asked.logged
  swept-logged (Unwanted swept k g on step went wrote) =
      logs_add_up.more (logs_add_up.more (swept-logged swept) on.asked.logged) wrote.answered

  -- the walk has shown these keys
  swept-shown :
      {now : SeatOf} {walk : WalkOf} {calls : List (Call × Bool)} {shown : List ℕ} {f : F}
      → HasSwept set Step before first now walk calls shown f → HasShown set now walk shown
  swept-shown (Begun began) = began.shown
  swept-shown (Kept {shown = shown} swept k g on step) = on.shown shown (swept-shown swept)
  swept-shown (Unwanted {shown = shown} swept k g on step went wrote) =
      walk_lasts.shown (on.shown shown (swept-shown swept)) wrote.own (removed-later wrote)

  -- with no more steps than a walk to its place and the removals take
  swept-short :
      {now : SeatOf} {walk : WalkOf} {calls : List (Call × Bool)} {shown : List ℕ} {f : F}
      → HasSwept set Step before first now walk calls shown f
      → steps_of now ≤ steps_of before + far_steps set before now walk calls
  swept-short (Begun began) = far-begun set before began
  swept-short (Kept {calls = calls} swept k g on step) =
      far-shown set before calls (swept-later swept) (walked-later on) on (swept-short swept)
  swept-short (Unwanted {walk' = walk'} {calls} swept k g on step went wrote) =
      far-removed set before walk' ((Contains k, true) ∷ (on.asked.misses ++ calls))
      (later-more (swept-later swept) (walked-later on)) (removed-later wrote) wrote
      (far-shown set before calls (swept-later swept) (walked-later on) on (swept-short swept))

  -- from the seat's log as it was
  swept-begun :
      {now : SeatOf} {walk : WalkOf} {calls : List (Call × Bool)} {shown : List ℕ} {f : F}
      → HasSwept set Step before first now walk calls shown f
      → IsBeginning (log before) (log (begun walk))
  swept-begun (Begun began) =
      subst (λ seat. IsBeginning (log before) (log seat)) (sym began.begun)
      (record { later = began.top.logged.later; is = began.top.logged.grown })
  swept-begun (Kept swept k g on step) =
      subst (λ seat. IsBeginning (log before) (log seat)) (sym on.begun) (swept-begun swept)
  swept-begun (Unwanted swept k g on step went wrote) =
      subst (λ seat. IsBeginning (log before) (log seat)) (sym on.begun) (swept-begun swept)

  -- each was seen
  swept-seen :
      {now : SeatOf} {walk : WalkOf} {calls : List (Call × Bool)} {shown : List ℕ} {f : F}
      → HasSwept set Step before first now walk calls shown f
      → All (λ k. std.Contains calls (Contains k, true)) shown
  swept-seen (Begun began) = All-nil _
  swept-seen (Kept {calls = calls} {shown} swept k g on step) =
      All-cons (λ j. std.Contains ((Contains k, true) ∷ (on.asked.misses ++ calls))
      (Contains j, true)) k shown (0, omega arith, refl)
      (All-weaker (λ j. std.Contains calls (Contains j, true)) _
      (λ j. Contains-append_right ((Contains k, true) ∷ on.asked.misses) calls (Contains j, true))
      shown (swept-seen swept))
  swept-seen (Unwanted {calls = calls} {shown} swept k g on step went wrote) =
      All-cons (λ j. std.Contains ((Remove k, went) ∷ (Contains k, true)
      ∷ (on.asked.misses ++ calls)) (Contains j, true)) k shown (1, omega arith, refl)
      (All-weaker (λ j. std.Contains calls (Contains j, true)) _
      (λ j. Contains-append_right ((Remove k, went) ∷ (Contains k, true) ∷ on.asked.misses) calls
      (Contains j, true)) shown (swept-seen swept))

-- ---- a loop over it

-- the walk of this seat has come here, and the function with it
pub record HasSweptTo {F : Type 0} (set : SetOf) (Step : F → (k : ℕ) → Bool → F → Type 0)
    (before : SeatOf) (first : F) (now : SeatOf) (walk : WalkOf) (f : F) : Type 0 where
  pub own : IsMine set now
  pub is_walk : IsWalkOf set now walk
  pub calls : List (Call × Bool)
  pub shown : List ℕ
  pub swept : HasSwept set Step before first now walk calls shown f

module _ {F : Type 0} {set : SetOf} {Step : F → (k : ℕ) → Bool → F → Type 0} {before : SeatOf}
    {first : F} where
  -- as it begins
  pub sweep-begun :
      {now : SeatOf} {walk : WalkOf} → HasBegunWalk set before now walk
      → HasSweptTo set Step before first now walk first
  sweep-begun began = record {
    own = began.top.own;
    is_walk = began.is_walk;
    calls = [];
    shown = [];
    swept = Begun began;
  }

  -- a key is to stay
  pub sweep-kept :
      {now after : SeatOf} {walk walk' : WalkOf} {f : F} (k : ℕ) (g : F)
      → HasSweptTo set Step before first now walk f
      → HasWalkedOn set now after walk walk' (Some k) → Step f k true g
      → HasSweptTo set Step before first after walk' g
  sweep-kept k g sweep on step = record {
    own = on.own;
    is_walk = on.is_walk;
    calls = (Contains k, true) ∷ (on.asked.misses ++ sweep.calls);
    shown = k ∷ sweep.shown;
    swept = Kept sweep.swept k g on step;
  }

  -- a key is to go
  pub sweep-refused :
      {now then after : SeatOf} {walk walk' : WalkOf} {f : F} (k : ℕ) (g : F) {went : Bool}
      → HasSweptTo set Step before first now walk f
      → HasWalkedOn set now then walk walk' (Some k) → Step f k false g
      → HasWritten set (Remove k) then after (Ok went)
      → HasSweptTo set Step before first after walk' g
  sweep-refused k g {went} sweep on step wrote = record {
    own = wrote.own;
    is_walk = walk_lasts.lasts on.is_walk wrote.own (removed-later wrote);
    calls = (Remove k, went) ∷ (Contains k, true) ∷ (on.asked.misses ++ sweep.calls);
    shown = k ∷ sweep.shown;
    swept = Unwanted sweep.swept k g on step went wrote;
  }

  -- the walk is at its end
  pub sweep-all :
      {now after : SeatOf} {walk walk' : WalkOf} {f : F}
      → HasSweptTo set Step before first now walk f
      → HasWalkedOn set now after walk walk' None
      → HasSweptAll set Step first before after
  sweep-all {now} {after} {walk} {walk'} {f} sweep on =
      let whole = whole_walk set after walk' sweep.shown
      (on.shown sweep.shown (swept-shown sweep.swept)) (on.ended refl) in
      let since = subst (λ seat. IsBeginning (log before) (log seat)) (sym on.begun)
      (swept-begun sweep.swept) in
      record {
        then = now;
        walk = walk;
        calls = sweep.calls;
        shown = sweep.shown;
        function = f;
        swept = sweep.swept;
        end = walk';
        ended = on;
        all = record {
          once = whole.once;
          made = on.asked.misses ++ sweep.calls;
          logged = logs_add_up.more (swept-logged sweep.swept) on.asked.logged;
          seen = All-weaker (λ k. std.Contains sweep.calls (Contains k, true)) _
              (λ k. Contains-append_right on.asked.misses sweep.calls (Contains k, true))
              sweep.shown (swept-seen sweep.swept);
          held = λ k held. whole.held k (λ here from till. held here (record {
            later = from.later ++ since.later;
            is = from.is ∙ ap (λ log. from.later ++ log) since.is
                ∙ sym (append_assoc from.later since.later (log before));
          }) till);
        };
        made = refl;
        short = far-ended set before sweep.calls (swept-later sweep.swept)
            (walk_lasts.later set (Contains 0) (on.worked 0)) on (swept-short sweep.swept);
        later = later-more (swept-later sweep.swept)
            (walk_lasts.later set (Contains 0) (on.worked 0));
        own = on.own;
      }

-- ---- other functions

-- each step of a function is one of another
module _ {F G : Type 0} {Step : F → (k : ℕ) → Bool → F → Type 0}
    (Step' : G → (k : ℕ) → Bool → G → Type 0) (onto : F → G)
    (steps : (f : F) (k : ℕ) (keep : Bool) (g : F) → Step f k keep g
    → Step' (onto f) k keep (onto g)) where
  swept-as :
      {set : SetOf} {before : SeatOf} {first : F} {now : SeatOf} {walk : WalkOf}
      {calls : List (Call × Bool)} {shown : List ℕ} {f : F}
      → HasSwept set Step before first now walk calls shown f
      → HasSwept set Step' before (onto first) now walk calls shown (onto f)
  swept-as (Begun began) = Begun began
  swept-as (Kept {f = f} swept k g on step) =
      Kept (swept-as swept) k (onto g) on (steps f k true g step)
  swept-as (Unwanted {f = f} swept k g on step went wrote) =
      Unwanted (swept-as swept) k (onto g) on (steps f k false g step) went wrote

  pub sweep-as :
      {set : SetOf} {f : F} {before after : SeatOf} → HasSweptAll set Step f before after
      → HasSweptAll set Step' (onto f) before after
  sweep-as sweep = record {
    then = sweep.then;
    walk = sweep.walk;
    calls = sweep.calls;
    shown = sweep.shown;
    function = onto sweep.function;
    swept = swept-as sweep.swept;
    end = sweep.end;
    ended = sweep.ended;
    all = sweep.all;
    made = sweep.made;
    short = sweep.short;
    later = sweep.later;
    own = sweep.own;
  }

-- ---- adds of many keys

-- the next key was added
pub add-next :
    {set : SetOf} {before mid after : SeatOf} {keys first : List ℕ} (rest : List ℕ) (key : ℕ)
    (result : Result Bool Full)
    → is_err result ≡ false → HasWritten set (Add key) mid after result
    → keys ≡ first ++ (key ∷ rest) → HasAddedAll set before first mid
    → (added : List ℕ) × (keys ≡ added ++ rest) × (length added ≡ length first + 1)
    × HasAddedAll set before added after
add-next {first = first} rest key (Ok came) done wrote are added = (
  first ++ (key ∷ []),
  are ∙ sym (append_assoc first (key ∷ []) rest),
  length-append first (key ∷ []),
  Again added key came wrote,
)
add-next rest key (Err full) done wrote are added = absurd cc
