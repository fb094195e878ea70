-- What a walk over a set shows.
use Rattle.std.proofs.Common.{◌≡◌, ◌∙◌, ℕ, ◌++◌, ◌==◌, true, List, [], ◌∷◌, map, Option, Some, None, is_some, cond, ap, sym, subst, refl, arith}
use Rattle.std.specs.List.{All, Contains, IsDistinct}
use Rattle.std.specs.FinMap.{get}
use Rattle.std.proofs.lemmas.List.{get_or-map, length-map}
use Rattle.std.proofs.lemmas.List.Elements.{All-cons, All-head, All-map, All-nil, All-tail, All-weaker}
use Rattle.nb_core.specs.Log.{map_of_log, reply_at}
use Rattle.nb_core.specs.Log as map_log
use Rattle.nb_core.specs.declared.calls.Call as map_call
use Rattle.nb_core.specs.declared.calls.Call.TheVariants as on_map
use Rattle.nb_core.specs.declared.calls.Reply.{Reply}
use Rattle.nb_map.proofs.Theorems as theorems
use Rattle.nb_map.specs.Logs as of_map
use Rattle.nb_map.specs.Walks as walks
use Rattle.nb_set.specs.Log as set_log
use Rattle.nb_set.specs.Log.{Call, HeldThrough}
use Rattle.nb_set.specs.OfMap.{call_as, log_as}
use Rattle.nb_set.specs.Sets.{HasLogged, SeatOf, log}
use Rattle.nb_set.specs.Walks.{HasAsked, IsMiss, WalkLasts, WholeWalk, begun, hit}
use Rattle.nb_set.proofs.Logged.{logged-as}
use Rattle.nb_set.proofs.Read.{begins-as, begins-replayed, read}

-- ---- one call of a walk

-- the key of a pair, where there is one
abbrev pub key_of : Option (ℕ × ℕ) → Option ℕ
key_of None = None
key_of (Some pair) = Some pair.0

missed-as :
    (misses : List (map_call.Call × Reply)) → All walks.IsMiss misses
    → All IsMiss (map call_as misses)
missed-as [] missed = All-nil IsMiss
missed-as (made ∷ misses) missed =
    let miss = All-head walks.IsMiss made misses missed in
    All-cons IsMiss (call_as made) (map call_as misses) (miss.0, ap call_as miss.1)
    (missed-as misses (All-tail walks.IsMiss made misses missed))

pub asked :
    {before after : SeatOf} (shown : Option (ℕ × ℕ)) → walks.HasRead before after shown
    → HasAsked before after (key_of shown)
asked {before} {after} shown read = record {
  misses = map call_as read.misses;
  missed = missed-as read.misses read.missed;
  logged = subst (HasLogged before after) (calls shown) (logged-as read.logged);
}
  where
    calls : (shown : Option (ℕ × ℕ)) → map call_as (walks.hit shown ++ read.misses)
        ≡ hit (key_of shown) ++ map call_as read.misses
    calls None = refl
    calls (Some pair) = refl

-- ---- a whole walk

contains-as :
    {A B : Type 0} (f : A → B) (xs : List A) (x : A) → Contains xs x → Contains (map f xs) (f x)
contains-as f xs x (i, within, is) =
    (i, omega (arith, within, length-map xs f), get_or-map f xs i x (f x) within ∙ ap f is)

-- each pair that was read is a key that was seen
seen-as :
    (made : List (map_call.Call × Reply)) (pairs : List (ℕ × ℕ))
    → All (λ pair. Contains made (on_map.Get pair.0, reply_at (on_map.Get pair.0) (Some pair.1)))
    pairs
    → All (λ k. Contains (map call_as made) (set_log.Contains k, true)) (map (λ pair. pair.0) pairs)
seen-as made pairs read =
    All-map (λ k. Contains (map call_as made) (set_log.Contains k, true)) (λ pair. pair.0) pairs
    (All-weaker (λ pair. Contains made (
      on_map.Get pair.0,
      reply_at (on_map.Get pair.0) (Some pair.1),
    ))
    (λ pair. Contains (map call_as made) (set_log.Contains pair.0, true))
    (λ pair has. contains-as call_as made
    (on_map.Get pair.0, reply_at (on_map.Get pair.0) (Some pair.1)) has) pairs read)

-- the number of a key that a map has
number-of : (at : Option ℕ) → is_some at ≡ true → (number : ℕ) × (at ≡ Some number)
number-of None has = absurd (omega (arith, ap {B = ℕ} (λ b. cond b 1 0) has))
number-of (Some n) has = (n, refl)

-- a key that the set has all the while the map has
held-as :
    (first last : List map_log.Entry) → map_log.IsReplayed last → (k : ℕ)
    → HeldThrough (log_as first) (log_as last) k
    → map_log.HeldThrough first last k
held-as first last replayed k held log begun begins =
    let here = (read log (begins-replayed begins.later log
    (subst map_log.IsReplayed begins.is replayed))).1 k in
    number-of (get (map_of_log log) k) (sym here
    ∙ held (log_as log) (begins-as begun) (begins-as begins))

pub whole_walk : WholeWalk
whole_walk set seat walk shown has ended =
    let all = theorems.whole_walk set.map seat walk.map has.pairs has.is ended in
    record {
      once = subst (IsDistinct (λ a b. a == b)) has.keys all.once;
      made = map call_as all.made;
      logged = logged-as all.logged;
      seen = subst (All (λ k. Contains (map call_as all.made) (set_log.Contains k, true))) has.keys
          (seen-as all.made has.pairs all.read);
      held = λ k held.
          subst (λ keys. Contains keys k) has.keys
          (all.held k (held-as (of_map.log walk.map.begun) (of_map.log seat)
          all.logged.replayed k held));
    }

pub walk_lasts : WalkLasts
walk_lasts = record {
  later = λ set call worked. theorems.walk_lasts.later worked;
  lasts = λ was mine later. theorems.walk_lasts.lasts was mine later;
  shown = λ has mine later. record {
    pairs = has.pairs;
    keys = has.keys;
    is =
        walks.Rested has.is mine later;
  };
}
