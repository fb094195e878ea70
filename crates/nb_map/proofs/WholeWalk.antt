-- What a whole walk has shown.
use Rattle.std.proofs.Common.{◌≡◌, ◌∙◌, ℕ, ◌==◌, ◌≤◌, ◌<◌, ◌⊎◌, false, List, [], ◌∷◌, ◌++◌, map, pos, Option, Some, None, ap, sym, subst, subst₂, refl, inl, inr, arith}
use Rattle.std.specs.List.{All, AllByRecursion, Contains, IsDistinct}
use Rattle.std.specs.Option.{IfSome}
use Rattle.std.specs.FinMap.{get}
use Rattle.std.proofs.Math.Nat.{le_refl}
use Rattle.std.proofs.lemmas.Bool.{ne_eqb}
use Rattle.std.proofs.lemmas.Int.{ints}
use Rattle.std.proofs.lemmas.Nat.{pow_pos}
use Rattle.std.proofs.lemmas.List.Elements.{All-append, All-cons, All-head, All-nil, All-tail, All-weaker, Contains-append_left, Contains-append_right, filter_map-append}
use Rattle.std.proofs.lemmas.Map.Keys.{IsDistinct-cons}
use Rattle.nb_core.specs.History.{IsLegal}
use Rattle.nb_core.specs.Laws.{Lasts}
use Rattle.nb_core.specs.Log.{HeldThrough, IsBeginning, calls_of, entry_of, log_of, map_of_log, reply_at}
use Rattle.nb_core.specs.Meaning.{net_of, net_of_call, place_of}
use Rattle.nb_core.specs.Plans.{Plan, size_of}
use Rattle.nb_core.specs.Tables.{tables_at}
use Rattle.nb_core.specs.declared.calls.Call.{Call}
use Rattle.nb_core.specs.declared.calls.Call.TheVariants.{Get}
use Rattle.nb_core.specs.declared.calls.Reply.{Reply}
use Rattle.nb_core.proofs.Theorems.{held_has_place, linked, log_is_replayed, place_is, seen_lasts, top_complete}
use Rattle.nb_table.specs.Chains.{seen_by}
use Rattle.nb_map.specs.Logs.{HasLogged, log}
use Rattle.nb_map.specs.Maps.{IsMine, MapOf, SeatOf}
use Rattle.nb_map.specs.Walks.{Begun, HasPassed, HasReached, HasRead, HasWalked, IsBefore, IsFirstTable, IsLater, IsMiss, IsPassedOver, IsPlace, IsShown, IsUnderway, IsWalkOf, Passed, Rested, Showed, WalkLasts, WalkOf, WholeWalk, begun_by, hit, walk_from, with_shown}
use Rattle.nb_map.specs.Promises.{HasWalkedUpTo}
use Rattle.nb_map.specs.Steps.{passing_steps, slots_ahead}
use Rattle.nb_map.specs.inside.Walking.{HasGone}
use Rattle.nb_map.specs.declared.map.walks.WalkPlace.{WalkPlace}
use Rattle.nb_map.specs.declared.steps.walk.Place.{Place}
use Rattle.nb_map.specs.declared.steps.walk.Place.TheVariants.{Slot, End}
use Rattle.nb_map.proofs.Counted.{uncounted-mine}
use Rattle.nb_map.proofs.Logged.{logged, logs_add_up, worked-uncounted}
use Rattle.nb_map.proofs.Made.{begins-itself, begins-more}
use Rattle.nb_map.proofs.Walked.{before-later, before-or-not, held-since, held-until, log-begun, passed-still, placed-before, placed-later}

-- the keys of these pairs
abbrev keys_of : List (ℕ × ℕ) → List ℕ
keys_of = map (λ pair. pair.0)

-- one place is one table and one slot
same-place : {f j g i : ℕ} → ◌≡◌ {A = Option (ℕ × ℕ)} (Some (f, j)) (Some (g, i))
    → (f ≡ g) × (j ≡ i)
same-place e = (ap (λ at. (place-or at).0) e, ap (λ at. (place-or at).1) e)
  where
    place-or : Option (ℕ × ℕ) → ℕ × ℕ
    place-or None = (0, 0)
    place-or (Some at) = at

-- the key's first place comes before that of the walk
abbrev IsBehind : Plan → SeatOf → WalkOf → ℕ → Type 0
IsBehind p seat walk k = (g : ℕ) × (i : ℕ) × (place_of p seat.chain.seen walk.first k ≡ Some (g, i))
    × IsBefore (Slot g i) walk.place

-- the call that read the pair
abbrev read_of : ℕ × ℕ → Call × Reply
read_of pair = (Get pair.0, reply_at (Get pair.0) (Some pair.1))

-- What a walk has shown that has come to its place: what a whole one has shown, but for the keys
-- that are still before it.
record SoFar (m : MapOf) (seat : SeatOf) (walk : WalkOf) (shown : List (ℕ × ℕ)) : Type 0 where
  mine : IsMine m seat
  first : IsFirstTable m.chain.shape seat.chain walk.first
  later : IsBeginning walk.begun.chain.seen seat.chain.seen
  once : IsDistinct (λ a b. a == b) (keys_of shown)
  made : List (Call × Reply)
  logged : HasLogged walk.begun seat made
  read : All (λ pair. Contains made (read_of pair)) shown
  behind : All (λ pair. IsBehind m.chain.shape seat walk pair.0) shown
  held : (k : ℕ) → HeldThrough (log walk.begun) (log seat) k → IsBehind m.chain.shape seat walk k
      → Contains (keys_of shown) k

module _ (m : MapOf) where
  abbrev p : Plan
  p = m.chain.shape

  -- a place from a table's first slot on doesn't come before that
  no-room : (top g i : ℕ) → top ≤ g → (g < top) ⊎ ((g ≡ top) × (i < 0)) → ⊥
  no-room top g i from early = grind (arith, early, from)

  -- as the walk begins
  sofar-begun : {seat : SeatOf} → IsMine m seat → SoFar m seat (begun_by m seat) []
  unfolding IsDistinct
  sofar-begun {seat} mine =
      let own = mine.chain in
      let links = linked p own.plan seat.chain.seen own.legal in
      record {
        mine = mine;
        first = record {
          table = links.within (seen_by p seat.chain).top links.top;
          complete = λ g low. (top_complete p own.plan seat.chain.seen own.legal g low).1;
        };
        later = begins-itself seat.chain.seen;
        once = tt;
        made = [];
        logged = logs_add_up.none mine;
        read = All-nil (λ pair. Contains [] (read_of pair));
        behind = All-nil (λ pair. IsBehind p seat (begun_by m seat) pair.0);
        held = λ k held behind.
            let (g, i, is, early) = behind in
            let from : (seen_by p seat.chain).top ≤ g =
            ((place_is p own.plan seat.chain.seen own.legal (seen_by p seat.chain).top k g i).0
            is).from in
            absurd (no-room (seen_by p seat.chain).top g i from early);
      }

  -- what a seat has seen of the tables is so later
  lasting : {before after : SeatOf} → IsMine m after → IsLater before after
      → Lasts p (seen_by p before.chain) (seen_by p after.chain)
  lasting {before} {after} mine later =
      subst (λ h. Lasts p (tables_at p before.chain.seen) (tables_at p h)) (sym later.seen.is)
      (seen_lasts p mine.chain.plan later.seen.later before.chain.seen
      (subst (IsLegal p) later.seen.is mine.chain.legal))

  -- the tables below the first one are complete still
  first-later : {before after : SeatOf} {first : ℕ} → IsMine m after → IsLater before after
      → IsFirstTable p before.chain first → IsFirstTable p after.chain first
  first-later mine later is_first = record {
    table = is_first.table;
    complete = λ g low. (lasting mine later).complete g (omega (arith, low, is_first.table))
        (is_first.complete g low);
  }

  -- a walk's place is there still
  place-later :
      {before after : SeatOf} → IsMine m after → IsLater before after → (first : ℕ) (place : Place)
      → IsPlace p (seen_by p before.chain) first place
      → IsPlace p (seen_by p after.chain) first place
  place-later mine later first End at = tt
  place-later mine later first (Slot g i) at = (at.0, (lasting mine later).installed g at.1, at.2)

  -- the log of a seat that has seen more
  logged-later : {before after : SeatOf} → IsMine m after → (later : IsLater before after)
      → HasLogged before after (calls_of before.chain.number (log_of later.seen.later))
  logged-later {before} {after} mine later = record {
    number = later.number;
    later = log_of later.seen.later;
    grown = ap log_of later.seen.is ∙ filter_map-append entry_of later.seen.later before.chain.seen;
    replayed = (log_is_replayed p mine.chain.plan after.chain.seen mine.chain.legal).replayed;
    own = refl;
  }

  -- what is behind a walk's place is so later
  behind-later :
      {before after : SeatOf} → IsMine m after → IsLater before after → (walk walk' : WalkOf)
      → walk'.first ≡ walk.first
      → (IsBefore walk'.place walk.place → ⊥) → (k : ℕ) → IsBehind p before walk k
      → IsBehind p after walk' k
  behind-later {before} {after} mine later walk walk' same onward k behind =
      let (g, i, is, early) = behind in (
        g,
        i,
        subst (λ first. place_of p after.chain.seen first k ≡ Some (g, i)) (sym same)
            (placed-later m.chain before.chain after.chain mine.chain later.seen walk.first k (g, i)
            is),
        before-later walk.place walk'.place g i onward early,
      )

  -- and if the map had it at the earlier moment, it was so then, where it came before the place
  -- that the walk had
  behind-before :
      {before after : SeatOf} → IsMine m before → IsMine m after → IsLater before after
      → (walk walk' : WalkOf)
      → walk'.first ≡ walk.first → IsFirstTable p before.chain walk.first → (k n : ℕ)
      → get (map_of_log (log before)) k ≡ Some n
      → (behind : IsBehind p after walk' k) → IsBefore (Slot behind.0 behind.1) walk.place
      → IsBehind p before walk k
  behind-before {before} {after} mine mine' later walk walk' same is_first k n held behind early =
      let (g, i, is, _) = behind in (
        g,
        i,
        placed-before m.chain mine.chain mine'.chain later.seen walk.first is_first k n g i held
            (subst (λ first. place_of p after.chain.seen first k ≡ Some (g, i)) same is),
        early,
      )

  -- ---- some steps more

  -- the pair that was shown, if there is one
  abbrev pairs : Option (ℕ × ℕ) → List (ℕ × ℕ)
  pairs None = []
  pairs (Some pair) = pair ∷ []

  -- it is behind the walk's new place
  shown-behind :
      (after : SeatOf) (walk walk' : WalkOf) → walk'.first ≡ walk.first → (found : Option (ℕ × ℕ))
      → IfSome found (λ pair. IsPassedOver p after.chain walk.first walk.place walk'.place pair.0)
      → All (λ pair. IsBehind p after walk' pair.0) (pairs found)
  shown-behind after walk walk' same None over = All-nil _
  shown-behind after walk walk' same (Some pair) (g, i, is, (late, early)) =
      All-cons (λ pair. IsBehind p after walk' pair.0) pair [] (
        g,
        i,
        subst (λ first. place_of p after.chain.seen first pair.0 ≡ Some (g, i)) (sym same) is,
        early,
      )
      (All-nil _)

  -- its key is another one than those shown before
  shown-once :
      {before after : SeatOf} → IsMine m after → IsLater before after
      → (walk walk' : WalkOf) (found : Option (ℕ × ℕ))
      → IfSome found (λ pair. IsPassedOver p after.chain walk.first walk.place walk'.place pair.0)
      → (shown : List (ℕ × ℕ))
      → All (λ pair. IsBehind p before walk pair.0) shown
      → IsDistinct (λ a b. a == b) (keys_of shown)
      → IsDistinct (λ a b. a == b) (keys_of (pairs found ++ shown))
  shown-once mine later walk walk' None over shown behind once = once
  shown-once {before} {after} mine later walk walk' (Some pair) (g, i, is, (late, early))
      shown behind once =
      IsDistinct-cons (λ a b. a == b) pair.0 (keys_of shown) (apart shown behind) once
    where
      differs : (k : ℕ) → IsBehind p before walk k → (pair.0 == k) ≡ false
      differs k (f, j, at, ahead) = ne_eqb pair.0 k (λ same.
          let there = placed-later m.chain before.chain after.chain mine.chain later.seen walk.first
          k (f, j) at in
          let here : place_of p after.chain.seen walk.first k ≡ Some (g, i) =
          subst (λ k. place_of p after.chain.seen walk.first k ≡ Some (g, i)) same is in
          let one = same-place (sym there ∙ here) in
          late (subst₂ (λ f j. IsBefore (Slot f j) walk.place) one.0 one.1 ahead))

      apart : (shown : List (ℕ × ℕ)) → All (λ pair. IsBehind p before walk pair.0) shown
          → AllByRecursion (λ k. (pair.0 == k) ≡ false) (keys_of shown)
      apart [] behind = tt
      apart (other ∷ shown) behind = (
        differs other.0 (All-head (λ pair. IsBehind p before walk pair.0) other shown behind),
        apart shown (All-tail (λ pair. IsBehind p before walk pair.0) other shown behind),
      )

  -- a key that was shown now, or before
  contains-now : (found : Option (ℕ × ℕ)) (shown : List (ℕ × ℕ)) (k : ℕ) → IsShown k found
      → Contains (keys_of (pairs found ++ shown)) k
  contains-now None shown k is = absurd is
  contains-now (Some pair) shown k is = (0, omega arith, is)

  contains-before : (found : Option (ℕ × ℕ)) (shown : List (ℕ × ℕ)) (k : ℕ)
      → Contains (keys_of shown) k → Contains (keys_of (pairs found ++ shown)) k
  contains-before None shown k has = has
  contains-before (Some pair) shown k has =
      Contains-append_right (pair.0 ∷ []) (keys_of shown) k has

  -- the walk has gone on, and its seat made these calls
  sofar-more :
      {before after : SeatOf} {walk : WalkOf} {shown : List (ℕ × ℕ)} (walk' : WalkOf)
      (found : Option (ℕ × ℕ)) {new : List (Call × Reply)}
      → SoFar m before walk shown → IsMine m after → IsLater before after → walk'.begun ≡ walk.begun
      → walk'.first ≡ walk.first
      → HasPassed p before.chain after.chain walk.first walk.place walk'.place found
      → HasLogged before after new
      → All (λ pair. Contains new (read_of pair)) (pairs found)
      → SoFar m after walk' (pairs found ++ shown)
  sofar-more {before} {after} {walk} {shown} walk' found {new}
      sofar mine later begun same passed logged read = record {
        mine = mine;
        first = subst (IsFirstTable p after.chain) (sym same) (first-later mine later sofar.first);
        later = subst (λ begun. IsBeginning begun.chain.seen after.chain.seen) (sym begun)
            (begins-more sofar.later later.seen);
        once = shown-once mine later walk walk' found passed.shows shown sofar.behind sofar.once;
        made = new ++ sofar.made;
        logged = subst (λ begun. HasLogged begun after (new ++ sofar.made)) (sym begun)
            (logs_add_up.more sofar.logged logged);
        read = All-append Read (pairs found) shown
            (All-weaker (λ pair. Contains new (read_of pair)) Read
            (λ pair. Contains-append_left new sofar.made (read_of pair)) (pairs found) read)
            (All-weaker (λ pair. Contains sofar.made (read_of pair)) Read
            (λ pair. Contains-append_right new sofar.made (read_of pair)) shown sofar.read);
        behind = All-append Behind (pairs found) shown
            (shown-behind after walk walk' same found passed.shows)
            (All-weaker (λ pair. IsBehind p before walk pair.0) Behind
            (λ pair. behind-later mine later walk walk' same passed.onward pair.0)
            shown sofar.behind);
        held = λ k throughout behind.
            let begun-log = log-begun sofar.later in
            let later-log = log-begun later.seen in
            let all = subst (λ begun. HeldThrough (log begun) (log after) k) begun throughout in
            let here = all (log before) begun-log later-log in
            let (g, i, is, early) = behind in
            elim (before-or-not g i walk.place) [
              | inl before ↦
                  contains-before found shown k (sofar.held k (held-until k all later-log)
                  (behind-before sofar.mine mine later walk walk' same sofar.first k here.0 here.1
                  (g, i, is, early) before))
              | inr late ↦
                  contains-now found shown k (passed.all k (held-since k all begun-log) (
                    g,
                    i,
                    subst (λ first. place_of p after.chain.seen first k ≡ Some (g, i)) same is,
                    (late, early),
                  ))
            ];
      }
    where
      Read : ℕ × ℕ → Type 0
      Read pair = Contains (new ++ sofar.made) (read_of pair)

      Behind : ℕ × ℕ → Type 0
      Behind pair = IsBehind p after walk' pair.0

  -- a walk that rests passes over nothing
  sofar : {seat : SeatOf} {walk : WalkOf} {shown : List (ℕ × ℕ)} → IsUnderway m seat walk shown
      → SoFar m seat walk shown
  sofar (Begun mine) = sofar-begun mine
  sofar (Rested {walk = walk} underway mine later) =
      sofar-more walk None (sofar underway) mine later refl refl
      (passed-still p walk.first walk.place) (logged-later mine later) (All-nil _)
  sofar (Showed {walk' = walk'} {pair = pair} underway mine read walked) =
      let New = λ (found : ℕ × ℕ). Contains (hit (Some pair) ++ read.misses) (read_of found) in
      let here : Contains (hit (Some pair) ++ read.misses) (read_of pair) =
      (0, omega arith, refl) in
      sofar-more walk' (Some pair) (sofar underway)
      mine walked.later walked.begun walked.first walked.passed read.logged
      (All-cons New pair [] here (All-nil New))
  sofar (Passed {walk' = walk'} underway mine walked) =
      sofar-more walk' None (sofar underway)
      mine walked.later walked.begun walked.first walked.passed (logged-later mine walked.later)
      (All-nil _)

pub whole_walk : WholeWalk
whole_walk m seat walk shown underway end =
    let p = m.chain.shape in
    let all = sofar m underway in
    let own = all.mine.chain in
    record {
      once = all.once;
      made = all.made;
      logged = all.logged;
      read = all.read;
      held = λ k held.
          let here = held (log seat) (log-begun all.later) (begins-itself (log seat)) in
          let at =
          held_has_place p own.plan seat.chain.seen own.legal walk.first k here.0 all.first.table
          all.first.complete
          (ap (λ m. get m k) (sym (log_is_replayed p own.plan seat.chain.seen own.legal).map)
          ∙ here.1) in
          all.held k held (
            at.0.0,
            at.0.1,
            at.1,
            subst (IsBefore (Slot at.0.0 at.0.1)) (sym end) tt,
          );
    }

pub walk_lasts : WalkLasts
walk_lasts = record {
  later = λ worked.
      let grown = worked.steps.1.grown in
      record { number = grown.number; seen = record { later = grown.later; is = grown.seen } };
  lasts = λ {m} {before} {after} {walk} was mine later. record {
    chain = was.chain;
    later = record {
      number = later.number ∙ was.later.number;
      seen =
          begins-more was.later.seen later.seen;
    };
    first = first-later m mine later was.first;
    place = place-later m mine later walk.first walk.place was.place;
  };
}

-- a walk that has just begun is its seat's
pub begun-walk : (m : MapOf) {seat : SeatOf} → IsMine m seat → IsWalkOf m seat (begun_by m seat)
begun-walk m {seat} mine =
    let own = mine.chain in
    let p = m.chain.shape in
    let first = (sofar-begun m mine).first in
    let some : 0 < size_of p (seen_by p seat.chain).top = pow_pos _ in
    record {
      chain = own.at;
      later = record { number = refl; seen = begins-itself seat.chain.seen };
      first = first;
      place = (
        le_refl (seen_by p seat.chain).top,
        (linked p own.plan seat.chain.seen own.legal).top,
        some,
      );
    }

-- a walk that has just begun with another slot of that table is its seat's too
pub begun-at :
    (m : MapOf) {seat : SeatOf} → IsMine m seat → (slot : ℕ)
    → slot < size_of m.chain.shape (seen_by m.chain.shape seat.chain).top
    → IsWalkOf m seat (record (begun_by m seat) {
      place = Slot (seen_by m.chain.shape seat.chain).top slot;
    })
begun-at m mine slot within =
    let was = begun-walk m mine in
    record {
      chain = was.chain;
      later = was.later;
      first = was.first;
      place = (was.place.0, was.place.1, within);
    }

-- ---- one call of a walk

-- reads of keys that the map hadn't count nothing
misses-net : (misses : List (Call × Reply)) → All IsMiss misses → net_of misses ≡ pos 0
misses-net [] missed = refl
misses-net (made ∷ misses) missed =
    let miss = All-head IsMiss made misses missed in
    let none : net_of_call made.0 made.1 ≡ pos 0 =
    ap (λ (made : Call × Reply). net_of_call made.0 made.1) miss.1 in
    let rest = misses-net misses (All-tail IsMiss made misses missed) in
    omega (arith, ints, none, rest)

-- nor does the one that found a number
pub hit-net :
    (shown : Option (ℕ × ℕ)) (misses : List (Call × Reply)) → All IsMiss misses
    → net_of (hit shown ++ misses) ≡ pos 0
hit-net None misses missed = misses-net misses missed
hit-net (Some pair) misses missed = let rest = misses-net misses missed in omega (arith, ints, rest)

module _ (m : MapOf) {before after : SeatOf} (mine : IsMine m before)
    (same : after.count ≡ before.count) where
  -- the seat is the map's still
  pub gone-mine :
      {first : ℕ} {from to : Place} {shown : Option (ℕ × ℕ)} {most : ℕ}
      → HasGone m.chain.shape before.chain after.chain first from to shown most → IsMine m after
  gone-mine {shown = shown} gone = uncounted-mine mine (gone.made 0) same
      (hit-net shown gone.misses gone.missed)

  gone-later :
      {first : ℕ} {from to : Place} {shown : Option (ℕ × ℕ)} {most : ℕ}
      → HasGone m.chain.shape before.chain after.chain first from to shown most
      → IsLater before after
  gone-later gone = let grown = (gone.made 0).grown in
      record { number = grown.number; seen = record { later = grown.later; is = grown.seen } }

  -- it has made reads alone
  pub gone-read :
      {first : ℕ} {from to : Place} {shown : Option (ℕ × ℕ)} {most : ℕ}
      → HasGone m.chain.shape before.chain after.chain first from to shown most
      → HasRead before after shown
  gone-read gone = record {
    misses = gone.misses;
    missed = gone.missed;
    logged =
        logged mine (gone.made 0);
  }

  -- the walk has gone on
  pub gone-walked :
      {begun : SeatOf} {first : ℕ} {from to : Place} {shown : Option (ℕ × ℕ)} {most : ℕ}
      → HasGone m.chain.shape before.chain after.chain first from to shown most
      → HasWalked m.chain.shape before after (record { begun = begun; first = first; place = from })
      (record { begun = begun; first = first; place = to }) shown
  gone-walked gone = record {
    later = gone-later gone;
    begun = refl;
    first = refl;
    passed =
        gone.passed;
  }

  -- and is the seat's still
  pub gone-walk :
      {begun : SeatOf} {first : ℕ} {from to : Place} {shown : Option (ℕ × ℕ)} {most : ℕ}
      → IsWalkOf m before (record { begun = begun; first = first; place = from })
      → HasGone m.chain.shape before.chain after.chain first from to shown most
      → IsPlace m.chain.shape (seen_by m.chain.shape after.chain) first to
      → IsWalkOf m after (record { begun = begun; first = first; place = to })
  gone-walk was gone place =
      let later = gone-later gone in
      record {
        chain = was.chain;
        later = record {
          number = later.number ∙ was.later.number;
          seen =
              begins-more was.later.seen later.seen;
        };
        first = first-later m (gone-mine gone) later was.first;
        place = place;
      }

-- one more call of a walk that is underway
pub underway-on :
    {m : MapOf} {before after : SeatOf} {walk walk' : WalkOf} (pairs : List (ℕ × ℕ))
    (shown : Option (ℕ × ℕ)) → IsMine m after → HasRead before after shown
    → HasWalked m.chain.shape before after walk walk' shown → IsUnderway m before walk pairs
    → IsUnderway m after walk' (with_shown shown pairs)
underway-on pairs None own read walked underway = Passed underway own walked
underway-on pairs (Some pair) own read walked underway = Showed underway own read walked

-- what such a call promises, by what its steps on the chain did
pub walked-up-to :
    {m map : MapOf} {before was after : SeatOf} → m ≡ map → before ≡ was → IsMine map was
    → after.count ≡ before.count
    → (bound : Place) (at : WalkPlace) (to : Place) (shown : Option (ℕ × ℕ))
    → HasGone m.chain.shape before.chain after.chain at.first at.place to shown
    (passing_steps m.chain.shape at.place to)
    → IsPlace m.chain.shape (seen_by m.chain.shape after.chain) at.first to
    → IfSome shown (λ pair. slots_ahead m.chain.shape to < slots_ahead m.chain.shape at.place)
    → (IsBefore bound to → to ≡ at.place) → (shown ≡ None → HasReached bound to)
    → (begun : SeatOf) → IsWalkOf map was (walk_from begun at)
    → HasWalkedUpTo map bound was after (walk_from begun at)
    (walk_from begun (record { first = at.first; place = to })) shown
walked-up-to {m} {map} {before} {was} {after} one seat mine same bound at to shown gone place ahead
    within ended begun =
    subst₂ (λ map was. IsMine map was → IsWalkOf map was (walk_from begun at)
    → HasWalkedUpTo map bound was after (walk_from begun at)
    (walk_from begun (record { first = at.first; place = to })) shown) one seat
    (λ mine is.
    let own = gone-mine m {before = before} {after = after} mine same gone in
    let read = gone-read m {before = before} {after = after} mine same gone in
    let walked = gone-walked m {before = before} {after = after} mine same {begun = begun} gone in
    record {
      read = read;
      walked = walked;
      within = within;
      ended = ended;
      underway = λ pairs. underway-on pairs shown own read walked;
      worked = λ key. worked-uncounted {map = m} {call = Get key} {before = before}
          {after = after} (gone.made key) same;
      ahead = ahead;
      is_walk = gone-walk m {before = before} {after = after} mine same is gone place;
      own = own;
    }) mine
