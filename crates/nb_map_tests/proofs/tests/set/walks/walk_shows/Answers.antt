use Rattle.std.proofs.Common.{◌≡◌, ◌∙◌, ◌++◌, ◌||◌, ◌==◌, ℕ, true, false, List, [], ◌∷◌, All, Bool, ap, ap₂, refl, subst, sym}
use Rattle.std.specs.List as std
use Rattle.std.specs.List.{list_any}
use Rattle.std.proofs.lemmas.List.{append-nil, append_assoc}
use Rattle.nb_set.specs.Log.{Contains}
use Rattle.nb_set.specs.Sets.{HasLogged, IsMine, SeatOf, SetOf, log}
use Rattle.nb_set.specs.Walks.{HasShownAll, IsLater, WalkOf}
use Rattle.nb_set.proofs.Theorems.{logs_add_up, walk_lasts, whole_walk}
use Rattle.nb_map_tests.proofs.tests.set.walks.walk_shows.Invariants.{HasGone}
use Rattle.nb_map_tests.proofs.tests.set.walks.walk_shows.Goals as goal

-- what a walk has shown from its beginning it has shown from before that, where the seat's calls
-- between were none
from-before :
    {before begun ended : SeatOf} {shown : List ℕ} → HasLogged before begun []
    → HasShownAll begun ended shown → HasShownAll before ended shown
from-before {before} {begun} {ended} {shown} quiet all = record {
  once = all.once;
  made = all.made ++ [];
  logged = logs_add_up.more quiet all.logged;
  seen = subst (λ made. All (λ k. std.Contains made (Contains k, true)) shown)
      (sym (append-nil all.made)) all.seen;
  held = λ k held. all.held k (λ here since till. held here (record {
    later = since.later ++ quiet.later;
    is = since.is ∙ ap (λ log. since.later ++ log) quiet.grown
        ∙ sym (append_assoc since.later quiet.later (log before));
  }) till);
}

-- a walk goes on past another call of its seat
past :
    {set : SetOf} {before seat : SeatOf} {walk : WalkOf} {sought : ℕ} {found : Bool}
    (after : SeatOf)
    → IsMine set after → IsLater seat after → HasGone set before seat walk sought found
    → HasGone set before after walk sought found
past {set} {before} {seat} {walk} after own later gone = record {
  own = own;
  is_walk = walk_lasts.lasts {set = set} {before = seat} {after = after} {walk = walk} gone.is_walk
      own later;
  quiet = gone.quiet;
  keys = gone.keys;
  shown = walk_lasts.shown gone.shown own later;
  of_them = gone.of_them;
}

or-swap : (a b : Bool) → (a || b) ≡ (b || a)
or-swap true true = refl
or-swap true false = refl
or-swap false true = refl
or-swap false false = refl

pub loop-key-init : goal.loop-key-init
loop-key-init c = record {
  own = c.walk-walk.ensures.top.own;
  is_walk = c.walk-walk.ensures.is_walk;
  quiet = subst (λ seat. HasLogged c.args.seat.now seat []) (sym c.walk-walk.ensures.begun)
      c.walk-walk.ensures.top.logged;
  keys = [];
  shown = c.walk-walk.ensures.shown;
  of_them = refl;
}

pub loop-key-preserved : goal.loop-key-preserved
loop-key-preserved c =
    let set = c.args.set.now in
    let was = c.loop-key.invariant in
    let key = c.in-Some.key in
    past c.next_key-in-Some.new.seat c.next_key-in-Some.ensures.own
    (walk_lasts.later set (Contains 0) (c.next_key-in-Some.ensures.worked 0))
    (past c.walk-beside.new.seat c.walk-beside.ensures.top.own c.walk-beside.ensures.top.later
    (past c.generation.new.seat c.generation.ensures.own c.generation.ensures.later
    (past c.size_estimate.new.seat c.size_estimate.ensures.own c.size_estimate.ensures.later
    (past c.contains.new.seat c.contains.ensures.own
    (walk_lasts.later set (Contains c.args.sought) c.contains.ensures.worked) (record {
      own = c.next_key.ensures.own;
      is_walk = c.next_key.ensures.is_walk;
      quiet = subst (λ seat. HasLogged c.args.seat.now seat []) (sym c.next_key.ensures.begun)
          was.quiet;
      keys = key ∷ was.keys;
      shown = c.in-Some.ensures.shown was.keys was.shown;
      of_them =
          ap₂ (λ found is. found || is) was.of_them c.eq-found.ensures
          ∙ or-swap (list_any (λ k. k == c.args.sought) was.keys) (key == c.args.sought);
    })))))

pub returns : goal.returns
returns c =
    let was = c.loop-key.invariant in
    let all = whole_walk c.args.set.now c.next_key.new.seat c.next_key.new.walk was.keys
    (c.in_default.ensures.shown was.keys was.shown) (c.in_default.ensures.ended refl) in
    record {
      shown = (
        was.keys,
        from-before (subst (λ seat. HasLogged c.args.seat.now seat [])
            (sym c.next_key.ensures.begun) was.quiet) all,
        was.of_them,
      );
      own = c.next_key.ensures.own;
    }
