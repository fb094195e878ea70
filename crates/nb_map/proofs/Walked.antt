-- How a walk goes on: from place to place, and which keys it passes over.
use Rattle.std.proofs.Common.{◌≡◌, ◌∙◌, ℕ, zero, suc, ◌+◌, ◌==◌, ◌≤◌, ◌<◌, ◌⊎◌, Bool, true, false, cond, List, [], ◌∷◌, ◌++◌, Option, Some, None, ap, sym, subst, refl, inl, inr, arith}
use Rattle.std.specs.Option.{IfSome}
use Rattle.std.specs.FinMap.{get}
use Rattle.std.proofs.lemmas.List.{append_assoc}
use Rattle.std.proofs.lemmas.List.Elements.{All-append, All-nil, All-weaker, filter_map-append}
use Rattle.nb_core.specs.History.{IsLegal}
use Rattle.nb_core.specs.Log.{Entry, HeldThrough, IsBeginning, IsReplayed, calls_of, entry_of, log_of, map_of_log, reply_at, reply_of}
use Rattle.nb_core.specs.Laws.{AreLinked, IsFirstPlace}
use Rattle.nb_core.specs.Meaning.{place_of}
use Rattle.nb_core.specs.Plans.{Plan, size_of}
use Rattle.nb_core.specs.Tables.{IsInstalled, Tables}
use Rattle.nb_core.specs.declared.calls.Call.{Call}
use Rattle.nb_core.specs.declared.calls.Call.TheVariants.{Get}
use Rattle.nb_core.specs.declared.calls.Reply.{Reply}
use Rattle.nb_core.specs.declared.events.Event.{Event}
use Rattle.nb_core.specs.declared.events.Event.TheVariants.{Claim, Install}
use Rattle.nb_core.specs.declared.states.KeyState.TheVariants.{Claimed}
use Rattle.nb_core.proofs.Theorems.{held_has_place, linked, log_is_replayed, one_place, place_is}
use Rattle.nb_table.specs.Chains.{ChainOf, IsOwn, SeenBy, seen_by}
use Rattle.nb_map.specs.Logs.{as_replied}
use Rattle.nb_map.specs.Calling.{HasMade, MayMake}
use Rattle.nb_map.specs.inside.Walking.{HasGone}
use Rattle.nb_map.specs.Walks.{HasPassed, IsBefore, IsBetween, IsFirstTable, IsMiss, IsPassedOver, hit}
use Rattle.nb_map.specs.declared.steps.walk.Place.{Place}
use Rattle.nb_map.specs.declared.steps.walk.Place.TheVariants.{Slot, End}
use Rattle.nb_map.proofs.Counted.{calls-later}
use Rattle.nb_map.proofs.Made.{begins, begins-more, made-more, made-none, made-own, made-stays, made-within}

-- ---- places

-- a slot comes before a place, or it doesn't
pub before-or-not :
    (g i : ℕ) (place : Place) → IsBefore (Slot g i) place ⊎ (IsBefore (Slot g i) place → ⊥)
before-or-not g i End = inl tt
before-or-not g i (Slot f j) = grind arith

-- what doesn't come before a place doesn't come before an earlier one
not-before :
    (from mid : Place) (g i : ℕ) → (IsBefore mid from → ⊥) → (IsBefore (Slot g i) mid → ⊥)
    → IsBefore (Slot g i) from → ⊥
not-before End End g i onward late early = late tt
not-before End (Slot f j) g i onward late early = onward tt
not-before (Slot e k) End g i onward late early = late tt
not-before (Slot e k) (Slot f j) g i onward late early = grind (arith, onward, late, early)

-- what comes before a place comes before a later one
pub before-later :
    (mid to : Place) (g i : ℕ) → (IsBefore to mid → ⊥) → IsBefore (Slot g i) mid
    → IsBefore (Slot g i) to
before-later mid End g i onward early = tt
before-later End (Slot f j) g i onward early = absurd (onward tt)
before-later (Slot e k) (Slot f j) g i onward early = grind (arith, onward, early)

-- no place comes before itself
onward-none : (place : Place) → IsBefore place place → ⊥
onward-none End early = early
onward-none (Slot g i) early = grind (arith, early)

onward-more :
    (from mid to : Place) → (IsBefore mid from → ⊥) → (IsBefore to mid → ⊥) → IsBefore to from → ⊥
onward-more from mid End first then early = early
onward-more from mid (Slot g i) first then early = not-before from mid g i first then early

-- between a slot and the next one of its table there is just the slot
one-between : (g i f j : ℕ) → IsBetween (Slot g i) (Slot g (i + 1)) f j → (f ≡ g) × (j ≡ i)
one-between g i f j between = grind (arith, between)

-- ---- moments

-- what is a beginning of a history has a beginning of its log
pub log-begun : {h h' : List Event} → IsBeginning h h' → IsBeginning (log_of h) (log_of h')
log-begun begun = record {
  later = log_of begun.later;
  is = ap log_of begun.is
      ∙ filter_map-append entry_of begun.later _;
}

-- a key that the map has all the while it has for a part of it
pub held-until :
    {x y z : List Entry} (k : ℕ) → HeldThrough x z k → IsBeginning y z → HeldThrough x y k
held-until k held less log a b = held log a (begins-more b less)

pub held-since :
    {x y z : List Entry} (k : ℕ) → HeldThrough x z k → IsBeginning x y → HeldThrough y z k
held-since k held later log a b = held log (begins-more later a) b

-- the first place of a key, in words of the tables
placed :
    (chain : ChainOf) (seat : SeenBy) → IsOwn chain seat → (first k g i : ℕ)
    → place_of chain.shape seat.seen first k ≡ Some (g, i)
    → IsFirstPlace chain.shape (seen_by chain.shape seat) first k g i
placed chain seat own first k g i is =
    (place_is chain.shape own.plan seat.seen own.legal first k g i).0 is

-- A key has its first place for ever,
pub placed-later :
    (chain : ChainOf) (before after : SeenBy) → IsOwn chain after
    → IsBeginning before.seen after.seen → (first k : ℕ) (at : ℕ × ℕ)
    → place_of chain.shape before.seen first k ≡ Some at → place_of chain.shape after.seen first k
    ≡ Some at
placed-later chain before after own begun first k at is =
    ap (λ h. place_of chain.shape h first k) begun.is
    ∙ one_place chain.shape own.plan begun.later before.seen
    (subst (IsLegal chain.shape) begun.is own.legal) first k at is

-- and has it at each moment at which the map has the key.
pub placed-before :
    (chain : ChainOf) {before after : SeenBy} → IsOwn chain before → IsOwn chain after
    → IsBeginning before.seen after.seen
    → (first : ℕ) → IsFirstTable chain.shape before first → (k n g i : ℕ)
    → get (map_of_log (log_of before.seen)) k ≡ Some n
    → place_of chain.shape after.seen first k ≡ Some (g, i)
    → place_of chain.shape before.seen first k ≡ Some (g, i)
placed-before chain {before} {after} own own' begun first is_first k n g i held is =
    let p = chain.shape in
    let here =
    held_has_place p own.plan before.seen own.legal first k n is_first.table is_first.complete
    (ap (λ m. get m k) (sym (log_is_replayed p own.plan before.seen own.legal).map) ∙ held) in
    here.1 ∙ sym (placed-later chain before after own' begun first k here.0 here.1) ∙ is

-- ---- one way after another

over-earlier :
    (p : Plan) (seat : SeenBy) (first : ℕ) (from mid to : Place) → (IsBefore mid from → ⊥)
    → (shown : Option (ℕ × ℕ))
    → IfSome shown (λ pair. IsPassedOver p seat first mid to pair.0)
    → IfSome shown (λ pair. IsPassedOver p seat first from to pair.0)
over-earlier p seat first from mid to onward None over = tt
over-earlier p seat first from mid to onward (Some pair) (g, i, is, (late, early)) =
    (g, i, is, (not-before from mid g i onward late, early))

-- a walk that stays at its place passes over nothing
pub passed-still :
    (p : Plan) {before after : SeenBy} (first : ℕ) (place : Place)
    → HasPassed p before after first place place None
passed-still p first place = record {
  onward = onward-none place;
  shows = tt;
  all = λ k held over. let (g, i, is, (late, early)) = over in late early;
}

module _ (chain : ChainOf) where
  abbrev p : Plan
  p = chain.shape

  pub passed-more :
      {before then after : SeenBy} → IsOwn chain then → IsOwn chain after
      → IsBeginning before.seen then.seen
      → IsBeginning then.seen after.seen → (first : ℕ) → IsFirstTable p then first
      → (from mid to : Place) (shown : Option (ℕ × ℕ))
      → HasPassed p before then first from mid None → HasPassed p then after first mid to shown
      → HasPassed p before after first from to shown
  passed-more {before} {then} {after} own own' begun begun' first is_first from mid to shown a b =
      record {
        onward = onward-more from mid to a.onward b.onward;
        shows = over-earlier p after first from mid to a.onward shown b.shows;
        all = λ k held over.
            let (g, i, is, (late, early)) = over in
            let here = held (log_of then.seen) (log-begun begun) (log-begun begun') in
            elim (before-or-not g i mid) [
              | inl before ↦
                  absurd
                  (a.all k (held-until k held (log-begun begun')) (
                    g,
                    i,
                    placed-before chain own own' begun' first is_first k here.0 g i here.1 is,
                    (late, before),
                  ))
              | inr behind ↦ b.all k (held-since k held (log-begun begun))
                  (g, i, is, (behind, early))
            ];
      }

  -- the same, where the first of two ways shows a key, and the second none
  passed-then :
      {before then after : SeenBy} → IsOwn chain then → IsOwn chain after
      → IsBeginning before.seen then.seen
      → IsBeginning then.seen after.seen → (first : ℕ) → IsFirstTable p then first
      → (from mid to : Place) (shown : Option (ℕ × ℕ))
      → HasPassed p before then first from mid shown → HasPassed p then after first mid to None
      → HasPassed p before after first from to shown
  passed-then {before} {then} {after} own own' begun begun' first is_first from mid to shown a b =
      record {
        onward = onward-more from mid to a.onward b.onward;
        shows = over-later shown a.shows;
        all = λ k held over.
            let (g, i, is, (late, early)) = over in
            let here = held (log_of then.seen) (log-begun begun) (log-begun begun') in
            elim (before-or-not g i mid) [
              | inl before ↦
                  a.all k (held-until k held (log-begun begun')) (
                    g,
                    i,
                    placed-before chain own own' begun' first is_first k here.0 g i here.1 is,
                    (late, before),
                  )
              | inr behind ↦ absurd (b.all k (held-since k held (log-begun begun))
                  (g, i, is, (behind, early)))
            ];
      }
    where
      over-later : (shown : Option (ℕ × ℕ))
          → IfSome shown (λ pair. IsPassedOver p then first from mid pair.0)
          → IfSome shown (λ pair. IsPassedOver p after first from to pair.0)
      over-later None over = tt
      over-later (Some pair) (g, i, is, (late, early)) = (
        g,
        i,
        placed-later chain then after own' begun' first pair.0 (g, i) is,
        (late, before-later mid to g i b.onward early),
      )

  -- ---- one slot

  -- a slot that is the first place of no key
  pub passed-slot :
      {before after : SeenBy} (first g i : ℕ)
      → ((k : ℕ) → place_of p after.seen first k ≡ Some (g, i) → ⊥)
      → HasPassed p before after first (Slot g i) (Slot g (i + 1)) None
  passed-slot {after = after} first g i none = record {
    onward = λ early. grind (arith, early);
    shows = tt;
    all = λ k held over.
        let (f, j, is, (late, early)) = over in
        let at = one-between g i f j (late, early) in
        none k (is ∙ ap (λ f. Some (f, j)) at.0 ∙ ap (λ j. Some (g, j)) at.1);
  }

  -- two keys with one place are one
  same-key :
      (seat : SeenBy) → IsOwn chain seat → (first j k g i : ℕ)
      → place_of p seat.seen first j ≡ Some (g, i)
      → place_of p seat.seen first k ≡ Some (g, i) → j ≡ k
  same-key seat own first j k g i a b =
      let one = placed chain seat own first j g i a in
      let other = placed chain seat own first k g i b in
      let both : Claimed j ≡ Claimed k = sym one.is ∙ other.is in
      cc

  -- the first place of a key that was read and found
  pub passed-found :
      {before after : SeenBy} → IsOwn chain after → (first g i k n : ℕ)
      → place_of p after.seen first k ≡ Some (g, i)
      → HasPassed p before after first (Slot g i) (Slot g (i + 1)) (Some (k, n))
  passed-found {after = after} own first g i k n is = record {
    onward = λ early. grind (arith, early);
    shows = (g, i, is, (onward-none (Slot g i), inr (refl, omega arith)));
    all = λ j held over.
        let (f, e, at, (late, early)) = over in
        let here = one-between g i f e (late, early) in
        same-key after own first k j g i is (at ∙ ap (λ f. Some (f, e)) here.0
        ∙ ap (λ e. Some (g, e)) here.1);
  }

  -- the one call of a seat in what is new in a replayed log replies as the map then does
  replied-then :
      (s : ℕ) (c : Call) (r : Reply) (later first : List Entry) → calls_of s later ≡ (c, r) ∷ []
      → IsReplayed (later ++ first)
      → (log : List Entry) × IsBeginning first log × IsBeginning log (later ++ first)
      × (r ≡ reply_of c (map_of_log log))
  replied-then s c r [] first made replayed = absurd cc
  replied-then s c r (entry ∷ rest) first made replayed =
      one (entry.seat == s) made (λ made. replied-then s c r rest first made replayed.1)
    where
      whole : List Entry
      whole = rest ++ first

      first-of : List (Call × Reply) → Call × Reply
      first-of [] = (c, r)
      first-of (made ∷ rest) = made

      Then : List Entry → Type 0
      Then all = (log : List Entry) × IsBeginning first log × IsBeginning log all
          × (r ≡ reply_of c (map_of_log log))

      one : (b : Bool) → cond b ((entry.call, entry.reply) ∷ calls_of s rest) (calls_of s rest)
          ≡ (c, r) ∷ []
          → (calls_of s rest ≡ (c, r) ∷ [] → Then whole) → Then (entry ∷ whole)
      one true made further =
          let call : entry.call ≡ c = ap (λ made. (first-of made).0) made in
          let reply : entry.reply ≡ r = ap (λ made. (first-of made).1) made in (
            whole,
            record { later = rest; is = refl },
            record { later = entry ∷ []; is = refl },
            sym reply ∙ replayed.0 ∙ ap (λ c. reply_of c (map_of_log whole)) call,
          )
      one false made further =
          let (log, begun, more, is) = further made in
          (log, begun, begins-more more (record { later = entry ∷ []; is = refl }), is)

  -- the first place of a key that was read and not found
  pub passed-missed :
      {before after : SeenBy} {most : ℕ} → IsOwn chain before → IsOwn chain after
      → (first g i k : ℕ) → place_of p after.seen first k ≡ Some (g, i)
      → HasMade p (Get k) before after (as_replied (Get k) None) most
      → HasPassed p before after first (Slot g i) (Slot g (i + 1)) None
  passed-missed {before} {after} own own' first g i k is read = record {
    onward = λ early. grind (arith, early);
    shows = tt;
    all = λ j held over.
        let (f, e, at, (late, early)) = over in
        let here = one-between g i f e (late, early) in
        let same = same-key after own' first j k g i (at ∙ ap (λ f. Some (f, e)) here.0
        ∙ ap (λ e. Some (g, e)) here.1) is in
        missed (subst (HeldThrough (log_of before.seen) (log_of after.seen)) same held);
  }
    where
      log-is : log_of after.seen ≡ log_of read.grown.later ++ log_of before.seen
      log-is = ap log_of read.grown.seen ∙ filter_map-append entry_of read.grown.later before.seen

      missed : HeldThrough (log_of before.seen) (log_of after.seen) k → ⊥
      missed held =
          let replayed = (log_is_replayed p own'.plan after.seen own'.legal).replayed in
          let (log, begun, more, reply) =
          replied-then before.number (Get k) (reply_at (Get k) None) (log_of read.grown.later)
          (log_of before.seen) (calls-later read)
          (subst IsReplayed log-is replayed) in
          let there = held log begun (subst (IsBeginning log) (sym log-is) more) in
          let none : None ≡ get (map_of_log log) k = ap (λ (r : Reply). r.before) reply in
          let some : get (map_of_log log) k ≡ Some there.0 = there.1 in
          cc

  -- ---- the end of a table

  -- no key has its first place behind a table's last slot, and before the next table
  pub passed-next :
      {before after : SeenBy} → IsOwn chain after → (first g : ℕ)
      → HasPassed p before after first (Slot g (size_of p g)) (Slot (g + 1) 0) None
  passed-next {after = after} own first g = record {
    onward = λ early. grind (arith, early);
    shows = tt;
    all = λ k held over.
        let (f, j, is, (late, early)) = over in
        let at = placed chain after own first k f j is in
        let near : j < size_of p f = at.slot.1 in
        let same : f ≡ g = grind (arith, late, early) in
        let near' : j < size_of p g = subst (λ f. j < size_of p f) same near in
        grind (arith, late, early, near', same);
  }

  -- the table below one that is there is there
  pub installed-under : (t : Tables) → AreLinked p t → (g f : ℕ) → g ≤ f → IsInstalled t f
      → IsInstalled t g
  installed-under t links zero f below installed = tt
  installed-under t links (suc g) zero below installed = absurd (omega (arith, below))
  installed-under t links (suc g) (suc f) below installed = elim (same-or-less g f below) [
    | inl same ↦ subst (λ n. IsInstalled t (suc n)) (sym same) installed
    | inr less ↦ installed-under t links (suc g) f less (links.before f installed)
  ]
    where
      same-or-less : (g f : ℕ) → suc g ≤ suc f → (g ≡ f) ⊎ (suc g ≤ f)
      same-or-less g f below = grind (arith, below)

  -- and where there is no next table, none has it at all
  pub passed-end :
      {before after : SeenBy} → IsOwn chain after → (first g : ℕ)
      → (IsInstalled (seen_by p after) (suc g) → ⊥)
      → HasPassed p before after first (Slot g (size_of p g)) End None
  passed-end {after = after} own first g last = record {
    onward = λ early. early;
    shows = tt;
    all = λ k held over.
        let (f, j, is, (late, early)) = over in
        let at = placed chain after own first k f j is in
        let links = linked p own.plan after.seen own.legal in
        elim (where-is f) [
          | inl low ↦ late (inl low)
          | inr (inl same) ↦ late (inr (same, subst (λ f. j < size_of p f) same at.slot.1))
          | inr (inr high) ↦ last (installed-under (seen_by p after) links (suc g) f high
              (links.claimed f j k at.slot at.is))
        ];
  }
    where
      where-is : (f : ℕ) → (f < g) ⊎ ((f ≡ g) ⊎ (suc g ≤ f))
      where-is f = grind arith

  -- ---- steps

  -- a read of one key may make what a read of another may
  pub made-as :
      {before after : SeenBy} {made : List (Call × Reply)} {most : ℕ} (k k' : ℕ)
      → HasMade p (Get k) before after made most
      → HasMade p (Get k') before after made most
  made-as {before} {after} k k' made = record {
    own = made.own;
    count = made.count;
    grown = made.grown;
    calls = made.calls;
    may = All-weaker (MayMake p before.seen after.seen (Get k))
        (MayMake p before.seen after.seen (Get k')) may made.own made.may;
    counted = made.counted;
    few = made.few;
  }
    where
      may : (e : Event) → MayMake p before.seen after.seen (Get k) e
          → MayMake p before.seen after.seen (Get k') e
      may (Claim s g i q) claimed = (
        claimed.0,
        elim claimed.1 [
          | inl below ↦ inl below
          | inr own ↦ absurd (let never : true ≡ false = own.1 in cc)
        ],
      )
      may (Install s g q) installed = absurd (let never : true ≡ false = installed.1 in cc)
      may e made = tt

  -- more steps may be allowed than were made
  pub gone-within :
      {before after : SeenBy} {first : ℕ} {from to : Place} {shown : Option (ℕ × ℕ)}
      (most most' : ℕ) → most ≤ most'
      → HasGone p before after first from to shown most
      → HasGone p before after first from to shown most'
  gone-within most most' below gone = record {
    misses = gone.misses;
    missed = gone.missed;
    made = λ k. made-within most most' below (gone.made k);
    passed = gone.passed;
  }

  pub gone-none : (seat : SeenBy) → IsOwn chain seat → (first : ℕ) (place : Place)
      → HasGone p seat seat first place place None 0
  gone-none seat own first place = record {
    misses = [];
    missed = All-nil IsMiss;
    made = λ k. made-none chain (Get k) seat own;
    passed = passed-still p first place;
  }

  -- steps that make no read
  pub gone-unread :
      {before after : SeenBy} {first : ℕ} {from to : Place} {most : ℕ}
      → ((k : ℕ) → HasMade p (Get k) before after [] most)
      → HasPassed p before after first from to None → HasGone p before after first from to None most
  gone-unread made passed = record {
    misses = [];
    missed = All-nil IsMiss;
    made = made;
    passed =
        passed;
  }

  -- the tables below the first one are complete still
  pub first-still :
      {before after : SeenBy} {first : ℕ} {call : Call} {made : List (Call × Reply)} {most : ℕ}
      → IsOwn chain before → IsFirstTable p before first
      → HasMade p call before after made most → IsFirstTable p after first
  first-still own is_first made = record {
    table = is_first.table;
    complete = λ g low. (made-stays chain own made).complete g (omega (arith, low, is_first.table))
        (is_first.complete g low);
  }

  -- some steps after others
  pub gone-more :
      {before then after : SeenBy} {first : ℕ} {from mid to : Place} {shown : Option (ℕ × ℕ)}
      {most most' : ℕ} → IsOwn chain before
      → IsFirstTable p before first → HasGone p before then first from mid None most
      → HasGone p then after first mid to shown most'
      → HasGone p before after first from to shown (most + most')
  gone-more {before} {then} {after} {first} {from} {mid} {to} {shown} {most} {most'}
      own is_first a b =
      let own' = made-own chain own (a.made 0) in
      let own'' = made-own chain own' (b.made 0) in
      record {
        misses = b.misses ++ a.misses;
        missed = All-append IsMiss b.misses a.misses b.missed a.missed;
        made = λ k.
            subst (λ made. HasMade p (Get k) before after made (most + most'))
            (append_assoc (hit shown) b.misses a.misses)
            (made-more chain own (a.made k) (b.made k));
        passed = passed-more own' own'' (begins (a.made 0).grown) (begins (b.made 0).grown) first
            (first-still own is_first (a.made 0)) from mid to shown
            a.passed b.passed;
      }

  -- steps that make no read, and show nothing, after others that may have shown a key
  pub gone-then :
      {before then after : SeenBy} {first : ℕ} {from mid to : Place} {shown : Option (ℕ × ℕ)}
      {most most' : ℕ} → IsOwn chain before
      → IsFirstTable p before first → HasGone p before then first from mid shown most
      → ((k : ℕ) → HasMade p (Get k) then after [] most')
      → HasPassed p then after first mid to None
      → HasGone p before after first from to shown (most + most')
  gone-then {before} {then} {after} {first} {from} {mid} {to} {shown} own is_first a made passed =
      let own' = made-own chain own (a.made 0) in
      let own'' = made-own chain own' (made 0) in
      record {
        misses = a.misses;
        missed = a.missed;
        made = λ k. made-more chain own (a.made k) (made k);
        passed = passed-then own' own'' (begins (a.made 0).grown) (begins (made 0).grown) first
            (first-still own is_first (a.made 0)) from mid to shown
            a.passed passed;
      }
