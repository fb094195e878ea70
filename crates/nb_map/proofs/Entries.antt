-- All entries of a map at rest: a walk between two times at which all seats settle shows them; and
-- what the seats have done then.
use Rattle.std.proofs.Common.{◌≡◌, ◌∙◌, ◌==◌, ℕ, zero, suc, ◌+◌, ◌≤◌, ◌||◌, Bool, true, false, cond, eqb, List, [], ◌∷◌, ◌++◌, map, reverse, All, Option, Some, None, ap, sym, subst, subst₂, refl, inl, inr, ◌⊎◌, arith}
use Rattle.std.specs.Cmp.{nat_cmp_total, unsigned_tied}
use Rattle.std.specs.FinMap.{from_entries, get, get-empty, get-insert, nat_cmp-IsAntisymmetric, same_map}
use Rattle.std.specs.List.{AllZip, Contains, IsDistinct, slice_index_or}
use Rattle.std.specs.Ordering.{nat_cmp}
use Rattle.std.specs.Set.{is_member}
use Rattle.std.proofs.lemmas.Bool.{eq-eqb, eqb-true, or_left, or_right}
use Rattle.std.proofs.lemmas.Bool.Decides.{nat_tests}
use Rattle.std.proofs.lemmas.List.{append_assoc, append_cancel_right, map-append, reverse-append, reverse-reverse}
use Rattle.std.proofs.lemmas.List.Elements.{All-append, All-cons, All-head, All-map, All-nil, All-tail, All-weaker}
use Rattle.std.proofs.lemmas.List.Sorted.{IsPermutation-reverse}
use Rattle.std.proofs.lemmas.Map.Keys.{IsDistinct-IsPermutation}
use Rattle.nb_core.proofs.Seating.{All-left, All-right}
use Rattle.nb_core.specs.Log.{Entry, HeldThrough, IsReplayed, Numbers, calls_of, log_of, map_after, map_of_log, reply_at, reply_of}
use Rattle.nb_core.specs.declared.calls.Call.{Call}
use Rattle.nb_core.specs.declared.calls.Call.TheVariants.{Get}
use Rattle.nb_core.specs.declared.calls.Reply.{Reply}
use Rattle.nb_map.proofs.Alone.{all-its, entries-by, entry_by, whole-is}
use Rattle.nb_map.proofs.Logged.{logged-same, logged-then, worked-uncounted}
use Rattle.nb_map.proofs.Made.{made-more, made-none, made-within}
use Rattle.nb_map.proofs.Opened.{caught-logs}
use Rattle.nb_map.proofs.Rested.{made-rested}
use Rattle.nb_map.proofs.Settled.{each-mine}
use Rattle.nb_map.specs.Bulk.{read_as, whole_walk_steps}
use Rattle.nb_map.specs.Ending.{HasAll}
use Rattle.nb_map.specs.Entries.{EntriesAtRest, HasListed, HasOnlyRead, HaveListed, HaveOnlyRead, IsRead}
use Rattle.nb_map.specs.Logs.{log}
use Rattle.nb_map.specs.Maps.{IsMine, MapOf, SeatOf}
use Rattle.nb_map.specs.Opening.{map_of_entries}
use Rattle.nb_map.specs.Settling.{HasCaughtUp, HaveSettled, as_left}

-- ---- reads after a log

abbrev IsReadEntry : Entry → Type 0
IsReadEntry entry = IsRead (entry.call, entry.reply)

-- they leave the map as it is
reads-leave :
    (later base : List Entry) → All IsReadEntry later
    → map_of_log (later ++ base) ≡ map_of_log base
reads-leave [] base reads = refl
reads-leave (entry ∷ later) base reads =
    let read = All-head IsReadEntry entry later reads in
    let call : entry.call ≡ Get read.0 = ap (λ (made : Call × Reply). made.0) read.2 in
    ap (λ call. map_after call (map_of_log (later ++ base))) call
    ∙ reads-leave later base (All-tail IsReadEntry entry later reads)

-- and show what it has
reads-show :
    (n : ℕ) (made : List (Call × Reply)) (base : List Entry) → All IsRead made
    → IsReplayed (map (entry_by n) made ++ base) → (k v : ℕ) (i : ℕ)
    → (at : Contains made (read_as k (Some v))) → at.0 ≡ i
    → get (map_of_log base) k ≡ Some v
reads-show n [] base reads replayed k v i at is = absurd (omega (arith, at.1))
reads-show n (call ∷ made) base reads replayed k v zero at is =
    let P : Call × Reply → Type 0 = IsRead in
    let this : call ≡ read_as k (Some v) = subst (λ j. slice_index_or (call ∷ made) j (read_as k (Some v)) ≡ read_as k (Some v)) is at.2 in
    let rest : map_of_log (map (entry_by n) made ++ base) ≡ map_of_log base
    = reads-leave (map (entry_by n) made) base
    (All-map IsReadEntry (entry_by n) made (All-tail IsRead call made reads)) in
    let told : call.1 ≡ reply_of call.0 (map_of_log (map (entry_by n) made ++ base)) = replayed.0 in
    let told' : reply_at (Get k) (Some v) ≡ reply_of (Get k) (map_of_log (map (entry_by n) made ++ base))
    = subst (λ (made' : Call × Reply). made'.1
    ≡ reply_of made'.0 (map_of_log (map (entry_by n) made ++ base))) this told in
    sym (ap (λ (reply : Reply). reply.before) told' ∙ ap (λ m. get m k) rest)
reads-show n (call ∷ made) base reads replayed k v (suc i) at is =
    reads-show n made base (All-tail IsRead call made reads) replayed.1 k v i (
      i,
      omega (arith, at.1, is),
      subst (λ j. slice_index_or (call ∷ made) j (read_as k (Some v)) ≡ read_as k (Some v)) is at.2,
    )
    refl

-- what the map has, it has all the while
reads-hold :
    (later base : List Entry) → All IsReadEntry later → (k v : ℕ)
    → get (map_of_log base) k ≡ Some v → HeldThrough base (later ++ base) k
reads-hold later base reads k v has = λ log a b.
    let parts : later ≡ b.later ++ a.later =
    append_cancel_right later (b.later ++ a.later) base
    (b.is ∙ ap (λ xs. b.later ++ xs) a.is ∙ sym (append_assoc b.later a.later base)) in
    let some : All IsReadEntry a.later =
    All-right IsReadEntry b.later a.later (subst (All IsReadEntry) parts reads) in (
      v,
      ap (λ xs. get (map_of_log xs) k) a.is
          ∙ ap (λ m. get m k) (reads-leave a.later base some) ∙ has,
    )

-- ---- the map of entries

abbrev keys_of : List (ℕ × ℕ) → List ℕ
keys_of entries = map (λ entry. entry.0) entries

-- entries that are all of one map show it where they have the key
entries-show :
    (m : Numbers) (entries : List (ℕ × ℕ)) → All (λ entry. get m entry.0 ≡ Some entry.1) entries
    → (k : ℕ)
    → get (from_entries {R = nat_cmp} entries) k
    ≡ cond (is_member eqb (keys_of entries) k) (get m k) None
entries-show m [] shown k = get-empty nat_cmp k
entries-show m (entry ∷ entries) shown k =
    let P : ℕ × ℕ → Type 0 = λ entry. get m entry.0 ≡ Some entry.1 in
    get-insert nat_cmp_total (from_entries entries) entry.0 entry.1 k
    ∙ ap (λ b. cond b (Some entry.1) (get (from_entries {R = nat_cmp} entries) k))
    (unsigned_tied k entry.0)
    ∙ of (eqb k entry.0) refl (All-head P entry entries shown)
    (entries-show m entries (All-tail P entry entries shown) k)
  where
    of : (b : Bool) → eqb k entry.0 ≡ b → get m entry.0 ≡ Some entry.1
        → get (from_entries {R = nat_cmp} entries) k
        ≡ cond (is_member eqb (keys_of entries) k) (get m k) None
        → cond b (Some entry.1) (get (from_entries {R = nat_cmp} entries) k)
        ≡ cond (b || is_member eqb (keys_of entries) k) (get m k) None
    of true same here rest = sym (ap (get m) (eqb-true k entry.0 same) ∙ here)
    of false other here rest = rest

contained :
    (k : ℕ) (ks : List ℕ) (i : ℕ) → (at : Contains ks k) → at.0 ≡ i → is_member eqb ks k ≡ true
contained k [] i at is = absurd (omega (arith, at.1))
contained k (j ∷ ks) zero at is =
    let this : j ≡ k = subst (λ n. slice_index_or (j ∷ ks) n k ≡ k) is at.2 in
    or_left (eqb k j) (is_member eqb ks k) (eq-eqb k j (sym this))
contained k (j ∷ ks) (suc i) at is =
    or_right (eqb k j) (is_member eqb ks k)
    (contained k ks i (i, omega (arith, at.1, is), subst (λ n. slice_index_or (j ∷ ks) n k ≡ k) is at.2)
    refl)

-- and where they have all of its keys, they are the map
entries-are :
    (m : Numbers) (entries : List (ℕ × ℕ)) → All (λ entry. get m entry.0 ≡ Some entry.1) entries
    → ((k v : ℕ) → get m k ≡ Some v → Contains (keys_of entries) k)
    → from_entries entries ≡ m
entries-are m entries shown all =
    same_map nat_cmp_total nat_cmp-IsAntisymmetric _ _
    (λ k. entries-show m entries shown k ∙ at k (is_member eqb (keys_of entries) k) refl (get m k) refl)
  where
    at : (k : ℕ) (b : Bool) → is_member eqb (keys_of entries) k ≡ b → (o : Option ℕ) → get m k ≡ o
        → cond b o None ≡ o
    at k true is o has = refl
    at k false is None has = refl
    at k false is (Some v) has =
        let member = contained k (keys_of entries) _ (all k v has) refl in
        absurd (let wrong : false ≡ true = sym is ∙ member in cc)

-- ---- the entries of a map at rest

-- keys that differ still do when they are turned
pub map-reverse : {X Y : Type 0} → (f : X → Y) (xs : List X) → map f (reverse xs) ≡ reverse (map f xs)
map-reverse f [] = refl
map-reverse f (x ∷ xs) =
    ap (map f) (reverse-append (x ∷ []) xs) ∙ map-append f (reverse xs) (x ∷ [])
    ∙ ap (λ ys. ys ++ f x ∷ []) (map-reverse f xs) ∙ sym (reverse-append (f x ∷ []) (map f xs))

flips : (a b : ℕ) → (a == b) ≡ (b == a)
flips a b = grind (arith, nat_tests)

distinct-turned :
    (entries : List (ℕ × ℕ)) → IsDistinct (λ a b. a == b) (keys_of (reverse entries))
    → IsDistinct (λ a b. a == b) (keys_of entries)
distinct-turned entries once =
    let keys = keys_of (reverse entries) in
    subst (IsDistinct (λ a b. a == b))
    (ap reverse (map-reverse (λ entry. entry.0) entries) ∙ reverse-reverse (keys_of entries))
    (IsDistinct-IsPermutation (λ a b. a == b) flips keys (reverse keys) (IsPermutation-reverse keys)
    once)

module _
    (m : MapOf) (before front back after : List SeatOf) (walker walker' : SeatOf) (size size' : ℕ)
    (entries : List (ℕ × ℕ)) (s : HaveSettled m before (front ++ walker ∷ back) size)
    (listed : HasListed walker walker' entries)
    (t : HaveSettled m (front ++ walker' ∷ back) after size') where
  abbrev base : List Entry
  base = log_of s.tables.history

  abbrev later : List Entry
  later = listed.all.logged.later

  abbrev made : List (Call × Reply)
  made = listed.all.made

  abbrev Knew : SeatOf → Type 0
  Knew seat = log seat ≡ base

  knew-all : All Knew (front ++ walker ∷ back)
  knew-all = caught-logs m base before (front ++ walker ∷ back) s.each

  knew-rest : All Knew (walker ∷ back)
  knew-rest = All-right Knew front (walker ∷ back) knew-all

  knew : log walker ≡ base
  knew = All-head Knew walker back knew-rest

  knows : log walker' ≡ later ++ base
  knows = listed.all.logged.grown ∙ ap (λ xs. later ++ xs) knew

  abbrev IsIt : SeatOf → Type 0
  IsIt seat = (seat ≡ walker') ⊎ (log seat ≡ base)

  each-is : All IsIt (front ++ walker' ∷ back)
  each-is =
      All-append IsIt front (walker' ∷ back)
      (All-weaker Knew IsIt (λ seat is. inr is) front (All-left Knew front (walker ∷ back) knew-all))
      (All-cons IsIt walker' back (inl refl)
      (All-weaker Knew IsIt (λ seat is. inr is) back (All-tail Knew walker back knew-rest)))

  has : HasAll (log_of t.tables.history) walker'
  has =
      let P : SeatOf → Type 0 = HasAll (log_of t.tables.history) in
      All-head P walker' back (All-right P front (walker' ∷ back) t.ended.logs)

  own : All (λ entry. entry.seat ≡ walker'.chain.number) later
  own =
      all-its (front ++ walker' ∷ back) (as_left m.chain.shape t.tables.history size') t.ended base
      later walker' knows has each-is

  -- all that is new are the reads of the one seat
  later-is : later ≡ map (entry_by walker'.chain.number) made
  later-is =
      entries-by walker'.chain.number later own
      ∙ ap (map (entry_by walker'.chain.number))
      (ap (λ n. calls_of n later) listed.all.logged.number ∙ listed.all.logged.own)

  later-reads : All IsReadEntry later
  later-reads =
      subst (All IsReadEntry) (sym later-is)
      (All-map IsReadEntry (entry_by walker'.chain.number) made listed.reads)

  replayed : IsReplayed (map (entry_by walker'.chain.number) made ++ base)
  replayed =
      subst IsReplayed (knows ∙ ap (λ xs. xs ++ base) later-is) listed.all.logged.replayed

  entries-left : map_of_entries entries ≡ map_of_log base
  entries-left =
      entries-are (map_of_log base) (reverse entries)
      (λ i d within.
      let at = listed.all.read i d within in
      reads-show walker'.chain.number made base listed.reads replayed _ _ at.0 at refl)
      (λ k v is. listed.all.held k
      (subst₂ (λ x y. HeldThrough x y k) (sym knew) (sym knows)
      (reads-hold later base later-reads k v is)))

  -- so the map is the same still
  pub all-entries : HaveListed before after entries
  all-entries = record {
    ended = as_left m.chain.shape s.tables.history size;
    left = s.ended;
    all = record { once = distinct-turned entries listed.all.once; are = entries-left };
    whole = log_of t.tables.history;
    replayed = t.ended.replayed;
    logs = caught-logs m (log_of t.tables.history) (front ++ walker' ∷ back) after t.each;
    leaves =
        ap map_of_log (whole-is (front ++ walker' ∷ back)
        (as_left m.chain.shape t.tables.history size') t.ended base later walker' knows has each-is)
        ∙ reads-leave later base later-reads;
  }

pub entries_at_rest : EntriesAtRest
entries_at_rest m before front back after walker walker' size size' entries s listed t =
    all-entries m before front back after walker walker' size size' entries s listed t

-- ---- what seats have done

module _ (m : MapOf) where
  -- a seat that has made nothing
  read-none : {seat : SeatOf} → IsMine m seat → HasOnlyRead m seat seat 0
  read-none {seat} mine = record {
    made = [];
    reads = All-nil IsRead;
    logged = logged-same mine refl;
    worked = λ key. worked-uncounted (made-none m.chain (Get key) seat.chain mine.chain) refl;
    count = refl;
    own = mine;
  }

  -- one that has caught up
  read-caught :
      {whole : List Entry} {before after : SeatOf} → HasCaughtUp m whole before after
      → HasOnlyRead m before after 0
  read-caught caught = record {
    made = [];
    reads = All-nil IsRead;
    logged = caught.logged;
    worked = λ key. worked-uncounted (made-rested (Get key) caught.grows) caught.count;
    count = caught.count;
    own = caught.own;
  }

  -- and one after the other
  read-then :
      {old mid new : SeatOf} {most most' : ℕ} (all : ℕ) → IsMine m old → most + most' ≤ all
      → HasOnlyRead m old mid most → HasOnlyRead m mid new most' → HasOnlyRead m old new all
  read-then all mine fits first second = record {
    made = second.made ++ first.made;
    reads = All-append IsRead second.made first.made second.reads first.reads;
    logged = logged-then first.logged second.logged;
    worked = λ key. worked-uncounted
        (made-within _ all fits
        (made-more m.chain mine.chain (first.worked key).steps.1 (second.worked key).steps.1))
        (second.count ∙ first.count);
    count = second.count ∙ first.count;
    own = second.own;
  }

  abbrev most : ℕ
  most = whole_walk_steps m.chain.shape

  abbrev HaveStayed : (before after : List SeatOf) → Type 0
  HaveStayed = AllZip (λ old new. HasOnlyRead m old new 0)

  -- seats that have made nothing
  pub have-none : (seats : List SeatOf) → All (IsMine m) seats → HaveOnlyRead m seats seats
  have-none [] mine = tt
  have-none (seat ∷ seats) mine =
      let here = All-head (IsMine m) seat seats mine in
      let this = read-none here in (
        read-then most here (omega arith) this this,
        have-none seats (All-tail (IsMine m) seat seats mine),
      )

  -- of which one has read
  have-walked :
      (front back : List SeatOf) (walker walker' : SeatOf) → All (IsMine m) (front ++ walker ∷ back)
      → HasOnlyRead m walker walker' most
      → HaveOnlyRead m (front ++ walker ∷ back) (front ++ walker' ∷ back)
  have-walked [] back walker walker' mine read =
      (read, have-none back (All-tail (IsMine m) walker back mine))
  have-walked (seat ∷ front) back walker walker' mine read =
      let here = All-head (IsMine m) seat (front ++ walker ∷ back) mine in
      let this = read-none here in (
        read-then most here (omega arith) this this,
        have-walked front back walker walker' (All-tail (IsMine m) seat (front ++ walker ∷ back) mine)
            read,
      )

  have-stayed :
      (whole : List Entry) (before after : List SeatOf) → AllZip (HasCaughtUp m whole) before after
      → HaveStayed before after
  have-stayed whole [] [] each = tt
  have-stayed whole [] (new ∷ after) each = absurd each
  have-stayed whole (old ∷ before) [] each = absurd each
  have-stayed whole (old ∷ before) (new ∷ after) each =
      (read-caught each.0, have-stayed whole before after each.1)

  stayed-then :
      (before mid after : List SeatOf) → All (IsMine m) before → HaveStayed before mid
      → HaveOnlyRead m mid after → HaveOnlyRead m before after
  stayed-then [] [] [] mine a b = tt
  stayed-then [] [] (new ∷ after) mine a b = absurd b
  stayed-then [] (x ∷ mid) after mine a b = absurd a
  stayed-then (old ∷ before) [] after mine a b = absurd a
  stayed-then (old ∷ before) (x ∷ mid) [] mine a b = absurd b
  stayed-then (old ∷ before) (x ∷ mid) (new ∷ after) mine a b = (
    read-then most (All-head (IsMine m) old before mine) (omega arith) a.0 b.0,
    stayed-then before mid after (All-tail (IsMine m) old before mine) a.1 b.1,
  )

  then-stayed :
      (before mid after : List SeatOf) → All (IsMine m) before → HaveOnlyRead m before mid
      → HaveStayed mid after → HaveOnlyRead m before after
  then-stayed [] [] [] mine a b = tt
  then-stayed [] [] (new ∷ after) mine a b = absurd b
  then-stayed [] (x ∷ mid) after mine a b = absurd a
  then-stayed (old ∷ before) [] after mine a b = absurd a
  then-stayed (old ∷ before) (x ∷ mid) [] mine a b = absurd b
  then-stayed (old ∷ before) (x ∷ mid) (new ∷ after) mine a b = (
    read-then most (All-head (IsMine m) old before mine) (omega arith) a.0 b.0,
    then-stayed before mid after (All-tail (IsMine m) old before mine) a.1 b.1,
  )

  -- seats that have settled,
  pub settled-read :
      {size : ℕ} (before first : List SeatOf) → All (IsMine m) before
      → HaveSettled m before first size → HaveOnlyRead m before first
  settled-read before first mine s =
      stayed-then before first first mine (have-stayed _ before first s.each)
      (have-none first (each-mine m _ before first s.each))

  -- of which then one has read,
  pub walked-read :
      {size : ℕ} (before front back : List SeatOf) (walker walker' : SeatOf)
      → All (IsMine m) before
      → HaveSettled m before (front ++ walker ∷ back) size → HasOnlyRead m walker walker' most
      → HaveOnlyRead m before (front ++ walker' ∷ back)
  walked-read before front back walker walker' mine s read =
      stayed-then before (front ++ walker ∷ back) (front ++ walker' ∷ back) mine
      (have-stayed _ before (front ++ walker ∷ back) s.each)
      (have-walked front back walker walker'
      (each-mine m _ before (front ++ walker ∷ back) s.each) read)

  -- and that have settled again
  pub again-read :
      {size : ℕ} (before second after : List SeatOf) → All (IsMine m) before
      → HaveOnlyRead m before second
      → HaveSettled m second after size → HaveOnlyRead m before after
  again-read before second after mine read t =
      then-stayed before second after mine read (have-stayed _ second after t.each)

  -- they are the map's still
  pub read-mine :
      (before after : List SeatOf) → HaveOnlyRead m before after → All (IsMine m) after
  read-mine [] [] each = All-nil (IsMine m)
  read-mine [] (s' ∷ after) each = absurd each
  read-mine (s ∷ before) [] each = absurd each
  read-mine (s ∷ before) (s' ∷ after) each =
      All-cons (IsMine m) s' after each.0.own (read-mine before after each.1)
