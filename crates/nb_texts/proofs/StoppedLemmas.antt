-- A catalog whose call was refused can be brought to rest.
use Rattle.std.proofs.Common.{◌≡◌, ◌∙◌, ℕ, Bool, true, false, cond, eqb, List, [], ◌∷◌, ◌++◌, All, None, Option, Some, ap, ap₂, append_assoc, inl, inr, length, refl, subst, sym}
use Rattle.std.specs.Cmp.{nat_cmp_total, unsigned_tied}
use Rattle.std.specs.FinMap.{get, get-remove, insert, len, nat_cmp-IsAntisymmetric, remove, same_map}
use Rattle.std.specs.List.{AllZip}
use Rattle.std.proofs.lemmas.Bool.{eqb-true}
use Rattle.std.proofs.lemmas.List.Elements.{All-append, All-cons, All-head, All-nil, All-tail, All-weaker, length_all_zip}
use Rattle.nb_core.proofs.Theorems.{calls_append}
use Rattle.nb_core.specs.Log.{Entry, Numbers, calls_of, log_of, map_after, map_of_log}
use Rattle.nb_core.specs.Plans.{HasRoomFor, Plan}
use Rattle.nb_core.specs.declared.calls.Call.{Call}
use Rattle.nb_core.specs.declared.calls.Reply.{Reply}
use Rattle.nb_map.specs.Bulk.{whole_walk_steps}
use Rattle.nb_map.specs.Ending.{map_left}
use Rattle.nb_map.specs.Entries.{HasOnlyRead, IsRead}
use Rattle.nb_map.specs.Handles.{HandleOf, IsSameMap, IsWhole, KeepsRest, all_seats, seats_of}
use Rattle.nb_map.proofs.Theorems.{logs_add_up}
use Rattle.nb_map.specs.Logs.{HasFound, HasLogged, log}
use Rattle.nb_map.specs.Maps.{IsMine, MapOf, SeatOf}
use Rattle.nb_map.specs.NamedCalls.{put_if_absent_of, remove_of}
use Rattle.nb_map.specs.OneSeat.{held}
use Rattle.nb_map.specs.Opening.{IsTooSmallFor}
use Rattle.nb_map.specs.Renewing.{HasRenewed, HasTooMany, IsKept}
use Rattle.nb_map.specs.Settling.{HasCaughtUp, HaveSettled}
use Rattle.nb_texts.specs.Catalogs.{HaveOneLog, IsAtRest}
use Rattle.nb_texts.specs.Clues.{ArePartedFrom, HasOnlyLooked}
use Rattle.nb_texts.specs.Entering.{HasEntered, HasKeptIndex, IsIndex, map_after_calls}
use Rattle.nb_texts.specs.Hashes.{key_for}
use Rattle.nb_texts.specs.Memory.{shape_with_room}
use Rattle.nb_texts.specs.Stopped.{CanRest, HasIndexed, HasMadeSince, HasReadSince}
use Rattle.nb_texts.specs.declared.catalog.Catalog.{Catalog}
use Rattle.nb_texts.proofs.FindingLemmas.{HasTried, after-append, got, put-absent, replayed-parts}
use Rattle.nb_texts.proofs.RestLemmas.{gathered-told, others-all, read-leaves, read-nothing}

-- ---- one seat

-- reads leave a map as it is
reads-leave :
    (reads : List (Call × Reply)) (m : Numbers) → All IsRead reads → map_after_calls reads m ≡ m
reads-leave [] m all = refl
reads-leave (made ∷ reads) m all =
    read-leaves made (map_after_calls reads m) (All-head IsRead made reads all)
    ∙ reads-leave reads m (All-tail IsRead made reads all)

-- further calls
made-more :
    (base : List Entry) (made more : List (Call × Reply)) (before after : SeatOf)
    → HasMadeSince base made before → HasLogged before after more
    → HasMadeSince base (more ++ made) after
made-more base made more before after since logged = record {
  later = logged.later ++ since.later;
  is =
      logged.grown ∙ ap (λ log. logged.later ++ log) since.is
      ∙ sym (append_assoc logged.later since.later base);
  calls =
      ap (λ n. calls_of n (logged.later ++ since.later)) logged.number
      ∙ calls_append before.chain.number logged.later since.later
      ∙ ap₂ (λ (one two : List (Call × Reply)). one ++ two) logged.own since.calls;
}

read-more :
    (base : List Entry) (reads : List (Call × Reply)) (before after : SeatOf)
    → HasReadSince base before → HasLogged before after reads → All IsRead reads
    → HasReadSince base after
read-more base reads before after since logged are = record {
  later = logged.later ++ since.later;
  is =
      logged.grown ∙ ap (λ log. logged.later ++ log) since.is
      ∙ sym (append_assoc logged.later since.later base);
  reads =
      subst (All IsRead)
      (sym (ap (λ n. calls_of n (logged.later ++ since.later)) logged.number
      ∙ calls_append before.chain.number logged.later since.later
      ∙ ap (λ (one : List (Call × Reply)). one ++ calls_of before.chain.number since.later) logged.own))
      (All-append IsRead reads (calls_of before.chain.number since.later) are since.reads);
}

-- the seat has made reads since
abbrev pub HasMoreReads : SeatOf → SeatOf → Type 0
HasMoreReads before after =
    (reads : List (Call × Reply)) × HasLogged before after reads × All IsRead reads

-- ---- a handle

-- Where all seats have since made reads alone, the map is an index still.
module _ (key : List ℕ → ℕ → ℕ) (texts : List (List ℕ)) where
  pub at-rest :
      (handle : HandleOf) → HaveOneLog handle → IsIndex key texts (held handle.seat)
      → HasIndexed key texts handle
  at-rest handle logs index =
      let base = log handle.seat in
      record {
        base = base;
        made = [];
        own = record { later = []; is = refl; calls = refl };
        others =
            All-weaker (λ (seat : SeatOf). log seat ≡ base) (HasReadSince base) (read-nothing base)
            handle.reserve logs;
        told = λ replayed. index;
      }

  pub others-more :
      (base : List Entry) (before after : List SeatOf) → AllZip HasMoreReads before after
      → All (HasReadSince base) before → All (HasReadSince base) after
  others-more base [] [] each all = All-nil (HasReadSince base)
  others-more base [] (s' ∷ after) each all = absurd each
  others-more base (s ∷ before) [] each all = absurd each
  others-more base (s ∷ before) (s' ∷ after) (here, rest) all =
      All-cons (HasReadSince base) s' after
      (read-more base here.0 s s' (All-head (HasReadSince base) s before all) here.1 here.2)
      (others-more base before after rest (All-tail (HasReadSince base) s before all))

  pub indexed-more :
      (before after : HandleOf) → AllZip HasMoreReads (seats_of before) (seats_of after)
      → HasIndexed key texts before → HasIndexed key texts after
  indexed-more before after (here, rest) since = record {
    base = since.base;
    made = here.0 ++ since.made;
    own = made-more since.base since.made here.0 before.seat after.seat since.own here.1;
    others = others-more since.base before.reserve after.reserve rest since.others;
    told = λ replayed.
        let m = map_of_log since.base in
        let parts = replayed-parts here.0 since.made m replayed in
        subst (IsIndex key texts)
        (sym (after-append here.0 since.made m
        ∙ reads-leave here.0 (map_after_calls since.made m) here.2))
        (since.told parts.1);
  }

-- Of a renewal that is refused each seat has made reads alone.
only-reads :
    (m : MapOf) (before after : List SeatOf)
    → AllZip (λ old new. HasOnlyRead m old new (whole_walk_steps m.chain.shape)) before after
    → AllZip HasMoreReads before after
only-reads m [] [] each = each
only-reads m [] (s' ∷ after) each = absurd each
only-reads m (s ∷ before) [] each = absurd each
only-reads m (s ∷ before) (s' ∷ after) (here, rest) =
    ((here.made, here.logged, here.reads), only-reads m before after rest)

pub indexed-kept :
    (key : List ℕ → ℕ → ℕ) (texts : List (List ℕ)) (before after : HandleOf) → IsKept before after
    → HasIndexed key texts before → HasIndexed key texts after
indexed-kept key texts before after (inl same) since = subst (HasIndexed key texts) (sym same) since
indexed-kept key texts before after (inr (same, read)) since =
    indexed-more key texts before after
    (only-reads before.map (seats_of before) (seats_of after) read) since

-- Once they are settled, too.
caught-more :
    (m : MapOf) (whole : List Entry) (before after : List SeatOf)
    → AllZip (HasCaughtUp m whole) before after → AllZip HasMoreReads before after
caught-more m whole [] [] each = tt
caught-more m whole [] (s' ∷ after) each = absurd each
caught-more m whole (s ∷ before) [] each = absurd each
caught-more m whole (s ∷ before) (s' ∷ after) (here, rest) =
    (([], here.logged, All-nil IsRead), caught-more m whole before after rest)

-- ---- a map is made anew

-- what it has then is an index of the texts
pub renewed-index :
    (key : List ℕ → ℕ → ℕ) (texts : List (List ℕ)) (p : Plan) (before after : HandleOf)
    → HasRenewed p before after → HasIndexed key texts before → IsIndex key texts (held after.seat)
renewed-index key texts p before after renewed since =
    let begun = renewed.begun.begun in
    let told = gathered-told since.base since.made before.seat before.reserve renewed.ended
    renewed.left since.own since.others in
    subst (IsIndex key texts)
    (sym (ap map_of_log (All-head (λ (seat : SeatOf). log seat ≡ begun.whole) after.seat after.reserve begun.logs)
    ∙ begun.leaves ∙ told.1))
    (since.told told.0)

-- if its keys are too many, the texts are
pub too-many-texts :
    (key : List ℕ → ℕ → ℕ) (texts : List (List ℕ)) (p : Plan) (before : HandleOf)
    → HasTooMany p before → HasIndexed key texts before
    → (m : Numbers) × IsTooSmallFor p m × (len m ≡ length texts)
too-many-texts key texts p before many since =
    let told = gathered-told since.base since.made before.seat before.reserve many.ended many.left
    since.own since.others in (
      map_left many.ended,
      many.small,
      ap len told.1 ∙ (since.told told.0).keys,
    )

-- ---- lines were entered while others looked

-- the handle with all readers' seats
abbrev pub gathered_in : HandleOf → (readers : List HandleOf) → HandleOf
gathered_in after readers = record {
  map = after.map;
  seat = after.seat;
  reserve = after.reserve ++ all_seats readers;
}

pub gathered-indexed :
    (key : List ℕ → ℕ → ℕ) (texts texts' : List (List ℕ)) (before parted after : HandleOf)
    (readers readers' : List HandleOf) → HaveOneLog before → IsIndex key texts (held before.seat)
    → IsSameMap before parted × (parted.seat ≡ before.seat) → ArePartedFrom before parted readers
    → AllZip HasOnlyLooked readers readers' → KeepsRest parted after
    → HasKeptIndex key parted.seat after.seat texts texts'
    → HasIndexed key texts' (gathered_in after readers')
gathered-indexed key texts texts' before parted after readers readers' logs index same from looked rest kept =
    let base = log before.seat in
    record {
      base = base;
      made = kept.made;
      own = record {
        later = kept.logged.later;
        is = kept.logged.grown ∙ ap (λ (s : SeatOf). kept.logged.later ++ log s) same.1;
        calls = ap (λ n. calls_of n kept.logged.later) kept.logged.number ∙ kept.logged.own;
      };
      others =
          others-all before.map (λ seat. log seat ≡ base) (HasReadSince base) (read-nothing base)
          (λ from to looked same knows. record {
            later = looked.logged.later;
            is = looked.logged.grown ∙ ap (λ log. looked.logged.later ++ log) knows;
            reads =
                subst (All IsRead) (sym (ap (λ n. calls_of n looked.logged.later) looked.logged.number
                ∙ looked.logged.own)) looked.reads;
          })
          before parted after readers readers' refl from looked rest logs;
      told = λ replayed. kept.told (map_of_log base) replayed index;
    }

-- all of them have settled,
pub settled-indexed :
    (key : List ℕ → ℕ → ℕ) (texts : List (List ℕ)) (m : MapOf) (before last : HandleOf) (size : ℕ)
    → HaveSettled m (seats_of before) (seats_of last) size → HasIndexed key texts before
    → HasIndexed key texts last
settled-indexed key texts m before last size settled since =
    indexed-more key texts before last
    (caught-more m (log_of settled.tables.history) (seats_of before) (seats_of last) settled.each) since

-- or were refused to
pub joined-indexed :
    (key : List ℕ → ℕ → ℕ) (texts : List (List ℕ)) (before last : HandleOf) → last.seat ≡ before.seat
    → last.reserve ≡ before.reserve → HasIndexed key texts before → HasIndexed key texts last
joined-indexed key texts before last seat reserve since = record {
  base = since.base;
  made = since.made;
  own = subst (HasMadeSince since.base since.made) (sym seat) since.own;
  others = subst (All (HasReadSince since.base)) (sym reserve) since.others;
  told = since.told;
}

-- ---- a line is entered, or isn't

module _ (keys : List ℕ → ℕ → ℕ) where
  pub kept-none :
      (map : MapOf) (seat : SeatOf) (texts : List (List ℕ)) → IsMine map seat
      → HasKeptIndex keys seat seat texts texts
  kept-none map seat texts mine =
      record { made = []; logged = logs_add_up.none mine; told = λ m replayed index. index }

  pub kept-tried :
      (p : Plan) (before now : SeatOf) (texts : List (List ℕ)) (text : List ℕ) (tries : ℕ)
      → HasTried p (keys text) before now texts text tries → HasKeptIndex keys before now texts texts
  kept-tried p before now texts text tries tried = record {
    made = tried.made;
    logged = tried.logged;
    told = λ m replayed index. subst (IsIndex keys texts) (sym (tried.same m replayed)) index;
  }

  pub kept-entered :
      (p : Plan) (before after : SeatOf) (texts texts' lines : List (List ℕ))
      → HasEntered p keys before after texts texts' lines → HasKeptIndex keys before after texts texts'
  kept-entered p before after texts texts' lines entered = record {
    made = entered.made;
    logged = entered.logged;
    told = λ m replayed index. (entered.told m replayed index).0;
  }

  pub kept-then :
      (before between after : SeatOf) (texts texts' texts'' : List (List ℕ))
      → HasKeptIndex keys before between texts texts' → HasKeptIndex keys between after texts' texts''
      → HasKeptIndex keys before after texts texts''
  kept-then before between after texts texts' texts'' first second = record {
    made = second.made ++ first.made;
    logged = logs_add_up.more first.logged second.logged;
    told = λ m replayed index.
        let parts = replayed-parts second.made first.made m replayed in
        subst (IsIndex keys texts'') (sym (after-append second.made first.made m))
        (second.told (map_after_calls first.made m) parts.0 (first.told m parts.1 index));
  }

  -- a call that was refused
  pub kept-refused :
      (before after : SeatOf) (texts : List (List ℕ)) → HasLogged before after []
      → HasKeptIndex keys before after texts texts
  kept-refused before after texts logged =
      record { made = []; logged = logged; told = λ m replayed index. index }

-- a number that was put at a key without one, and is taken out again
put-removed :
    (m : Numbers) (k n : ℕ) → get m k ≡ None → remove (insert m k n) k ≡ m
put-removed m k n none =
    same_map nat_cmp_total nat_cmp-IsAntisymmetric (remove (insert m k n) k) m
    (λ q. get-remove nat_cmp_total (insert m k n) k q
    ∙ ap (λ b. cond b None (get (insert m k n) q)) (unsigned_tied q k)
    ∙ ap (λ o. cond (eqb q k) None o) (got m k n q) ∙ of q (eqb q k) refl)
  where
    of : (q : ℕ) (b : Bool) → eqb q k ≡ b
        → cond b None (cond b (Some n) (get m q)) ≡ get m q
    of q true same = sym (ap (get m) (eqb-true q k same) ∙ none)
    of q false other = refl

pub kept-removed :
    (p : Plan) (keys : List ℕ → ℕ → ℕ) (before now put after : SeatOf) (texts : List (List ℕ))
    (text : List ℕ) (tries n : ℕ) (tried : HasTried p (keys text) before now texts text tries)
    → HasFound (put_if_absent_of (keys text tries) n) now put None → (taken : Option ℕ)
    → HasFound (remove_of (keys text tries)) put after taken
    → HasKeptIndex keys before after texts texts
kept-removed p keys before now put after texts text tries n tried found taken gone =
    let k = keys text tries in
    record {
      made = (remove_of k, gone.0) ∷ (put_if_absent_of k n, found.0) ∷ tried.made;
      logged = logs_add_up.more (logs_add_up.more tried.logged found.2) gone.2;
      told = λ m replayed index.
          let none : get m k ≡ None
          = ap (λ m. get m k) (sym (tried.same m replayed.1.1))
          ∙ sym (ap (λ (reply : Reply). reply.before) replayed.1.0) ∙ found.1 in
          subst (IsIndex keys texts)
          (sym (ap (λ m. map_after (remove_of k) (map_after (put_if_absent_of k n) m)) (tried.same m replayed.1.1)
          ∙ ap (map_after (remove_of k)) (put-absent m k n none) ∙ put-removed m k n none)) index;
    }

-- ---- a catalog

pub rests : (catalog : Catalog) → IsAtRest catalog → CanRest catalog
rests catalog rest = record {
  whole = rest.whole;
  index =
      at-rest (key_for catalog.hashing) catalog.texts catalog.handle rest.logs rest.index;
  made = rest.made;
  room = rest.room;
  most = rest.most;
}

-- all seats are there still where a renewal is refused, and it is the same map
kept-whole : (before after : HandleOf) → IsKept before after → IsWhole before → IsWhole after
kept-whole before after (inl is) whole = subst IsWhole (sym is) whole
kept-whole before after (inr (same, read)) whole =
    sym (length_all_zip (λ old new. HasOnlyRead before.map old new _) (seats_of before)
    (seats_of after) read) ∙ whole ∙ ap (λ (m : MapOf). m.chain.shape.seats) (sym same)

kept-map : (before after : HandleOf) → IsKept before after → after.map ≡ before.map
kept-map before after (inl is) = ap (λ (handle : HandleOf). handle.map) is
kept-map before after (inr (same, read)) = same

-- with a handle of the same map, whose calls have left an index of these texts
pub rests-with :
    (catalog : Catalog) (texts : List (List ℕ)) (handle : HandleOf) → CanRest catalog
    → handle.map ≡ catalog.handle.map → IsWhole handle
    → HasIndexed (key_for catalog.hashing) texts handle
    → CanRest (record catalog { texts = texts; handle = handle })
rests-with catalog texts handle rest same whole index = record {
  whole = whole;
  index = index;
  made =
      subst (λ (m : MapOf). m.chain.shape ≡ shape_with_room catalog.room) (sym same) rest.made;
  room = subst (λ (m : MapOf). HasRoomFor m.chain.shape catalog.room) (sym same) rest.room;
  most = rest.most;
}

pub rests-kept :
    (catalog : Catalog) (handle : HandleOf) → CanRest catalog → IsKept catalog.handle handle
    → CanRest (record catalog { handle = handle })
rests-kept catalog handle rest kept =
    rests-with catalog catalog.texts handle rest (kept-map catalog.handle handle kept)
    (kept-whole catalog.handle handle kept rest.whole)
    (indexed-kept (key_for catalog.hashing) catalog.texts catalog.handle handle kept rest.index)
