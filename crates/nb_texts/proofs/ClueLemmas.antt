-- Clues to lines, and the readers that found them.
use Rattle.std.proofs.Common.{◌≡◌, ◌≢◌, ◌∙◌, ℕ, true, false, Err, List, [], ◌∷◌, ◌++◌, All, IfOk, Ok, Option, Result, Some, ap, append-nil, append_assoc, arith, length, length-append, map, refl, reverse, subst, subst₂, sym}
use Rattle.std.specs.List.{AllZip}
use Rattle.std.specs.Prelude.{Contains, IsOk, OnOk, slice_get}
use Rattle.std.proofs.lemmas.List.{length-map, length-reverse, map-append, reverse-append}
use Rattle.std.proofs.lemmas.List.Elements.{All-append, All-cons, All-head, All-nil, All-push, All-tail, All-weaker, Contains-append_left, Contains-append_right}
use Rattle.nb_core.specs.Plans.{Plan}
use Rattle.nb_map.proofs.Theorems.{asks_add_up, logs_add_up}
use Rattle.nb_map.specs.Bulk.{HasGotMany, read_as, reads_of}
use Rattle.nb_map.specs.Entries.{IsRead}
use Rattle.nb_map.specs.Handles.{HandleOf, IsSameMap, IsWhole, KeepsRest, all_seats, handle_on, seats_of}
use Rattle.nb_map.specs.Maps.{IsMine, MapOf, SeatOf}
use Rattle.nb_texts.specs.Claims.{HasClaimedBy}
use Rattle.nb_texts.specs.Clues.{AreCluesTo, ArePartedFrom, HasOnlyLooked, HaveOnlyLooked, IsClueTo}
use Rattle.nb_texts.specs.Entering.{HasEntered, HasNoRoomFor}
use Rattle.nb_texts.specs.Hashes.{hash_of, key_for}
use Rattle.nb_texts.specs.Lines.{HaveGrownBy}
use Rattle.nb_texts.specs.declared.clues.Clue.TheVariants.{Hash, Place}
use Rattle.nb_texts.specs.declared.clues.Clue.{Clue}
use Rattle.nb_texts.specs.declared.hashing.Hashing.{Hashing}
use Rattle.nb_texts.proofs.FindingLemmas.{entered-none, entered-then, get-left, places-more}
use Rattle.nb_texts.proofs.FullLemmas.{stopped-then}

module _ {A B : Type 0} (R : A → B → Type 0) where
  -- what holds of two pairs of lists, element by element, holds of them one behind the other
  pub zip-append :
      (xs : List A) (ys : List B) (us : List A) (vs : List B) → AllZip R xs ys → AllZip R us vs
      → AllZip R (xs ++ us) (ys ++ vs)
  zip-append [] [] us vs first second = second
  zip-append [] (y ∷ ys) us vs first second = absurd first
  zip-append (x ∷ xs) [] us vs first second = absurd first
  zip-append (x ∷ xs) (y ∷ ys) us vs (here, rest) second = (here, zip-append xs ys us vs rest second)

  -- and of one more element
  pub zip-push :
      (xs : List A) (ys : List B) (x : A) (y : B) → AllZip R xs ys → R x y
      → AllZip R (xs ++ x ∷ []) (ys ++ y ∷ [])
  zip-push xs ys x y first last = zip-append xs ys (x ∷ []) (y ∷ []) first (last, tt)

-- what holds of the elements of two lists, and of each of the first, holds of each of the second
pub zip-all :
    {A B : Type 0} (R : A → B → Type 0) (P : A → Type 0) (Q : B → Type 0)
    → ((x : A) (y : B) → R x y → P x → Q y) → (xs : List A) (ys : List B) → AllZip R xs ys → All P xs
    → All Q ys
zip-all R P Q step [] [] zip all = All-nil Q
zip-all R P Q step [] (y ∷ ys) zip all = absurd zip
zip-all R P Q step (x ∷ xs) [] zip all = absurd zip
zip-all R P Q step (x ∷ xs) (y ∷ ys) (here, rest) all =
    All-cons Q y ys (step x y here (All-head P x xs all))
    (zip-all R P Q step xs ys rest (All-tail P x xs all))

-- ---- readers

-- a reader that has done nothing,
pub looked-none : (handle : HandleOf) → IsMine handle.map handle.seat → HasOnlyLooked handle handle
looked-none handle mine = record {
  rest = record { map = refl; reserve = refl };
  made = [];
  reads = All-nil IsRead;
  logged = logs_add_up.none mine;
  claims = λ earlier asked. asked;
}

-- one that has read keys,
reads-are : (keys : List ℕ) (found : List (Option ℕ)) → All IsRead (reads_of keys found)
reads-are [] found = All-nil IsRead
reads-are (key ∷ keys) [] = All-nil IsRead
reads-are (key ∷ keys) (number ∷ found) =
    All-append IsRead (reads_of keys found) (read_as key number ∷ []) (reads-are keys found)
    (All-cons IsRead (read_as key number) [] (key, number, refl) (All-nil IsRead))

pub looked-many :
    (before after : HandleOf) (keys : List ℕ) (found : List (Option ℕ))
    → HasGotMany before.map keys before.seat after.seat found → KeepsRest before after
    → HasOnlyLooked before after
looked-many before after keys found got rest = record {
  rest = rest;
  made = reads_of keys found;
  reads = reads-are keys found;
  logged = got.replied;
  claims = λ earlier asked.
      asks_add_up.more got.own.chain.plan (λ k filled. filled) (λ is. absurd (let wrong : false ≡ true = is in cc)) asked
      (got.worked 0).steps;
}

-- and one that has gone on
pub looked-more :
    (before then after : HandleOf) → HasOnlyLooked before then → HasOnlyLooked then after
    → HasOnlyLooked before after
looked-more before then after first second = record {
  rest = record {
    map = second.rest.map ∙ first.rest.map;
    reserve = second.rest.reserve ∙ first.rest.reserve;
  };
  made = second.made ++ first.made;
  reads = All-append IsRead second.made first.made second.reads first.reads;
  logged = logs_add_up.more first.logged second.logged;
  claims = λ earlier asked.
      subst (λ (m : MapOf). HasClaimedBy m.chain.shape [] then.seat after.seat) first.rest.map
      second.claims earlier (first.claims earlier asked);
}

-- clues to two texts, one behind the other, are clues to both
pub clues-both :
    (hashing : Hashing) (texts lines front back : List (List ℕ)) (first second all : List Clue)
    → lines ≡ front ++ back → all ≡ first ++ second → AreCluesTo hashing texts front first
    → AreCluesTo hashing texts back second → AreCluesTo hashing texts lines all
clues-both hashing texts lines front back first second all parts are one two =
    subst₂ (AreCluesTo hashing texts) (sym parts) (sym are)
    (zip-append (IsClueTo hashing texts) front first back second one two)

-- what is made of two results, if it is of both
pub both-made :
    {A E : Type 0} (first second made : Result A E) (P Q W : A → Type 0) (R : A → A → A → Type 0)
    → OnOk made (IsOk first × IsOk second)
    → IfOk first (λ one. IfOk second (λ two. IfOk made (R one two))) → IfOk first P → IfOk second Q
    → ((one two all : A) → P one → Q two → R one two all → W all) → IfOk made W
both-made (Ok one) (Ok two) (Ok all) P Q W R ok are p q step = step one two all p q are
both-made (Ok one) (Err e) (Ok all) P Q W R ok are p q step = let no : false ≡ true = ok.1 in absurd cc
both-made (Err e) second (Ok all) P Q W R ok are p q step = let no : false ≡ true = ok.0 in absurd cc
both-made first second (Err e) P Q W R ok are p q step = tt

-- one more reader is parted from a handle
pub parted-more :
    (before now next : HandleOf) (readers : List HandleOf) (reader : HandleOf)
    → ArePartedFrom before now readers → IsSameMap before now
    → now.reserve ≡ next.reserve ++ reader.seat ∷ [] → reader ≡ handle_on now.map reader.seat
    → ArePartedFrom before next (readers ++ reader ∷ [])
parted-more before now next readers reader parted same last is =
    let seat : HandleOf → SeatOf = λ handle. handle.seat in
    let seats = map seat readers in
    let turned : reverse (map seat (readers ++ reader ∷ [])) ≡ reader.seat ∷ reverse seats
    = ap reverse (map-append seat readers (reader ∷ [])) ∙ reverse-append seats (reader.seat ∷ []) in
    record {
      seats =
          parted.seats ∙ ap (λ reserve. reserve ++ reverse seats) last
          ∙ append_assoc next.reserve (reader.seat ∷ []) (reverse seats)
          ∙ ap (λ more. next.reserve ++ more) (sym turned);
      each =
          All-push (λ (handle : HandleOf). handle ≡ handle_on before.map handle.seat) readers reader
          parted.each (is ∙ ap (λ m. handle_on m reader.seat) same);
    }

-- each reader has its own seat alone
reader-seats :
    (m : MapOf) (readers readers' : List HandleOf)
    → All (λ (handle : HandleOf). handle ≡ handle_on m handle.seat) readers
    → HaveOnlyLooked readers readers' → length (all_seats readers') ≡ length readers
reader-seats m [] [] each looked = refl
reader-seats m [] (r ∷ readers') each looked = absurd looked
reader-seats m (r ∷ readers) [] each looked = absurd looked
reader-seats m (r ∷ readers) (r' ∷ readers') each (here, rest) =
    let P : HandleOf → Type 0 = λ handle. handle ≡ handle_on m handle.seat in
    let alone : length r'.reserve ≡ 0
    = ap length (here.rest.reserve ∙ ap (λ (handle : HandleOf). handle.reserve) (All-head P r readers each)) in
    omega (
      arith,
      alone,
      length-append (seats_of r') (all_seats readers'),
      reader-seats m readers readers' (All-tail P r readers each) rest,
    )

-- so all seats are there
pub parted-whole :
    (before parted after : HandleOf) (readers readers' : List HandleOf) → IsWhole before
    → IsSameMap before parted → ArePartedFrom before parted readers
    → HaveOnlyLooked readers readers' → KeepsRest parted after
    → length (after.seat ∷ after.reserve ++ all_seats readers') ≡ after.map.chain.shape.seats
parted-whole before parted after readers readers' whole same from looked kept =
    let seat : HandleOf → SeatOf = λ handle. handle.seat in
    let seats : ℕ = length (reverse (map seat readers)) in
    let many : seats ≡ length readers = length-reverse (map seat readers) ∙ length-map readers seat in
    let shape : after.map.chain.shape.seats ≡ before.map.chain.shape.seats
    = ap (λ (m : MapOf). m.chain.shape.seats) (kept.map ∙ same) in
    omega (
      arith,
      whole,
      shape,
      many,
      ap length from.seats ∙ length-append parted.reserve (reverse (map seat readers)),
      ap length kept.reserve,
      length-append after.reserve (all_seats readers'),
      reader-seats before.map readers readers' from.each looked,
    )

-- the readers are of the map of a handle that is of the same one still
pub readers-of :
    (before parted after : HandleOf) (readers readers' : List HandleOf)
    → ArePartedFrom before parted readers → AllZip HasOnlyLooked readers readers'
    → after.map ≡ before.map → All (λ reader. reader.map ≡ after.map) readers'
readers-of before parted after readers readers' from looked same =
    let P : HandleOf → Type 0 = λ reader. reader.map ≡ before.map in
    zip-all HasOnlyLooked P (λ reader. reader.map ≡ after.map)
    (λ one other looked is. looked.rest.map ∙ is ∙ sym same) readers readers' looked
    (λ i d less. ap (λ (handle : HandleOf). handle.map) (from.each i d less))

-- ---- clues line by line

-- These lines were done, and the clues to them are right.
pub record AreCluesSoFar (hashing : Hashing) (texts lines left : List (List ℕ)) (clues : List Clue) :
    Type 0 where
  pub done : List (List ℕ)
  pub are : lines ≡ done ++ left
  pub right : AreCluesTo hashing texts done clues

pub clues-begun :
    (hashing : Hashing) (texts lines : List (List ℕ)) (clues : List Clue) → clues ≡ []
    → AreCluesSoFar hashing texts lines lines clues
clues-begun hashing texts lines clues none = record {
  done = [];
  are = refl;
  right = subst (AreCluesTo hashing texts []) (sym none) tt;
}

pub clues-more :
    (hashing : Hashing) (texts lines left next : List (List ℕ)) (clues clues' : List Clue)
    (line : List ℕ) (clue : Clue) → AreCluesSoFar hashing texts lines left clues
    → left ≡ line ∷ next → clues' ≡ clues ++ clue ∷ [] → IsClueTo hashing texts line clue
    → AreCluesSoFar hashing texts lines next clues'
clues-more hashing texts lines left next clues clues' line clue so_far split pushed right = record {
  done = so_far.done ++ line ∷ [];
  are =
      so_far.are ∙ ap (λ left. so_far.done ++ left) split
      ∙ sym (append_assoc so_far.done (line ∷ []) next);
  right =
      subst (AreCluesTo hashing texts (so_far.done ++ line ∷ [])) (sym pushed)
      (zip-push (IsClueTo hashing texts) so_far.done clues line clue so_far.right right);
}

-- the first hash that is left is the next line's
pub hashed-next :
    (hashing : Hashing) (left : List (List ℕ)) (line : List ℕ) (next : List (List ℕ)) (hash : ℕ)
    (hashes : List ℕ) → left ≡ line ∷ next → hash ∷ hashes ≡ map (hash_of hashing) left
    → (hash ≡ hash_of hashing line) × (hashes ≡ map (hash_of hashing) next)
hashed-next hashing left line next hash hashes split are =
    let both : hash ∷ hashes ≡ hash_of hashing line ∷ map (hash_of hashing) next
    = are ∙ ap (map (hash_of hashing)) split in
    (cc, cc)

pub hashed-none : (hashing : Hashing) (left : List (List ℕ)) → [] ≡ map (hash_of hashing) left → left ≡ []
hashed-none hashing [] none = refl
hashed-none hashing (line ∷ left) none = absurd cc

-- clues to the lines of the next piece
pub clues-further :
    (hashing : Hashing) (texts lines left piece next : List (List ℕ)) (clues more clues' : List Clue)
    → AreCluesSoFar hashing texts lines left clues → left ≡ piece ++ next → clues' ≡ clues ++ more
    → AreCluesTo hashing texts piece more → AreCluesSoFar hashing texts lines next clues'
clues-further hashing texts lines left piece next clues more clues' so_far split pushed right = record {
  done = so_far.done ++ piece;
  are =
      so_far.are ∙ ap (λ left. so_far.done ++ left) split
      ∙ sym (append_assoc so_far.done piece next);
  right =
      subst (AreCluesTo hashing texts (so_far.done ++ piece)) (sym pushed)
      (zip-append (IsClueTo hashing texts) so_far.done clues piece more so_far.right right);
}

pub clues-all :
    (hashing : Hashing) (texts lines left : List (List ℕ)) (clues : List Clue)
    → AreCluesSoFar hashing texts lines left clues → left ≡ [] → AreCluesTo hashing texts lines clues
clues-all hashing texts lines left clues so_far none =
    subst (λ lines. AreCluesTo hashing texts lines clues)
    (sym (so_far.are ∙ ap (λ left. so_far.done ++ left) none ∙ append-nil so_far.done)) so_far.right

-- a clue stays right when texts come behind
pub clue-stays :
    (hashing : Hashing) (texts more texts' : List (List ℕ)) (line : List ℕ) (clue : Clue)
    → texts' ≡ texts ++ more → IsClueTo hashing texts line clue → IsClueTo hashing texts' line clue
clue-stays hashing texts more texts' line (Place place) grown right =
    subst (λ texts'. slice_get texts' place ≡ Some line) (sym grown)
    (get-left texts more place line right)
clue-stays hashing texts more texts' line (Hash hash) grown right = right

-- where a clue is left, a line is left, which it is to
pub record IsNextClue (hashing : Hashing) (texts left : List (List ℕ)) (clue : Clue)
    (clues : List Clue) : Type 0 where
  pub line : List ℕ
  pub lines : List (List ℕ)
  pub is : left ≡ line ∷ lines
  pub right : IsClueTo hashing texts line clue
  pub rest : AreCluesTo hashing texts lines clues

pub next-clue :
    (hashing : Hashing) (texts left : List (List ℕ)) (clue : Clue) (clues : List Clue)
    → AreCluesTo hashing texts left (clue ∷ clues) → IsNextClue hashing texts left clue clues
next-clue hashing texts [] clue clues zip = absurd zip
next-clue hashing texts (line ∷ lines) clue clues (right, rest) =
    record { line = line; lines = lines; is = refl; right = right; rest = rest }

-- ---- lines are entered by their clues

-- Of these lines some were entered, at these places, and there are clues to the others.
pub record HasEnteredSoFar
    (p : Plan) (hashing : Hashing) (before now : SeatOf) (texts texts' lines left : List (List ℕ))
    (clues : List Clue) (places : List ℕ)
    : Type 0 where
  pub clued : AreCluesTo hashing texts left clues
  pub more : List (List ℕ)
  pub grown : texts' ≡ texts ++ more
  pub some : All (Contains lines) more
  pub done : List (List ℕ)
  pub are : lines ≡ done ++ left
  pub entered : HasEntered p (key_for hashing) before now texts texts' done
  pub placed : map (slice_get texts') places ≡ map Some done

pub entering-begun :
    (p : Plan) (hashing : Hashing) (m : MapOf) (seat : SeatOf) (texts lines : List (List ℕ))
    (clues : List Clue) (places : List ℕ) → IsMine m seat → AreCluesTo hashing texts lines clues
    → places ≡ [] → HasEnteredSoFar p hashing seat seat texts texts lines lines clues places
entering-begun p hashing m seat texts lines clues places mine clued none = record {
  clued = clued;
  more = [];
  grown = sym (append-nil texts);
  some = All-nil (Contains lines);
  done = [];
  are = refl;
  entered = entered-none p (key_for hashing) m seat texts mine;
  placed = ap (map (slice_get texts)) none;
}

module _
    (p : Plan) (hashing : Hashing) (before now : SeatOf) (texts texts' lines left : List (List ℕ))
    (clues : List Clue) (places : List ℕ)
    (so_far : HasEnteredSoFar p hashing before now texts texts' lines left clues places) where
  -- where a clue is left, so is a line
  pub some-left : (clue : Clue) (rest : List Clue) → clues ≡ clue ∷ rest → left ≢ []
  some-left clue rest are none =
      let next = next-clue hashing texts left clue rest (subst (AreCluesTo hashing texts left) are so_far.clued) in
      let is : [] ≡ next.line ∷ next.lines = sym none ∙ next.is in
      absurd cc

  -- and the clue is to it
  pub clue-now :
      (clue : Clue) (rest : List Clue) (line : List ℕ) (lines' : List (List ℕ)) → clues ≡ clue ∷ rest
      → left ≡ line ∷ lines' → IsClueTo hashing texts' line clue
  clue-now clue rest line lines' are split =
      let next = next-clue hashing texts left clue rest (subst (AreCluesTo hashing texts left) are so_far.clued) in
      let same : next.line ∷ next.lines ≡ line ∷ lines' = sym next.is ∙ split in
      let is : next.line ≡ line = cc in
      clue-stays hashing texts so_far.more texts' line clue so_far.grown
      (subst (λ line. IsClueTo hashing texts line clue) is next.right)

  -- the texts are there still,
  pub entering-kept : HaveGrownBy lines texts texts'
  entering-kept = (so_far.more, so_far.grown, so_far.some)

  -- also with the next line
  pub entering-grown :
      (line : List ℕ) (left' texts'' : List (List ℕ)) → left ≡ line ∷ left'
      → HaveGrownBy (line ∷ []) texts' texts'' → HaveGrownBy lines texts texts''
  entering-grown line left' texts'' split (more, grown, some) =
      let among : (other : List ℕ) → Contains (line ∷ []) other → Contains lines other
      = λ other there.
      subst (λ lines. Contains lines other) (sym (so_far.are ∙ ap (λ left. so_far.done ++ left) split))
      (Contains-append_right so_far.done (line ∷ left') other
      (Contains-append_left (line ∷ []) left' other there)) in (
        so_far.more ++ more,
        grown ∙ ap (λ texts. texts ++ more) so_far.grown ∙ append_assoc texts so_far.more more,
        All-append (Contains lines) so_far.more more so_far.some
            (All-weaker (Contains (line ∷ [])) (Contains lines) among more some),
      )

  -- one more line is entered
  pub entering-more :
      (clue : Clue) (rest : List Clue) (line : List ℕ) (left' : List (List ℕ)) (next : SeatOf)
      (texts'' : List (List ℕ)) (places' : List ℕ) (place : ℕ)
      → clues ≡ clue ∷ rest → left ≡ line ∷ left'
      → HasEntered p (key_for hashing) now next texts' texts'' (line ∷ [])
      → HaveGrownBy (line ∷ []) texts' texts'' → slice_get texts'' place ≡ Some line
      → places' ≡ places ++ place ∷ []
      → HasEnteredSoFar p hashing before next texts texts'' lines left' rest places'
  entering-more clue rest line left' next texts'' places' place are split entered grown at pushed =
      let clued = next-clue hashing texts left clue rest (subst (AreCluesTo hashing texts left) are so_far.clued) in
      let same : clued.line ∷ clued.lines ≡ line ∷ left' = sym clued.is ∙ split in
      let lines' : clued.lines ≡ left' = cc in
      let all = entering-grown line left' texts'' split grown in
      record {
        clued = subst (λ lines. AreCluesTo hashing texts lines rest) lines' clued.rest;
        more = all.0;
        grown = all.1;
        some = all.2;
        done = so_far.done ++ line ∷ [];
        are =
            so_far.are ∙ ap (λ left. so_far.done ++ left) split
            ∙ sym (append_assoc so_far.done (line ∷ []) left');
        entered =
            entered-then p (key_for hashing) before now next texts texts' texts'' so_far.done
            (line ∷ []) so_far.entered entered;
        placed =
            ap (map (slice_get texts'')) pushed
            ∙ places-more texts' texts'' grown.0 places so_far.done place line grown.1 so_far.placed
            at;
      }

  -- or it finds no room
  pub entering-stopped :
      (line : List ℕ) (left' : List (List ℕ)) (next : SeatOf) → left ≡ line ∷ left'
      → HasNoRoomFor p (key_for hashing) now next texts' (line ∷ [])
      → HasNoRoomFor p (key_for hashing) before next texts lines
  entering-stopped line left' next split stopped =
      subst (HasNoRoomFor p (key_for hashing) before next texts)
      (sym (so_far.are ∙ ap (λ left. so_far.done ++ left) split))
      (stopped-then p (key_for hashing) before now next texts texts' so_far.done (line ∷ []) left'
      so_far.entered stopped)

  -- and all are, where no clue is left
  pub entering-done : clues ≡ [] → so_far.done ≡ lines
  entering-done none =
      let all : left ≡ [] = no-clue left (subst (AreCluesTo hashing texts left) none so_far.clued) in
      sym (so_far.are ∙ ap (λ left. so_far.done ++ left) all ∙ append-nil so_far.done)
    where
      no-clue : (left : List (List ℕ)) → AreCluesTo hashing texts left [] → left ≡ []
      no-clue [] zip = refl
      no-clue (line ∷ left) zip = absurd zip
