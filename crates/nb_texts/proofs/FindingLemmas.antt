-- A text is looked for at one key after another.
use Rattle.std.proofs.Common.{◌≡◌, ◌≢◌, ◌∙◌, ◌+◌, ◌<◌, ℕ, zero, suc, All, Bool, true, false, cond, eqb, if◌then◌else◌, List, [], ◌∷◌, ◌++◌, None, Option, Some, ap, ap₂, append_assoc, arith, below_more, inl, inr, is_some, ◌⊎◌, length, length-append, map, refl, subst, sym}
use Rattle.std.specs.Cmp.{nat_cmp_total, unsigned_tied}
use Rattle.std.specs.FinMap.{get, get-insert, insert, len, len-insert}
use Rattle.std.specs.Prelude.{slice_get}
use Rattle.std.proofs.lemmas.Bool.{cases_Bool, cases_lt, eq-eqb, eqb-true, or_left, or_right}
use Rattle.std.proofs.lemmas.List.{map-append}
use Rattle.std.proofs.lemmas.List.Elements.{All-append, All-cons, All-nil}
use Rattle.std.proofs.lemmas.Slice.Eq.{bytes_eq-Decides}
use Rattle.core.specs.Str.{bytes_eq}
use Rattle.nb_core.specs.Log.{Numbers, changed, holds_of, map_after, reply_of, with_at}
use Rattle.nb_core.specs.Plans.{Plan}
use Rattle.nb_core.specs.declared.calls.Call.{Call}
use Rattle.nb_core.specs.declared.calls.Change.TheVariants.{Put}
use Rattle.nb_core.specs.declared.calls.Reply.{Reply}
use Rattle.nb_core.specs.declared.calls.Want.TheVariants.{Absent}
use Rattle.nb_map.proofs.Theorems.{logs_add_up}
use Rattle.nb_map.specs.Crowding.{HasAskedFor}
use Rattle.nb_map.specs.Logs.{HasFound, HasLogged}
use Rattle.nb_map.specs.Maps.{IsMine, MapOf, SeatOf}
use Rattle.nb_map.specs.NamedCalls.{put_if_absent_of}
use Rattle.nb_texts.specs.Claims.{HasClaimedBy}
use Rattle.nb_texts.specs.Entering.{AreReplayed, HasEntered, IsFoundAt, IsIndex, PutsIfAbsent, calls_in, map_after_calls}
use Rattle.nb_texts.specs.Lines.{is_among, with_new_lines}
use Rattle.nb_texts.proofs.LinesLemmas.{with-append}

-- ---- a put where nothing is there

pub put-absent :
    (m : Numbers) (k n : ℕ) → get m k ≡ None → map_after (put_if_absent_of k n) m ≡ insert m k n
put-absent m k n none =
    ap (λ (o : Option ℕ). if holds_of Absent o then with_at m k (changed (Put n) o) else m) none

pub put-present :
    (m : Numbers) (k n v : ℕ) → get m k ≡ Some v → map_after (put_if_absent_of k n) m ≡ m
put-present m k n v there =
    ap (λ (o : Option ℕ). if holds_of Absent o then with_at m k (changed (Put n) o) else m) there

pub got : (m : Numbers) (k n j : ℕ) → get (insert m k n) j ≡ cond (eqb j k) (Some n) (get m j)
got m k n j =
    get-insert nat_cmp_total m k n j ∙ ap (λ b. cond b (Some n) (get m j)) (unsigned_tied j k)

pub got-new : (m : Numbers) (k n : ℕ) → get (insert m k n) k ≡ Some n
got-new m k n = got m k n k ∙ of (eqb k k) refl
  where
    of : (b : Bool) → eqb k k ≡ b → cond b (Some n) (get m k) ≡ Some n
    of true same = refl
    of false other = absurd (let is = eq-eqb k k refl in let no : true ≡ false = sym is ∙ other in cc)

got-kept :
    (m : Numbers) (k n j v : ℕ) → get m k ≡ None → get m j ≡ Some v
    → get (insert m k n) j ≡ Some v
got-kept m k n j v none there = got m k n j ∙ of (eqb j k) refl
  where
    of : (b : Bool) → eqb j k ≡ b → cond b (Some n) (get m j) ≡ Some v
    of true same =
        absurd (let no : None ≡ Some v = sym none ∙ ap (get m) (sym (eqb-true j k same)) ∙ there in cc)
    of false other = there

-- ---- lists

pub get-left :
    {X : Type 0} (xs ys : List X) (i : ℕ) (x : X) → slice_get xs i ≡ Some x
    → slice_get (xs ++ ys) i ≡ Some x
get-left [] ys i x at = absurd cc
get-left (y ∷ xs) ys zero x at = at
get-left (y ∷ xs) ys (suc i) x at = get-left xs ys i x at

pub get-last : {X : Type 0} (xs : List X) (y : X) → slice_get (xs ++ y ∷ []) (length xs) ≡ Some y
get-last [] y = refl
get-last (x ∷ xs) y = get-last xs y

pub get-push :
    {X : Type 0} (xs : List X) (y : X) (i : ℕ) (x : X) → slice_get (xs ++ y ∷ []) i ≡ Some x
    → (slice_get xs i ≡ Some x) ⊎ (i ≡ length xs) × (x ≡ y)
get-push [] y zero x at = inr (refl, cc)
get-push [] y (suc i) x at = absurd cc
get-push (z ∷ xs) y zero x at = inl at
get-push (z ∷ xs) y (suc i) x at = elim (get-push xs y i x at) [
  | inl there ↦ inl there
  | inr last ↦ inr (ap suc last.0, last.1)
]

pub among : (texts : List (List ℕ)) (text : List ℕ) (i : ℕ) → slice_get texts i ≡ Some text
    → is_among text texts ≡ true
among [] text i at = absurd cc
among (t ∷ texts) text zero at =
    or_left (bytes_eq text t) (is_among text texts) ((bytes_eq-Decides text t).1 cc)
among (t ∷ texts) text (suc i) at =
    or_right (bytes_eq text t) (is_among text texts) (among texts text i at)

pub not-among :
    (texts : List (List ℕ)) (text : List ℕ) → ((i : ℕ) → slice_get texts i ≢ Some text)
    → is_among text texts ≡ false
not-among [] text other = refl
not-among (t ∷ texts) text other = elim (cases_Bool (bytes_eq text t)) [
  | inl same ↦ absurd (other 0 (ap Some (sym ((bytes_eq-Decides text t).0 same))))
  | inr differs ↦ rw differs (not-among texts text (λ i. other (suc i)))
]

-- ---- calls one after another

pub after-append :
    (later first : List (Call × Reply)) (m : Numbers)
    → map_after_calls (later ++ first) m ≡ map_after_calls later (map_after_calls first m)
after-append [] first m = refl
after-append (made ∷ later) first m = ap (map_after made.0) (after-append later first m)

pub replayed-parts :
    (later first : List (Call × Reply)) (m : Numbers) → AreReplayed (later ++ first) m
    → AreReplayed later (map_after_calls first m) × AreReplayed first m
replayed-parts [] first m replayed = (tt, replayed)
replayed-parts (made ∷ later) first m (reply, replayed) =
    let parts = replayed-parts later first m replayed in
    ((reply ∙ ap (reply_of made.0) (after-append later first m), parts.0), parts.1)

-- ---- what seats claim

-- what was claimed for some calls, and for others since, was claimed for all
pub claimed-then :
    (p : Plan) (first later : List (Call × Reply)) (before mid after : SeatOf)
    → HasClaimedBy p (calls_in first) before mid → HasClaimedBy p (calls_in later) mid after
    → HasClaimedBy p (calls_in (later ++ first)) before after
claimed-then p first later before mid after one two = λ earlier asked.
    subst (λ calls. HasAskedFor p calls after.chain)
    (sym (append_assoc (calls_in later) (calls_in first) earlier)
    ∙ ap (λ calls. calls ++ earlier) (sym (map-append (λ (made : Call × Reply). made.0) later first)))
    (two (calls_in first ++ earlier) (one earlier asked))

-- ---- a text that wasn't found at some keys

-- The seat has made puts that found another text at each of so many keys, and so changed nothing.
pub record HasTried (p : Plan) (key : ℕ → ℕ) (before now : SeatOf) (texts : List (List ℕ))
    (text : List ℕ) (tries : ℕ) : Type 0 where
  pub made : List (Call × Reply)
  pub logged : HasLogged before now made
  pub puts : All PutsIfAbsent made
  pub claims : HasClaimedBy p (calls_in made) before now
  pub same : (m : Numbers) → AreReplayed made m → map_after_calls made m ≡ m
  pub passed :
      (m : Numbers) → AreReplayed made m → (earlier : ℕ) → earlier < tries
      → (place : ℕ) × (get m (key earlier) ≡ Some place) × (slice_get texts place ≢ Some text)

pub tried-none :
    (p : Plan) (key : ℕ → ℕ) (map : MapOf) (seat : SeatOf) (texts : List (List ℕ)) (text : List ℕ)
    → IsMine map seat → HasTried p key seat seat texts text 0
tried-none p key map seat texts text mine = record {
  made = [];
  logged = logs_add_up.none mine;
  puts = All-nil PutsIfAbsent;
  claims = λ earlier asked. asked;
  same = λ m replayed. refl;
  passed = λ m replayed earlier less. absurd (omega (arith, less));
}

module _
    (p : Plan) (key : ℕ → ℕ) (before now next : SeatOf) (texts : List (List ℕ)) (text : List ℕ)
    (tries n : ℕ) (tried : HasTried p key before now texts text tries)
    (claims : HasClaimedBy p (put_if_absent_of (key tries) n ∷ []) now next)
  where
    -- the puts with the next one
    abbrev more : Reply → List (Call × Reply)
    more reply = (put_if_absent_of (key tries) n, reply) ∷ tried.made

    puts-more : (reply : Reply) → All PutsIfAbsent (more reply)
    puts-more reply =
        All-cons PutsIfAbsent (put_if_absent_of (key tries) n, reply) tried.made
        (key tries, n, refl) tried.puts

    claims-more : (reply : Reply) → HasClaimedBy p (calls_in (more reply)) before next
    claims-more reply = λ earlier asked. claims (calls_in tried.made ++ earlier) (tried.claims earlier asked)

    -- what the call at the next key shows of the map
    shown :
        (number : Option ℕ) (found : HasFound (put_if_absent_of (key tries) n) now next number)
        (m : Numbers)
        → AreReplayed ((put_if_absent_of (key tries) n, found.0) ∷ tried.made) m
        → get m (key tries) ≡ number
    shown number found m (told, replayed) =
        ap (λ m. get m (key tries)) (sym (tried.same m replayed))
        ∙ sym (ap (λ (reply : Reply). reply.before) told) ∙ found.1

    pub tried-more :
        (place : ℕ) → HasFound (put_if_absent_of (key tries) n) now next (Some place)
        → slice_get texts place ≢ Some text → HasTried p key before next texts text (tries + 1)
    tried-more place found other = record {
      made = (put_if_absent_of (key tries) n, found.0) ∷ tried.made;
      logged = logs_add_up.more tried.logged found.2;
      puts = puts-more found.0;
      claims = claims-more found.0;
      same = λ m replayed.
          ap (map_after (put_if_absent_of (key tries) n)) (tried.same m replayed.1)
          ∙ put-present m (key tries) n place (shown (Some place) found m replayed);
      passed = λ m replayed.
          below_more (λ earlier. (place : ℕ) × (get m (key earlier) ≡ Some place)
          × (slice_get texts place ≢ Some text)) tries (tried.passed m replayed.1)
          (place, shown (Some place) found m replayed, other);
    }

module _
    (p : Plan) (keys : List ℕ → ℕ → ℕ) (before now : SeatOf) (texts : List (List ℕ))
    (text : List ℕ) (tries : ℕ) (tried : HasTried p (keys text) before now texts text tries)
  where
    -- where nothing is at its next key, the text is none so far
    absent :
        (m : Numbers) → AreReplayed tried.made m → IsIndex keys texts m
        → get m (keys text tries) ≡ None → (place : ℕ) → slice_get texts place ≢ Some text
    absent m replayed index none place at =
        let found = index.found place text at in
        elim (cases_lt found.tries tries) [
          | inl less ↦
              let other = tried.passed m replayed found.tries less in
              let same : Some other.0 ≡ Some place = sym other.1 ∙ found.at in
              let is : other.0 ≡ place = cc in
              other.2 (ap (slice_get texts) is ∙ at)
          | inr least ↦ elim (cases_lt tries found.tries) [
            | inl more ↦
                let there = found.passed tries more in
                let no : None ≡ Some there.0 = sym none ∙ there.1 in
                absurd cc
            | inr most ↦
                let is : found.tries ≡ tries = omega (arith, least, most) in
                let no : None ≡ Some place = sym none ∙ ap (λ t. get m (keys text t)) (sym is) ∙ found.at in
                absurd cc
          ]
        ]

    pub tried-new :
        (m : Numbers) → AreReplayed tried.made m → IsIndex keys texts m
        → get (map_after_calls tried.made m) (keys text tries) ≡ None → is_among text texts ≡ false
    tried-new m replayed index none =
        not-among texts text (absent m replayed index
        (ap (λ m. get m (keys text tries)) (sym (tried.same m replayed)) ∙ none))

    -- no line was entered so far
    unfoldable pub tried-entered : HasEntered p keys before now texts texts []
    tried-entered = record {
      made = tried.made;
      logged = tried.logged;
      puts = tried.puts;
      claims = tried.claims;
      told = λ m replayed index.
          (subst (IsIndex keys texts) (sym (tried.same m replayed)) index, refl);
    }

module _
    (p : Plan) (keys : List ℕ → ℕ → ℕ) (before now next : SeatOf) (texts : List (List ℕ))
    (text : List ℕ) (tries n : ℕ) (tried : HasTried p (keys text) before now texts text tries)
    (claims : HasClaimedBy p (put_if_absent_of (keys text tries) n ∷ []) now next)
  where
    abbrev key : ℕ
    key = keys text tries

    -- the text is found there
    pub entered-found :
        (place : ℕ) → HasFound (put_if_absent_of (keys text tries) n) now next (Some place)
        → slice_get texts place ≡ Some text → HasEntered p keys before next texts texts (text ∷ [])
    entered-found place found at = record {
      made = (put_if_absent_of key n, found.0) ∷ tried.made;
      logged = logs_add_up.more tried.logged found.2;
      puts = puts-more p (keys text) before now next texts text tries n tried claims found.0;
      claims = claims-more p (keys text) before now next texts text tries n tried claims found.0;
      told = λ m replayed index.
          let there = shown p (keys text) before now next texts text tries n tried claims (Some place)
          found m replayed in
          let same : map_after (put_if_absent_of key n) (map_after_calls tried.made m) ≡ m
          = ap (map_after (put_if_absent_of key n)) (tried.same m replayed.1)
          ∙ put-present m key n place there in (
            subst (IsIndex keys texts) (sym same) index,
            sym (ap (λ (b : Bool). if b then texts else texts ++ text ∷ []) (among texts text place at)),
          );
    }

    pub entered-new :
        HasFound (put_if_absent_of (keys text tries) n) now next None → n ≡ length texts
        → HasEntered p keys before next texts (texts ++ text ∷ []) (text ∷ [])
    entered-new found last = record {
      made = (put_if_absent_of key n, found.0) ∷ tried.made;
      logged = logs_add_up.more tried.logged found.2;
      puts = puts-more p (keys text) before now next texts text tries n tried claims found.0;
      claims = claims-more p (keys text) before now next texts text tries n tried claims found.0;
      told = λ m replayed index.
          let none = shown p (keys text) before now next texts text tries n tried claims None found m
          replayed in
          let same : map_after (put_if_absent_of key n) (map_after_calls tried.made m) ≡ insert m key n
          = ap (map_after (put_if_absent_of key n)) (tried.same m replayed.1)
          ∙ put-absent m key n none in
          let one_more : len (insert m key n) ≡ len m + 1
          = len-insert nat_cmp_total m key n ∙ ap (λ o. cond (is_some o) (len m) (len m + 1)) none in (
            subst (IsIndex keys (texts ++ text ∷ [])) (sym same) (record {
              found = λ place line at. elim (get-push texts text place line at) [
                | inl old ↦
                    let there = index.found place line old in
                    record {
                      tries = there.tries;
                      at = got-kept m key n (keys line there.tries) place none there.at;
                      passed = λ earlier less.
                          let other = there.passed earlier less in
                          (other.0, got-kept m key n (keys line earlier) other.0 none other.1);
                    }
                | inr this ↦
                    subst (λ line. IsFoundAt (keys line) (insert m key n) place) (sym this.1) (record {
                      tries = tries;
                      at = got-new m key n ∙ ap Some (last ∙ sym this.0);
                      passed = λ earlier less.
                          let other = tried.passed m replayed.1 earlier less in
                          (other.0, got-kept m key n (keys text earlier) other.0 none other.1);
                    })
              ];
              keys = omega (arith, one_more, index.keys, length-append texts (text ∷ []));
            }),
            sym (ap (λ (b : Bool). if b then texts else texts ++ text ∷ [])
                (not-among texts text (absent p keys before now texts text tries tried m replayed.1
                index none))),
          );
    }

-- an empty map is an index of no texts
pub index-none : (keys : List ℕ → ℕ → ℕ) (m : Numbers) → len m ≡ 0 → IsIndex keys [] m
index-none keys m none = record { found = λ place text at. absurd cc; keys = none }

-- a text that is there is entered by no call
pub entered-known :
    (p : Plan) (keys : List ℕ → ℕ → ℕ) (map : MapOf) (seat : SeatOf) (texts : List (List ℕ))
    (text : List ℕ) (place : ℕ) → IsMine map seat → slice_get texts place ≡ Some text
    → HasEntered p keys seat seat texts texts (text ∷ [])
entered-known p keys map seat texts text place mine at = record {
  made = [];
  logged = logs_add_up.none mine;
  puts = All-nil PutsIfAbsent;
  claims = λ earlier asked. asked;
  told = λ m replayed index. (
    index,
    sym (ap (λ (b : Bool). if b then texts else texts ++ text ∷ []) (among texts text place at)),
  );
}

-- ---- lines after lines

pub entered-none :
    (p : Plan) (keys : List ℕ → ℕ → ℕ) (map : MapOf) (seat : SeatOf) (texts : List (List ℕ))
    → IsMine map seat → HasEntered p keys seat seat texts texts []
entered-none p keys map seat texts mine = record {
  made = [];
  logged = logs_add_up.none mine;
  puts = All-nil PutsIfAbsent;
  claims = λ earlier asked. asked;
  told = λ m replayed index. (index, refl);
}

unfoldable pub entered-then :
    (p : Plan) (keys : List ℕ → ℕ → ℕ) (before between after : SeatOf)
    (texts texts' texts'' lines more : List (List ℕ))
    → HasEntered p keys before between texts texts' lines
    → HasEntered p keys between after texts' texts'' more
    → HasEntered p keys before after texts texts'' (lines ++ more)
entered-then p keys before between after texts texts' texts'' lines more first second = record {
  made = second.made ++ first.made;
  logged = logs_add_up.more first.logged second.logged;
  puts = All-append PutsIfAbsent second.made first.made second.puts first.puts;
  claims = claimed-then p first.made second.made before between after first.claims second.claims;
  told = λ m replayed index.
      let parts = replayed-parts second.made first.made m replayed in
      let one = first.told m parts.1 index in
      let two = second.told (map_after_calls first.made m) parts.0 one.0 in (
        subst (IsIndex keys texts'') (sym (after-append second.made first.made m)) two.0,
        two.1 ∙ ap (λ known. with_new_lines known more) one.1 ∙ sym (with-append texts lines more),
      );
}

-- ---- the places of lines

places-kept :
    (texts more : List (List ℕ)) (places : List ℕ) (lines : List (List ℕ))
    → map (slice_get texts) places ≡ map Some lines
    → map (slice_get (texts ++ more)) places ≡ map Some lines
places-kept texts more [] [] are = refl
places-kept texts more [] (line ∷ lines) are = absurd cc
places-kept texts more (place ∷ places) [] are = absurd cc
places-kept texts more (place ∷ places) (line ∷ lines) are =
    let here : slice_get texts place ≡ Some line = cc in
    let rest : map (slice_get texts) places ≡ map Some lines = cc in
    ap₂ (λ (one : Option (List ℕ)) others. one ∷ others) (get-left texts more place line here)
    (places-kept texts more places lines rest)

pub places-more :
    (texts texts' more : List (List ℕ)) (places : List ℕ) (lines : List (List ℕ)) (place : ℕ)
    (line : List ℕ) → texts' ≡ texts ++ more → map (slice_get texts) places ≡ map Some lines
    → slice_get texts' place ≡ Some line
    → map (slice_get texts') (places ++ place ∷ []) ≡ map Some (lines ++ line ∷ [])
places-more texts texts' more places lines place line grown are at =
    map-append (slice_get texts') places (place ∷ [])
    ∙ ap₂ (λ (some : List (Option (List ℕ))) one. some ++ one ∷ [])
    (subst (λ texts'. map (slice_get texts') places ≡ map Some lines) (sym grown)
    (places-kept texts more places lines are)) at
    ∙ sym (map-append Some lines (line ∷ []))
