-- Lines are entered up to one that finds no room.
use Rattle.std.proofs.Common.{◌≢◌, ◌∙◌, ◌+◌, ◌<◌, ◌≤◌, ◌^◌, ℕ, List, [], ◌∷◌, ◌++◌, ap, append_assoc, arith, inl, inr, length, refl, sym}
use Rattle.std.specs.FinMap.{get}
use Rattle.std.specs.Prelude.{is_some}
use Rattle.std.proofs.lemmas.Bool.{cases_lt}
use Rattle.nb_core.specs.Log.{Numbers}
use Rattle.nb_core.specs.Plans.{Plan}
use Rattle.nb_map.specs.Maps.{SeatOf}
use Rattle.nb_texts.proofs.ClaimLemmas.{no-more}
use Rattle.nb_texts.proofs.FindingLemmas.{HasTried, after-append, entered-then, replayed-parts, tried-entered, tried-new}
use Rattle.nb_texts.specs.Entering.{AreReplayed, HasEntered, HasNoSlot, HasNoRoomFor, IsIndex, map_after_calls}
use Rattle.nb_texts.specs.Hashes.{key_after, key_for}
use Rattle.nb_texts.specs.declared.hashing.Hashing.{Hashing}

-- ---- a line that finds no room

module _
    (p : Plan) (keys : List ℕ → ℕ → ℕ) (before now : SeatOf) (texts : List (List ℕ))
    (text : List ℕ) (tries : ℕ) (tried : HasTried p (keys text) before now texts text tries)
  where
    pub stopped-full :
        (after : SeatOf) → HasNoSlot p (keys text tries) now after
        → HasNoRoomFor p keys before after texts (text ∷ [])
    unfolding tried-entered
    stopped-full after full = record {
      done = [];
      line = text;
      left = [];
      are = refl;
      then = now;
      known = texts;
      entered = tried-entered p keys before now texts text tries tried;
      tries = tries;
      new = tried-new p keys before now texts text tries tried;
      full = inl full;
    }

    pub stopped-many :
        ((m : Numbers) → AreReplayed tried.made m → IsIndex keys texts m → 2 ^ 60 ≤ length texts)
        → HasNoRoomFor p keys before now texts (text ∷ [])
    unfolding tried-entered
    stopped-many many = record {
      done = [];
      line = text;
      left = [];
      are = refl;
      then = now;
      known = texts;
      entered = tried-entered p keys before now texts text tries tried;
      tries = tries;
      new = tried-new p keys before now texts text tries tried;
      full = inr (refl, many);
    }

-- the keys for a hash are apart for as long
keys-apart :
    (hash i j : ℕ) → i < j → j < 2 ^ 60 + 1 → key_after hash i ≢ key_after hash j
unfolding key_after
keys-apart hash i j less few same = omega (arith, less, few, same)

-- where other texts are at all keys that are tried for a text, there are as many
pub all-tried :
    (p : Plan) (hashing : Hashing) (before now : SeatOf) (texts : List (List ℕ)) (text : List ℕ)
    (tries : ℕ) (tried : HasTried p (key_for hashing text) before now texts text tries)
    → 2 ^ 60 < tries → (m : Numbers) → AreReplayed tried.made m → IsIndex (key_for hashing) texts m
    → 2 ^ 60 ≤ length texts
all-tried p hashing before now texts text tries tried many m replayed index =
    elim (cases_lt (length texts) (2 ^ 60)) [
      | inl few ↦
          let keys = no-more m (key_for hashing text) (length texts + 1)
          (λ i less. ap is_some (tried.passed m replayed i (omega (arith, less, few, many))).1)
          (λ i j less below. keys-apart _ i j less (omega (arith, below, few))) in
          absurd (omega (arith, keys, index.keys))
      | inr as_many ↦ as_many
    ]

-- ---- lines after lines

-- some lines were entered, and then one of others finds no room
pub stopped-then :
    (p : Plan) (keys : List ℕ → ℕ → ℕ) (before between after : SeatOf)
    (texts texts' lines more left : List (List ℕ))
    → HasEntered p keys before between texts texts' lines
    → HasNoRoomFor p keys between after texts' more
    → HasNoRoomFor p keys before after texts (lines ++ (more ++ left))
unfolding entered-then
stopped-then p keys before between after texts texts' lines more left first stopped = record {
  done = lines ++ stopped.done;
  line = stopped.line;
  left = stopped.left ++ left;
  are =
      ap (λ more. lines ++ (more ++ left)) stopped.are
      ∙ ap (λ rest. lines ++ rest) (append_assoc stopped.done (stopped.line ∷ stopped.left) left)
      ∙ sym (append_assoc lines stopped.done (stopped.line ∷ (stopped.left ++ left)));
  then = stopped.then;
  known = stopped.known;
  entered =
      entered-then p keys before between stopped.then texts texts' stopped.known lines stopped.done
      first stopped.entered;
  tries = stopped.tries;
  new = λ m replayed index none.
      let parts = replayed-parts stopped.entered.made first.made m replayed in
      let one = first.told m parts.1 index in
      stopped.new (map_after_calls first.made m) parts.0 one.0
      (ap (λ m. get m (keys stopped.line stopped.tries))
      (sym (after-append stopped.entered.made first.made m)) ∙ none);
  full = elim stopped.full [
    | inl none ↦ inl none
    | inr many ↦ inr (
      many.0,
      λ m replayed index.
          let parts = replayed-parts stopped.entered.made first.made m replayed in
          let one = first.told m parts.1 index in
          many.1 (map_after_calls first.made m) parts.0 one.0,
    )
  ];
}
