-- Lines are entered: texts, and a map in which each is found by its hash.
use Rattle.std.specs.FinMap.{get, len}
use Rattle.std.specs.Prelude.{◌≡◌, ◌<◌, ◌≤◌, ◌⊎◌, ◌^◌, ℕ, false, List, [], ◌∷◌, ◌++◌, All, None, Some, length, map, slice_get}
use Rattle.nb_core.specs.Log.{Numbers, map_after, reply_of}
use Rattle.nb_core.specs.Meaning.{IsCrowded}
use Rattle.nb_core.specs.Plans.{Plan}
use Rattle.nb_core.specs.declared.calls.Call.{Call}
use Rattle.nb_core.specs.declared.calls.Reply.{Reply}
use Rattle.nb_map.specs.Logs.{HasLogged}
use Rattle.nb_map.specs.Maps.{SeatOf}
use Rattle.nb_map.specs.NamedCalls.{put_if_absent_of}
use Rattle.nb_texts.specs.Claims.{HasClaimedBy}
use Rattle.nb_texts.specs.Lines.{is_among, with_new_lines}

-- ---- where a map has texts

-- The map has this place at one of the keys, and something at each key before that one.
pub record IsFoundAt (key : ℕ → ℕ) (m : Numbers) (place : ℕ) : Type 0 where
  pub tries : ℕ
  pub at : get m (key tries) ≡ Some place
  pub passed : (earlier : ℕ) → earlier < tries → (other : ℕ) × (get m (key earlier) ≡ Some other)

-- each text is found at the keys for it, and the map has as many keys as there are texts
pub record IsIndex (key : List ℕ → ℕ → ℕ) (texts : List (List ℕ)) (m : Numbers) : Type 0 where
  pub found :
      (place : ℕ) (text : List ℕ) → slice_get texts place ≡ Some text
      → IsFoundAt (key text) m place
  pub keys : len m ≡ length texts

-- ---- calls one after another, the newest first

-- the map that they leave of this one
abbrev pub map_after_calls : List (Call × Reply) → Numbers → Numbers
map_after_calls [] m = m
map_after_calls (made ∷ calls) m = map_after made.0 (map_after_calls calls m)

-- each replies as the map does that the calls before it leave
abbrev pub AreReplayed : List (Call × Reply) → Numbers → Type 0
AreReplayed [] m = Unit {0}
AreReplayed (made ∷ calls) m =
    (made.1 ≡ reply_of made.0 (map_after_calls calls m)) × AreReplayed calls m

-- the call puts a number at a key that has none
abbrev pub PutsIfAbsent : Call × Reply → Type 0
PutsIfAbsent made = (key number : ℕ) × (made.0 ≡ put_if_absent_of key number)

abbrev pub calls_in : List (Call × Reply) → List Call
calls_in made = map (λ (made : Call × Reply). made.0) made

-- ---- lines are entered

-- The seat has made puts, and claimed slots for them alone. If they reply as a map does that is an
-- index of the texts, then the texts have become those with these lines, and the map that the puts
-- leave is an index of them.
pub record HasEntered (p : Plan) (key : List ℕ → ℕ → ℕ) (before after : SeatOf)
    (texts texts' lines : List (List ℕ)) : Type 0 where
  pub made : List (Call × Reply)
  pub logged : HasLogged before after made
  pub puts : All PutsIfAbsent made
  pub claims : HasClaimedBy p (calls_in made) before after
  pub told :
      (m : Numbers) → AreReplayed made m → IsIndex key texts m
      → IsIndex key texts' (map_after_calls made m) × (texts' ≡ with_new_lines texts lines)

-- The seat has made calls. If they reply as a map does that is an index of the texts, the map that they
-- leave is an index of those that there are now.
pub record HasKeptIndex (key : List ℕ → ℕ → ℕ) (before after : SeatOf) (texts texts' : List (List ℕ)) :
    Type 0 where
  pub made : List (Call × Reply)
  pub logged : HasLogged before after made
  pub told :
      (m : Numbers) → AreReplayed made m → IsIndex key texts m
      → IsIndex key texts' (map_after_calls made m)

-- The seat has claimed slots for a put at this key alone, which is refused: other keys have all slots.
pub record HasNoSlot (p : Plan) (key : ℕ) (before after : SeatOf) : Type 0 where
  pub number : ℕ
  pub logged : HasLogged before after []
  pub claims : HasClaimedBy p (put_if_absent_of key number ∷ []) before after
  pub crowded : IsCrowded p after.chain.seen key

-- Of these lines the first ones were entered, and the next one can't be: it isn't there, if nothing is
-- at a key for it, and this key has no slot; or there are 2^60 texts or more.
pub record HasNoRoomFor (p : Plan) (key : List ℕ → ℕ → ℕ) (before after : SeatOf)
    (texts lines : List (List ℕ)) : Type 0 where
  pub done : List (List ℕ)
  pub line : List ℕ
  pub left : List (List ℕ)
  pub are : lines ≡ done ++ line ∷ left
  pub then : SeatOf
  pub known : List (List ℕ)
  pub entered : HasEntered p key before then texts known done
  pub tries : ℕ
  pub new :
      (m : Numbers) → AreReplayed entered.made m → IsIndex key texts m
      → get (map_after_calls entered.made m) (key line tries) ≡ None
      → is_among line known ≡ false
  pub full :
      HasNoSlot p (key line tries) then after
      ⊎ (then ≡ after)
      × ((m : Numbers) → AreReplayed entered.made m → IsIndex key texts m → 2 ^ 60 ≤ length known)
