-- What is known of lines before they are entered, and what it took to find it.
use Rattle.std.specs.List.{AllZip}
use Rattle.std.specs.Prelude.{◌≡◌, [], ◌++◌, ℕ, All, List, Some, map, reverse, slice_get}
use Rattle.nb_core.specs.declared.calls.Call.{Call}
use Rattle.nb_core.specs.declared.calls.Reply.{Reply}
use Rattle.nb_map.specs.Entries.{IsRead}
use Rattle.nb_map.specs.Handles.{HandleOf, KeepsRest, handle_on}
use Rattle.nb_map.specs.Logs.{HasLogged}
use Rattle.nb_texts.specs.Claims.{HasClaimedBy}
use Rattle.nb_texts.specs.Hashes.{hash_of}
use Rattle.nb_texts.specs.declared.clues.Clue.TheVariants.{Hash, Place}
use Rattle.nb_texts.specs.declared.clues.Clue.{Clue}
use Rattle.nb_texts.specs.declared.hashing.Hashing.{Hashing}

-- the clue to a line is right: the line is at this place among the texts, or has this hash
abbrev pub IsClueTo : Hashing → List (List ℕ) → (line : List ℕ) → Clue → Type 0
IsClueTo hashing texts line (Place place) = slice_get texts place ≡ Some line
IsClueTo hashing texts line (Hash hash) = hash ≡ hash_of hashing line

-- and so is each of these, line by line
abbrev pub AreCluesTo : Hashing → List (List ℕ) → (lines : List (List ℕ)) → List Clue → Type 0
AreCluesTo hashing texts = AllZip (IsClueTo hashing texts)

-- The handle is of its map still, with the same reserve, and its seat has made no calls but reads, and
-- claimed no slot for a new key.
pub record HasOnlyLooked (before after : HandleOf) : Type 0 where
  pub rest : KeepsRest before after
  pub made : List (Call × Reply)
  pub reads : All IsRead made
  pub logged : HasLogged before.seat after.seat made
  pub claims : HasClaimedBy before.map.chain.shape [] before.seat after.seat

-- and so has each of these
abbrev pub HaveOnlyLooked : (before after : List HandleOf) → Type 0
HaveOnlyLooked = AllZip HasOnlyLooked

-- These handles were parted from one: each has a seat of its reserve, the last one first.
pub record ArePartedFrom (before after : HandleOf) (parted : List HandleOf) : Type 0 where
  pub seats : before.reserve ≡ after.reserve ++ reverse (map (λ handle. handle.seat) parted)
  pub each : All (λ handle. handle ≡ handle_on before.map handle.seat) parted
