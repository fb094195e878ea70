-- Laws that follow at once from the invariant.
use Rattle.std.proofs.Common.{◌≡◌, ℕ, ◌<◌, suc, [], ◌∷◌, ◌++◌, subst, inl, inr, arith}
use Rattle.std.proofs.lemmas.Bool.{cases_lt}
use Rattle.nb_core.specs.Plans.{Plan, IsPlan, Top, generations_of}
use Rattle.nb_core.specs.Tables.{IsComplete, Tables, tables_at}
use Rattle.nb_core.specs.History.{HasValue}
use Rattle.nb_core.specs.Laws.{CompletePassed, HasOneSlot, InstalledAfter, Moved, OnePlace, PassedSettled, Room, TopComplete}
use Rattle.nb_core.proofs.Keeping.{sound}
use Rattle.nb_core.proofs.Lasting.{complete-stays, content-some}
use Rattle.nb_core.proofs.Later.{beginnings_are_legal, seen_lasts}
use Rattle.nb_core.proofs.Places.{place_from-same}
use Rattle.nb_core.proofs.Room.{complete-passed, incomplete-room, passed-settled}
use Rattle.nb_core.proofs.Sound.{IsSound, HasGot, complete-below, complete-growing, one_slot}
use Rattle.nb_core.proofs.Steps.{Step, TopKept, Promotes, step_of}
use Rattle.nb_core.proofs.Words.{word-first}

pub has_one_slot : HasOneSlot
has_one_slot p plan h legal = one_slot p (tables_at p h) (sound p h plan legal)

pub installed_after : InstalledAfter
installed_after p plan h legal g installed = ((sound p h plan legal).ready g installed).1

-- a key that has got a number in a table has a value there
got-value : (p : Plan) (t : Tables) (g k : ℕ) → HasGot p t g k → HasValue p t g k
got-value p t g k got =
    let some = content-some (t.value g got.slot) got.content in
    record { slot = got.slot; in_table = got.is_slot.1; is = got.is; some = some }

pub moved : Moved
moved p plan h legal g i k n slot is finished =
    got-value p (tables_at p h) (suc g) k ((sound p h plan legal).moved g i k n slot is finished)

pub complete_passed : CompletePassed
complete_passed p plan h legal = complete-passed p (tables_at p h) plan (sound p h plan legal)

pub passed_settled : PassedSettled
passed_settled p plan h legal = passed-settled p (tables_at p h) plan (sound p h plan legal)

pub has_room : Room
has_room p plan h legal = incomplete-room p (tables_at p h) plan (sound p h plan legal)

pub one_place : OnePlace
one_place p plan later h legal =
    place_from-same p (tables_at p h) (tables_at p (later ++ h))
    (sound p h plan (beginnings_are_legal p later h legal))
    (sound p (later ++ h) plan legal) (seen_lasts p plan later h legal)

-- the tables below the top word are complete after a step too
top-right :
    (p : Plan) (t u : Tables) → IsPlan p → IsSound p t → Step p t u
    → ((g : ℕ) → g < t.top → (g < generations_of p) × IsComplete p t g) → (g : ℕ) → g < u.top
    → (g < generations_of p) × IsComplete p u g
top-right p t u plan s step right g below =
    elim (step.top) [
      | TopKept e ↦ (let before = right g (omega arith) in
          (before.0, complete-stays p t u step g before.0 before.1))
      | Promotes f within may e ↦
          let next : t.next f ≡ 1 = complete-growing p t plan s f within may.complete in
          elim (cases_lt g f) [
            | inl lower ↦ (
              omega arith,
              complete-stays p t u step g (omega arith)
                  (complete-below p t s (suc f) g (omega arith) next),
            )
            | inr upper ↦ (
              omega arith,
              complete-stays p t u step g (omega arith)
                  (subst (IsComplete p t) (omega arith) may.complete),
            )
          ]
    ]

pub top_complete : TopComplete
top_complete p plan [] legal g below = absurd (omega (arith, word-first p plan Top tt))
top_complete p plan (e ∷ h) legal g below =
    top-right p (tables_at p h) (tables_at p (e ∷ h)) plan (sound p h plan legal.0)
    (step_of p e h plan legal)
    (top_complete p plan h legal.0) g below
