-- A put at a key that never had a number looks at its key's home slot, and claims that where it is
-- empty.
use Rattle.std.proofs.Common.{◌≡◌, ◌∙◌, ℕ, suc, ◌<◌, ◌≤◌, [], ◌∷◌, ap, refl, arith}
use Rattle.nb_core.proofs.Theorems.{limits_fit}
use Rattle.nb_core.specs.History.{HasWay}
use Rattle.nb_core.specs.Paths.{IsOnPathAt}
use Rattle.nb_core.specs.Plans.{Plan, generations_of}
use Rattle.nb_core.specs.declared.events.Event.TheVariants.{Claim}
use Rattle.nb_core.specs.declared.slot_paths.Slot.{Slot}
use Rattle.nb_table.proofs.Theorems.{steps_add_up}
use Rattle.nb_table.specs.Chains.{ChainOf, Extended, IsOwn, SeenBy, seen_by}
use Rattle.nb_map.specs.Calling.{HasMade}
use Rattle.nb_map.specs.FirstPut.{first_entry}
use Rattle.nb_map.specs.NamedCalls.{put_if_absent_of}
use Rattle.nb_map.specs.declared.steps.first.First.{First}
use Rattle.nb_map.specs.declared.steps.first.First.TheVariants as first
use Rattle.nb_map.specs.declared.steps.rung.Below.TheVariants.{Complete}
use Rattle.nb_map.specs.inside.Firsts.{IsFirst}
use Rattle.nb_map.proofs.Claimed.{first-ready, made-claim, way-to}
use Rattle.nb_map.proofs.Made.{made-quiet}
use Rattle.nb_map.proofs.OnPath.{slot-is}
use Rattle.nb_map.proofs.Searched.{made-then, others-none, table-within}

module _ (chain : ChainOf) {key : ℕ} {home : Slot} (place : IsOnPathAt chain.shape 0 key 0 home)
  where
    table : home.g ≡ 0
    table = ap (λ (home : Slot). home.g) place.is

    -- it may be claimed
    pub way-first :
        {seat : SeenBy} → IsOwn chain seat
        → HasWay chain.shape (seen_by chain.shape seat) home.g home.i key
    way-first {seat} own =
        let p = chain.shape in
        let seen = seen_by p seat in
        let limit = limits_fit p own.plan home.g place.placed.slot.0 in
        way-to p seen home.g home.i key 0 Complete (λ passed. cc)
        (first-ready p seen home.g (omega (arith, table)))
        (omega (arith, limit.0, limit.1)) (omega (arith, limit.0)) (slot-is place)
        (others-none p seen home.g key)

    module _ (number : ℕ) {start looked then : SeenBy} (own : IsOwn chain start)
        (load : Extended chain.shape start looked [] 1) where
      -- it was claimed
      pub made-home :
          generations_of chain.shape ≡ 1
          → Extended chain.shape looked then (Claim looked.number home.g home.i key ∷ []) 1
          → HasMade chain.shape (put_if_absent_of key number) start then [] 2
      made-home single won =
          let p = chain.shape in
          let put = put_if_absent_of key number in
          let mine = steps_add_up.own own (steps_add_up.one load) in
          made-then own (made-quiet p put load)
          (made-claim chain put key home.g home.i refl refl place.placed.slot.0
          (λ next.
          let within = table-within chain looked mine (suc home.g) next in
          omega (arith, within, single, table))
          won)

      -- or another has come before
      pub made-missed :
          Extended chain.shape looked then [] 1
          → HasMade chain.shape (put_if_absent_of key number) start then [] 2
      made-missed lost =
          let put = put_if_absent_of key number in
          made-then own (made-quiet chain.shape put load) (made-quiet chain.shape put lost)

-- what a put comes to, said of the seat before some steps of its own
pub first-sooner :
    (p : Plan) (key number : ℕ) (start then after : SeenBy) (told : First)
    → then.number ≡ start.number → IsFirst p key number then after told
    → IsFirst p key number start after told
first-sooner p key number start then after first.Put same is =
    (is.0, is.1 ∙ ap (λ n. first_entry n key number ∷ is.0) same, is.2)
first-sooner p key number start then after (first.Found n) same is = is
first-sooner p key number start then after first.Had same is = is
first-sooner p key number start then after first.Full same is = is
