-- How a slot is copied.
use Rattle.std.proofs.Common.{◌≡◌, ◌∙◌, ℕ, suc, ◌+◌, ◌*◌, ◌<◌, [], ◌∷◌, ap, sym, subst, refl, inl, arith}
use Rattle.nb_core.specs.Plans.{Plan, generations_of, size_of}
use Rattle.nb_core.specs.Tables.{AreOthers, HasSlot, IsOnPath, Tables, path_slot, IsPassed, UpToDead}
use Rattle.nb_core.specs.Laws.{Lasts}
use Rattle.nb_core.specs.declared.states.KeyState.TheVariants.{Dead}
use Rattle.nb_core.specs.declared.events.Event.TheVariants.{Claim}
use Rattle.nb_table.specs.Chains.{ChainOf, Extended, IsOwn, SeenBy, seen_by}
use Rattle.nb_core.specs.History.{HasWay}
use Rattle.nb_table.proofs.Theorems.{steps_add_up}
use Rattle.nb_copy.proofs.Copied.{copied-more, copied-one, copied-own, copied-quiet, copied-within}
use Rattle.nb_copy.specs.Copying.{HasCopied}

-- what was seen of a key's path in the next table lets it be claimed there
pub claim-way :
    (p : Plan) (t u : Tables) → Lasts p t u → (g next i key : ℕ) → next ≡ suc g
    → suc g < generations_of p
    → HasSlot p t g key → IsOnPath p t (suc g) i key → HasWay p u next i key
claim-way p t u lasting g next i key is table below path =
    let way : HasWay p u (suc g) i key = record {
      path = record {
        distance = path.distance;
        in_table = path.in_table;
        at = path.at;
        passed = lasting.others (suc g) key path.distance table path.passed;
      };
      reason = inl (lasting.has_slot g key (omega arith) below);
    } in
    subst (λ f. HasWay p u f i key) (sym is) way

module _ (chain : ChainOf) (g : ℕ) (table : g < generations_of chain.shape) where
  abbrev p : Plan
  p = chain.shape

  -- two steps without an event
  pub two-quiet :
      {before then after : SeenBy} → IsOwn chain before → Extended p before then [] 1
      → Extended p then after [] 1
      → HasCopied p g before after [] 0 0 2
  two-quiet {before} {then} {after} own a b =
      copied-more chain g table (steps_add_up.own own (steps_add_up.one a))
      (copied-quiet p g before then a)
      (copied-quiet p g then after b)

  -- a claim in the next table of a key of the table, after a step without an event
  pub claimed-next :
      {before then after : SeenBy} (s f i key : ℕ) → f ≡ suc g → IsOwn chain before
      → HasSlot p (seen_by p before) g key
      → Extended p before then [] 1 → Extended p then after (Claim s f i key ∷ []) 1
      → HasCopied p g before after [] 0 0 2
  claimed-next {before} {then} {after} s f i key is own below a b =
      let own' = steps_add_up.own own (steps_add_up.one a) in
      let lasting = steps_add_up.stays own (steps_add_up.one a) in
      let lasting' = steps_add_up.stays own' (steps_add_up.one b) in
      copied-more chain g table own' (copied-quiet p g before then a)
      (copied-one p g then after (Claim s f i key) [] 0 0 b
      (is, lasting'.has_slot g key table (lasting.has_slot g key table below)) refl refl refl)

  -- a look at one more slot of the key's path in the next table
  pub looked-on :
      {start before after : SeenBy} (d : ℕ) → IsOwn chain start
      → HasCopied p g start before [] 0 0 (2 * d) → HasCopied p g before after [] 0 0 2
      → HasCopied p g start after [] 0 0 (2 * (d + 1))
  looked-on d own so_far look =
      copied-within (2 * d + 2) (2 * (d + 1)) (omega arith)
      (copied-more chain g table (copied-own chain g table own so_far) so_far look)

  -- and the end of the looks
  pub looked-last :
      {start before after : SeenBy} (d size : ℕ) → d < size → IsOwn chain start
      → HasCopied p g start before [] 0 0 (2 * d)
      → HasCopied p g before after [] 0 0 2 → HasCopied p g start after [] 0 0 (2 * size)
  looked-last d size near own so_far look =
      copied-within (2 * (d + 1)) (2 * size) (omega (arith, near)) (looked-on d own so_far look)

-- a closed slot behind other keys passes the key
pub passed-dead :
    (p : Plan) (t u : Tables) → Lasts p t u → (f key d i : ℕ) → f < generations_of p
    → d < size_of p f → AreOthers p t f key d
    → path_slot p f key d ≡ i → u.key f i ≡ Dead → IsPassed p u f key
passed-dead p t u lasting f key d i table near others at dead =
    UpToDead d near (lasting.others f key d table others) (ap (u.key f) at ∙ dead)
