-- What a look at a key's home slot leaves open for a write.
use Rattle.std.proofs.Common.{◌≡◌, ◌∙◌, ◌==◌, ℕ, suc, ◌+◌, ◌-◌, ◌<◌, ◌≤◌, Bool, true, false, cond, List, [], ◌∷◌, None, Some, Result, ap, sym, subst, refl, inl, inr, arith}
use Rattle.std.proofs.lemmas.Bool.{eqb-false}
use Rattle.std.specs.Prelude.{IfErr}
use Rattle.nb_core.specs.Calls.{Fills, leaves_alone}
use Rattle.nb_core.proofs.Theorems.{limits_fit}
use Rattle.nb_core.specs.History.{HasWay, key_of_call}
use Rattle.nb_core.specs.Laws.{Lasts}
use Rattle.nb_core.specs.Paths.{IsOnPathAt}
use Rattle.nb_core.specs.Plans.{Plan, generations_of, size_of}
use Rattle.nb_core.specs.Tables.{IsInstalled, IsReady, IsUnprimed, Tables, path_slot}
use Rattle.nb_core.specs.declared.calls.Call.{Call}
use Rattle.nb_core.specs.declared.calls.Reply.{Reply}
use Rattle.nb_core.specs.declared.events.Event.TheVariants.{Claim}
use Rattle.nb_core.specs.declared.slot_paths.Slot.{Slot}
use Rattle.nb_core.specs.declared.states.KeyState.{KeyState}
use Rattle.nb_core.specs.declared.states.KeyState.TheVariants.{Claimed, Dead, Empty}
use Rattle.nb_core.specs.declared.states.ValueState.{ValueState}
use Rattle.nb_table.proofs.Theorems.{steps_add_up}
use Rattle.nb_table.specs.Chains.{ChainOf, Extended, IsOwn, SeenBy, seen_by}
use Rattle.nb_table.specs.Events.{read, shown_by_key}
use Rattle.nb_map.specs.Calling.{HasMade}
use Rattle.nb_map.specs.Logs.{as_replied, made_in}
use Rattle.nb_map.specs.Progress.{IsAloneAtHome, IsAtHome, IsHomeSlot, IsKnownHome, IsLastSeen, Unlimited, passed_since}
use Rattle.nb_map.specs.Refusals.{IsJust}
use Rattle.nb_map.specs.declared.faults.PutFault.{PutFault}
use Rattle.nb_map.specs.declared.steps.rung.Below.TheVariants.{Complete}
use Rattle.nb_map.specs.inside.Climbing.{IsAt, IsAtSlot, IsSpent, rung_at}
use Rattle.nb_map.specs.inside.Waiting.{HasBeenTold, HasLookedInVain}
use Rattle.nb_map.proofs.Claimed.{HasNoNext, made-claim, way-to}
use Rattle.nb_map.proofs.Home.{home-before, home-in, primed-away}
use Rattle.nb_map.proofs.Made.{made-more, made-none, made-own, made-quiet, made-read, made-stays, made-within, read_shown}
use Rattle.nb_map.proofs.OnPath.{at-home, found-on_path, load-on_path, slot-is}
use Rattle.nb_map.proofs.Rungs.{at-stays, slot-stays}
use Rattle.nb_map.proofs.Searched.{made-then, others-none, read-before, shown-other, shown-own, two-slots}
use Rattle.nb_map.proofs.Spent.{passed-sum, spent-none, spent-sooner}
use Rattle.nb_map.proofs.Straight.{at-known, in-vain, told-there}

-- A load of the key word of a slot of the key's path, which isn't the path's last one, isn't the
-- call's read, but where the slot is empty and the call leaves an absent key at that.
pub made-on_path :
    (chain : ChainOf) (call : Call) {before after : SeenBy} (g d i : ℕ) (s : KeyState)
    → IsOwn chain before → g < generations_of chain.shape → d + 1 < size_of chain.shape g
    → path_slot chain.shape g (key_of_call call) d ≡ i
    → (s ≡ Empty → leaves_alone call None ≡ false)
    → Extended chain.shape before after
    (read before.number call (shown_by_key chain.shape g i s (key_of_call call))) 1
    → HasMade chain.shape call before after [] 1
made-on_path chain call {before} {after} g d i Empty own table near at fills step =
    subst (λ made. HasMade chain.shape call before after made 1)
    (ap (λ b. cond b (as_replied call None) []) (fills refl))
    (made-read chain.shape call (Some None) step)
made-on_path chain call g d i Dead own table near at fills step = made-quiet chain.shape call step
made-on_path chain call {before} {after} g d i (Claimed other) own table near at fills step =
    own-or-not (other == k) refl
  where
    p : Plan
    p = chain.shape

    k : ℕ
    k = key_of_call call

    own-or-not : (b : Bool) → (other == k) ≡ b → HasMade p call before after [] 1
    own-or-not true is =
        made-quiet p call
        (subst (λ shown. Extended p before after (read before.number call shown) 1)
        (shown-own p g i k k other refl (sym is)) step)
    own-or-not false is =
        let none = ap (λ i. read_shown call (shown_by_key p g i (Claimed other) k)) (sym at)
        ∙ shown-other chain g table call d other (omega (arith, near)) (eqb-false other k is)
        ∙ read-before p g call (d + 1) near in
        subst (λ made. HasMade p call before after made 1) none
        (made-read p call (shown_by_key p g i (Claimed other) k) step)

-- A write has loaded the key word of its key's home slot in the table that its seat remembers, and
-- has found this.
pub record HasLooked (chain : ChainOf) (call : Call) (start looked : SeenBy) (g : ℕ) (home : Slot)
    (word : KeyState) : Type 0 where
  pub own : IsOwn chain start
  pub top : g ≡ start.top
  pub place : IsOnPathAt chain.shape g (key_of_call call) 0 home
  pub grows :
      Extended chain.shape start looked
      (read start.number call (shown_by_key chain.shape home.g home.i word (key_of_call call))) 1
  pub found : (seen_by chain.shape looked).key home.g home.i ≡ word

-- The slot is the key's now: it was, or is claimed for it.
pub record HasHome (chain : ChainOf) (call : Call) (looked there : SeenBy) (home : Slot)
    (word : KeyState) : Type 0 where
  pub fills : word ≡ Empty → Fills call
  pub made : HasMade chain.shape call looked there [] 2
  pub claimed : IsHomeSlot chain.shape (seen_by chain.shape there) home.g (key_of_call call)
  pub kept : word ≡ Claimed (key_of_call call) → there ≡ looked

module _ (chain : ChainOf) {call : Call} {start looked : SeenBy} {g : ℕ} {home : Slot}
    {word : KeyState} (look : HasLooked chain call start looked g home word) where
  abbrev p : Plan
  p = chain.shape

  abbrev k : ℕ
  k = key_of_call call

  pub at-look : IsAt chain call start (rung_at g)
  at-look = at-known chain g look.own look.top call

  pub mine : IsOwn chain looked
  mine = steps_add_up.own look.own (steps_add_up.one look.grows)

  -- a home slot that holds another key, or is closed
  pub other-home :
      (t : Tables) (s : KeyState) → t.key home.g home.i ≡ s → (s ≡ Empty → ⊥)
      → (s ≡ Claimed k → ⊥) → IsAtHome p t g k → ⊥
  other-home t s is some other at =
      let here = found-on_path t s look.place is in
      elim at [
        | inl empty ↦ some (sym here ∙ empty)
        | inr own ↦ other (sym here ∙ own.0)
      ]

  -- where there is no next table it may claim the slot
  module _ {then : SeenBy} (next : HasNoNext chain call looked then g) where
    stays : Lasts p (seen_by p looked) (seen_by p then)
    stays = made-stays chain mine next.made

    first : Lasts p (seen_by p start) (seen_by p looked)
    first = steps_add_up.stays look.own (steps_add_up.one look.grows)

    pub still-installed : IsInstalled (seen_by p then) home.g
    still-installed =
        subst (λ (home : Slot). IsInstalled (seen_by p then) home.g) (sym look.place.is)
        (stays.installed g (first.installed g at-look.reached.installed))

    pub way-home : {key : ℕ} → key ≡ k → HasWay p (seen_by p then) home.g home.i key
    way-home {key} same =
        let seen = seen_by p then in
        let limit = limits_fit p look.own.plan home.g look.place.placed.slot.0 in
        let table = at-look.table in
        way-to p seen home.g home.i key 0 Complete (λ passed. cc)
        (subst (λ (home : Slot). IsReady p seen home.g) (sym look.place.is)
        (stays.ready g table (first.ready g table at-look.known)))
        (omega (arith, limit.0, limit.1)) (omega (arith, limit.0))
        (ap (λ k. path_slot p home.g k 0) same ∙ slot-is look.place)
        (others-none p seen home.g key)

    -- which another may have done before
    pub lost-claim :
        {there : SeenBy} → Extended p then there [] 1 → HasMade p call looked there [] 2
    lost-claim lost = made-more chain mine next.made (made-quiet p call lost)

    -- so the slot came to be the key's
    came-home :
        {there : SeenBy} → word ≡ Empty → Fills call → HasMade p call looked there [] 2
        → (seen_by p there).key home.g home.i ≡ Claimed k
        → HasHome chain call looked there home word
    came-home {there} empty fills made claimed = record {
      fills = λ none. fills;
      made = made;
      claimed = ap ((seen_by p there).key home.g) (slot-is look.place) ∙ claimed;
      kept = λ own. absurd (let both : Empty ≡ Claimed k = sym empty ∙ own in cc);
    }

    pub won-home :
        {there seat : SeenBy} {key : ℕ} → seat ≡ there → word ≡ Empty → Fills call → key ≡ k
        → Extended p then there (Claim then.number home.g home.i key ∷ []) 1
        × ((seen_by p there).key home.g home.i ≡ Claimed key)
        → HasHome chain call looked seat home word
    won-home {key = key} is empty fills same won =
        subst (λ (seat : SeenBy). HasHome chain call looked seat home word) (sym is)
        (came-home empty fills
        (made-more chain mine next.made
        (made-claim chain call key home.g home.i (sym same) fills look.place.placed.slot.0
        (subst (λ (home : Slot). IsInstalled (seen_by p then) (suc home.g) → ⊥) (sym look.place.is)
        next.none) won.0))
        (won.1 ∙ ap Claimed same))

    pub lost-home :
        {there seat : SeenBy} {s : KeyState} → seat ≡ there → word ≡ Empty → Fills call
        → Extended p then there [] 1 × ((seen_by p there).key home.g home.i ≡ s) → s ≡ Claimed k
        → HasHome chain call looked seat home word
    lost-home is empty fills lost own =
        subst (λ (seat : SeenBy). HasHome chain call looked seat home word) (sym is)
        (came-home empty fills (lost-claim lost.0) (lost.1 ∙ own))

  -- or it was
  pub was-home :
      {seat : SeenBy} → seat ≡ looked → word ≡ Claimed k → HasHome chain call looked seat home word
  was-home is own =
      subst (λ (seat : SeenBy). HasHome chain call looked seat home word) (sym is) (record {
        fills = λ empty. absurd (let both : Empty ≡ Claimed k = sym empty ∙ own in cc);
        made = made-within 0 2 (omega arith) (made-none chain call looked mine);
        claimed = ap ((seen_by p looked).key home.g) (slot-is look.place) ∙ look.found ∙ own;
        kept = λ own. refl;
      })

  -- it may be claimed the slot since
  module _ {there : SeenBy} (fills : word ≡ Empty → Fills call)
      (claim : HasMade p call looked there [] 2) where
    -- that was no call
    pub made-look : HasMade p call start there [] 3
    made-look =
        made-then look.own
        (made-on_path chain call g 0 (path_slot p g k 0) word look.own at-look.table
        (two-slots p look.own.plan g at-look.table) refl fills
        (load-on_path call word look.place look.grows)) claim

    -- and one step was made at least
    looked-on :
        {after : SeenBy} {calls : List (Call × Reply)} {most : ℕ}
        → HasMade p call there after calls most → start.steps < after.steps
    looked-on made =
        omega (
          arith,
          (steps_add_up.one look.grows).steps,
          claim.grown.steps,
          made.grown.steps,
        )

    -- where the key is at home in the end, and was known there if the call puts a number at an
    -- absent key, the slot was the key's
    own-slot :
        {after : SeenBy} {calls : List (Call × Reply)} {most : ℕ}
        → HasMade p call there after calls most → IsAloneAtHome p g call start after
        → IsKnownHome p g call start → word ≡ Claimed k
    own-slot {after} made alone known =
        let first = steps_add_up.stays look.own (steps_add_up.one look.grows) in
        let second = made-stays chain mine (made-then mine claim made) in
        let found = sym (found-on_path (seen_by p looked) word look.place look.found) in
        elim (home-before p (seen_by p looked) (seen_by p after) second g k at-look.table alone.home) [
          | inl empty ↦
              let none = found ∙ empty in
              let still = first.claimed g _ k (home-in p g k at-look.table) (known.known (fills none)) in
              let both : Empty ≡ Claimed k = sym empty ∙ still in
              absurd cc
          | inr here ↦ found ∙ here.0
        ]

    -- it goes on where the slot isn't the key's: the key isn't at home, or there is a next table
    pub goes-on :
        (word ≡ Claimed k → ⊥)
        → (IsLastSeen p g there → IsAtHome p (seen_by p there) g k → ⊥)
        → HasLookedInVain chain call start there 0
    goes-on other away =
        let quiet = made-none chain call there (made-own chain look.own made-look) in
        in-vain chain g look.own look.top 1 (made-within 3 _ (omega arith) made-look)
        (spent-none call start there 1) (looked-on quiet)
        (λ alone way. elim way [
          | inl known ↦ other (own-slot quiet alone known)
          | inr last ↦ away last alone.home
        ])

  -- or has it
  module _ {there : SeenBy} (has : HasHome chain call looked there home word) where
    came : HasMade p call start there [] 3
    came = made-look has.fills has.made

    pub at-home-slot : IsAtSlot chain call there home
    at-home-slot = at-home chain look.place (at-stays chain at-look came) has.claimed

    -- who is alone with the key at home, which it knew as the key's, has made one step
    one-step :
        {after : SeenBy} {calls : List (Call × Reply)} {most : ℕ}
        → HasMade p call there after calls most → IsAloneAtHome p g call start after
        → IsKnownHome p g call start → there.steps ≤ start.steps + 1
    one-step made alone known =
        let same = ap (λ (s : SeenBy). s.steps)
        (has.kept (own-slot has.fills has.made made alone known)) in
        omega (arith, (steps_add_up.one look.grows).steps, same)

    -- with the call at the slot, three steps, and five where it was claimed
    pub told-here :
        {after : SeenBy} {left : ℕ} (told : Result Reply PutFault)
        → HasMade p call there after (made_in call told) (2 + (1 - left))
        → IsSpent call there after 1 left → IfErr told (IsJust p call start after Unlimited)
        → HasBeenTold p call start after told
    told-here {left = left} told made spent refused =
        let sum = passed-sum call came.grown made.grown in
        told-there chain g look.own look.top left told
        (made-within _ _ (omega arith) (made-then look.own came made)) refused
        (looked-on has.fills has.made made)
        (λ alone known.
        omega (
          arith,
          one-step made alone known,
          made.grown.steps,
          made.few,
          alone.alone,
          spent.lost,
          sum,
        ))
        (λ alone last.
        omega (
          arith,
          came.grown.steps,
          came.few,
          made.grown.steps,
          made.few,
          alone.alone,
          spent.lost,
          sum,
        ))

    -- or the try there was in vain
    vain-here :
        {after : SeenBy} {left : ℕ} → HasMade p call there after [] (2 + (1 - left))
        → IsSpent call there after 1 left → (IsAloneAtHome p g call start after → ⊥)
        → HasLookedInVain chain call start after (1 - left)
    vain-here {left = left} made spent away =
        in-vain chain g look.own look.top left
        (made-within _ _ (omega arith) (made-then look.own came made))
        (spent-sooner came.grown made.grown spent) (looked-on has.fills has.made made)
        (λ alone way. away alone)

    -- another came before it
    pub lost-here :
        {after : SeenBy} {left : ℕ} → HasMade p call there after [] (2 + (1 - left))
        → IsSpent call there after 1 left → 1 ≤ passed_since call there after
        → HasLookedInVain chain call start after (1 - left)
    lost-here made spent passed =
        let sum = passed-sum call came.grown made.grown in
        vain-here made spent (λ alone. absurd (omega (arith, alone.alone, sum, passed)))

    -- or the slot is being copied
    pub primed-here :
        {after : SeenBy} {left : ℕ} (value : ValueState)
        → HasMade p call there after [] (2 + (1 - left)) → IsSpent call there after 1 left
        → (IsUnprimed value → ⊥) → (seen_by p after).value home.g home.i ≡ value
        → HasLookedInVain chain call start after (1 - left)
    primed-here {after} value made spent primed held =
        let seen = seen_by p after in
        vain-here made spent
        (λ alone.
        primed-away p seen g k
        (subst (λ (home : Slot). seen.key home.g home.i ≡ Claimed k) look.place.is
        (slot-stays chain at-home-slot made).claimed)
        (λ unprimed.
        primed (subst IsUnprimed
        (subst (λ (home : Slot). seen.value home.g home.i ≡ value) look.place.is held) unprimed))
        alone.home)
