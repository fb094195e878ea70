-- How a slot for a key is claimed, and how a table is completed where there is none.
use Rattle.std.proofs.Common.{◌≡◌, ◌≢◌, ◌∙◌, ℕ, ◌==◌, zero, suc, ◌+◌, ◌-◌, ◌*◌, ◌<◌, ◌≤◌, ◌⊎◌, Bool, true, false, IsTrue, cond, List, [], ◌∷◌, ◌++◌, None, ap, sym, subst, subst₂, refl, inl, inr, arith}
use Rattle.nb_core.specs.Calls.{leaves_alone}
use Rattle.nb_core.specs.History.{HasWay, key_of_call}
use Rattle.nb_core.specs.Tables.{IsPassed, AreOthers, HasSlotBelow, IsComplete, IsInstalled, IsReady, Tables, path_slot, tables_at}
use Rattle.nb_core.specs.Meaning.{IsCrowded}
use Rattle.nb_core.specs.Plans.{Plan, generations_of, limit_of, size_of}
use Rattle.nb_core.specs.declared.calls.Call.{Call}
use Rattle.nb_core.specs.declared.calls.Reply.{Reply}
use Rattle.nb_core.specs.declared.events.Event.TheVariants.{Claim, Install}
use Rattle.nb_core.specs.declared.states.KeyState.{KeyState}
use Rattle.nb_core.specs.declared.states.KeyState.TheVariants.{Claimed, Dead, Empty}
use Rattle.nb_table.specs.Chains.{ChainOf, Extended, IsOwn, SeenBy, seen_by}
use Rattle.nb_copy.specs.Handing.{HasCompleted, table_steps}
use Rattle.nb_map.specs.Logs.{as_replied}
use Rattle.nb_map.proofs.Made.{made-copied, made-more, made-none, made-quiet, made-step, made-within}
use Rattle.nb_map.proofs.Searched.{made-then, table-within}
use Rattle.nb_map.specs.Calling.{HasMade, IsBeforeNext}
use Rattle.nb_map.specs.inside.Reading.{read_at}
use Rattle.nb_map.specs.Steps.{probe_steps}
use Rattle.nb_map.specs.inside.Climbing.{GoesAbove, HasBelow}
use Rattle.nb_map.specs.Steps.{search_steps, grow_steps, owed_below, steps_below}
use Rattle.nb_map.specs.declared.steps.rung.Below.{Below}
use Rattle.nb_map.specs.declared.steps.rung.Below.TheVariants.{Complete, HasKey, Passed}
use Rattle.nb_map.specs.declared.steps.rung.Rung.{Rung}
use Rattle.nb_map.specs.declared.steps.search.PathEnd.{PathEnd}
use Rattle.nb_map.specs.declared.steps.search.PathEnd.TheVariants as ends
use Rattle.nb_core.proofs.Theorems.{complete_passed, linked, whole_crowded}

-- a table below that isn't known to be complete is owed all its steps
pub owed-all :
    (p : Plan) (g : ℕ) (below : Below) → below ≢ Complete → owed_below p g below ≡ steps_below p g
owed-all p g Complete unknown = absurd (unknown refl)
owed-all p g HasKey unknown = refl
owed-all p g Passed unknown = refl

-- at most all, in any case
pub owed-most : (p : Plan) (g : ℕ) (below : Below) → owed_below p g below ≤ steps_below p g
owed-most p g Complete = omega arith
owed-most p g HasKey = omega arith
owed-most p g Passed = omega arith

-- the table below the first one needs no completing
pub first-ready : (p : Plan) (t : Tables) (g : ℕ) → g ≤ 0 → IsReady p t g
first-ready p t zero low = tt
first-ready p t (suc g) low = absurd (omega (arith, low))

-- the table below another was completed
pub completed-below :
    (call : Call) (chain : ChainOf) → (g : ℕ) {before after : SeenBy} → 0 < g
    → g < generations_of chain.shape
    → HasCompleted chain.shape (g - 1) before after
    → HasMade chain.shape call before after [] (steps_below chain.shape g)
    × IsReady chain.shape (seen_by chain.shape after) g
completed-below call chain zero some table done = absurd (omega (arith, some))
completed-below call chain (suc g) {before} {after} some table done =
    let same : suc g - 1 ≡ g = omega arith in
    let done' = subst (λ f. HasCompleted chain.shape f before after) same done in
    (made-copied chain call table refl done'.copied, done'.complete)

-- a slot within the limit may be claimed, by what is known of the table below
pub way-to :
    (p : Plan) (t : Tables) (g i k d : ℕ) (below : Below) → below ≢ Passed → HasBelow p t g k below
    → d < size_of p g → d < limit_of p g
    → path_slot p g k d ≡ i → AreOthers p t g k d → HasWay p t g i k
way-to p t g i k d below known has near within at others = record {
  path = record { distance = d; in_table = near; at = at; passed = others };
  reason = why below known has;
}
  where
    why : (below : Below) → below ≢ Passed → HasBelow p t g k below → HasSlotBelow p t g k
        ⊎ (IsReady p t g × (d < limit_of p g))
    why Complete known has = inr (has, within)
    why HasKey known has = inl has
    why Passed known has = absurd (known refl)

-- neither a closed slot nor a key's is empty
pub dead-empty : (s : KeyState) → s ≡ Dead → s ≢ Empty
dead-empty s is empty = cc

pub claimed-empty : (s : KeyState) (k : ℕ) → s ≡ Claimed k → s ≢ Empty
claimed-empty s k is empty = cc

-- an empty slot isn't among those that other keys have
pub empty-behind :
    (p : Plan) (t : Tables) (g k from d : ℕ) → AreOthers p t g k from
    → t.key g (path_slot p g k d) ≡ Empty → from ≤ d
empty-behind p t g k from d others empty = elim (before-or-not d from) [
  | inl near ↦
      let other = others d near in
      absurd (claimed-empty (t.key g (path_slot p g k d)) other.other other.is empty)
  | inr far ↦ far
]
  where
    before-or-not : (a b : ℕ) → (a < b) ⊎ (b ≤ a)
    before-or-not a b = grind arith

-- a complete table has a next one
pub complete-next :
    (chain : ChainOf) (seat : SeenBy) → IsOwn chain seat → (g : ℕ) → g < generations_of chain.shape
    → IsComplete chain.shape (seen_by chain.shape seat) g
    → IsInstalled (seen_by chain.shape seat) (suc g)
complete-next chain seat own g table complete =
    (linked chain.shape own.plan seat.seen own.legal).complete g table
    complete

-- above a complete table, which has a next one, a call may go on
pub above-complete :
    (chain : ChainOf) (call : Call) (seat : SeenBy) → IsOwn chain seat → (g : ℕ)
    → g < generations_of chain.shape → IsComplete chain.shape (seen_by chain.shape seat) g
    → IsInstalled (seen_by chain.shape seat) (suc g)
    → GoesAbove chain.shape call seat g Complete
above-complete chain call seat own g table complete next =
    let pass : IsPassed chain.shape (seen_by chain.shape seat) g (key_of_call call) =
    complete_passed chain.shape own.plan seat.seen own.legal g (key_of_call call) table complete in
    ((pass, next), complete)

-- where other keys have a key's whole path in the last table, there is no slot for the key
pub whole-full :
    (chain : ChainOf) (seat : SeenBy) → IsOwn chain seat → (g k : ℕ)
    → g + 1 ≡ generations_of chain.shape → AreOthers chain.shape (seen_by chain.shape seat) g k
    (size_of chain.shape g)
    → IsCrowded chain.shape seat.seen k
whole-full chain seat own g k last others =
    let q = chain.shape in
    let at : g ≡ generations_of q - 1 = omega (arith, last) in
    whole_crowded q own.plan seat.seen own.legal k
    (subst (λ f. AreOthers q (tables_at q seat.seen) f k (size_of q f)) at others)

-- slots of other keys are so up to any nearer one
pub others-nearer :
    (p : Plan) (t : Tables) (g k d e : ℕ) → e ≤ d → AreOthers p t g k d → AreOthers p t g k e
others-nearer p t g k d e nearer others f near = others f (omega (arith, near, nearer))

-- ---- what was done

-- A look at a table's next word, unless it is the last one, showed no next table.
pub record HasNoNext (chain : ChainOf) (call : Call) (before after : SeenBy) (g : ℕ) : Type 0 where
  pub made : HasMade chain.shape call before after [] 1
  pub none : IsInstalled (seen_by chain.shape after) (suc g) → ⊥

module _ (chain : ChainOf) where
  abbrev p : Plan
  p = chain.shape

  -- a table was installed, or was there already
  pub made-install :
      (call : Call) (key g : ℕ) {before after : SeenBy} (result : Bool) → key_of_call call ≡ key
      → leaves_alone call None ≡ false
      → (IsTrue result → Extended p before after (Install before.number g key ∷ []) 1)
      → (result ≡ false → Extended p before after [] 1)
      → HasMade p call before after [] 1
  made-install call key g {before} {after} true is acts won lost =
      made-step p call (won refl) refl (sym is, acts) (λ h. refl) (λ f. refl)
  made-install call key g false is acts won lost = made-quiet p call (lost refl)

  -- a slot was claimed for the call's key, where no next table was seen
  pub made-claim :
      (call : Call) (key g i : ℕ) {before after : SeenBy} → key_of_call call ≡ key
      → leaves_alone call None ≡ false → g < generations_of p
      → (IsInstalled (seen_by p before) (suc g) → ⊥)
      → Extended p before after (Claim before.number g i key ∷ []) 1
      → HasMade p call before after [] 1
  made-claim call key g i {before} {after} is acts table no_next won =
      let first : IsBeforeNext p before.seen after.seen g (Claim before.number g i key) = record {
        seen = before.seen;
        begun = record { later = []; is = refl };
        no_next = no_next;
        met = won.others ++ before.seen;
        rested = record { later = won.others; is = refl; others = won.not_own };
        claimed = record { later = []; is = won.seen };
      } in
      made-step p call won refl (table, inr (sym is, acts, first)) (λ h. refl) (λ f. refl)

  -- the last table has no next one
  pub last-table :
      (call : Call) {before seat : SeenBy} {g n : ℕ} → seat ≡ before → IsOwn chain before
      → n ≡ generations_of p → n ≤ g + 1 → HasNoNext chain call before seat g
  last-table call {before} {g = g} is own tables last =
      subst (λ (seat : SeenBy). HasNoNext chain call before seat g) (sym is) (record {
        made = made-within 0 1 (omega arith) (made-none chain call before own);
        none = λ next.
            omega (arith, table-within chain before own (suc g) next, tables, last);
      })

  -- another has none where a load showed none
  pub none-seen :
      (call : Call) {before after seat : SeenBy} {g : ℕ} → seat ≡ after
      → Extended p before after [] 1 → (IsInstalled (seen_by p after) (suc g) → false ≡ true)
      → HasNoNext chain call before seat g
  none-seen call {before} {g = g} is load none =
      subst (λ (seat : SeenBy). HasNoNext chain call before seat g) (sym is) (record {
        made = made-quiet p call load;
        none = λ next. absurd (let both = none next in cc);
      })

  -- then a table was completed
  pub made-complete :
      {call : Call} {before then after : SeenBy} {g most : ℕ} → suc g < generations_of p
      → IsOwn chain before
      → HasMade p call before then [] most → HasCompleted p g then after
      → HasMade p call before after [] (most + table_steps p g)
  made-complete {call} next own so_far done =
      made-more chain own so_far (made-copied chain call next refl done.copied)

-- ---- what is known of the table below

-- A call that has come to an empty slot at this distance has come to this rung, before it claims
-- the slot: the table below is complete or the key has a slot in it.
pub record HasSettled (chain : ChainOf) (call : Call) (at : Rung) (d : ℕ) (before after : SeenBy)
    (rung : Rung) : Type 0 where
  pub is : rung ≡ record { g = at.g; from = d; below = rung.below }
  pub known : rung.below ≢ Passed
  pub fewer : owed_below chain.shape at.g rung.below ≤ owed_below chain.shape at.g at.below
  pub made :
      HasMade chain.shape call before after []
      (owed_below chain.shape at.g at.below - owed_below chain.shape at.g rung.below)
  pub has :
      (k : ℕ) → HasBelow chain.shape (seen_by chain.shape before) at.g k at.below
      → HasBelow chain.shape (seen_by chain.shape after) at.g k rung.below

module _ (chain : ChainOf) (call : Call) {at rung : Rung} {d : ℕ} {before seat : SeenBy} where
  -- the table below has been completed for it
  pub settled-now :
      {after : SeenBy} → seat ≡ after → rung ≡ record { g = at.g; from = d; below = Complete }
      → HasMade chain.shape call before after [] (owed_below chain.shape at.g at.below)
      → IsReady chain.shape (seen_by chain.shape after) at.g
      → HasSettled chain call at d before seat rung
  settled-now here is made ready =
      subst₂ (λ (seat : SeenBy) (rung : Rung). HasSettled chain call at d before seat rung) (sym here)
      (sym is) (record {
        is = refl;
        known = λ same. cc;
        fewer = omega arith;
        made = made-within _ _ (omega arith) made;
        has = λ k has. ready;
      })

  -- or it knew enough
  pub settled-before :
      seat ≡ before → rung ≡ record { g = at.g; from = d; below = at.below } → at.below ≢ Passed
      → IsOwn chain before → HasSettled chain call at d before seat rung
  settled-before here is known own =
      subst₂ (λ (seat : SeenBy) (rung : Rung). HasSettled chain call at d before seat rung) (sym here)
      (sym is) (record {
        is = refl;
        known = known;
        fewer = omega arith;
        made = made-within 0 _ (omega arith) (made-none chain call before own);
        has = λ k has. has;
      })

-- a walk of a call that puts a number at an absent key is no read
read-never :
    (p : Plan) (g : ℕ) (call : Call) (end : PathEnd) → leaves_alone call None ≡ false
    → read_at p g call end ≡ []
read-never p g call (ends.Slot i) acts = refl
read-never p g call (ends.Empty d) acts = ap (λ b. cond b (as_replied call None) []) acts
read-never p g call ends.Closed acts = refl
read-never p g call ends.Whole acts =
    ap (λ b. cond (suc g == generations_of p) (cond b (as_replied call None) []) []) acts
    ∙ none (suc g == generations_of p)
  where
    none : (b : Bool) → cond {A = List (Call × Reply)} b [] [] ≡ []
    none true = refl
    none false = refl

-- ---- the walk along a key's path

-- The walk of a call along the key's path has come so far: it made no read. Its steps are few,
-- together with those that the table below may still cost.
pub record HasProbed (p : Plan) (call : Call) (before after : SeenBy) (g from : ℕ) (below : Below) :
    Type 0 where
  pub most : ℕ
  pub made : HasMade p call before after [] most
  pub few : most + owed_below p g below ≤ 3 * from + steps_below p g

-- it begins with no step
pub walked-none :
    (chain : ChainOf) (call : Call) (seat : SeenBy) → IsOwn chain seat
    → (g from : ℕ) (below : Below) → HasProbed chain.shape call seat seat g from below
walked-none chain call seat own g from below = record {
  most = 0;
  made = made-none chain call seat own;
  few = omega (arith, owed-most chain.shape g below);
}

-- its steps fit where it ends in this table, where it goes on above the whole path, and where it
-- ends at an empty slot; and they are few still where it goes on behind the slot
few-here :
    (most owed from size steps more : ℕ) → most + owed ≤ 3 * from + steps → from ≤ size
    → most + (size - from) ≤ 3 * size + steps + 4 + more
few-here most owed from size steps more few within = omega (arith, few, within)

few-whole :
    (most owed from size steps more : ℕ) → most + owed ≤ 3 * from + steps → from ≤ size
    → most + (size - from) + (owed + 2 + more) ≤ 3 * size + steps + 4 + more
few-whole most owed from size steps more few within = omega (arith, few, within)

few-empty :
    (most owed owed' from d size steps more : ℕ) → most + owed ≤ 3 * from + steps → owed' ≤ owed
    → from ≤ size → d < size
    → most + (d + 1 - from) + (owed - owed') + (2 + (owed' + 2 + more))
    ≤ 3 * size + steps + 4 + more
few-empty most owed owed' from d size steps more few fewer within near =
    omega (arith, few, fewer, within, near)

few-on :
    (most owed owed' from d steps : ℕ) → most + owed ≤ 3 * from + steps → owed' ≤ owed → from ≤ d
    → most + (d + 1 - from) + (owed - owed') + 2 + owed' ≤ 3 * (d + 1) + steps
few-on most owed owed' from d steps few fewer ahead = omega (arith, few, fewer, ahead)

module _ (chain : ChainOf) where
  abbrev q : Plan
  q = chain.shape

  -- a walk that goes on makes no read
  pub walked-to :
      {call : Call} {before then after : SeenBy} {g from : ℕ} {below : Below} → IsOwn chain before
      → leaves_alone call None ≡ false
      → (walked : HasProbed q call before then g from below) (end : PathEnd)
      → HasMade q call then after (read_at q g call end) (probe_steps q g from end)
      → HasMade q call before after [] (walked.most + probe_steps q g from end)
  walked-to {call} {before} {then} {after} {g} {from} own acts walked end made =
      made-more chain own walked.made
      (subst (λ reads. HasMade q call then after reads (probe_steps q g from end))
      (read-never q g call end acts) made)

  -- where it ends in this table
  pub walked-here :
      {call : Call} {before then after : SeenBy} {g from : ℕ} {below : Below} → from ≤ size_of q g
      → (walked : HasProbed q call before then g from below)
      → HasMade q call before after [] (walked.most + (size_of q g - from))
      → HasMade q call before after [] (search_steps q g)
  walked-here {g = g} {from} {below} within walked made =
      made-within (walked.most + (size_of q g - from)) (search_steps q g)
      (few-here walked.most (owed_below q g below) from (size_of q g) (steps_below q g)
      (table_steps q g) walked.few within) made

  -- where other keys have the whole path
  pub walked-whole :
      {call : Call} {before then whole after : SeenBy} {g from : ℕ} {below : Below}
      {made : List (Call × Reply)} → IsOwn chain before → from ≤ size_of q g
      → (walked : HasProbed q call before then g from below)
      → HasMade q call before whole [] (walked.most + (size_of q g - from))
      → HasMade q call whole after made (grow_steps q g below)
      → HasMade q call before after made (search_steps q g)
  walked-whole {g = g} {from} {below} own within walked so_far left =
      made-within (walked.most + (size_of q g - from) + grow_steps q g below) (search_steps q g)
      (few-whole walked.most (owed_below q g below) from (size_of q g) (steps_below q g)
      (table_steps q g) walked.few within)
      (made-then own so_far left)

  -- where a slot was empty and the table below is settled, and the call ends there
  pub walked-claimed :
      {call : Call} {before then settled after : SeenBy} {g from : ℕ} {below : Below}
      {made : List (Call × Reply)} (below' : Below) (d : ℕ) → IsOwn chain before
      → from ≤ size_of q g → d < size_of q g → owed_below q g below' ≤ owed_below q g below
      → (walked : HasProbed q call before then g from below)
      → HasMade q call before settled [] (walked.most + (d + 1 - from)
      + (owed_below q g below - owed_below q g below'))
      → HasMade q call settled after made (2 + grow_steps q g below')
      → HasMade q call before after made (search_steps q g)
  walked-claimed {g = g} {from} {below} below' d own within near fewer walked so_far claimed =
      made-within (walked.most + (d + 1 - from) + (owed_below q g below - owed_below q g below')
      + (2 + grow_steps q g below')) (search_steps q g)
      (few-empty walked.most (owed_below q g below) (owed_below q g below') from d (size_of q g)
      (steps_below q g) (table_steps q g) walked.few fewer
      within near)
      (made-then own so_far claimed)

  -- or goes on behind the slot
  pub walked-behind :
      {call : Call} {before then settled after : SeenBy} {g from : ℕ} {below : Below}
      (below' : Below) (d : ℕ) → IsOwn chain before
      → from ≤ d → owed_below q g below' ≤ owed_below q g below
      → (walked : HasProbed q call before then g from below)
      → HasMade q call before settled [] (walked.most + (d + 1 - from)
      + (owed_below q g below - owed_below q g below'))
      → HasMade q call settled after [] 2 → HasProbed q call before after g (d + 1) below'
  walked-behind {g = g} {from} {below} below' d own ahead fewer walked made lost = record {
    most = walked.most + (d + 1 - from) + (owed_below q g below - owed_below q g below') + 2;
    made = made-more chain own made lost;
    few = few-on walked.most (owed_below q g below) (owed_below q g below') from d (steps_below q g)
        walked.few fewer ahead;
  }
