-- Whether a walk has met a key in an earlier table.
use Rattle.std.proofs.Common.{◌≡◌, ◌≢◌, ◌∙◌, ℕ, suc, ◌+◌, ◌≤◌, ◌<◌, ◌⊎◌, true, false, cond, [], Some, None, slice_index, ap, sym, subst, refl, inl, inr, arith}
use Rattle.std.proofs.Math.Nat.{mod-lt}
use Rattle.std.proofs.lemmas.Bool.{ne_eqb}
use Rattle.std.proofs.lemmas.Nat.{pow_pos}
use Rattle.nb_core.specs.Laws.{AreLinked, Lasts}
use Rattle.nb_core.specs.Meaning.{place_of}
use Rattle.nb_core.specs.Plans.{Plan, generations_of, size_of}
use Rattle.nb_core.specs.Tables.{AreOthers, HasSlot, IsComplete, IsFinishedValue, IsPassed, IsSlot, Tables, UpToDead, Whole, path_slot}
use Rattle.nb_core.specs.declared.calls.Call.TheVariants.{Get}
use Rattle.nb_core.specs.declared.states.KeyState.{KeyState}
use Rattle.nb_core.specs.declared.states.KeyState.TheVariants.{Claimed, Dead, Empty}
use Rattle.nb_core.specs.declared.states.ValueState.TheVariants.{Null}
use Rattle.nb_core.proofs.Theorems.{complete_passed, installed_after, lawful_words, linked, on_path, place_is, room}
use Rattle.nb_table.specs.Chains.{ChainOf, IsOwn, SeenBy, seen_by}
use Rattle.nb_table.specs.Conditions.{IsReached}
use Rattle.nb_map.specs.Logs.{as_replied}
use Rattle.nb_map.specs.inside.Reading.{EndsAt, read_at}
use Rattle.nb_map.specs.Steps.{probe_steps}
use Rattle.nb_map.specs.inside.Walking.{IsAway, IsEarlier}
use Rattle.nb_map.specs.Walks.{IsFirstTable}
use Rattle.nb_map.specs.declared.steps.search.PathEnd.{PathEnd}
use Rattle.nb_map.specs.declared.steps.search.PathEnd.TheVariants as ends
use Rattle.nb_map.proofs.Walked.{installed-under}

-- ---- away

-- a key that is away from a table is passed there
pub away-passed : (p : Plan) (t : Tables) (g k : ℕ) → IsAway p t g k → IsPassed p t g k
away-passed p t g k away = elim away [
  | inl closed ↦ UpToDead closed.0 closed.1 closed.2 closed.3
  | inr whole ↦ Whole whole
]

-- it is so later
pub away-lasts :
    (p : Plan) (t u : Tables) → Lasts p t u → (g k : ℕ) → g < generations_of p → IsAway p t g k
    → IsAway p u g k
away-lasts p t u lasting g k table away = elim away [
  | inl closed ↦
      let slot : IsSlot p g (path_slot p g k closed.0) =
      (table, mod-lt (k + closed.0) (pow_pos (slice_index p.exponents g))) in
      inl (
        closed.0,
        closed.1,
        lasting.others g k closed.0 table closed.2,
        lasting.dead g _ slot closed.3,
      )
  | inr whole ↦ inr (lasting.others g k (size_of p g) table whole)
]

module _ (chain : ChainOf) (seat : SeenBy) (own : IsOwn chain seat) where
  abbrev p : Plan
  p = chain.shape

  abbrev t : Tables
  t = seen_by p seat

  -- a key has no slot in a table where its path comes to a slot without a key, behind slots of
  -- other keys
  stopped : (g k d : ℕ) (stop : KeyState) → g < generations_of p → AreOthers p t g k d
      → t.key g (path_slot p g k d) ≡ stop
      → ((j : ℕ) → stop ≢ Claimed j) → HasSlot p t g k → ⊥
  stopped g k d stop table others is unclaimed has =
      let path = on_path p own.plan seat.seen own.legal g has.slot k (table, has.in_table) has.is in
      let mine : t.key g (path_slot p g k path.distance) ≡ Claimed k = ap (t.key g) path.at
      ∙ has.is in
      elim (which path.distance d) [
        | inl before ↦
            let other = others path.distance before in
            other.differs (let both : Claimed other.other ≡ Claimed k = sym other.is ∙ mine in cc)
        | inr (inl same) ↦ unclaimed k (sym is ∙ ap (λ e. t.key g (path_slot p g k e)) (sym same)
            ∙ mine)
        | inr (inr behind) ↦ let other = path.passed d behind in
            unclaimed other.other (sym is ∙ other.is)
      ]
    where
      which : (e d : ℕ) → (e < d) ⊎ ((e ≡ d) ⊎ (d < e))
      which e d = grind arith

  pub away-no_slot : (g k : ℕ) → g < generations_of p → IsAway p t g k → HasSlot p t g k → ⊥
  away-no_slot g k table away has = elim away [
    | inl closed ↦ stopped g k closed.0 Dead table closed.2 closed.3 (λ j e. cc) has
    | inr whole ↦
        let path = on_path p own.plan seat.seen own.legal g has.slot k (table, has.in_table)
        has.is in
        let mine : t.key g (path_slot p g k path.distance) ≡ Claimed k = ap (t.key g) path.at
        ∙ has.is in
        let other = whole path.distance path.in_table in
        other.differs (let both : Claimed other.other ≡ Claimed k = sym other.is ∙ mine in cc)
  ]

  -- a table with an empty slot isn't complete
  empty-incomplete : (g i : ℕ) → IsSlot p g i → t.key g i ≡ Empty → IsComplete p t g → ⊥
  empty-incomplete g i slot empty complete = elim (complete i slot.1) [
    | inl dead ↦ absurd (let both : Empty ≡ Dead = sym empty ∙ dead in cc)
    | inr final ↦
        let never : IsFinishedValue Null =
        subst IsFinishedValue ((lawful_words p own.plan seat.seen own.legal).empty_is_null g i
        slot empty) final in cc
  ]

  -- the path of a key that has a slot in a later table comes to no empty slot
  no-empty : (f g k d : ℕ) → f < g → g < generations_of p → HasSlot p t g k → AreOthers p t f k d
      → t.key f (path_slot p f k d) ≡ Empty → ⊥
  no-empty f g k d before table has others empty =
      let within : f < generations_of p = omega (arith, before, table) in
      let slot : IsSlot p f (path_slot p f k d) =
      (within, mod-lt (k + d) (pow_pos (slice_index p.exponents f))) in
      let incomplete = empty-incomplete f (path_slot p f k d) slot empty in
      let links = linked p own.plan seat.seen own.legal in
      let there = links.claimed g has.slot k (table, has.in_table) has.is in
      elim (next-or-later f g before) [
        | inl next ↦
            let above : HasSlot p t (suc f) k = subst (λ g. HasSlot p t g k) (sym next) has in
            let here = (room p own.plan seat.seen own.legal f (omega (arith, next, table))
            incomplete).claimed k above in
            stopped f k d Empty within others empty (λ j e. cc) here
        | inr later ↦
            incomplete (installed_after p own.plan seat.seen own.legal f
            (installed-under chain t links (suc (suc f)) g later there))
      ]
    where
      next-or-later : (f g : ℕ) → f < g → (suc f ≡ g) ⊎ (suc (suc f) ≤ g)
      next-or-later f g before = grind (arith, before)

  -- a search for the key may come to a table that has a slot of it, where the key is away from the
  -- walk's tables before
  pub earlier-reached :
      (first g k : ℕ) → IsFirstTable p seat first → g < generations_of p → HasSlot p t g k → (f : ℕ)
      → f ≤ g → IsEarlier p t first f k false
      → IsReached p t f k
  earlier-reached first g k is_first table has f below away = record {
    installed = installed-under chain t links f g below
        (links.claimed g has.slot k (table, has.in_table) has.is);
    below = λ e low. elim (lower-or-not e first) [
      | inl lower ↦
          complete_passed p own.plan seat.seen own.legal e k (omega (arith, lower, is_first.table))
          (is_first.complete e lower)
      | inr from ↦ away-passed p t e k (away e from low)
    ];
  }
    where
      links : AreLinked p t
      links = linked p own.plan seat.seen own.legal

      lower-or-not : (e first : ℕ) → (e < first) ⊎ (first ≤ e)
      lower-or-not e first = grind arith

  -- where the key is away from all of them, its slot is its first place
  pub away-placed :
      (first g i k : ℕ) → first ≤ g → IsSlot p g i → t.key g i ≡ Claimed k
      → IsEarlier p t first g k false → place_of p seat.seen first k ≡ Some (g, i)
  away-placed first g i k from slot is away =
      (place_is p own.plan seat.seen own.legal first k g i).1 (record {
        from = from;
        slot = slot;
        is = is;
        none = λ e behind low has. away-no_slot e k (omega (arith, low, slot.0)) (away e behind low)
            has;
      })

  -- and where it has a slot in one of them, no key has its first place here
  pub earlier-placed :
      (first g i k : ℕ) → t.key g i ≡ Claimed k → IsEarlier p t first g k true → (j : ℕ)
      → place_of p seat.seen first j ≡ Some (g, i) → ⊥
  earlier-placed first g i k is (f, behind, before, has) j placed =
      let at = (place_is p own.plan seat.seen own.legal first j g i).0 placed in
      let same : j ≡ k = let both : Claimed j ≡ Claimed k = sym at.is ∙ is in cc in
      at.none f behind before (subst (HasSlot p t f) (sym same) has)

  -- nor where the slot has no key
  pub unclaimed-placed :
      (first g i : ℕ) (state : KeyState) → t.key g i ≡ state → ((k : ℕ) → state ≢ Claimed k)
      → (j : ℕ) → place_of p seat.seen first j ≡ Some (g, i) → ⊥
  unclaimed-placed first g i state is unclaimed j placed =
      let at = (place_is p own.plan seat.seen own.legal first j g i).0 placed in
      unclaimed j (sym is ∙ at.is)

  -- ---- one table

  -- a probe that doesn't end at the key's slot shows that the key is away
  pub ends-away :
      (f g k : ℕ) → f < g → g < generations_of p → HasSlot p t g k → (end : PathEnd)
      → ((i : ℕ) → end ≢ ends.Slot i) → EndsAt p t f k end
      → IsAway p t f k
  ends-away f g k before table has (ends.Slot i) not at = absurd (not i refl)
  ends-away f g k before table has (ends.Empty d) not at =
      absurd (no-empty f g k d before table has at.1 at.2)
  ends-away f g k before table has ends.Closed not at = inl at.0
  ends-away f g k before table has ends.Whole not at = inr at

  -- and is no read
  pub ends-unread :
      (f g k : ℕ) → f < g → g < generations_of p → HasSlot p t g k → (end : PathEnd)
      → EndsAt p t f k end → read_at p f (Get k) end ≡ []
  ends-unread f g k before table has (ends.Slot i) at = refl
  ends-unread f g k before table has (ends.Empty d) at =
      absurd (no-empty f g k d before table has at.1 at.2)
  ends-unread f g k before table has ends.Closed at = refl
  ends-unread f g k before table has ends.Whole at =
      ap (λ b. cond b (as_replied (Get k) None) [])
      (ne_eqb (suc f) (generations_of p) (λ e. omega (arith, e, before, table)))

-- a probe from the first slot on takes no more steps than the table has slots
pub probe-few :
    (p : Plan) (t : Tables) (g k : ℕ) (end : PathEnd) → EndsAt p t g k end
    → probe_steps p g 0 end ≤ size_of p g
probe-few p t g k (ends.Slot i) at = omega arith
probe-few p t g k (ends.Empty d) at = let near = at.0 in omega (arith, near)
probe-few p t g k ends.Closed at = omega arith
probe-few p t g k ends.Whole at = omega arith
