-- What the steps of a call turn finished, and what they count.
use Rattle.std.proofs.Common.{◌≡◌, ◌≢◌, ◌∙◌, ℕ, ◌+◌, ◌==◌, ◌⊎◌, Bool, true, false, cond, List, [], ◌∷◌, ◌++◌, length, None, ap, sym, subst, refl, inl, inr, arith}
use Rattle.std.specs.List.{All}
use Rattle.std.proofs.lemmas.Bool.Decides.{nat_tests}
use Rattle.std.proofs.lemmas.List.{length-append}
use Rattle.std.proofs.lemmas.List.Elements.{All-head, All-tail}
use Rattle.nb_core.specs.History.{counted_by, counts, seat_of_event, slot_in, slots_turned, turned_by, turned_in, turned_slot}
use Rattle.nb_core.specs.Plans.{Plan}
use Rattle.nb_core.specs.Tables.{Tables, tables_at}
use Rattle.nb_core.specs.declared.events.Event.{Event}
use Rattle.nb_core.specs.declared.events.Event.TheVariants.{Kill, Prime, Finish, Count}
use Rattle.nb_core.proofs.Theorems.{own_lasts}
use Rattle.nb_table.specs.Chains.{Extended, SeenBy, own_events}
use Rattle.nb_copy.specs.Copying.{HasCopied, IsCopying}
use Rattle.nb_map.specs.Calling.{HasCountedTurned}

-- one moment after another
pub counted-more :
    (p : Plan) (s : ℕ) (x y z : List Event) → HasCountedTurned p s x y → HasCountedTurned p s y z
    → HasCountedTurned p s x z
counted-more p s x y z first then g = omega (arith, first g, then g)

-- ---- one step

-- events of others turn and count nothing for a seat
counted-others :
    (p : Plan) (s : ℕ) (others h : List Event) → All (λ e. seat_of_event e ≢ s) others
    → HasCountedTurned p s h (others ++ h)
counted-others p s others h not_own g =
    let still = own_lasts p others h s not_own in omega (arith, still.counted g, still.turned g)

-- a step without an event
pub counted-quiet :
    {p : Plan} {before after : SeenBy} → Extended p before after [] 1
    → HasCountedTurned p before.number before.seen after.seen
counted-quiet {p} {before} step =
    subst (HasCountedTurned p before.number before.seen) (sym step.seen)
    (counted-others p before.number step.others before.seen step.not_own)

-- a step with an event that turns no slot and counts none
pub counted-apart :
    {p : Plan} {before after : SeenBy} {e : Event} → Extended p before after (e ∷ []) 1
    → ((h : List Event) → turned_slot p h e ≡ None)
    → ((g : ℕ) → counts e before.number g ≡ 0)
    → HasCountedTurned p before.number before.seen after.seen
counted-apart {p} {before} {after} {e} step turned counted =
    subst (HasCountedTurned p s before.seen) (sym step.seen)
    (counted-more p s before.seen met (e ∷ met)
    (counted-others p s step.others before.seen step.not_own)
    (λ g. omega (
      arith,
      ap length (none g),
      length-append (turned_in p met e s g) (slots_turned p met s g),
      counted g,
    )))
  where
    s : ℕ
    s = before.number

    met : List Event
    met = step.others ++ before.seen

    cond-same : (b : Bool) → cond {A = List ℕ} b [] [] ≡ []
    cond-same true = refl
    cond-same false = refl

    none : (g : ℕ) → turned_in p met e s g ≡ []
    none g = ap (λ slot. cond (seat_of_event e == s) (slot_in g slot) []) (turned met)
        ∙ cond-same (seat_of_event e == s)

-- ---- copying

-- a list that has one slot or none
pub one-if : (turned : Bool) (i : ℕ) → cond turned 1 0 ≡ length (cond turned (i ∷ []) [])
one-if true i = refl
one-if false i = refl

-- copying one table counts nothing of another, and turns nothing
module _ (p : Plan) (t : Tables) (s g f : ℕ) (other : g ≢ f) where
  elsewhere :
      (e : Event) (h : List Event) → ((seat_of_event e == s) ≡ true → IsCopying p t g e)
      → counts e s f ≡ length (turned_in p h e s f)
  elsewhere (Kill s' table i) h copying = grind (arith, nat_tests, other, copying)
  elsewhere (Prime s' table i) h copying = grind (arith, nat_tests, other, copying)
  elsewhere (Finish s' table i) h copying = grind (arith, nat_tests, other, copying)
  elsewhere (Count s' table c) h copying = grind (arith, nat_tests, other, copying)
  elsewhere e h copying = none (seat_of_event e == s)
    where
      none : (b : Bool) → 0 ≡ length (cond {A = List ℕ} b [] [])
      none true = refl
      none false = refl

  counted-away :
      (later h : List Event) → All (IsCopying p t g) (own_events s later)
      → counted_by (later ++ h) s f + turned_by p h s f
      ≡ counted_by h s f + turned_by p (later ++ h) s f
  counted-away [] h copying = refl
  counted-away (e ∷ later) h copying =
      let both = parts (seat_of_event e == s) copying in
      omega (
        arith,
        counted-away later h both.1,
        elsewhere e (later ++ h) both.0,
        length-append (turned_in p (later ++ h) e s f) (slots_turned p (later ++ h) s f),
      )
    where
      P : Event → Type 0
      P = IsCopying p t g

      parts : (mine : Bool) → All P (cond mine (e ∷ own_events s later) (own_events s later))
          → (mine ≡ true → P e) × All P (own_events s later)
      parts true all = (
        λ mine. All-head P e (own_events s later) all,
        All-tail P e (own_events s later) all,
      )
      parts false all = (λ mine. absurd cc, all)

-- copying that counted what it turned
pub counted-copied :
    {p : Plan} {before after : SeenBy} {g : ℕ} {slots : List ℕ} {chunks adding most : ℕ}
    → adding ≡ length slots
    → HasCopied p g before after slots chunks adding most
    → HasCountedTurned p before.number before.seen after.seen
counted-copied {p} {before} {after} {g} {slots} {adding = adding} all copied f =
    elim (same-or-other g f) [
      | inl same ↦ subst Balanced same here
      | inr other ↦
          subst (λ h. counted_by h s f + turned_by p before.seen s f ≡ counted_by before.seen s f
          + turned_by p h s f) (sym copied.grown.seen)
          (counted-away p (tables_at p after.seen) s g f other copied.grown.later before.seen
          (subst (All (IsCopying p (tables_at p after.seen) g)) (sym copied.grown.own_are)
          copied.copying))
    ]
  where
    s : ℕ
    s = before.number

    Balanced : ℕ → Type 0
    Balanced g = counted_by after.seen s g + turned_by p before.seen s g
        ≡ counted_by before.seen s g + turned_by p after.seen s g

    here : Balanced g
    here = omega (
      arith,
      all,
      copied.counted,
      ap length copied.turned,
      length-append slots (slots_turned p before.seen s g),
    )

    same-or-other : (a b : ℕ) → (a ≡ b) ⊎ (a ≢ b)
    same-or-other a b = grind arith
