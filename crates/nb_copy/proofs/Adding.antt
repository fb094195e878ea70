-- In how many adds a seat counts slots.
use Rattle.std.proofs.Common.{◌≡◌, ◌≢◌, ◌∙◌, ℕ, ◌+◌, ◌≤◌, ◌==◌, ◌&&◌, Bool, cond, List, [], ◌∷◌, ◌++◌, ap, sym, subst, refl, arith}
use Rattle.std.specs.List.{All}
use Rattle.std.proofs.lemmas.Bool.{cond_both, eq-eqb, ne_eqb}
use Rattle.std.proofs.lemmas.List.Elements.{All-head, All-tail}
use Rattle.nb_core.specs.Plans.{Plan}
use Rattle.nb_core.specs.History.{IsLegal, counted_by, seat_of_event}
use Rattle.nb_core.specs.declared.events.Event.{Event}
use Rattle.nb_core.specs.declared.events.Event.TheVariants.{Count}
use Rattle.nb_table.specs.Chains.{Extended, SeenBy}
use Rattle.nb_copy.specs.Copying.{HasCopied}
use Rattle.nb_copy.specs.Handing.{adds_of}

module _ (p : Plan) (g s : ℕ) where
  -- a seat's count never falls
  counted-more :
      (later h : List Event) → counted_by h s g ≤ counted_by (later ++ h) s g
  counted-more [] h = omega arith
  counted-more (e ∷ later) h = omega (arith, counted-more later h)

  -- an add counts one slot at least, so where a seat's count stands still it makes no add
  adds-none :
      (later h : List Event) → IsLegal p (later ++ h)
      → counted_by (later ++ h) s g ≡ counted_by h s g → adds_of (later ++ h) s g ≡ adds_of h s g
  adds-none [] h legal same = refl
  adds-none (Count n f c ∷ later) h legal same =
      let here : Bool = n == s && f == g in
      let more = counted-more later h in
      let still : cond here c 0 ≡ 0 = omega (arith, same, more) in
      let rest : counted_by (later ++ h) s g ≡ counted_by h s g = omega (arith, same, more) in
      cond_both here (c ∷ adds_of (later ++ h) s g) (adds_of (later ++ h) s g)
      (λ adds. adds ≡ adds_of h s g)
      (λ yes. absurd (omega (arith, legal.2.some, ap (λ b. cond b c 0) (sym yes), still)))
      (λ no. adds-none later h legal.0 rest)
  adds-none (_ ∷ later) h legal same = adds-none later h legal.0 (omega (arith, same))

-- so does copying that counts nothing
pub copied-adds :
    {p : Plan} {g : ℕ} {before after : SeenBy} {slots : List ℕ} {chunks most : ℕ} (s : ℕ)
    → before.number ≡ s → HasCopied p g before after slots chunks 0 most
    → adds_of after.seen s g ≡ adds_of before.seen s g
copied-adds {p} {g} {before} {after} s is copied =
    let number = sym is in
    let grown = copied.grown in
    let P : ℕ → Type 0 = λ n. counted_by after.seen n g ≡ counted_by before.seen n g + 0 in
    let counted : counted_by after.seen s g ≡ counted_by before.seen s g =
    subst P is copied.counted ∙ plus-none _ in
    ap (λ h. adds_of h s g) grown.seen
    ∙ adds-none p g s grown.later before.seen (subst (IsLegal p) grown.seen grown.legal)
    (ap (λ h. counted_by h s g) (sym grown.seen) ∙ counted)
  where
    plus-none : (n : ℕ) → n + 0 ≡ n
    plus-none n = omega arith

-- events of others are no adds of a seat
adds-others :
    (s g : ℕ) (others h : List Event) → All (λ e. seat_of_event e ≢ s) others
    → adds_of (others ++ h) s g ≡ adds_of h s g
adds-others s g [] h not_own = refl
adds-others s g (Count n f c ∷ others) h not_own =
    let P : Event → Type 0 = λ e. seat_of_event e ≢ s in
    rw (ne_eqb n s (All-head P (Count n f c) others not_own))
    (adds-others s g others h (All-tail P (Count n f c) others not_own))
adds-others s g (e ∷ others) h not_own =
    let P : Event → Type 0 = λ e. seat_of_event e ≢ s in
    adds-others s g others h (All-tail P e others not_own)

-- a step that counts is one add
pub count-adds :
    (p : Plan) (g c : ℕ) (before after : SeenBy)
    → Extended p before after (Count before.number g c ∷ []) 1
    → adds_of after.seen before.number g ≡ c ∷ adds_of before.seen before.number g
count-adds p g c before after step =
    let s = before.number in
    let met = step.others ++ before.seen in
    ap (λ h. adds_of h s g) step.seen
    ∙ ap (λ b. cond (b && (g == g)) (c ∷ adds_of met s g) (adds_of met s g)) (eq-eqb s s refl)
    ∙ ap (λ b. cond b (c ∷ adds_of met s g) (adds_of met s g)) (eq-eqb g g refl)
    ∙ ap (λ rest. c ∷ rest) (adds-others s g step.others before.seen step.not_own)
