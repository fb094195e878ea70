-- What a copier did, step after step.
use Rattle.std.proofs.Common.{◌≡◌, ◌≢◌, ◌∙◌, ℕ, ◌+◌, ◌≤◌, ◌<◌, cond, List, [], ◌∷◌, ◌++◌, drop, filter, length, ap, sym, subst, refl, arith}
use Rattle.std.specs.List.{All}
use Rattle.std.proofs.lemmas.Bool.{eq-eqb, ne_eqb}
use Rattle.std.proofs.lemmas.List.{append-nil, append_assoc, length-append}
use Rattle.std.proofs.lemmas.List.Elements.{All-append, All-cons, All-head, All-nil, All-tail, All-weaker, filter-append}
use Rattle.nb_core.specs.Plans.{Plan, generations_of}
use Rattle.nb_core.specs.Tables.{Tables}
use Rattle.nb_core.specs.History.{counted_by, counts, seat_of_event, slot_in, slots_turned, turned_slot}
use Rattle.nb_core.specs.Laws.{Lasts}
use Rattle.nb_core.specs.declared.events.Event.{Event}
use Rattle.nb_core.specs.declared.events.Event.TheVariants.{Claim}
use Rattle.nb_table.specs.Chains.{ChainOf, Extended, IsOwn, SeenBy, seen_by}
use Rattle.nb_core.proofs.Theorems.{own_lasts, counted}
use Rattle.nb_table.proofs.Theorems.{steps_add_up}
use Rattle.nb_copy.specs.Copying.{HasCopied, IsCopying, is_take}

-- ---- one step

-- events of others turn no slot for a seat
slots-others :
    (p : Plan) (number g : ℕ) (others h : List Event) → All (λ e. seat_of_event e ≢ number) others
    → slots_turned p (others ++ h) number g ≡ slots_turned p h number g
slots-others p number g [] h not_own = refl
slots-others p number g (e ∷ others) h not_own =
    let P : Event → Type 0 = λ e. seat_of_event e ≢ number in
    rw (ne_eqb (seat_of_event e) number (All-head P e others not_own))
    (slots-others p number g others h (All-tail P e others not_own))

-- no step
pub copied-none :
    (chain : ChainOf) (g : ℕ) (seat : SeenBy) → IsOwn chain seat
    → HasCopied chain.shape g seat seat [] 0 0 0
copied-none chain g seat own = record {
  own = [];
  count = 0;
  grown = steps_add_up.none own;
  copying = All-nil (IsCopying chain.shape (seen_by chain.shape seat) g);
  turned = refl;
  taken = refl;
  counted = omega arith;
  few = omega arith;
}

module _ (p : Plan) (g : ℕ) where
  -- a step without an event
  pub copied-quiet : (before after : SeenBy) → Extended p before after [] 1
      → HasCopied p g before after [] 0 0 1
  copied-quiet before after step = record {
    own = [];
    count = 1;
    grown = steps_add_up.one step;
    copying = All-nil (IsCopying p (seen_by p after) g);
    turned = ap (λ h. slots_turned p h before.number g) step.seen
        ∙ slots-others p before.number g step.others before.seen step.not_own;
    taken = refl;
    counted = ap (λ h. counted_by h before.number g) step.seen
        ∙ (own_lasts p step.others before.seen before.number step.not_own).counted g ∙ plus-none _;
    few = omega arith;
  }
    where
      plus-none : (n : ℕ) → n ≡ n + 0
      plus-none n = omega arith

  -- a step with an event
  pub copied-one :
      (before after : SeenBy) (e : Event) (slots : List ℕ) (chunks adding : ℕ)
      → Extended p before after (e ∷ []) 1
      → IsCopying p (seen_by p after) g e → slot_in g (turned_slot p (drop 1 after.seen) e) ≡ slots
      → length (filter is_take (e ∷ [])) ≡ chunks
      → counts e before.number g ≡ adding → HasCopied p g before after slots chunks adding 1
  copied-one before after e slots chunks adding step copying turned taken counted =
      let met = step.others ++ before.seen in
      let mine : seat_of_event e ≡ before.number =
      All-head (λ x. seat_of_event x ≡ before.number) e [] step.mine in
      record {
        own = e ∷ [];
        count = 1;
        grown = steps_add_up.one step;
        copying = All-cons (IsCopying p (seen_by p after) g) e [] copying
            (All-nil (IsCopying p (seen_by p after) g));
        turned =
            ap (λ h. slots_turned p h before.number g) step.seen
            ∙ ap (λ b. cond b (slot_in g (turned_slot p met e)) []
            ++ slots_turned p met before.number g)
            (eq-eqb (seat_of_event e) before.number mine)
            ∙ ap (λ here. here ++ slots_turned p met before.number g)
            (ap (λ h. slot_in g (turned_slot p (drop 1 h) e)) (sym step.seen) ∙ turned)
            ∙ ap (λ rest. slots ++ rest) (slots-others p before.number g step.others before.seen
            step.not_own);
        taken = taken;
        counted =
            ap (λ h. counted_by h before.number g) step.seen
            ∙ ap (λ n. n + counted_by met before.number g) counted
            ∙ swap adding (counted_by met before.number g)
            ∙ ap (λ n. n + adding)
            ((own_lasts p step.others before.seen before.number step.not_own).counted g);
        few = omega arith;
      }
    where
      swap : (a b : ℕ) → a + b ≡ b + a
      swap a b = omega arith

-- ---- more steps

-- more steps may be allowed than were made
pub copied-within :
    {p : Plan} {g : ℕ} {before after : SeenBy} {slots : List ℕ} {chunks adding : ℕ} (most most' : ℕ)
    → most ≤ most'
    → HasCopied p g before after slots chunks adding most
    → HasCopied p g before after slots chunks adding most'
copied-within most most' below copied = record {
  own = copied.own;
  count = copied.count;
  grown = copied.grown;
  copying = copied.copying;
  turned = copied.turned;
  taken = copied.taken;
  counted = copied.counted;
  few = omega (arith, copied.few, below);
}

-- an event of copying is one still
copying-lasts :
    (p : Plan) (g : ℕ) (t u : Tables) → g < generations_of p → Lasts p t u → (e : Event)
    → IsCopying p t g e → IsCopying p u g e
copying-lasts p g t u table lasting (Claim s f i k) copying =
    (copying.0, lasting.has_slot g k table copying.1)
copying-lasts p g t u table lasting _ copying = copying

module _ (chain : ChainOf) (g : ℕ) (table : g < generations_of chain.shape) where
  abbrev p : Plan
  p = chain.shape

  -- what the seat has seen is so still after it copied
  pub copied-stays :
      {before after : SeenBy} {slots : List ℕ} {chunks adding most : ℕ} → IsOwn chain before
      → HasCopied p g before after slots chunks adding most
      → Lasts p (seen_by p before) (seen_by p after)
  copied-stays own copied = steps_add_up.stays own copied.grown

  -- and it is the chain's
  pub copied-own :
      {before after : SeenBy} {slots : List ℕ} {chunks adding most : ℕ} → IsOwn chain before
      → HasCopied p g before after slots chunks adding most
      → IsOwn chain after
  copied-own own copied = steps_add_up.own own copied.grown

  -- some copying after other
  pub copied-more :
      {before then after : SeenBy} {slots slots' : List ℕ}
      {chunks chunks' adding adding' most most' : ℕ} → IsOwn chain then
      → HasCopied p g before then slots chunks adding most
      → HasCopied p g then after slots' chunks' adding' most'
      → HasCopied p g before after (slots' ++ slots) (chunks + chunks') (adding + adding')
      (most + most')
  copied-more {before} {then} {after} {slots} {slots'} {chunks} {chunks'} {adding} {adding'}
      own a b = record {
        own = b.own ++ a.own;
        count = a.count + b.count;
        grown = steps_add_up.more a.grown b.grown;
        copying = All-append (IsCopying p (seen_by p after) g) b.own a.own b.copying
            (All-weaker (IsCopying p (seen_by p then) g) (IsCopying p (seen_by p after) g)
            (copying-lasts p g (seen_by p then) (seen_by p after) table
            (steps_add_up.stays own b.grown)) a.own a.copying);
        turned =
            ap (λ n. slots_turned p after.seen n g) (sym a.grown.number) ∙ b.turned
            ∙ ap (λ n. slots' ++ slots_turned p then.seen n g) a.grown.number
            ∙ ap (λ rest. slots' ++ rest) a.turned
            ∙ sym (append_assoc slots' slots (slots_turned p before.seen before.number g));
        taken =
            ap length (filter-append is_take b.own a.own)
            ∙ length-append (filter is_take b.own) (filter is_take a.own)
            ∙ sums _ _ chunks chunks' a.taken b.taken;
        counted =
            ap (λ n. counted_by after.seen n g) (sym a.grown.number) ∙ b.counted
            ∙ ap (λ n. counted_by then.seen n g + adding') a.grown.number
            ∙ ap (λ n. n + adding') a.counted
            ∙ add-assoc (counted_by before.seen before.number g) adding adding';
        few = omega (arith, a.few, b.few);
      }
    where
      add-assoc : (a b c : ℕ) → a + b + c ≡ a + (b + c)
      add-assoc a b c = omega arith

      sums : (m n a b : ℕ) → n ≡ a → m ≡ b → m + n ≡ a + b
      sums m n a b is is' = omega (arith, is, is')

  -- some copying after steps that turned no slot
  pub copied-then :
      {before then after : SeenBy} {slots : List ℕ} {most most' : ℕ} → IsOwn chain before
      → HasCopied p g before then [] 0 0 most
      → HasCopied p g then after slots 0 0 most'
      → HasCopied p g before after slots 0 0 (most + most')
  copied-then {before} {then} {after} {slots} {most} {most'} own a b =
      subst (λ all. HasCopied p g before after all 0 0 (most + most')) (append-nil slots)
      (copied-more (copied-own own a) a b)
