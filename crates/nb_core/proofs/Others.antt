-- What other seats do between two moments: the exchanges that they win, and what they leave of a
-- seat's own.
use Rattle.std.proofs.Common.{◌≡◌, ◌≢◌, ◌∙◌, ℕ, ◌-◌, ◌≤◌, zero, suc, Bool, true, false, not, cond, eqb, ◌&&◌, List, [], ◌∷◌, ◌++◌, length, take, ap, sym, subst, subst₂, refl, inl, inr, arith, append_assoc, length-append}
use Rattle.std.specs.List.{count_by}
use Rattle.std.proofs.Math.Seq.{take-append_seam}
use Rattle.std.proofs.lemmas.Bool.{cond-false, eq-eqb, ne_eqb}
use Rattle.std.proofs.lemmas.List.Elements.{All-head, All-tail}
use Rattle.std.proofs.lemmas.List.Sums.{sum_by-append, sum_by-cons}
use Rattle.nb_core.specs.Plans.{Plan, IsPlan}
use Rattle.nb_core.specs.Tables.{HasSlot, IsFinishedValue, IsSettledBelow, IsSlot, IsUnprimed, Tables, tables_at}
use Rattle.nb_core.specs.History.{IsLegal, IsPrimedBelow, counts, key_of_call, seat_of_event, slots_turned, turned_in}
use Rattle.nb_core.specs.Log.{calls_of, log_of}
use Rattle.nb_core.specs.Meaning.{is_win_of_another, passed_over}
use Rattle.nb_core.specs.States.{primed}
use Rattle.nb_core.specs.Laws.{HasOwnStill, IsValueChange, LostExchange, OwnLasts, PassedOverAdds}
use Rattle.nb_core.proofs.Lasting.{win-key}
use Rattle.nb_core.proofs.Later.{seen_lasts}
use Rattle.nb_core.proofs.Lawful.{lawful_changes}
use Rattle.nb_core.proofs.Computed.{no_true}
use Rattle.nb_core.proofs.Sound.{one_key}
use Rattle.nb_core.specs.declared.events.Event.{Event}
use Rattle.nb_core.specs.declared.events.Event.TheVariants.{Won, CopyIn, Prime, Finish, Count, Read}
use Rattle.nb_core.specs.declared.states.KeyState.TheVariants.{Claimed}
use Rattle.nb_core.specs.declared.states.ValueState.{ValueState}
use Rattle.nb_core.specs.declared.states.ValueState.TheVariants.{Null}

-- ---- exchanges of others

-- how many exchanges on a key other seats won in these events
abbrev wins_of_others : ℕ → ℕ → List Event → ℕ
wins_of_others k s events = count_by (is_win_of_another k s) events

-- what passed over a seat since a history is in the events after it
passed_over-is :
    (later h : List Event) (k s : ℕ) → passed_over (later ++ h) (length h) k s
    ≡ wins_of_others k s later
passed_over-is later h k s =
    let few : length (later ++ h) - length h ≡ length later =
    omega (arith, length-append later h) in
    ap (wins_of_others k s) (ap (λ n. take n (later ++ h)) few ∙ take-append_seam later h)

pub passed_over_adds : PassedOverAdds
passed_over_adds later mid h k s =
    let all : passed_over (later ++ (mid ++ h)) (length h) k s ≡ wins_of_others k s (later ++ mid) =
    ap (λ events. passed_over events (length h) k s) (sym (append_assoc later mid h))
    ∙ passed_over-is (later ++ mid) h k s in
    omega (
      arith,
      all,
      sum_by-append (λ e. cond (is_win_of_another k s e) 1 0) later mid,
      passed_over-is later (mid ++ h) k s,
      passed_over-is mid h k s,
    )

-- ---- a lost exchange

-- a list to which something may have been added is empty only if nothing was
not_added :
    {X : Type 0} (added : Bool) (x : X) (xs : List X) → cond added (x ∷ xs) xs ≡ []
    → (added ≡ false) × (xs ≡ [])
not_added true x xs none = absurd cc
not_added false x xs none = (refl, none)

-- a seat that made no call with one event more made none before
no_calls-before :
    (e : Event) (later : List Event) (s : ℕ) → calls_of s (log_of (e ∷ later)) ≡ []
    → calls_of s (log_of later) ≡ []
no_calls-before (Won r g i a b c reply) later s none =
    (not_added (eqb r s) (c, reply) (calls_of s (log_of later)) none).1
no_calls-before (Read r c reply) later s none =
    (not_added (eqb r s) (c, reply) (calls_of s (log_of later)) none).1
no_calls-before e later s none = none

-- what is primed isn't unprimed
primed-not_unprimed : (v : ValueState) → IsUnprimed (primed v) → ⊥
primed-not_unprimed Null unprimed = unprimed
primed-not_unprimed _ unprimed = unprimed

-- a key that is settled below has no primed number there
settled-not_primed :
    (p : Plan) (t : Tables) (g k n : ℕ) → IsSettledBelow p t g k → IsPrimedBelow p t g k n → ⊥
settled-not_primed p t zero k n settled primed = primed
settled-not_primed p t (suc g) k n settled primed =
    no_true (subst IsFinishedValue primed.3 (settled primed.0 primed.1 primed.2))

-- an exchange on the key is another seat's, where this one made no call
won-another : (r s k key : ℕ) → eqb r s ≡ false → key ≡ k → (eqb key k && not (eqb r s)) ≡ true
won-another r s k key own same = ap (λ t. t && not (eqb r s)) (eq-eqb key k same) ∙ ap not own

-- where an event leaves another unprimed value in the slot of a key that is settled below, it is an
-- exchange on the key
changed-won :
    (p : Plan) (e : Event) (h : List Event) → IsLegal p (e ∷ h)
    → (later : List Event) (g i k s : ℕ) (to : ValueState)
    → (tables_at p h).key g i ≡ Claimed k → IsSettledBelow p (tables_at p h) g k → IsUnprimed to
    → IsValueChange e g i ((tables_at p h).value g i) to → calls_of s (log_of (e ∷ later)) ≡ []
    → is_win_of_another k s e ≡ true
changed-won p (Won r f j a b c reply) h legal later g i k s to is settled unprimed change none =
    let may = legal.2 in
    won-another r s k (key_of_call c) (not_added (eqb r s) (c, reply) (calls_of s (log_of later))
    none).0
    (win-key may ∙ one_key (tables_at p h) f g j i may.key k change.0 change.1 may.claimed is)
changed-won p (CopyIn r f j l n) h legal later g i k s to is settled unprimed change none =
    let t = tables_at p h in
    let same = one_key t f g j i l k change.0 change.1 legal.2.claimed is in
    absurd (settled-not_primed p t g k n settled
    (subst₂ (λ x y. IsPrimedBelow p t x y n) change.0 same legal.2.primed))
changed-won p (Prime r f j) h legal later g i k s to is settled unprimed change none =
    absurd (primed-not_unprimed ((tables_at p h).value g i) (subst IsUnprimed change.3 unprimed))
changed-won p (Finish r f j) h legal later g i k s to is settled unprimed change none =
    absurd (subst IsUnprimed change.2.2 unprimed)
changed-won p _ h legal later g i k s to is settled unprimed change none = absurd change

-- where another unprimed value stands in the key's slot than before, another seat won an exchange
-- on the key
others-won :
    (p : Plan) → IsPlan p → (later h : List Event) → IsLegal p (later ++ h) → (g i k s : ℕ)
    → IsSlot p g i
    → (tables_at p h).key g i ≡ Claimed k → IsSettledBelow p (tables_at p h) g k
    → IsUnprimed ((tables_at p (later ++ h)).value g i)
    → (tables_at p (later ++ h)).value g i ≢ (tables_at p h).value g i
    → calls_of s (log_of later) ≡ [] → 1 ≤ wins_of_others k s later
others-won p plan [] h legal g i k s slot is settled unprimed differs none = absurd (differs refl)
others-won p plan (e ∷ later) h legal g i k s slot is settled unprimed differs none =
    let one_more = sum_by-cons (λ e. cond (is_win_of_another k s e) 1 0) e later in
    elim ((lawful_changes p plan e (later ++ h) legal).values g i slot) [
      | inl same ↦
          omega (
            arith,
            one_more,
            others-won p plan later h legal.0 g i k s slot is settled
                (subst IsUnprimed same unprimed) (λ e. differs (same ∙ e))
                (no_calls-before e later s none),
          )
      | inr change ↦
          let lasts = seen_lasts p plan later h legal.0 in
          let has : HasSlot p (tables_at p h) g k =
          record { slot = i; in_table = slot.1; is = is } in
          let won =
          changed-won p e (later ++ h) legal later g i k s
          ((tables_at p (e ∷ later ++ h)).value g i)
          (lasts.claimed g i k slot is) (lasts.settled g k slot.0 has settled)
          unprimed change none in
          omega (arith, one_more, ap {B = ℕ} (λ t. cond t 1 0) won)
    ]

pub lost_exchange : LostExchange
lost_exchange p plan later h legal g i k s slot is settled unprimed differs none =
    omega (
      arith,
      others-won p plan later h legal g i k s slot is settled unprimed differs none,
      passed_over-is later h k s,
    )

-- ---- a seat's own

-- a test of the seat fails for another one
other_seat : (r s : ℕ) (b : Bool) → r ≢ s → (eqb r s && b) ≡ false
other_seat r s b other = ap (λ t. t && b) (ne_eqb r s other)

-- an event of another seat is no call of this one,
calls_of-other :
    (e : Event) (h : List Event) (s : ℕ) → seat_of_event e ≢ s
    → calls_of s (log_of (e ∷ h)) ≡ calls_of s (log_of h)
calls_of-other (Won r g i a b c reply) h s other = cond-false (eqb r s) _ _ (ne_eqb r s other)
calls_of-other (Read r c reply) h s other = cond-false (eqb r s) _ _ (ne_eqb r s other)
calls_of-other e h s other = refl

-- counts nothing for it,
counts-other : (e : Event) (s g : ℕ) → seat_of_event e ≢ s → counts e s g ≡ 0
counts-other (Count r f c) s g other = cond-false (eqb r s && eqb f g) c 0
    (other_seat r s (eqb f g) other)
counts-other e s g other = refl

-- and turns nothing finished for it
turned_in-other :
    (p : Plan) (e : Event) (h : List Event) (s g : ℕ) → seat_of_event e ≢ s
    → turned_in p h e s g ≡ []
turned_in-other p e h s g other = cond-false (eqb (seat_of_event e) s) _ _
    (ne_eqb (seat_of_event e) s other)

-- a seat's own stays with one event more of another seat
own-more :
    (p : Plan) (e : Event) (later h : List Event) (s : ℕ) → seat_of_event e ≢ s
    → HasOwnStill p later h s
    → HasOwnStill p (e ∷ later) h s
own-more p e later h s other own = record {
  calls = calls_of-other e (later ++ h) s other ∙ own.calls;
  counted = λ g. omega (arith, counts-other e s g other, own.counted g);
  turned = λ g.
      ap (λ slots. length (slots ++ slots_turned p (later ++ h) s g))
      (turned_in-other p e (later ++ h) s g other) ∙ own.turned g;
}

pub own_lasts : OwnLasts
own_lasts p [] h s others = record { calls = refl; counted = λ g. refl; turned = λ g. refl }
own_lasts p (e ∷ later) h s others =
    own-more p e later h s (All-head (λ e. seat_of_event e ≢ s) e later others)
    (own_lasts p later h s (All-tail (λ e. seat_of_event e ≢ s) e later others))
