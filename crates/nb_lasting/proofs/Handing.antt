-- A token hands its guest's place on to a new one.
use Rattle.std.proofs.Common.{◌≡◌, ◌≢◌, ◌∙◌, ◌++◌, ◌<◌, ◌≤◌, ◌⊎◌, ℕ, zero, suc, List, [], ◌∷◌, Some, ap, inl, inr, length, refl, slice_set, subst, sym}
use Rattle.std.specs.Prelude.{None, Option}
use Rattle.std.proofs.lemmas.List.{length-set}
use mathlib.Core.Option.{some, some-injective, some-ne-none}
use lib.ListN.{get_elem?}
use Rattle.atomic_table.proofs.Lists.{at_set}
use Rattle.atomic_table.specs.Table.{Splits}
use Rattle.nb_lasting.proofs.Sharing.{holders_more, holders_same}
use Rattle.nb_lasting.specs.Shared.{Has, IsOfMap, IsOneLog, LaneMoment, guest_alone, guest_left}
use Rattle.nb_lasting.specs.declared.shared.LaneView.{LaneView}
use Rattle.nb_lasting.specs.declared.shared.Opened.{Opened}
use Rattle.nb_lasting.specs.declared.shared.Out.{Out}

at_end :
    (views : List LaneView) (w u : LaneView) (i : ℕ) → get_elem? (views ++ w ∷ []) i ≡ some u
    → (get_elem? views i ≡ some u) ⊎ ((i ≡ length views) × (w ≡ u))
at_end [] w u zero found = inr (refl, some-injective w u found)
at_end [] w u (suc i) found = absurd (some-ne-none u (sym found))
at_end (x ∷ xs) w u zero found = inl found
at_end (x ∷ xs) w u (suc i) found = later (at_end xs w u i found)
  where
    later : (get_elem? xs i ≡ some u) ⊎ ((i ≡ length xs) × (w ≡ u))
        → (get_elem? xs i ≡ some u) ⊎ ((suc i ≡ suc (length xs)) × (w ≡ u))
    later (inl old) = inl old
    later (inr (is, same)) = inr (ap suc is, same)

module _
    (p : Opened) (id : ℕ) (v : LaneView) (s : LaneMoment) (rule : IsOneLog p s)
    (at : get_elem? s.views id ≡ some v) where
  abbrev views-then : List LaneView
  views-then = slice_set s.views id (guest_left v) ++ guest_alone v ∷ []

  -- a view then is the new one, the token's, or a former one
  was : (k : ℕ) (u : LaneView) → get_elem? views-then k ≡ some u
      → ((k ≡ length s.views) × (guest_alone v ≡ u))
      ⊎ (((k ≡ id) × (guest_left v ≡ u)) ⊎ ((k ≢ id) × (get_elem? s.views k ≡ some u)))
  was k u found =
      elim (at_end (slice_set s.views id (guest_left v)) (guest_alone v) u k found) [
        | inl old ↦ inr (at_set s.views id k (guest_left v) u old)
        | inr new ↦ inl (new.0 ∙ length-set s.views id (guest_left v), new.1)
      ]

  no-guest : (u : LaneView) (i : ℕ) → guest_left v ≡ u → u.guest ≡ Some i → ⊥
  no-guest u i is is-guest =
      let none-is : ◌≡◌ {A = Option ℕ} None (Some i) =
      ap (λ (x : LaneView). x.guest) is ∙ is-guest in
      absurd cc

  no-dealer : (u : LaneView) (d : ℕ) → guest_alone v ≡ u → u.dealer ≡ Some d → ⊥
  no-dealer u d is deals =
      let none-is : ◌≡◌ {A = Option ℕ} None (Some d) =
      ap (λ (x : LaneView). x.dealer) is ∙ deals in
      absurd cc

  hand-keeps :
      IsOneLog p (record {
        words = s.words;
        homes = s.homes;
        views = slice_set s.views id (guest_left v) ++ guest_alone v ∷ [];
      })
  hand-keeps = record {
    shared = rule.shared;
    epoch = rule.epoch;
    current = rule.current;
    seen = rule.seen;
    dealt = rule.dealt;
    fits = rule.fits;
    room = rule.room;
    asked = asked;
    made = rule.made;
    count = rule.count;
    long = rule.long;
    homes = rule.homes;
    words = rule.words;
    once = λ i.
        holders_more i (slice_set s.views id (guest_left v)) (guest_alone v) refl
        ∙ holders_same i s.views id v (guest_left v) at refl ∙ rule.once i;
    held = held;
    knew = knew-of;
    goes = rule.goes;
    guests = guests;
    one_guest = one-guest;
    fresh = rule.fresh;
    few = rule.few;
    dealer = dealer;
    one_dealer = one-dealer;
  }
    where
      asked : (k : ℕ) (u : LaneView) → get_elem? views-then k ≡ some u → u.account.keys ≤ p.keys
      asked k u found =
          elim (was k u found) [
            | inl new ↦
                subst (λ (x : LaneView). x.account.keys ≤ p.keys) new.1 (rule.asked id v at)
            | inr there ↦ elim there [
              | inl mine ↦
                  subst (λ (x : LaneView). x.account.keys ≤ p.keys) mine.1 (rule.asked id v at)
              | inr old ↦ rule.asked k u old.1
            ]
          ]

      held : (k : ℕ) (u : LaneView) → get_elem? views-then k ≡ some u → u.outs ≢ []
          → IsOfMap rule.shared rule.epoch u
      held k u found some-lane =
          elim (was k u found) [
            | inl new ↦ absurd (some-lane (sym (ap (λ (x : LaneView). x.outs) new.1)))
            | inr there ↦ elim there [
              | inl mine ↦
                  let old = rule.held id v at
                  (λ none-left. some-lane (sym (ap (λ (x : LaneView). x.outs) mine.1)
                  ∙ none-left)) in
                  subst (IsOfMap rule.shared rule.epoch) mine.1
                  (record { map = old.map; filled = old.filled; past = old.past })
              | inr old ↦ rule.held k u old.1 some-lane
            ]
          ]

      knew-of : (k : ℕ) (u : LaneView) (out : Out) → get_elem? views-then k ≡ some u
          → Has out u.outs → rule.current out.lane ≡ out.knew
      knew-of k u out found has =
          elim (was k u found) [
            | inl new ↦ absurd (subst (Has out) (sym (ap (λ (x : LaneView). x.outs) new.1)) has)
            | inr there ↦ elim there [
              | inl mine ↦
                  rule.knew id v out at
                  (subst (Has out) (sym (ap (λ (x : LaneView). x.outs) mine.1)) has)
              | inr old ↦ rule.knew k u out old.1 has
            ]
          ]

      guests : (k : ℕ) (u : LaneView) (i : ℕ) → get_elem? views-then k ≡ some u
          → u.guest ≡ Some i → (i < rule.dealt) × (u.seen ≡ rule.seen i)
      guests k u i found is-guest =
          elim (was k u found) [
            | inl new ↦
                let old = rule.guests id v i at (ap (λ (x : LaneView). x.guest) new.1 ∙ is-guest) in
                (old.0, sym (ap (λ (x : LaneView). x.seen) new.1) ∙ old.1)
            | inr there ↦ elim there [
              | inl mine ↦ absurd (no-guest u i mine.1 is-guest)
              | inr old ↦ rule.guests k u i old.1 is-guest
            ]
          ]

      one-guest :
          (k l : ℕ) (u x : LaneView) (i : ℕ) → get_elem? views-then k ≡ some u
          → get_elem? views-then l ≡ some x → u.guest ≡ Some i → x.guest ≡ Some i
          → k ≡ l
      one-guest k l u x i found found' is-guest is-guest' =
          elim (was k u found) [
            | inl new ↦ elim (was l x found') [
              | inl new' ↦ new.0 ∙ sym new'.0
              | inr there' ↦ elim there' [
                | inl mine' ↦ absurd (no-guest x i mine'.1 is-guest')
                | inr old' ↦
                    absurd (old'.0 (rule.one_guest l id x v i old'.1 at is-guest'
                    (ap (λ (x : LaneView). x.guest) new.1 ∙ is-guest)))
              ]
            ]
            | inr there ↦ elim there [
              | inl mine ↦ absurd (no-guest u i mine.1 is-guest)
              | inr old ↦ elim (was l x found') [
                | inl new' ↦
                    absurd (old.0 (rule.one_guest k id u v i old.1 at is-guest
                    (ap (λ (x : LaneView). x.guest) new'.1 ∙ is-guest')))
                | inr there' ↦ elim there' [
                  | inl mine' ↦ absurd (no-guest x i mine'.1 is-guest')
                  | inr old' ↦ rule.one_guest k l u x i old.1 old'.1 is-guest is-guest'
                ]
              ]
            ]
          ]

      dealer : (k : ℕ) (u : LaneView) (d : ℕ) → get_elem? views-then k ≡ some u
          → u.dealer ≡ Some d → d ≡ rule.dealt
      dealer k u d found deals =
          elim (was k u found) [
            | inl new ↦ absurd (no-dealer u d new.1 deals)
            | inr there ↦ elim there [
              | inl mine ↦ rule.dealer id v d at (ap (λ (x : LaneView). x.dealer) mine.1 ∙ deals)
              | inr old ↦ rule.dealer k u d old.1 deals
            ]
          ]

      one-dealer :
          (k l : ℕ) (u x : LaneView) (d e : ℕ) → get_elem? views-then k ≡ some u
          → get_elem? views-then l ≡ some x → u.dealer ≡ Some d → x.dealer ≡ Some e
          → k ≡ l
      one-dealer k l u x d e found found' deals deals' =
          elim (was k u found) [
            | inl new ↦ absurd (no-dealer u d new.1 deals)
            | inr there ↦ elim (was l x found') [
              | inl new' ↦ absurd (no-dealer x e new'.1 deals')
              | inr there' ↦ elim there [
                | inl mine ↦ elim there' [
                  | inl mine' ↦ mine.0 ∙ sym mine'.0
                  | inr old' ↦
                      absurd (old'.0 (rule.one_dealer l id x v e d old'.1 at deals'
                      (ap (λ (x : LaneView). x.dealer) mine.1 ∙ deals)))
                ]
                | inr old ↦ elim there' [
                  | inl mine' ↦
                      absurd (old.0 (rule.one_dealer k id u v d e old.1 at deals
                      (ap (λ (x : LaneView). x.dealer) mine'.1 ∙ deals')))
                  | inr old' ↦ rule.one_dealer k l u x d e old.1 old'.1 deals deals'
                ]
              ]
            ]
          ]

pub hands :
    (p : Opened) (id : ℕ) (v : LaneView) → Splits (IsOneLog p) id v (guest_left v) (guest_alone v)
hands p id v s rule at = hand-keeps p id v s rule at
