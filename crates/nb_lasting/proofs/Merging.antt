-- A token takes the place of another, which makes no call.
use Rattle.std.proofs.Common.{◌≡◌, ◌≢◌, ◌∙◌, ◌<◌, ◌≤◌, ◌⊎◌, ℕ, List, [], Some, ap, inl, inr, refl, slice_set, subst, sym, arith}
use Rattle.std.specs.Prelude.{None, Option}
use mathlib.Core.Option.{some}
use lib.ListN.{get_elem?}
use Rattle.atomic_table.proofs.Lists.{at_set, set_else}
use Rattle.atomic_table.specs.Table.{Joins}
use Rattle.nb_lasting.proofs.Sharing.{holders_same}
use Rattle.nb_lasting.specs.Shared.{Has, IsOfMap, IsOneLog, LaneMoment, as_guest, nobody}
use Rattle.nb_lasting.specs.declared.shared.LaneView.{LaneView}
use Rattle.nb_lasting.specs.declared.shared.Opened.{Opened}
use Rattle.nb_lasting.specs.declared.shared.Out.{Out}

module _
    (p : Opened) (id other : ℕ) (v w : LaneView) (idle : w.outs ≡ []) (s : LaneMoment)
    (rule : IsOneLog p s) (at : get_elem? s.views id ≡ some v) (apart : other ≢ id)
    (at-then : get_elem? (slice_set s.views id (as_guest v w)) other ≡ some w) where
  abbrev views-then : List LaneView
  views-then = slice_set (slice_set s.views id (as_guest v w)) other nobody

  at-other : get_elem? s.views other ≡ some w
  at-other = sym (set_else s.views id other (as_guest v w) apart) ∙ at-then

  -- a view then is nobody's, the token's, or a former one
  Was : ℕ → LaneView → Type 0
  Was k u =
      (nobody ≡ u)
      ⊎ (((k ≡ id) × (as_guest v w ≡ u)) ⊎ ((k ≢ other) × (k ≢ id)
      × (get_elem? s.views k ≡ some u)))

  was : (k : ℕ) (u : LaneView) → get_elem? views-then k ≡ some u
      → (nobody ≡ u)
      ⊎ (((k ≡ id) × (as_guest v w ≡ u)) ⊎ ((k ≢ other) × (k ≢ id)
      × (get_elem? s.views k ≡ some u)))
  was k u found =
      elim (at_set (slice_set s.views id (as_guest v w)) other k nobody u found) [
        | inl spent ↦ inl spent.1
        | inr there ↦ elim (at_set s.views id k (as_guest v w) u there.1) [
          | inl mine ↦ inr (inl mine)
          | inr old ↦ inr (inr (there.0, old.0, old.1))
        ]
      ]

  no-guest : (u : LaneView) (i : ℕ) → nobody ≡ u → u.guest ≡ Some i → ⊥
  no-guest u i is is-guest =
      let none-is : ◌≡◌ {A = Option ℕ} None (Some i) =
      ap (λ (x : LaneView). x.guest) is ∙ is-guest in
      absurd cc

  no-dealer : (u : LaneView) (d : ℕ) → nobody ≡ u → u.dealer ≡ Some d → ⊥
  no-dealer u d is deals =
      let none-is : ◌≡◌ {A = Option ℕ} None (Some d) =
      ap (λ (x : LaneView). x.dealer) is ∙ deals in
      absurd cc

  merge-keeps :
      IsOneLog p (record {
        words = s.words;
        homes = s.homes;
        views = slice_set (slice_set s.views id (as_guest v w)) other nobody;
      })
  merge-keeps = record {
    shared = rule.shared;
    epoch = rule.epoch;
    current = rule.current;
    seen = rule.seen;
    dealt = rule.dealt;
    fits = rule.fits;
    room = rule.room;
    asked = asked;
    made = rule.made;
    count = rule.count;
    long = rule.long;
    homes = rule.homes;
    words = rule.words;
    once = λ i.
        holders_same i (slice_set s.views id (as_guest v w)) other w nobody at-then (sym idle)
        ∙ holders_same i s.views id v (as_guest v w) at refl ∙ rule.once i;
    held = held;
    knew = knew-of;
    goes = rule.goes;
    guests = guests;
    one_guest = one-guest;
    fresh = rule.fresh;
    few = rule.few;
    dealer = dealer;
    one_dealer = one-dealer;
  }
    where
      asked : (k : ℕ) (u : LaneView) → get_elem? views-then k ≡ some u → u.account.keys ≤ p.keys
      asked k u found =
          elim (was k u found) [
            | inl spent ↦
                subst (λ (x : LaneView). x.account.keys ≤ p.keys) spent (omega arith)
            | inr there ↦ elim there [
              | inl mine ↦
                  subst (λ (x : LaneView). x.account.keys ≤ p.keys) mine.1 (rule.asked id v at)
              | inr old ↦ rule.asked k u old.2
            ]
          ]

      held : (k : ℕ) (u : LaneView) → get_elem? views-then k ≡ some u → u.outs ≢ []
          → IsOfMap rule.shared rule.epoch u
      held k u found some-lane =
          elim (was k u found) [
            | inl spent ↦ absurd (some-lane (sym (ap (λ (x : LaneView). x.outs) spent)))
            | inr there ↦ elim there [
              | inl mine ↦
                  let old = rule.held id v at
                  (λ none-left. some-lane (sym (ap (λ (x : LaneView). x.outs) mine.1)
                  ∙ none-left)) in
                  subst (IsOfMap rule.shared rule.epoch) mine.1
                  (record { map = old.map; filled = old.filled; past = old.past })
              | inr old ↦ rule.held k u old.2 some-lane
            ]
          ]

      knew-of : (k : ℕ) (u : LaneView) (out : Out) → get_elem? views-then k ≡ some u
          → Has out u.outs → rule.current out.lane ≡ out.knew
      knew-of k u out found has =
          elim (was k u found) [
            | inl spent ↦ absurd (subst (Has out) (sym (ap (λ (x : LaneView). x.outs) spent)) has)
            | inr there ↦ elim there [
              | inl mine ↦
                  rule.knew id v out at
                  (subst (Has out) (sym (ap (λ (x : LaneView). x.outs) mine.1)) has)
              | inr old ↦ rule.knew k u out old.2 has
            ]
          ]

      guests : (k : ℕ) (u : LaneView) (i : ℕ) → get_elem? views-then k ≡ some u
          → u.guest ≡ Some i → (i < rule.dealt) × (u.seen ≡ rule.seen i)
      guests k u i found is-guest =
          elim (was k u found) [
            | inl spent ↦ absurd (no-guest u i spent is-guest)
            | inr there ↦ elim there [
              | inl mine ↦
                  let old = rule.guests other w i at-other
                  (ap (λ (x : LaneView). x.guest) mine.1 ∙ is-guest) in
                  (old.0, sym (ap (λ (x : LaneView). x.seen) mine.1) ∙ old.1)
              | inr old ↦ rule.guests k u i old.2 is-guest
            ]
          ]

      one-guest :
          (k l : ℕ) (u x : LaneView) (i : ℕ) → get_elem? views-then k ≡ some u
          → get_elem? views-then l ≡ some x → u.guest ≡ Some i → x.guest ≡ Some i
          → k ≡ l
      one-guest k l u x i found found' is-guest is-guest' =
          elim (was k u found) [
            | inl spent ↦ absurd (no-guest u i spent is-guest)
            | inr there ↦ elim (was l x found') [
              | inl spent ↦ absurd (no-guest x i spent is-guest')
              | inr there' ↦ elim there [
                | inl mine ↦ elim there' [
                  | inl mine' ↦ mine.0 ∙ sym mine'.0
                  | inr old' ↦
                      absurd (old'.0 (rule.one_guest l other x w i old'.2 at-other is-guest'
                      (ap (λ (x : LaneView). x.guest) mine.1 ∙ is-guest)))
                ]
                | inr old ↦ elim there' [
                  | inl mine' ↦
                      absurd (old.0 (rule.one_guest k other u w i old.2 at-other is-guest
                      (ap (λ (x : LaneView). x.guest) mine'.1 ∙ is-guest')))
                  | inr old' ↦ rule.one_guest k l u x i old.2 old'.2 is-guest is-guest'
                ]
              ]
            ]
          ]

      dealer : (k : ℕ) (u : LaneView) (d : ℕ) → get_elem? views-then k ≡ some u
          → u.dealer ≡ Some d → d ≡ rule.dealt
      dealer k u d found deals =
          elim (was k u found) [
            | inl spent ↦ absurd (no-dealer u d spent deals)
            | inr there ↦ elim there [
              | inl mine ↦ rule.dealer id v d at (ap (λ (x : LaneView). x.dealer) mine.1 ∙ deals)
              | inr old ↦ rule.dealer k u d old.2 deals
            ]
          ]

      one-dealer :
          (k l : ℕ) (u x : LaneView) (d e : ℕ) → get_elem? views-then k ≡ some u
          → get_elem? views-then l ≡ some x → u.dealer ≡ Some d → x.dealer ≡ Some e
          → k ≡ l
      one-dealer k l u x d e found found' deals deals' =
          elim (was k u found) [
            | inl spent ↦ absurd (no-dealer u d spent deals)
            | inr there ↦ elim (was l x found') [
              | inl spent ↦ absurd (no-dealer x e spent deals')
              | inr there' ↦ elim there [
                | inl mine ↦ elim there' [
                  | inl mine' ↦ mine.0 ∙ sym mine'.0
                  | inr old' ↦
                      absurd (old'.1 (rule.one_dealer l id x v e d old'.2 at deals'
                      (ap (λ (x : LaneView). x.dealer) mine.1 ∙ deals)))
                ]
                | inr old ↦ elim there' [
                  | inl mine' ↦
                      absurd (old.1 (rule.one_dealer k id u v d e old.2 at deals
                      (ap (λ (x : LaneView). x.dealer) mine'.1 ∙ deals')))
                  | inr old' ↦ rule.one_dealer k l u x d e old.2 old'.2 deals deals'
                ]
              ]
            ]
          ]

pub merges :
    (p : Opened) (id other : ℕ) (v w : LaneView) → w.outs ≡ []
    → Joins (IsOneLog p) id v other w (as_guest v w) nobody
merges p id other v w idle s rule at apart at-then =
    merge-keeps p id other v w idle s rule at apart at-then
