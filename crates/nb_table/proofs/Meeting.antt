-- Two seats meet: notes, and loads after them.
use Rattle.std.proofs.Common.{◌≡◌, ◌∙◌, ℕ, ◌≤◌, ap, sym, subst, refl, List, [], ◌∷◌, ◌++◌, map, slice_set, All}
use mathlib.Core.Option.{some}
use lib.ListN.{get_elem?}
use Rattle.std.proofs.lemmas.List.{append-nil}
use Rattle.std.proofs.lemmas.List.Elements.{All-append, All-head, All-map, All-nil, All-set, All-weaker}
use Rattle.atomic_table.proofs.Lists.{set_else}
use Rattle.atomic_table.specs.Table.{Joins, Me, Splits}
use Rattle.nb_core.proofs.Seating.{All-at, All-right, all-joined}
use Rattle.nb_core.specs.Plans.{IsPlan, Plan}
use Rattle.nb_core.specs.Tables.{tables_at}
use Rattle.nb_core.specs.History.{IsLegal}
use Rattle.nb_core.specs.declared.events.Event.{Event}
use Rattle.nb_table.specs.Chains.{Extended, KnowsTop, SeenBy, seen_by}
use Rattle.nb_table.specs.Inside.{IsSeat, part_of, seat_of}
use Rattle.nb_core.specs.Log.{IsBeginning}
use Rattle.nb_table.specs.Views.{HasMoved, IsChained, Moves, joined_views, moved, noted, spent_view}
use Rattle.nb_table.specs.declared.chain.ChainSeat.TheInside as seat
use Rattle.nb_table.specs.declared.view.Part.{Part}
use Rattle.nb_table.specs.declared.view.View.{View}
use Rattle.nb_table.proofs.Opening.{kept, split-keeps}
use Rattle.nb_table.proofs.Parted.{Fits, IsTold}
use Rattle.nb_table.proofs.Tops.{top-remembers}

-- ---- notes

-- a seat that fits a history has seen a beginning of it
beginning-of : (h : List Event) (part : Part) → Fits h part → IsBeginning part.seen h
beginning-of h part fits = record { later = fits.later; is = fits.is }

-- a note tells beginnings alone
noted-told : (h : List Event) (v : View) → All (Fits h) v.parts → IsTold h v → IsTold h (noted v)
noted-told h v fits told =
    All-append (λ seen. IsBeginning seen h) (map (λ part. part.seen) v.parts) v.told
    (All-map (λ seen. IsBeginning seen h) (λ part. part.seen) v.parts
    (All-weaker (Fits h) (λ part. IsBeginning part.seen h) (beginning-of h) v.parts fits)) told

-- a token keeps its parts and tells what it knows
pub notes : (p : Plan) (id : ℕ) (v : View) → Splits (IsChained p) id v v (noted v)
notes p id v = split-keeps p id v v (noted v) refl (λ h fits told. (told, noted-told h v fits told))

-- one token takes in what another knows
pub joins :
    (p : Plan) (id : ℕ) (v : View) (other : ℕ) (w : View)
    → Joins (IsChained p) id v other w (joined_views v w) spent_view
joins p id v other w s rule at differs other_at =
    kept p s (slice_set (slice_set s.views id (joined_views v w)) other spent_view) rule
    (all-joined (λ view. view.parts) s.views id v other w (joined_views v w) spent_view at differs
    other_at refl refl)
    (All-set (IsTold rule.history) (slice_set s.views id (joined_views v w)) other spent_view
    (All-nil (λ seen. IsBeginning seen rule.history))
    (All-set (IsTold rule.history) s.views id (joined_views v w) told rule.told))
  where
    before : get_elem? s.views other ≡ some w
    before = sym (set_else s.views id other (joined_views v w) differs) ∙ other_at

    told : IsTold rule.history (joined_views v w)
    told =
        All-append (λ seen. IsBeginning seen rule.history) v.told w.told
        (All-at (IsTold rule.history) s.views id v at rule.told)
        (All-at (IsTold rule.history) s.views other w before rule.told)

-- ---- after the meeting

-- the seat has seen more, and all that the other had seen; and it remembers the top of that
pub record HasMet (p : Plan) (before other after : seat.Inside) : Type 0 where
  pub seat : IsSeat after
  pub grows : Extended p (seat_of before) (seat_of after) [] 1
  pub sees : IsBeginning (seat_of other).seen (seat_of after).seen
  pub knows : KnowsTop p (seat_of after)

-- what the token knows that took in the other's note
pub joined-me :
    (before other own note me : Me (Unit {0}) View) → own ≡ before → note ≡ (noted other.0, [])
    → me ≡ (joined_views own.0 note.0, own.1)
    → me ≡ (joined_views before.0 (noted other.0), before.1)
joined-me before other own note me own_is note_is me_is = me_is
    ∙ (λ i. (joined_views ((own_is i).0) ((note_is i).0), (own_is i).1))

pub met :
    (p : Plan) → IsPlan p → (before other after : seat.Inside) (me : Me (Unit {0}) View)
    → IsSeat before → IsSeat other
    → before.top ≤ (seen_by p (seat_of before)).top
    → after.seat.table_id ≡ before.seat.table_id
    → me ≡ (joined_views before.seat.me.0 (noted other.seat.me.0), before.seat.me.1)
    → Moves p (λ _. []) 0 me after.top after.seat.me
    → HasMet p before other after
met p plan before other after me is_seat other_seat known table me_is heard = record {
  seat = record {
    one = alone_after ∙ ap (λ x. x ∷ []) (sym (ap part_of alone_after));
    free = ap (λ m. m.1) heard.is ∙ ap (λ m. m.1) me_is ∙ is_seat.free;
  };
  grows = record {
    chain = table;
    number = ap (λ x. x.number) after_is;
    others = moves.others;
    seen = ap (λ x. x.seen) after_is;
    not_own = moves.not_own;
    mine = moves.mine;
    legal = legal;
    steps = ap (λ x. x.steps) after_is;
    remembers = top-remembers p plan (seat_of before) (seat_of after) moves.others known
        (ap (λ x. x.seen) after_is) legal top;
  };
  sees = subst (λ (x : Part). IsBeginning (part_of other.seat.me.0.parts).seen x.seen)
      (sym (ap part_of alone_after)) told;
  knows = top;
}
  where
    part : Part
    part = part_of before.seat.me.0.parts

    moves : HasMoved p (λ _. []) 0 after.top part heard.after
    moves = heard.moves part (ap (λ m. m.0.parts) me_is ∙ append-nil before.seat.me.0.parts
        ∙ is_seat.one)

    alone_after : after.seat.me.0.parts ≡ heard.after ∷ []
    alone_after = ap (λ m. m.0.parts) heard.is

    after_is : part_of after.seat.me.0.parts ≡ moved part moves.others [] moves.step
    after_is = ap part_of alone_after ∙ moves.is

    legal : IsLegal p (seat_of after).seen
    legal = subst (λ (x : Part). IsLegal p x.seen) (sym after_is) moves.legal

    top : KnowsTop p (seat_of after)
    top = sym (ap (λ (x : Part). (tables_at p x.seen).top) after_is ∙ moves.word)

    told : IsBeginning (part_of other.seat.me.0.parts).seen heard.after.seen
    told =
        let P : List Event → Type 0 = λ seen. IsBeginning seen heard.after.seen in
        let is : me.0.told ≡ before.seat.me.0.told ++ (part_of other.seat.me.0.parts).seen
        ∷ other.seat.me.0.told
        = ap (λ m. m.0.told) me_is
        ∙ ap (λ ps. before.seat.me.0.told ++ (map (λ x. x.seen) ps ++ other.seat.me.0.told))
        other_seat.one in
        All-head P (part_of other.seat.me.0.parts).seen other.seat.me.0.told
        (All-right P before.seat.me.0.told
        ((part_of other.seat.me.0.parts).seen ∷ other.seat.me.0.told)
        (subst (All P) is heard.heard))

-- as contracts see it
pub met-told :
    (p : Plan) (before other after : seat.Inside) (a b : SeenBy) → seat_of before ≡ a
    → seat_of other ≡ b
    → HasMet p before other after
    → Extended p a (seat_of after) [] 1 × IsBeginning b.seen (seat_of after).seen
met-told p before other after a b a_is b_is m = (
  subst (λ x. Extended p x (seat_of after) [] 1) a_is m.grows,
  subst (λ (x : SeenBy). IsBeginning x.seen (seat_of after).seen) b_is m.sees,
)
