-- A chain and its seats, from within and as contracts see them.
use Rattle.std.proofs.Common.{◌≡◌, ◌∙◌, ℕ, ◌<◌, Bool, true, false, cond, eqb, ap, sym, subst, refl, List, [], ◌∷◌, ◌++◌}
use Rattle.std.proofs.lemmas.List.{append_assoc}
use prog.Atomic.{either}
use Rattle.atomic_table.specs.Seated.{TableId}
use Rattle.atomic_table.specs.Table.{Allows}
use Rattle.atomic_table.specs.declared.shared.Seat.{Seat}
use Rattle.nb_core.specs.Plans.{Plan, IsPlan, word_count}
use Rattle.nb_core.specs.History.{IsLegal}
use Rattle.nb_core.specs.declared.events.Event.{Event}
use Rattle.nb_table.proofs.Keeping.{allows-step}
use Rattle.nb_table.proofs.Tops.{grown-remembers}
use Rattle.nb_table.specs.Chains.{ChainOf, Remembers, SeenBy}
use Rattle.nb_table.specs.Inside.{IsChain, IsSeat, chain_of, part_of, seat_of}
use Rattle.nb_table.specs.Steps.{Can, Stepped}
use Rattle.nb_table.specs.Views.{HasMoved, IsChained, Moves}
use Rattle.nb_table.specs.declared.chain.Chain.TheInside as chain
use Rattle.nb_table.specs.declared.chain.ChainSeat.TheInside as seat
use Rattle.nb_table.specs.declared.view.View.{View}

-- ---- what a step asks

-- what a step of a token on the chain's table asks
abbrev pub IsAsked :
    TableId → Plan → Seat (Unit {0}) View → (p : Plan) → (ℕ → List Event) → (index : ℕ) → (ℕ → ℕ)
    → Type 0
IsAsked table key s p events index f =
    (s.table_id ≡ table) × (index < table.words)
    × Allows (IsChained key) table.slots s.id s.me index f
    (Moves p events index s.me)

-- it may be made where its events can
pub asked :
    (c : chain.Inside) (s : Seat (Unit {0}) View) (the_chain : ChainOf) (p : Plan)
    (events : ℕ → List Event) (index : ℕ)
    (f : ℕ → ℕ)
    → chain_of c ≡ the_chain → IsChain c → let part = part_of s.me.0.parts in
    s.me.0.parts ≡ part ∷ [] → s.table_id ≡ the_chain.id → p ≡ the_chain.shape
    → index < word_count the_chain.shape → Can p events part.number part.seen index f
    → IsAsked c.table.shared.table_id c.table.shared.key s p events index f
asked c s the_chain p events index f c_is is_chain one own shape within can =
    let same : p ≡ c.shape = shape ∙ sym (ap (λ v. v.shape) c_is) in
    let within' : index < c.table.shared.table_id.words
    = subst (λ n. index < n) (sym (is_chain.words ∙ ap (λ v. word_count v.shape) c_is)) within in
    let slots = c.table.shared.table_id.slots in (
      own ∙ sym (ap (λ v. v.id) c_is),
      within',
      subst (λ q. Allows (IsChained q) slots s.id s.me index f (Moves p events index s.me))
          (same ∙ sym is_chain.key)
          (allows-step p (subst IsPlan (sym same) is_chain.plan) events slots s.id s.me
          (part_of s.me.0.parts) index f one can),
    )

-- the same of a seat
pub asked-seat :
    (c : chain.Inside) (s : seat.Inside) (the_chain : ChainOf) (seeing : SeenBy) (p : Plan)
    (events : ℕ → List Event)
    (index : ℕ) (f : ℕ → ℕ)
    → chain_of c ≡ the_chain → seat_of s ≡ seeing → IsChain c → IsSeat s
    → seeing.chain ≡ the_chain.id → p ≡ the_chain.shape
    → index < word_count the_chain.shape → Can p events seeing.number seeing.seen index f
    → IsAsked c.table.shared.table_id c.table.shared.key s.seat p events index f
asked-seat c s the_chain seeing p events index f c_is s_is is_chain is_seat own shape within can =
    asked c s.seat the_chain p events index f c_is is_chain is_seat.one (ap (λ v. v.chain) s_is
    ∙ own) shape within
    (subst (λ v. Can p events v.number v.seen index f) (sym s_is) can)

-- the two cases, as contracts and as the table's steps write them
either-cases : (b : Bool) (x y : ℕ) → cond b x y ≡ either b x y
either-cases true x y = refl
either-cases false x y = refl

-- a compare-and-exchange by the words of a contract is one by the words of the table's step
pub can-exchange :
    (p : Plan) (events : ℕ → List Event) (number : ℕ) (seen : List Event) (index old new : ℕ)
    → Can p events number seen index (λ found. cond (eqb found old) new found)
    → Can p events number seen index (λ found. either (eqb found old) new found)
can-exchange p events number seen index old new can =
    subst (Can p events number seen index) (λ i found. either-cases (eqb found old) new found i) can

-- ---- a seat after a step

module _
    (p : Plan) (events : ℕ → List Event) (index found : ℕ) (s : seat.Inside)
    (after : Seat (Unit {0}) View)
    (before : SeenBy) (is_seat : IsSeat s) (s_is : seat_of s ≡ before)
    (moves : Moves p events index s.seat.me found after.me) where
  -- what it tells
  told : HasMoved p events index found (part_of s.seat.me.0.parts) (part_of after.me.0.parts)
  told =
      subst (λ part. HasMoved p events index found (part_of s.seat.me.0.parts) part)
      (sym (ap (λ me. part_of me.0.parts) moves.is))
      (moves.moves (part_of s.seat.me.0.parts) is_seat.one)

  -- it is a seat as before
  pub stepped-is_seat : IsSeat (record { seat = after; top = s.top })
  stepped-is_seat = record {
    one = ap (λ me. me.0.parts) moves.is ∙ ap (λ me. part_of me.0.parts ∷ []) (sym moves.is);
    free = ap (λ me. me.1) moves.is ∙ is_seat.free;
  }

  -- which remembers the same
  abbrev pub stepped : SeenBy
  stepped = seat_of (record { seat = after; top = s.top })

  stepped-remembers : Remembers p (seat_of s) stepped
  stepped-remembers =
      grown-remembers p (seat_of s) stepped (events found ++ told.others) refl
      (ap (λ part. part.seen) told.is
      ∙ sym (append_assoc (events found) told.others (part_of s.seat.me.0.parts).seen))
      (subst (λ part. IsLegal p part.seen) (sym told.is) told.legal)

  -- and has seen more
  pub stepped-seat : after.table_id ≡ s.seat.table_id → Stepped p events index before found stepped
  stepped-seat table =
      subst (λ v. Stepped p events index v found stepped) s_is (record {
        grows = record {
          chain = table;
          number = ap (λ part. part.number) told.is;
          others = told.others;
          seen = ap (λ part. part.seen) told.is;
          not_own = told.not_own;
          mine = told.mine;
          legal = subst (λ part. IsLegal p part.seen) (sym told.is) told.legal;
          steps = ap (λ part. part.steps) told.is;
          remembers = stepped-remembers;
        };
        word = told.word;
      })
