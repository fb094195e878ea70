use Rattle.std.proofs.Common.{◌≡◌, ◌∙◌, ◌≤◌, ap, subst, sym, arith}
use Rattle.nb_table.specs.Chains.{ChainOf, IsOwn, SeenBy, seen_by}
use Rattle.nb_table.specs.Inside.{seat_of}
use Rattle.nb_table.specs.declared.chain.ChainSeat.TheInside as seat
use Rattle.nb_table.proofs.Meeting.{HasMet, joined-me, joins, met, met-told, notes}
use Rattle.nb_table.proofs.Opening.{some-words}
use Rattle.nb_table.proofs.chain.Chain.meet.Goals as goal

pub split_seat-of_a-requires : goal.split_seat-of_a-requires
split_seat-of_a-requires c = (
  ap (λ v. v.chain) c.a.view_is ∙ c.requires.a_own.at ∙ sym (ap (λ v. v.id) c.self.view_is),
  omega (arith, c.self.invariant.words, some-words c.self.inside.shape),
  notes _ _ _,
)

pub split_seat-of_b-requires : goal.split_seat-of_b-requires
split_seat-of_b-requires c = (
  ap (λ v. v.chain) c.b.view_is ∙ c.requires.b_own.at ∙ sym (ap (λ v. v.id) c.self.view_is),
  omega (arith, c.self.invariant.words, some-words c.self.inside.shape),
  notes _ _ _,
)

pub join_seat-requires : goal.join_seat-requires
join_seat-requires c =
    let table = sym (ap (λ v. v.id) c.self.view_is) in (
      c.split_seat-of_a.ensures.0 ∙ ap (λ v. v.chain) c.a.view_is ∙ c.requires.a_own.at ∙ table,
      c.split_seat-of_b.ensures.3 ∙ ap (λ v. v.chain) c.b.view_is ∙ c.requires.b_own.at ∙ table,
      ap (λ m. m.1) c.split_seat-of_b.ensures.4,
      omega (arith, c.self.invariant.words, some-words c.self.inside.shape),
      joins _ _ _ _ _,
    )

pub join_seat-requires-2 : goal.join_seat-requires-2
join_seat-requires-2 c =
    let table = sym (ap (λ v. v.id) c.self.view_is) in (
      c.split_seat-of_b.ensures.0 ∙ ap (λ v. v.chain) c.b.view_is ∙ c.requires.b_own.at ∙ table,
      c.split_seat-of_a.ensures.3 ∙ ap (λ v. v.chain) c.a.view_is ∙ c.requires.a_own.at ∙ table,
      ap (λ m. m.1) c.split_seat-of_a.ensures.4,
      omega (arith, c.self.invariant.words, some-words c.self.inside.shape),
      joins _ _ _ _ _,
    )

-- what a seat remembers is at most the top of what it has seen, also from within
known :
    (chain : ChainOf) (before : seat.Inside) (seen : SeenBy) → seat_of before ≡ seen
    → IsOwn chain seen → before.top ≤ (seen_by chain.shape (seat_of before)).top
known chain before seen is own =
    subst (λ (x : SeenBy). x.top ≤ (seen_by chain.shape x).top) (sym is) own.known

met-a : (c : goal.After-b-1) → HasMet c.args.self.now.shape c.a.inside c.b.inside
    (record { seat = c.hears-a_top.new.seat; top = c.hears-a_top.result })
met-a c =
    let me = joined-me c.a.inside.seat.me c.b.inside.seat.me _ _ _ c.split_seat-of_a.ensures.2
    c.split_seat-of_b.ensures.4
    c.join_seat.ensures.2 in
    met _ c.requires.a_own.plan c.a.inside c.b.inside _ _ c.a.invariant c.b.invariant
    (known _ c.a.inside _ c.a.view_is c.requires.a_own)
    (c.hears-a_top.ensures.own ∙ c.join_seat.ensures.0 ∙ c.split_seat-of_a.ensures.0)
    me c.hears-a_top.ensures.heard

met-b : (c : goal.After-b-1) → HasMet c.args.self.now.shape c.b.inside c.a.inside
    (record { seat = c.hears-b_top.new.seat; top = c.hears-b_top.result })
met-b c =
    let me = joined-me c.b.inside.seat.me c.a.inside.seat.me _ _ _ c.split_seat-of_b.ensures.2
    c.split_seat-of_a.ensures.4
    c.join_seat-2.ensures.2 in
    met _ c.requires.b_own.plan c.b.inside c.a.inside _ _ c.b.invariant c.a.invariant
    (known _ c.b.inside _ c.b.view_is c.requires.b_own)
    (c.hears-b_top.ensures.own ∙ c.join_seat-2.ensures.0 ∙ c.split_seat-of_b.ensures.0)
    me c.hears-b_top.ensures.heard

pub invariant_of-a : goal.invariant_of-a
invariant_of-a c = (met-a c).seat

pub invariant_of-b : goal.invariant_of-b
invariant_of-b c = (met-b c).seat

pub returns-clause-a : goal.returns-clause-a
returns-clause-a c = met-told _ _ _ _ _ _ c.a.view_is c.b.view_is (met-a c)

pub returns-clause-b : goal.returns-clause-b
returns-clause-b c = met-told _ _ _ _ _ _ c.b.view_is c.a.view_is (met-b c)

pub returns-clause-a_known : goal.returns-clause-a_known
returns-clause-a_known c = (met-a c).knows

pub returns-clause-b_known : goal.returns-clause-b_known
returns-clause-b_known c = (met-b c).knows
