use Rattle.std.proofs.Common.{◌∙◌, ◌++◌, ◌∷◌, ap₂, rules}
use Rattle.nb_map.proofs.Reserves.{is-reserve, joined, reserve-of}
use Rattle.nb_map.specs.inside.Reserves.{seats_in}
use Rattle.nb_map.proofs.handle.reserve.Reserve.join.Goals as goal

pub invariant_of-self : goal.invariant_of-self
invariant_of-self c =
    is-reserve c.append.new.self (seats_in c.self.inside.nodes ++ c.args.seat ∷ seats_in c.other.inside.nodes)
    (search (rules, c.append.ensures.items, c.is_ok.ensures.value, c.if-is_ok.true)
    ∙ joined c.self.inside.nodes c.other.inside.nodes c.exchanged.new.nodes c.exchanged.result
    c.args.seat c.self.invariant c.other.invariant c.exchanged.ensures)

pub returns-then-is_ok-clause-joined : goal.returns-then-is_ok-clause-joined
returns-then-is_ok-clause-joined c =
    reserve-of c.append.new.self (seats_in c.self.inside.nodes ++ c.args.seat ∷ seats_in c.other.inside.nodes)
    (search (rules, c.append.ensures.items, c.is_ok.ensures.value, c.if-is_ok.true)
    ∙ joined c.self.inside.nodes c.other.inside.nodes c.exchanged.new.nodes c.exchanged.result
    c.args.seat c.self.invariant c.other.invariant c.exchanged.ensures)
    ∙ ap₂ (λ xs ys. xs ++ c.args.seat ∷ ys) c.self.view_is c.other.view_is
