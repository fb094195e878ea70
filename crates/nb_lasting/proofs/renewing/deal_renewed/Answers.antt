use Rattle.std.proofs.Common.{◌≡◌, ◌∙◌, ◌+◌, length, subst, arith}
use Rattle.std.specs.Prelude.{◌-◌}
use Rattle.nb_lasting.specs.Renewal.{CanDealAnew}
use Rattle.nb_lasting.proofs.renewing.deal_renewed.Goals as goal

pub returns-clause-map : goal.returns-clause-map
returns-clause-map c can =
    let n : (c.len-lane.result - 1) + 1 ≡ length c.args.handles.items =
    omega (arith, c.len-lane.ensures, c.requires.lanes, c.args.hall.now.some) in
    c.deal_all.ensures.map
    ∙ subst (λ k. (can : CanDealAnew c.args.hall.now.table.shared.key.keys k c.args.token.now.me c.args.handles.items)
    → c.deal_anew.new.token.me.0.map ≡ can.anew.shared) n c.deal_anew.ensures.map can

pub returns-clause-begun : goal.returns-clause-begun
returns-clause-begun c =
    let begun = c.deal_anew.ensures.begun in
    record {
      first = begun.first;
      place = begun.place;
      there = begun.there;
      account = c.deal_all.ensures.account ∙ begun.account;
    }
