use Rattle.std.proofs.Common.{refl, subst₂, sym}
use Rattle.std.proofs.Common.{rules}
use Rattle.nb_map.proofs.Logged.{logged-same}
use Rattle.nb_map.specs.Maps.{IsMine, SeatOf}
use Rattle.nb_map.specs.Promises.{HasEstimated}
use Rattle.nb_map.proofs.map.Map.size_estimate.Goals as goal

pub returns : goal.returns
returns c =
    let mine = subst₂ IsMine (sym c.self.view_is) (sym c.seat.view_is) c.requires.own in
    let after : SeatOf = record { chain = c.seat.inside.chain; count = c.estimate.new.seat } in
    subst₂ (λ map before. HasEstimated map before after) c.self.view_is c.seat.view_is
    (record {
      logged = logged-same {after = after} mine refl;
      chain = refl;
      count = c.estimate.ensures.looked;
      own = search rules;
    })
