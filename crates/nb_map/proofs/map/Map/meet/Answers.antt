use Rattle.std.proofs.Common.{refl, subst, subst₂, sym}
use Rattle.nb_map.proofs.Counted.{quiet-mine}
use Rattle.nb_map.proofs.Logged.{log-begins, logged-quiet}
use Rattle.nb_map.specs.Maps.{IsMine, SeatOf}
use Rattle.nb_map.specs.Promises.{HasMet}
use Rattle.nb_map.specs.inside.Models.{map_within, seat_of}
use Rattle.nb_map.proofs.map.Map.meet.Goals as goal

pub returns-clause-a : goal.returns-clause-a
returns-clause-a c =
    let mine = subst₂ IsMine (sym c.self.view_is) (sym c.a.view_is) c.requires.a_own in
    let after : SeatOf = record { chain = c.meet.new.a; count = c.a.inside.count } in
    subst (λ map. HasMet map c.args.b.now c.args.a.now after) c.self.view_is
    (subst₂ (λ other before. HasMet (map_within c.self.inside) other before after) c.b.view_is
    c.a.view_is
    (record {
      logged = logged-quiet {after = after} mine c.meet.ensures.a.0;
      knows = log-begins (seat_of c.b.inside) after c.meet.ensures.a.1;
      grows = c.meet.ensures.a.0;
      seen = c.meet.ensures.a.1;
      count = refl;
      own = quiet-mine {after = after} mine c.meet.ensures.a.0 refl;
    }))

pub returns-clause-b : goal.returns-clause-b
returns-clause-b c =
    let mine = subst₂ IsMine (sym c.self.view_is) (sym c.b.view_is) c.requires.b_own in
    let after : SeatOf = record { chain = c.meet.new.b; count = c.b.inside.count } in
    subst (λ map. HasMet map c.args.a.now c.args.b.now after) c.self.view_is
    (subst₂ (λ other before. HasMet (map_within c.self.inside) other before after) c.a.view_is
    c.b.view_is
    (record {
      logged = logged-quiet {after = after} mine c.meet.ensures.b.0;
      knows = log-begins (seat_of c.a.inside) after c.meet.ensures.b.1;
      grows = c.meet.ensures.b.0;
      seen = c.meet.ensures.b.1;
      count = refl;
      own = quiet-mine {after = after} mine c.meet.ensures.b.0 refl;
    }))
