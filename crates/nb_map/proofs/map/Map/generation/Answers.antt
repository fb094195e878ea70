use Rattle.std.proofs.Common.{◌∙◌, refl, subst₂, sym}
use Rattle.nb_table.proofs.Theorems.{steps_add_up}
use Rattle.nb_map.proofs.Counted.{quiet-mine}
use Rattle.nb_map.proofs.Logged.{logged-quiet}
use Rattle.nb_map.proofs.Searched.{complete-below}
use Rattle.nb_map.specs.Maps.{IsMine, SeatOf}
use Rattle.nb_map.specs.Promises.{HasSeenTop}
use Rattle.nb_map.proofs.map.Map.generation.Goals as goal

pub returns : goal.returns
returns c =
    let mine = subst₂ IsMine (sym c.self.view_is) (sym c.seat.view_is) c.requires.own in
    let after : SeatOf = record { chain = c.load_top.new.seat; count = c.seat.inside.count } in
    let grows = c.load_top.ensures.grows in
    subst₂ (λ map before. HasSeenTop map before after c.load_top.result) c.self.view_is
    c.seat.view_is
    (record {
      found = c.load_top.ensures.found;
      remembered = c.load_top.ensures.known ∙ c.load_top.ensures.found;
      complete = complete-below c.self.inside.chain c.load_top.new.seat
          (steps_add_up.own mine.chain (steps_add_up.one grows)) c.load_top.result
          c.load_top.ensures.found;
      logged = logged-quiet {after = after} mine grows;
      grows = grows;
      count = refl;
      own = quiet-mine {after = after} mine grows refl;
    })
