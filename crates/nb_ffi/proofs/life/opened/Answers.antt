use Rattle.std.proofs.Common.{rules}
use Rattle.std.proofs.lemmas.List.Elements.{All-cons}
use Rattle.nb_map.specs.Maps.{IsMine}
use Rattle.nb_ffi.proofs.life.opened.Goals as goal

pub returns-in-Ok : goal.returns-in-Ok
returns-in-Ok c = record {
  made = search rules;
  own = All-cons (IsMine c.in-Ok.handle.value.map) c.in-Ok.handle.value.seat
      c.in-Ok.handle.value.reserve (search rules) (search rules);
  seats = search rules;
  logs = search rules;
}
