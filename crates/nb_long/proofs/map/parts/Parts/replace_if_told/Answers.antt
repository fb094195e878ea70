use Rattle.std.proofs.Common.{refl, rules}
use Rattle.nb_long.proofs.Rounds.{free-none}
use Rattle.nb_long.specs.Typed.{LongMapOf}
use Rattle.nb_long.proofs.map.parts.Parts.replace_if_told.Goals as goal

pub returns-in_err-receipt : goal.returns-in_err-receipt
returns-in_err-receipt g c =
    let handle = g.M.Numbers.handle c.args.self.now.map.now c.args.caller.now in
    let m : LongMapOf = record { map = handle.map; store = c.args.self.now.store.now } in
    record {
      done = record {
        kept = search rules;
        answered = search rules;
        lock_free = free-none m c.args.key handle.seat c.requires.own;
        own = c.requires.own;
      };
      rest = record { map = refl; reserve = refl };
    }
