use Rattle.std.proofs.Common.{◌≡◌, Some, refl}
use Rattle.nb_ffi.specs.Telling.IsSplit.{Lacks, Split}
use Rattle.nb_ffi.proofs.exports.handles.samvolip_split.Goals as goal

pub returns-in-Ok : goal.returns-in-Ok
returns-in-Ok c = Split refl c.in-Ok.part.value c.fill.ensures (record {
  old = c.lend.result.now;
  new = c.split.new.handle;
  was = c.lend.ensures.value;
  is = refl;
  holds = c.in-Ok.ensures.split;
})

pub returns-in-Err-NoSeat : goal.returns-in-Err-NoSeat
returns-in-Err-NoSeat c = Lacks refl c.lend.result.now c.lend.ensures.value
    (c.in-Err-NoSeat.ensures.no_seat.0 cc) same refl where
      same : Some c.split.new.handle ≡ c.args.seat.now.handle
      same = rw (c.in-Err-NoSeat.ensures.refused, c.lend.ensures.value) refl
