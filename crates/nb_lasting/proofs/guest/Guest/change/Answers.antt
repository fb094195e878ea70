use Rattle.nb_core.specs.Calls.{Fills}
use Rattle.nb_core.specs.Log.{map_of_log}
use Rattle.nb_core.specs.declared.calls.Call.{Call}
use Rattle.nb_core.specs.declared.calls.Call.TheVariants.{Write}
use Rattle.nb_lasting.specs.Guests.{GuestIsRefused, GuestOf}
use Rattle.nb_lasting.specs.declared.faults.WriteFault.{WriteFault}
use Rattle.nb_lasting.specs.declared.faults.WriteFault.TheVariants as fault
use Rattle.nb_lasting.specs.inside.Guests.{NeverOverflows}
use Rattle.nb_lasting.proofs.guest.Guest.change.Goals as goal

-- only a new key is refused, and a sum
never-refused :
    (call : Call) (before after : GuestOf) (refusal : WriteFault) → NeverOverflows call
    → (Fills call → ⊥) → GuestIsRefused call before after refusal → ⊥
never-refused call before after fault.Full no_sum fills_none refused = fills_none refused.why.0.0
never-refused call before after fault.OutOfMemory no_sum fills_none refused =
    fills_none refused.why.0
never-refused call before after fault.ValueRange no_sum fills_none refused =
    no_sum (map_of_log after.log) refused.why

pub unreachable-requires : goal.unreachable-requires
unreachable-requires g c =
    never-refused (Write c.args.key c.args.want c.args.change) c.args.self.now
    c.put_if_match.new.self c.in-Err.field-0 c.requires.no_sum c.requires.fills_none
    c.in-Err.ensures.refused
