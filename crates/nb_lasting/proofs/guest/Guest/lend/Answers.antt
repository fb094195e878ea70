use Rattle.std.proofs.Common.{ap, subst}
use Rattle.nb_core.specs.Log.{log_of}
use Rattle.nb_map.specs.Handles.{HandleOf}
use Rattle.atomic_table.specs.Table.{Me}
use Rattle.std.specs.Prelude.{Option}
use Rattle.nb_lasting.specs.Guests.{GuestOf}
use Rattle.nb_lasting.specs.Settling.{HasLent}
use Rattle.nb_lasting.specs.declared.shared.LaneView.{LaneView}
use Rattle.nb_lasting.proofs.Settled.{handed-gathered}
use Rattle.nb_lasting.proofs.guest.Guest.lend.Goals as goal

pub returns-clause-lent : goal.returns-clause-lent
returns-clause-lent g c =
    subst (λ (guest : GuestOf). HasLent guest c.args.token.now.me c.args.handles.now.items
    c.hand_on-own-2.new.token.me c.take_handle_as_guest.new.handles.items) c.self.view_is (
      c.hand_on-own.result.me.0.seen,
      ap (λ (m : Me (Option HandleOf) LaneView). log_of m.0.seen) c.hand_on-own.ensures.guest,
      λ holds. handed-gathered c.self.inside.lane c.hand_on-own.result.me.0.seen holds.knew
          c.take_handle_as_guest.new.token.me c.hand_on-own-2.new.token.me c.take_handle_as_guest.new.handles.items
          c.hand_on-own-2.ensures.left (c.take_handle_as_guest.ensures.gathered holds),
    )
