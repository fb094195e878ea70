-- What a handle stands for may go to another thread.
use denote.Param.Send.{IsSend}
use Rattle.nb_map.proofs.handle.Handle.TheSendSync as handle
use Rattle.nb_map.specs.contracts.handle.Handle as Handle

pub handle_send : IsSend Handle.the_row
handle_send = handle.the_send
