use Rattle.std.proofs.Common.{◌∙◌, ap, length, sym}
use Rattle.std.proofs.lemmas.List.{length-map}
use Rattle.std.proofs.lemmas.List.FromFn.{length-range_with_len}
use Rattle.nb_map.proofs.handle.Handle.open_with.Goals as goal

pub holding-requires-clause-all : goal.holding-requires-clause-all
holding-requires-clause-all c =
    sym (length-map c.in_ok-map.seats.items (λ seat. seat.chain.number))
    ∙ ap length c.in_ok-map.ensures.begun.numbered
    ∙ length-range_with_len 0 c.in_ok-map.map.chain.shape.seats
