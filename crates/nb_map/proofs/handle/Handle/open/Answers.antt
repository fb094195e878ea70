use Rattle.std.proofs.Common.{◌∙◌, ap, length, subst, sym}
use Rattle.std.proofs.lemmas.List.FromFn.{length-map-range_with_len}
use Rattle.std.proofs.lemmas.Result.{IfOk-weaker}
use Rattle.nb_map.specs.Logs.{HaveEmptyLogs}
use Rattle.nb_map.specs.Maps.{new_seat}
use Rattle.nb_map.proofs.handle.Handle.open.Goals as goal

pub holding-requires-clause-all : goal.holding-requires-clause-all
holding-requires-clause-all c =
    ap length c.in_ok-map.ensures.seats
    ∙ length-map-range_with_len (new_seat c.in_ok-map.map) 0 c.args.shape.seats
    ∙ sym (ap (λ p. p.seats) c.in_ok-map.ensures.map)

pub returns-clause-empty : goal.returns-clause-empty
returns-clause-empty c =
    IfOk-weaker c.holding.result _ _
    (λ handle is. subst HaveEmptyLogs (sym is.1) c.in_ok-map.ensures.empty) c.holding.ensures
