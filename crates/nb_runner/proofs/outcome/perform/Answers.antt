use Rattle.std.proofs.Common.{◌≡◌, ◌∙◌, ap, false, length, sym, subst, true}
use Rattle.std.proofs.lemmas.List.Elements.{All-same}
use Rattle.nb_map.specs.Ending.{EndedWith, HasTablesLeft}
use Rattle.nb_map.specs.Maps.{IsMine}
use Rattle.nb_map.specs.Maps as maps
use Rattle.nb_runner.specs.Outcomes.{IsOutcome, lists_in}
use Rattle.nb_runner.specs.Working.{phases_in, worker_seats}
use Rattle.nb_runner.proofs.OutcomeLemmas.{IfOk-three, is-outcome, run-all, run-mine}
use Rattle.nb_runner.proofs.outcome.perform.Goals as goal

pub finish-requires : goal.finish-requires
finish-requires g c =
    let worked = c.in_ok-seats.ensures in
    record {
      own =
          All-same (IsMine c.in_ok-map.map) c.in_ok-seats.seats.items
          (worker_seats worked.retired) worked.seats
          (run-mine c.in_ok-map.map (phases_in c.args.phases.now) worked.workers worked.retired
          worked.ran);
    }

pub unreachable-requires : goal.unreachable-requires
unreachable-requires g c =
    let worked = c.in_ok-seats.ensures in
    let all = ap length worked.seats
    ∙ run-all c.in_ok-map.map (phases_in c.args.phases.now) worked.workers worked.retired
    c.args.shape.seats (worked.seated ∙ c.in_ok-map.ensures.seats) worked.ran in
    let bad : false ≡ true = c.in-Err.ensures.all.1
    (all ∙ ap (λ p. p.seats) (sym c.in_ok-map.ensures.map)) in
    cc

pub returns : goal.returns
returns g c =
    let m = c.in_ok-map.map in
    let phases = phases_in c.args.phases.now in
    let worked = c.in_ok-seats.ensures in
    let shape = c.in_ok-map.ensures.map in
    let seats = worked.seated ∙ c.in_ok-map.ensures.seats
    ∙ ap (λ p. maps.new_seats m p.seats) (sym shape) in
    let ended = subst (λ seats. EndedWith seats c.in-Ok.ended) worked.seats
    c.in-Ok.ensures.ended in
    let left = subst (λ seats. HasTablesLeft m.chain.shape seats c.in-Ok.ended) worked.seats
    c.in-Ok.ensures.tables in
    IfOk-three c.outcome_of.result _ _ _ _
    (λ o answers size entries. subst (λ p. IsOutcome p phases o) shape
    (is-outcome m c.in_ok-map.ensures.plan phases worked.workers worked.retired c.in-Ok.ended o
    seats worked.fresh worked.ran ended left
    (ap lists_in answers ∙ worked.answered) size entries))
    c.outcome_of.ensures.answers c.outcome_of.ensures.size c.outcome_of.ensures.entries
