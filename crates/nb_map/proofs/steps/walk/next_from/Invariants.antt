use Rattle.std.proofs.Common.{◌≤◌, None}
use Rattle.nb_table.specs.Chains.{seen_by}
use Rattle.nb_map.specs.inside.Walking.{HasGone}
use Rattle.nb_map.specs.Walks.{IsPlace}
use Rattle.nb_map.specs.Steps.{passing_steps, slots_ahead}
use Rattle.nb_map.proofs.steps.walk.next_from.Given as goal

abbrev pub invariant-loop-place : goal.invariant-loop-place
invariant-loop-place l =
    HasGone l.chain.shape l.fn.seat l.seat l.first l.fn.place l.place None
    (passing_steps l.chain.shape l.fn.place l.place)
    × IsPlace l.chain.shape (seen_by l.chain.shape l.seat) l.first l.place
    × (slots_ahead l.chain.shape l.place ≤ slots_ahead l.chain.shape l.fn.place)

abbrev pub decreases-loop-place : goal.decreases-loop-place
decreases-loop-place l = slots_ahead l.chain.shape l.place
