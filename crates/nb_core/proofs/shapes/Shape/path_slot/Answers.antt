use Rattle.std.proofs.Common.{◌∙◌, ◌+◌, ◌%◌, ◌^◌, ap, bit_and}
use Rattle.nb_core.specs.Plans.{size_of}
use Rattle.nb_core.proofs.Masks.{masked}
use Rattle.nb_core.proofs.shapes.Shape.path_slot.Goals as goal

pub returns-clause-slot : goal.returns-clause-slot
returns-clause-slot c =
    let p = c.args.self.now in
    let x = (c.get.result + c.args.distance) % 2 ^ 64 in
    ap (λ last. bit_and x last) c.last_of.ensures.last
    ∙ masked p c.args.g (c.get.result + c.args.distance) c.last_of.ensures.few
    ∙ ap (λ k. (k + c.args.distance) % size_of p c.args.g) c.get.ensures.number
