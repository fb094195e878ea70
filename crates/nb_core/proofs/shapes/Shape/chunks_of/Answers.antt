use Rattle.std.proofs.Common.{◌≡◌, ◌∙◌, ◌^◌, ◌/◌, ℕ, ap, arith, sym, w64}
use Rattle.std.specs.Int.{trailing_zeros}
use Rattle.nb_core.specs.Plans.{IsChunk, size_of}
use Rattle.nb_core.proofs.Powers.{trailing-power}
use Rattle.nb_core.proofs.shapes.Shape.chunks_of.Goals as goal

exponent-is : (chunk : ℕ) (power : IsChunk chunk) → trailing_zeros w64 chunk ≡ power.0
exponent-is chunk power = ap (trailing_zeros w64) power.3
    ∙ trailing-power power.0 (omega (arith, power.2))

pub overflow_shr-result : goal.overflow_shr-result
overflow_shr-result c =
    let power = c.chunk_of.ensures.power in
    omega (arith, exponent-is c.chunk_of.result power, power.2)

pub returns : goal.returns
returns c =
    let power = c.chunk_of.ensures.power in
    let zeros = exponent-is c.chunk_of.result power in
    (λ i. c.size_of.ensures.size i / 2 ^ zeros i)
    ∙ ap (λ n. size_of c.args.self.now c.args.g / n) (sym power.3 ∙ c.chunk_of.ensures.chunk)
