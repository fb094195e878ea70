use Rattle.std.proofs.Common.{◌∙◌, ap, codes, sym}
use Rattle.std.specs.Prelude.{option_and_then}
use Rattle.clap.specs.Words.{found_of}
use Rattle.nb_script.proofs.FoundLemmas.{none_asked, none_found, number_found, settled}
use Rattle.nb_script.specs.Options.{tuned_plan}
use Rattle.nb_script.proofs.options.read_shape.Goals as goal

pub returns-in_err-bits-clause-none : goal.returns-in_err-bits-clause-none
returns-in_err-bits-clause-none c = none_found (found_of c.args.matches.now) (codes "bits")
    _ c.in_err-bits.ensures.value (λ plan x. (x.bits, x.bits_found))

pub returns-in_err-generations-clause-none : goal.returns-in_err-generations-clause-none
returns-in_err-generations-clause-none c =
    none_found (found_of c.args.matches.now) (codes "generations")
    _ c.in_err-generations.ensures.value (λ plan x. (x.generations, x.generations_found))

pub returns-in_err-seats-clause-none : goal.returns-in_err-seats-clause-none
returns-in_err-seats-clause-none c = none_found (found_of c.args.matches.now) (codes "seats")
    _ c.in_err-seats.ensures.value (λ plan x. (x.seats, x.seats_found))

pub returns-in_err-stripes-clause-none : goal.returns-in_err-stripes-clause-none
returns-in_err-stripes-clause-none c = none_found (found_of c.args.matches.now) (codes "stripes")
    _ c.in_err-stripes.ensures.value (λ plan x. (x.stripes, x.stripes_found))

pub returns-in_err-reprobes-clause-none : goal.returns-in_err-reprobes-clause-none
returns-in_err-reprobes-clause-none c =
    none_found (found_of c.args.matches.now) (codes "reprobes")
    _ c.in_err-reprobes.ensures.value (λ plan x. (x.reprobes, x.reprobes_found))

pub returns-in_err-chunk-clause-none : goal.returns-in_err-chunk-clause-none
returns-in_err-chunk-clause-none c = none_found (found_of c.args.matches.now) (codes "chunk")
    _ c.in_err-chunk.ensures.value (λ plan x. (x.chunk, x.chunk_found))

pub returns-in_err-tables-clause-none : goal.returns-in_err-tables-clause-none
returns-in_err-tables-clause-none c =
    let f = found_of c.args.matches.now in
    none_asked f _ _ _ _ _ _
    (number_found f (codes "bits") c.in_ok-bits.bits c.in_ok-bits.ensures.none
    c.in_ok-bits.ensures.value)
    (number_found f (codes "generations")
    c.in_ok-generations.generations c.in_ok-generations.ensures.none
    c.in_ok-generations.ensures.value)
    (number_found f (codes "seats") c.in_ok-seats.field-0 c.in_ok-seats.ensures.none
    c.in_ok-seats.ensures.value)
    (number_found f (codes "stripes") c.in_ok-stripes.field-0 c.in_ok-stripes.ensures.none
    c.in_ok-stripes.ensures.value)
    (number_found f (codes "reprobes") c.in_ok-reprobes.reprobes c.in_ok-reprobes.ensures.none
    c.in_ok-reprobes.ensures.value)
    (number_found f (codes "chunk") c.in_ok-chunk.chunk c.in_ok-chunk.ensures.none
    c.in_ok-chunk.ensures.value) _
    (ap (option_and_then (λ p. tuned_plan p c.in_ok-reprobes.reprobes c.in_ok-chunk.chunk))
    c.in_err-tables.ensures.none)

pub returns : goal.returns
returns c =
    let f = found_of c.args.matches.now in
    let by = settled f _ _ _ _ _ _
    (number_found f (codes "bits") c.in_ok-bits.bits c.in_ok-bits.ensures.none
    c.in_ok-bits.ensures.value)
    (number_found f (codes "generations")
    c.in_ok-generations.generations c.in_ok-generations.ensures.none
    c.in_ok-generations.ensures.value)
    (number_found f (codes "seats") c.in_ok-seats.field-0 c.in_ok-seats.ensures.none
    c.in_ok-seats.ensures.value)
    (number_found f (codes "stripes") c.in_ok-stripes.field-0 c.in_ok-stripes.ensures.none
    c.in_ok-stripes.ensures.value)
    (number_found f (codes "reprobes") c.in_ok-reprobes.reprobes c.in_ok-reprobes.ensures.none
    c.in_ok-reprobes.ensures.value)
    (number_found f (codes "chunk") c.in_ok-chunk.chunk c.in_ok-chunk.ensures.none
    c.in_ok-chunk.ensures.value)
    c.tuned.result
    (c.tuned.ensures
    ∙ ap (option_and_then (λ p. tuned_plan p c.in_ok-reprobes.reprobes c.in_ok-chunk.chunk))
    (sym c.in_ok-tables.ensures.some)) in
    record { some = by.0; none = by.1 }
