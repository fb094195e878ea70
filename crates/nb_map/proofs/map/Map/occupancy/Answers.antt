use Rattle.std.proofs.Common.{◌≡◌, ◌∙◌, ◌+◌, ◌<◌, suc, ◌==◌, [], ap, ap₂, refl, subst, subst₂, sym, arith, rules}
use Rattle.nb_core.specs.Plans.{generations_of}
use Rattle.nb_table.specs.Chains.{Grown}
use Rattle.nb_map.specs.Fullness.{HasSampled, sample_size}
use Rattle.nb_map.specs.Maps.{SeatOf}
use Rattle.nb_map.specs.Promises.{HasSeenTop}
use Rattle.nb_map.specs.declared.occupancy.Occupancy.{Occupancy}
use Rattle.nb_map.proofs.Look.{sampled-all, top-within}
use Rattle.nb_map.proofs.map.Map.occupancy.Goals as goal

pub taken_in-taken-requires-clause-table : goal.taken_in-taken-requires-clause-table
taken_in-taken-requires-clause-table c =
    let looked = c.generation-table.ensures in
    subst (λ map. c.generation-table.result < generations_of map.chain.shape) (sym c.self.view_is)
    (top-within c.args.self.now c.generation-table.result looked.own looked.found)

pub overflow_add-result : goal.overflow_add-result
overflow_add-result c =
    let looked = c.generation-table.ensures in
    let table = top-within c.args.self.now c.generation-table.result looked.own looked.found in
    let few = looked.own.chain.plan.tables.1 in
    omega (arith, table, few)

pub sample_size-requires : goal.sample_size-requires
sample_size-requires c =
    let looked = c.generation-table.ensures in
    record {
      table = subst (λ p. c.generation-table.result < generations_of p) (sym c.shape-shape.ensures)
          (top-within c.args.self.now c.generation-table.result looked.own looked.found);
    }

pub returns : goal.returns
returns c =
    let table = c.generation-table.result in
    let found : Occupancy = record {
      table = table;
      is_last = (table + 1) == c.generations.result;
      looked = c.sample_size.result;
      taken = c.taken_in-taken.result;
    } in
    let after : SeatOf = record { chain = c.taken_in-taken.new.seat; count = c.seat.inside.count } in
    let top = subst₂ (λ map begun. HasSeenTop map c.args.seat.now begun table) (sym c.self.view_is)
    (sym c.seat.view_is) c.generation-table.ensures in
    let shape : c.shape-shape.result.now ≡ c.self.inside.chain.shape = search rules in
    let one : table + 1 ≡ suc table = omega arith in
    let last : found.is_last ≡ (suc table == generations_of c.self.inside.chain.shape) =
    ap₂ (λ a b. a == b) one (c.generations.ensures ∙ ap generations_of shape) in
    let looked : c.sample_size.result ≡ sample_size c.self.inside.chain.shape table =
    c.sample_size.ensures.size ∙ ap (λ p. sample_size p table) shape in
    let grown : Grown c.self.inside.chain.shape c.seat.inside.chain c.taken_in-taken.new.seat []
    c.sample_size.result =
    subst (Grown c.self.inside.chain.shape c.seat.inside.chain c.taken_in-taken.new.seat [])
    (sym looked) c.taken_in-taken.ensures.grown in
    subst (λ map. HasSampled map c.args.seat.now after found) c.self.view_is
    (sampled-all {after = after} found top last looked grown c.taken_in-taken.ensures.least
    c.taken_in-taken.ensures.most refl)
