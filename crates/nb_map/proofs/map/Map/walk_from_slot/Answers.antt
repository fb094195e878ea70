use Rattle.std.proofs.Common.{◌≡◌, ℕ, ◌<◌, Some, ap, subst, sym, arith}
use Rattle.std.proofs.lemmas.Bool.Decides.{nat_tests}
use Rattle.nb_core.specs.Plans.{generations_of, size_of}
use Rattle.nb_table.specs.Chains.{seen_by}
use Rattle.nb_map.proofs.Look.{top-kept, top-within}
use Rattle.nb_map.proofs.WholeWalk.{begun-at}
use Rattle.nb_map.specs.Maps.{MapOf, SeatOf}
use Rattle.nb_map.specs.Promises.{HasBegunWalkAt}
use Rattle.nb_map.specs.Walks.{begun_at}
use Rattle.nb_map.specs.declared.map.walks.WalkPlace.{WalkPlace}
use Rattle.nb_map.specs.declared.steps.walk.Place.TheVariants.{Slot}
use Rattle.nb_map.proofs.map.Map.walk_from_slot.Goals as goal

pub size_of-requires : goal.size_of-requires
size_of-requires c =
    let top = c.generation-top.result in
    let looked = c.generation-top.ensures in
    subst (λ p. top < generations_of p) (sym c.shape.ensures)
    (subst (λ map. top < generations_of map.chain.shape) (sym c.self.view_is)
    (top-within c.args.self.now top looked.own looked.found))

-- a slot of a table as a place
abbrev slot-of : (table slot : ℕ) → WalkPlace
slot-of table slot = record { first = table; place = Slot table slot }

-- the top table has the slot
has-slot :
    (m : MapOf) (seat : SeatOf) (slot : ℕ)
    → slot < size_of m.chain.shape (seen_by m.chain.shape seat.chain).top
    → Some (slot-of (seen_by m.chain.shape seat.chain).top slot) ≡ begun_at m seat slot
has-slot m seat slot low = grind (arith, nat_tests)

pub returns-then-slot-size_of : goal.returns-then-slot-size_of
returns-then-slot-size_of c =
    let m = c.args.self.now in
    let seat = c.generation-top.new.seat in
    let slot = c.args.slot in
    let looked = c.generation-top.ensures in
    let top = (seen_by m.chain.shape seat.chain).top in
    let size = ap (λ p. size_of p c.generation-top.result) c.shape.ensures in
    let same = ap (λ map. size_of map.chain.shape c.generation-top.result) c.self.view_is in
    let found = ap (size_of m.chain.shape) looked.found in
    let low : slot < size_of m.chain.shape top
    = omega (arith, c.if-slot-size_of.true, c.size_of.ensures.size, size, same, found) in
    subst (λ table. HasBegunWalkAt m c.args.seat.now seat slot (Some (slot-of table slot))) looked.found
    (record {
      begun = has-slot m seat slot low;
      is_walk = begun-at m looked.own slot low;
      top = top-kept looked;
    })
