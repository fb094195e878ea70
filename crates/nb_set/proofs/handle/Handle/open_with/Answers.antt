use Rattle.std.proofs.Common.{◌≡◌, ◌∙◌, Err, arith, map, rules, subst}
use Rattle.std.proofs.lemmas.Grind.{common_steps}
use Rattle.nb_map.specs.Opening as of_map
use Rattle.nb_map.specs.declared.faults.OpenFault.TheVariants as fault
use Rattle.nb_set.specs.OfMap.{pair_for}
use Rattle.nb_set.specs.Opening.{set_of_keys}
use Rattle.nb_set.proofs.Opened.{begins-as, keys-as, too-many}
use Rattle.nb_set.proofs.handle.Handle.open_with.Goals as goal

pub returns-clause-begun : goal.returns-clause-begun
returns-clause-begun c =
    let keys = c.args.keys.now in
    let map' = c.in_ok-map.map in
    let entries = c.as_slice.ensures.value ∙ c.in_ok-entries.ensures in
    begins-as c.args.shape (set_of_keys keys) (of_map.map_of_entries (map pair_for keys)) map'
    (keys-as keys)
    (subst (λ es. of_map.BeginsWith c.args.shape (of_map.map_of_entries es) map') entries
    c.in_ok-map.ensures.begun)

pub returns-in_err-map-clause-full : goal.returns-in_err-map-clause-full
returns-in_err-map-clause-full c =
    let small : c.from_residual-in_err-map.result ≡ Err fault.Full
    → of_map.IsTooSmallFor c.args.shape (of_map.map_of_entries c.as_slice.result.now)
    = first_of (search rules, grind (arith, common_steps)) in
    λ full. too-many c.args.shape c.args.keys.now c.as_slice.result.now
    (c.as_slice.ensures.value ∙ c.in_ok-entries.ensures) (small full)
