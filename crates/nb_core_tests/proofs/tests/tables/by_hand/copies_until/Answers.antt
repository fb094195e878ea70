use Rattle.std.proofs.Common.{rules}
use Rattle.nb_core.specs.Tables.{IsUnprimed}
use Rattle.nb_table.proofs.Theorems.{steps_add_up}
use Rattle.nb_core_tests.proofs.tests.tables.by_hand.copies_until.Goals as goal

pub prime-requires-clause-growing : goal.prime-requires-clause-growing
prime-requires-clause-growing g c =
    let load = steps_add_up.one c.load_value.ensures.grows in
    let looks = steps_add_up.more c.sees_key.ensures.grows load in
    (steps_add_up.stays c.requires.own looks).installed 1 c.requires.installed

pub prime-requires-clause-claimed : goal.prime-requires-clause-claimed
prime-requires-clause-claimed g c =
    let look = c.sees_key.ensures in
    let load = steps_add_up.one c.load_value.ensures.grows in
    let lasting = steps_add_up.stays look.own load in (
      c.args.key,
      lasting.claimed 0 0 c.args.key look.slot look.claimed,
    )

pub claims_until-requires-clause-own : goal.claims_until-requires-clause-own
claims_until-requires-clause-own g c =
    let look = c.sees_key.ensures in
    let load = steps_add_up.one c.load_value.ensures.grows in
    let unprimed : IsUnprimed c.prime.result = search rules in
    let prime = steps_add_up.one (c.prime.ensures.won unprimed).0 in
    steps_add_up.own (steps_add_up.own look.own load) prime

pub claims_until-requires-clause-installed : goal.claims_until-requires-clause-installed
claims_until-requires-clause-installed g c =
    let load = steps_add_up.one c.load_value.ensures.grows in
    let unprimed : IsUnprimed c.prime.result = search rules in
    let prime = steps_add_up.one (c.prime.ensures.won unprimed).0 in
    let looks = steps_add_up.more c.sees_key.ensures.grows load in
    let steps = steps_add_up.more looks prime in
    (steps_add_up.stays c.requires.own steps).installed 1 c.requires.installed

pub claims_until-requires-clause-claimed : goal.claims_until-requires-clause-claimed
claims_until-requires-clause-claimed g c =
    let look = c.sees_key.ensures in
    let load = steps_add_up.one c.load_value.ensures.grows in
    let unprimed : IsUnprimed c.prime.result = search rules in
    let prime = steps_add_up.one (c.prime.ensures.won unprimed).0 in
    let lasting = steps_add_up.stays look.own (steps_add_up.more load prime) in
    lasting.claimed 0 0 c.args.key look.slot look.claimed
