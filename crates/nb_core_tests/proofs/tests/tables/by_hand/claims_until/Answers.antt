use Rattle.std.proofs.Common.{rules, ◌≡◌}
use Rattle.nb_core.specs.declared.states.KeyState.TheVariants.{Empty}
use Rattle.nb_table.specs.Chains.{seen_by}
use Rattle.nb_table.proofs.Theorems.{steps_add_up}
use Rattle.nb_core_tests.proofs.ByHand.{way-home}
use Rattle.nb_core_tests.proofs.tests.tables.by_hand.claims_until.Goals as goal

pub claim_key-requires-clause-installed : goal.claim_key-requires-clause-installed
claim_key-requires-clause-installed g c =
    let load = steps_add_up.one c.load_key.ensures.grows in
    (steps_add_up.stays c.requires.own load).installed 1 c.requires.installed

pub claim_key-requires-clause-way : goal.claim_key-requires-clause-way
claim_key-requires-clause-way g c =
    let load = steps_add_up.one c.load_key.ensures.grows in
    let lasting = steps_add_up.stays c.requires.own load in
    let claimed = lasting.claimed 0 0 c.args.key c.requires.slot c.requires.claimed in
    let home = c.slot_on_path-home in
    let p = c.args.chain.now.shape in
    way-home p (seen_by p c.load_key.new.seat) home.result c.args.key
    home.ensures.distance home.ensures.path c.requires.slot.1 claimed

pub fills_until-requires-clause-claimed : goal.fills_until-requires-clause-claimed
fills_until-requires-clause-claimed g c =
    let load = steps_add_up.one c.load_key.ensures.grows in
    let empty : c.claim_key.result ≡ Empty = search rules in
    let claim = steps_add_up.one (c.claim_key.ensures.won empty).0 in
    let lasting = steps_add_up.stays c.requires.own (steps_add_up.more load claim) in
    lasting.claimed 0 0 c.args.key c.requires.slot c.requires.claimed

pub fills_until-requires-clause-held : goal.fills_until-requires-clause-held
fills_until-requires-clause-held g c =
    let load = steps_add_up.one c.load_key.ensures.grows in
    let empty : c.claim_key.result ≡ Empty = search rules in
    let claim = steps_add_up.one (c.claim_key.ensures.won empty).0 in
    let lasting = steps_add_up.stays c.requires.own (steps_add_up.more load claim) in
    lasting.primed_or_finished 0 0 c.args.number c.requires.slot c.requires.held
