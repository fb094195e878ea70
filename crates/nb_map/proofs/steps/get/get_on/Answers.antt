use Rattle.std.proofs.Common.{◌≡◌, ◌<◌, ℕ, List, [], subst, arith}
use Rattle.nb_core.specs.Plans.{generations_of}
use Rattle.nb_core.specs.declared.calls.Call.{Call}
use Rattle.nb_core.specs.declared.calls.Call.TheVariants as call
use Rattle.nb_core.specs.declared.calls.Reply.{Reply}
use Rattle.nb_table.specs.Chains.{ChainOf, Extended, IsOwn, SeenBy, seen_by}
use Rattle.nb_map.specs.Calling.{HasMade}
use Rattle.nb_map.specs.Progress.{IsAtHome, IsSeenAtHome}
use Rattle.nb_map.proofs.Home.{home-before}
use Rattle.nb_map.proofs.Made.{made-more, made-own, made-quiet, made-stays, made-within}
use Rattle.nb_map.proofs.Rungs.{at-path, at-stays, read-further}
use Rattle.nb_map.proofs.Straight.{at-there}
use Rattle.nb_map.proofs.steps.get.get_on.Goals as goal

-- ---- where the top has risen

pub get_risen-requires : goal.get_risen-requires
get_risen-requires c =
    let chain = c.args.chain.now in
    let at = at-there chain c.load_top-top.result c.requires.at.own c.load_top-top.ensures.grows
    c.load_top-top.ensures.found (call.Get c.args.key) in
    record { at = at-path chain (call.Get c.args.key) _ _ at.own at.reached }

pub returns-then-top-known : goal.returns-then-top-known
returns-then-top-known c =
    let chain = c.args.chain.now in
    let p = chain.shape in
    let own = c.requires.at.own in
    let load = made-quiet p (call.Get c.args.key) c.load_top-top.ensures.grows in
    let made = made-more chain own load c.get_risen.ensures.made in
    let first = made-stays chain own load in
    let rest = made-stays chain (made-own chain own load) c.get_risen.ensures.made in
    record {
      made = made-within _ _ (omega arith) made;
      three_steps = λ home.
          let same : (seen_by p c.get_risen.new.seat).top ≡ c.load_top-top.result =
          omega (arith, home.0, first.top, rest.top, c.load_top-top.ensures.found) in
          let short = c.get_risen.ensures.two_steps
          (subst (λ g. IsAtHome p (seen_by p c.get_risen.new.seat) g c.args.key) same home.1) in
          omega (arith, short, load.grown.steps, load.few);
    }

-- ---- where it hasn't

-- the key isn't at home in it, as it wasn't before
still-away :
    (chain : ChainOf) (key known : ℕ) {start loaded after : SeenBy} {made : List (Call × Reply)}
    {most : ℕ} → IsOwn chain start → known < generations_of chain.shape
    → (IsAtHome chain.shape (seen_by chain.shape start) known key → ⊥)
    → Extended chain.shape start loaded [] 1 → (seen_by chain.shape loaded).top ≡ known
    → HasMade chain.shape (call.Get key) loaded after made most
    → IsSeenAtHome chain.shape start after key → ⊥
still-away chain key known {after = after} own table away load found made home =
    let p = chain.shape in
    let quiet = made-quiet p (call.Get key) load in
    let first = made-stays chain own quiet in
    let rest = made-stays chain (made-own chain own quiet) made in
    let same : (seen_by p after).top ≡ known = omega (arith, home.0, first.top, rest.top, found) in
    away (home-before p _ _ (made-stays chain own (made-more chain own quiet made)) known key table
    (subst (λ g. IsAtHome p (seen_by p after) g key) same home.1))

pub glance_along-requires : goal.glance_along-requires
glance_along-requires c =
    let chain = c.args.chain.now in
    record {
      at = at-stays chain c.requires.at
          (made-quiet chain.shape (call.Get c.args.key) c.load_top-top.ensures.grows);
    }

pub returns-in-Shows : goal.returns-in-Shows
returns-in-Shows c =
    let chain = c.args.chain.now in
    let own = c.requires.at.own in
    let load = made-quiet chain.shape (call.Get c.args.key) c.load_top-top.ensures.grows in
    let same : (seen_by chain.shape c.load_top-top.new.seat).top ≡ c.args.known =
    omega (arith, c.load_top-top.ensures.found, c.if-top-known.false) in
    record {
      made = made-within _ _ (omega arith) (made-more chain own load c.in-Shows.ensures.made);
      three_steps = λ home.
          absurd (still-away chain c.args.key c.args.known own c.requires.at.table c.requires.away
          c.load_top-top.ensures.grows same c.in-Shows.ensures.made home);
    }

pub get_from-requires : goal.get_from-requires
get_from-requires c =
    let chain = c.args.chain.now in
    let glance = c.in-From.ensures.glance in
    let at = at-stays chain c.requires.at
    (made-quiet chain.shape (call.Get c.args.key) c.load_top-top.ensures.grows) in
    record { at = read-further chain at c.in-From.ensures.made glance.1 glance.2 }

pub returns-in-From : goal.returns-in-From
returns-in-From c =
    let chain = c.args.chain.now in
    let own = c.requires.at.own in
    let load = made-quiet chain.shape (call.Get c.args.key) c.load_top-top.ensures.grows in
    let same : (seen_by chain.shape c.load_top-top.new.seat).top ≡ c.args.known =
    omega (arith, c.load_top-top.ensures.found, c.if-top-known.false) in
    let there = made-own chain own load in
    let rest = made-more chain there c.in-From.ensures.made c.get_from.ensures.made in
    record {
      made = made-within _ _ (omega arith) (made-more chain own load rest);
      three_steps = λ home.
          absurd (still-away chain c.args.key c.args.known own c.requires.at.table c.requires.away
          c.load_top-top.ensures.grows same rest home);
    }
