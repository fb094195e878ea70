use Rattle.std.proofs.Common.{◌≡◌, ◌≢◌, ◌<◌, ℕ, None, Option, Some, arith, length, refl, rules, subst, sym}
use Rattle.nb_ffi.proofs.Listed.{Walked, come-all, come-begun, come-more}
use Rattle.nb_ffi.proofs.listing.list.Goals as goal

pub loop-i-init : goal.loop-i-init
loop-i-init c = come-begun c.args.end c.args.handle.now c.args.at.now c.args.room.now

pub next_key_before-requires : goal.next_key_before-requires
next_key_before-requires c =
    let (begun, is) = c.requires.walk in
    record { walk = (begun, (c.loop-i.invariant.shown begun is).1) }

pub returns-in_default-clause-all : goal.returns-in_default-clause-all
returns-in_default-clause-all c =
    let come = c.loop-i.invariant in
    let next = c.next_key_before in
    let less : c.loop-i.i < length c.args.room.now = search rules in (
      come.pairs,
      sym come.many,
      omega (arith, come.many, less),
      come.written,
      come-all come (subst (Walked c.args.end c.loop-i.handle next.new.self c.loop-i.at next.new.at)
          (none-of next.result c.in_default.not-Some) next.ensures.walked) next.ensures.rest,
    )
  where
    none-of : (shown : Option (ℕ × ℕ)) → ((pair : ℕ × ℕ) → shown ≢ Some pair) → shown ≡ None
    none-of None not = refl
    none-of (Some pair) not = absurd (not pair refl)

pub loop-i-preserved : goal.loop-i-preserved
loop-i-preserved c =
    let next = c.next_key_before in
    let shown : next.result ≡ Some (c.get.result, c.get-in-loop-i.result) = search rules in
    come-more (c.get.result, c.get-in-loop-i.result) c.loop-i.invariant (search rules)
    (subst (Walked c.args.end c.loop-i.handle next.new.self c.loop-i.at next.new.at) shown
    next.ensures.walked) next.ensures.rest
