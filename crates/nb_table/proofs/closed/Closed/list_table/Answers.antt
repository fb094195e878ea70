use Rattle.std.proofs.Common.{◌≡◌, ◌∙◌, ◌+◌, ◌≤◌, ap, sym, subst, is_ok, arith}
use Rattle.std.specs.FinMap.{insert}
use Rattle.nb_core.specs.Log.{Numbers}
use Rattle.nb_core.specs.Plans.{size_of}
use Rattle.nb_table.specs.Listing.{IsListing}
use Rattle.nb_table.proofs.Listing.{listing-past, listing-put, listing-table, listing-without, on_ok}
use Rattle.nb_table.proofs.closed.Closed.list_table.Goals as goal
use Rattle.nb_table.proofs.closed.Closed.list_table.Goals.{in-Claimed+in-Some+in_ok-map_err, in-Claimed+in_default-get, in_default}

pub loop-i-preserved : goal.loop-i-preserved
loop-i-preserved c =
    let closed = c.args.self.now in
    let next = λ (found : Numbers). IsListing closed found c.args.g (c.loop-i.i + 1) in
    elim c.match-key_at.branch [
      | in-Claimed+in-Some+in_ok-map_err w ↦
          let put = on_ok (w.apply-put.new.self
          ≡ insert c.loop-i.found w.in-Claimed.key w.in-Some.number) w.apply-put.result
          (sym w.map_err.ensures.variant ∙ ap is_ok w.in_ok-map_err.was) w.apply-put.ensures.map in
          subst next (sym w.found-is)
          (listing-put closed c.loop-i.found w.apply-put.new.self c.args.g c.loop-i.i
          w.in-Claimed.key w.in-Some.number
          (sym c.key_at.ensures ∙ w.in-Claimed.is) w.in-Some.ensures put c.loop-i.invariant)
      | in-Claimed+in_default-get w ↦
          subst next (sym w.found-is)
          (listing-without closed c.loop-i.found c.args.g c.loop-i.i w.in-Claimed.key
          (sym c.key_at.ensures ∙ w.in-Claimed.is)
          w.in_default-get.ensures c.loop-i.invariant)
      | in_default w ↦
          subst next (sym w.found-is)
          (listing-past closed c.loop-i.found c.args.g c.loop-i.i
          (λ k is. w.in_default.not-Claimed k (c.key_at.ensures ∙ is))
          c.loop-i.invariant)
    ]

pub returns : goal.returns
returns c =
    let size = c.size_of-i-end.ensures.size ∙ ap (λ v. size_of v.shape c.args.g) c.self.view_is in
    let whole : size_of c.args.self.now.shape c.args.g ≤ c.loop-i.i = omega arith in
    listing-table c.args.self.now c.loop-i.found c.args.g c.loop-i.i whole c.loop-i.invariant
