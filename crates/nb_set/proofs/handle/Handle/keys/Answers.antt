use Rattle.std.proofs.Common.{IfOk, subst}
use Rattle.std.proofs.lemmas.Result.{IfOk-weaker}
use Rattle.nb_set.specs.Handles.{HandleOf, as_handle, seats_of}
use Rattle.nb_set.specs.Listing.{HaveListed}
use Rattle.nb_set.specs.Renewing.{IsKept}
use Rattle.nb_set.proofs.Listed.{listed-as}
use Rattle.nb_set.proofs.Renewed.{kept-as}
use Rattle.nb_set.proofs.handle.Handle.keys.Goals as goal

pub returns-clause-listed : goal.returns-clause-listed
returns-clause-listed c =
    let before = c.self.inside.map in
    let after = c.entries-listed.new.self in
    subst (λ (handle : HandleOf). IfOk c.keys_listed.result (λ keys. HaveListed (seats_of handle)
    (seats_of (as_handle after)) keys.items)) c.self.view_is
    (IfOk-weaker c.keys_listed.result _ _
    (λ keys found.
    let listed = rw found.1 at c.entries-listed.ensures.listed in
    listed-as (seats_of (as_handle before)) (seats_of (as_handle after)) found.0.items keys.items
    found.2 listed)
    c.keys_listed.ensures.keys)

pub returns-clause-kept : goal.returns-clause-kept
returns-clause-kept c =
    let after = c.entries-listed.new.self in
    subst (λ handle. IsKept handle (as_handle after)) c.self.view_is
    (kept-as c.self.inside.map after c.entries-listed.ensures.kept)
