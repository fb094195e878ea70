use Rattle.std.proofs.Common.{◌∙◌, refl, subst₂, sym}
use Rattle.nb_ffi.specs.Listing.{HasListedPart, HasListedWholePart}
use Rattle.nb_ffi.specs.Listing.IsList.{All, Full}
use Rattle.nb_ffi.proofs.exports.listing.samvolip_list.Goals as goal

pub returns-in-Some : goal.returns-in-Some
returns-in-Some c =
    let old = c.lend.result.now in
    let new = c.list-all.new.handle in
    let (pairs, many, fits, written, listed) = c.in-Some.ensures.all in
    All refl pairs many fits written (record {
      old = old;
      new = new;
      was = c.lend.ensures.value;
      is = refl;
      holds = subst₂ (λ from to. HasListedWholePart c.args.end from to pairs old new) c.place-at.ensures
          (sym c.at.ensures) listed;
    })

pub returns-in-None : goal.returns-in-None
returns-in-None c =
    let old = c.lend.result.now in
    let new = c.list-all.new.handle in
    let (pairs, many, written, listed) = c.in-None.ensures.full refl in
    Full refl pairs (c.list-all.auto.room ∙ sym many) many written (record {
      old = old;
      new = new;
      was = c.lend.ensures.value;
      is = refl;
      holds = subst₂ (λ from to. HasListedPart c.args.end from to pairs old new) c.place-at.ensures
          (sym c.at.ensures) listed;
    })
