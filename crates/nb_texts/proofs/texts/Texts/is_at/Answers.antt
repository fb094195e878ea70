use Rattle.std.proofs.Common.{◌≡◌, ◌∙◌, ◌<◌, Some, ap, arith, length, sym}
use Rattle.std.specs.Prelude.{slice_get, slice_range}
use Rattle.std.proofs.lemmas.Bool.Decides.{Decides-eqb}
use Rattle.std.proofs.lemmas.Slice.Eq.{slice_eq-Decides}
use Rattle.nb_texts.proofs.PlacesLemmas.{get-map}
use Rattle.nb_texts.specs.Places.{text_at}
use Rattle.nb_texts.proofs.texts.Texts.is_at.Goals as goal

pub returns : goal.returns
returns c =
    let bytes = c.self.inside.bytes.items in
    let places = c.self.inside.places.items in
    let place = c.index.result.now in
    let less : c.args.place < length places
    = omega (arith, c.if-place-len.false, c.len.ensures, c.self.inside.places.ok.0) in
    let there : slice_get c.args.self.now c.args.place ≡ Some (text_at bytes place)
    = ap (λ texts. slice_get texts c.args.place) (sym c.self.view_is)
    ∙ get-map (text_at bytes) places c.args.place place less
    ∙ ap (λ place. Some (text_at bytes place)) (sym c.index.ensures) in
    let cut : slice_range c.deref.result.now place.start place.end ≡ text_at bytes place
    = ap (λ bytes. slice_range bytes place.start place.end) c.deref.ensures.value in
    let same = slice_eq-Decides Decides-eqb (slice_range c.deref.result.now place.start place.end)
    c.args.text.now c.eq.result c.eq.ensures in (
      λ yes. there ∙ ap Some (sym cut ∙ same.0 yes),
      λ is. same.1 (let e = there in let f = is in cc),
    )
