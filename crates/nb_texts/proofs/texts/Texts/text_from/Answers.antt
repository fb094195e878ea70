use Rattle.std.proofs.Common.{◌≡◌, ◌∙◌, ◌<◌, [], ◌∷◌, ◌++◌, Some, ap, arith, length, sym}
use Rattle.std.specs.Prelude.{slice_get, slice_range}
use Rattle.nb_texts.proofs.PlacesLemmas.{get-map, text-more}
use Rattle.nb_texts.specs.Places.{text_at}
use Rattle.nb_texts.proofs.texts.Texts.text_from.Goals as goal

pub loop-place-preserved : goal.loop-place-preserved
loop-place-preserved c =
    let bytes = c.self.inside.bytes.items in
    let places = c.self.inside.places.items in
    let place = c.index.result.now in
    let n = c.loop-place.place in
    let less : n < length places
    = omega (arith, c.loop-place-test.true, c.len-place-end.ensures, c.self.inside.places.ok.0) in
    let there : slice_get c.args.self.now n ≡ Some (text_at bytes place)
    = ap (λ texts. slice_get texts n) (sym c.self.view_is)
    ∙ get-map (text_at bytes) places n place less
    ∙ ap (λ place. Some (text_at bytes place)) (sym c.index.ensures) in
    let cut : slice_range c.deref.result.now place.start place.end ≡ text_at bytes place
    = ap (λ bytes. slice_range bytes place.start place.end) c.deref.ensures.value in
    let line : c.extend_from_slice.new.self.items
    ≡ c.loop-place.text.items ++ slice_range c.deref.result.now place.start place.end
    = c.in_ok-extend_from_slice.ensures.items in
    let end : c.push.new.self.items ≡ c.extend_from_slice.new.self.items ++ 10 ∷ []
    = c.in_ok-push.ensures.items in
    end
    ∙ ap (λ text. text ++ 10 ∷ []) (line ∙ ap (λ text. c.loop-place.text.items ++ text) cut)
    ∙ text-more c.args.self.now c.args.first n c.loop-place.text.items (text_at bytes place)
    c.loop-place.auto.place there c.loop-place.invariant
