use Rattle.std.proofs.Common.{◌≡◌, ◌∙◌, [], ◌∷◌, ◌++◌, ap, ap₂, arith, length}
use Rattle.nb_texts.proofs.PlacesLemmas.{texts-push}
use Rattle.nb_texts.specs.Places.{texts_at}
use Rattle.nb_texts.proofs.texts.Texts.push.Goals as goal

pub returns-clause-put : goal.returns-clause-put
returns-clause-put c =
    let bytes = c.self.inside.bytes in
    let places = c.self.inside.places in
    let text = c.args.text.now in
    let more : c.extend_from_slice.new.self.items ≡ bytes.items ++ text
    = c.in_ok-extend_from_slice.ensures.items in
    let put : c.push_reserved.new.self.items
    ≡ places.items ++ record { start = c.len-start.result; end = c.len-end.result } ∷ []
    = c.push_reserved.ensures.items
    ∙ ap (λ places. places ++ record { start = c.len-start.result; end = c.len-end.result } ∷ [])
    c.reserve.ensures.items in
    let first : c.len-start.result ≡ length bytes.items
    = omega (arith, c.len-start.ensures, bytes.ok.0) in
    let last : c.len-end.result ≡ length (bytes.items ++ text)
    = omega (arith, c.len-end.ensures, c.extend_from_slice.new.self.ok.0, ap length more) in
    ap₂ texts_at more put
    ∙ texts-push bytes.items text places.items c.len-start.result c.len-end.result first last
    c.self.invariant.within
    ∙ ap (λ texts. texts ++ text ∷ []) c.self.view_is
