use Rattle.std.proofs.Common.{◌≡◌, ◌∙◌, ap, arith, length}
use Rattle.std.specs.Prelude.{sum_by}
use Rattle.nb_texts.proofs.PlacesLemmas.{bytes-laid}
use Rattle.nb_texts.proofs.texts.Texts.bytes.Goals as goal

pub returns : goal.returns
returns c =
    let bytes = c.self.inside.bytes in
    let many : c.len.result ≡ length bytes.items = omega (arith, c.len.ensures, bytes.ok.0) in
    many ∙ bytes-laid bytes.items c.self.inside.places.items c.self.invariant
    ∙ ap (λ texts. sum_by length texts) c.self.view_is
