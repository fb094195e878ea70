use Rattle.std.proofs.Common.{◌≡◌, ◌∙◌, ap, refl}
use denote.Enum.Declared.{tag_of}
use Rattle.nb_core.specs.Plans.{header_number, header_place}
use Rattle.nb_core.specs.contracts.shapes.HeaderWord.{the_type}
use Rattle.nb_core.specs.declared.shapes.HeaderWord.{HeaderWord}
use Rattle.nb_core.specs.declared.shapes.HeaderWord.TheVariants.{Next, Take, Done}
use Rattle.nb_core.proofs.shapes.Shape.header_word_place.Goals as goal

number-is : (word : HeaderWord) → tag_of the_type word ≡ header_number word
number-is Next = refl
number-is Take = refl
number-is Done = refl

pub returns : goal.returns
returns c =
    c.header_place.ensures ∙ ap (header_place c.args.self.now c.args.g) (number-is c.args.word)
