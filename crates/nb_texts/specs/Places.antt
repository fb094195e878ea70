-- Texts one behind another, and where each stands.
use Rattle.std.specs.Prelude.{◌≡◌, ℕ, ◌-◌, ◌≤◌, List, All, length, map, slice_range, sum_by}
use Rattle.nb_texts.specs.declared.texts.Place.{Place}

-- the text that stands there among the bytes
abbrev pub text_at : List ℕ → Place → List ℕ
text_at bytes place = slice_range bytes place.start place.end

abbrev pub texts_at : List ℕ → List Place → List (List ℕ)
texts_at bytes places = map (text_at bytes) places

-- the place is one of the bytes
abbrev pub IsWithin : List ℕ → Place → Type 0
IsWithin bytes place = (place.start ≤ place.end) × (place.end ≤ length bytes)

abbrev pub AreWithin : List ℕ → List Place → Type 0
AreWithin bytes places = All (IsWithin bytes) places

-- how many bytes stand there
abbrev pub span : Place → ℕ
span place = place.end - place.start

-- each place is one of the bytes, and there are no more bytes than stand at the places
pub record AreLaidOut (bytes : List ℕ) (places : List Place) : Type 0 where
  pub within : AreWithin bytes places
  pub filled : sum_by span places ≡ length bytes
