-- Texts one behind another: what is put behind them leaves them as they are.
use Rattle.std.proofs.Common.{◌≡◌, ◌∙◌, ◌+◌, ◌-◌, ◌≤◌, ◌<◌, ℕ, zero, suc, List, [], ◌∷◌, ◌++◌, Some, None, ap, ap₂, append_assoc, arith, drop, get_or, length, length-append, map, refl, sym, take}
use Rattle.std.specs.Prelude.{slice_get, slice_range, sum_by}
use Rattle.std.proofs.Math.Seq.{take-suc}
use Rattle.std.proofs.lemmas.List.{drop-append-le, drop_at, flat_map_more, get_or-drop, length-drop, length-take-le, map-append, take-append-le, take_all}
use Rattle.std.proofs.lemmas.List.Sums.{sum_by-append, sum_by-cons}
use Rattle.std.proofs.lemmas.Option.{get_or_from_slice_get, slice_get_within}
use Rattle.std.proofs.lemmas.List.Elements.{All-head, All-push, All-tail, All-weaker}
use Rattle.nb_texts.specs.Lines.{text_of_lines}
use Rattle.nb_texts.specs.Places.{AreLaidOut, AreWithin, IsWithin, span, text_at, texts_at}
use Rattle.nb_texts.specs.declared.texts.Place.{Place}

text-kept : (bytes more : List ℕ) (place : Place) → IsWithin bytes place
    → text_at (bytes ++ more) place ≡ text_at bytes place
text-kept bytes more place within =
    let start : place.start ≤ length bytes = omega (arith, within.0, within.1) in
    let few : place.end - place.start ≤ length (drop place.start bytes)
    = omega (arith, within.0, within.1, length-drop place.start bytes) in
    ap (take (place.end - place.start)) (drop-append-le place.start bytes more start)
    ∙ take-append-le (place.end - place.start) (drop place.start bytes) more few

texts-kept : (bytes more : List ℕ) (places : List Place) → AreWithin bytes places
    → texts_at (bytes ++ more) places ≡ texts_at bytes places
texts-kept bytes more [] within = refl
texts-kept bytes more (place ∷ places) within =
    ap₂ (λ text texts. text ∷ texts)
    (text-kept bytes more place (All-head (IsWithin bytes) place places within))
    (texts-kept bytes more places (All-tail (IsWithin bytes) place places within))

-- bytes that no place tells of
pub within-more : (bytes more : List ℕ) (places : List Place) → AreWithin bytes places
    → AreWithin (bytes ++ more) places
within-more bytes more places within =
    All-weaker (IsWithin bytes) (IsWithin (bytes ++ more))
    (λ place is. (is.0, omega (arith, is.1, length-append bytes more))) places within

-- the place of a text that is put behind the others
pub within-push :
    (bytes text : List ℕ) (places : List Place) (start end : ℕ) → start ≡ length bytes
    → end ≡ length (bytes ++ text) → AreWithin bytes places
    → AreWithin (bytes ++ text) (places ++ record { start = start; end = end } ∷ [])
within-push bytes text places start end first last within =
    All-push (IsWithin (bytes ++ text)) places (record { start = start; end = end })
    (within-more bytes text places within) (
      omega (arith, first, last, length-append bytes text),
      omega (arith, last),
    )

pub laid-push :
    (bytes text : List ℕ) (places : List Place) (start end : ℕ) → start ≡ length bytes
    → end ≡ length (bytes ++ text) → AreLaidOut bytes places
    → AreLaidOut (bytes ++ text) (places ++ record { start = start; end = end } ∷ [])
laid-push bytes text places start end first last laid =
    let last-place : Place = record { start = start; end = end } in
    record {
      within = within-push bytes text places start end first last laid.within;
      filled =
          omega (
            arith,
            sum_by-append span places (last-place ∷ []),
            sum_by-cons span last-place [],
            laid.filled,
            first,
            last,
            length-append bytes text,
          );
    }

-- the texts have as many bytes as stand at their places
span-text : (bytes : List ℕ) (place : Place) → IsWithin bytes place
    → length (text_at bytes place) ≡ span place
span-text bytes place within =
    length-take-le (place.end - place.start) (drop place.start bytes)
    (omega (arith, within.0, within.1, length-drop place.start bytes))

bytes-at : (bytes : List ℕ) (places : List Place) → AreWithin bytes places
    → sum_by length (texts_at bytes places) ≡ sum_by span places
bytes-at bytes [] within = refl
bytes-at bytes (place ∷ places) within =
    omega (
      arith,
      span-text bytes place (All-head (IsWithin bytes) place places within),
      bytes-at bytes places (All-tail (IsWithin bytes) place places within),
      sum_by-cons length (text_at bytes place) (texts_at bytes places),
      sum_by-cons span place places,
    )

pub bytes-laid : (bytes : List ℕ) (places : List Place) → AreLaidOut bytes places
    → length bytes ≡ sum_by length (texts_at bytes places)
bytes-laid bytes places laid = sym (bytes-at bytes places laid.within ∙ laid.filled)

pub texts-push :
    (bytes text : List ℕ) (places : List Place) (start end : ℕ) → start ≡ length bytes
    → end ≡ length (bytes ++ text) → AreWithin bytes places
    → texts_at (bytes ++ text) (places ++ record { start = start; end = end } ∷ [])
    ≡ texts_at bytes places ++ text ∷ []
texts-push bytes text places start end first last within =
    let count : end - start ≡ length text = omega (arith, first, last, length-append bytes text) in
    let it : text_at (bytes ++ text) (record { start = start; end = end }) ≡ text
    = ap (λ n. take n (drop start (bytes ++ text))) count
    ∙ ap (take (length text)) (drop_at bytes text start (sym first))
    ∙ take_all (length text) text (omega arith) in
    map-append (text_at (bytes ++ text)) places (record { start = start; end = end } ∷ [])
    ∙ ap₂ (λ texts one. texts ++ one ∷ []) (texts-kept bytes text places within) it

pub get-map :
    {X Y : Type 0} (f : X → Y) (xs : List X) (i : ℕ) (d : X) → i < length xs
    → slice_get (map f xs) i ≡ Some (f (get_or xs i d))
get-map f [] i d less = absurd (omega (arith, less))
get-map f (x ∷ xs) zero d less = refl
get-map f (x ∷ xs) (suc i) d less = get-map f xs i d (omega (arith, less))

pub get-past : {X : Type 0} (xs : List X) (i : ℕ) → length xs ≤ i → slice_get xs i ≡ None
get-past [] i past = refl
get-past (x ∷ xs) zero past = absurd (omega (arith, past))
get-past (x ∷ xs) (suc i) past = get-past xs i (omega (arith, past))

-- one text more of a range
pub range-more :
    {X : Type 0} (xs : List X) (first n : ℕ) (x : X) → first ≤ n → slice_get xs n ≡ Some x
    → slice_range xs first (n + 1) ≡ slice_range xs first n ++ (x ∷ [])
range-more xs first n x on at =
    let within = slice_get_within xs n x at in
    let more : n + 1 - first ≡ suc (n - first) = omega (arith, on) in
    let is : get_or (drop first xs) (n - first) x ≡ x
    = get_or-drop first xs (n - first) x ∙ ap (λ i. get_or xs i x) (omega (arith, on))
    ∙ get_or_from_slice_get xs n x x at in
    ap (λ k. take k (drop first xs)) more
    ∙ take-suc (drop first xs) (n - first) x (omega (arith, on, within, length-drop first xs))
    ∙ ap (λ y. take (n - first) (drop first xs) ++ (y ∷ [])) is

pub text-more :
    (texts : List (List ℕ)) (first n : ℕ) (text line : List ℕ) → first ≤ n
    → slice_get texts n ≡ Some line → text ≡ text_of_lines (slice_range texts first n)
    → (text ++ line) ++ 10 ∷ [] ≡ text_of_lines (slice_range texts first (n + 1))
text-more texts first n text line on at told =
    append_assoc text line (10 ∷ []) ∙ ap (λ text. text ++ (line ++ 10 ∷ [])) told
    ∙ flat_map_more (λ line. line ++ 10 ∷ []) [] (slice_range texts first n) line
    ∙ ap text_of_lines (sym (range-more texts first n line on at))
