-- The rows of lines, one after another.
use Rattle.std.proofs.Common.{◌≡◌, ◌∙◌, ◌+◌, ◌<◌, ℕ, List, [], ◌∷◌, ◌++◌, Some, ap, arith, get_or, inl, inr, length, sym, take}
use Rattle.std.specs.Prelude.{slice_get}
use Rattle.std.proofs.lemmas.List.{length-map, length-take-le, map-append, take_more}
use Rattle.std.proofs.lemmas.Option.{get_or_from_slice_get}
use Rattle.nb_texts.proofs.FindingLemmas.{get-push}
use Rattle.nb_texts.specs.Rows.{AreRowsOf}
use Rattle.nb_texts.specs.declared.tally.Row.{Row}

-- the row of one more line
pub rows-more :
    (texts : List (List ℕ)) (counts : List ℕ) (rows : List Row) (row : Row) (n : ℕ)
    → n < length texts → n < length counts → slice_get texts n ≡ Some row.line.now
    → get_or counts n 0 ≡ row.times → row.place ≡ n
    → AreRowsOf (take n texts) (take n counts) rows
    → AreRowsOf (take (n + 1) texts) (take (n + 1) counts) (rows ++ row ∷ [])
rows-more texts counts rows row n less within line times place are =
    let line-of : Row → List ℕ = λ row. row.line.now in
    let times-of : Row → ℕ = λ row. row.times in
    let many : length rows ≡ n
    = sym (length-map rows line-of) ∙ ap length are.lines ∙ length-take-le n texts (omega (arith, less)) in
    record {
      lines =
          map-append line-of rows (row ∷ []) ∙ ap (λ lines. lines ++ row.line.now ∷ []) are.lines
          ∙ sym (take_more texts n row.line.now less
          ∙ ap (λ line. take n texts ++ line ∷ [])
          (get_or_from_slice_get texts n row.line.now row.line.now line));
      times =
          map-append times-of rows (row ∷ []) ∙ ap (λ counts. counts ++ row.times ∷ []) are.times
          ∙ sym (take_more counts n 0 within ∙ ap (λ times. take n counts ++ times ∷ []) times);
      places = λ i other at. elim (get-push rows row i other at) [
        | inl there ↦ are.places i other there
        | inr last ↦ ap (λ (row : Row). row.place) last.1 ∙ place ∙ sym many ∙ sym last.0
      ];
    }
