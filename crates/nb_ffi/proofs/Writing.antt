-- Entries are written into an array, one after another.
use Rattle.std.proofs.Common.{◌≡◌, ◌∙◌, ◌≤◌, ◌<◌, ◌+◌, ℕ, List, [], ◌∷◌, ◌++◌, ap, sym, length, map, take, drop, slice_index_or, slice_set, arith}
use Rattle.std.proofs.lemmas.List.{append_assoc, drop_more, length-map, length-take, map_more, set_at, take_all}
use Rattle.nb_ffi.specs.Entries.{entry_in_c, written_over}
use Rattle.nb_ffi.specs.declared.ended_map.MapEntry.{MapEntry}

-- one more of what is written of some values
pub told-more :
    {A B : Type 0} (tell : A → B) (values : List A) (room room' : List B) (i : ℕ) (value d : A)
    → i < length values → length values ≤ length room
    → room' ≡ map tell (take i values) ++ drop i room → value ≡ slice_index_or values i d
    → slice_set room' i (tell value) ≡ map tell (take (i + 1) values) ++ drop (i + 1) room
told-more tell values room room' i value d lt fits are is =
    let front = map tell (take i values) in
    let long : length front ≡ i =
    length-map (take i values) tell ∙ omega (arith, length-take i values) in
    ap (λ l. slice_set l i (tell value))
    (are ∙ ap (λ l. front ++ l) (drop_more room i (tell d) (omega (arith, lt, fits))))
    ∙ set_at front _ _ (tell value) i long
    ∙ sym (append_assoc front (tell value ∷ []) _)
    ∙ ap (λ l. l ++ drop (i + 1) room)
    (ap (λ v. front ++ tell v ∷ []) is ∙ sym (map_more tell values i d lt))

pub written-more :
    (entries : List (ℕ × ℕ)) (room room' : List MapEntry) (i : ℕ) (entry d : ℕ × ℕ)
    → i < length entries → length entries ≤ length room
    → room' ≡ map entry_in_c (take i entries) ++ drop i room
    → entry ≡ slice_index_or entries i d
    → slice_set room' i (entry_in_c entry)
    ≡ map entry_in_c (take (i + 1) entries) ++ drop (i + 1) room
written-more = told-more entry_in_c

pub all-written :
    (entries : List (ℕ × ℕ)) (room room' : List MapEntry) (i : ℕ)
    → i ≤ length entries → length entries ≤ i
    → room' ≡ map entry_in_c (take i entries) ++ drop i room
    → room' ≡ written_over entries room
all-written entries room room' i low high are =
    let all : i ≡ length entries = omega (arith, low, high) in
    are ∙ ap (λ n. map entry_in_c (take n entries) ++ drop n room) all
    ∙ ap (λ l. map entry_in_c l ++ drop (length entries) room)
    (take_all (length entries) entries (omega arith))
