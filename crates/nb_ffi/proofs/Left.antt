-- The entries of a list whose copies go on are written, one after another.
use Rattle.std.proofs.Common.{add-one, append-nil, ◌≡◌, ◌∙◌, ◌<◌, ◌≤◌, ◌+◌, ℕ, zero, suc, List, [], ◌∷◌, ◌++◌, Bool, true, false, ap, refl, sym, length, take, slice_index_or, slice_set, if◌then◌else◌, arith}
use Rattle.std.proofs.lemmas.List.{length_push}
use Rattle.nb_migration.specs.declared.copying.Copied.{Copied}
use Rattle.nb_migration.specs.declared.pieces.FrozenEntry.{FrozenEntry}
use Rattle.nb_ffi.specs.Entries.{entry_in_c, written_over}
use Rattle.nb_ffi.specs.Stretches.{goes_on, going_on}
use Rattle.nb_ffi.specs.declared.ended_map.MapEntry.{MapEntry}
use Rattle.nb_ffi.proofs.Listed.{written-one}

-- what one entry more brings
abbrev pub one_more : (goes : Bool) → FrozenEntry → List (ℕ × ℕ)
one_more goes entry = if goes then (entry.key, entry.number) ∷ [] else []

left-more :
    (entries : List FrozenEntry) (answers : List Copied) (i : ℕ) (d : FrozenEntry) (b : Copied)
    → i < length entries → length answers ≡ length entries
    → going_on (take (suc i) entries) (take (suc i) answers)
    ≡ going_on (take i entries) (take i answers)
    ++ one_more (goes_on (slice_index_or answers i b)) (slice_index_or entries i d)
left-more [] answers i d b less long = absurd (omega (arith, less))
left-more (entry ∷ entries) [] i d b less long = absurd (omega (arith, long))
left-more (entry ∷ entries) (answer ∷ answers) zero d b less long = refl
left-more (entry ∷ entries) (answer ∷ answers) (suc i) d b less long =
    chosen (goes_on answer) _ _ _
    (left-more entries answers i d b (omega (arith, less)) (omega (arith, long)))
  where
    chosen :
        (keeps : Bool) (now so_far more : List (ℕ × ℕ)) → now ≡ so_far ++ more
        → (if keeps then (entry.key, entry.number) ∷ now else now)
        ≡ (if keeps then (entry.key, entry.number) ∷ so_far else so_far) ++ more
    chosen true now so_far more is = ap (λ l. (entry.key, entry.number) ∷ l) is
    chosen false now so_far more is = is

-- after so many entries these are written
pub record IsLeft (entries : List FrozenEntry) (answers : List Copied) (room : List MapEntry) (i : ℕ)
    (left : List MapEntry) (count : ℕ) : Type 0 where
  pub written : left ≡ written_over (going_on (take i entries) (take i answers)) room
  pub many : count ≡ length (going_on (take i entries) (take i answers))
  pub few : count ≤ i

module _
    {entries : List FrozenEntry} {answers : List Copied} {room left : List MapEntry} {i count : ℕ}
    (less : i < length entries) (long : length answers ≡ length entries)
    (fits : length entries ≤ length room) (so_far : IsLeft entries answers room i left count)
  where
    pub left-goes :
        (d : FrozenEntry) (b : Copied) → goes_on (slice_index_or answers i b) ≡ true
        → (entry : FrozenEntry) → entry ≡ slice_index_or entries i d
        → IsLeft entries answers room (i + 1)
        (slice_set left count (record { key = entry.key; number = entry.number })) (count + 1)
    left-goes d b goes entry is =
        let pairs = going_on (take i entries) (take i answers) in
        let more : going_on (take (i + 1) entries) (take (i + 1) answers)
        ≡ pairs ++ (entry.key, entry.number) ∷ [] =
        ap (λ n. going_on (take n entries) (take n answers)) (add-one i)
        ∙ left-more entries answers i d b less long
        ∙ ap (λ goes. pairs ++ one_more goes (slice_index_or entries i d)) goes
        ∙ ap (λ e. pairs ++ one_more true e) (sym is) in
        record {
          written = ap (λ l. slice_set l count (entry_in_c (entry.key, entry.number))) so_far.written
              ∙ ap (λ n. slice_set (written_over pairs room) n (entry_in_c (entry.key, entry.number)))
              so_far.many
              ∙ written-one pairs room (entry.key, entry.number)
              (omega (arith, so_far.many, so_far.few, less, fits))
              ∙ ap (λ l. written_over l room) (sym more);
          many = ap (λ n. n + 1) so_far.many ∙ sym (length_push pairs (entry.key, entry.number))
              ∙ ap length (sym more);
          few = omega (arith, so_far.few);
        }

    pub left-stays :
        (d : FrozenEntry) (b : Copied) → goes_on (slice_index_or answers i b) ≡ false
        → IsLeft entries answers room (i + 1) left count
    left-stays d b stays =
        let pairs = going_on (take i entries) (take i answers) in
        let more : going_on (take (i + 1) entries) (take (i + 1) answers) ≡ pairs =
        ap (λ n. going_on (take n entries) (take n answers)) (add-one i)
        ∙ left-more entries answers i d b less long
        ∙ ap (λ goes. pairs ++ one_more goes (slice_index_or entries i d)) stays
        ∙ append-nil pairs in
        record {
          written = so_far.written ∙ ap (λ l. written_over l room) (sym more);
          many = so_far.many ∙ ap length (sym more);
          few = omega (arith, so_far.few);
        }
