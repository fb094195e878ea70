-- Puts of entries, one after another.
use Rattle.std.proofs.Common.{◌≡◌, ◌∙◌, ℕ, ◌+◌, false, List, [], ◌∷◌, ◌++◌, length, Option, Result, Ok, Err, is_err, sym, length-append, append_assoc}
use Rattle.nb_map.specs.Bulk.{Again, HasPutAll, put_entry}
use Rattle.nb_map.specs.Maps.{MapOf, SeatOf}
use Rattle.nb_map.specs.Progress.{Unlimited}
use Rattle.nb_map.specs.Promises.{HasWritten, found_or_full}
use Rattle.nb_map.specs.declared.faults.Full.{Full}

-- the next entry was put
pub put-next :
    {m : MapOf} {before mid after : SeatOf} {entries first : List (ℕ × ℕ)}
    (rest : List (ℕ × ℕ)) (entry : ℕ × ℕ) (result : Result (Option ℕ) Full)
    → is_err result ≡ false → HasWritten m (put_entry entry) mid after Unlimited (found_or_full result)
    → entries ≡ first ++ (entry ∷ rest) → HasPutAll m before first mid
    → (put : List (ℕ × ℕ)) × (entries ≡ put ++ rest) × (length put ≡ length first + 1)
    × HasPutAll m before put after
put-next {first = first} rest entry (Ok found) done wrote are put = (
  first ++ (entry ∷ []),
  are ∙ sym (append_assoc first (entry ∷ []) rest),
  length-append first (entry ∷ []),
  Again put entry found wrote,
)
put-next rest entry (Err full) done wrote are put = absurd cc
