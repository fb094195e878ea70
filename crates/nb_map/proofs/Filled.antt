-- A new map is filled: the entries that were put so far, and what the seat has claimed for them.
use Rattle.std.proofs.Common.{◌≡◌, ◌∙◌, ◌≤◌, ℕ, true, false, List, [], ◌∷◌, ◌++◌, map, reverse, Option, Result, Ok, Err, ap, sym, subst, refl, inl, inr}
use Rattle.std.specs.Prelude.{is_err}
use Rattle.std.proofs.lemmas.List.{append_assoc, reverse-append}
use Rattle.nb_core.specs.declared.numbers.TheConstants.{VALUE_MAX}
use Rattle.nb_map.proofs.Crowding.{asks_add_up}
use Rattle.nb_map.proofs.Logged.{logged-same, logged-then}
use Rattle.nb_map.specs.Bulk.{put_entry}
use Rattle.nb_map.specs.Crowding.{IsFilled}
use Rattle.nb_map.specs.Maps.{IsMine, MapOf, SeatOf}
use Rattle.nb_map.specs.Progress.{Tries}
use Rattle.nb_map.specs.Promises.{Found, HasWritten, Outcome, found_or_refused}
use Rattle.nb_map.specs.declared.faults.PutFault.{PutFault}
use Rattle.nb_map.specs.inside.Filling.{HasClaimedFor, HasFilled, HasPut, puts_of}

-- the put of an entry fills its key
filled-at :
    (xs : List (ℕ × ℕ)) (entry : ℕ × ℕ) (ys : List (ℕ × ℕ))
    → IsFilled (map put_entry (xs ++ (entry ∷ ys))) entry.0
filled-at [] entry ys = inl (refl, refl)
filled-at (x ∷ xs) entry ys = inr (filled-at xs entry ys)

-- so it does among the puts of all
pub entry-filled :
    (all first rest : List (ℕ × ℕ)) (entry : ℕ × ℕ) → all ≡ first ++ (entry ∷ rest)
    → IsFilled (puts_of all) entry.0
entry-filled all first rest entry are =
    let same : reverse all ≡ reverse rest ++ (entry ∷ reverse first)
    = ap reverse are ∙ reverse-append first (entry ∷ rest)
    ∙ ap (λ xs. xs ++ reverse first) (reverse-append (entry ∷ []) rest)
    ∙ append_assoc (reverse rest) (entry ∷ []) (reverse first) in
    subst (λ xs. IsFilled (map put_entry xs) entry.0) (sym same)
    (filled-at (reverse rest) entry (reverse first))

module _ (m : MapOf) (all : List (ℕ × ℕ)) where
  -- nothing is put yet
  pub put-none : {seat : SeatOf} → IsMine m seat → HasPut m all [] seat seat
  put-none mine = record {
    made = [];
    puts = refl;
    logged = logged-same mine refl;
    claims = λ claimed. claimed;
    own = mine;
  }

  -- a put of one of them claims a slot for no other key
  pub claims-more :
      {before after : SeatOf} {outcome : Outcome} (first rest : List (ℕ × ℕ))
      (entry : ℕ × ℕ) → all ≡ first ++ (entry ∷ rest) → IsMine m before
      → HasWritten m (put_entry entry) before after (Tries 1) outcome
      → HasClaimedFor m all before → HasClaimedFor m all after
  claims-more first rest entry are mine wrote claimed =
      asks_add_up.more mine.chain.plan (λ k filled. filled)
      (λ fills. entry-filled all first rest entry are) claimed wrote.non_blocking.steps

  -- one more is put
  pub put-more :
      {before mid after : SeatOf} {first : List (ℕ × ℕ)} (rest : List (ℕ × ℕ)) (entry : ℕ × ℕ)
      {found : Option ℕ} → all ≡ first ++ (entry ∷ rest) → HasPut m all first before mid
      → HasWritten m (put_entry entry) mid after (Tries 1) (Found found)
      → HasPut m all (first ++ (entry ∷ [])) before after
  put-more {first = first} rest entry are put wrote = record {
    made = (put_entry entry, wrote.answered.0) ∷ put.made;
    puts = ap (λ calls. put_entry entry ∷ calls) put.puts
        ∙ sym (ap (map put_entry) (reverse-append first (entry ∷ [])));
    logged = logged-then put.logged wrote.answered.2;
    claims = λ claimed. claims-more first rest entry are put.own wrote (put.claims claimed);
    own = wrote.own;
  }

  -- the next put was made
  pub put-next :
      {before mid after : SeatOf} {first : List (ℕ × ℕ)} (rest : List (ℕ × ℕ)) (entry : ℕ × ℕ)
      (result : Result (Option ℕ) PutFault) → is_err result ≡ false
      → HasWritten m (put_entry entry) mid after (Tries 1) (found_or_refused result)
      → all ≡ first ++ (entry ∷ rest) → HasPut m all first before mid
      → (put : List (ℕ × ℕ)) × (all ≡ put ++ rest) × HasPut m all put before after
  put-next {first = first} rest entry (Ok found) done wrote are put = (
    first ++ (entry ∷ []),
    are ∙ sym (append_assoc first (entry ∷ []) rest),
    put-more rest entry are put wrote,
  )
  put-next rest entry (Err fault) done wrote are put = absurd cc

  -- or it was refused
  pub put-refused :
      {before mid after : SeatOf} {first : List (ℕ × ℕ)} (rest : List (ℕ × ℕ)) (entry : ℕ × ℕ)
      (result : Result (Option ℕ) PutFault) → is_err result ≡ true
      → HasWritten m (put_entry entry) mid after (Tries 1) (found_or_refused result)
      → all ≡ first ++ (entry ∷ rest) → entry.1 ≤ VALUE_MAX → HasPut m all first before mid
      → HasFilled m all before after false
  put-refused rest entry (Ok found) refused wrote are small put = absurd cc
  put-refused {mid = mid} {first = first} rest entry (Err fault) refused wrote are small put =
      (first, rest, entry, mid, fault, are, small, put, wrote)
