-- Reads of many keys.
use Rattle.std.proofs.Common.{◌≡◌, ◌∙◌, ℕ, ◌+◌, ◌-◌, ◌*◌, ◌<◌, ◌≤◌, List, [], ◌∷◌, ◌++◌, length, get_or, set, take, Option, add-one, add_assoc, ap, append-nil, append_assoc, drop, length-append, length-drop, refl, subst, subst₂, sym, arith}
use Rattle.std.proofs.Math.Nat.{mul-suc, suc-mul}
use Rattle.std.proofs.lemmas.List.{length-take-le, take_more, take_more_set}
use Rattle.nb_core.specs.declared.calls.Call.TheVariants.{Get}
use Rattle.nb_table.specs.Chains.{Grown}
use Rattle.nb_map.specs.Bulk.{Got, HasGotAll, HasGotMany, Looked, ReadsAddUp, Start, read_as, reads_of}
use Rattle.nb_map.specs.Calling.{HasMadeSome}
use Rattle.nb_map.specs.Logs.{HasLogged}
use Rattle.nb_map.specs.Maps.{IsMine, MapOf, SeatOf}
use Rattle.nb_map.specs.Promises.{HasGot}
use Rattle.nb_map.specs.Steps.{get_steps}
use Rattle.nb_map.proofs.Logged.{logged-same, logged-then, worked-uncounted}
use Rattle.nb_map.proofs.Made.{made-none, made-within}
use Rattle.nb_map.proofs.Rested.{logged-rested, made-rested, mine-rested}
use Rattle.nb_map.proofs.Swept.{made_some-more}
use Rattle.nb_map.proofs.Updated.{made-logged, worked-same}
use Rattle.nb_map.proofs.Walked.{made-as}

-- one more key after as many keys as numbers
reads-next :
    (keys : List ℕ) (found : List (Option ℕ)) (key : ℕ) (number : Option ℕ)
    → length found ≡ length keys
    → reads_of (keys ++ (key ∷ [])) (found ++ (number ∷ [])) ≡ read_as key number
    ∷ reads_of keys found
reads-next [] [] key number same = refl
reads-next (k ∷ keys) (n ∷ found) key number same =
    ap (λ reads. reads ++ (read_as k n ∷ []))
    (reads-next keys found key number (omega (arith, same)))
reads-next [] (n ∷ found) key number same = absurd (omega (arith, same))
reads-next (k ∷ keys) [] key number same = absurd (omega (arith, same))

-- the first keys, and the next one
pub got-next :
    {m : MapOf} {before : SeatOf} {looks : ℕ} {then after : SeatOf} (keys : List ℕ)
    (found : List (Option ℕ)) (i key : ℕ) (number : Option ℕ)
    → HasGotAll m before (take i keys) (take i found) looks then
    → i < length keys → length found ≡ length keys
    → key ≡ get_or keys i key → HasGot m key then after number
    → HasGotAll m before (take (i + 1) keys) (take (i + 1) (set found i number)) looks after
got-next {m} {before} {looks} {then} {after} keys found i key number got within same is one =
    subst₂ (λ ks ns. HasGotAll m before ks ns looks after)
    (ap (λ k. take i keys ++ (k ∷ [])) is ∙ sym (take_more keys i key within))
    (sym (take_more_set found i number (omega (arith, within, same))))
    (Got got key number one)

-- and looks at some keys
pub got-looked :
    {m : MapOf} {before : SeatOf} {keys : List ℕ} {found : List (Option ℕ)} {looks : ℕ}
    {then after : SeatOf} (all : List ℕ) (i n : ℕ) → i + n ≤ length all
    → HasGotAll m before keys found looks then
    → Grown m.chain.shape then.chain after.chain [] (length (take (i + n - i) (drop i all)))
    → after.count ≡ then.count → HasGotAll m before keys found (looks + n) after
got-looked {m} {then = then} {after} all i n within got looked same =
    Looked got n (subst (Grown m.chain.shape then.chain after.chain []) all-looked looked) same
  where
    all-looked : length (take (i + n - i) (drop i all)) ≡ n
    all-looked =
        length-take-le (i + n - i) (drop i all) (omega (arith, within, length-drop i all))
        ∙ omega arith

module _ {m : MapOf} {before : SeatOf} (mine : IsMine m before) where
  -- each key has a number, or none
  got-each :
      {keys : List ℕ} {found : List (Option ℕ)} {looks : ℕ} {after : SeatOf}
      → HasGotAll m before keys found looks after → length found ≡ length keys
  got-each Start = refl
  got-each (Looked got more grown same) = got-each got
  got-each (Got {keys} {found} got key number one) =
      omega (
        arith,
        got-each got,
        length-append found (number ∷ []),
        length-append keys (key ∷ []),
      )

  pub got-own :
      {keys : List ℕ} {found : List (Option ℕ)} {looks : ℕ} {after : SeatOf}
      → HasGotAll m before keys found looks after → IsMine m after
  got-own Start = mine
  got-own (Looked got more grown same) = mine-rested (got-own got) grown same
  got-own (Got got key number one) = one.own

  got-logged :
      {keys : List ℕ} {found : List (Option ℕ)} {looks : ℕ} {after : SeatOf}
      → HasGotAll m before keys found looks after
      → HasLogged before after (reads_of keys found)
  got-logged Start = logged-same mine refl
  got-logged (Looked got more grown same) =
      logged-then (got-logged got) (logged-rested (got-own got) grown)
  got-logged (Got {keys} {found} {after = after} got key number one) =
      subst (HasLogged before after) (sym (reads-next keys found key number (got-each got)))
      (logged-then (got-logged got) one.replied)

  -- the bound of its steps
  got-steps :
      {keys : List ℕ} {found : List (Option ℕ)} {looks : ℕ} {after : SeatOf} (key : ℕ)
      → HasGotAll m before keys found looks after
      → HasMadeSome m.chain.shape (Get key) before.chain after.chain
      (length keys * get_steps m.chain.shape + looks)
  got-steps key Start = ([], made-within 0 _ (omega arith) (made-none m.chain (Get key) before.chain mine.chain))
  got-steps {keys} {looks = looks} key (Looked {looks = fewer} {then} {after} got more grown same) =
      made_some-more then after (length keys * get_steps m.chain.shape + looks) mine (omega arith)
      (got-steps key got) ([], made-rested (Get key) grown)
  got-steps {looks = looks} key (Got {keys} {then = then} {after} got read number one) =
      made_some-more then after (length (keys ++ (read ∷ [])) * get_steps m.chain.shape + looks) mine
      (fits (length keys) (length (keys ++ (read ∷ []))) (get_steps m.chain.shape) looks
      (length-append keys (read ∷ [])))
      (got-steps key got)
      (one.worked.steps.0, made-as m.chain read key one.worked.steps.1)
    where
      fits : (n n' c looks : ℕ) → n' ≡ n + 1 → n * c + looks + c ≤ n' * c + looks
      fits n n' c looks is =
          let more : (n + 1) * c ≡ n * c + c = rw add-one (suc-mul n c) in
          rw is (omega (arith, more))

  got-count :
      {keys : List ℕ} {found : List (Option ℕ)} {looks : ℕ} {after : SeatOf}
      → HasGotAll m before keys found looks after → after.count ≡ before.count
  got-count Start = refl
  got-count (Looked got more grown same) = same ∙ got-count got
  got-count (Got {then = then} {after} got key number one) =
      worked-same (got-own got) one.own (made-logged one.worked.steps.1 one.replied) refl one.worked
      ∙ got-count got

  -- all of them
  pub got-all :
      {keys : List ℕ} {found : List (Option ℕ)} {looks : ℕ} {after : SeatOf}
      → HasGotAll m before keys found looks after → looks ≤ length keys
      → HasGotMany m keys before after found
  got-all {keys} {looks = looks} {after = after} got few = record {
    looks = looks;
    got = got;
    few = few;
    replied = got-logged got;
    worked = λ key.
        let steps = got-steps key got in
        worked-uncounted {map = m} {call = Get key} {before = before} {after = after}
        (made-within _ _ (fits (length keys) (get_steps m.chain.shape) looks few) steps.1)
        (got-count got);
    own = got-own got;
  }
    where
      fits : (n c looks : ℕ) → looks ≤ n → n * c + looks ≤ n * (c + 1)
      fits n c looks few =
          let more : n * (c + 1) ≡ n * c + n = rw add-one (mul-suc n c) in
          omega (arith, few, more)

-- ---- reads after others

got-append :
    {m : MapOf} {before then after : SeatOf} {keys keys' : List ℕ} {found found' : List (Option ℕ)}
    {looks looks' : ℕ} → HasGotAll m before keys found looks then
    → HasGotAll m then keys' found' looks' after
    → HasGotAll m before (keys ++ keys') (found ++ found') (looks + looks') after
got-append {m} {before} {then} {keys = keys} {found = found} {looks = looks} got Start =
    let same : looks ≡ looks + 0 = omega arith in
    subst (λ n. HasGotAll m before (keys ++ []) (found ++ []) n then) same
    (subst₂ (λ ks ns. HasGotAll m before ks ns looks then) (sym (append-nil keys))
    (sym (append-nil found)) got)
got-append {m} {before} {after = after} {keys} {keys'} {found} {found'} {looks} got
    (Looked {looks = looks'} rest more grown same) =
    subst (λ n. HasGotAll m before (keys ++ keys') (found ++ found') n after)
    (add_assoc looks looks' more)
    (Looked (got-append got rest) more grown same)
got-append {m} {before} {after = after} {keys} {found = found} {looks = looks} {looks' = looks'}
    got (Got {keys = keys'} {found = found'} rest key number one) =
    subst₂ (λ ks ns. HasGotAll m before ks ns (looks + looks') after)
    (append_assoc keys keys' (key ∷ [])) (append_assoc found found' (number ∷ []))
    (Got (got-append got rest) key number one)

pub reads_add_up : ReadsAddUp
reads_add_up = record {
  none = λ mine. got-all mine Start (omega arith);
  more = λ {m} {before} {then} {after} {keys} {keys'} mine a b.
      got-all mine (got-append a.got b.got)
      (omega (arith, a.few, b.few, length-append keys keys'));
}
