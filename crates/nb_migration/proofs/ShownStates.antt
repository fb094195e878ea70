-- What a core's log shows of a key, after one more call.
use Rattle.std.proofs.Common.{◌≡◌, ◌≢◌, ◌∙◌, ◌⊎◌, ℕ, ◌==◌, true, false, not, cond, List, [], ◌∷◌, ◌++◌, Option, Some, None, ap, sym, subst, refl, inl, inr}
use Rattle.std.proofs.lemmas.Bool.{cond-false, cond-true, cond_both, eq-eqb, eqb-false, ne_eqb, not-false, or_parts}
use Rattle.std.specs.Cmp.{nat_cmp_total}
use Rattle.std.specs.FinMap.{get, get-insert, get-remove}
use Rattle.nb_core.specs.Calls.{leaves_alone, same_number}
use Rattle.nb_core.specs.History.{key_of_call}
use Rattle.nb_core.specs.Log.{Entry, IsBeginning, Numbers, changed, holds_of, map_after, map_of_log, with_at}
use Rattle.nb_core.specs.declared.calls.Call.{Call}
use Rattle.nb_core.specs.declared.calls.Call.TheVariants as call
use Rattle.nb_core.specs.declared.calls.Change.{Change}
use Rattle.nb_core.specs.declared.calls.Want.{Want}
use Rattle.nb_core.proofs.Computed.{map_after-left, same_key}
use Rattle.nb_map.specs.FirstPut.{HasHad}
use Rattle.nb_migration.specs.Shown.{HasHadNumber, HasPast, ShowsState, number_of_state}
use Rattle.nb_migration.specs.declared.numbers.TheConstants.{CLOSED}
use Rattle.nb_moving.specs.declared.events.State.{State}
use Rattle.nb_moving.specs.declared.events.State.TheVariants.{Never, Number, Gone, Frozen, Closed, Full}

-- ---- what the map has after a call

get-with_at :
    (m : Numbers) (k q : ℕ) (o : Option ℕ) → get (with_at m k o) q ≡ cond (q == k) o (get m q)
get-with_at m k q None = get-remove nat_cmp_total m k q
    ∙ ap (λ t. cond t None (get m q)) (same_key q k)
get-with_at m k q (Some n) = get-insert nat_cmp_total m k n q
    ∙ ap (λ t. cond t (Some n) (get m q)) (same_key q k)

-- a call leaves other keys
pub get-other :
    (c : Call) (m : Numbers) (q : ℕ) → (key_of_call c == q) ≡ false
    → get (map_after c m) q ≡ get m q
get-other (call.Get k) m q other = refl
get-other (call.Write k want change) m q other =
    let o = changed change (get m k) in
    cond_both (holds_of want (get m k)) (with_at m k o) m (λ n. get n q ≡ get m q)
    (λ holds. get-with_at m k q o
    ∙ cond-false (q == k) o (get m q) (ne_eqb q k (λ same. eqb-false k q other (sym same))))
    (λ fails. refl)

-- a write that changes something has its condition met, and puts something else
pub acts-parts :
    (k : ℕ) (want : Want) (change : Change) (found : Option ℕ)
    → leaves_alone (call.Write k want change) found ≡ false
    → (holds_of want found ≡ true) × (same_number (changed change found) found ≡ false)
acts-parts k want change found acts =
    let parts = or_parts (not (holds_of want found)) (same_number (changed change found) found) acts in
    (not-false (holds_of want found) parts.0, parts.1)

-- and then its key has that
pub get-acted :
    (k : ℕ) (want : Want) (change : Change) (m : Numbers) → holds_of want (get m k) ≡ true
    → get (map_after (call.Write k want change) m) k ≡ changed change (get m k)
get-acted k want change m holds =
    let o = changed change (get m k) in
    ap (λ n. get n k) (cond-true (holds_of want (get m k)) (with_at m k o) m holds)
    ∙ get-with_at m k k o ∙ cond-true (k == k) o (get m k) (eq-eqb k k refl)

-- ---- moments of a log

pub split :
    (entry : Entry) (log later earlier : List Entry) → entry ∷ log ≡ later ++ earlier
    → (earlier ≡ entry ∷ log) ⊎ IsBeginning earlier log
split entry log [] earlier is = inl (sym is)
split entry log (x ∷ later) earlier is =
    let rest : log ≡ later ++ earlier = cc in inr (record { later = later; is = rest })

module _ (entry : Entry) (log : List Entry) (key : ℕ) where
  begins : {earlier : List Entry} → IsBeginning earlier log → IsBeginning earlier (entry ∷ log)
  begins begun = record { later = entry ∷ begun.later; is = ap (λ l. entry ∷ l) begun.is }

  pub number-more : HasHadNumber log key → HasHadNumber (entry ∷ log) key
  number-more had = record {
    earlier = had.earlier;
    begun = begins had.begun;
    number = had.number;
    had = had.had;
    unmarked = had.unmarked;
  }

  -- what the map had before the last call
  pub number-before :
      (n : ℕ) → get (map_of_log log) key ≡ Some n → n ≢ CLOSED → HasHadNumber (entry ∷ log) key
  number-before n at unmarked = record {
    earlier = log;
    begun = record { later = entry ∷ []; is = refl };
    number = n;
    had = at;
    unmarked = unmarked;
  }

  -- where the key has none now, it never had one, if it hadn't before
  pub never-more :
      get (map_of_log (entry ∷ log)) key ≡ None → (HasHad log key → ⊥)
      → HasHad (entry ∷ log) key → ⊥
  never-more none never had =
      elim (split entry log had.begun.later had.earlier had.begun.is) [
        | inl now ↦
            let at : get (map_of_log (entry ∷ log)) key ≡ Some had.number =
            subst (λ l. get (map_of_log l) key ≡ Some had.number) now had.had in
            let both : ◌≡◌ {A = Option ℕ} None (Some had.number) = sym none ∙ at in
            cc
        | inr begun ↦
            never (record {
              earlier = had.earlier;
              begun = begun;
              number = had.number;
              had = had.had;
            })
      ]

  -- where it is marked, it never had a number, if it hadn't before
  pub unmarked-more :
      get (map_of_log (entry ∷ log)) key ≡ Some CLOSED → (HasHadNumber log key → ⊥)
      → HasHadNumber (entry ∷ log) key → ⊥
  unmarked-more mark never had =
      elim (split entry log had.begun.later had.earlier had.begun.is) [
        | inl now ↦
            let at : get (map_of_log (entry ∷ log)) key ≡ Some had.number =
            subst (λ l. get (map_of_log l) key ≡ Some had.number) now had.had in
            let both : ◌≡◌ {A = Option ℕ} (Some CLOSED) (Some had.number) = sym mark ∙ at in
            had.unmarked (let same : had.number ≡ CLOSED = cc in same)
        | inr begun ↦
            never (record {
              earlier = had.earlier;
              begun = begun;
              number = had.number;
              had = had.had;
              unmarked = had.unmarked;
            })
      ]

  past-more :
      (s : State) → get (map_of_log (entry ∷ log)) key ≡ number_of_state s → HasPast s log key
      → HasPast s (entry ∷ log) key
  past-more Never at past = never-more at past
  past-more (Number n) at past = past
  past-more Gone at past = number-more past
  past-more (Frozen n) at past = past
  past-more (Closed true) at past = number-more past
  past-more (Closed false) at past = unmarked-more at past
  past-more Full at past = never-more at past

  -- a call that leaves the key's number leaves what the log shows of it
  pub shows-more :
      (s : State) → get (map_of_log (entry ∷ log)) key ≡ get (map_of_log log) key
      → ShowsState log key s → ShowsState (entry ∷ log) key s
  shows-more s same shows = record {
    number = same ∙ shows.number;
    past = past-more s (same ∙ shows.number) shows.past;
  }

  -- so does a call of another key
  pub shows-other :
      (s : State) → (key_of_call entry.call == key) ≡ false → ShowsState log key s
      → ShowsState (entry ∷ log) key s
  shows-other s other = shows-more s (get-other entry.call (map_of_log log) key other)

-- and one that leaves its own key alone
pub shows-left :
    (entry : Entry) (log : List Entry) (s : State)
    → leaves_alone entry.call (get (map_of_log log) (key_of_call entry.call)) ≡ true
    → ShowsState log (key_of_call entry.call) s
    → ShowsState (entry ∷ log) (key_of_call entry.call) s
shows-left entry log s alone =
    let key = key_of_call entry.call in
    shows-more entry log key s
    (ap (λ m. get m key) (map_after-left entry.call (map_of_log log) alone))

pub number-had : (log : List Entry) (key : ℕ) → HasHadNumber log key → HasHad log key
number-had log key had = record {
  earlier = had.earlier;
  begun = had.begun;
  number = had.number;
  had = had.had;
}
