-- The words of a legal history: what they may hold, and how they may change.
use Rattle.std.proofs.Common.{◌≡◌, ◌≢◌, ◌∙◌, ℕ, ◌-◌, ◌+◌, ◌%◌, ◌^◌, ◌<◌, ◌≤◌, ◌⊎◌, zero, suc, cond, ◌||◌, List, [], ◌∷◌, slice_index, ap, sym, subst, subst₂, refl, inl, inr, arith}
use Rattle.std.proofs.lemmas.Bool.{cond_both}
use Rattle.nb_core.specs.Plans.{Plan, IsPlan, Header, generations_of, header_place, size_of}
use Rattle.nb_core.specs.States.{IsKeyState, value_state, primed}
use Rattle.nb_core.specs.Tables.{IsSlot, IsUnprimed, chunk_of, Tables, is_finished_value, tables_at, words_of, finished_among, is_dead}
use Rattle.nb_core.specs.History.{IsLegal}
use Rattle.nb_core.specs.Laws.{IsKeyChange, IsValueChange, IsWonChange, LawfulChanges, LawfulWords}
use Rattle.nb_core.proofs.Codings.{value_state-word}
use Rattle.nb_core.proofs.Counting.{counted_once}
use Rattle.nb_core.proofs.Frames.{finished, key_after, key-frame, value_after, value-frame, value_words}
use Rattle.nb_core.proofs.Keeping.{sound}
use Rattle.nb_core.proofs.Lasting.{PutsNone, PutsNumber, Puts, win-puts}
use Rattle.nb_core.proofs.Computed.{is_finished-true}
use Rattle.nb_core.proofs.Sound.{IsSound, dead-null, empty-null, finished-growing}
use Rattle.nb_core.proofs.Words.{at_slot, at_table, length-words_of, one_word, word-first, word_after, word-frame}
use Rattle.nb_core.specs.declared.events.Event.{Event}
use Rattle.nb_core.specs.declared.events.Event.TheVariants.{Claim, Kill, Won, CopyIn, Prime, Finish, Take}
use Rattle.nb_core.specs.declared.states.KeyState.{KeyState}
use Rattle.nb_core.specs.declared.states.KeyState.TheVariants.{Empty, Dead, Claimed}
use Rattle.nb_core.specs.declared.states.ValueState.{ValueState}
use Rattle.nb_core.specs.declared.states.ValueState.TheVariants.{Null, Tombstone, Live}

-- ---- what words hold

-- a slot's key is a key of the map
key-lawful :
    (p : Plan) (t : Tables) → IsSound p t → (g i : ℕ) → IsSlot p g i → (s : KeyState)
    → t.key g i ≡ s → IsKeyState s
key-lawful p t s g i slot Empty is = tt
key-lawful p t s g i slot Dead is = tt
key-lawful p t s g i slot (Claimed k) is = (s.claimed g i k slot is).key

-- the last table has no next one
last-next : (p : Plan) (t : Tables) → IsSound p t → t.next (generations_of p - 1) ≡ 0
last-next p t s =
    elim (s.next_is (generations_of p - 1)) [
      | inl none ↦ none
      | inr some ↦ absurd (omega arith)
    ]

-- chunks are handed out only where there is a next table
taken-kept :
    (p : Plan) (e : Event) (h : List Event) → IsLegal p (e ∷ h) → (g : ℕ) → let t = tables_at p h in
    t.next g ≡ 0 → word_after p e (Header g 1) (t.taken g) ≡ t.taken g
taken-kept p (Take s f) h legal g none =
    let t = tables_at p h in
    at_table (λ g here. t.next g ≡ 0 → cond here ((t.taken g + chunk_of p f) % 2 ^ 64) (t.taken g)
    ≡ t.taken g) f g
    (λ none. let some = legal.2 in omega arith) (λ none. refl) none
taken-kept p _ h legal g none = refl

-- there is a last table
last-within : (p : Plan) → IsPlan p → generations_of p - 1 < generations_of p
last-within p plan = omega (arith, plan.tables.0)

-- no chunk of the last table is handed out
last-taken :
    (p : Plan) (h : List Event) → IsPlan p → IsLegal p h
    → (tables_at p h).taken (generations_of p - 1) ≡ 0
last-taken p [] plan legal = word-first p plan (Header (generations_of p - 1) 1)
    (last-within p plan, omega arith)
last-taken p (e ∷ h) plan legal =
    let last = generations_of p - 1 in
    word-frame p plan h (Header last 1) (last-within p plan, omega arith) e legal.1
    ∙ taken-kept p e h legal last (last-next p (tables_at p h) (sound p h plan legal.0))
    ∙ last-taken p h plan legal.0

-- where there is no next table no slot is finished
none-finished :
    (p : Plan) (t : Tables) → IsSound p t → (g : ℕ) → g < generations_of p → t.next g ≡ 0 → (n : ℕ)
    → n ≤ size_of p g
    → finished_among t g n ≡ 0
none-finished p t s g within none zero below = refl
none-finished p t s g within none (suc n) below =
    let test = is_dead (t.key g n) || is_finished_value (t.value g n) in
    cond_both test 1 0 (λ bit. bit + finished_among t g n ≡ 0)
    (λ e. absurd (let next = finished-growing p t s g n (within, below)
    (is_finished-true t g n e) in omega arith))
    (λ e. omega (arith, none-finished p t s g within none n (omega arith)))

-- no slot of the last table is counted
last-counted :
    (p : Plan) (h : List Event) → IsPlan p → IsLegal p h
    → (tables_at p h).counted (generations_of p - 1) ≡ 0
last-counted p h plan legal =
    let last = generations_of p - 1 in
    let s = sound p h plan legal in
    let counts = counted_once p plan h legal last (last-within p plan) in
    let none = last-next p (tables_at p h) s in
    omega (
      arith,
      counts.within,
      none-finished p (tables_at p h) s last (last-within p plan) none
          (size_of p last) (omega arith),
    )

-- so the last table's header words are 0
last-headers :
    (p : Plan) (h : List Event) → IsPlan p → IsLegal p h → (n : ℕ) → n < 3
    → slice_index (words_of p h) (header_place p (generations_of p - 1) n) ≡ 0
last-headers p h plan legal zero header = last-next p (tables_at p h) (sound p h plan legal)
last-headers p h plan legal (suc zero) header = last-taken p h plan legal
last-headers p h plan legal (suc (suc zero)) header = last-counted p h plan legal
last-headers p h plan legal (suc (suc (suc n))) header = absurd (omega arith)

pub lawful_words : LawfulWords
lawful_words p plan h legal =
    let s = sound p h plan legal in
    record {
      length = length-words_of p h;
      keys = λ g i slot. key-lawful p (tables_at p h) s g i slot _ refl;
      values = λ g i slot.
          let w = value_words p h plan legal g i slot in
          record {
            state = (tables_at p h).value g i;
            decodes = ap value_state w.is
                ∙ value_state-word _ w.in_range;
          };
      empty_is_null = λ g i slot is. empty-null p (tables_at p h) s g i slot is;
      dead_is_null = λ g i slot is. dead-null p (tables_at p h) s g i slot is;
      last_headers = last-headers p h plan legal;
    }

-- ---- how words change

-- a number in place of a value that isn't primed and isn't that number is a call's change
put-changes_to : (a : ValueState) (n : ℕ) → IsUnprimed a → Live n ≢ a → IsWonChange a (Live n)
put-changes_to Null n unprimed differs = tt
put-changes_to Tombstone n unprimed differs = tt
put-changes_to (Live m) n unprimed differs = λ same. differs (ap Live same)
put-changes_to _ n unprimed differs = unprimed

-- so is all that is put in place of such a value
put-changes : (a b : ValueState) → IsUnprimed a → Puts a b → IsWonChange a b
put-changes a b unprimed (PutsNone n was e) = subst₂ IsWonChange (sym was) (sym e) tt
put-changes a b unprimed (PutsNumber n e differs) =
    subst (IsWonChange a) (sym e) (put-changes_to a n unprimed (λ same. differs (e ∙ same)))

-- an event changes a key only as its kind may
key-change :
    (p : Plan) (e : Event) (h : List Event) → IsLegal p (e ∷ h) → (g i : ℕ)
    → let x = (tables_at p h).key g i in (key_after e g i x ≡ x)
    ⊎ IsKeyChange e g i x (key_after e g i x)
key-change p (Claim s f j k) h legal g i =
    let x = (tables_at p h).key in
    at_slot (λ g i here. let y = cond here (Claimed k) (x g i) in
    (y ≡ x g i) ⊎ IsKeyChange (Claim s f j k) g i (x g i) y) f j g i
    (inr (refl, refl, legal.2.empty, refl)) (inl refl)
key-change p (Kill s f j) h legal g i =
    let x = (tables_at p h).key in
    at_slot (λ g i here. let y = cond here Dead (x g i) in
    (y ≡ x g i) ⊎ IsKeyChange (Kill s f j) g i (x g i) y) f j g i
    (inr (refl, refl, legal.2.empty, refl)) (inl refl)
key-change p _ h legal g i = inl refl

-- and a value
value-change :
    (p : Plan) (e : Event) (h : List Event) → IsLegal p (e ∷ h) → (g i : ℕ)
    → let x = (tables_at p h).value g i in (value_after e g i x ≡ x)
    ⊎ IsValueChange e g i x (value_after e g i x)
value-change p (Won s f j a b c r) h legal g i =
    let x = (tables_at p h).value in
    at_slot (λ g i here. let y = cond here b (x g i) in
    (y ≡ x g i) ⊎ IsValueChange (Won s f j a b c r) g i (x g i) y) f j g i
    (inr (refl, refl, legal.2.stands, refl, put-changes a b legal.2.unprimed (win-puts legal.2)))
    (inl refl)
value-change p (CopyIn s f j k n) h legal g i =
    let x = (tables_at p h).value in
    at_slot (λ g i here. let y = cond here (Live n) (x g i) in
    (y ≡ x g i) ⊎ IsValueChange (CopyIn s f j k n) g i (x g i) y) f j g i
    (inr (refl, refl, legal.2.null, refl)) (inl refl)
value-change p (Prime s f j) h legal g i =
    let x = (tables_at p h).value in
    at_slot (λ g i here. let y = cond here (primed (x g i)) (x g i) in
    (y ≡ x g i) ⊎ IsValueChange (Prime s f j) g i (x g i) y) f j g i
    (inr (refl, refl, legal.2.unprimed, refl)) (inl refl)
value-change p (Finish s f j) h legal g i =
    let x = (tables_at p h).value in
    at_slot
    (λ g i here. let y = cond here (finished (x g i)) (x g i) in
    (y ≡ x g i) ⊎ IsValueChange (Finish s f j) g i (x g i) y) f j g i
    (inr (refl, refl, (legal.2.number, legal.2.primed, ap finished legal.2.primed))) (inl refl)
value-change p _ h legal g i = inl refl

pub lawful_changes : LawfulChanges
lawful_changes p plan e h legal =
    let t = tables_at p h in
    record {
      one = one_word p e (words_of p h);
      keys = λ g i slot.
          subst (λ y. (y ≡ t.key g i) ⊎ IsKeyChange e g i (t.key g i) y)
          (sym (key-frame p e h plan legal.1 g i slot))
          (key-change p e h legal g i);
      values = λ g i slot.
          subst (λ y. (y ≡ t.value g i) ⊎ IsValueChange e g i (t.value g i) y)
          (sym (value-frame p e h plan legal g i slot))
          (value-change p e h legal g i);
    }
