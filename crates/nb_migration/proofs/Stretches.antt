-- Moves of many keys: one slot, or one entry, after another.
use Rattle.std.proofs.Common.{◌≡◌, ◌∙◌, ℕ, ◌+◌, ◌<◌, ◌≤◌, true, false, List, [], ◌∷◌, ◌++◌, length, length-set, get_or, set, take, Result, Ok, Err, ap, inr, refl, subst, subst₂, sym, arith}
use Rattle.std.proofs.lemmas.List.{take_more, take_more_set}
use Rattle.std.proofs.lemmas.Option.{slice_get-get_or, slice_get_read}
use Rattle.std.specs.Result.{is_err}
use Rattle.nb_map.specs.Handles.{HandleOf, KeepsRest}
use Rattle.nb_map.specs.Maps.{MapOf, SeatOf}
use Rattle.nb_map.specs.Slots.{HasMadeLooks}
use Rattle.nb_migration.specs.Copying.{HasCopiedNumber}
use Rattle.nb_migration.specs.Pieces.{HasCopiedEntries, HasFrozenAt, HasFrozenSlots, HasMarkedAll, HasMarkedEntries, HasMarkedEntry, Listed, Looked, Marked, Next, Passed}
use Rattle.nb_migration.specs.declared.copying.Copied.{Copied}
use Rattle.nb_migration.specs.declared.pieces.AtSlot.TheVariants as at_slot
use Rattle.nb_migration.specs.declared.pieces.FrozenEntry.{FrozenEntry}
use Rattle.nb_migration.specs.declared.writes.CoreFault.{CoreFault}

-- a handle that keeps its map and its reserve by one call after another
pub keeps-more :
    {before then after : HandleOf} → KeepsRest before then → KeepsRest then after
    → KeepsRest before after
keeps-more a b = record { map = b.map ∙ a.map; reserve = b.reserve ∙ a.reserve }

-- ---- freezing

-- so many slots are done, and so many entries are listed
pub record IsFreezing (first tries : ℕ) (before : HandleOf) (old : List FrozenEntry)
    (passed listed : ℕ) (now : HandleOf) (list : List FrozenEntry) : Type 0 where
  pub rest : KeepsRest before now
  pub few : listed ≤ passed
  pub room : length list ≡ length old
  pub frozen : HasFrozenSlots before.map first tries before.seat passed (take listed list) now.seat

module _ {first tries : ℕ} {before : HandleOf} {old : List FrozenEntry} {passed listed : ℕ}
    {now after : HandleOf} {list : List FrozenEntry}
    (sofar : IsFreezing first tries before old passed listed now list) (rest : KeepsRest now after)
  where
    pub one-passed :
        HasFrozenAt now.map (first + passed) now.seat after.seat tries at_slot.Passed
        → IsFreezing first tries before old (passed + 1) listed after list
    one-passed one = record {
      rest = keeps-more sofar.rest rest;
      few = omega (arith, sofar.few);
      room = sofar.room;
      frozen = Passed sofar.frozen
          (subst (λ map. HasFrozenAt map (first + passed) now.seat after.seat tries at_slot.Passed)
          sofar.rest.map one);
    }

    pub one-listed :
        (key number slot : ℕ) → passed < length old → slot ≡ first + passed
        → HasFrozenAt now.map (first + passed) now.seat after.seat tries (at_slot.Listed key number)
        → IsFreezing first tries before old (passed + 1) (listed + 1) after
        (set list listed (record { key = key; number = number; slot = slot }))
    one-listed key number slot within same one =
        let entry : FrozenEntry = record { key = key; number = number; slot = slot } in
        record {
          rest = keeps-more sofar.rest rest;
          few = omega (arith, sofar.few);
          room = length-set list listed entry ∙ sofar.room;
          frozen =
              subst (λ entries. HasFrozenSlots before.map first tries before.seat (passed + 1) entries
              after.seat)
              (ap (λ n. take listed list ++ (record { key = key; number = number; slot = n } ∷ []))
              (sym same)
              ∙ sym (take_more_set list listed entry (omega (arith, sofar.few, sofar.room, within))))
              (Listed sofar.frozen key number
              (subst (λ map. HasFrozenAt map (first + passed) now.seat after.seat tries
              (at_slot.Listed key number)) sofar.rest.map one));
        }

-- ---- copies

-- one more look
pub one-looked :
    {map m : MapOf} {before then after : SeatOf} {entries : List FrozenEntry}
    {answers : List Copied} (looks i : ℕ) → m ≡ map
    → HasCopiedEntries map before entries answers (looks + i) then → HasMadeLooks m then after 1
    → HasCopiedEntries map before entries answers (looks + (i + 1)) after
one-looked {map} {before = before} {then} {after} {entries} {answers} looks i same sofar one =
    let more : looks + i + 1 ≡ looks + (i + 1) = omega arith in
    subst (λ n. HasCopiedEntries map before entries answers n after) more
    (Looked sofar (subst (λ m. HasMadeLooks m then after 1) same one))

-- one more entry after as many answers as entries
pub one-copied :
    {map m : MapOf} {before : SeatOf} {looks : ℕ} {then after : SeatOf} (entries : List FrozenEntry)
    (answers : List Copied) (i : ℕ) (entry : FrozenEntry) (answer : Copied) → m ≡ map
    → HasCopiedEntries map before (take i entries) (take i answers) looks then
    → i < length entries → length answers ≡ length entries → entry ≡ get_or entries i entry
    → HasCopiedNumber m entry.key entry.number then after answer
    → HasCopiedEntries map before (take (i + 1) entries) (take (i + 1) (set answers i answer)) looks
    after
one-copied {map} {before = before} {looks} {then} {after} entries answers i entry answer same sofar
    within room is one =
    subst₂ (λ es told. HasCopiedEntries map before es told looks after)
    (ap (λ e. take i entries ++ (e ∷ [])) is ∙ sym (take_more entries i entry within))
    (sym (take_more_set answers i answer (omega (arith, within, room))))
    (Next sofar entry answer
    (subst (λ m. HasCopiedNumber m entry.key entry.number then after answer) same one))

-- ---- marks

-- what isn't refused is done
done-ok : (result : Result (Unit {0}) CoreFault) → is_err result ≡ false → result ≡ Ok tt
done-ok (Ok done) is = refl
done-ok (Err fault) is = absurd (let both : true ≡ false = is in cc)

-- and else there is a fault
fault-of :
    (result : Result (Unit {0}) CoreFault) → is_err result ≡ true
    → (fault : CoreFault) × (result ≡ Err fault)
fault-of (Ok done) is = absurd (let both : false ≡ true = is in cc)
fault-of (Err fault) is = (fault, refl)

-- the mark at the map itself, with this result
marked-as :
    (map m : MapOf) (tries : ℕ) (then after : SeatOf) (entry : FrozenEntry) (answer : Copied)
    (result told : Result (Unit {0}) CoreFault) → m ≡ map → result ≡ told
    → HasMarkedEntry answer m entry then after tries result
    → HasMarkedEntry answer map entry then after tries told
marked-as map m tries then after entry answer result told same said one =
    subst₂ (λ m told. HasMarkedEntry answer m entry then after tries told) same said one

module _ {map m : MapOf} {tries : ℕ} {before then after : SeatOf} (entries : List FrozenEntry)
    (answers : List Copied) (i : ℕ) (entry : FrozenEntry) (default : Copied)
    (result : Result (Unit {0}) CoreFault)
    (sofar : HasMarkedEntries map tries before (take i entries) (take i answers) then)
    (within : i < length entries) (room : length answers ≡ length entries)
    (is : entry ≡ get_or entries i entry) (same : m ≡ map)
    (one : HasMarkedEntry (get_or answers i default) m entry then after tries result) where
  -- one more entry is done
  pub one-marked :
      is_err result ≡ false
      → HasMarkedEntries map tries before (take (i + 1) entries) (take (i + 1) answers) after
  one-marked done =
      subst₂ (λ es told. HasMarkedEntries map tries before es told after)
      (ap (λ e. take i entries ++ (e ∷ [])) is ∙ sym (take_more entries i entry within))
      (sym (take_more answers i default (omega (arith, within, room))))
      (Marked sofar entry (get_or answers i default)
      (marked-as map m tries then after entry (get_or answers i default) result (Ok tt) same
      (done-ok result done) one))

  -- or its mark is refused
  pub stopped-there :
      is_err result ≡ true → HasMarkedAll map entries answers tries before after i
  stopped-there refused =
      let fault = fault-of result refused in
      record {
        then = then;
        marked = sofar;
        ended = inr (
          entry,
          get_or answers i default,
          fault.0,
          slice_get_read entries (length entries) i entry refl within is,
          slice_get-get_or answers i default (omega (arith, within, room)),
          marked-as map m tries then after entry (get_or answers i default) result (Err fault.0)
              same fault.1 one,
        );
      }
