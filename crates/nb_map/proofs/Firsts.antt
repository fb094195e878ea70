-- A put at a key that never had a number, at the key's slot.
use Rattle.std.proofs.Common.{◌≡◌, ◌≢◌, ◌∙◌, ℕ, ◌+◌, ◌<◌, List, [], ◌∷◌, ◌++◌, Option, Some, None, ap, sym, subst, refl, arith}
use Rattle.nb_core.specs.History.{IsLegal, MayWin}
use Rattle.nb_core.specs.Log.{Entry, log_of, reply_at}
use Rattle.nb_core.specs.Plans.{Plan, generations_of}
use Rattle.nb_core.specs.States.{shown_by_value}
use Rattle.nb_core.specs.Tables.{IsSlot, tables_at}
use Rattle.nb_core.specs.declared.calls.Call.{Call}
use Rattle.nb_core.specs.declared.events.Event.{Event}
use Rattle.nb_core.specs.declared.events.Event.TheVariants.{Won}
use Rattle.nb_core.specs.declared.slot_paths.Slot.{Slot}
use Rattle.nb_core.specs.declared.states.KeyState.TheVariants.{Claimed}
use Rattle.nb_core.specs.declared.states.ValueState.{ValueState}
use Rattle.nb_core.specs.declared.states.ValueState.TheVariants.{Live, Null}
use Rattle.nb_table.specs.Chains.{ChainOf, Extended, IsOwn, SeenBy, seen_by}
use Rattle.nb_table.specs.Events.{read}
use Rattle.nb_map.proofs.FirstNumber.{content-had, null-never}
use Rattle.nb_map.proofs.Made.{made-quiet, made-read}
use Rattle.nb_map.proofs.Rungs.{slot-stays}
use Rattle.nb_map.proofs.Searched.{made-then}
use Rattle.nb_map.proofs.Tried.{made-won}
use Rattle.nb_map.specs.Calling.{HasMade}
use Rattle.nb_map.specs.FirstPut.{HasHad, first_entry}
use Rattle.nb_map.specs.NamedCalls.{put_if_absent_of}
use Rattle.nb_map.specs.inside.Climbing.{IsAtSlot}
use Rattle.nb_map.specs.inside.Firsts.{IsFirst, first_found, first_made}

module _ (chain : ChainOf) (key number : ℕ) (slot : Slot) (single : generations_of chain.shape ≡ 1)
  where
    first-table : {seat : SeenBy} → IsAtSlot chain (put_if_absent_of key number) seat slot → slot.g ≡ 0
    first-table at = let within = at.slot.slot.0 in omega (arith, within, single)

    -- a value that isn't null says that the map had a number at the key
    pub had-at :
        {seat : SeenBy} → IsAtSlot chain (put_if_absent_of key number) seat slot
        → (seen_by chain.shape seat).value slot.g slot.i ≢ Null → HasHad (log_of seat.seen) key
    had-at {seat} at some =
        let table = first-table at in
        content-had chain.shape at.own.plan single seat.seen at.own.legal slot.i key
        (subst (λ g. IsSlot chain.shape g slot.i) table at.slot.slot)
        (subst (λ g. (seen_by chain.shape seat).key g slot.i ≡ Claimed key) table at.claimed)
        (subst (λ g. (seen_by chain.shape seat).value g slot.i ≢ Null) table some)

    module _ {start loaded : SeenBy} (at : IsAtSlot chain (put_if_absent_of key number) start slot)
        (load : Extended chain.shape start loaded [] 1) where
      pub made-load : HasMade chain.shape (put_if_absent_of key number) start loaded [] 1
      made-load = made-quiet chain.shape (put_if_absent_of key number) load

      pub at-loaded : IsAtSlot chain (put_if_absent_of key number) loaded slot
      at-loaded = slot-stays chain at made-load

      -- ---- the exchange is won

      module _ {after : SeenBy}
          (won : Extended chain.shape loaded after (Won loaded.number slot.g slot.i Null (Live number)
          (put_if_absent_of key number)
          (reply_at (put_if_absent_of key number) None) ∷ []) 1) where
        pub made-first : HasMade chain.shape (put_if_absent_of key number) start after ((put_if_absent_of key number, reply_at (put_if_absent_of key number) None) ∷ []) 2
        made-first = made-then at.own made-load (made-won chain None refl won)

        abbrev history : List Event
        history = won.others ++ loaded.seen

        legal : IsLegal chain.shape (Won loaded.number slot.g slot.i Null (Live number) (put_if_absent_of key number) (reply_at (put_if_absent_of key number) None)
            ∷ history)
        legal = subst (IsLegal chain.shape) won.seen won.legal

        pub is-first :
            (earlier : List Entry) × (log_of after.seen ≡ first_entry start.number key number ∷ earlier)
            × (HasHad earlier key → ⊥)
        is-first =
            let may : MayWin chain.shape (tables_at chain.shape history) slot.g slot.i Null (Live number) (put_if_absent_of key number) = legal.2 in
            let table = first-table at in (
              log_of history,
              ap log_of won.seen
                  ∙ ap (λ n. first_entry n key number ∷ log_of history) load.number,
              null-never chain.shape at.own.plan single history legal.0 slot.i key
                  (subst (λ g. IsSlot chain.shape g slot.i) table at.slot.slot)
                  (subst (λ g. (tables_at chain.shape history).key g slot.i ≡ Claimed key) table
                  (may.claimed ∙ ap Claimed (sym may.exchange.0)))
                  (subst (λ g. (tables_at chain.shape history).value g slot.i ≡ Null) table may.stands),
            )

      -- ---- or lost: what was found may be its read

      module _ (found : ValueState) {after : SeenBy}
          (lost : Extended chain.shape loaded after
          (read loaded.number (put_if_absent_of key number) (shown_by_value found)) 1) where
        pub made-lost :
            HasMade chain.shape (put_if_absent_of key number) start after
            (first_made key number (first_found (shown_by_value found))) 2
        made-lost = one (shown_by_value found) lost
          where
            one :
                (shown : Option (Option ℕ))
                → Extended chain.shape loaded after
                (read loaded.number (put_if_absent_of key number) shown) 1
                → HasMade chain.shape (put_if_absent_of key number) start after
                (first_made key number (first_found shown)) 2
            one (Some (Some n)) step =
                made-then at.own made-load
                (made-read chain.shape (put_if_absent_of key number) (Some (Some n)) step)
            one (Some None) step =
                made-then at.own made-load
                (made-read chain.shape (put_if_absent_of key number) (Some None) step)
            one None step =
                made-then at.own made-load
                (made-read chain.shape (put_if_absent_of key number) None step)

        pub lost-first :
            (seen_by chain.shape after).value slot.g slot.i ≡ found → found ≢ Null
            → IsFirst chain.shape key number start after (first_found (shown_by_value found))
        lost-first held some = one (shown_by_value found)
          where
            had : HasHad (log_of after.seen) key
            had = had-at (slot-stays chain at made-lost) (λ null. some (sym held ∙ null))

            one : (shown : Option (Option ℕ))
                → IsFirst chain.shape key number start after (first_found shown)
            one (Some (Some n)) = had
            one (Some None) = had
            one None = had
