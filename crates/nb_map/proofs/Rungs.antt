-- Where a call has come to on its way up the tables.
use Rattle.std.proofs.Common.{◌≡◌, ℕ, suc, ◌+◌, ◌<◌, List, true, false, add-one, inl, inr, sym, subst, arith}
use Rattle.std.proofs.lemmas.Nat.{pow_pos}
use Rattle.nb_core.specs.History.{key_of_call}
use Rattle.nb_core.specs.Laws.{Lasts}
use Rattle.nb_core.specs.Plans.{Plan, generations_of, size_of, value_place}
use Rattle.nb_core.specs.Tables.{AreOthers, Tables}
use Rattle.nb_core.specs.declared.calls.Call.{Call}
use Rattle.nb_core.specs.declared.calls.Call.TheVariants as call
use Rattle.nb_core.specs.declared.calls.Reply.{Reply}
use Rattle.nb_core.specs.declared.slot_paths.Slot.{Slot}
use Rattle.nb_table.specs.Chains.{ChainOf, IsOwn, SeenBy, seen_by}
use Rattle.nb_table.specs.Conditions.{IsReached}
use Rattle.nb_map.specs.Calling.{HasMade}
use Rattle.nb_map.specs.declared.steps.rung.Below.{Below}
use Rattle.nb_map.specs.declared.steps.rung.Below.TheVariants.{Complete, HasKey, Passed}
use Rattle.nb_map.specs.declared.steps.rung.Rung.{Rung}
use Rattle.nb_map.specs.inside.Climbing.{GoesAbove, HasBelow, IsAbove, IsAt, IsAtSlot, IsSlotOf, rung_for_read}
use Rattle.nb_map.proofs.Made.{made-own, made-stays, slot-below-lasts}
use Rattle.nb_map.proofs.Searched.{others-none, reached-above, reached-lasts, table-within}

-- what is known of the table below is so still
pub below-lasts :
    (p : Plan) (t u : Tables) → Lasts p t u → (g k : ℕ) → g < generations_of p → (below : Below)
    → HasBelow p t g k below → HasBelow p u g k below
below-lasts p t u lasting g k table Complete ready = lasting.ready g table ready
below-lasts p t u lasting g k table HasKey slot = slot-below-lasts p t u lasting g k table slot
below-lasts p t u lasting g k table Passed known = tt

module _ (chain : ChainOf) where
  abbrev p : Plan
  p = chain.shape

  -- where a call has come to, it is after more steps
  pub at-stays :
      {call other : Call} {rung : Rung} {before after : SeenBy} {made : List (Call × Reply)} {most : ℕ}
      → IsAt chain call before rung → HasMade p other before after made most
      → IsAt chain call after rung
  at-stays {call} {rung = rung} at steps =
      let k = key_of_call call in
      let lasting = made-stays chain at.own steps in
      record {
        own = made-own chain at.own steps;
        table = at.table;
        reached = reached-lasts p _ _ lasting rung.g k at.table at.reached;
        within = at.within;
        start = at.start;
        others = lasting.others rung.g k rung.from at.table at.others;
        known = below-lasts p _ _ lasting rung.g k at.table rung.below at.known;
      }

  pub slot-stays :
      {call other : Call} {slot : Slot} {before after : SeenBy} {made : List (Call × Reply)} {most : ℕ}
      → IsAtSlot chain call before slot → HasMade p other before after made most
      → IsAtSlot chain call after slot
  slot-stays {call} {slot = slot} at steps =
      let k = key_of_call call in
      let lasting = made-stays chain at.own steps in
      record {
        own = made-own chain at.own steps;
        slot = at.slot;
        claimed = lasting.claimed slot.g slot.i k at.slot.slot at.claimed;
        reached = reached-lasts p _ _ lasting slot.g k at.slot.slot.0 at.reached;
      }

  -- from a table a call comes to its key's slot there
  pub at-slot :
      {call : Call} {rung : Rung} {seat : SeenBy} (i value : ℕ) → value ≡ value_place p rung.g i
      → IsAt chain call seat rung → IsSlotOf p (seen_by p seat) rung.g i (key_of_call call)
      → IsAtSlot chain call seat (record { g = rung.g; i = i; value = value })
  at-slot i value there at is = record {
    own = at.own;
    slot = record { slot = (at.table, is.0); value = there };
    claimed = is.1;
    reached = at.reached;
  }

  -- or to the next table, where it may go on there
  pub at-above :
      {call : Call} {rung : Rung} {seat : SeenBy} (below : Below) → IsAt chain call seat rung
      → GoesAbove p call seat rung.g below
      → IsAt chain call seat (record { g = rung.g + 1; from = 0; below = below })
  at-above {call} {rung} {seat} below at on =
      let k = key_of_call call in
      let next : IsAt chain call seat (record { g = suc rung.g; from = 0; below = below }) = record {
        own = at.own;
        table = table-within chain seat at.own (suc rung.g) on.0.1;
        reached = reached-above p (seen_by p seat) rung.g k at.reached on.0;
        within = omega arith;
        start = inl (pow_pos _);
        others = others-none p (seen_by p seat) (suc rung.g) k;
        known = on.1;
      } in
      subst (λ g. IsAt chain call seat (record { g = g; from = 0; below = below }))
      (sym (add-one rung.g)) next

  -- a call that has come to a table may go along its key's path from the beginning, without more
  -- knowledge of the table below
  pub at-path :
      (call : Call) (seat : SeenBy) (g : ℕ) → IsOwn chain seat
      → IsReached p (seen_by p seat) g (key_of_call call)
      → IsAt chain call seat (record { g = g; from = 0; below = Passed })
  at-path call seat g own reached = record {
    own = own;
    table = table-within chain seat own g reached.installed;
    reached = reached;
    within = omega arith;
    start = inl (pow_pos _);
    others = others-none p (seen_by p seat) g (key_of_call call);
    known = tt;
  }

  -- a read hasn't come to its path's end
  pub read-near :
      {key g d : ℕ} {seat : SeenBy} → IsAt chain (call.Get key) seat (rung_for_read g d)
      → d < size_of p g
  read-near at = elim at.start [
    | inl near ↦ near
    | inr fills ↦ absurd (let e : true ≡ false = fills in cc)
  ]

  -- and it may go on there behind more slots of other keys
  pub read-further :
      {key g from d most : ℕ} {other : Call} {before after : SeenBy} {made : List (Call × Reply)}
      → IsAt chain (call.Get key) before (rung_for_read g from)
      → HasMade p other before after made most
      → d < size_of p g → AreOthers p (seen_by p after) g key d
      → IsAt chain (call.Get key) after (rung_for_read g d)
  read-further at steps near others =
      let here = at-stays at steps in
      record {
        own = here.own;
        table = here.table;
        reached = here.reached;
        within = omega (arith, near);
        start = inl near;
        others = others;
        known = tt;
      }

  -- from its key's slot to the next table, if it may go on there
  pub slot-above :
      {call : Call} {slot : Slot} {seat : SeenBy} → IsAtSlot chain call seat slot
      → IsAbove p (seen_by p seat) slot.g (key_of_call call)
      → IsAt chain call seat (record { g = slot.g + 1; from = 0; below = Passed })
  slot-above {call} {slot} {seat} at above =
      at-above Passed (at-path call seat slot.g at.own at.reached) (above, tt)
