-- Calls at a slot that is known to be its key's, in a map of one table.
use Rattle.std.proofs.Common.{◌≡◌, ◌∙◌, ℕ, ◌+◌, ◌-◌, ◌<◌, ◌≤◌, List, [], ◌∷◌, Option, Some, None, Result, Ok, Err, min, refl, sym, arith}
use Rattle.nb_core.specs.History.{key_of_call}
use Rattle.nb_core.specs.Meaning.{net_of_call}
use Rattle.nb_core.specs.Plans.{Plan, generations_of, size_of, value_place}
use Rattle.nb_core.specs.Tables.{IsUnprimed}
use Rattle.nb_core.specs.declared.calls.Call.{Call}
use Rattle.nb_core.specs.declared.calls.Call.TheVariants.{Get}
use Rattle.nb_core.specs.declared.calls.Reply.{Reply}
use Rattle.nb_core.specs.declared.states.KeyState.{KeyState}
use Rattle.nb_core.specs.declared.states.KeyState.TheVariants.{Claimed, Dead, Empty}
use Rattle.nb_table.specs.Chains.{ChainOf, Grown, IsOwn, SeenBy, seen_by}
use Rattle.nb_map.specs.Calling.{HasMade}
use Rattle.nb_map.specs.Logs.{as_replied}
use Rattle.nb_map.specs.Maps.{IsMine, MapOf, SeatOf, accounted}
use Rattle.nb_map.specs.Progress.{IsShortAtHome, passed_since}
use Rattle.nb_map.specs.Slots.{HasGotAt, HasMadeLooks, HasWrittenAt, IsKeyOfSlot, KeyHasSlot}
use Rattle.nb_map.specs.Steps.{get_steps, put_steps}
use Rattle.nb_map.specs.declared.faults.PutFault.{PutFault}
use Rattle.nb_map.specs.inside.Climbing.{IsAtSlot, IsSlotOf}
use Rattle.nb_map.specs.inside.There.{HasCalledThere, key_in}
use Rattle.nb_map.proofs.AtHome.{whole-bound}
use Rattle.nb_map.proofs.Bounds.{climb-bound}
use Rattle.nb_map.proofs.Counted.{counted-mine, uncounted-mine}
use Rattle.nb_map.proofs.FirstNumber.{is-unprimed}
use Rattle.nb_map.proofs.Logged.{logged, worked-uncounted}
use Rattle.nb_map.proofs.Made.{made-stays, made-within}
use Rattle.nb_map.proofs.Rested.{logged-rested, made-rested, mine-rested}
use Rattle.nb_map.proofs.Rungs.{at-slot}
use Rattle.nb_map.proofs.Straight.{at-up-to}

-- ---- on the tables

-- a call comes to its key's slot
pub at-there :
    (chain : ChainOf) (call : Call) {seat : SeenBy} (slot value : ℕ) → IsOwn chain seat
    → value ≡ value_place chain.shape 0 slot
    → IsSlotOf chain.shape (seen_by chain.shape seat) 0 slot (key_of_call call)
    → IsAtSlot chain call seat (record { g = 0; i = slot; value = value })
at-there chain call slot value own place is =
    at-slot chain slot value place (at-up-to chain 0 own (omega arith) call) is

-- where there is one table, its values aren't primed
pub unprimed-there :
    (chain : ChainOf) (seat : SeenBy) (slot : ℕ) → generations_of chain.shape ≡ 1
    → IsOwn chain seat → slot < size_of chain.shape 0
    → IsUnprimed ((seen_by chain.shape seat).value 0 slot)
unprimed-there chain seat slot single own within =
    is-unprimed chain.shape own.plan single seat.seen own.legal slot (omega (arith, single), within)

-- ---- on the map

-- a slot stays its key's
pub slot-kept :
    {map : MapOf} {call : Call} {before after : SeatOf} {made : List (Call × Reply)} {most : ℕ}
    {slot key : ℕ} → IsMine map before
    → HasMade map.chain.shape call before.chain after.chain made most
    → KeyHasSlot map before slot key → KeyHasSlot map after slot key
slot-kept {map} {slot = slot} {key} mine made has =
    let tables = mine.chain.plan.tables.0 in
    record {
      in_table = has.in_table;
      is = (made-stays map.chain mine.chain made).claimed 0 slot key
          (omega (arith, tables), has.in_table) has.is;
    }

-- steps without an event
pub looks :
    {map : MapOf} {before after : SeatOf} {count : ℕ} → IsMine map before
    → Grown map.chain.shape before.chain after.chain [] count → after.count ≡ before.count
    → HasMadeLooks map before after count
looks mine grown same = record {
  logged = logged-rested mine grown;
  grows = grown;
  count = same;
  own = mine-rested mine grown same;
}

-- what a load of a slot's key has found
pub key-found :
    (map : MapOf) (seat : SeatOf) (slot : ℕ) (state : KeyState) → slot < size_of map.chain.shape 0
    → (seen_by map.chain.shape seat.chain).key 0 slot ≡ state
    → IsKeyOfSlot map seat slot (key_in state)
key-found map seat slot Empty within is =
    λ key has. (let both : Empty ≡ Claimed key = sym is ∙ has.is in cc)
key-found map seat slot Dead within is =
    λ key has. (let both : Dead ≡ Claimed key = sym is ∙ has.is in cc)
key-found map seat slot (Claimed key) within is = record { in_table = within; is = is }

-- a get of one load
pub got-there :
    {map : MapOf} {before after : SeatOf} {slot key : ℕ} {found : Option ℕ} → IsMine map before
    → KeyHasSlot map before slot key
    → HasMade map.chain.shape (Get key) before.chain after.chain (as_replied (Get key) found) 1
    → after.count ≡ before.count → HasGotAt map slot key before after found
got-there {map} mine has made same =
    let p = map.chain.shape in
    let tables = mine.chain.plan.tables.0 in
    record {
      got = record {
        replied = logged mine made;
        worked = worked-uncounted
            (made-within _ _
            (omega (arith, climb-bound p mine.chain.plan 0 (omega (arith, tables)))) made)
            same;
        short = record {
          two_steps = λ home. omega (arith, made.grown.steps, made.few);
          five_steps = λ home. omega (arith, made.grown.steps, made.few);
        };
        own = uncounted-mine mine made same refl;
      };
      one_step = omega (arith, made.grown.steps, made.few);
      still = slot-kept mine made has;
    }

-- the bound of a write's steps
few-steps :
    (map : MapOf) (call : Call) (before after : SeatOf) (tries lost : ℕ) → IsMine map before
    → lost ≤ tries → lost ≤ passed_since call before.chain after.chain
    → 2 + lost ≤ put_steps map.chain.shape
    (min tries (passed_since call before.chain after.chain + 1))
few-steps map call before after tries lost mine below passed =
    let tables = mine.chain.plan.tables.0 in
    omega (
      arith,
      whole-bound map.chain.shape mine.chain.plan 0 lost 0
          (min tries (passed_since call before.chain after.chain + 1))
          (omega (arith, tables)) (omega (arith, below, passed)),
    )

-- who is alone at the key makes two steps
short-there :
    {p : Plan} {call : Call} {before after : SeenBy} {tries : ℕ} {told : Result Reply PutFault}
    → HasCalledThere p call before after tries told → IsShortAtHome p call before after
short-there told = record {
  three_steps = λ alone known.
      omega (arith, told.made.grown.steps, told.made.few, told.spent.lost, alone.alone);
  five_steps = λ alone last.
      omega (arith, told.made.grown.steps, told.made.few, told.spent.lost, alone.alone);
}

module _ {map : MapOf} {call : Call} {before after : SeatOf} {tries slot key : ℕ}
    (mine : IsMine map before) (has : KeyHasSlot map before slot key) where
  -- it is made, and counted
  pub made-there :
      (reply : Reply)
      → HasCalledThere map.chain.shape call before.chain after.chain tries (Ok reply)
      → after.count ≡ accounted (net_of_call call reply) before.count
      → HasWrittenAt map slot key call before after tries (Ok reply)
  made-there reply told counted = record {
    written = record {
      answered = logged mine told.made;
      non_blocking = record {
        steps = (
          _,
          made-within _ _
              (few-steps map call before after tries (tries - told.left) mine (omega arith)
              (omega (arith, told.spent.lost)))
              told.made,
        );
        net = net_of_call call reply;
        count = counted;
      };
      short = short-there told;
      own = counted-mine reply mine told.made counted;
    };
    few_steps = omega (arith, told.made.grown.steps, told.made.few);
    still = slot-kept mine told.made has;
  }

  -- or it is refused
  pub refused-there :
      (fault : PutFault)
      → HasCalledThere map.chain.shape call before.chain after.chain tries (Err fault)
      → after.count ≡ before.count
      → HasWrittenAt map slot key call before after tries (Err fault)
  refused-there fault told same = record {
    written = record {
      answered = record { unmade = logged mine told.made; just = told.refused; looked = told.looked };
      non_blocking = worked-uncounted
          (made-within _ _
          (few-steps map call before after tries (tries - told.left) mine (omega arith)
          (omega (arith, told.spent.lost)))
          told.made) same;
      short = short-there told;
      own = uncounted-mine mine told.made same refl;
    };
    few_steps = omega (arith, told.made.grown.steps, told.made.few);
    still = slot-kept mine told.made has;
  }
