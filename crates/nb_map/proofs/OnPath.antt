-- The slots that a path gives.
use Rattle.std.proofs.Common.{◌≡◌, ℕ, ◌<◌, refl, subst, subst₂, sym}
use Rattle.nb_core.specs.History.{key_of_call}
use Rattle.nb_core.specs.Paths.{IsOnPathAt, IsPathIn, IsPlaced}
use Rattle.nb_core.specs.Plans.{Plan, size_of}
use Rattle.nb_core.specs.Tables.{IsOnPath, Tables, path_slot}
use Rattle.nb_core.specs.declared.calls.Call.{Call}
use Rattle.nb_core.specs.declared.slot_paths.Path.{Path}
use Rattle.nb_core.specs.declared.slot_paths.Slot.{Slot}
use Rattle.nb_core.specs.declared.states.KeyState.{KeyState}
use Rattle.nb_table.specs.Chains.{ChainOf, Extended, SeenBy, seen_by}
use Rattle.nb_table.specs.Conditions.{IsReached}
use Rattle.nb_table.specs.Events.{read, shown_by_key}
use Rattle.nb_map.specs.Progress.{IsHomeSlot}
use Rattle.nb_map.specs.declared.steps.rung.Rung.{Rung}
use Rattle.nb_map.specs.inside.Climbing.{IsAt, IsAtSlot}

-- a slot of the path of this key in this plan
pub slot-of_path :
    {p q : Plan} {k j g d : ℕ} {path : Path} {at : Slot} → q ≡ p → j ≡ k → IsPathIn q g j path
    → ((p : Plan) (g k : ℕ) → IsPathIn p g k path → IsOnPathAt p g k d at)
    → IsOnPathAt p g k d at
slot-of_path {p} {k = k} {g = g} {path = path} shape key is slot =
    slot p g k (subst₂ (λ q j. IsPathIn q g j path) shape key is)

-- and how many it has
pub slots-of_path :
    {p q : Plan} {k j g n : ℕ} {path : Path} → q ≡ p → j ≡ k → IsPathIn q g j path
    → ((p : Plan) (g k : ℕ) → IsPathIn p g k path → n ≡ size_of p g) → n ≡ size_of p g
slots-of_path {p} {k = k} {g = g} {path = path} shape key is slots =
    slots p g k (subst₂ (λ q j. IsPathIn q g j path) shape key is)

-- a slot of a path is where the path has it
pub slot-is :
    {p : Plan} {g k d : ℕ} {at : Slot} → IsOnPathAt p g k d at → path_slot p at.g k d ≡ at.i
slot-is {p} {k = k} {d = d} place = subst (λ (at : Slot). path_slot p at.g k d ≡ at.i)
    (sym place.is) refl

-- what a load of its key word shows
pub load-on_path :
    {p : Plan} {g d : ℕ} {at : Slot} (call : Call) {before after : SeenBy} (s : KeyState)
    → IsOnPathAt p g (key_of_call call) d at
    → Extended p before after (read before.number call
    (shown_by_key p at.g at.i s (key_of_call call))) 1
    → Extended p before after (read before.number call
    (shown_by_key p g (path_slot p g (key_of_call call) d) s (key_of_call call))) 1
load-on_path {p} call {before} {after} s place =
    subst (λ (at : Slot). Extended p before after (read before.number call
    (shown_by_key p at.g at.i s (key_of_call call))) 1) place.is

-- and what it has
pub found-on_path :
    {p : Plan} {g k d : ℕ} {at : Slot} (t : Tables) (s : KeyState) → IsOnPathAt p g k d at
    → t.key at.g at.i ≡ s → t.key g (path_slot p g k d) ≡ s
found-on_path t s place = subst (λ (at : Slot). t.key at.g at.i ≡ s) place.is

-- a call comes from a table to its key's home slot there
pub at-home :
    (chain : ChainOf) {call : Call} {rung : Rung} {seat : SeenBy} {home : Slot}
    → IsOnPathAt chain.shape rung.g (key_of_call call) 0 home → IsAt chain call seat rung
    → IsHomeSlot chain.shape (seen_by chain.shape seat) home.g (key_of_call call)
    → IsAtSlot chain call seat home
at-home chain {call} {seat = seat} place at claimed =
    let p = chain.shape in
    let t = seen_by p seat in
    subst (IsAtSlot chain call seat) (sym place.is) (record {
      own = at.own;
      slot = subst (IsPlaced p) place.is place.placed;
      claimed = subst (λ (home : Slot). IsHomeSlot p t home.g (key_of_call call)) place.is claimed;
      reached = at.reached;
    })

-- a call that has come to a slot of its key's path may load its key word,
module _ (chain : ChainOf) {call : Call} {rung : Rung} {seat : SeenBy} {slot : Slot}
    (at : IsAt chain call seat rung)
    (place : IsOnPathAt chain.shape rung.g (key_of_call call) rung.from slot) where
  pub slot-reached : IsReached chain.shape (seen_by chain.shape seat) slot.g (key_of_call call)
  slot-reached =
      subst (λ (slot : Slot). IsReached chain.shape (seen_by chain.shape seat) slot.g
      (key_of_call call)) (sym place.is) at.reached

  pub slot-on_path :
      rung.from < size_of chain.shape rung.g
      → IsOnPath chain.shape (seen_by chain.shape seat) slot.g slot.i (key_of_call call)
  slot-on_path near =
      subst (λ (slot : Slot). IsOnPath chain.shape (seen_by chain.shape seat) slot.g slot.i
      (key_of_call call)) (sym place.is) (record {
        distance = rung.from;
        in_table = near;
        at = refl;
        passed = at.others;
      })

-- a path is one of its own table
pub path-own : {p : Plan} {g k : ℕ} {path : Path} → IsPathIn p g k path → IsPathIn p path.g k path
path-own {p} {k = k} {path = path} is = subst (λ g. IsPathIn p g k path) (sym is.table) is
