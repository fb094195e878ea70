-- Slots and paths as code keeps them, with where their words lie.
use Rattle.std.specs.Prelude.{◌≡◌, ℕ, ◌-◌, ◌<◌}
use Rattle.nb_core.specs.Plans.{IsPlan, Plan, base_of, generations_of, size_of, value_place}
use Rattle.nb_core.specs.Tables.{IsSlot, path_slot}
use Rattle.nb_core.specs.declared.slot_paths.Path.{Path}
use Rattle.nb_core.specs.declared.slot_paths.Slot.{Slot}

-- the shape has this slot, and its value word lies there
pub record IsPlaced (p : Plan) (at : Slot) : Type 0 where
  pub slot : IsSlot p at.g at.i
  pub value : at.value ≡ value_place p at.g at.i

-- the slot at distance d on the path of a key in table g
abbrev pub slot_on : Plan → (g k d : ℕ) → Slot
slot_on p g k d = record {
  g = g;
  i = path_slot p g k d;
  value = value_place p g (path_slot p g k d);
}

-- it is that slot, and the shape has it
pub record IsOnPathAt (p : Plan) (g k d : ℕ) (at : Slot) : Type 0 where
  pub is : at ≡ slot_on p g k d
  pub placed : IsPlaced p at

-- it is the path of a key in table g
pub record IsPathIn (p : Plan) (g k : ℕ) (path : Path) : Type 0 where
  pub plan : IsPlan p
  pub within : g < generations_of p
  pub table : path.g ≡ g
  pub key : path.key ≡ k
  pub last : path.last ≡ size_of p g - 1
  pub base : path.base ≡ base_of p g
