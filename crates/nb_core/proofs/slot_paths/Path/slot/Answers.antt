use Rattle.std.proofs.Common.{ℕ, ◌≡◌, ◌∙◌, ◌+◌, ◌*◌, ◌<◌, ◌%◌, ◌^◌, ap, bit_and, mod-lt, subst, sym, arith}
use Rattle.std.proofs.lemmas.Nat.{pow_pos}
use Rattle.nb_core.specs.Plans.{base_of, size_of, value_place}
use Rattle.nb_core.specs.Tables.{IsSlot, path_slot}
use Rattle.nb_core.specs.declared.slot_paths.Slot.{Slot}
use Rattle.nb_core.proofs.Filled.{table-fits}
use Rattle.nb_core.proofs.Masks.{masked}
use Rattle.nb_core.proofs.slot_paths.Path.slot.Goals as goal

-- a slot as its table, its number and the place of its words
abbrev slot-of : (g i value : ℕ) → Slot
slot-of g i value = record { g = g; i = i; value = value }

slot-same :
    {g g' i i' value value' : ℕ} → g ≡ g' → i ≡ i' → value ≡ value'
    → slot-of g i value ≡ slot-of g' i' value'
slot-same {g' = g'} {i = i} {i' = i'} {value = value} same same' same'' =
    ap (λ g. slot-of g i value) same ∙ ap (λ i. slot-of g' i value) same' ∙ ap (slot-of g' i') same''

pub returns : goal.returns
returns c p g k path =
    let distance = c.args.distance in
    let last = c.args.self.now.last in
    let x = (c.get.result + distance) % 2 ^ 64 in
    let is : bit_and x last ≡ path_slot p g k distance =
    ap (bit_and x) path.last
    ∙ masked p g (c.get.result + distance) (table-fits p.exponents g path.plan.sizes path.within)
    ∙ ap (λ n. (n + distance) % size_of p g) (c.get.ensures.number ∙ path.key) in
    let within : bit_and x last < size_of p g =
    subst (λ i. i < size_of p g) (sym is) (mod-lt (k + distance) (pow_pos _)) in
    let value : c.args.self.now.base + 4 + 2 * bit_and x last
    ≡ value_place p c.args.self.now.g (bit_and x last)
    = omega (arith, path.base, ap (base_of p) path.table) in
    record {
      is = slot-same path.table is (value
          ∙ ap (λ f. value_place p f (bit_and x last)) path.table ∙ ap (value_place p g) is);
      placed = record {
        slot = subst (λ f. IsSlot p f (bit_and x last)) (sym path.table) (path.within, within);
        value = value;
      };
    }
