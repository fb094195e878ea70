-- A handle of C as a box: what it owns where it stands for something is what a box owns.
use mathlib.Core.Path.{◌≡◌, sym, subst}
use mathlib.Core.List.{List, [], ◌∷◌}
use Prim.Native.Nat.{ℕ}
use base.Fraction.{full_share}
use base.Fml.{Fml, ftrue, fsep}
use mir.Syntax.{Sym, Ty, impl, ty_struct, ty_ptr, tnil, tcons, dnil}
use mir.Val.{Val}
use denote.Memory.{lone, part_at}
use denote.Param.{param}
use denote.Param.Laws.{Laws}
use denote.RattleType.{RattleType}
use denote.RawPtr.{Ptr, null_ptr}
use denote.Exit.{Last, left, yes}
use denote.Struct.Owning.{shape}
use denote.Struct.Struct.{Struct}
use Rattle.std.specs.Prelude.{Option, Some, None}
use Rattle.std.specs.Global.{Global}
use Rattle.std_alloc.proofs.BoxSteps.Form.{Bx, B, owning}
use Rattle.std_heap.specs.contracts.Global as Heap
use Rattle.std_heap.specs.contracts.GlobalAllocator.TheImpl.{ghosts, dict}
use Rattle.std_heap.proofs.Global.TheLaws as heap
use Rattle.nb_ffi.specs.contracts.parts.Parts as Parts

-- the box of a value of this type
abbrev pub box_of : (type : RattleType) → Laws type → Bx
box_of type laws = record { row = type; laws = laws; al = record { row = Heap.the_row; laws = heap.the_row_laws; g = ghosts; d = dict; drops = impl [] tnil dnil } }

-- a struct of a pointer and an allocator, as a handle and its parts are
abbrev pub pair_of : Sym → Ty
pair_of name = ty_struct name (tcons ty_ptr (tcons (lone Heap.the_row.mir) tnil))

-- what such a struct owns beside what its pointer points to
abbrev pub pair_owns : (type : RattleType) → Laws type → Ptr → Global → List Val → Fml
pair_owns type laws ptr alloc vs = (Struct (shape (owning (box_of type laws)))).own_val (ptr, (alloc, tt)) vs

-- a handle's type and its name, and the type of what it stands for; and what they own
pub record Handle : Type 2 where
  pub row : RattleType
  pub name : Sym
  pub type : RattleType
  pub laws : Laws type
  pub make : Ptr → Global → Option type.Denot → row.Denot
  pub ptr : row.Denot → Ptr
  pub alloc : row.Denot → Global
  pub value : row.Denot → Option type.Denot
  pub is_pair : row.mir ≡ pair_of name ∷ []
  pub is_made : (h : row.Denot) → make (ptr h) (alloc h) (value h) ≡ h
  pub has_value : (p : Ptr) (a : Global) (v : Option type.Denot) → value (make p a v) ≡ v
  pub full_owns : (p : Ptr) (a : Global) (w : type.Denot) (vs : List Val)
      → row.own_val (make p a (Some w)) vs ≡ (B (box_of type laws)).own_val (record { ptr = p; alloc = a; value = w }) vs
  pub empty_owns : (a : Global) (vs : List Val) → row.own_val (make null_ptr a None) vs ≡ fsep (pair_owns type laws null_ptr a vs) ftrue
  pub parts_own : (x : (Parts.the_row type Heap.the_row ghosts).Denot) (vs : List Val)
      → (Parts.the_row type Heap.the_row ghosts).own_val x vs ≡ (B (box_of type laws)).own_val (record { ptr = x.ptr; alloc = x.alloc; value = x.value }) vs
  pub last : (h : row.Denot) → Last (row.exit yes) h
  pub leaves_none : (h : row.Denot) (f : Last (row.exit yes) h) → left (row.exit yes) h f ≡ ftrue
  pub value_lies : (w : type.Denot) (b o : ℕ) → part_at type full_share w b o ≡ part_at (param 0 type) full_share w b o

-- a handle that stands for this owns what a box of it owns
pub opened : (S : Handle) {w : S.type.Denot} (h : S.row.Denot) → S.value h ≡ Some w → (vs : List Val)
    → S.row.own_val h vs ≡ (B (box_of S.type S.laws)).own_val (record { ptr = S.ptr h; alloc = S.alloc h; value = w }) vs
opened S {w} h is vs =
    subst (λ (k : S.row.Denot). S.row.own_val k vs ≡ (B (box_of S.type S.laws)).own_val (record { ptr = S.ptr h; alloc = S.alloc h; value = w }) vs) (S.is_made h)
    (subst (λ (v : Option S.type.Denot). S.row.own_val (S.make (S.ptr h) (S.alloc h) v) vs ≡ (B (box_of S.type S.laws)).own_val (record { ptr = S.ptr h; alloc = S.alloc h; value = w }) vs) (sym is)
    (S.full_owns (S.ptr h) (S.alloc h) w vs))
