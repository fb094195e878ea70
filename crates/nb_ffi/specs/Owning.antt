-- What a handle owns: the same as a `Box` of what it stands for, or nothing where it is empty.
use base.Fml.{Fml, ftrue}
use denote.RattleType.{RattleType}
use denote.RawPtr.{Ptr}
use Rattle.std.specs.Prelude.{Option, Some, None}
use Rattle.std.specs.Box.Ownership.{box_owns}
use Rattle.std.specs.Global.{Global}
use Rattle.std_heap.specs.contracts.GlobalAllocator.TheImpl.{ghosts}

-- what a handle at this pointer owns, which stands for a value of this type, or for none
abbrev pub handle_owns : (type : RattleType) → Global → Ptr → Option type.Denot → Fml
handle_owns type alloc ptr None = ftrue
handle_owns type alloc ptr (Some value) = box_owns (ghosts.dealloc_token alloc) type ptr value
