-- What a handle owns.
use Rattle.std.specs.Prelude.{Option, None, Some}
use base.Fml.{Fml, feq}
use denote.RattleType.{RattleType}
use denote.RawPtr.{Ptr, null_ptr}
use mir.Syntax.{Ty}
use Rattle.std.specs.declared.alloc.Global.{Global}
use Rattle.std.specs.contracts.impls.GlobalAllocator.TheImpl.{ghosts}
use Rattle.std_alloc.specs.Box.Ownership.{box_owns}

-- the one `Global`
abbrev pub heap : Global
heap = record { memory = record { seal = tt } }

-- the right to free a block
abbrev pub right : Ty → Ptr → Fml
right = ghosts.dealloc_token heap

-- the box at a pointer with its value, or nothing, and then the pointer is null
abbrev pub held : (R : RattleType) → Ptr → Option R.Denot → Fml
held R p None = feq Ptr p null_ptr
held R p (Some x) = box_owns right R p x
