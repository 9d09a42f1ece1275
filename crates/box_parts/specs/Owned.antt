-- What a handle owns.
use Rattle.std.specs.Prelude.{ℕ, Option, Some, None}
use base.Fml.{Fml, ftrue}
use denote.RattleType.{RattleType}
use denote.RawPtr.{Ptr}
use Rattle.std.specs.Box.Ownership.{box_owns}
use Rattle.std_heap.specs.contracts.GlobalAllocator.TheImpl.{ghosts}
use mir.Syntax.{Ty}

-- the right to free a block of the heap: every handle of it has the same
abbrev pub heap_token : Ty → Ptr → Fml
heap_token = ghosts.dealloc_token (record { memory = record { seal = tt } })

-- a boxed value that can be freed, or nothing
abbrev pub slot_owns : (R : RattleType) → Ptr → Option R.Denot → Fml
slot_owns R p (Some x) = box_owns heap_token R p x
slot_owns R p None = ftrue

-- how many values there are: 1 or 0
abbrev pub holds : {A : Type 0} → Option A → ℕ
holds (Some x) = 1
holds None = 0
