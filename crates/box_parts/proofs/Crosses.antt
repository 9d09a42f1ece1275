-- The parts of a box, and a pointer that C keeps, may go from thread to thread where the value may.
use mir.Raw.{raw}
use base.Shift.{Keyless}
use denote.Memory.{lone}
use denote.RattleType.{RattleType}
use denote.RawPtr.{Ptr}
use denote.Builtin.{RawPtr}
use denote.Struct.Struct.{exits_of}
use denote.Struct.Owning.{shape, fields, to}
use denote.Param.Send.{IsSend, Frees, owning_send, struct_send, sendable}
use Rattle.std.specs.Prelude.{Option, Some, None}
use Rattle.std.proofs.Crossing as heap
use Rattle.core.specs.declared.alloc.Allocator.{Ghosts}
use Rattle.std_alloc.proofs.SendSync.{quiet, lies}
use Rattle.box_parts.specs.Owned.{slot_owns}
use Rattle.box_parts.specs.contracts.Parts.{the_row, the_type}

pub parts_send : (T A : RattleType) (g : Ghosts A.Denot) → IsSend T → IsSend A → Frees g g.dealloc_token → IsSend (the_row T A g)
parts_send T A g s sa f =
    let O = the_type T A g in let ps : IsSend RawPtr = search sendable in
    owning_send O (ps, (sa, tt)) (λ d. (lies T s d.ptr d.value, f.frees d.alloc (raw (lone T.mir)) d.ptr))
    (λ k. quiet (to O) (exits_of k (fields O)) ((struct_send (shape O) (ps, (sa, tt))).leaving k))

pub slot_keyless : (R : RattleType) → IsSend R → (p : Ptr) (o : Option R.Denot) → Keyless (slot_owns R p o)
slot_keyless R s p (Some x) = (lies R s p x, heap.frees.frees _ (raw (lone R.mir)) p)
slot_keyless R s p None = tt
