-- What a handle has may go from thread to thread: nothing of it names a thread.
use denote.Struct.Struct.{exits_of}
use denote.Struct.Owning.{shape, fields, to}
use denote.Param.Send.{IsSend, AllSend, owning_send, struct_send, view_send, sendable}
use denote.Param.SendFields.{declared_send, variants_send, as_row_send}
use denote.Builtin.{u8}
use denote.Hole.{as_row}
use Rattle.std_alloc.proofs.SendSync as any
use Rattle.std_alloc.specs.contracts.vec.Vec as Vec
use Rattle.std.proofs.Crossing as heap
use Rattle.std_heap.specs.contracts.Global as Heap
use Rattle.std_heap.specs.contracts.GlobalAllocator.TheImpl.{ghosts}
use Rattle.std_alloc.proofs.SendSync.{quiet}
use Rattle.bay_log.specs.contracts.past.Past as Past
use Rattle.bay_log.specs.contracts.log.Log as Log
use Rattle.bay_log.specs.contracts.log.Log.TheInside as InLog
use Rattle.bay.proofs.room.Room.TheSendSync as rooms
use Rattle.bay.specs.contracts.bay.Bay as Bay
use Rattle.bay.specs.contracts.bay.Bay.TheInside as InBay
use Rattle.bay_c.specs.contracts.inside.Inside as Inside

-- lines that contracts alone see own nothing
past_send : IsSend Past.the_row
past_send = let O = Past.the_type in let all : AllSend (fields O) = tt in
    owning_send O all (λ d. tt) (λ k. quiet (to O) (exits_of k (fields O)) ((struct_send (shape O) all).leaving k))

text_send : IsSend (as_row (Vec.the_field u8 Heap.the_row ghosts))
text_send = as_row_send (Vec.the_field u8 Heap.the_row ghosts) (any.Vec-send u8 Heap.the_row ghosts (search sendable) heap.send heap.frees)

log_send : IsSend Log.the_row
log_send = view_send _ _ _ _ _ (declared_send InLog.the_type (text_send, (search sendable, (search sendable, (search sendable, (search sendable, (past_send, tt)))))))

bay_send : IsSend Bay.the_row
bay_send = view_send _ _ _ _ _ (declared_send InBay.the_type (rooms.the_send, (log_send, tt)))

pub inside_send : IsSend Inside.the_row
inside_send = variants_send Inside.enum ((bay_send, tt), tt)
