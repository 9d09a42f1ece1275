use denote.Struct.Struct.{exits_of}
use denote.Struct.Owning.{shape, fields, to}
use denote.Param.Send.{IsSend, AllSend, owning_send, struct_send, sendable}
use Rattle.std_alloc.proofs.SendSync.{quiet}
use Rattle.bay_c.specs.contracts.slot.Slot.{the_row, the_type}
use Rattle.bay_c.specs.contracts.inside.Inside as Inside
use Rattle.bay_c.proofs.Crosses.{inside_send}
use Rattle.box_parts.proofs.Crosses.{slot_keyless}

pub send : IsSend the_row
send =
    let all : AllSend (fields the_type) = (search sendable, tt) in
    owning_send the_type all (λ d. slot_keyless Inside.the_row inside_send d.at d.held) (λ k. quiet (to the_type) (exits_of k (fields the_type)) ((struct_send (shape the_type) all).leaving k))
