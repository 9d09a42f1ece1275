-- What a handle has may go from thread to thread: nothing of it names a thread.
use denote.Ref.{NamedLft}
use denote.RattleType.{RattleType}
use denote.Struct.Struct.{exits_of}
use denote.Struct.Owning.{shape, fields, to}
use denote.Param.Send.{IsSend, AllSend, owning_send, struct_send, view_send}
use denote.Param.SendFields.{declared_send, variants_send, as_row_send}
use Rattle.std_alloc.proofs.SendSync.{quiet}
use Rattle.std_alloc.proofs.SendSync as any
use Rattle.std_alloc.specs.contracts.vec.Vec as Vec
use Rattle.std.proofs.Crossing as heap
use Rattle.std_heap.specs.contracts.Global as Heap
use Rattle.std_heap.specs.contracts.GlobalAllocator.TheImpl.{ghosts}
use Rattle.core.proofs.snapshot.Sent.{snapshot_send}
use Rattle.legal_steps.specs.contracts.past.Past as Past
use Rattle.interleaving.specs.contracts.tables.Tables as Tables
use Rattle.interleaving.specs.contracts.world.World as World
use Rattle.interleaving.specs.contracts.world.World.TheInside as InWorld
use Rattle.interleaving.proofs.tables.Tables.TheSendSync as tables
use Rattle.interleaving.proofs.counts.JobCounts.TheSendSync as tallies
use Rattle.interleaving.proofs.tape.Tape.TheSendSync as tapes
use Rattle.live_lab.specs.contracts.lab.Lab as Lab
use Rattle.live_lab.specs.contracts.lab.Lab.TheInside as InLab
use Rattle.live_lab.specs.contracts.clock.Clock as Clock
use Rattle.live_lab.proofs.clock.Clock.TheSendSync as clocks
use Rattle.settling.proofs.due.Due.TheSendSync as dues
use Rattle.late_thirst.proofs.line.Line.TheSendSync as lines
use Rattle.live_lab.proofs.print.Printed.TheSendSync as printed
use Rattle.bench_calls.specs.contracts.inside.Inside as Inside

-- events that contracts alone see own nothing
past_send : IsSend Past.the_row
past_send = let O = Past.the_type in let all : AllSend (fields O) = tt in
    owning_send O all (λ d. tt) (λ k. quiet (to O) (exits_of k (fields O)) ((struct_send (shape O) all).leaving k))

world_send : (κ : NamedLft) → IsSend (World.the_row κ Heap.the_row ghosts)
world_send κ = let H : RattleType = Heap.the_row in view_send _ _ _ _ _ (declared_send (InWorld.the_type κ H ghosts) (
  tables.the_send κ H ghosts heap.send heap.sync heap.frees,
  (
    tallies.the_send H ghosts heap.send heap.frees,
    (
      tapes.the_send H ghosts heap.send heap.frees,
      (snapshot_send (Tables.the_row κ H ghosts), (past_send, tt)),
    ),
  ),
))

clocks_send : IsSend (Vec.the_row Clock.the_row Heap.the_row ghosts)
clocks_send = any.Vec-send Clock.the_row Heap.the_row ghosts clocks.the_send heap.send heap.frees

lab_send : IsSend Lab.the_row
lab_send = view_send _ _ _ _ _ (declared_send InLab.the_type
    (world_send _, (as_row_send (Vec.the_field Clock.the_row Heap.the_row ghosts) clocks_send, (dues.the_send Heap.the_row ghosts heap.send heap.frees, (lines.the_send, tt)))))

pub inside_send : IsSend Inside.the_row
inside_send = variants_send Inside.enum ((lab_send, tt), ((printed.the_send, tt), tt))
