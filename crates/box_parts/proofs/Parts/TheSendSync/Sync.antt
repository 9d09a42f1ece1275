use denote.RattleType.{RattleType}
use denote.Param.Send.{IsSend, IsSync, Frees, part_keyless}
use Rattle.core.specs.declared.alloc.Allocator.{Ghosts}
use Rattle.box_parts.specs.contracts.Parts.{the_row}
use Rattle.box_parts.proofs.Crosses.{parts_send}

pub sync : (T A : RattleType) (g : Ghosts A.Denot) → IsSend T → IsSend A → Frees g g.dealloc_token → IsSync (the_row T A g)
sync T A g s sa f = record { shared = λ d b o κ q. part_keyless (the_row T A g) (parts_send T A g s sa f) q d b o }
