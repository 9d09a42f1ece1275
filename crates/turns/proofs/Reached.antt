-- Who reaches for an instrument holds it: so its log is whole, and no one else reaches for it.
use Rattle.std.proofs.Common.{inl, inr, refl}
use Rattle.legal_steps.specs.Legal.{next_command}
use Rattle.legal_steps.specs.Fitting.{Fits}
use Rattle.turns.specs.History.{state_after}
use Rattle.turns.specs.Locality.{EntryReadsAlike, HoldsWhatItReaches, KeepsReachedLog, HasOneReaching}
use Rattle.turns.proofs.Histories.{history_fits, history_exclusive}
use Rattle.turns.proofs.Holding.{ready_holds, reaching_holds, log_kept, next_entry_same}

pub holds_what_it_reaches : HoldsWhatItReaches
holds_what_it_reaches plan h j legal (inl may) = ready_holds plan (state_after plan h) j may
holds_what_it_reaches plan h j legal (inr may) =
    reaching_holds plan (state_after plan h) j (next_command plan (state_after plan h) j).0
    (history_fits plan h legal) (record { job = may.0; reaching = may.1; next = refl })

pub keeps_reached_log : KeepsReachedLog
keeps_reached_log plan h more j i is_plan legal none reaching = log_kept plan is_plan j i h more legal none reaching

pub has_one_reaching : HasOneReaching
has_one_reaching plan h j k i is_plan legal mine other =
    let fit : Fits plan (state_after plan h) = history_fits plan h legal in
    history_exclusive plan h is_plan legal j k i (reaching_holds plan (state_after plan h) j i fit mine)
    (reaching_holds plan (state_after plan h) k i fit other)

pub entry_reads_alike : EntryReadsAlike
entry_reads_alike plan s t j own logs = next_entry_same plan s t j own logs
