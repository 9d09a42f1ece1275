-- For readers: the laws of reasons: of quiet states, and of what is done before a state is quiet.
use Rattle.std.specs.Prelude.{◌≡◌, ◌≢◌, ℕ, ◌≤◌, true, List}
use Rattle.std.specs.List.{count_by}
use Rattle.lab_plan.specs.LabPlan.{LabPlan}
use Rattle.legal_steps.specs.declared.phase.Drinking.TheVariants.{Thirsty}
use Rattle.legal_steps.specs.declared.event.Event.{Event}
use Rattle.legal_steps.specs.State.{State, IsDrinking, phase, drinking}
use Rattle.legal_steps.specs.Legal.{IsJob}
use Rattle.legal_steps.specs.Run.{IsLegalFrom, after_all}
use Rattle.legal_steps.specs.Opening.{IsOpening}
use Rattle.overtaking.specs.Laws.{FromAcyclic}
use Rattle.reasons.specs.Quiet.{Waited, IsQuietFor}
use Rattle.reasons.specs.Reasons.{IsReason, LeadsToHolder}
use Rattle.reasons.specs.Deeds.{AreBetween, is_deed, most_deeds}

-- the owner of each thirsty job waits for its session
abbrev pub AllOwnersWait : State → Waited → Type 0
AllOwnersWait s waited = (j : ℕ) → drinking s j ≡ Thirsty → waited j ≡ true

-- no job holds its instruments
abbrev pub NobodyHolds : State → Type 0
NobodyHolds s = (j : ℕ) → ¬ IsDrinking (phase s j)

-- nobody waits for nothing: each thirsty job has a reason
abbrev pub EachWaitHasAReason : Type 0
EachWaitHasAReason = FromAcyclic (λ plan s. (waited : Waited) (j : ℕ) → IsQuietFor plan s waited → IsJob plan j → drinking s j ≡ Thirsty
    → (chain : List ℕ) × IsReason plan s waited j chain)

-- if all owners wait, it leads to a job that holds
abbrev pub ChainEndsAtAHolder : Type 0
ChainEndsAtAHolder = FromAcyclic (λ plan s. (waited : Waited) (j : ℕ) → IsQuietFor plan s waited → AllOwnersWait s waited
    → IsJob plan j → drinking s j ≡ Thirsty → (chain : List ℕ) × LeadsToHolder plan s j chain)

-- so nobody is thirsty where nobody holds
abbrev pub NobodyWaitsWhereNobodyHolds : Type 0
NobodyWaitsWhereNobodyHolds = FromAcyclic (λ plan s. (waited : Waited) (j : ℕ) → IsQuietFor plan s waited → AllOwnersWait s waited
    → NobodyHolds s → IsJob plan j → drinking s j ≢ Thirsty)

-- in whatever state a legal list of events leads to from an opening state: while no session begins, goes on, ends or is given up,
-- and no job retires, there are few deeds
abbrev pub HasFewDeeds : Type 0
HasFewDeeds = (plan : LabPlan) (opening : State) (events later : List Event) → IsOpening plan opening → IsLegalFrom plan opening events
    → IsLegalFrom plan (after_all plan opening events) later → AreBetween later → count_by is_deed later ≤ most_deeds plan
