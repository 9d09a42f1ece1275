-- For readers: a plan with further sessions at the end of one job's, and what stays as it was.
use Rattle.std.specs.Prelude.{◌≡◌, ◌≢◌, ◌↔◌, ℕ, List, ◌++◌, length}
use Rattle.lab_plan.specs.LabPlan.{LabPlan, SessionPlan, sessions, edges, bottles}
use Rattle.legal_steps.specs.declared.event.Event.{Event}
use Rattle.legal_steps.specs.declared.event.Event.TheVariants.{Thirst, Retire}
use Rattle.legal_steps.specs.declared.phase.Drinking.TheVariants.{Retired}
use Rattle.legal_steps.specs.State.{State, drinking}
use Rattle.legal_steps.specs.Fitting.{Fits}
use Rattle.legal_steps.specs.Opening.{IsOpening, the_opening}
use Rattle.legal_steps.specs.Precedence.{IsAcyclic}
use Rattle.legal_steps.specs.Legal.{May}
use Rattle.legal_steps.specs.Run.{Runs}

-- The second plan has further sessions of job j, behind those that it has in the first; all other sessions, the numbers of jobs and instruments,
-- the edges and their bottles are the same
pub record IsLonger (plan plan' : LabPlan) (j : ℕ) : Type 0 where
  pub jobs_same : length plan'.jobs ≡ length plan.jobs
  pub instruments_same : length plan'.instruments ≡ length plan.instruments
  pub edges_same : edges plan' ≡ edges plan
  pub bottles_same : (e : ℕ) → bottles plan' e ≡ bottles plan e
  pub others_same : (k : ℕ) → k ≢ j → sessions plan' k ≡ sessions plan k
  pub further : List SessionPlan
  pub own : sessions plan' j ≡ sessions plan j ++ further

-- what holds whenever a plan is longer
abbrev pub ForLonger : (LabPlan → LabPlan → ℕ → Type 0) → Type 0
ForLonger P = (plan plan' : LabPlan) (j : ℕ) → IsLonger plan plan' j → P plan plan' j

-- a list of events that leads from one state to another, in which the job hasn't retired, does so by the longer plan too
abbrev pub StaysLegal : Type 0
StaysLegal = ForLonger (λ plan plan' j. (s s' : State) (events : List Event)
    → Fits plan s → Runs plan s events s' → drinking s' j ≢ Retired → Runs plan' s events s')

-- the event asks whether the job has a session left: it begins one, or it retires
abbrev pub AsksWhatIsLeft : ℕ → Event → Type 0
AsksWhatIsLeft j (Thirst k) = k ≡ j
AsksWhatIsLeft j (Retire k) = k ≡ j
AsksWhatIsLeft j _ = ⊥

-- every other event is legal by the longer plan just where it is by the plan
abbrev pub IsAsLegal : Type 0
IsAsLegal = ForLonger (λ plan plan' j. (s : State) (event : Event) → Fits plan s → ¬ AsksWhatIsLeft j event → May plan' s event ↔ May plan s event)

-- a state that fits the plan fits the longer one
abbrev pub StillFits : Type 0
StillFits = ForLonger (λ plan plan' j. (s : State) → Fits plan s → Fits plan' s)

-- an opening state is one of the longer plan, and precedence has no cycle in it if it had none
abbrev pub StaysAnOpening : Type 0
StaysAnOpening = ForLonger (λ plan plan' j. (s : State) → IsOpening plan s → IsOpening plan' s)

abbrev pub StaysAcyclic : Type 0
StaysAcyclic = ForLonger (λ plan plan' j. (s : State) → IsAcyclic plan s → IsAcyclic plan' s)

-- and the initial state is the same
abbrev pub OpensTheSame : Type 0
OpensTheSame = ForLonger (λ plan plan' j. the_opening plan' ≡ the_opening plan)
