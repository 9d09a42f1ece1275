-- For readers: what the list of moves leaves out.
use Rattle.std.specs.Prelude.{◌≢◌, ◌↔◌, ℕ, ◌^◌}
use Rattle.std.specs.List.{Contains}
use Rattle.lab_plan.specs.LabPlan.{LabPlan}
use Rattle.legal_steps.specs.declared.event.Step.{Step}
use Rattle.legal_steps.specs.declared.event.Step.TheVariants.{Look, AskBottles, GiveBottles, Glance}
use Rattle.legal_steps.specs.State.{State, Has, IsOwn}
use Rattle.legal_steps.specs.Legal.{IsJob, IsBottleSet}
use Rattle.legal_moves.specs.Moves.{all_moves, IsLegalNow}

-- looks at a job's own edges and glances at other jobs are legal in every state
pub record Always (plan : LabPlan) (s : State) : Type 0 where
  pub look : (j e : ℕ) → IsOwn plan j e → IsLegalNow plan s (Look j e)
  pub glance : (j other : ℕ) → IsJob plan j → IsJob plan other → other ≢ j → IsLegalNow plan s (Glance j other)

abbrev pub IsAlwaysLegal : Type 0
IsAlwaysLegal = (plan : LabPlan) (s : State) → Always plan s

-- bottles of an edge of the job may be asked for, and given, together exactly if each may be alone
pub record Alone (plan : LabPlan) (s : State) (j e set : ℕ) : Type 0 where
  pub ask : IsLegalNow plan s (AskBottles j e set) ↔ ((k : ℕ) → Has set k → IsLegalNow plan s (AskBottles j e (2 ^ k)))
  pub give : IsLegalNow plan s (GiveBottles j e set) ↔ ((k : ℕ) → Has set k → IsLegalNow plan s (GiveBottles j e (2 ^ k)))

abbrev pub AreBottlesAlone : Type 0
AreBottlesAlone = (plan : LabPlan) (s : State) (j e set : ℕ) → IsOwn plan j e → IsBottleSet plan e set → Alone plan s j e set

-- the step is a look or a glance, or it is a move, of bottles with each one of them
abbrev pub IsListed : LabPlan → Step → Type 0
IsListed plan (Look j e) = Unit {0}
IsListed plan (Glance j other) = Unit {0}
IsListed plan (AskBottles j e set) = (k : ℕ) → Has set k → Contains (all_moves plan) (AskBottles j e (2 ^ k))
IsListed plan (GiveBottles j e set) = (k : ℕ) → Has set k → Contains (all_moves plan) (GiveBottles j e (2 ^ k))
IsListed plan step = Contains (all_moves plan) step

-- each step that is legal in some state is listed
abbrev pub IsEveryStep : Type 0
IsEveryStep = (plan : LabPlan) (s : State) (step : Step) → IsLegalNow plan s step → IsListed plan step
