-- Where no way on is left: of a job, of its forks, of its bottles.
use Rattle.std.specs.Prelude.{ℕ, ◌^◌, ◌<◌, length}
use Rattle.lab_plan.specs.LabPlan.{LabPlan, bottles}
use Rattle.legal_steps.specs.declared.event.Event.TheVariants.{AskFork, GiveFork, Soil, AskBottles, GiveBottles, Thirst}
use Rattle.legal_steps.specs.declared.event.Event.TheVariants.{Hunger, Sit, Leave, Drink, Reach, Act, Quit, Retire}
use Rattle.legal_steps.specs.State.{State, IsOwn}
use Rattle.legal_steps.specs.Legal.{IsJob, May}
use Rattle.overtaking.specs.Stuck.{IsUpToDate}

-- the job can't go on by itself
pub record HasNoPhaseWay (plan : LabPlan) (s : State) (j : ℕ) : Type 0 where
  pub no_quit : ¬ May plan s (Quit j)
  pub no_reach : ¬ May plan s (Reach j)
  pub no_act : ¬ May plan s (Act j)
  pub no_drink : ¬ May plan s (Drink j)
  pub no_leave : ¬ May plan s (Leave j)
  pub no_sit : ¬ May plan s (Sit j)
  pub no_thirst : ¬ May plan s (Thirst j)
  pub no_hunger : ¬ May plan s (Hunger j)
  pub no_retire : ¬ May plan s (Retire j)

-- its marks for the edge are up to date, and it can do nothing with the fork
pub record HasNoForkWay (plan : LabPlan) (s : State) (j e : ℕ) : Type 0 where
  pub up_to_date : IsUpToDate plan s j e
  pub no_soil : ¬ May plan s (Soil j e)
  pub no_give : ¬ May plan s (GiveFork j e)
  pub no_ask : ¬ May plan s (AskFork j e)

-- it can do nothing with a bottle
pub record HasNoBottleWayOf (plan : LabPlan) (s : State) (j e k : ℕ) : Type 0 where
  pub no_give : ¬ May plan s (GiveBottles j e (2 ^ k))
  pub no_ask : ¬ May plan s (AskBottles j e (2 ^ k))

abbrev pub HasNoBottleWay : LabPlan → State → ℕ → ℕ → Type 0
HasNoBottleWay plan s j e = (k : ℕ) → k < length (bottles plan e) → HasNoBottleWayOf plan s j e k

-- the same for all jobs, and for both jobs of all edges
abbrev pub HasNoPhaseWays : LabPlan → State → Type 0
HasNoPhaseWays plan s = (j : ℕ) → IsJob plan j → HasNoPhaseWay plan s j

abbrev pub HasNoForkWays : LabPlan → State → Type 0
HasNoForkWays plan s = (j e : ℕ) → IsOwn plan j e → HasNoForkWay plan s j e

abbrev pub HasNoBottleWays : LabPlan → State → Type 0
HasNoBottleWays plan s = (j e : ℕ) → IsOwn plan j e → HasNoBottleWay plan s j e
