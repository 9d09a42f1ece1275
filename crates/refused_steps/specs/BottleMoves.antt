-- What a job does with bottles of an edge: it asks for them, or gives them.
use Rattle.std.specs.Prelude.{ℕ}
use Rattle.lab_plan.specs.LabPlan.{LabPlan}
use Rattle.legal_steps.specs.declared.event.Event.{Event}
use Rattle.legal_steps.specs.declared.event.Event.TheVariants.{AskBottles, GiveBottles}
use Rattle.legal_steps.specs.State.{State}
use Rattle.legal_steps.specs.Legal.{MayAskBottle, MayGiveBottle}
use Rattle.refused_steps.specs.declared.bottle_moves.BottleMove.{BottleMove}
use Rattle.refused_steps.specs.declared.bottle_moves.BottleMove.TheVariants.{Ask, Give}

-- the event of job j that does this with a set of bottles of edge e
abbrev pub event_of : BottleMove → ℕ → ℕ → ℕ → Event
event_of Ask j e set = AskBottles j e set
event_of Give j e set = GiveBottles j e set

-- job j may do this with bottle k of edge e
abbrev pub MayMove : BottleMove → LabPlan → State → ℕ → ℕ → ℕ → Type 0
MayMove Ask plan s j e k = MayAskBottle plan s j e k
MayMove Give plan s j e k = MayGiveBottle plan s j e k
