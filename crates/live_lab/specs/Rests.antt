-- For readers: doing all that can be done without a word from an owner.
use Rattle.std.specs.Prelude.{◌≡◌, ℕ, List, ◌++◌}
use Rattle.legal_steps.specs.declared.event.Event.{Event}
use Rattle.legal_steps.specs.declared.phase.Drinking.TheVariants.{Thirsty}
use Rattle.legal_steps.specs.declared.phase.Dining.TheVariants.{Eating}
use Rattle.legal_steps.specs.State.{dining, drinking}
use Rattle.legal_steps.specs.Legal.{IsJob}
use Rattle.interleaving.specs.World.{WorldView, LeadsTo}
use Rattle.reasons.specs.Quiet.{Waited, IsQuietFor}
use Rattle.reasons.specs.Reasons.{LeadsToHolder}
use Rattle.reasons.specs.Deeds.{AreBetween}
use Rattle.settling.specs.Left.{HasNothingToDo}
use Rattle.live_lab.specs.Sets.{events_of_jobs}

-- No job has anything to do of itself, and the state is quiet, whoever waits. So nobody is at its meal who isn't thirsty, and from each job that is
-- thirsty a chain of jobs leads to one that holds, each of which keeps a bottle that the one before it lacks
pub record IsAtRest (w : WorldView) : Type 0 where
  pub all_done : (j : ℕ) → IsJob w.plan j → HasNothingToDo w.plan w.state j
  pub quiet : (waited : Waited) → IsQuietFor w.plan w.state waited
  pub nobody_dawdles : (j : ℕ) → IsJob w.plan j → dining w.state j ≡ Eating → drinking w.state j ≡ Thirsty
  pub reasons : (j : ℕ) → IsJob w.plan j → drinking w.state j ≡ Thirsty → (chain : List ℕ) × LeadsToHolder w.plan w.state j chain

-- all was done that was due without a word from an owner: these legal events, none of which is an owner's
pub record ComesToRest (old : WorldView) (events : List Event) (new : WorldView) : Type 0 where
  pub leads : LeadsTo old events new
  pub between : AreBetween events
  pub at_rest : IsAtRest new

-- each job of the set did so, in ascending order, and then all was done that this made due
pub record DoAndRest (event : ℕ → Event) (set : ℕ) (old : WorldView) (events : List Event) (new : WorldView) : Type 0 where
  pub mid : WorldView
  pub later : List Event
  pub each : LeadsTo old (events_of_jobs event old.plan set) mid
  pub rests : ComesToRest mid later new
  pub events_are : events ≡ events_of_jobs event old.plan set ++ later
