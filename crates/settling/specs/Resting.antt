-- For readers: all is done that can be done without a word from an owner.
use Rattle.std.specs.Prelude.{◌≡◌, ℕ, List}
use Rattle.std.specs.List.{count_by}
use Rattle.legal_steps.specs.declared.phase.Drinking.TheVariants.{Thirsty}
use Rattle.legal_steps.specs.declared.event.Event.{Event}
use Rattle.legal_steps.specs.declared.phase.Dining.TheVariants.{Eating}
use Rattle.legal_steps.specs.State.{dining, drinking}
use Rattle.legal_steps.specs.Legal.{IsJob}
use Rattle.interleaving.specs.World.{WorldView, LeadsTo}
use Rattle.reasons.specs.Quiet.{Waited, IsQuietFor}
use Rattle.reasons.specs.Reasons.{LeadsToHolder}
use Rattle.reasons.specs.Deeds.{AreBetween, is_deed}
use Rattle.settling.specs.Left.{HasNothingToDo}

-- legal events were done, none of which is an owner's, n of them besides looks
pub record DoesAlone (old : WorldView) (n : ℕ) (new : WorldView) : Type 0 where
  pub events : List Event
  pub leads : LeadsTo old events new
  pub between : AreBetween events
  pub deeds : n ≡ count_by is_deed events

-- and then no job has anything to do of itself, and the state is quiet, whoever waits. So nobody is at its meal who isn't thirsty, and from each job
-- that is thirsty still a chain of jobs leads to one that holds, each of which keeps a bottle that the one before it lacks
pub record Rests (old : WorldView) (n : ℕ) (new : WorldView) : Type 0 where
  pub alone : DoesAlone old n new
  pub all_done : (j : ℕ) → IsJob new.plan j → HasNothingToDo new.plan new.state j
  pub quiet : (waited : Waited) → IsQuietFor new.plan new.state waited
  pub nobody_dawdles : (j : ℕ) → IsJob new.plan j → dining new.state j ≡ Eating → drinking new.state j ≡ Thirsty
  pub reasons : (j : ℕ) → IsJob new.plan j → drinking new.state j ≡ Thirsty → (chain : List ℕ) × LeadsToHolder new.plan new.state j chain
