-- For readers: causes in words.
use Rattle.std.specs.Prelude.{ℕ, ◌<◌, List, [], ◌++◌, length, codes}
use Rattle.lab_plan.specs.LabPlan.{LabPlan, edges, bottles}
use Rattle.legal_steps.specs.declared.event.Step.{Step}
use Rattle.legal_steps.specs.declared.event.Step.TheVariants.{Look, AskFork, GiveFork, Soil, AskBottles, GiveBottles, Thirst, Hunger}
use Rattle.legal_steps.specs.declared.event.Step.TheVariants.{Sit, Leave, Drink, Reach, Act, Quit, Retire, Glance, Withdraw}
use Rattle.refused_steps.specs.declared.cause.Cause.{Cause}
use Rattle.refused_steps.specs.declared.cause.Cause.TheVariants.{NotJob, NotOwn, SeesElse, OtherNotJob, Itself, NotThinking, NotHungry, NotEating}
use Rattle.refused_steps.specs.declared.cause.Cause.TheVariants.{Eats, NotTranquil, NotThirsty, Thirsts, NotDrinking, NotReaching, ForkHere}
use Rattle.refused_steps.specs.declared.cause.Cause.TheVariants.{ForkThere, ForkClean, ForkDirty, TokenThere, UnmarkedAway, UnmarkedClaimed}
use Rattle.refused_steps.specs.declared.cause.Cause.TheVariants.{UnmarkedClean, UnmarkedUnseen, NoBottle, NotOfEdge, NotNeeded, BottleHere}
use Rattle.refused_steps.specs.declared.cause.Cause.TheVariants.{BottleThere, BottleTokenThere, KeptInSession, KeptWithFork, MissingAway}
use Rattle.refused_steps.specs.declared.cause.Cause.TheVariants.{MissingUnseen, NoSessionLeft, SessionLeft, NoCommandLeft, CommandLeft, NoPatience}
use Rattle.step_texts.specs.Names.{other_name, bottle_name}

-- whose step it is
abbrev pub job_of : Step → ℕ
job_of (Look j e) = j
job_of (AskFork j e) = j
job_of (GiveFork j e) = j
job_of (Soil j e) = j
job_of (AskBottles j e set) = j
job_of (GiveBottles j e set) = j
job_of (Thirst j) = j
job_of (Hunger j) = j
job_of (Sit j) = j
job_of (Leave j) = j
job_of (Drink j) = j
job_of (Reach j) = j
job_of (Act j) = j
job_of (Quit j) = j
job_of (Retire j) = j
job_of (Glance j other) = j
job_of (Withdraw j) = j

-- the edge of a step with bottles
abbrev pub edge_of : Step → ℕ
edge_of (AskBottles j e set) = e
edge_of (GiveBottles j e set) = e
edge_of _ = 0

-- what a cause says, without where
unfoldable pub reason_text : Cause → List ℕ
reason_text NotJob = codes "there is no such job"
reason_text NotOwn = codes "the two jobs share no instrument"
reason_text SeesElse = codes "something else is there"
reason_text OtherNotJob = codes "there is no such other job"
reason_text Itself = codes "a job glances at another job, not at itself"
reason_text NotThinking = codes "the job is hungry or eats"
reason_text NotHungry = codes "the job is not hungry"
reason_text NotEating = codes "the job does not eat"
reason_text Eats = codes "the job eats; it has to leave first"
reason_text NotTranquil = codes "the job is in a session, or retired"
reason_text NotThirsty = codes "the job is not thirsty"
reason_text Thirsts = codes "the job is thirsty; it has to drink first"
reason_text NotDrinking = codes "the job does not drink, or has reached already"
reason_text NotReaching = codes "the job has not reached"
reason_text ForkHere = codes "the job has the fork"
reason_text ForkThere = codes "the job does not have the fork"
reason_text ForkClean = codes "the fork is clean; it is given once it was soiled in a meal"
reason_text ForkDirty = codes "the fork is dirty already"
reason_text TokenThere = codes "the job does not have the fork's request token"
reason_text (UnmarkedAway e) = codes "the fork is not here; ask for it, and look once it was given"
reason_text (UnmarkedClaimed e) = codes "the fork is here but dirty, and its token is here too; look again after the other has had it"
reason_text (UnmarkedClean e) = codes "the fork is here but clean; soil it"
reason_text (UnmarkedUnseen e) = codes "the fork is here; look"
reason_text NoBottle = codes "the step names no bottle"
reason_text NotOfEdge = codes "the two jobs share no such bottle"
reason_text (NotNeeded k) = codes "the job's session does not need it"
reason_text (BottleHere k) = codes "it is here already"
reason_text (BottleThere k) = codes "it is not here"
reason_text (BottleTokenThere k) = codes "its request token is not here"
reason_text (KeptInSession k) = codes "the job's session holds it; it is given once the session has ended"
reason_text (KeptWithFork k) = codes "the job needs it and has the fork, so it keeps it"
reason_text (MissingAway e k) = codes "it is not here; ask for it, and look once it was given"
reason_text (MissingUnseen e k) = codes "it is here; look"
reason_text NoSessionLeft = codes "the job has no session left"
reason_text SessionLeft = codes "the job has a session left"
reason_text NoCommandLeft = codes "the session has no command left"
reason_text CommandLeft = codes "the session has a command left"
reason_text NoPatience = codes "the session has no patience"

-- the place of a fork or a bottle for which a job has no mark, or of a bottle of its step
abbrev pub fork_place : LabPlan → ℕ → ℕ → List ℕ
fork_place plan j e = codes "no mark for the fork with " ++ other_name plan j e ++ codes ": "

abbrev pub bottle_place : LabPlan → ℕ → ℕ → ℕ → List ℕ
bottle_place plan j e k = codes "no mark for the bottle of " ++ bottle_name plan e k ++ codes " with " ++ other_name plan j e ++ codes ": "

abbrev pub own_bottle_place : LabPlan → ℕ → ℕ → List ℕ
own_bottle_place plan e k = codes "the bottle of " ++ bottle_name plan e k ++ codes ": "

unfoldable pub place_text : LabPlan → Step → Cause → List ℕ
place_text plan step (UnmarkedAway e) = fork_place plan (job_of step) e
place_text plan step (UnmarkedClaimed e) = fork_place plan (job_of step) e
place_text plan step (UnmarkedClean e) = fork_place plan (job_of step) e
place_text plan step (UnmarkedUnseen e) = fork_place plan (job_of step) e
place_text plan step (MissingAway e k) = bottle_place plan (job_of step) e k
place_text plan step (MissingUnseen e k) = bottle_place plan (job_of step) e k
place_text plan step (NotNeeded k) = own_bottle_place plan (edge_of step) k
place_text plan step (BottleHere k) = own_bottle_place plan (edge_of step) k
place_text plan step (BottleThere k) = own_bottle_place plan (edge_of step) k
place_text plan step (BottleTokenThere k) = own_bottle_place plan (edge_of step) k
place_text plan step (KeptInSession k) = own_bottle_place plan (edge_of step) k
place_text plan step (KeptWithFork k) = own_bottle_place plan (edge_of step) k
place_text plan step cause = []

abbrev pub cause_text : LabPlan → Step → Cause → List ℕ
cause_text plan step cause = place_text plan step cause ++ reason_text cause

-- the edges and bottles that the cause names are the plan's
pub record IsBottleOf (plan : LabPlan) (e k : ℕ) : Type 0 where
  pub is_edge : e < length (edges plan)
  pub is_bottle : k < length (bottles plan e)

abbrev pub NamesWithin : LabPlan → Step → Cause → Type 0
NamesWithin plan step (UnmarkedAway e) = e < length (edges plan)
NamesWithin plan step (UnmarkedClaimed e) = e < length (edges plan)
NamesWithin plan step (UnmarkedClean e) = e < length (edges plan)
NamesWithin plan step (UnmarkedUnseen e) = e < length (edges plan)
NamesWithin plan step (MissingAway e k) = IsBottleOf plan e k
NamesWithin plan step (MissingUnseen e k) = IsBottleOf plan e k
NamesWithin plan step (NotNeeded k) = IsBottleOf plan (edge_of step) k
NamesWithin plan step (BottleHere k) = IsBottleOf plan (edge_of step) k
NamesWithin plan step (BottleThere k) = IsBottleOf plan (edge_of step) k
NamesWithin plan step (BottleTokenThere k) = IsBottleOf plan (edge_of step) k
NamesWithin plan step (KeptInSession k) = IsBottleOf plan (edge_of step) k
NamesWithin plan step (KeptWithFork k) = IsBottleOf plan (edge_of step) k
NamesWithin plan step cause = Unit {0}
