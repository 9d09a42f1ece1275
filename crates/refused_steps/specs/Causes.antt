-- For readers: why an event isn't legal. Each part of each guard has a cause of its own, which says that this part is false.
use Rattle.std.specs.Prelude.{◌≡◌, ◌≢◌, ◌⊎◌, ℕ, ◌<◌, ◌≤◌, true, false, length, Option, None, Some}
use Rattle.lab_plan.specs.LabPlan.{LabPlan, bottles, sessions, patience}
use Rattle.legal_steps.specs.declared.phase.Dining.TheVariants.{Thinking, Hungry, Eating}
use Rattle.legal_steps.specs.declared.phase.Drinking.TheVariants.{Tranquil, Thirsty, Drinking as Drinks, Reaching}
use Rattle.legal_steps.specs.declared.event.Event.{Event}
use Rattle.legal_steps.specs.declared.event.Event.TheVariants.{Look, AskFork, GiveFork, Soil, AskBottles, GiveBottles, Thirst, Hunger}
use Rattle.legal_steps.specs.declared.event.Event.TheVariants.{Sit, Leave, Drink, Reach, Act, Quit, Retire, Glance, Withdraw}
use Rattle.legal_steps.specs.State.{State, Has, IsOfEdge, edge, fork, is_dirty, token, phase, dining, drinking}
use Rattle.legal_steps.specs.State.{session, position, fork_mark, bottle_marks, IsOwn, IsDrinking, bottle_end}
use Rattle.legal_steps.specs.Legal.{Here, There, IsJob, Needs, instrument_of, session_commands, May}
use Rattle.refused_steps.specs.declared.cause.Cause.{Cause}
use Rattle.refused_steps.specs.declared.cause.Cause.TheVariants.{NotJob, NotOwn, SeesElse, OtherNotJob, Itself, NotThinking, NotHungry, NotEating}
use Rattle.refused_steps.specs.declared.cause.Cause.TheVariants.{Eats, NotTranquil, NotThirsty, Thirsts, NotDrinking, NotReaching, ForkHere}
use Rattle.refused_steps.specs.declared.cause.Cause.TheVariants.{ForkThere, ForkClean, ForkDirty, TokenThere, UnmarkedAway, UnmarkedClaimed}
use Rattle.refused_steps.specs.declared.cause.Cause.TheVariants.{UnmarkedClean, UnmarkedUnseen, NoBottle, NotOfEdge, NotNeeded, BottleHere}
use Rattle.refused_steps.specs.declared.cause.Cause.TheVariants.{BottleThere, BottleTokenThere, KeptInSession, KeptWithFork, MissingAway}
use Rattle.refused_steps.specs.declared.cause.Cause.TheVariants.{MissingUnseen, NoSessionLeft, SessionLeft, NoCommandLeft, CommandLeft, NoPatience}

-- the job has no mark for the fork of one of its edges
pub record IsUnmarked (plan : LabPlan) (s : State) (j e : ℕ) : Type 0 where
  pub own : IsOwn plan j e
  pub no_mark : fork_mark s j e ≡ false

-- the job needs a bottle of one of its edges, and has no mark for it
pub record IsMissing (plan : LabPlan) (s : State) (j e k : ℕ) : Type 0 where
  pub own : IsOwn plan j e
  pub is_bottle : k < length (bottles plan e)
  pub needed : Needs plan s j (instrument_of plan e k)
  pub no_mark : ¬ Has (bottle_marks s j e) k

-- the bottle is one of the edge, and in the set
pub record IsMember (plan : LabPlan) (e set k : ℕ) : Type 0 where
  pub is_bottle : k < length (bottles plan e)
  pub has : Has set k

-- a bottle is there, or its request token is
abbrev pub IsBottleThere : LabPlan → State → ℕ → ℕ → ℕ → Type 0
IsBottleThere plan s j e k = There plan j e (bottle_end (edge s e).bottles k)

abbrev pub IsTokenThere : LabPlan → State → ℕ → ℕ → ℕ → Type 0
IsTokenThere plan s j e k = There plan j e (bottle_end (edge s e).bottle_tokens k)

-- this part of the event's guard is false in the state
abbrev pub Fails : LabPlan → State → Event → Cause → Type 0
Fails plan s (Look j e seen) NotOwn = ¬ IsOwn plan j e
Fails plan s (Look j e seen) SeesElse = seen ≢ edge s e
Fails plan s (AskFork j e) NotOwn = ¬ IsOwn plan j e
Fails plan s (AskFork j e) NotHungry = dining s j ≢ Hungry
Fails plan s (AskFork j e) ForkHere = Here plan j e (fork s e)
Fails plan s (AskFork j e) TokenThere = There plan j e (token s e)
Fails plan s (GiveFork j e) NotOwn = ¬ IsOwn plan j e
Fails plan s (GiveFork j e) Eats = dining s j ≡ Eating
Fails plan s (GiveFork j e) ForkThere = There plan j e (fork s e)
Fails plan s (GiveFork j e) ForkClean = is_dirty s e ≡ false
Fails plan s (GiveFork j e) TokenThere = There plan j e (token s e)
Fails plan s (Soil j e) NotOwn = ¬ IsOwn plan j e
Fails plan s (Soil j e) NotEating = dining s j ≢ Eating
Fails plan s (Soil j e) ForkThere = There plan j e (fork s e)
Fails plan s (Soil j e) ForkDirty = is_dirty s e ≡ true
Fails plan s (AskBottles j e set) NotOwn = ¬ IsOwn plan j e
Fails plan s (AskBottles j e set) NotThirsty = drinking s j ≢ Thirsty
Fails plan s (AskBottles j e set) NoBottle = set ≡ 0
Fails plan s (AskBottles j e set) NotOfEdge = ¬ IsOfEdge plan e set
Fails plan s (AskBottles j e set) (NotNeeded k) = IsMember plan e set k × ¬ Needs plan s j (instrument_of plan e k)
Fails plan s (AskBottles j e set) (BottleHere k) = IsMember plan e set k × Here plan j e (bottle_end (edge s e).bottles k)
Fails plan s (AskBottles j e set) (BottleTokenThere k) = IsMember plan e set k × IsTokenThere plan s j e k
Fails plan s (GiveBottles j e set) NotOwn = ¬ IsOwn plan j e
Fails plan s (GiveBottles j e set) NoBottle = set ≡ 0
Fails plan s (GiveBottles j e set) NotOfEdge = ¬ IsOfEdge plan e set
Fails plan s (GiveBottles j e set) (BottleThere k) = IsMember plan e set k × IsBottleThere plan s j e k
Fails plan s (GiveBottles j e set) (BottleTokenThere k) = IsMember plan e set k × IsTokenThere plan s j e k
Fails plan s (GiveBottles j e set) (KeptInSession k) = IsMember plan e set k × Needs plan s j (instrument_of plan e k) × IsDrinking (phase s j)
Fails plan s (GiveBottles j e set) (KeptWithFork k) = IsMember plan e set k × Needs plan s j (instrument_of plan e k) × Here plan j e (fork s e)
Fails plan s (Thirst j) NotJob = ¬ IsJob plan j
Fails plan s (Thirst j) NotTranquil = drinking s j ≢ Tranquil
Fails plan s (Thirst j) Eats = dining s j ≡ Eating
Fails plan s (Thirst j) NoSessionLeft = length (sessions plan j) ≤ session s j
Fails plan s (Hunger j) NotJob = ¬ IsJob plan j
Fails plan s (Hunger j) NotThinking = dining s j ≢ Thinking
Fails plan s (Hunger j) NotThirsty = drinking s j ≢ Thirsty
Fails plan s (Sit j) NotJob = ¬ IsJob plan j
Fails plan s (Sit j) NotHungry = dining s j ≢ Hungry
Fails plan s (Sit j) (UnmarkedAway e) = IsUnmarked plan s j e × There plan j e (fork s e)
Fails plan s (Sit j) (UnmarkedClaimed e) = IsUnmarked plan s j e × Here plan j e (fork s e) × (is_dirty s e ≡ true) × Here plan j e (token s e)
Fails plan s (Sit j) (UnmarkedUnseen e) = IsUnmarked plan s j e × Here plan j e (fork s e) × ((is_dirty s e ≡ false) ⊎ There plan j e (token s e))
Fails plan s (Leave j) NotJob = ¬ IsJob plan j
Fails plan s (Leave j) NotEating = dining s j ≢ Eating
Fails plan s (Leave j) Thirsts = drinking s j ≡ Thirsty
Fails plan s (Leave j) (UnmarkedAway e) = IsUnmarked plan s j e × There plan j e (fork s e)
Fails plan s (Leave j) (UnmarkedClean e) = IsUnmarked plan s j e × Here plan j e (fork s e) × (is_dirty s e ≡ false)
Fails plan s (Leave j) (UnmarkedUnseen e) = IsUnmarked plan s j e × Here plan j e (fork s e) × (is_dirty s e ≡ true)
Fails plan s (Drink j) NotJob = ¬ IsJob plan j
Fails plan s (Drink j) NotThirsty = drinking s j ≢ Thirsty
Fails plan s (Drink j) (MissingAway e k) = IsMissing plan s j e k × IsBottleThere plan s j e k
Fails plan s (Drink j) (MissingUnseen e k) = IsMissing plan s j e k × Here plan j e (bottle_end (edge s e).bottles k)
Fails plan s (Reach j) NotJob = ¬ IsJob plan j
Fails plan s (Reach j) NotDrinking = drinking s j ≢ Drinks
Fails plan s (Reach j) NoCommandLeft = length (session_commands plan s j) ≤ position s j
Fails plan s (Act j) NotJob = ¬ IsJob plan j
Fails plan s (Act j) NotReaching = drinking s j ≢ Reaching
Fails plan s (Quit j) NotJob = ¬ IsJob plan j
Fails plan s (Quit j) NotDrinking = drinking s j ≢ Drinks
Fails plan s (Quit j) CommandLeft = position s j < length (session_commands plan s j)
Fails plan s (Retire j) NotJob = ¬ IsJob plan j
Fails plan s (Retire j) NotThinking = dining s j ≢ Thinking
Fails plan s (Retire j) NotTranquil = drinking s j ≢ Tranquil
Fails plan s (Retire j) SessionLeft = session s j < length (sessions plan j)
Fails plan s (Glance j other seen) NotJob = ¬ IsJob plan j
Fails plan s (Glance j other seen) OtherNotJob = ¬ IsJob plan other
Fails plan s (Glance j other seen) Itself = other ≡ j
Fails plan s (Glance j other seen) SeesElse = seen ≢ phase s other
Fails plan s (Withdraw j) NotJob = ¬ IsJob plan j
Fails plan s (Withdraw j) NotThirsty = drinking s j ≢ Thirsty
Fails plan s (Withdraw j) NoPatience = patience plan j (session s j) ≡ None
Fails plan s event cause = ⊥

-- this is no nonempty set of bottles of the edge
abbrev pub FailsAsSet : LabPlan → ℕ → ℕ → Cause → Type 0
FailsAsSet plan e set NoBottle = set ≡ 0
FailsAsSet plan e set NotOfEdge = ¬ IsOfEdge plan e set
FailsAsSet plan e set cause = ⊥

-- no cause if the event is legal, else one that holds
abbrev pub Explains : LabPlan → State → Event → Option Cause → Type 0
Explains plan s event None = May plan s event
Explains plan s event (Some cause) = Fails plan s event cause
