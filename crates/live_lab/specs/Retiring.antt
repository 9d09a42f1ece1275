-- For readers: which job may not retire yet.
use Rattle.std.specs.Prelude.{◌≡◌, ◌≢◌, ℕ}
use Rattle.legal_steps.specs.declared.phase.Dining.TheVariants.{Hungry}
use Rattle.legal_steps.specs.State.{dining, drinking, session}
use Rattle.legal_steps.specs.Legal.{IsJob}
use Rattle.interleaving.specs.World.{IsReachedWith}
use Rattle.session_layer.specs.declared.turning.Turned.{Turned}
use Rattle.live_lab.specs.declared.stage.Stage.{Stage}
use Rattle.live_lab.specs.declared.stage.Stage.TheVariants.{There, OnTheWay}
use Rattle.live_lab.specs.Labs.{LabView}
use Rattle.live_lab.specs.Stages.{IsStage, GoesToRetire}

-- Either the job owes a meal once all is done that can be done without a word from an owner: it is hungry then, not retired, and nothing of its sessions has
-- changed. Or it owes none, and is retired
pub record OwesOrRetires (job : ℕ) (old : LabView) (stage : Stage) (new : LabView) : Type 0 where
  pub owes : stage ≡ OnTheWay → dining new.world.state job ≡ Hungry
  pub drinking_stays : stage ≡ OnTheWay → drinking new.world.state job ≡ drinking old.world.state job
  pub session_stays : stage ≡ OnTheWay → session new.world.state job ≡ session old.world.state job
  pub retires : dining new.world.state job ≢ Hungry → stage ≡ There

-- so it is with each job that has no session left and isn't retired, if a try is allowed
abbrev pub WhoOwesAMealRetiresLater : Type 0
WhoOwesAMealRetiresLater =
    (most job : ℕ) (old : LabView) (a : Stage × Turned) (new : LabView) → IsReachedWith old.world.plan old.world.state old.world.counts
    → IsJob old.world.plan job → most ≢ 0 → IsStage old.world job OnTheWay → GoesToRetire most job old a new → OwesOrRetires job old a.0 new
