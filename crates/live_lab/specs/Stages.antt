-- For readers: how far a job is on its way to retire, and the call that takes it there.
use Rattle.std.specs.Prelude.{◌≡◌, ◌≢◌, ◌⊎◌, ℕ, ◌+◌, Bool, true, List, [], ◌↔◌}
use Rattle.std.specs.List.{count_by}
use Rattle.legal_steps.specs.declared.event.Event.{Event}
use Rattle.legal_steps.specs.declared.event.Event.TheVariants.{Retire as Retires}
use Rattle.legal_steps.specs.declared.phase.Drinking.TheVariants.{Retired}
use Rattle.legal_steps.specs.State.{drinking}
use Rattle.legal_steps.specs.Legal.{May}
use Rattle.interleaving.specs.World.{WorldView, LeadsTo}
use Rattle.edge_word.specs.Moves.{on}
use Rattle.reasons.specs.Deeds.{is_deed}
use Rattle.session_layer.specs.declared.turning.Turned.{Turned}
use Rattle.session_layer.specs.declared.turning.Turned.TheVariants.{Idle}
use Rattle.session_layer.specs.Turn.{Says}
use Rattle.live_lab.specs.declared.stage.Stage.{Stage}
use Rattle.live_lab.specs.declared.stage.Stage.TheVariants.{There, OnTheWay, Barred}
use Rattle.live_lab.specs.Labs.{LabView}
use Rattle.live_lab.specs.Rests.{ComesToRest}
use Rattle.live_lab.specs.Settles.{IsThrough}

-- how far a job is on its way to retire, for which it needs all its sessions behind it
abbrev pub IsStage : WorldView → ℕ → Stage → Type 0
IsStage w j There = drinking w.state j ≡ Retired
IsStage w j OnTheWay = (drinking w.state j ≡ Retired → ⊥) × IsThrough w.plan w.state j
IsStage w j Barred = (drinking w.state j ≡ Retired → ⊥) × (IsThrough w.plan w.state j → ⊥)

-- all was done that was due of itself, and then the job retired, if that was legal
pub record RestsAndRetires (job : ℕ) (old : LabView) (r : Turned) (new : LabView) : Type 0 where
  pub did : Bool
  pub mid : WorldView
  pub events : List Event
  pub rests : ComesToRest old.world events mid
  pub legal : (did ≡ true) ↔ May mid.plan mid.state (Retires job)
  pub leads : LeadsTo mid (on did (Retires job) []) new.world
  pub clocks : new.clocks ≡ old.clocks
  pub line : new.line ≡ old.line
  pub says : Says r (count_by is_deed events + count_by is_deed (on did (Retires job) [])) 0

-- the job is so far; it was on its way, and did so; or it was there already, or sessions are left, or no try is allowed, and nothing changed
abbrev pub GoesToRetire : ℕ → ℕ → LabView → Stage × Turned → LabView → Type 0
GoesToRetire most job old a new =
    IsStage new.world job a.0
    × ((IsStage old.world job OnTheWay × (most ≢ 0) × RestsAndRetires job old a.1 new)
    ⊎ ((a.0 ≡ OnTheWay → most ≡ 0) × (a.1 ≡ Idle) × (new ≡ old)))
