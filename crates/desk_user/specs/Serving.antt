-- For readers: what an owner does who serves its neighbours.
use Rattle.std.specs.Prelude.{◌≡◌, ◌⊎◌, ℕ, ◌+◌, List, [], ◌∷◌, map}
use Rattle.lab_plan.specs.LabPlan.{edges_of}
use Rattle.legal_steps.specs.declared.event.Event.{Event}
use Rattle.legal_steps.specs.declared.event.Event.TheVariants.{Leave, Sit}
use Rattle.legal_steps.specs.Legal.{May}
use Rattle.edge_rule.specs.DeskView.{DeskView, known}
use Rattle.turns.specs.Turn.{Visit, is_done, is_lost, count, once}
use Rattle.session_layer.specs.declared.turning.Turned.{Turned}
use Rattle.session_layer.specs.Turn.{VisitsAll, DoesAll, Says}

-- the meal ends; or else it starts; or neither is legal
abbrev pub IsMealDue : DeskView → List Event → Type 0
IsMealDue d events =
    (May d.plan (known d) (Leave d.job) × (events ≡ Leave d.job ∷ []))
    ⊎ ((May d.plan (known d) (Leave d.job) → ⊥) × May d.plan (known d) (Sit d.job) × (events ≡ Sit d.job ∷ []))
    ⊎ ((May d.plan (known d) (Leave d.job) → ⊥) × (May d.plan (known d) (Sit d.job) → ⊥) × (events ≡ []))

-- the meal was ended or started, if that was due
pub record IsMeal (d : DeskView) (n : ℕ) (e : DeskView) : Type 0 where
  pub events : List Event
  pub due : IsMealDue d events
  pub does : DoesAll d events e
  pub says : n ≡ once events

-- Each edge of the job was visited, in ascending order, and then the meal was ended or started, if that was due
pub record Served (d : DeskView) (r : Turned) (e : DeskView) : Type 0 where
  pub visits : List Visit
  pub edges : map (λ (v : Visit). v.edge) visits ≡ edges_of d.plan d.job
  pub visited : DeskView
  pub all : VisitsAll d visits visited
  pub acts : List Event
  pub due : IsMealDue visited acts
  pub does : DoesAll visited acts e
  pub says : Says r (count is_done visits + once acts) (count is_lost visits)
