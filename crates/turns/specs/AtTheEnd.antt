-- For readers: what may hold after a history: every job is retired; both ends of every edge know the same of it.
use Rattle.std.specs.Prelude.{◌≡◌, ℕ, ◌<◌, List, length}
use Rattle.lab_plan.specs.LabPlan.{LabPlan, edges, ends}
use Rattle.legal_steps.specs.declared.event.Event.{Event}
use Rattle.legal_steps.specs.declared.phase.Drinking.TheVariants.{Retired}
use Rattle.legal_steps.specs.State.{edge, drinking}
use Rattle.turns.specs.History.{events_by, known_by, state_after}

-- every job is retired
abbrev pub AllRetired : LabPlan → List Event → Type 0
AllRetired plan h = (j : ℕ) → j < length plan.jobs → drinking (state_after plan h) j ≡ Retired

-- both ends of every edge know the same of it: after idle turns, what they saw last
abbrev pub BothKnow : LabPlan → List Event → Type 0
BothKnow plan h = (e : ℕ) → e < length (edges plan)
    → edge (known_by plan (events_by (ends plan e).0 h)) e ≡ edge (known_by plan (events_by (ends plan e).1 h)) e
