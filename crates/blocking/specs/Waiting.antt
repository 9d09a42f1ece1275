-- For readers: what a job waits for.
use Rattle.std.specs.Prelude.{ℕ, Bool, true, false, ◌&&◌}
use Rattle.lab_plan.specs.LabPlan.{LabPlan, session_names}
use Rattle.legal_steps.specs.declared.end.End.{End}
use Rattle.legal_steps.specs.declared.end.End.TheVariants.{Lower, Higher}
use Rattle.legal_steps.specs.declared.phase.JobState.{JobState}
use Rattle.legal_steps.specs.State.{State, edge, phase, end_of, bottle_end}
use Rattle.legal_steps.specs.Legal.{instrument_of}
use Rattle.turns.specs.Patience.{is_waiting}
use Rattle.blocking.specs.declared.places.Place.{Place}

-- a job in this phase is thirsty, and its session names the instrument
abbrev pub waits_for : LabPlan → ℕ → JobState → ℕ → Bool
waits_for plan j phase i = is_waiting phase.drinking && session_names plan j phase.session i

-- one end is the other job's
abbrev pub is_across : End → End → Bool
is_across Lower Higher = true
is_across Higher Lower = true
is_across _ _ = false

-- by this state of what it knows, the job of the place waits there: it is thirsty, needs the instrument of the bottle, and the bottle is at the other end
abbrev pub waits_at : LabPlan → State → Place → Bool
waits_at plan s x =
    is_across (bottle_end (edge s x.edge).bottles x.bottle) (end_of plan x.job x.edge)
    && waits_for plan x.job (phase s x.job) (instrument_of plan x.edge x.bottle)
