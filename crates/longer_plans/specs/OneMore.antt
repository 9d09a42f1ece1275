-- For readers: a plan with one more session at the end of a job's, of instruments that the job names already.
use Rattle.std.specs.Prelude.{◌≡◌, ℕ, ◌+◌, ◌<◌, length, None}
use Rattle.lab_plan.specs.LabPlan.{LabPlan, SessionPlan, count_on}
use Rattle.lab_plan.specs.Longer.{with_one_more, IsOfItsOwn, more_refusal}
use Rattle.legal_steps.specs.WholeLogs.{room_of}
use Rattle.longer_plans.specs.Longer.{IsLonger}

-- it is a longer one: the same edges, with the same bottles
abbrev pub IsLongerByOne : Type 0
IsLongerByOne = (plan : LabPlan) (j : ℕ) (session : SessionPlan) → j < length plan.jobs → IsOfItsOwn plan j session
    → IsLonger plan (with_one_more plan j session) j

-- and so is the plan with a session that it takes
abbrev pub TakenIsLonger : Type 0
TakenIsLonger = (plan : LabPlan) (j : ℕ) (session : SessionPlan) → j < length plan.jobs → more_refusal plan j session ≡ None
    → IsLonger plan (with_one_more plan j session) j

-- The log of each instrument needs room for the session's commands there besides
abbrev pub NeedsMoreRoom : Type 0
NeedsMoreRoom = (plan : LabPlan) (j : ℕ) (session : SessionPlan) (i : ℕ) → j < length plan.jobs
    → room_of (with_one_more plan j session) i ≡ room_of plan i + count_on i session.commands
