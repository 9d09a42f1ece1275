-- For readers: the same jobs in another order.
use Rattle.std.specs.Prelude.{ℕ, ◌≡◌, ◌≤◌, List, length, map, Option, slice_index}
use Rattle.std.specs.List.Sorted.{IsPermutation}
use Rattle.lab_plan.specs.declared.verb.Verb.{Verb}
use Rattle.lab_plan.specs.LabPlan.{LabPlan, JobPlan, SessionPlan, job_at}
use Rattle.lab_plan.specs.Texts.{instrument_name}
use Rattle.legal_steps.specs.Opening.{the_opening}
use Rattle.arranging.specs.Colours.{ColouringView, IsColouring, jobs_by_number, in_order}
use Rattle.arranging.specs.Chains.{IsChain}

-- a session and a job with their instruments by name, not by number: two plans number their instruments each in its own order
pub record NamedSession : Type 0 where
  pub patience : Option ℕ
  pub commands : List (List ℕ × Verb)

pub record NamedJob : Type 0 where
  pub name : List ℕ
  pub sessions : List NamedSession

abbrev pub named_command : LabPlan → ℕ × Verb → List ℕ × Verb
named_command plan command = (instrument_name plan command.0, command.1)

abbrev pub named_session : LabPlan → SessionPlan → NamedSession
named_session plan session = record { patience = session.patience; commands = map (named_command plan) session.commands }

abbrev pub named_job : LabPlan → JobPlan → NamedJob
named_job plan job = record { name = job.name; sessions = map (named_session plan) job.sessions }

-- the jobs of the second plan are those of the first in this order, each with its name, its sessions, their commands and their patience
abbrev pub HasJobsOf : LabPlan → List ℕ → LabPlan → Type 0
HasJobsOf plan order other = map (named_job other) other.jobs ≡ map (λ j. named_job plan (job_at plan j)) order

-- the colour of each job of an order
abbrev pub colours_along : List ℕ → List ℕ → List ℕ
colours_along colours order = map (slice_index colours) order

-- The second plan is of the same version, and has the jobs of the first in the order of their colours, each once; each keeps its colour,
-- and that is a colouring again
pub record IsArrangement (plan : LabPlan) (made : ColouringView) (arranged : LabPlan) : Type 0 where
  pub version : arranged.version ≡ plan.version
  pub each_once : IsPermutation (jobs_by_number made.colours) (in_order made.colours made.count)
  pub same_jobs : HasJobsOf plan (in_order made.colours made.count) arranged
  pub colouring : IsColouring arranged (colours_along made.colours (in_order made.colours made.count)) made.count

-- in the initial state of the second plan no chain of precedence has more jobs than there are colours
abbrev pub ArrangedChainsAreShort : Type 0
ArrangedChainsAreShort = (plan : LabPlan) (made : ColouringView) (arranged : LabPlan) → IsArrangement plan made arranged
    → (jobs : List ℕ) → IsChain arranged (the_opening arranged) jobs → length jobs ≤ made.count
