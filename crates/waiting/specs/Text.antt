-- For readers: what is written of the waits of a run by rounds, for people and for scripts.
use Rattle.std.specs.Prelude.{ℕ, ◌+◌, ◌-◌, zero, suc, ◌==◌, Bool, List, [], ◌∷◌, ◌++◌, codes, decimal, length, Option, None, Some, if◌then◌else◌}
use Rattle.std.specs.List.{flat_map, range_with_len, sum_by}
use Rattle.lab_plan.specs.LabPlan.{LabPlan}
use Rattle.lab_plan.specs.Texts.{job_name}
use Rattle.waiting.specs.declared.session.Session.{Session}
use Rattle.waiting.specs.declared.waits.Longest.{Longest}
use Rattle.waiting.specs.LongestWait.{waited, longest_of, longest_after, no_wait}
use Rattle.waiting.specs.Waits.{RunView, job_of}

-- `rounds R finished` or `rounds R unfinished`
abbrev pub ending : Bool → List ℕ
ending retired = if retired then codes " finished\n" else codes " unfinished\n"

unfoldable pub rounds_line : RunView → List ℕ
rounds_line run = codes "rounds " ++ decimal run.number ++ ending run.retired

-- ---- sessions

abbrev pub done_text : Option ℕ → List ℕ
done_text (Some c) = codes " done " ++ decimal c
done_text None = []

-- what became of a session that was thirsty in this round
abbrev pub outcome_text : ℕ → Option ℕ → Option ℕ → Option ℕ → List ℕ
outcome_text a (Some b) done given_up = codes " drinks " ++ decimal b ++ done_text done ++ codes " waited " ++ decimal (b - a)
outcome_text a None _ (Some g) = codes " given up " ++ decimal g
outcome_text a None _ None = codes " waits"

-- `session J S thirsty A`, and what became of it
unfoldable pub session_line : List ℕ → ℕ → Session → List ℕ
session_line name n x =
    codes "session " ++ name ++ codes " " ++ decimal n ++ codes " thirsty " ++ decimal x.thirsty
    ++ outcome_text x.thirsty x.drinks x.done x.given_up ++ codes "\n"

-- of a job's sessions, of which the first has this number
abbrev pub session_lines : List ℕ → ℕ → List Session → List ℕ
session_lines name n [] = []
session_lines name n (x ∷ later) = session_line name n x ++ session_lines name (n + 1) later

-- ---- waits

-- `job J waited W longest L`
unfoldable pub job_line : List ℕ → ℕ → List Session → List ℕ
job_line name last sessions =
    codes "job " ++ name ++ codes " waited " ++ decimal (sum_by (waited last) sessions)
    ++ codes " longest " ++ decimal (longest_of last sessions) ++ codes "\n"

-- ---- the longest of all

-- of the first jobs, this many
abbrev pub longest_below : RunView → ℕ → Longest
longest_below run zero = no_wait
longest_below run (suc j) = longest_after run.number j (longest_below run j) 1 (job_of run j).sessions

-- whose it is; nobody's if nobody waited
unfoldable pub holder_text : LabPlan → Longest → List ℕ
holder_text plan x = if x.wait == 0 then codes "\n" else codes " " ++ job_name plan x.job ++ codes " " ++ decimal x.session ++ codes "\n"

-- `longest wait W J S`, or `longest wait 0` if nobody waited
unfoldable pub longest_line : LabPlan → Longest → List ℕ
longest_line plan x = codes "longest wait " ++ decimal x.wait ++ holder_text plan x

-- ---- the chain

abbrev pub chain_name : LabPlan → ℕ → List ℕ
chain_name plan j = codes " " ++ job_name plan j

-- `chain K J1 .. JK`
unfoldable pub chain_line : LabPlan → List ℕ → List ℕ
chain_line plan chain = codes "chain " ++ decimal (length chain) ++ flat_map (chain_name plan) chain ++ codes "\n"

-- ---- the whole

abbrev pub jobs : LabPlan → List ℕ
jobs plan = range_with_len 0 (length plan.jobs)

unfoldable pub sessions_text : LabPlan → RunView → ℕ → List ℕ
sessions_text plan run j = session_lines (job_name plan j) 1 (job_of run j).sessions

unfoldable pub job_text : LabPlan → RunView → ℕ → List ℕ
job_text plan run j = job_line (job_name plan j) run.number (job_of run j).sessions

unfoldable pub waits_text : LabPlan → RunView → List ℕ → List ℕ
waits_text plan run chain =
    rounds_line run ++ flat_map (sessions_text plan run) (jobs plan) ++ flat_map (job_text plan run) (jobs plan)
    ++ longest_line plan (longest_below run (length plan.jobs)) ++ chain_line plan chain
