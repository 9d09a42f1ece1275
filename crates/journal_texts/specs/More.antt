-- For readers: the text of a session that came while a lab was open. All its lines are comments, so the steps are read as without it.
use Rattle.std.specs.Prelude.{ℕ, Bool, if◌then◌else◌, List, [], ◌∷◌, ◌++◌, map, take, codes}
use Rattle.std.specs.List.{flat_map}
use Rattle.lab_plan.specs.declared.verb.Verb.{Verb}
use Rattle.lab_plan.specs.LabPlan.{LabPlan, SessionPlan, session_at}
use Rattle.lab_plan.specs.Texts.{job_name}
use Rattle.lab_plan.specs.Upgrade.{session_line, command_text}
use Rattle.journal_texts.specs.Texts.{sum_line, summed}

-- a command as a script has it, behind `#+`: so no name of an instrument makes it a line of another kind
abbrev pub more_command : LabPlan → ℕ × Verb → List ℕ
more_command plan command = codes "#+" ++ command_text plan command

-- `#more NAME`, and the lines of the session as a script has them, each behind `#+`
abbrev pub more_lines : LabPlan → ℕ → SessionPlan → List ℕ
more_lines plan j session =
    codes "#more " ++ job_name plan j ++ codes "\n#+" ++ session_line session.patience ++ flat_map (more_command plan) session.commands ++ codes "#+end\n"

-- what is told of session s of job j
abbrev pub more_text : LabPlan → ℕ → ℕ → List ℕ
more_text plan j s = summed (more_lines plan j (session_at plan j s))

-- ---- a text that was cut

-- a line `#steps` and some lines, with their sum or not yet
abbrev pub begun : List ℕ → Bool → List ℕ
begun lines ended = codes "#steps\n" ++ lines ++ (if ended then sum_line lines ++ codes "\n" else [])

-- the lines of a session that came, each with its end, but for the last one, `#+end`
abbrev pub first_lines : LabPlan → ℕ → SessionPlan → List (List ℕ)
first_lines plan j session =
    (codes "#more " ++ job_name plan j ++ codes "\n") ∷ (codes "#+" ++ session_line session.patience) ∷ map (more_command plan) session.commands

-- a line `#steps` and the first n of these
abbrev pub broken : LabPlan → ℕ → SessionPlan → ℕ → List ℕ
broken plan j session n = codes "#steps\n" ++ flat_map (λ (line : List ℕ). line) (take n (first_lines plan j session))
