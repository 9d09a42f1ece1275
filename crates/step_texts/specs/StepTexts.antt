-- For readers: a step as it is written in a list of steps.
use Rattle.std.specs.Prelude.{ℕ, List, [], ◌++◌, ◌==◌, length, codes, if◌then◌else◌}
use Rattle.std.specs.List.{flat_map, range_with_len}
use Rattle.std.specs.Int.{bit_at}
use Rattle.lab_plan.specs.LabPlan.{LabPlan, bottles}
use Rattle.lab_plan.specs.Texts.{job_name}
use Rattle.legal_steps.specs.declared.event.Step.{Step}
use Rattle.legal_steps.specs.declared.event.Step.TheVariants.{Look, AskFork, GiveFork, Soil, AskBottles, GiveBottles, Thirst, Hunger}
use Rattle.legal_steps.specs.declared.event.Step.TheVariants.{Sit, Leave, Drink, Reach, Act, Quit, Retire, Glance, Withdraw}
use Rattle.step_texts.specs.Names.{other_name, bottle_name}

-- a word and a job
abbrev pub alone_text : LabPlan → List ℕ → ℕ → List ℕ
alone_text plan word j = word ++ codes " " ++ job_name plan j

-- a word, a job, and the job at the other end of an edge
abbrev pub pair_text : LabPlan → List ℕ → ℕ → ℕ → List ℕ
pair_text plan word j e = alone_text plan word j ++ codes " " ++ other_name plan j e

-- each bottle of a set by its instrument
abbrev pub member_text : LabPlan → ℕ → ℕ → ℕ → List ℕ
member_text plan e set k = if bit_at set k == 1 then codes " " ++ bottle_name plan e k else []

abbrev pub set_text : LabPlan → ℕ → ℕ → List ℕ
set_text plan e set = flat_map (member_text plan e set) (range_with_len 0 (length (bottles plan e)))

-- a word, two jobs, and the bottles of a set
abbrev pub bottles_text : LabPlan → List ℕ → ℕ → ℕ → ℕ → List ℕ
bottles_text plan word j e set = pair_text plan word j e ++ set_text plan e set

abbrev pub glance_text : LabPlan → ℕ → ℕ → List ℕ
glance_text plan j other = alone_text plan (codes "glance") j ++ codes " " ++ job_name plan other

unfoldable pub step_text : LabPlan → Step → List ℕ
step_text plan (Look j e) = pair_text plan (codes "look") j e
step_text plan (AskFork j e) = pair_text plan (codes "askfork") j e
step_text plan (GiveFork j e) = pair_text plan (codes "givefork") j e
step_text plan (Soil j e) = pair_text plan (codes "soil") j e
step_text plan (AskBottles j e set) = bottles_text plan (codes "askbottles") j e set
step_text plan (GiveBottles j e set) = bottles_text plan (codes "givebottles") j e set
step_text plan (Thirst j) = alone_text plan (codes "thirst") j
step_text plan (Hunger j) = alone_text plan (codes "hunger") j
step_text plan (Sit j) = alone_text plan (codes "sit") j
step_text plan (Leave j) = alone_text plan (codes "leave") j
step_text plan (Drink j) = alone_text plan (codes "drink") j
step_text plan (Reach j) = alone_text plan (codes "reach") j
step_text plan (Act j) = alone_text plan (codes "act") j
step_text plan (Quit j) = alone_text plan (codes "quit") j
step_text plan (Retire j) = alone_text plan (codes "retire") j
step_text plan (Glance j other) = glance_text plan j other
step_text plan (Withdraw j) = alone_text plan (codes "withdraw") j
