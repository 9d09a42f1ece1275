-- For readers: how a command and the names of a plan are written.
use Rattle.std.specs.Prelude.{ℕ, List, [], ◌++◌, codes, decimal, slice_index_or}
use Rattle.lab_plan.specs.declared.verb.Verb.{Verb}
use Rattle.lab_plan.specs.declared.verb.Verb.TheVariants.{Set, Add, Read}
use Rattle.lab_plan.specs.LabPlan.{LabPlan, job_at}

abbrev pub job_name : LabPlan → ℕ → List ℕ
job_name plan j = (job_at plan j).name

abbrev pub instrument_name : LabPlan → ℕ → List ℕ
instrument_name plan i = slice_index_or plan.instruments i []

-- `set n`, `add n` or `read`
abbrev pub verb_text : Verb → List ℕ
verb_text (Set n) = codes "set " ++ decimal n
verb_text (Add n) = codes "add " ++ decimal n
verb_text Read = codes "read"

-- the first line of a script and of a report, by the version of the script
abbrev pub header_line : ℕ → List ℕ
header_line version = codes "lab " ++ decimal version ++ codes "\n"
