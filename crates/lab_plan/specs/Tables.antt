-- What a plan keeps beside its jobs, so that its readers need no search.
use Rattle.std.specs.Prelude.{◌≡◌, ℕ, map, List, slice_index_or, slice_set}
use Rattle.lab_plan.specs.declared.verb.Verb.{Verb}
use Rattle.lab_plan.specs.LabPlan.{LabPlan, edges, common}
use Rattle.lab_plan.specs.SessionTables.{JobTable, AreJobTables, table_with, table_without, no_table}

-- all tables of a plan: its edges, the bottles of each, and the table of each job
pub record PlanTables : Type 0 where
  pub pairs : List (ℕ × ℕ)
  pub bottle_lists : List (List ℕ)
  pub job_tables : List JobTable

pub record AreTablesOf (plan : LabPlan) (tables : PlanTables) : Type 0 where
  pub pairs_are : tables.pairs ≡ edges plan
  pub bottles_are : tables.bottle_lists ≡ map (common plan) (edges plan)
  pub job_tables_are : AreJobTables plan.jobs tables.job_tables

-- with one more session of job j, of instruments that the job names already, and without the last session of job j
abbrev pub tables_with : ℕ → ℕ → List (ℕ × Verb) → PlanTables → PlanTables
tables_with j needs commands tables =
    record tables { job_tables = slice_set tables.job_tables j (table_with needs commands (slice_index_or tables.job_tables j no_table)) }

abbrev pub tables_without : ℕ → ℕ → PlanTables → PlanTables
tables_without j commands tables =
    record tables { job_tables = slice_set tables.job_tables j (table_without commands (slice_index_or tables.job_tables j no_table)) }
