use Rattle.std.proofs.Common.{◌≤◌, length, take, vec_capacity}
use Rattle.lab_plan.specs.SessionTables.{AreJobTables}
use Rattle.lab_plan.proofs.session_table.job_tables.Given as goal

abbrev pub invariant-loop-job : goal.invariant-loop-job
invariant-loop-job g l = record {
  tables : AreJobTables (take l.job-index l.jobs) l.tables.items;
  room : length l.jobs ≤ vec_capacity l.tables;
}
