use Rattle.std.proofs.Common.{◌≡◌, ◌≤◌, length, take, vec_capacity}
use Rattle.lab_plan.specs.Cuts.{commands_of}
use Rattle.lab_plan.specs.SessionTables.{AreAllNeeds, all_places}
use Rattle.lab_plan.proofs.session_table.JobTable.new.Given as goal

abbrev pub invariant-loop-before : goal.invariant-loop-before
invariant-loop-before g l = record {
  needs : AreAllNeeds (take l.before l.job.sessions) l.needs.items;
  places : l.places.items ≡ all_places (take l.before l.job.sessions);
  room_needs : length l.job.sessions ≤ vec_capacity l.needs;
  room_places : length (commands_of l.job.sessions) ≤ vec_capacity l.places;
}
