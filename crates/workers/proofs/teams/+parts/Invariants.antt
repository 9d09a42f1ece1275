-- a part has fewer teams
use Rattle.std.proofs.Common.{◌+◌, ◌*◌}
use Rattle.workers.proofs.teams.+parts.Given as goal

abbrev pub decreases-in_teams : goal.decreases-in_teams
decreases-in_teams g l = 4 * l.count

abbrev pub decreases-in_parts : goal.decreases-in_parts
decreases-in_parts g l = 4 * l.others + 3

abbrev pub decreases-in_parts-one : goal.decreases-in_parts-one
decreases-in_parts-one g l = 4 * l.alone + 1

abbrev pub decreases-in_parts-other : goal.decreases-in_parts-other
decreases-in_parts-other g l = 4 * l.others + 1
