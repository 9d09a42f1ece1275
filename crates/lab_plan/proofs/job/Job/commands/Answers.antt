use Rattle.std.proofs.Common.{ℕ, ◌+◌, List, length, arith, ap}
use Rattle.lab_plan.specs.declared.verb.Verb.{Verb}
use Rattle.lab_plan.proofs.Cuts.{before_more, before_le, piece_read}
use Rattle.lab_plan.proofs.job.Job.commands.Goals as goal

pub offset_bounds-all_commands-start : goal.offset_bounds-all_commands-start
offset_bounds-all_commands-start g c =
    omega (arith, before_le c.args.self.now.sessions c.args.before, ap (λ (l : List (ℕ × Verb)). length l) c.all_commands.ensures)

pub slice_bounds-result-count : goal.slice_bounds-result-count
slice_bounds-result-count g c = omega (arith, before_more c.args.self.now.sessions c.args.before c.requires)

pub slice_bounds-result-start : goal.slice_bounds-result-start
slice_bounds-result-start g c = omega (arith, before_more c.args.self.now.sessions c.args.before c.requires)

pub slice_bounds-result-end : goal.slice_bounds-result-end
slice_bounds-result-end g c =
    omega (arith, before_le c.args.self.now.sessions (c.args.before + 1), ap (λ (l : List (ℕ × Verb)). length l) c.all_commands.ensures)

pub returns : goal.returns
returns g c =
    piece_read c.args.self.now.sessions c.args.before c.all_commands.result.now c.start.result c.end.result
    c.requires c.all_commands.ensures c.start.ensures c.end.ensures
