use Rattle.std.specs.List.{count_by}
use Rattle.bay.specs.Cores.{core, IsTied}
use Rattle.bay.specs.Following.{HasSteps}
use Rattle.bay.proofs.Steps.{is_open}
use Rattle.bay.proofs.following.follow.Given as goal

abbrev pub invariant-loop-place : goal.invariant-loop-place
invariant-loop-place l = record {
  steps : HasSteps l.classes l.terms l.now (core l.fn.line l.fn.book) (core l.line l.book);
  tied : IsTied l.classes (core l.line l.book);
}

abbrev pub decreases-loop-place : goal.decreases-loop-place
decreases-loop-place l = count_by is_open l.book.asks
