use Rattle.std.proofs.Common.{length}
use Rattle.bay.specs.Cores.{core, IsTied}
use Rattle.bay.specs.Following.{LetsAllIn}
use Rattle.bay.proofs.letting_in.let_in_all.Given as goal

abbrev pub invariant-loop-keeps : goal.invariant-loop-keeps
invariant-loop-keeps l = record {
  all : LetsAllIn l.classes l.now l.keeps (core l.fn.line l.fn.book) (core l.line l.book);
  tied : IsTied l.classes (core l.line l.book);
}

abbrev pub decreases-loop-keeps : goal.decreases-loop-keeps
decreases-loop-keeps l = length l.line.wishes
