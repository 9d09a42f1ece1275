use Rattle.std.proofs.Common.{◌≡◌, length}
use Rattle.bay.specs.Cores.{core, IsTied}
use Rattle.bay.specs.Stopping.{StopsTo}
use Rattle.bay.proofs.stopping.end_all_that_wait.Given as goal

abbrev pub invariant-loop-place : goal.invariant-loop-place
invariant-loop-place l = record {
  stops : StopsTo l.now l.place (core l.fn.line l.fn.book) (core l.line l.book);
  tied : IsTied l.classes (core l.line l.book);
  many : length l.book.asks ≡ length l.fn.book.asks;
}
