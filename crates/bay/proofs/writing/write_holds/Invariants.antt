use Rattle.std.proofs.Common.{◌≡◌, length}
use Rattle.bay.specs.Pages.{owed_hold, pages, WritesTo}
use Rattle.bay.specs.Ended.{AreInLog}
use Rattle.bay.proofs.writing.write_holds.Given as goal

abbrev pub invariant-loop-place : goal.invariant-loop-place
invariant-loop-place l = record {
  writes : WritesTo owed_hold l.place (pages l.fn.book l.fn.log) (pages l.book l.log);
  logged : AreInLog l.book l.log;
  many : length l.book.asks ≡ length l.fn.book.asks;
}
