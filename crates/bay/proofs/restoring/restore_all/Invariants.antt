use Rattle.std.proofs.Common.{◌≤◌, ◌-◌}
use Rattle.bay.specs.Restoring.{AreAlone, AreLow, AreRestored}
use Rattle.bay.proofs.Restored.{AreDoneBelow}
use Rattle.bay.proofs.restoring.restore_all.Given as goal

abbrev pub invariant-loop-place : goal.invariant-loop-place
invariant-loop-place l = record {
  alone : AreAlone l.classes l.book;
  each : AreRestored l.lines l.moment l.fn.book.durable l.book;
  done : AreDoneBelow l.lines l.next l.book;
  low : AreLow l.next l.book.asks;
  numbers : l.fn.book.next ≤ l.book.next;
  tokens : l.fn.book.granted ≤ l.book.granted;
}

abbrev pub decreases-loop-place : goal.decreases-loop-place
decreases-loop-place l = 18446744073709551616 - l.next
