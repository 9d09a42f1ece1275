-- those so far are skipped
use Rattle.std.proofs.Common.{◌≡◌}
use Rattle.bstr.specs.Text.{lines_of}
use Rattle.bench_texts.specs.Texts.{begin_with_header}
use Rattle.bench_texts.proofs.texts.is_for_bench.Given as goal

abbrev pub invariant-loop-line : goal.invariant-loop-line
invariant-loop-line l = begin_with_header (lines_of l.fn.text) ≡ begin_with_header l.line-iterator
