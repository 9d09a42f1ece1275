-- what the lines so far stand for, and those that are left
use Rattle.std.proofs.Common.{◌≡◌, ◌++◌}
use Rattle.bstr.specs.Text.{lines_of}
use Rattle.bench_texts.specs.declared.form.Place.TheVariants.{Head}
use Rattle.bench_texts.specs.Texts.{text_from}
use Rattle.bench_texts.proofs.texts.made.Given as goal

abbrev pub invariant-loop-line : goal.invariant-loop-line
invariant-loop-line g l = text_from Head (lines_of l.fn.text) ≡ l.out.items ++ text_from l.place l.line-iterator
