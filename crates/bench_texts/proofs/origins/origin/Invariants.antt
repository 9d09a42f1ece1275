-- what is left
use Rattle.std.proofs.Common.{◌≡◌, ◌+◌, ◌≤◌, length}
use Rattle.bstr.specs.Text.{lines_of}
use Rattle.bench_texts.specs.declared.form.Place.TheVariants.{Head}
use Rattle.bench_texts.specs.Texts.{origin_from}
use Rattle.bench_texts.proofs.origins.origin.Given as goal

abbrev pub invariant-loop-line : goal.invariant-loop-line
invariant-loop-line l =
    (origin_from Head 1 (lines_of l.fn.text) l.fn.number ≡ origin_from l.place l.at l.line-iterator l.left)
    × (l.at + length l.line-iterator ≤ 1 + length (lines_of l.fn.text))
