-- those so far, and what is left
use Rattle.std.proofs.Common.{◌≡◌, ◌+◌, ◌≤◌, ◌++◌, length}
use Rattle.bstr.specs.Text.{lines_of}
use Rattle.bench_texts.specs.declared.form.Place.TheVariants.{Head}
use Rattle.bench_texts.specs.Texts.{users_from}
use Rattle.bench_texts.proofs.user_jobs.users.Given as goal

abbrev pub invariant-loop-line : goal.invariant-loop-line
invariant-loop-line g l =
    (users_from Head 0 (lines_of l.fn.text) ≡ l.all.items ++ users_from l.place l.jobs l.line-iterator)
    × (l.jobs + length l.line-iterator ≤ length (lines_of l.fn.text))
