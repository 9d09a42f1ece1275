-- Tests of lines, without where their names lie.
use Rattle.std.proofs.Common.{◌≡◌, ◌&&◌, List, [], ◌∷◌, refl, ap}
use Rattle.std.specs.Prelude.{map}
use Rattle.std.specs.List.{list_all}
use Rattle.report_reader.specs.declared.lines.JobLine.{JobLine}
use Rattle.report_reader.specs.Form.{job_text}
use Rattle.report_reader.specs.State.{all_retired}

pub all_texts : (jobs : List JobLine) → all_retired (map job_text jobs) ≡ list_all (λ (job : JobLine). job.is_retired) jobs
all_texts [] = refl
all_texts (job ∷ jobs) = ap (λ b. job.is_retired && b) (all_texts jobs)
