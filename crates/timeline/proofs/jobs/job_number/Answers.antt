use Rattle.std.proofs.Common.{◌∙◌}
use Rattle.std.specs.Str.{bytes_eq}
use Rattle.report_reader.specs.Line.{JobText}
use Rattle.report_reader.specs.Form.{job_text}
use Rattle.timeline.proofs.Spelled.{position_mapped}
use Rattle.timeline.proofs.jobs.job_number.Goals as goal

pub returns : goal.returns
returns c = c.place_of.ensures ∙ position_mapped (λ (job : JobText). bytes_eq job.name c.args.name.now) job_text c.args.jobs.now
