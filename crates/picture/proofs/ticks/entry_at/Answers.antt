use Rattle.std.proofs.Common.{map, sym, ◌∙◌}
use Rattle.report_reader.specs.Form.{job_text}
use Rattle.picture.proofs.Places.{nothing_drawn}
use Rattle.picture.proofs.ticks.entry_at.Goals as goal

pub returns-in_default : goal.returns-in_default
returns-in_default c =
    c.new.ensures ∙ sym (nothing_drawn (map job_text c.args.jobs.now) c.args.columns c.args.spans.now c.args.entries.now c.args.place _ c.requires
    (sym c.job_number.ensures ∙ c.in_default.is))
