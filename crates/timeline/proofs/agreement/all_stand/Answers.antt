use Rattle.std.proofs.Common.{map, arith}
use Rattle.std.proofs.lemmas.List.Elements.{All-map}
use Rattle.report_reader.specs.declared.lines.EntryLine.{EntryLine}
use Rattle.report_reader.specs.Form.{entry_text, job_text}
use Rattle.timeline.specs.Timelines.{Stands}
use Rattle.timeline.proofs.agreement.all_stand.Goals as goal

pub returns : goal.returns
returns c _ =
    All-map (Stands (map job_text c.args.jobs.now) (record { spans = c.args.spans.now; columns = c.args.columns })) entry_text c.args.entries.now
    (λ (k : _) (d : EntryLine) inside. c.loop-entry.invariant k d (omega arith))
