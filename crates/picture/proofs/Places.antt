-- Elements by their numbers, as they lie and as they are spelled.
use Rattle.std.proofs.Common.{◌≡◌, ℕ, ◌<◌, List, [], ◌++◌, None, codes, length, map, slice_index_or, refl, sym, ap, ◌∙◌}
use Rattle.std.proofs.lemmas.List.{get_or-map}
use Rattle.std.proofs.lemmas.Option.{slice_get_read, get_or_from_slice_get}
use Rattle.report_reader.specs.declared.lines.EntryLine.{EntryLine}
use Rattle.report_reader.specs.Line.{EntryText, JobText}
use Rattle.report_reader.specs.Report.{LogText, ReportText}
use Rattle.report_reader.specs.Form.{entry_text}
use Rattle.timeline.specs.declared.span.Span.{Span}
use Rattle.timeline.specs.Spans.{job_number, span_of}
use Rattle.timeline.specs.Timelines.{TimelineView}
use Rattle.picture.specs.Boxes.{in_columns}
use Rattle.picture.specs.Tables.{row_text}
use Rattle.picture.specs.Picture.{no_entry, no_log, entry_of, is_first, is_open, entry_at, entries_text, log_at}

pub nth_spelled : (entries : List EntryLine) (k : ℕ) (d : EntryLine) → k < length entries → slice_index_or (map entry_text entries) k no_entry ≡ entry_text
    (slice_index_or entries k d)
nth_spelled entries k d inside = get_or-map entry_text entries k d no_entry inside

-- an entry without a job line is not drawn
pub nothing_drawn : (jobs : List JobText) (columns : ℕ) (spans : List Span) (entries : List EntryLine) (k : ℕ) (d : EntryLine) → k < length entries
    → job_number jobs (slice_index_or entries k d).job.now ≡ None → entry_at jobs columns spans (map entry_text entries) k ≡ []
unfolding entry_at
nothing_drawn jobs columns spans entries k d inside none =
    let texts = map entry_text entries in
    let e = entry_of texts k in
    let missing : job_number jobs e.job ≡ None = ap (λ (x : EntryText). job_number jobs x.job) (nth_spelled entries k d inside) ∙ none in
    ap (λ o. in_columns columns o (span_of jobs spans e) (is_first texts k) (is_open texts k) e) missing

-- the log with a number
pub the_log : (logs others : List LogText) (i : ℕ) (log : LogText) → logs ≡ others → i < length logs → log ≡ slice_index_or logs i log
    → log ≡ slice_index_or others i no_log
the_log logs others i log same inside is =
    sym (get_or_from_slice_get logs i log no_log (slice_get_read logs (length logs) i log refl inside is)) ∙ ap (λ l. slice_index_or l i no_log) same

-- its row
pub row_whole : (report : ReportText) (view : TimelineView) (i : ℕ) (log : LogText) → log ≡ slice_index_or report.logs i no_log
    → row_text i log.name view.columns ++ entries_text report.jobs view.columns view.spans log.entries ++ codes "</g>\n" ≡ log_at report view i
unfolding log_at
row_whole report view i log is = ap (λ (l : LogText). row_text i l.name view.columns ++ entries_text report.jobs view.columns view.spans l.entries ++ codes "</g>\n") is
