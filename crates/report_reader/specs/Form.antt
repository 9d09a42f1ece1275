-- A line, without where its names lie in memory.
use Rattle.std.specs.Prelude.{ℕ, List}
use Rattle.std.specs.Borrow.{Bor}
use Rattle.report_reader.specs.declared.lines.EntryLine.{EntryLine}
use Rattle.report_reader.specs.declared.lines.JobLine.{JobLine}
use Rattle.report_reader.specs.declared.lines.Form.{Form}
use Rattle.report_reader.specs.declared.lines.Form.TheVariants as forms
use Rattle.report_reader.specs.Line.{Line, Header, Instrument, Entry, Job, Last, EntryText, JobText}

abbrev pub entry_text : EntryLine → EntryText
entry_text e = record { job = e.job.now; session = e.session; place = e.place; length = e.length; verb = e.verb; value = e.value }

abbrev pub job_text : JobLine → JobText
job_text j = record { name = j.name.now; done = j.done; sessions = j.sessions; withdrawn = j.withdrawn; meals = j.meals; is_retired = j.is_retired }

abbrev pub head_text : Bor (List ℕ) × ℕ × ℕ → List ℕ × ℕ × ℕ
head_text head = (head.0.now, head.1, head.2)

abbrev pub line_text : Form → Line
line_text (forms.Header version) = Header version
line_text (forms.Instrument name entries) = Instrument name.now entries
line_text (forms.Entry entry) = Entry (entry_text entry)
line_text (forms.Job job) = Job (job_text job)
line_text (forms.Last is_finished) = Last is_finished
