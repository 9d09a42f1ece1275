-- What a line is, without where it lies in memory.
use Rattle.script_reader.specs.Fields.{fields}
use Rattle.bench_texts.specs.declared.form.Form.{Form}
use Rattle.bench_texts.specs.declared.form.Form.TheVariants as forms
use Rattle.bench_texts.specs.Lines.{BenchLine, Skipped, Job, Uses, Other}

abbrev pub view : Form → BenchLine
view forms.Skipped = Skipped
view forms.Job = Job
view (forms.Uses names) = Uses (fields names.now)
view forms.Other = Other
