-- The form of a line, without where it lies in memory.
use Rattle.script_reader.specs.declared.form.Form.{Form}
use Rattle.script_reader.specs.declared.form.Form.TheVariants as forms
use Rattle.script_reader.specs.declared.form.VerbField.{VerbField}
use Rattle.script_reader.specs.declared.form.VerbField.TheVariants as verbs
use Rattle.script_reader.specs.Line.{Line, Header, Job, Session, PatientSession, Command, End, Steps, Unknown, VerbText, Sets, Adds, Reads}

abbrev pub verb_text : VerbField → VerbText
verb_text (verbs.Set number) = Sets number.now
verb_text (verbs.Add number) = Adds number.now
verb_text verbs.Read = Reads

abbrev pub line_of : Form → Line
line_of (forms.Header version) = Header version
line_of (forms.Job name) = Job name.now
line_of forms.Session = Session
line_of (forms.PatientSession number) = PatientSession number.now
line_of (forms.Command name verb) = Command name.now (verb_text verb)
line_of forms.End = End
line_of forms.Steps = Steps
line_of forms.Unknown = Unknown
